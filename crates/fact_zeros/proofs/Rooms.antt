-- A room of 60 bytes that is zero from some place on stays so while words are put in below it. Assumes nothing.
use Prim.Native.Nat.{ℕ, ◌+◌, ◌*◌, ◌/◌, ◌%◌, ◌<◌, ◌≤◌}
use mathlib.Core.Path.{◌≡◌, refl, ◌∙◌}
use mathlib.Core.Bool.{Bool, true, false, cond}
use mathlib.Core.List.{List}
use mathlib.Core.Logic.{inl, inr}
use native.Mathlib.Omega.{arith}
use lib.Dec.{ltb}
use lib.ListN.{length, get_or, set, replicate, length-set, get_or-replicate, get_or-eq_default}
use lib.Seq.{get_or-set_other}
use borrow.Author.Tests.{ltb-true}
use Rattle.base_texts.specs.Texts.{words_of, zeros, with_byte, with_text}
use Rattle.base_texts.proofs.Laws.{zeros_length}
use Rattle.base_answers.specs.Told.{Closing, told}
use Rattle.fact_layout.proofs.Rings.{lt_or_ge}
use Rattle.fact_zeros.specs.Zeros.{Filled}

abbrev pub Zero : ℕ → List ℕ → Type 0
Zero k t = (i : ℕ) → k ≤ i → get_or t i 0 ≡ 0

pub zeros_zero : Zero 0 zeros
unfolding zeros
zeros_zero i h =
    elim (lt_or_ge i 60) [
      | inl l ↦ get_or-replicate 60 i 0 0 l
      | inr g ↦ get_or-eq_default (replicate 60 0) 0 g
    ]

pub zero_on : (k : ℕ) (t : List ℕ) → Zero 0 t → Zero k t
zero_on k t z i h = z i (omega arith)

pub bare : (x : Closing) (i : Bool) → Filled (told x i)
bare x i = record { sixty = zeros_length; beyond = λ j h. zeros_zero j (omega arith) }

byte_zero : (t : List ℕ) (j b k : ℕ) → j < k → Zero k t → Zero k (with_byte t j b)
unfolding with_byte
byte_zero t j b k l z i h = go (ltb j 60)
  where
    go : (c : Bool) → get_or (cond c (set t j b) t) i 0 ≡ 0
    go true = get_or-set_other t j i b 0 (λ e. omega (arith, e, l, h)) ∙ z i h
    go false = z i h

byte_length : (t : List ℕ) (j b : ℕ) → length (with_byte t j b) ≡ length t
unfolding with_byte
byte_length t j b = go (ltb j 60)
  where
    go : (c : Bool) → length (cond c (set t j b) t) ≡ length t
    go true = length-set t j b
    go false = refl

pub text_zero : (t : List ℕ) (size k w : ℕ) → 2 * k < size → Zero size t → Zero size (with_text t size k w)
unfolding with_text
text_zero t size k w l z = go (ltb (2 * k + 1) size) refl
  where
    first : Zero size (with_byte t (2 * k) (w % 256))
    first = byte_zero t (2 * k) (w % 256) size l z

    go : (b : Bool) → ltb (2 * k + 1) size ≡ b → Zero size (cond b (with_byte (with_byte t (2 * k) (w % 256)) (2 * k + 1) (w / 256)) (with_byte t (2 * k) (w % 256)))
    go true e = byte_zero (with_byte t (2 * k) (w % 256)) (2 * k + 1) (w / 256) size (ltb-true (2 * k + 1) size e) first
    go false e = first

pub text_length : (t : List ℕ) (size k w : ℕ) → length (with_text t size k w) ≡ length t
unfolding with_text
text_length t size k w = go (ltb (2 * k + 1) size)
  where
    go : (b : Bool) → length (cond b (with_byte (with_byte t (2 * k) (w % 256)) (2 * k + 1) (w / 256)) (with_byte t (2 * k) (w % 256))) ≡ length t
    go true = byte_length (with_byte t (2 * k) (w % 256)) (2 * k + 1) (w / 256) ∙ byte_length t (2 * k) (w % 256)
    go false = byte_length t (2 * k) (w % 256)

-- word k starts within the text
pub word_in : (k size : ℕ) → ltb k (words_of size) ≡ true → 2 * k < size
word_in k size e =
    let h : k < (size + 1) / 2 = ltb-true k (words_of size) e in
    omega (arith, h)
