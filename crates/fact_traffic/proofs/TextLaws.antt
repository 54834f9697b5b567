-- A text that is written a word at a time is read back a word at a time, byte for byte. Assumes nothing.
use Prim.Native.Nat.{ℕ, ◌+◌, ◌*◌, ◌-◌, ◌/◌, ◌%◌, ◌<◌, ◌≤◌}
use mathlib.Core.Path.{◌≡◌, refl, sym, ap, ap₂, subst, ◌∙◌}
use mathlib.Core.List.{List, ◌++◌}
use mathlib.Core.Logic.{◌⊎◌, inl, inr}
use native.Mathlib.Omega.{arith}
use lib.ListN.{length, get_or, set, replicate, length-append, length-replicate, length-set, get_or-replicate, get_or-append, get_or-eq_default}
use lib.Seq.{get_or-append-add, get_or-set_same, get_or-set_other, ext_get_or}
use borrow.Author.Tests.{lt-ltb, le-ltb}
use Rattle.base_texts.specs.Texts.{words_of, zeros, byte_at, with_byte, word_of, with_text, padded}
use Rattle.fact_layout.proofs.Rings.{lt_or_ge, same_or_not}
use Rattle.fact_traffic.specs.Got.{Got}

pub padded_length : (t : List ℕ) → length t ≤ 60 → length (padded t) ≡ 60
unfolding padded
padded_length t h = simp (length-append, length-replicate) (omega arith)

pub padded_in : (t : List ℕ) (j : ℕ) → j < length t → get_or (padded t) j 0 ≡ get_or t j 0
unfolding padded
padded_in t j h = get_or-append t (replicate (60 - length t) 0) 0 j h

pub padded_past : (t : List ℕ) (j : ℕ) → length t ≤ j → get_or (padded t) j 0 ≡ 0
unfolding padded
padded_past t j h =
    let e : length t + (j - length t) ≡ j = omega arith in
    ap (λ (k : ℕ). get_or (t ++ replicate (60 - length t) 0) k 0) (sym e)
    ∙ get_or-append-add t (replicate (60 - length t) 0) (j - length t) 0
    ∙ elim (lt_or_ge (j - length t) (60 - length t)) [
      | inl l ↦ get_or-replicate (60 - length t) (j - length t) 0 0 l
      | inr l ↦ get_or-eq_default (replicate (60 - length t) 0) 0 (simp length-replicate l)
    ]

zeros_length : length zeros ≡ 60
unfolding zeros
zeros_length = refl

zeros_at : (j : ℕ) → get_or zeros j 0 ≡ 0
unfolding zeros
zeros_at j =
    elim (lt_or_ge j 60) [
      | inl l ↦ get_or-replicate 60 j 0 0 l
      | inr l ↦ get_or-eq_default (replicate 60 0) 0 l
    ]

pub got_none : (t : List ℕ) → Got zeros t 0
got_none t = record { size = zeros_length; there = λ j h l. absurd (omega arith); rest = λ j h. zeros_at j }

pub got_all : (room t : List ℕ) (k : ℕ) → length t ≤ 60 → words_of (length t) ≤ k → Got room t k → room ≡ padded t
got_all room t k s h G =
    ext_get_or 0 room (padded t) (G.size ∙ sym (padded_length t s))
    (λ j l.
    elim (lt_or_ge j (length t)) [
      | inl a ↦ G.there j (omega arith) a ∙ sym (padded_in t j a)
      | inr a ↦ G.rest j (inl a) ∙ sym (padded_past t j a)
    ])

-- the bytes of a stored word
byte_in : (t : List ℕ) (j : ℕ) → j < length t → length t ≤ 60 → byte_at (padded t) j ≡ get_or t j 0
unfolding byte_at
byte_in t j h s = rw (lt-ltb j 60 (omega arith)) (padded_in t j h)

two_bytes : (t : List ℕ) (k : ℕ) → 2 * k + 1 < length t → length t ≤ 60 → word_of (padded t) (length t) k ≡ get_or t (2 * k) 0 + get_or t (2 * k + 1) 0 * 256
unfolding word_of
two_bytes t k h s = rw (lt-ltb (2 * k + 1) (length t) h, byte_in t (2 * k) (omega arith) s, byte_in t (2 * k + 1) h s)

one_byte : (t : List ℕ) (k : ℕ) → 2 * k < length t → length t ≤ 2 * k + 1 → length t ≤ 60 → word_of (padded t) (length t) k ≡ get_or t (2 * k) 0
unfolding word_of
one_byte t k l h s = rw (le-ltb (2 * k + 1) (length t) h, byte_in t (2 * k) l s)

pub word_lt : (t : List ℕ) (k : ℕ) → ((j : ℕ) → get_or t j 0 < 256) → k < words_of (length t) → length t ≤ 60 → word_of (padded t) (length t) k < 65536
word_lt t k b h s =
    elim (lt_or_ge (2 * k + 1) (length t)) [
      | inl l ↦ rw (two_bytes t k l s) (omega (arith, b (2 * k), b (2 * k + 1)))
      | inr l ↦ rw (one_byte t k (omega arith) l s) (omega (arith, b (2 * k)))
    ]

with_two : (room : List ℕ) (size k w : ℕ) → 2 * k + 1 < size → size ≤ 60 → with_text room size k w ≡ set (set room (2 * k) (w % 256)) (2 * k + 1) (w / 256)
unfolding with_text with_byte
with_two room size k w h s = rw (lt-ltb (2 * k + 1) size h, lt-ltb (2 * k) 60 (omega arith), lt-ltb (2 * k + 1) 60 (omega arith))

with_one : (room : List ℕ) (size k w : ℕ) → 2 * k < size → size ≤ 2 * k + 1 → size ≤ 60 → with_text room size k w ≡ set room (2 * k) (w % 256)
unfolding with_text with_byte
with_one room size k w l h s = rw (le-ltb (2 * k + 1) size h, lt-ltb (2 * k) 60 (omega arith))

module _ (room t : List ℕ) (k : ℕ) (b : (j : ℕ) → get_or t j 0 < 256) (s : length t ≤ 60) (G : Got room t k) where
  got_two : 2 * k + 1 < length t → Got (set (set room (2 * k) (get_or t (2 * k) 0)) (2 * k + 1) (get_or t (2 * k + 1) 0)) t (k + 1)
  got_two h =
      record {
        size = simp length-set G.size;
        there = λ j l a.
            elim (same_or_not j (2 * k + 1)) [
              | inl e ↦ rw e (get_or-set_same (set room (2 * k) (get_or t (2 * k) 0)) (2 * k + 1) (get_or t (2 * k + 1) 0) 0 (simp length-set (omega (arith, G.size))))
              | inr d ↦
                  get_or-set_other (set room (2 * k) (get_or t (2 * k) 0)) (2 * k + 1) j (get_or t (2 * k + 1) 0) 0 d
                  ∙ elim (same_or_not j (2 * k)) [
                    | inl e ↦ rw e (get_or-set_same room (2 * k) (get_or t (2 * k) 0) 0 (omega (arith, G.size)))
                    | inr f ↦ get_or-set_other room (2 * k) j (get_or t (2 * k) 0) 0 f ∙ G.there j (omega arith) a
                  ]
            ];
        rest = λ j l.
            let past : (length t ≤ j) ⊎ (2 * k ≤ j) = elim l [ inl a ↦ inl a | inr a ↦ inr (omega arith) ] in
            let d : (j ≡ 2 * k + 1 → ⊥) = elim l [ inl a ↦ λ e. omega arith | inr a ↦ λ e. omega arith ] in
            let f : (j ≡ 2 * k → ⊥) = elim l [ inl a ↦ λ e. omega arith | inr a ↦ λ e. omega arith ] in
            get_or-set_other (set room (2 * k) (get_or t (2 * k) 0)) (2 * k + 1) j (get_or t (2 * k + 1) 0) 0 d
            ∙ get_or-set_other room (2 * k) j (get_or t (2 * k) 0) 0 f
            ∙ G.rest j past;
      }

  got_one : 2 * k < length t → length t ≤ 2 * k + 1 → Got (set room (2 * k) (get_or t (2 * k) 0)) t (k + 1)
  got_one h l =
      record {
        size = simp length-set G.size;
        there = λ j u a.
            elim (same_or_not j (2 * k)) [
              | inl e ↦ rw e (get_or-set_same room (2 * k) (get_or t (2 * k) 0) 0 (omega (arith, G.size)))
              | inr f ↦ get_or-set_other room (2 * k) j (get_or t (2 * k) 0) 0 f ∙ G.there j (omega arith) a
            ];
        rest = λ j u.
            let past : (length t ≤ j) ⊎ (2 * k ≤ j) = elim u [ inl a ↦ inl a | inr a ↦ inr (omega arith) ] in
            let f : (j ≡ 2 * k → ⊥) = elim u [ inl a ↦ λ e. omega arith | inr a ↦ λ e. omega arith ] in
            get_or-set_other room (2 * k) j (get_or t (2 * k) 0) 0 f ∙ G.rest j past;
      }

  -- the next word read
  pub got_more : k < words_of (length t) → Got (with_text room (length t) k (word_of (padded t) (length t) k)) t (k + 1)
  got_more h =
      elim (lt_or_ge (2 * k + 1) (length t)) [
        | inl l ↦ subst (λ (r : List ℕ). Got r t (k + 1)) (sym (two l)) (got_two l)
        | inr l ↦ subst (λ (r : List ℕ). Got r t (k + 1)) (sym (one l)) (got_one (omega arith) l)
      ]
    where
      two : 2 * k + 1 < length t → with_text room (length t) k (word_of (padded t) (length t) k) ≡ set (set room (2 * k) (get_or t (2 * k) 0)) (2 * k + 1) (get_or t (2 * k + 1) 0)
      two l =
          let x : word_of (padded t) (length t) k % 256 ≡ get_or t (2 * k) 0 = rw (two_bytes t k l s) (omega (arith, b (2 * k))) in
          let y : word_of (padded t) (length t) k / 256 ≡ get_or t (2 * k + 1) 0 = rw (two_bytes t k l s) (omega (arith, b (2 * k))) in
          with_two room (length t) k (word_of (padded t) (length t) k) l s ∙ ap₂ (λ (p q : ℕ). set (set room (2 * k) p) (2 * k + 1) q) x y

      one : length t ≤ 2 * k + 1 → with_text room (length t) k (word_of (padded t) (length t) k) ≡ set room (2 * k) (get_or t (2 * k) 0)
      one l =
          let x : word_of (padded t) (length t) k % 256 ≡ get_or t (2 * k) 0 = rw (one_byte t k (omega arith) l s) (omega (arith, b (2 * k))) in
          with_one room (length t) k (word_of (padded t) (length t) k) (omega arith) l s ∙ ap (λ (p : ℕ). set room (2 * k) p) x
