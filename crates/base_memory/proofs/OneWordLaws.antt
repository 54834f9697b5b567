-- "A step touches at most one word", as a fact of the definitions: what a touch leaves differs from before in one word at most,
-- and what it finds depends on that word and on memory's length alone. Assumes nothing.
use Prim.Native.Nat.{ℕ, ◌+◌, ◌/◌, ◌%◌}
use mathlib.Core.Path.{◌≡◌, refl, sym, ap, ◌∙◌}
use mathlib.Core.Bool.{Bool, true, false}
use mathlib.Core.Logic.{inl, inr}
use lib.Dec.{leb}
use lib.ListN.{length, get_or}
use Rattle.base_memory.specs.Memory.{Memory, usable, inside, word_at, with_word}
use Rattle.base_memory.specs.OneWord.{found, left, Touches, Same}
use Rattle.base_memory.specs.declared.Touch.{Touch}
use Rattle.base_memory.specs.declared.Touch.TheVariants.{Nothing, Below, Read, Write}
use Rattle.base_memory.proofs.Laws.{with_word_length, with_word_low, with_word_high, with_word_other, with_word_no}

pub left_length : (n : ℕ) (m : Memory) (t : Touch) → length (left n m t) ≡ length m
left_length n m Nothing = refl
left_length n m Below = refl
left_length n m (Read a) = refl
left_length n m (Write a v) = with_word_length n m a v

-- a byte that the touch does not name is as it was
pub left_other : (n : ℕ) (m : Memory) (t : Touch) (j : ℕ) → (Touches t j → ⊥) → get_or (left n m t) j 0 ≡ get_or m j 0
left_other n m Nothing j h = refl
left_other n m Below j h = refl
left_other n m (Read a) j h = refl
left_other n m (Write a v) j h = with_word_other n m a v j (λ e. h (inl e)) (λ e. h (inr e))

-- two memories of one length that agree on the word named are found alike
pub found_same : (n : ℕ) (m m' : Memory) (t : Touch) → Same t m m' → found n m t ≡ found n m' t
unfolding word_at inside
found_same n m m' Nothing s = refl
found_same n m m' Below s = refl
found_same n m m' (Read a) s = rw (s.size, s.agree a (inl refl), s.agree (a + 1) (inr refl))
found_same n m m' (Write a v) s = rw s.size

inside_same : (n : ℕ) (m m' : Memory) (a : ℕ) → length m ≡ length m' → inside n m' a ≡ inside n m a
unfolding inside
inside_same n m m' a e = ap (λ (k : ℕ). leb (a + 2) (usable n k)) (sym e)

-- a byte of the word written, where it is the same byte of one value or the same byte of both memories
byte_same : (n : ℕ) (m m' : Memory) (a v j x : ℕ) → length m ≡ length m' → get_or m j 0 ≡ get_or m' j 0
    → ((k : Memory) → inside n k a ≡ true → get_or (with_word n k a v) j 0 ≡ x)
    → get_or (with_word n m a v) j 0 ≡ get_or (with_word n m' a v) j 0
byte_same n m m' a v j x l e f = go (inside n m a) refl
  where
    go : (b : Bool) → inside n m a ≡ b → get_or (with_word n m a v) j 0 ≡ get_or (with_word n m' a v) j 0
    go true t = f m t ∙ sym (f m' (inside_same n m m' a l ∙ t))
    go false t =
        ap (λ (k : Memory). get_or k j 0) (sym (with_word_no n m a v (sym t)))
        ∙ e
        ∙ ap (λ (k : Memory). get_or k j 0) (with_word_no n m' a v (sym (inside_same n m m' a l ∙ t)))

-- what a touch leaves in the word named depends on that word and on memory's length alone
pub left_same : (n : ℕ) (m m' : Memory) (t : Touch) → Same t m m' → (j : ℕ) → Touches t j → get_or (left n m t) j 0 ≡ get_or (left n m' t) j 0
left_same n m m' Nothing s j h = absurd h
left_same n m m' Below s j h = absurd h
left_same n m m' (Read a) s j h = s.agree j h
left_same n m m' (Write a v) s j (inl e) = rw e (byte_same n m m' a v a (v % 256) s.size (s.agree a (inl refl)) (λ k t. with_word_low n k a v t))
left_same n m m' (Write a v) s j (inr e) = rw e (byte_same n m m' a v (a + 1) (v / 256) s.size (s.agree (a + 1) (inr refl)) (λ k t. with_word_high n k a v t))
