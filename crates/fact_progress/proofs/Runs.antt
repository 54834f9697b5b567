-- What every run stands on: a word inside is found, words written one after the other, steps put together, and the loop over a
-- text's words, said once for all four operations. Assumes nothing.
use Rattle.std.specs.Prelude.{Some}
use Prim.Native.Nat.{ℕ, zero, suc, ◌+◌, ◌<◌, ◌≤◌}
use mathlib.Core.Path.{◌≡◌, refl, sym, subst, ◌∙◌}
use mathlib.Core.Bool.{false}
use mathlib.Core.List.{List, [], ◌∷◌, ◌++◌}
use native.Mathlib.Omega.{arith}
use lib.ListN.{length}
use Rattle.base_side.specs.Step.{Outcome}
use Rattle.base_memory.specs.Memory.{Memory, usable, word_in, with_word}
use Rattle.base_memory.specs.OneWord.{found}
use Rattle.base_memory.specs.declared.Touch.TheVariants.{Read, Write}
use Rattle.base_memory.proofs.Laws.{inside_yes, word_at_yes, with_word_length}
use Rattle.base_answers.specs.Told.{Told, told, going}
use Rattle.fact_progress.specs.Alone.{out, EndsAfter, goes, Put, written}

-- a word inside is found
module _ (n : ℕ) (m : Memory) (a : ℕ) (h : a + 2 ≤ usable n (length m)) where
  pub found_read : found n m (Read a) ≡ Some (word_in m a)
  found_read = sym (word_at_yes n m a (inside_yes n m a (usable n (length m)) refl h))

  pub found_write : (v : ℕ) → found n m (Write a v) ≡ Some v
  found_write v = rw (← inside_yes n m a (usable n (length m)) refl h)

-- words written
pub written_length : (n : ℕ) (m : Memory) (xs : List Put) → length (written n m xs) ≡ length m
written_length n m [] = refl
written_length n m (x ∷ xs) = written_length n (with_word n m x.at x.word) xs ∙ with_word_length n m x.at x.word

pub written_append : (n : ℕ) (m : Memory) (xs ys : List Put) → written n m (xs ++ ys) ≡ written n (written n m xs) ys
written_append n m [] ys = refl
written_append n m (x ∷ xs) ys = written_append n (with_word n m x.at x.word) xs ys

-- memory of the same length has the same words inside
pub still : (n a : ℕ) (k m : Memory) → length k ≡ length m → a ≤ usable n (length m) → a ≤ usable n (length k)
still n a k m e l = rw e l

-- the same end, its number of steps said otherwise
module _ {S : Type 0} {step : S → Memory → Outcome S} where
  pub counted : {k k' : ℕ} {s s' : S} {m m' : Memory} {t : Told} → k ≡ k' → EndsAfter step k s m t s' m' → EndsAfter step k' s m t s' m'
  counted e x = rw (← e) x

-- The loop over a text's words: `at l k x` is the state with word k next after word l, x what changes on the way (memory, or the room),
-- `next` one word more of it, `after` all that are left.
module _ {S A : Type 0} (step : S → Memory → Outcome S) (at : ℕ → ℕ → A → S) (mem : A → Memory) (next : ℕ → A → A) (after : ℕ → ℕ → A → A)
    (Good : A → Type 0) (words : ℕ)
    (none : (k : ℕ) (x : A) → after k 0 x ≡ x)
    (more : (k j : ℕ) (x : A) → after k (suc j) x ≡ after (k + 1) j (next k x))
    (stays : (k : ℕ) (x : A) → Good x → Good (next k x))
    (one : (l k : ℕ) (x : A) → k < words → Good x → step (at l k x) (mem x) ≡ out (told going false) (at k (k + 1) (next k x)) (mem (next k x)))
  where
    pub loop : (j k l : ℕ) (x : A) → k + j ≡ words → Good x → {r : ℕ} {t : Told} {s' : S} {m' : Memory}
        → ((l' : ℕ) → EndsAfter step r (at l' words (after k j x)) (mem (after k j x)) t s' m')
        → EndsAfter step (j + r) (at l k x) (mem x) t s' m'
    loop zero k l x e g {r} {t} {s'} {m'} f =
        let w : k ≡ words = omega arith in
        let c : 0 + r ≡ r = omega arith in
        rw (c, w) (subst (λ (y : A). EndsAfter step r (at l words y) (mem y) t s' m') (none k x) (f l))
    loop (suc j) k l x e g {r} {t} {s'} {m'} f =
        counted (omega arith)
        (goes (one l k x (omega arith) g)
        (loop j (k + 1) k (next k x) (omega arith) (stays k x g)
        (λ (l' : ℕ). subst (λ (y : A). EndsAfter step r (at l' words y) (mem y) t s' m') (more k j x) (f l'))))
