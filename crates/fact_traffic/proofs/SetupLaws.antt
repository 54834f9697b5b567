-- What an accepted setup leaves: every slot's address words are the pool picture, response slots are the port's and command slots the
-- host's. Assumes nothing.
use Prim.Native.Nat.{ℕ, zero, suc, ◌+◌, ◌*◌, ◌<◌, ◌≤◌}
use mathlib.Core.Path.{◌≡◌, refl, sym, ap, ◌∙◌}
use mathlib.Core.Bool.{Bool, true, false, cond}
use mathlib.Core.Logic.{◌⊎◌, inl, inr}
use native.Mathlib.Omega.{arith}
use lib.ListN.{length}
use Rattle.base_words.specs.Words.{low_word, with_address, high_word}
use Rattle.base_memory.specs.Memory.{Memory, usable, inside, word_in, with_word, cleared}
use Rattle.base_memory.proofs.Laws.{usable_le, inside_yes, with_word_length, with_word_low, with_word_high, word_in_other, lies_yes, cleared_length}
use Rattle.base_area.specs.Layout.{slot_count, base, rings_end}
use Rattle.base_area.specs.Setup.{pool_end, to_port, with_length, slot_set, slots_set, set_up}
use Rattle.base_area.specs.declared.Area.{Area}
use Rattle.fact_layout.specs.Facts.{AreaFacts}
use Rattle.fact_layout.proofs.Rings.{same_or_not}
use Rattle.fact_traffic.proofs.WordLaws.{low_lt, high_lt}

word_stored : (n : ℕ) (m : Memory) (a v : ℕ) → inside n m a ≡ true → v < 65536 → word_in (with_word n m a v) a ≡ v
word_stored n m a v e h = rw (with_word_low n m a v e, with_word_high n m a v e) (omega arith)

module _ (n : ℕ) (a : Area) (pool end : ℕ) (F : AreaFacts n a pool end) (rings_in : rings_end n a ≤ end) (pool_in : pool_end a pool ≤ end) where
  B : ℕ
  B = base n a

  -- a slot's two words, by its number
  low_of : ℕ → ℕ
  low_of j = low_word (pool + 64 * j + 4)

  high_of : ℕ → ℕ
  high_of j = high_word (to_port a j) (to_port a j) (with_address n 0 (pool + 64 * j + 4))

  pub record Picture (k : ℕ) (m : Memory) : Type 0 where
    pub size : end ≡ usable n (length m)
    pub lows : (j : ℕ) → j < k → word_in m (base n a + 4 * j) ≡ low_word (pool + 64 * j + 4)
    pub highs : (j : ℕ) → j < k → word_in m (base n a + 4 * j + 2) ≡ high_word (to_port a j) (to_port a j) (with_address n 0 (pool + 64 * j + 4))

  -- the length of an envelope lies away from the rings
  length_size : (k : ℕ) (m : Memory) → length (with_length n a pool k m) ≡ length m
  length_size k m = go (to_port a k)
    where
      go : (b : Bool) → length (cond b (with_word n m (pool + 64 * k) 60) m) ≡ length m
      go true = with_word_length n m (pool + 64 * k) 60
      go false = refl

  length_away : (k : ℕ) (m : Memory) (q : ℕ) → (pool + 64 * k + 1 < q) ⊎ (q + 1 < pool + 64 * k) → word_in (with_length n a pool k m) q ≡ word_in m q
  length_away k m q d = go (to_port a k)
    where
      go : (b : Bool) → word_in (cond b (with_word n m (pool + 64 * k) 60) m) q ≡ word_in m q
      go true = word_in_other n m (pool + 64 * k) q 60 d
      go false = refl

  away : (k q : ℕ) → k < slot_count a → base n a ≤ q → q + 2 ≤ rings_end n a → (pool + 64 * k + 1 < q) ⊎ (q + 1 < pool + 64 * k)
  away k q l u v = elim F.pool_clear [ inl c ↦ inl (omega arith) | inr c ↦ inr (omega arith) ]

  step : (k : ℕ) (m : Memory) → k < slot_count a → Picture k m → Picture (suc k) (slot_set n a pool k m)
  unfolding slot_set
  step k m l P =
      record {
        size = size₃;
        lows = λ j u.
            elim (same_or_not j k) [
              | inl e ↦ rw e (word_in_other n m₂ (base n a + 4 * k + 2) (base n a + 4 * k) (high_of' k) (inr (omega arith)) ∙ word_stored n m₁ (base n a + 4 * k) (low_word (pool + 64 * k + 4)) (in₁ (base n a + 4 * k) (omega arith)) (low_lt (pool + 64 * k + 4)))
              | inr d ↦ others j (base n a + 4 * j) (omega arith) (inl (omega arith)) (omega arith) (omega arith) ∙ P.lows j (omega arith)
            ];
        highs = λ j u.
            elim (same_or_not j k) [
              | inl e ↦ rw e (word_stored n m₂ (base n a + 4 * k + 2) (high_of' k) (in₂ (base n a + 4 * k + 2) (omega arith)) (high_lt (to_port a k) (to_port a k) (with_address n 0 (pool + 64 * k + 4))))
              | inr d ↦ others j (base n a + 4 * j + 2) (omega arith) (inl (omega arith)) (omega arith) (omega arith) ∙ P.highs j (omega arith)
            ];
      }
    where
      high_of' : ℕ → ℕ
      high_of' j = high_word (to_port a j) (to_port a j) (with_address n 0 (pool + 64 * j + 4))

      m₁ : Memory
      m₁ = with_length n a pool k m

      m₂ : Memory
      m₂ = with_word n m₁ (base n a + 4 * k) (low_word (pool + 64 * k + 4))

      size₁ : end ≡ usable n (length m₁)
      size₁ = P.size ∙ ap (usable n) (sym (length_size k m))

      size₂ : end ≡ usable n (length m₂)
      size₂ = size₁ ∙ ap (usable n) (sym (with_word_length n m₁ (base n a + 4 * k) (low_word (pool + 64 * k + 4))))

      size₃ : end ≡ usable n (length (with_word n m₂ (base n a + 4 * k + 2) (high_of' k)))
      size₃ = size₂ ∙ ap (usable n) (sym (with_word_length n m₂ (base n a + 4 * k + 2) (high_of' k)))

      in₁ : (q : ℕ) → q + 2 ≤ rings_end n a → inside n m₁ q ≡ true
      in₁ q u = sym (inside_yes n m₁ q end size₁ (omega (arith, rings_in)))

      in₂ : (q : ℕ) → q + 2 ≤ rings_end n a → inside n m₂ q ≡ true
      in₂ q u = sym (inside_yes n m₂ q end size₂ (omega (arith, rings_in)))

      others : (j q : ℕ) → j < k → (q + 2 ≤ base n a + 4 * k) ⊎ (j ≡ k) → base n a ≤ q → q + 2 ≤ rings_end n a → word_in (with_word n m₂ (base n a + 4 * k + 2) (high_of' k)) q ≡ word_in m q
      others j q u d lo hi =
          let below : q + 2 ≤ base n a + 4 * k = elim d [ inl c ↦ c | inr c ↦ absurd (omega arith) ] in
          word_in_other n m₂ (base n a + 4 * k + 2) q (high_of' k) (inr (omega arith))
          ∙ word_in_other n m₁ (base n a + 4 * k) q (low_word (pool + 64 * k + 4)) (inr (omega arith))
          ∙ length_away k m q (away k q l lo hi)

  all : (k : ℕ) (m : Memory) → k ≤ slot_count a → end ≡ usable n (length m) → Picture k (slots_set n a pool k m)
  unfolding slots_set
  all zero m l s = record { size = s; lows = λ j u. absurd (omega arith); highs = λ j u. absurd (omega arith) }
  all (suc k) m l s = step k (slots_set n a pool k m) l (all k m (omega arith) s)

  pub picture : (m : Memory) → end ≡ usable n (length m) → Picture (slot_count a) (set_up n a pool m)
  unfolding set_up
  picture m s =
      all (slot_count a) (cleared n m pool (pool_end a pool)) (omega arith)
      (s ∙ ap (usable n) (sym (cleared_length n m pool (pool_end a pool) (sym (lies_yes n m pool (pool_end a pool) end s (omega arith) pool_in)) (omega arith) (omega (arith, pool_in, s, usable_le n (length m))))))
