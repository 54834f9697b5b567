-- The room after a copy. Assumes nothing.
use Prim.Native.Nat.{ℕ, zero, suc, ◌-◌}
use mathlib.Core.Path.{◌≡◌, refl, sym, ap, ◌∙◌}
use mathlib.Core.List.{List, ◌++◌}
use native.Mathlib.Nat.{sub-zero, suc-sub-suc, zero-sub}
use lib.ListN.{length, drop, replicate}
use Rattle.base_texts.specs.Texts.{zeros, padded}

drop_zeros : (i n : ℕ) → drop i (replicate {A = ℕ} n 0) ≡ replicate (n - i) 0
drop_zeros zero n = ap (λ (k : ℕ). replicate k 0) (sym (sub-zero n))
drop_zeros (suc i) zero = ap (λ (k : ℕ). replicate k 0) (sym (zero-sub (suc i)))
drop_zeros (suc i) (suc n) = drop_zeros i n ∙ ap (λ (k : ℕ). replicate k 0) (sym (suc-sub-suc n i))

pub zeros_length : length zeros ≡ 60
unfolding zeros
zeros_length = refl

-- what stands in an empty room after a copy to its beginning
pub padded_is : (s : List ℕ) → s ++ drop (length s) zeros ≡ padded s
unfolding padded zeros
padded_is s = ap (λ (t : List ℕ). s ++ t) (drop_zeros (length s) 60)
