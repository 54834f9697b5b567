-- A sound envelope, and what the credit rule adds up to. Assumes nothing.
use Prim.Native.Nat.{ℕ, ◌+◌, ◌≤◌}
use mathlib.Core.Path.{◌≡◌}
use native.Mathlib.Omega.{arith}
use borrow.Author.Tests.{le-leb, eq-eqb}
use Rattle.std.specs.Prelude.{Ok}
use Rattle.base_rules.specs.Rules.{fault_of, carried_of, left_of}

module _ (k c s : ℕ) where
  pub sound : k ≡ 0 → c ≡ 0 → s ≤ 60 → Ok tt ≡ fault_of k c s
  unfolding fault_of
  sound e f h = rw (eq-eqb k 0 e, eq-eqb c 0 f, le-leb s 60 h)

-- an answer carries at least 1 and at most 15, and nothing is granted twice or lost
pub carried_bounds : (g : ℕ) → (1 ≤ carried_of g) × (carried_of g ≤ 15)
unfolding carried_of
carried_bounds g = omega arith

pub nothing_lost : (g : ℕ) → carried_of g + left_of g ≡ g + 1
unfolding left_of carried_of
nothing_lost g = omega arith
