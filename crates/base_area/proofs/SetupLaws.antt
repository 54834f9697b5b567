-- The host's setup, slot after slot. Assumes nothing.
use Prim.Native.Nat.{ℕ, ◌+◌}
use mathlib.Core.Path.{◌≡◌, ap, ◌∙◌}
use native.Mathlib.Numerals.{add-one}
use Rattle.base_memory.specs.Memory.{Memory}
use Rattle.base_area.specs.Setup.{slot_set, slots_set}
use Rattle.base_area.specs.declared.Area.{Area}

-- slot after slot
module _ (n : ℕ) (a : Area) (pool : ℕ) where
  pub slots_more : (j : ℕ) (m : Memory) {m₁ m₂ : Memory} → m₁ ≡ slots_set n a pool j m → m₂ ≡ slot_set n a pool j m₁ → m₂ ≡ slots_set n a pool (j + 1) m
  unfolding slots_set
  slots_more j m e q = rw (add-one j) (q ∙ ap (slot_set n a pool j) e)
