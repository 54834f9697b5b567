-- Ring and layout facts, shown once for every exponent, over the number of address bits.
use Rattle.std.specs.Prelude.{ℕ, ◌+◌, ◌-◌, ◌%◌, ◌<◌, ◌≤◌, List, [], ◌∷◌, ◌≡◌, true, false, ◌⊎◌}
use Rattle.base_area.specs.Layout.{slots, base, slot_at, rings_end, next_of, before_of, alone, indicator_back, indicator, envelope_at}
use Rattle.base_area.specs.Setup.{pool_end, fits}
use Rattle.base_area.specs.declared.Area.{Area}
use Rattle.base_area.specs.declared.Ring.{Ring}
use Rattle.base_area.specs.declared.Ring.TheVariants.{Command, Response}
use Rattle.base_memory.specs.declared.Touch.TheVariants.{Write}

-- A stretch of some bytes from one address keeps clear of a stretch from another.
abbrev pub Clear : ℕ → ℕ → ℕ → ℕ → Type 0
Clear a k b l = (a + k ≤ b) ⊎ (b + l ≤ a)

-- A ring by itself: its size, and the slots before and after a slot.
pub record RingFacts (a : Area) (r : Ring) : Type 0 where
  pub some : 1 ≤ slots a r
  pub most : slots a r ≤ 128
  pub next_in : (i : ℕ) → next_of a r i < slots a r
  pub before_in : (i : ℕ) → i < slots a r → before_of a r i < slots a r
  -- "The slot before slot 0 is the last", and going back undoes going on.
  pub before_first : before_of a r 0 ≡ slots a r - 1
  pub next_last : next_of a r (slots a r - 1) ≡ 0
  pub before_next : (i : ℕ) → i < slots a r → before_of a r (next_of a r i) ≡ i
  pub next_before : (i : ℕ) → i < slots a r → next_of a r (before_of a r i) ≡ i
  -- A ring of one slot, and no other, has itself before it.
  pub alone_one : alone a r ≡ true → slots a r ≡ 1
  pub not_alone : alone a r ≡ false → (i : ℕ) → i < slots a r → before_of a r i ≡ i → ⊥

-- Two slots of the rings, told apart by ring or index.
pub data Apart : Ring → ℕ → Ring → ℕ → Type 0 where
  rings : {i j : ℕ} → Apart Command i Response j
  rings' : {i j : ℕ} → Apart Response i Command j
  slots_apart : {r : Ring} {i j : ℕ} → (i ≡ j → ⊥) → Apart r i r j

-- The areas of an accepted setup: everything lies in memory, and nothing meets anything else.
pub record AreaFacts (n : ℕ) (a : Area) (pool end : ℕ) : Type 0 where
  pub base_low_lem : 4 ≤ base n a
  -- slots
  pub slot_from : (r : Ring) (i : ℕ) → base n a ≤ slot_at n a r i
  pub slot_to : (r : Ring) (i : ℕ) → i < slots a r → slot_at n a r i + 4 ≤ rings_end n a
  pub slot_inside : (r : Ring) (i : ℕ) → i < slots a r → slot_at n a r i + 4 ≤ end
  pub slots_clear : (r : Ring) (i : ℕ) (r' : Ring) (i' : ℕ) → i < slots a r → i' < slots a r' → Apart r i r' i' → Clear (slot_at n a r i) 4 (slot_at n a r' i') 4
  -- indicators
  pub indicator_at : (r : Ring) (v : ℕ) → indicator n a r v ≡ Write (base n a - indicator_back r) v
  pub indicator_below : (r : Ring) → base n a - indicator_back r + 2 ≤ base n a
  pub indicators_clear : Clear (base n a - indicator_back Command) 2 (base n a - indicator_back Response) 2
  -- envelopes
  pub envelope_even : (r : Ring) (i : ℕ) → envelope_at a pool r i % 2 ≡ 0
  pub envelope_from : (r : Ring) (i : ℕ) → pool ≤ envelope_at a pool r i
  pub envelope_to : (r : Ring) (i : ℕ) → i < slots a r → envelope_at a pool r i + 64 ≤ pool_end a pool
  pub envelope_inside : (r : Ring) (i : ℕ) → i < slots a r → envelope_at a pool r i + 64 ≤ end
  pub envelopes_clear : (r : Ring) (i : ℕ) (r' : Ring) (i' : ℕ) → i < slots a r → i' < slots a r' → Apart r i r' i' → Clear (envelope_at a pool r i) 64 (envelope_at a pool r' i') 64
  -- the pool keeps clear of indicators and rings
  pub pool_clear : (pool_end a pool + 4 ≤ base n a) ⊎ (rings_end n a ≤ pool)

-- The two rings.
abbrev pub both_rings : List Ring
both_rings = Command ∷ Response ∷ []

pub record EveryLayout : Type 0 where
  pub ring : (a : Area) (r : Ring) → RingFacts a r
  pub area : (n : ℕ) (a : Area) (pool end : ℕ) → fits n a pool end ≡ true → AreaFacts n a pool end
