-- The words of the shared memory that traffic touches, by name: the two words of each slot, the words of each envelope, the two
-- indicators. A memory is seen through them.
use Rattle.std.specs.Prelude.{ℕ, ◌+◌, ◌-◌, ◌<◌, ◌≤◌}
use Rattle.base_memory.specs.Memory.{Memory, word_in}
use Rattle.base_area.specs.Layout.{slots, base, slot_at, indicator_back, envelope_at}
use Rattle.base_area.specs.declared.Area.{Area}
use Rattle.base_area.specs.declared.Ring.{Ring}

pub data Place : Type 0 where
  -- a slot's low word (offset 0) or high word (offset 2)
  slot_word : Ring → ℕ → ℕ → Place
  -- an envelope's word: length (0), header (2), text (4 and on)
  env_word : Ring → ℕ → ℕ → Place
  -- a ring's indicator
  mark_word : Ring → Place

-- The settings that two halves share: address bits, the three words, the pool.
pub record Site : Type 0 where
  pub bits : ℕ
  pub area : Area
  pub pool : ℕ

abbrev pub addr : Site → Place → ℕ
addr g (slot_word r i o) = slot_at g.bits g.area r i + o
addr g (env_word r i o) = envelope_at g.area g.pool r i + o
addr g (mark_word r) = base g.bits g.area - indicator_back r

abbrev pub Valid : Site → Place → Type 0
Valid g (slot_word r i o) = (i < slots g.area r) × (o ≤ 2)
Valid g (env_word r i o) = (i < slots g.area r) × (o + 2 ≤ 64)
Valid g (mark_word r) = Unit {0}

-- What a memory holds at a place.
abbrev pub view : Site → Memory → Place → ℕ
view g m p = word_in m (addr g p)
