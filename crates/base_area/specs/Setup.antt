-- The host's setup: when it fits, and what it writes.
use Rattle.std.specs.Prelude.{ℕ, zero, suc, ◌+◌, ◌*◌, ◌-◌, ◌%◌, Bool, cond, ◌&&◌, ◌||◌, leb, ltb, eqb}
use Rattle.base_words.specs.Words.{low_word, with_address, high_word}
use Rattle.base_memory.specs.Memory.{Memory, with_word, cleared}
use Rattle.base_texts.specs.Texts.{room}
use Rattle.base_area.specs.Layout.{slots, slot_count, base, rings_end, envelope_bytes}
use Rattle.base_area.specs.declared.Area.{Area}
use Rattle.base_area.specs.declared.Ring.TheVariants.{Response}

-- Where the pool ends: 64 bytes for every slot.
abbrev pub pool_end : Area → ℕ → ℕ
pool_end a pool = pool + envelope_bytes * slot_count a

-- Two stretches that do not meet.
abbrev pub apart : ℕ → ℕ → ℕ → ℕ → Bool
apart a e a' e' = leb e a' || leb e' a

-- Refusal 10 of the setup, turned round: indicators, rings and pool lie in the usable memory, the pool is even and meets neither.
unfoldable pub fits : ℕ → Area → ℕ → ℕ → Bool
fits n a pool end =
    eqb (pool % 2) 0 && leb 4 (base n a) && leb (rings_end n a) end && leb (pool_end a pool) end && apart pool (pool_end a pool) (base n a - 4) (rings_end n a)

-- Slot number j, response slots first: "writes 60 as each response length, fills every descriptor's address, gives response slots
-- to the port with F=1 and keeps command slots"; unnamed bits are 0.
abbrev pub to_port : Area → ℕ → Bool
to_port a j = ltb j (slots a Response)

abbrev pub with_length : ℕ → Area → ℕ → ℕ → Memory → Memory
with_length n a pool j m = cond (to_port a j) (with_word n m (pool + envelope_bytes * j) room) m

unfoldable pub slot_set : ℕ → Area → ℕ → ℕ → Memory → Memory
slot_set n a pool j m =
    with_word n
    (with_word n (with_length n a pool j m) (base n a + 4 * j) (low_word (pool + envelope_bytes * j + 4)))
    (base n a + 4 * j + 2)
    (high_word (to_port a j) (to_port a j) (with_address n 0 (pool + envelope_bytes * j + 4)))

-- The first k slots set, in order.
unfoldable pub slots_set : ℕ → Area → ℕ → ℕ → Memory → Memory
slots_set n a pool zero m = m
slots_set n a pool (suc k) m = slot_set n a pool k (slots_set n a pool k m)

-- "The setup clears all of the pool", and then sets every slot.
unfoldable pub set_up : ℕ → Area → ℕ → Memory → Memory
set_up n a pool m = slots_set n a pool (slot_count a) (cleared n m pool (pool_end a pool))
