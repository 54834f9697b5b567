-- "Memory picture", document 01: where rings, indicators and envelopes stand, all read off the host's three handshake words.
-- Everything is over n, the number of address bits.
use Rattle.std.specs.Prelude.{ℕ, ◌+◌, ◌*◌, ◌-◌, ◌%◌, ◌^◌, Bool, cond, not, ◌&&◌, leb, eqb}
use Rattle.base_words.specs.Fields.{of, is_set, command_exponent, response_exponent, ie, vector, pi}
use Rattle.base_words.specs.Words.{address_of}
use Rattle.base_memory.specs.Memory.{Memory, lies, cleared}
use Rattle.base_memory.specs.declared.Touch.{Touch}
use Rattle.base_memory.specs.declared.Touch.TheVariants.{Below, Write}
use Rattle.base_area.specs.declared.Area.{Area}
use Rattle.base_area.specs.declared.Ring.{Ring}
use Rattle.base_area.specs.declared.Ring.TheVariants.{Command, Response}

-- "command and response rings 2^0 to 2^7 slots each": the exponents stand in the host's Step 1 word.
abbrev pub exponent : Area → Ring → ℕ
exponent a Command = of command_exponent a.first
exponent a Response = of response_exponent a.first

unfoldable pub slots : Area → Ring → ℕ
slots a r = 2 ^ exponent a r

-- How many slots both rings have.
abbrev pub slot_count : Area → ℕ
slot_count a = slots a Response + slots a Command

-- The ring base: low part in the Step 2 word, high part in the Step 3 word.
unfoldable pub base : ℕ → Area → ℕ
base n a = address_of n a.second a.third

-- "Response ring at base, command ring directly after it, 4 bytes a slot."
abbrev pub number_of : Area → Ring → ℕ → ℕ
number_of a Response i = i
number_of a Command i = slots a Response + i

unfoldable pub slot_at : ℕ → Area → Ring → ℕ → ℕ
slot_at n a r i = base n a + 4 * number_of a r i

-- Where the rings end.
abbrev pub rings_end : ℕ → Area → ℕ
rings_end n a = base n a + 4 * slot_count a

-- "The slot before slot 0 is the last", and the slot after the last is slot 0.
unfoldable pub next_of : Area → Ring → ℕ → ℕ
next_of a r i = (i + 1) % slots a r

unfoldable pub before_of : Area → Ring → ℕ → ℕ
before_of a r i = cond (eqb i 0) (slots a r - 1) (i - 1)

-- "In a ring of one slot the test makes no read and always succeeds."
unfoldable pub alone : Area → Ring → Bool
alone a r = eqb (slots a r) 1

-- "Indicators: base-4 command ring, base-2 response ring." Writing one; below address 0 it lies outside.
abbrev pub indicator_back : Ring → ℕ
indicator_back Command = 4
indicator_back Response = 2

unfoldable pub indicator : ℕ → Area → Ring → ℕ → Touch
indicator n a r v = cond (leb (indicator_back r) (base n a)) (Write (base n a - indicator_back r) v) Below

-- "the host's envelopes are 64 bytes each".
abbrev pub envelope_bytes : ℕ
envelope_bytes = 64

-- "response slots first, then command slots, in a pool": where a slot's envelope starts.
-- Its length stands there, its header 2 bytes on, its text 4 bytes on.
unfoldable pub envelope_at : Area → ℕ → Ring → ℕ → ℕ
envelope_at a pool r i = pool + envelope_bytes * number_of a r i

-- "An indicator write reports an interrupt if the vector is not 0."
unfoldable pub has_vector : ℕ → Bool
has_vector first = not (eqb (of vector first) 0)

-- "Ends of Steps 1 to 3 report an interrupt if IE is set and the vector is not 0."
unfoldable pub step_interrupt : ℕ → Bool
step_interrupt first = is_set ie first && has_vector first

-- "zeros from base-4 (from base-8 if PI) to the end of the rings"; all or nothing.
abbrev pub lead : Area → ℕ
lead a = cond (is_set pi a.second) 8 4

unfoldable pub area_lies : ℕ → Memory → Area → Bool
area_lies n m a = leb (lead a) (base n a) && lies n m (base n a - lead a) (rings_end n a)

unfoldable pub area_cleared : ℕ → Memory → Area → Memory
area_cleared n m a = cond (leb (lead a) (base n a)) (cleared n m (base n a - lead a) (rings_end n a)) m
