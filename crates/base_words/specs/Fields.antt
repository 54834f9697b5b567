-- The fields of the 16-bit words of document 004: first bit, width and meaning of each, said once.
-- Chapter 9: what SA shows and what the host writes. Section 4.1: descriptors and envelope headers.
use Rattle.std.specs.Prelude.{ℕ, ◌+◌, ◌*◌, ◌-◌, ◌/◌, ◌%◌, ◌^◌, Bool, true, false, eqb}

-- A field: its first bit, counted from 0 at the low end, and how many bits it has.
pub record Field : Type 0 where
  pub first : ℕ
  pub width : ℕ

-- "bits 13-11", as the papers write a field.
abbrev pub bits : ℕ → ℕ → Field
bits high low = record { first = low; width = high - low + 1 }

-- A field of one bit.
abbrev pub bit : ℕ → Field
bit k = record { first = k; width = 1 }

-- What a field of a word holds.
abbrev pub of : Field → ℕ → ℕ
of f w = w / 2 ^ f.first % 2 ^ f.width

-- Whether a field of one bit is set.
abbrev pub is_set : Field → ℕ → Bool
is_set f w = eqb (of f w) 1

-- A value in its field. A word is the sum of its fields.
abbrev pub put : Field → ℕ → ℕ
put f v = v % 2 ^ f.width * 2 ^ f.first

-- A bit's value.
abbrev pub flag : Bool → ℕ
flag true = 1
flag false = 0

-- SA as the port shows it, every step: ER, and the four step bits.
abbrev pub er : Field
er = bit 15

abbrev pub s4 : Field
s4 = bit 14

abbrev pub s3 : Field
s3 = bit 13

abbrev pub s2 : Field
s2 = bit 12

abbrev pub s1 : Field
s1 = bit 11

-- The four step bits together, Step 1's lowest.
abbrev pub step_bits : Field
step_bits = bits 14 11

-- Step 1 shown: no host-settable vector, 22-bit bus (reserved in document 004), enhanced diagnostics.
abbrev pub nv : Field
nv = bit 10

abbrev pub qb : Field
qb = bit 9

abbrev pub di : Field
di = bit 8

-- Step 2 shown: the port type, and the echo of the host's Step 1 bits 15-8. Step 3 echoes bits 7-0.
abbrev pub port_type : Field
port_type = bits 10 8

abbrev pub echo : Field
echo = bits 7 0

-- Step 4 shown: the version byte.
abbrev pub version : Field
version = bits 7 0

-- A fatal word: ER and the code.
abbrev pub fatal_code : Field
fatal_code = bits 10 0

-- The host's Step 1 word: bit 15 always set, WR, the rings' exponents, IE and vector/4.
abbrev pub one : Field
one = bit 15

abbrev pub wr : Field
wr = bit 14

abbrev pub command_exponent : Field
command_exponent = bits 13 11

abbrev pub response_exponent : Field
response_exponent = bits 10 8

abbrev pub ie : Field
ie = bit 7

abbrev pub vector : Field
vector = bits 6 0

-- The halves of that word that Steps 2 and 3 echo.
abbrev pub upper : Field
upper = bits 15 8

abbrev pub lower : Field
lower = bits 7 0

-- The host's Step 2 word: address bits 15-1 of the ring base, and PI.
abbrev pub base_low : Field
base_low = bits 15 1

abbrev pub pi : Field
pi = bit 0

-- The host's Step 4 word: GO.
abbrev pub go : Field
go = bit 0

-- A descriptor's low word: address bits 15-1. Bit 0 is taken as 0.
abbrev pub address_low : Field
address_low = bits 15 1

-- The address bits above 15, in a descriptor's high word and in the host's Step 3 word, over the number of address bits.
abbrev pub address_high : ℕ → Field
address_high n = record { first = 0; width = n - 16 }

-- A descriptor's high word: O (1: the port owns the slot), F, and the bits that a write keeps.
abbrev pub owner : Field
owner = bit 15

abbrev pub flagged : Field
flagged = bit 14

abbrev pub kept : Field
kept = bits 13 0

-- The envelope's header word, at text-2.
abbrev pub connection : Field
connection = bits 15 8

abbrev pub message_type : Field
message_type = bits 7 4

abbrev pub credits : Field
credits = bits 3 0
