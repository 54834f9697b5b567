-- The words themselves, each as the sum of its fields, and what two words say together.
use Rattle.std.specs.Prelude.{ℕ, ◌+◌, ◌*◌, ◌-◌, ◌/◌, ◌^◌, Bool}
use Rattle.base_words.specs.Fields.{of, put, flag, er, s1, s2, s3, s4, nv, qb, di, port_type, echo, version, fatal_code}
use Rattle.base_words.specs.Fields.{one, command_exponent, response_exponent, ie, vector, upper, lower, base_low, go}
use Rattle.base_words.specs.Fields.{address_low, address_high, owner, flagged, kept, credits}

-- How many bits an address has today.
abbrev pub address_bits : ℕ
address_bits = 18

-- What SA shows in each step (chapter 9), and after a fatal error (chapter 7).
abbrev pub step1_word : Bool → Bool → Bool → ℕ
step1_word n q d = put s1 1 + put nv (flag n) + put qb (flag q) + put di (flag d)

abbrev pub step2_word : ℕ → ℕ
step2_word first = put s2 1 + put port_type 0 + put echo (of upper first)

abbrev pub step3_word : ℕ → ℕ
step3_word first = put s3 1 + put echo (of lower first)

abbrev pub step4_word : ℕ → ℕ
step4_word v = put s4 1 + put version v

abbrev pub fatal_word : ℕ → ℕ
fatal_word x = put er 1 + put fatal_code x

-- The host's words: it leaves WR, PI, PP and unnamed bits 0.
abbrev pub first_word : ℕ → ℕ → Bool → ℕ → ℕ
first_word command response i v =
    put one 1 + put command_exponent command + put response_exponent response + put ie (flag i) + put vector v

abbrev pub second_word : ℕ → ℕ
second_word base = put base_low (base / 2)

abbrev pub third_word : ℕ → ℕ
third_word base = put (address_high address_bits) (base / 2 ^ 16)

abbrev pub go_word : ℕ
go_word = put go 1

-- The address that a low and a high word say, over the number of address bits; bit 0 is 0.
-- A descriptor says its envelope's text so, and the host's Step 2 and Step 3 words the ring base.
abbrev pub address_of : ℕ → ℕ → ℕ → ℕ
address_of n low high = of (address_high n) high * 2 ^ 16 + of address_low low * 2

-- A descriptor's low word for an address.
abbrev pub low_word : ℕ → ℕ
low_word a = put address_low (a / 2)

-- Bits 13-0 of a high word with an address's upper bits put in.
abbrev pub with_address : ℕ → ℕ → ℕ → ℕ
with_address n rest a = of kept rest / 2 ^ (n - 16) * 2 ^ (n - 16) + of (address_high n) (a / 2 ^ 16)

-- A high word: owner, flag, and bits 13-0.
abbrev pub high_word : Bool → Bool → ℕ → ℕ
high_word o f rest = put owner (flag o) + put flagged (flag f) + of kept rest

-- A header that carries credits; connection and type are 0.
abbrev pub header_word : ℕ → ℕ
header_word c = put credits c
