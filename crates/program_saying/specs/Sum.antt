-- FNV-1a of 32 bits.
use Rattle.std.specs.Prelude.{ℕ, List, ◌*◌, ◌%◌, ◌^◌, bit_xor}
use Rattle.std.specs.List.{fold}

-- A sum with one more byte.
abbrev pub sum_with : ℕ → ℕ → ℕ
sum_with sum byte = bit_xor sum byte * 16777619 % 2 ^ 32

-- A sum with some more.
abbrev pub sum_from : ℕ → List ℕ → ℕ
sum_from start bytes = fold sum_with start bytes
