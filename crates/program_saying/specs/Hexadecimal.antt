-- A byte as two hexadecimal digits in lower case: 48 is the digit 0, 97 the letter a.
use Rattle.std.specs.Prelude.{ℕ, ◌+◌, ◌-◌, ◌/◌, ◌%◌, nat_lt, if◌then◌else◌, List, [], ◌∷◌}

abbrev pub glyph : ℕ → ℕ
glyph n = if nat_lt n 10 then 48 + n else 97 + (n - 10)

abbrev pub two_digits : ℕ → List ℕ
two_digits b = glyph (b / 16) ∷ glyph (b % 16) ∷ []
