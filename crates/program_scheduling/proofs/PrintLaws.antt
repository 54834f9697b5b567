-- What `{:04x}` writes. Assumes nothing.
use Rattle.std.proofs.Common.{◌≡◌, ℕ, ◌^◌, ◌-◌, false, [], length, arith}
use Rattle.std.proofs.lemmas.List.{append-nil}
use Rattle.std.specs.Fmt.{digits, padded_integral, format_spec, char_count}
use Rattle.program_scheduling.specs.Printed.{four_digits}

pub four_is : (w : ℕ) → padded_integral (format_spec 32 0 4 4 (2 ^ 64 - 1)) false [] (digits 16 false w) ≡ four_digits w
unfolding padded_integral char_count
four_is w =
    let numeral = digits 16 false w in
    let short : 4 - length numeral - 0 - 0 ≡ 4 - length numeral = omega arith in
    rw (short, append-nil numeral)
