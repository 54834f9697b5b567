-- The line as it is printed: the counts in decimal, SA in four hexadecimal digits.
use Rattle.std.specs.Prelude.{ℕ, ◌-◌, false, List, length, replicate, codes, ◌++◌}
use Rattle.std.specs.Fmt.{decimal, digits}
use Rattle.program_scheduling.specs.declared.Line.{Line}

-- A word of a register: 48 is the digit 0.
abbrev pub four_digits : ℕ → List ℕ
four_digits w = replicate (4 - length (digits 16 false w)) 48 ++ digits 16 false w

unfoldable pub line_text : Line → List ℕ
line_text l =
    codes "sent " ++ decimal l.sent ++ codes " fetched " ++ decimal l.fetched
    ++ codes " answered " ++ decimal l.answered ++ codes " taken " ++ decimal l.taken
    ++ codes " account " ++ decimal l.account ++ codes " owed " ++ decimal l.owed
    ++ codes " wakes " ++ decimal l.command ++ codes " " ++ decimal l.response
    ++ codes " sa " ++ four_digits l.sa
