use Rattle.std.proofs.Common.{rules, ap, codes, ◌++◌, append_assoc}
use Rattle.std.proofs.Output.{has_written_append, has_written_of_eq}
use Rattle.std.specs.Fmt.{HasWritten}
use Rattle.program_scheduling.specs.Printed.{line_text, four_digits}
use Rattle.program_scheduling.proofs.PrintLaws.{four_is}
use Rattle.program_scheduling.proofs.LineDisplay.fmt.Goals as goal

pub returns-clause-writes : goal.returns-clause-writes
unfolding line_text
returns-clause-writes g c plain ok =
    let one = c.write.ensures.writes plain (search rules) in
    let two = c.write-2.ensures.writes one.plain (search rules) in
    let three = c.write-3.ensures.writes two.plain (search rules) in
    let four = c.write-4.ensures.writes three.plain (search rules) in
    let sa : HasWritten g.W.Write.write_str_gives c.write-4.new.self (codes " sa " ++ four_digits c.args.self.now.sa) c.write-5.new.self =
    has_written_of_eq _ _ _ _ _ (ap (λ t. codes " sa " ++ t) (four_is c.args.self.now.sa)) (search rules) in
    let to_two = has_written_append _ _ _ _ _ _ one two in
    let to_three = has_written_append _ _ _ _ _ _ to_two three in
    let to_four = has_written_append _ _ _ _ _ _ to_three four in
    has_written_of_eq _ _ _ _ _ (simp append_assoc) (has_written_append _ _ _ _ _ _ to_four sa)
