use Rattle.std.proofs.Common.{◌≡◌, drop}
use Rattle.program_scheduling.specs.Machine.{stand}
use Rattle.program_scheduling.specs.Drive.{bytes_turns}
use Rattle.program_scheduling.proofs.drive.all_bytes.Given as goal

abbrev pub invariant-loop-b : goal.invariant-loop-b
invariant-loop-b l = bytes_turns (drop l.b-index l.b-items) (stand l.x l.mem) ≡ bytes_turns (drop 2 l.input) (stand l.initial.x l.initial.mem)
