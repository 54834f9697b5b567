use Rattle.std.proofs.Common.{◌≡◌}
use Rattle.program_scheduling.specs.Machine.{stand}
use Rattle.program_scheduling.specs.Drive.{turns_of}
use Rattle.program_scheduling.proofs.machine.Machine.steps.Given as goal

abbrev pub invariant-loop : goal.invariant-loop
invariant-loop l = stand l.x l.mem ≡ turns_of l.counter l.side (stand l.initial.x l.initial.mem)
