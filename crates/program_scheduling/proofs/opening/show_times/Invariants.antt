use Rattle.std.proofs.Common.{◌≡◌}
use Rattle.fact_meeting.specs.Meeting.{pair, exchanges}
use Rattle.program_scheduling.proofs.opening.show_times.Given as goal

abbrev pub invariant-loop : goal.invariant-loop
invariant-loop l = pair l.x.host l.x.port l.mem ≡ exchanges l.counter (pair l.initial.x.host l.initial.x.port l.initial.mem)
