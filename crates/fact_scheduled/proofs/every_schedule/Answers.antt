use mathlib.Core.Path.{◌≡◌, refl}
use lib.ListN.{length}
use Rattle.program_scheduling.specs.declared.drive.Side.{Side}
use Rattle.program_scheduling.specs.declared.drive.Side.TheVariants.{Send, Take, Fetch, Answer}
use Rattle.program_scheduling.specs.declared.machine.Machine.{Machine}
use Rattle.fact_scheduled.specs.Calls.{turn_calls}
use Rattle.fact_scheduled.proofs.Schedules.{every_schedule}
use Rattle.fact_scheduled.proofs.every_schedule.Goals as goal

-- The theorem is `every_schedule`. Assumes nothing.
two-calls : (s : Side) (x : Machine) → 2 ≡ length (turn_calls s x)
two-calls Send x = refl
two-calls Take x = refl
two-calls Fetch x = refl
two-calls Answer x = refl

pub returns : goal.returns
returns c = (two-calls, every_schedule)
