use mathlib.Core.Path.{refl}
use Rattle.fact_meeting.proofs.Meet.{every_meeting}
use Rattle.fact_meeting.proofs.every_meeting.Goals as goal

-- The fact is `every_meeting`. Assumes nothing.
pub returns : goal.returns
returns c = (refl, every_meeting)
