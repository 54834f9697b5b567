use mathlib.Core.Path.{refl}
use Rattle.fact_meeting.proofs.Ways.{every_way}
use Rattle.fact_meeting.proofs.every_way.Goals as goal

-- The fact is `every_way`. Assumes nothing.
pub returns : goal.returns
returns c = (refl, every_way)
