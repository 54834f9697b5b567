use mathlib.Core.Path.{refl}
use Rattle.fact_oneword.proofs.Touching.{every_step}
use Rattle.fact_oneword.proofs.every_step.Goals as goal

-- The fact is `every_step`. Assumes nothing.
pub returns : goal.returns
returns c = (refl, every_step)
