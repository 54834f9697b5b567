use mathlib.Core.Path.{refl}
use Rattle.fact_progress.proofs.OnceAround.{met}
use Rattle.fact_progress.proofs.premises_are_met.Goals as goal

-- The fact is `met`. Assumes nothing.
pub returns : goal.returns
returns c = (refl, met)
