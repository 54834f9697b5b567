use mathlib.Core.Path.{refl}
use Rattle.fact_traffic.proofs.Instances.{mixed_run}
use Rattle.fact_traffic.proofs.mixed_run.Goals as goal

-- The fact is `mixed_run`. Assumes nothing.
pub returns : goal.returns
returns c = (refl, mixed_run)
