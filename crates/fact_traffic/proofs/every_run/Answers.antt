use mathlib.Core.Path.{refl}
use Rattle.fact_traffic.proofs.Demand.{every_run}
use Rattle.fact_traffic.proofs.every_run.Goals as goal

-- The theorem is `every_run`. Assumes nothing.
pub returns : goal.returns
returns c = (refl, every_run)
