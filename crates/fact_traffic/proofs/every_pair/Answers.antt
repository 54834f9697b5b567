use mathlib.Core.Path.{refl}
use Rattle.fact_traffic.proofs.Instances.{every_pair}
use Rattle.fact_traffic.proofs.every_pair.Goals as goal

-- The fact is `every_pair`. Assumes nothing.
pub returns : goal.returns
returns c = (refl, every_pair)
