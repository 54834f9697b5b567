use mathlib.Core.Path.{refl}
use Rattle.fact_traffic.proofs.ShutOut.{shut_out}
use Rattle.fact_traffic.proofs.errors_shut_out.Goals as goal

-- The theorem is `shut_out`. Assumes nothing.
pub returns : goal.returns
returns c = (refl, shut_out)
