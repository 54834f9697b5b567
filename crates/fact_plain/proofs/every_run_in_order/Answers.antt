use mathlib.Core.Path.{refl}
use Rattle.fact_plain.proofs.InOrder.{every_run_in_order}
use Rattle.fact_plain.proofs.every_run_in_order.Goals as goal

-- The fact is `every_run_in_order`. Assumes nothing.
pub returns : goal.returns
returns c = (refl, every_run_in_order)
