use mathlib.Core.Path.{refl}
use Rattle.fact_layout.proofs.Rings.{every_layout}
use Rattle.fact_layout.proofs.every_layout.Goals as goal

-- The facts are `every_layout`. Assumes nothing.
pub returns : goal.returns
returns c = (refl, every_layout)
