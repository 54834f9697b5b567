use mathlib.Core.Path.{refl}
use Rattle.fact_zeros.proofs.Fetched.{every_fetch}
use Rattle.fact_zeros.proofs.Taken.{every_take}
use Rattle.fact_zeros.proofs.every_text.Goals as goal

-- src/lib.rt:10:1
pub returns : goal.returns
returns c = (refl, record { fetched = every_fetch; taken = every_take })
