use mathlib.Core.Path.{refl}
use Rattle.fact_credit.proofs.Ledgers.{every_ledger, happens}
use Rattle.fact_credit.proofs.every_ledger.Goals as goal

-- src/lib.rt:7:1
pub returns : goal.returns
returns c = (refl, every_ledger, happens)
