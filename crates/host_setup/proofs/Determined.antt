-- "Each public call's contract determines answer, next state and every byte of memory, refusals too": any two outcomes that a contract
-- allows, as Rattle itself reads it (`Post` is a call's whole `ensures`), are equal. Assumes nothing.
use mathlib.Core.Path.{◌≡◌, sym, ◌∙◌}
use Rattle.base_side.specs.declared.Stepped.{Stepped}
use Rattle.host_state.specs.declared.state.Host.{Host}
use Rattle.base_side.proofs.StepLaws.{outcome_same}
use Rattle.host_setup.proofs.set_up.Reads as set_up
use Rattle.host_setup.proofs.clear_indicator.Reads as clear_indicator

-- Answer, next state and every byte of the lent memory at exit.
pub set_up_determined : (κs : _) (d : _) (r r' : Stepped Host) (x x' : _) → set_up.Post κs d r x → set_up.Post κs d r' x' → (r ≡ r') × (x.1.1.0.now ≡ x'.1.1.0.now)
set_up_determined κs d r r' x x' p q = outcome_same r r' x.1.1.0.now x'.1.1.0.now (p ∙ sym q)

pub clear_indicator_determined : (κs : _) (d : _) (r r' : Stepped Host) (x x' : _) → clear_indicator.Post κs d r x → clear_indicator.Post κs d r' x' → (r ≡ r') × (x.1.1.0.now ≡ x'.1.1.0.now)
clear_indicator_determined κs d r r' x x' p q = outcome_same r r' x.1.1.0.now x'.1.1.0.now (p ∙ sym q)
