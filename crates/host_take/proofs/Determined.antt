-- "Each public call's contract determines answer, next state and every byte of memory, refusals too": any two outcomes that a contract
-- allows, as Rattle itself reads it (`Post` is a call's whole `ensures`), are equal. Assumes nothing.
use mathlib.Core.Path.{◌≡◌, sym, ◌∙◌}
use Rattle.base_side.specs.declared.Stepped.{Stepped}
use Rattle.host_state.specs.declared.state.Host.{Host}
use Rattle.base_side.proofs.StepLaws.{stepped_same, outcome_same}
use Rattle.host_take.proofs.begin_take.Reads as begin_take
use Rattle.host_take.proofs.step_take.Reads as step_take

-- A beginning touches no memory: none is lent to it.
pub begin_take_determined : (κs : _) (d : _) (r r' : Stepped Host) (x x' : _) → begin_take.Post κs d r x → begin_take.Post κs d r' x' → r ≡ r'
begin_take_determined κs d r r' x x' p q = stepped_same r r' (p ∙ sym q)

-- A step: answer, next state and every byte of the lent memory at exit.
pub step_take_determined : (κs : _) (d : _) (r r' : Stepped Host) (x x' : _) → step_take.Post κs d r x → step_take.Post κs d r' x' → (r ≡ r') × (x.1.0.now ≡ x'.1.0.now)
step_take_determined κs d r r' x x' p q = outcome_same r r' x.1.0.now x'.1.0.now (p ∙ sym q)
