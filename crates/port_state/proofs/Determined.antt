-- "Each public call's contract determines answer, next state and every byte of memory, refusals too": any two outcomes that a contract
-- allows, as Rattle itself reads it (`Post` is a call's whole `ensures`), are equal. Assumes nothing.
use mathlib.Core.Path.{◌≡◌, sym, ◌∙◌}
use Rattle.base_side.specs.declared.Stepped.{Stepped}
use Rattle.base_side.proofs.StepLaws.{stepped_same}
use Rattle.port_state.specs.declared.state.Port.{Port}
use Rattle.port_state.proofs.state.Port.create.Reads as create

-- Creation.
pub create_determined : (κs : _) (d : _) (r r' : Stepped Port) (x x' : _) → create.Post κs d r x → create.Post κs d r' x' → r ≡ r'
create_determined κs d r r' x x' p q = stepped_same r r' (p ∙ sym q)
