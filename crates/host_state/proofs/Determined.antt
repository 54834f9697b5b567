-- "Each public call's contract determines answer, next state and every byte of memory, refusals too": any two outcomes that a contract
-- allows, as Rattle itself reads it (`Post` is a call's whole `ensures`), are equal. Assumes nothing.
use mathlib.Core.Path.{◌≡◌, sym, ◌∙◌}
use Rattle.host_state.specs.declared.state.Host.{Host}
use Rattle.host_state.proofs.state.Host.new.Reads as new

-- Creation.
pub new_determined : (κs : _) (d : _) (r r' : Host) (x x' : _) → new.Post κs d r x → new.Post κs d r' x' → r ≡ r'
new_determined κs d r r' x x' p q = p ∙ sym q
