-- "Each public call's contract determines answer, next state and every byte of memory, refusals too": any two outcomes that a contract
-- allows, as Rattle itself reads it (`Post` is a call's whole `ensures`), are equal. Assumes nothing.
use Prim.Native.Nat.{ℕ}
use mathlib.Core.Path.{◌≡◌, sym, ◌∙◌}
use Rattle.port_state.specs.declared.state.Port.{Port}
use Rattle.base_side.specs.declared.Stepped.{Stepped}
use Rattle.port_state.specs.declared.state.Port.{Port}
use Rattle.base_side.proofs.StepLaws.{outcome_same}
use Rattle.port_registers.proofs.write_ip.Reads as write_ip
use Rattle.port_registers.proofs.sa.Reads as sa
use Rattle.port_registers.proofs.write_sa.Reads as write_sa

-- A write to IP, a read of SA.
pub write_ip_determined : (κs : _) (d : _) (r r' : Port) (x x' : _) → write_ip.Post κs d r x → write_ip.Post κs d r' x' → r ≡ r'
write_ip_determined κs d r r' x x' p q = p ∙ sym q

pub sa_determined : (κs : _) (d : _) (r r' : ℕ) (x x' : _) → sa.Post κs d r x → sa.Post κs d r' x' → r ≡ r'
sa_determined κs d r r' x x' p q = p ∙ sym q

-- A write to SA: answer, next state and every byte of the lent memory at exit.
pub write_sa_determined : (κs : _) (d : _) (r r' : Stepped Port) (x x' : _) → write_sa.Post κs d r x → write_sa.Post κs d r' x' → (r ≡ r') × (x.1.1.0.now ≡ x'.1.1.0.now)
write_sa_determined κs d r r' x x' p q = outcome_same r r' x.1.1.0.now x'.1.1.0.now (p ∙ sym q)
