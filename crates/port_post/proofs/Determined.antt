-- "Each public call's contract determines answer, next state and every byte of memory, refusals too": any two outcomes that a contract
-- allows, as Rattle itself reads it (`Post` is a call's whole `ensures`), are equal. Assumes nothing.
use mathlib.Core.Path.{◌≡◌, sym, ◌∙◌}
use Rattle.base_side.specs.declared.Stepped.{Stepped}
use Rattle.port_state.specs.declared.state.Port.{Port}
use Rattle.base_side.proofs.StepLaws.{stepped_same, outcome_same}
use Rattle.port_post.proofs.begin_answer.Reads as begin_answer
use Rattle.port_post.proofs.begin_unsolicited.Reads as begin_unsolicited
use Rattle.port_post.proofs.step_post.Reads as step_post

-- A beginning touches no memory: none is lent to it.
pub begin_answer_determined : (κs : _) (d : _) (r r' : Stepped Port) (x x' : _) → begin_answer.Post κs d r x → begin_answer.Post κs d r' x' → r ≡ r'
begin_answer_determined κs d r r' x x' p q = stepped_same r r' (p ∙ sym q)

pub begin_unsolicited_determined : (κs : _) (d : _) (r r' : Stepped Port) (x x' : _) → begin_unsolicited.Post κs d r x → begin_unsolicited.Post κs d r' x' → r ≡ r'
begin_unsolicited_determined κs d r r' x x' p q = stepped_same r r' (p ∙ sym q)

-- A step: answer, next state and every byte of the lent memory at exit.
pub step_post_determined : (κs : _) (d : _) (r r' : Stepped Port) (x x' : _) → step_post.Post κs d r x → step_post.Post κs d r' x' → (r ≡ r') × (x.1.0.now ≡ x'.1.0.now)
step_post_determined κs d r r' x x' p q = outcome_same r r' x.1.0.now x'.1.0.now (p ∙ sym q)
