-- "Each public call's contract determines answer, next state and every byte of memory, refusals too": any two outcomes that a contract
-- allows, as Rattle itself reads it (`Post` is a call's whole `ensures`), are equal. Assumes nothing.
use mathlib.Core.Path.{◌≡◌, refl, sym, ap, ◌∙◌}
use Rattle.base_answers.proofs.Laws.{refusal_of, refusal_back}
use Rattle.host_state.specs.Shake.{Asks, writes_ip, writes_sa, waiting, dead, none, port_fatal, refuses, asks_of, Turn, turn_by}
use Rattle.host_state.specs.declared.state.Act.{Act}
use Rattle.host_state.specs.declared.state.Act.TheVariants.{WriteIp, WriteSa, Waiting, IsDead, None, PortFailed, Denied}
use Rattle.host_state.specs.declared.state.Shaken.{Shaken}
use Rattle.host_handshake.proofs.begin.Reads as begin
use Rattle.host_handshake.proofs.sa_seen.Reads as sa_seen
use Rattle.host_handshake.proofs.time_is_up.Reads as time_is_up

-- What the handshake asks gives the act back.
act_of : Asks → Act
act_of writes_ip = WriteIp
act_of (writes_sa w) = WriteSa w
act_of waiting = Waiting
act_of dead = IsDead
act_of none = None
act_of (port_fatal x) = PortFailed x
act_of (refuses k) = Denied (refusal_of k)

act_back : (a : Act) → act_of (asks_of a) ≡ a
unfolding act_of
act_back WriteIp = refl
act_back (WriteSa w) = refl
act_back Waiting = refl
act_back IsDead = refl
act_back None = refl
act_back (PortFailed x) = refl
act_back (Denied r) = ap Denied (refusal_back r)

shaken_same : (r r' : Shaken) → turn_by r ≡ turn_by r' → r ≡ r'
shaken_same r r' e =
    let p : r.act ≡ r'.act = sym (act_back r.act) ∙ ap (λ (t : Turn). act_of t.asks) e ∙ act_back r'.act in
    λ i. record { act = p i; size = (e i).size; bytes = (e i).bytes; host = (e i).state }

-- None of the calls is lent memory.
pub begin_determined : (κs : _) (d : _) (r r' : Shaken) (x x' : _) → begin.Post κs d r x → begin.Post κs d r' x' → r ≡ r'
begin_determined κs d r r' x x' p q = shaken_same r r' (p ∙ sym q)

pub sa_seen_determined : (κs : _) (d : _) (r r' : Shaken) (x x' : _) → sa_seen.Post κs d r x → sa_seen.Post κs d r' x' → r ≡ r'
sa_seen_determined κs d r r' x x' p q = shaken_same r r' (p ∙ sym q)

pub time_is_up_determined : (κs : _) (d : _) (r r' : Shaken) (x x' : _) → time_is_up.Post κs d r x → time_is_up.Post κs d r' x' → r ≡ r'
time_is_up_determined κs d r r' x x' p q = shaken_same r r' (p ∙ sym q)
