-- Runs of exchanges, of steps and of bytes with one more at their end. Assumes nothing.
use Rattle.std.proofs.Common.{◌≡◌, ℕ, zero, suc, ◌+◌, ◌<◌, List, length, get_or, drop, refl, sym, ap, ◌∙◌, add-one, drop-cons}
use Rattle.fact_meeting.specs.Meeting.{Pair, exchange, exchanges}
use Rattle.program_scheduling.specs.Machine.{Stand}
use Rattle.program_scheduling.specs.Drive.{turn_of, turns_of, byte_turns, bytes_turns}
use Rattle.program_scheduling.specs.declared.drive.Side.{Side}

one_more : (k : ℕ) (x : Pair) → exchange (exchanges k x) ≡ exchanges (suc k) x
unfolding exchanges
one_more zero x = refl
one_more (suc k) x = one_more k (exchange x)

pub exchanges_more : (k : ℕ) (x y z : Pair) → y ≡ exchanges k x → z ≡ exchange y → z ≡ exchanges (k + 1) x
exchanges_more k x y z e f = rw (add-one k) (f ∙ ap exchange e ∙ one_more k x)

turn_more : (k : ℕ) (s : Side) (x : Stand) → turn_of s (turns_of k s x) ≡ turns_of (suc k) s x
unfolding turns_of
turn_more zero s x = refl
turn_more (suc k) s x = turn_more k s (turn_of s x)

pub turns_more : (k : ℕ) (s : Side) (x y z : Stand) → y ≡ turns_of k s x → z ≡ turn_of s y → z ≡ turns_of (k + 1) s x
turns_more k s x y z e f = rw (add-one k) (f ∙ ap (turn_of s) e ∙ turn_more k s x)

pub bytes_more : (l : List ℕ) (i : ℕ) (x y : Stand) → i < length l → y ≡ byte_turns (get_or l i 0) x → bytes_turns (drop (i + 1) l) y ≡ bytes_turns (drop i l) x
unfolding bytes_turns
bytes_more l i x y h e =
    ap (λ (k : ℕ). bytes_turns (drop k l) y) (add-one i)
    ∙ ap (bytes_turns (drop (suc i) l)) e
    ∙ ap (λ (z : List ℕ). bytes_turns z x) (sym (drop-cons l i 0 h))
