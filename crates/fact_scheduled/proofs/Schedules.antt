-- A turn is two calls of a run, and a schedule is a run. Assumes nothing.
use Prim.Native.Nat.{ℕ, zero, suc, ◌/◌, ◌%◌, ◌<◌, ◌≤◌}
use mathlib.Core.Path.{◌≡◌, refl, sym, ap, subst, ◌∙◌}
use mathlib.Core.Bool.{Bool, true, false, ◌&&◌}
use mathlib.Core.List.{List, [], ◌∷◌, ◌++◌}
use native.Mathlib.Omega.{arith}
use lib.Dec.{leb, eqb}
use lib.ListN.{length, get_or, drop}
use borrow.Author.Tests.{le-leb, leb-true}
use Rattle.base_words.specs.Words.{address_bits}
use Rattle.base_memory.specs.Memory.{Memory}
use Rattle.port_state.specs.Shake.{created, sa_of}
use Rattle.fact_meeting.specs.Meeting.{Pair, opened}
use Rattle.fact_meeting.proofs.Ways.{honest_is}
use Rattle.host_state.specs.Setup.{set_up_by}
use Rattle.fact_plain.specs.Plain.{start}
use Rattle.program_scheduling.specs.Machine.{Stand, bytes_of, oldest, after_send, after_take, after_fetch, after_answer, send_turn, take_turn, fetch_turn, answer_turn}
use Rattle.program_scheduling.specs.Drive.{side_of, turn_of, turns_of, byte_turns, bytes_turns}
use Rattle.program_scheduling.specs.Opening.{unmet, settled, started_by}
use Rattle.program_scheduling.specs.Schedule.{command_of, response_of, limit_of, zero_bits, takes, line_of, ended_at, run_of, Report}
use Rattle.program_scheduling.specs.declared.drive.Side.{Side}
use Rattle.program_scheduling.specs.declared.drive.Side.TheVariants.{Send, Take, Fetch, Answer}
use Rattle.program_scheduling.specs.declared.machine.Machine.{Machine}
use Rattle.fact_traffic.specs.World.{Ev, Bytes, World, world, act, final}
use Rattle.fact_traffic.specs.Play.{Job, idle, game}
use Rattle.fact_traffic.specs.Traffic.{AllProper, Start, site_of, Promise, AtStart}
use Rattle.fact_traffic.proofs.Demand.{every_run}
use Rattle.fact_traffic.proofs.Instances.{every_pair}
use Rattle.fact_scheduled.specs.Calls.{turn_calls, turns_calls, bytes_calls, settings_of, halves_of, way_of, calls_of, opening_of, bounds, at_rest, Scheduled, EverySchedule}

-- the two halves and the memory of a machine
abbrev within : Stand → World
within x = world x.machine.host x.machine.port x.memory

-- calls one after the other
final_both : (n : ℕ) (a b : List Ev) (w : World) → final (act n) (a ++ b) w ≡ final (act n) b (final (act n) a w)
final_both n [] b w = refl
final_both n (e ∷ a) b w = final_both n a b _

proper_both : (a b : List Ev) → AllProper a → AllProper b → AllProper (a ++ b)
proper_both [] b p q = q
proper_both (e ∷ a) b p q = (p.0, proper_both a b p.1 q)

-- a turn is its two calls
turn_is : (s : Side) (x : Stand) → within (turn_of s x) ≡ final (act address_bits) (turn_calls s x.machine) (within x)
unfolding send_turn take_turn fetch_turn answer_turn after_send after_take after_fetch after_answer
turn_is Send x = refl
turn_is Take x = refl
turn_is Fetch x = refl
turn_is Answer x = refl

turns_are : (k : ℕ) (s : Side) (x : Stand) → within (turns_of k s x) ≡ final (act address_bits) (turns_calls k s x) (within x)
unfolding turns_of
turns_are zero s x = refl
turns_are (suc k) s x =
    turns_are k s (turn_of s x) ∙ ap (final (act address_bits) (turns_calls k s (turn_of s x))) (turn_is s x)
    ∙ sym (final_both address_bits (turn_calls s x.machine) (turns_calls k s (turn_of s x)) (within x))

bytes_are : (bs : List ℕ) (x : Stand) → within (bytes_turns bs x) ≡ final (act address_bits) (bytes_calls bs x) (within x)
unfolding bytes_turns byte_turns
bytes_are [] x = refl
bytes_are (b ∷ bs) x =
    bytes_are bs (byte_turns b x) ∙ ap (final (act address_bits) (bytes_calls bs (byte_turns b x))) (turns_are (b % 64) (side_of (b / 64)) x)
    ∙ sym (final_both address_bits (turns_calls (b % 64) (side_of (b / 64)) x) (bytes_calls bs (byte_turns b x)) (within x))

-- its texts are bytes
two_bytes : (n : ℕ) → Bytes (bytes_of n)
unfolding bytes_of
two_bytes n zero = omega arith
two_bytes n (suc zero) = omega arith
two_bytes n (suc (suc j)) = omega arith

turn_proper : (s : Side) (x : Machine) → AllProper (turn_calls s x)
turn_proper Send x = (two_bytes x.tally.sent, (tt, tt))
turn_proper Take x = (tt, (tt, tt))
turn_proper Fetch x = (tt, (tt, tt))
turn_proper Answer x = (two_bytes (oldest x), (tt, tt))

turns_proper : (k : ℕ) (s : Side) (x : Stand) → AllProper (turns_calls k s x)
turns_proper zero s x = tt
turns_proper (suc k) s x = proper_both (turn_calls s x.machine) (turns_calls k s (turn_of s x)) (turn_proper s x.machine) (turns_proper k s (turn_of s x))

bytes_proper : (bs : List ℕ) (x : Stand) → AllProper (bytes_calls bs x)
bytes_proper [] x = tt
bytes_proper (b ∷ bs) x =
    proper_both (turns_calls (b % 64) (side_of (b / 64)) x) (bytes_calls bs (byte_turns b x)) (turns_proper (b % 64) (side_of (b / 64)) x) (bytes_proper bs (byte_turns b x))

-- the program's opening is that of a run
opens : (input : List ℕ) (m : Memory) → within (started_by (command_of input) (response_of input) (limit_of input) m) ≡ opening_of input m
unfolding started_by settled
opens input m =
    ap (λ (y : Pair). world (set_up_by address_bits y.host 2048 y.memory).state y.port (set_up_by address_bits y.host 2048 y.memory).memory)
    (sym (honest_is 4 (opened (settings_of input) (halves_of input m))))

-- what an accepted input says
and_both : (a b : Bool) → (a && b) ≡ true → (a ≡ true) × (b ≡ true)
and_both true b e = (refl, e)
and_both false b e = absurd (mathlib.Core.Bool.false≢true e)

module _ (input : List ℕ) (e : takes input ≡ true) where
  abbrev form : Bool
  form = leb 2 (length input) && leb (length input) 4096 && eqb (zero_bits input) 0

  limits : ((form && leb 1 (limit_of input)) ≡ true) × (leb (limit_of input) 64 ≡ true)
  unfolding takes
  limits = and_both (form && leb 1 (limit_of input)) (leb (limit_of input) 64) e

  limit_some : 1 ≤ limit_of input
  limit_some = leb-true 1 (limit_of input) (and_both form (leb 1 (limit_of input)) limits.0).1

  limit_most : limit_of input ≤ 64
  limit_most = leb-true (limit_of input) 64 limits.1

  made_so : (unmet (limit_of input)).port.made.limit ≡ limit_of input
  unfolding created
  made_so = rw (le-leb 1 (limit_of input) limit_some, le-leb (limit_of input) 64 limit_most)

  module _ (m : Memory) (bytes : (i : ℕ) → get_or input i 0 < 256) (size : length m ≡ 32768) where
    start_is : Start (settings_of input) (halves_of input m) (way_of input m) [] 2048
    start_is =
        every_pair (command_of input) (response_of input) false 1 (halves_of input m) (omega (arith, bytes 0)) (omega arith) (omega arith) size
        (subst (λ (l : ℕ). 1 ≤ l) (sym made_so) limit_some) (subst (λ (l : ℕ). l ≤ 64) (sym made_so) limit_most)

    at : AtStart (settings_of input) (halves_of input m) (way_of input m) [] 2048
    at = every_run (settings_of input) (halves_of input m) (way_of input m) [] 2048 start_is

    promised : Promise (act address_bits) (site_of (settings_of input) 2048) (bounds input m) (calls_of input m) (opening_of input m) (at_rest (bounds input m))
    promised =
        subst (λ (j : Job). Promise (act address_bits) (site_of (settings_of input) 2048) (bounds input m) (calls_of input m) (opening_of input m) (game (start (bounds input m)) idle idle idle j)) (at.nothing_early refl).1
        (subst (λ (j : Job). Promise (act address_bits) (site_of (settings_of input) 2048) (bounds input m) (calls_of input m) (opening_of input m) (game (start (bounds input m)) idle idle j at.poster)) (at.nothing_early refl).0
        (at.promise (calls_of input m) (bytes_proper (drop 2 input) (started_by (command_of input) (response_of input) (limit_of input) m))))

    last : Stand
    last = bytes_turns (drop 2 input) (started_by (command_of input) (response_of input) (limit_of input) m)

    run_is : run_of input m ≡ ended_at last
    unfolding run_of last
    run_is = rw e

    last_is : within last ≡ final (act address_bits) (calls_of input m) (opening_of input m)
    unfolding last
    last_is =
        bytes_are (drop 2 input) (started_by (command_of input) (response_of input) (limit_of input) m) ∙ ap (final (act address_bits) (calls_of input m)) (opens input m)

    scheduled : Scheduled input m
    scheduled =
        record {
          starts = start_is;
          bytes = bytes_proper (drop 2 input) (started_by (command_of input) (response_of input) (limit_of input) m);
          promise = promised;
          memory = ap (λ (r : Report). r.memory) run_is ∙ ap (λ (w : World). w.memory) last_is;
          line = line_of last.machine;
          printed = ap (λ (r : Report). r.line) run_is;
          account = ap (λ (w : World). w.host.counts.account) last_is ∙ sym promised.account;
          owed = ap (λ (w : World). w.port.counts.owed) last_is ∙ sym promised.owed;
          quiet = ap (λ (w : World). sa_of w.port) last_is ∙ promised.quiet;
        }

pub every_schedule : EverySchedule
every_schedule input m bytes size e = scheduled input e m bytes size
