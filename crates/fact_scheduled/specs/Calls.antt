-- A schedule as a list of calls, and what demand 3 then promises of the line that is printed.
use Rattle.std.specs.Prelude.{ℕ, zero, suc, ◌/◌, ◌%◌, ◌<◌, ◌≡◌, true, false, List, [], ◌∷◌, ◌++◌, length, get_or, drop, Some}
use Rattle.base_words.specs.Words.{address_bits}
use Rattle.base_memory.specs.Memory.{Memory}
use Rattle.host_state.specs.declared.state.Beginning.{Beginning}
use Rattle.fact_meeting.specs.Meeting.{Pair, pair, opened, Sight, honest}
use Rattle.fact_plain.specs.Plain.{Bounds, start}
use Rattle.program_scheduling.specs.Machine.{Stand, bytes_of, oldest}
use Rattle.program_scheduling.specs.Drive.{side_of, turn_of, byte_turns}
use Rattle.program_scheduling.specs.Opening.{asked, unmet, started_by}
use Rattle.program_scheduling.specs.Schedule.{command_of, response_of, limit_of, takes, run_of}
use Rattle.program_scheduling.specs.declared.Line.{Line}
use Rattle.program_scheduling.specs.declared.drive.Side.{Side}
use Rattle.program_scheduling.specs.declared.drive.Side.TheVariants.{Send, Take, Fetch, Answer}
use Rattle.program_scheduling.specs.declared.machine.Machine.{Machine}
use Rattle.fact_traffic.specs.World.{Ev, begin_send, step_send, begin_take, step_take, begin_fetch, step_fetch, begin_post, step_post, World, act, final}
use Rattle.fact_traffic.specs.Play.{idle, Play, game}
use Rattle.fact_traffic.specs.Traffic.{AllProper, started, Start, bounds_of, site_of, reckoned, Promise}

-- A turn is two calls: the beginning, which a busy side refuses, and one step.
abbrev pub turn_calls : Side → Machine → List Ev
turn_calls Send x = begin_send false (bytes_of x.tally.sent) ∷ step_send ∷ []
turn_calls Take x = begin_take ∷ step_take ∷ []
turn_calls Fetch x = begin_fetch ∷ step_fetch ∷ []
turn_calls Answer x = begin_post true (bytes_of (oldest x)) ∷ step_post ∷ []

abbrev pub turns_calls : ℕ → Side → Stand → List Ev
turns_calls zero s x = []
turns_calls (suc k) s x = turn_calls s x.machine ++ turns_calls k s (turn_of s x)

abbrev pub bytes_calls : List ℕ → Stand → List Ev
bytes_calls [] x = []
bytes_calls (b ∷ bs) x = turns_calls (b % 64) (side_of (b / 64)) x ++ bytes_calls bs (byte_turns b x)

-- What an input asks for: settings, halves that have not met, and the calls.
abbrev pub settings_of : List ℕ → Beginning
settings_of input = asked (command_of input) (response_of input)

abbrev pub halves_of : List ℕ → Memory → Pair
halves_of input m = pair (unmet (limit_of input)).host (unmet (limit_of input)).port m

abbrev pub calls_of : List ℕ → Memory → List Ev
calls_of input m = bytes_calls (drop 2 input) (started_by (command_of input) (response_of input) (limit_of input) m)

-- The host is shown what the port shows, four times.
abbrev pub way_of : List ℕ → Memory → List Sight
way_of input m = honest 4 (opened (settings_of input) (halves_of input m))

abbrev pub opening_of : List ℕ → Memory → World
opening_of input m = started (settings_of input) (halves_of input m) (way_of input m) [] 2048

abbrev pub bounds : List ℕ → Memory → Bounds
bounds input m = bounds_of (settings_of input) (halves_of input m)

-- The plain machine before the first call: empty queues, nothing begun.
abbrev pub at_rest : Bounds → Play
at_rest b = game (start b) idle idle idle idle

-- An input's run is one of demand 3's: it starts where those start, its calls are theirs, and it has their promise; a line is printed,
-- and what it says for account, owed and SA is what the plain machine has.
pub record Scheduled (input : List ℕ) (m : Memory) : Type 0 where
  pub starts : Start (settings_of input) (halves_of input m) (way_of input m) [] 2048
  pub bytes : AllProper (calls_of input m)
  pub promise : Promise (act address_bits) (site_of (settings_of input) 2048) (bounds input m) (calls_of input m) (opening_of input m) (at_rest (bounds input m))
  pub memory : (run_of input m).memory ≡ (final (act address_bits) (calls_of input m) (opening_of input m)).memory
  pub line : Line
  pub printed : (run_of input m).line ≡ Some line
  pub account : line.account ≡ (reckoned (act address_bits) (bounds input m) (calls_of input m) (opening_of input m) (at_rest (bounds input m))).account
  pub owed : line.owed ≡ (reckoned (act address_bits) (bounds input m) (calls_of input m) (opening_of input m) (at_rest (bounds input m))).owed
  pub quiet : line.sa ≡ 0

-- Every input that is accepted, over any 32 KiB.
abbrev pub EverySchedule : Type 0
EverySchedule =
    (input : List ℕ) (m : Memory) → ((i : ℕ) → get_or input i 0 < 256) → length m ≡ 32768 → takes input ≡ true → Scheduled input m
