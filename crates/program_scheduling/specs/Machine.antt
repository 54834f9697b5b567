-- Both halves with what the schedule program counts, and one step of each side. Document 01, "The schedule program".
use Rattle.std.specs.Prelude.{ℕ, ◌+◌, ◌/◌, ◌%◌, ◌^◌, Bool, true, false, cond, List, [], ◌∷◌, nat_lt, slice_index, slice_set}
use Rattle.base_side.specs.Step.{Outcome}
use Rattle.base_words.specs.Words.{address_bits}
use Rattle.base_memory.specs.Memory.{Memory}
use Rattle.base_texts.specs.Texts.{word_of}
use Rattle.base_answers.specs.Told.{Told, Closing, going, done, refused, fatal}
use Rattle.port_state.specs.Fetch.{fetch_begun, fetch_step}
use Rattle.port_state.specs.Post.{post_begun, post_step}
use Rattle.port_state.specs.declared.state.Port.{Port}
use Rattle.host_state.specs.Send.{send_begun, send_step}
use Rattle.host_state.specs.Take.{take_begun, take_step}
use Rattle.host_state.specs.declared.state.Asked.{Asked}
use Rattle.host_state.specs.declared.state.Host.{Host}
use Rattle.program_scheduling.specs.declared.machine.Tally.{Tally}
use Rattle.program_scheduling.specs.declared.machine.Machine.{Machine}

-- The machine over its memory.
pub record Stand : Type 0 where
  pub machine : Machine
  pub memory : Memory

abbrev pub stand : Machine → Memory → Stand
stand x m = record { machine = x; memory = m }

-- A number, or the next where something is counted. It wraps at 2^32, which 4,094 bytes of at most 63 steps do not reach.
unfoldable pub counted_if : Bool → ℕ → ℕ
counted_if b n = cond b ((n + 1) % 2 ^ 32) n

-- Whether an answer closes its operation well.
abbrev pub closes : Closing → Bool
closes going = false
closes done = true
closes (refused k) = false
closes (fatal x) = false

unfoldable pub is_done : Told → Bool
is_done t = closes t.closing

-- A 16-bit number as a text, "low byte first", and the number that a text's first two bytes say.
unfoldable pub bytes_of : ℕ → List ℕ
bytes_of n = n % 256 ∷ n / 256 % 256 ∷ []

unfoldable pub text_in : Told → ℕ
text_in t = word_of t.bytes 2 0

-- What a step of each side counts.
abbrev pub with_sent : Tally → Bool → Tally
with_sent t b =
    record { sent = counted_if b t.sent; taken = t.taken; fetched = t.fetched; answered = t.answered; command = t.command; response = t.response }

abbrev pub with_taken : Tally → Bool → Tally
with_taken t b =
    record { sent = t.sent; taken = counted_if b t.taken; fetched = t.fetched; answered = t.answered; command = t.command; response = t.response }

abbrev pub with_fetched : Tally → Bool → Bool → Tally
with_fetched t b i =
    record { sent = t.sent; taken = t.taken; fetched = counted_if b t.fetched; answered = t.answered; command = counted_if i t.command; response = t.response }

abbrev pub with_answered : Tally → Bool → Bool → Tally
with_answered t b i =
    record { sent = t.sent; taken = t.taken; fetched = t.fetched; answered = counted_if b t.answered; command = t.command; response = counted_if i t.response }

-- The text of command number k stands at k mod 64: at most 64 are open, so no two open ones meet. The oldest open one is
-- the first not answered.
unfoldable pub oldest : Machine → ℕ
oldest x = slice_index x.texts (x.tally.answered % 64)

unfoldable pub kept : Machine → Bool → ℕ → List ℕ
kept x b t = cond b (slice_set x.texts (x.tally.fetched % 64) t) x.texts

-- The machine after a step of each side, by that step's answer and the half that it left. A send, a take and a fetch finish
-- with their closing answer; an answer at its high-word write, where the port's open commands become fewer. The fetched text is
-- kept from the closing answer. A step that reports an interrupt has written its ring's indicator.
unfoldable pub after_send : Machine → Told → Host → Machine
after_send x t h = record { host = h; port = x.port; tally = with_sent x.tally (is_done t); texts = x.texts }

unfoldable pub after_take : Machine → Told → Host → Machine
after_take x t h = record { host = h; port = x.port; tally = with_taken x.tally (is_done t); texts = x.texts }

unfoldable pub after_fetch : Machine → Told → Port → Machine
after_fetch x t p =
    record { host = x.host; port = p; tally = with_fetched x.tally (is_done t) t.interrupt; texts = kept x (is_done t) (text_in t) }

unfoldable pub after_answer : Machine → Told → Port → Machine
after_answer x t p =
    record {
      host = x.host;
      port = p;
      tally = with_answered x.tally (nat_lt p.counts.unanswered x.port.counts.unanswered) t.interrupt;
      texts = x.texts;
    }

abbrev pub send_ends : Machine → Outcome Host → Stand
send_ends x o = stand (after_send x o.told o.state) o.memory

abbrev pub take_ends : Machine → Outcome Host → Stand
take_ends x o = stand (after_take x o.told o.state) o.memory

abbrev pub fetch_ends : Machine → Outcome Port → Stand
fetch_ends x o = stand (after_fetch x o.told o.state) o.memory

abbrev pub answer_ends : Machine → Outcome Port → Stand
answer_ends x o = stand (after_answer x o.told o.state) o.memory

-- "F=0".
abbrev pub unflagged : Asked
unflagged = record { flag = false }

-- A step of each side. "An idle side begins its operation anew": a busy one refuses the beginning (2) and is unchanged; so does
-- the post side where nothing is open (4), and its step (12) changes nothing either.
unfoldable pub send_turn : Machine → Memory → Stand
send_turn x m = send_ends x (send_step address_bits (send_begun x.host unflagged (bytes_of x.tally.sent)).state m)

unfoldable pub take_turn : Machine → Memory → Stand
take_turn x m = take_ends x (take_step address_bits (take_begun x.host).state m)

unfoldable pub fetch_turn : Machine → Memory → Stand
fetch_turn x m = fetch_ends x (fetch_step address_bits (fetch_begun x.port).state m)

unfoldable pub answer_turn : Machine → Memory → Stand
answer_turn x m = answer_ends x (post_step address_bits (post_begun x.port (record { answers = true }) (bytes_of (oldest x))).state m)
