-- "Fetch: read high word; low word; length; header; text words; write high word with O=0, F=1", then the tail if F was 1.
use Rattle.std.specs.Prelude.{ℕ, ◌+◌, ◌*◌, ◌-◌, min, Bool, true, false, cond, ◌&&◌, leb, ltb, Option, Result, Ok, Err}
use Rattle.base_words.specs.Fields.{of, is_set, flagged, connection, message_type}
use Rattle.base_words.specs.Words.{address_of, high_word}
use Rattle.base_texts.specs.Texts.{zeros, words_of, with_text}
use Rattle.base_memory.specs.Memory.{Memory}
use Rattle.base_memory.specs.declared.Touch.{Touch}
use Rattle.base_memory.specs.declared.Touch.TheVariants.{Read, Write}
use Rattle.base_answers.specs.Told.{carried}
use Rattle.base_answers.specs.declared.Fatal.{Fatal}
use Rattle.base_answers.specs.declared.Fatal.TheVariants.{EnvelopeRead, CreditLimit}
use Rattle.base_rules.specs.Rules.{fault_of}
use Rattle.base_area.specs.Layout.{slot_at, next_of}
use Rattle.base_area.specs.declared.Area.{Area}
use Rattle.base_area.specs.declared.Ring.TheVariants.{Command}
use Rattle.base_side.specs.Place.{start_of, with_envelope, with_size}
use Rattle.base_side.specs.Step.{Next, Outcome, onward}
use Rattle.base_side.specs.declared.Cursor.{Cursor}
use Rattle.port_state.specs.State.{serving_of, with_fetcher, with_incoming, with_counts, fail}
use Rattle.port_state.specs.Tail.{TailEnd, tail_start}
use Rattle.port_state.specs.Side.{text_or_release, outside_as, looked, followed, tailed_on, port_step, port_begun}
use Rattle.port_state.specs.declared.state.Stage.{Stage}
use Rattle.port_state.specs.declared.state.Stage.TheVariants.{High, Low, Length, Header, Text, Release}
use Rattle.port_state.specs.declared.state.Side.TheVariants.{Idle, At, Tail}
use Rattle.port_state.specs.declared.state.Port.{Port}

-- The word that each stage asks for.
unfoldable pub fetch_asks : ℕ → Area → Stage → Cursor → Touch
fetch_asks n a High c = Read (slot_at n a Command c.slot + 2)
fetch_asks n a Low c = Read (slot_at n a Command c.slot)
fetch_asks n a Length c = Read c.envelope
fetch_asks n a Header c = Read (c.envelope + 2)
fetch_asks n a Text c = Read (c.envelope + 4 + 2 * c.at)
fetch_asks n a Release c = Write (slot_at n a Command c.slot + 2) (high_word false true c.high)

-- Where that word lies outside: "A ring read outside is 6, a ring write outside 7"; "an envelope word gives 1".
abbrev pub fetch_outside : Stage → Fatal
fetch_outside s = outside_as EnvelopeRead s

-- Refusal 7: "fetch's first step, O=0".
unfoldable pub fetch_high : Port → Cursor → ℕ → Next Port
fetch_high p c v = looked p Command 7 c v

-- "after the low word, the four bytes from text-4 outside memory, 1". The cursor keeps where the envelope starts, text-4.
unfoldable pub fetch_low : ℕ → Port → ℕ → Cursor → ℕ → Next Port
fetch_low n p end c v =
    cond (leb 4 (address_of n v c.high) && leb (address_of n v c.high) end)
    (onward (with_fetcher p (At Length (with_envelope c (address_of n v c.high - 4)))))
    (fail p EnvelopeRead)

-- "no credit out (the first credit and all granted since are used up by fetched commands), 10": credits out are
-- limit - still to grant - open.
abbrev pub credit_out : Port → Bool
credit_out p = ltb (p.counts.owed + p.counts.unanswered) p.made.limit

-- "after the header, type not 0, 20; connection not 0, 14; length over 60, 20; the text's words outside memory, 1; no credit out, 10".
abbrev pub header_sound : Port → ℕ → Cursor → Result (Unit {0}) Fatal → Next Port
header_sound p end c (Err x) = fail p x
header_sound p end c (Ok u) =
    cond (leb (c.envelope + 4 + 2 * words_of c.size) end)
    (cond (credit_out p) (onward (with_fetcher p (text_or_release c 0))) (fail p CreditLimit))
    (fail p EnvelopeRead)

unfoldable pub fetch_header : Port → ℕ → Cursor → ℕ → Next Port
fetch_header p end c v = header_sound p end c (fault_of (of message_type v) (of connection v) c.size)

-- What a judged header leads to.
abbrev pub header_ended : Port → Cursor → Result (Unit {0}) Fatal → Next Port
header_ended p c (Err x) = fail p x
header_ended p c (Ok u) = onward (with_fetcher p (text_or_release c 0))

unfoldable pub fetch_text : Port → Cursor → ℕ → Next Port
fetch_text p c v = onward (with_fetcher (with_incoming p (with_text p.incoming c.size c.at v)) (text_or_release c (c.at + 1)))

-- "The high-word write is where index, account and totals change": one more command is open. The count stays at 255.
unfoldable pub fetched : Port → Area → Cursor → Port
fetched p a c =
    with_counts p (record { fetch = next_of a Command c.slot; post = p.counts.post; owed = p.counts.owed; unanswered = min (p.counts.unanswered + 1) 255 })

-- "The result carries the text in 60 bytes, zero beyond its length."
abbrev pub fetch_closed : Port → Cursor → Bool → Next Port
fetch_closed p c i = record { told = carried c.size p.incoming i; state = with_fetcher p Idle }

unfoldable pub fetch_release : Port → Area → Cursor → Next Port
fetch_release p a c =
    cond (is_set flagged c.high)
    (onward (with_fetcher (fetched p a c) (Tail (tail_start a Command) c)))
    (fetch_closed (fetched p a c) c false)

-- What follows from the word that a stage found,
abbrev pub fetch_finds : ℕ → Port → Area → ℕ → Stage → Cursor → ℕ → Next Port
fetch_finds n p a end High c v = fetch_high p c v
fetch_finds n p a end Low c v = fetch_low n p end c v
fetch_finds n p a end Length c v = onward (with_fetcher p (At Header (with_size c v)))
fetch_finds n p a end Header c v = fetch_header p end c v
fetch_finds n p a end Text c v = fetch_text p c v
fetch_finds n p a end Release c v = fetch_release p a c

-- or from none; and from a tail step.
unfoldable pub fetch_follows : ℕ → Port → Area → ℕ → Stage → Cursor → Option ℕ → Next Port
fetch_follows n p a end s c w = followed p (fetch_outside s) (fetch_finds n p a end s c) w

unfoldable pub fetch_tailed : Port → Cursor → TailEnd → Next Port
fetch_tailed p c x = tailed_on p Command (fetch_closed p) c x

-- A step of the fetch side, and its beginning.
unfoldable pub fetch_step : ℕ → Port → Memory → Outcome Port
fetch_step n p m = port_step n p Command (fetch_asks n) (fetch_follows n p) (fetch_tailed p) m p.fetcher (serving_of p.phase)

abbrev pub fetch_begins : Port → Next Port
fetch_begins p = onward (with_fetcher (with_incoming p zeros) (At High (start_of p.counts.fetch 0 0)))

unfoldable pub fetch_begun : Port → Next Port
fetch_begun p = port_begun p (fetch_begins p) p.fetcher (serving_of p.phase)
