-- "Take: read high word; length; header; text words; write 60 as length; write high word with O=1, F=1."
use Rattle.std.specs.Prelude.{ℕ, ◌+◌, ◌*◌, min, true, false, cond, leb, Option, Result, Ok, Err}
use Rattle.base_words.specs.Fields.{of, is_set, owner, connection, message_type, credits}
use Rattle.base_words.specs.Words.{high_word}
use Rattle.base_texts.specs.Texts.{room, zeros, with_text}
use Rattle.base_memory.specs.Memory.{Memory}
use Rattle.base_memory.specs.declared.Touch.{Touch}
use Rattle.base_memory.specs.declared.Touch.TheVariants.{Read, Write}
use Rattle.base_answers.specs.Told.{carried}
use Rattle.base_answers.specs.declared.Fatal.{Fatal}
use Rattle.base_rules.specs.Rules.{fault_of, most_account}
use Rattle.base_area.specs.Layout.{slot_at, next_of}
use Rattle.base_area.specs.declared.Ring.TheVariants.{Response}
use Rattle.base_side.specs.Place.{start_of, with_high, with_size}
use Rattle.base_side.specs.Step.{Next, Outcome, onward}
use Rattle.base_side.specs.declared.Cursor.{Cursor}
use Rattle.host_state.specs.State.{is_ready, envelope_of, with_taker, with_incoming, with_counts}
use Rattle.host_state.specs.Side.{text_or_closing, refuse, followed, host_step, host_begun}
use Rattle.host_state.specs.declared.state.Stage.{Stage}
use Rattle.host_state.specs.declared.state.Stage.TheVariants.{High, Length, Header, Text, Closing, Release}
use Rattle.host_state.specs.declared.state.Side.TheVariants.{Idle, At}
use Rattle.host_state.specs.declared.state.Host.{Host}

-- The word that each stage asks for.
unfoldable pub take_asks : ℕ → Host → Stage → Cursor → Touch
take_asks n h High c = Read (slot_at n h.area Response c.slot + 2)
take_asks n h Length c = Read c.envelope
take_asks n h Header c = Read (c.envelope + 2)
take_asks n h Text c = Read (c.envelope + 4 + 2 * c.at)
take_asks n h Closing c = Write c.envelope room
take_asks n h Release c = Write (slot_at n h.area Response c.slot + 2) (high_word true true c.high)

-- Refusal 7: "take's first step, O=1".
unfoldable pub take_high : Host → Cursor → ℕ → Next Host
take_high h c v = cond (is_set owner v) (refuse h Response 7) (onward (with_taker h (At Length (with_high c v))))

-- Refusal 9: "take, after the header: length over 60, type not 0, connection not 0, or account plus its credits above 255".
abbrev pub take_sound : Host → Cursor → ℕ → Result (Unit {0}) Fatal → Next Host
take_sound h c k (Err x) = refuse h Response 9
take_sound h c k (Ok u) =
    cond (leb (h.counts.account + k) most_account) (onward (with_taker (with_incoming h h.incoming k) (text_or_closing c 0))) (refuse h Response 9)

unfoldable pub take_header : Host → Cursor → ℕ → Next Host
take_header h c v = take_sound h c (of credits v) (fault_of (of message_type v) (of connection v) c.size)

unfoldable pub take_text : Host → Cursor → ℕ → Next Host
take_text h c v = onward (with_taker (with_incoming h (with_text h.incoming c.size c.at v) h.credits) (text_or_closing c (c.at + 1)))

-- The high-word write: the account gains the envelope's credits, "account at most 255".
unfoldable pub taken : Host → Cursor → Host
taken h c =
    with_counts h (record { send = h.counts.send; take = next_of h.area Response c.slot; account = min (h.counts.account + h.credits) most_account })

-- "The result carries the text in 60 bytes, zero beyond its length."
unfoldable pub take_closed : Host → Cursor → Next Host
take_closed h c = record { told = carried c.size h.incoming false; state = with_taker (taken h c) Idle }

-- What follows from the word that a stage found,
abbrev pub take_finds : Host → Stage → Cursor → ℕ → Next Host
take_finds h High c v = take_high h c v
take_finds h Length c v = onward (with_taker h (At Header (with_size c v)))
take_finds h Header c v = take_header h c v
take_finds h Text c v = take_text h c v
take_finds h Closing c v = onward (with_taker h (At Release c))
take_finds h Release c v = take_closed h c

-- or from none: "host word outside memory: 10; words already written by that operation stay".
unfoldable pub take_follows : Host → Stage → Cursor → Option ℕ → Next Host
take_follows h s c w = followed h Response (take_finds h s c) w

-- A step of the take side, and its beginning.
unfoldable pub take_step : ℕ → Host → Memory → Outcome Host
take_step n h m = host_step n h Response (take_asks n h) (take_follows h) m h.taker (is_ready h)

abbrev pub take_begins : Host → Next Host
take_begins h =
    onward (with_taker (with_incoming h zeros 0) (At High (start_of h.counts.take (envelope_of h Response h.counts.take) 0)))

unfoldable pub take_begun : Host → Next Host
take_begun h = host_begun h (take_begins h) h.taker (is_ready h)
