-- "Send: read own slot's high word; write length; header word (0); text words; low word; high word with O=1 and the asked F."
use Rattle.std.specs.Prelude.{ℕ, ◌+◌, ◌*◌, ◌-◌, true, false, cond, List, leb, eqb, length, Option}
use Rattle.base_words.specs.Fields.{is_set, owner}
use Rattle.base_words.specs.Words.{low_word, with_address, high_word}
use Rattle.base_texts.specs.Texts.{room, word_of, padded}
use Rattle.base_memory.specs.Memory.{Memory}
use Rattle.base_memory.specs.declared.Touch.{Touch}
use Rattle.base_memory.specs.declared.Touch.TheVariants.{Nothing, Read, Write}
use Rattle.base_answers.specs.Told.{told, done}
use Rattle.base_area.specs.Layout.{slot_at, next_of}
use Rattle.base_area.specs.declared.Ring.TheVariants.{Command}
use Rattle.base_side.specs.Place.{start_of, with_high}
use Rattle.base_side.specs.Step.{Next, Outcome, onward, denied}
use Rattle.base_side.specs.declared.Cursor.{Cursor}
use Rattle.host_state.specs.State.{is_ready, envelope_of, with_sender, with_outgoing, with_counts}
use Rattle.host_state.specs.Side.{text_or_closing, refuse, followed, host_step, host_begun}
use Rattle.host_state.specs.declared.state.Asked.{Asked}
use Rattle.host_state.specs.declared.state.Stage.{Stage}
use Rattle.host_state.specs.declared.state.Stage.TheVariants.{High, Length, Header, Text, Closing, Release}
use Rattle.host_state.specs.declared.state.Side.TheVariants.{Idle, At}
use Rattle.host_state.specs.declared.state.Host.{Host}

-- The word that each stage asks for. "5 comes before the read that could give 10": with no credit the first step touches nothing.
unfoldable pub send_asks : ℕ → Host → Stage → Cursor → Touch
send_asks n h High c = cond (eqb h.counts.account 0) Nothing (Read (slot_at n h.area Command c.slot + 2))
send_asks n h Length c = Write c.envelope c.size
send_asks n h Header c = Write (c.envelope + 2) 0
send_asks n h Text c = Write (c.envelope + 4 + 2 * c.at) (word_of h.outgoing c.size c.at)
send_asks n h Closing c = Write (slot_at n h.area Command c.slot) (low_word (c.envelope + 4))
send_asks n h Release c =
    Write (slot_at n h.area Command c.slot + 2) (high_word true h.asked.flag (with_address n c.high (c.envelope + 4)))

-- Refusals 5 and 6: "send's first step, account 0", "O=1".
unfoldable pub send_high : Host → Cursor → ℕ → Next Host
send_high h c v =
    cond (eqb h.counts.account 0) (refuse h Command 5) (cond (is_set owner v) (refuse h Command 6) (onward (with_sender h (At Length (with_high c v)))))

-- "The high-word write is where index, account and totals change": a send costs 1.
unfoldable pub sent : Host → Cursor → Host
sent h c =
    with_counts h (record { send = next_of h.area Command c.slot; take = h.counts.take; account = h.counts.account - 1 })

abbrev pub send_closed : Host → Cursor → Next Host
send_closed h c = record { told = told done false; state = with_sender (sent h c) Idle }

-- What follows from the word that a stage found,
abbrev pub send_finds : Host → Stage → Cursor → ℕ → Next Host
send_finds h High c v = send_high h c v
send_finds h Length c v = onward (with_sender h (At Header c))
send_finds h Header c v = onward (with_sender h (text_or_closing c 0))
send_finds h Text c v = onward (with_sender h (text_or_closing c (c.at + 1)))
send_finds h Closing c v = onward (with_sender h (At Release c))
send_finds h Release c v = send_closed h c

-- or from none: "host word outside memory: 10; words already written by that operation stay".
unfoldable pub send_follows : Host → Stage → Cursor → Option ℕ → Next Host
send_follows h s c w = followed h Command (send_finds h s c) w

-- A step of the send side, and its beginning with a text: after 1 and 2, refusal 3.
unfoldable pub send_step : ℕ → Host → Memory → Outcome Host
send_step n h m = host_step n h Command (send_asks n h) (send_follows h) m h.sender (is_ready h)

abbrev pub send_begins : Host → Asked → List ℕ → Next Host
send_begins h x text =
    cond (leb (length text) room)
    (onward
    (with_sender (with_outgoing h (padded text) x) (At High (start_of h.counts.send (envelope_of h Command h.counts.send) (length text)))))
    (denied h 3)

unfoldable pub send_begun : Host → Asked → List ℕ → Next Host
send_begun h x text = host_begun h (send_begins h x text) h.sender (is_ready h)
