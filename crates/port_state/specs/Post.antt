-- "Post: read high word; low word; write length; header (credits, other bits 0); text words; high word with O=0, F=1",
-- then the tail if F was 1.
use Rattle.std.specs.Prelude.{ℕ, ◌+◌, ◌*◌, ◌-◌, Bool, true, false, cond, ◌&&◌, List, leb, eqb, length, Option}
use Rattle.base_words.specs.Fields.{is_set, flagged}
use Rattle.base_words.specs.Words.{address_of, high_word, header_word}
use Rattle.base_texts.specs.Texts.{words_of, room, word_of, padded}
use Rattle.base_memory.specs.Memory.{Memory}
use Rattle.base_memory.specs.declared.Touch.{Touch}
use Rattle.base_memory.specs.declared.Touch.TheVariants.{Read, Write}
use Rattle.base_answers.specs.Told.{told, done}
use Rattle.base_answers.specs.declared.Fatal.{Fatal}
use Rattle.base_answers.specs.declared.Fatal.TheVariants.{EnvelopeWrite}
use Rattle.base_rules.specs.Rules.{carried_of, left_of}
use Rattle.base_area.specs.Layout.{slot_at, next_of}
use Rattle.base_area.specs.declared.Area.{Area}
use Rattle.base_area.specs.declared.Ring.TheVariants.{Response}
use Rattle.base_side.specs.Place.{start_of, with_envelope}
use Rattle.base_side.specs.Step.{Next, Outcome, onward, denied}
use Rattle.base_side.specs.declared.Cursor.{Cursor}
use Rattle.port_state.specs.State.{serving_of, with_poster, with_outgoing, with_counts, fail}
use Rattle.port_state.specs.Tail.{TailEnd, tail_start}
use Rattle.port_state.specs.Side.{text_or_release, outside_as, looked, followed, tailed_on, port_step, port_begun}
use Rattle.port_state.specs.declared.state.Asked.{Asked}
use Rattle.port_state.specs.declared.state.Stage.{Stage}
use Rattle.port_state.specs.declared.state.Stage.TheVariants.{High, Low, Length, Header, Text, Release}
use Rattle.port_state.specs.declared.state.Side.TheVariants.{Idle, At, Tail}
use Rattle.port_state.specs.declared.state.Port.{Port}

-- "Each posted answer to a command carries 1 + (still to grant), at most 15"; "an unsolicited message carries 0".
unfoldable pub credits_of : Port → ℕ
credits_of p = cond p.asked.answers (carried_of p.counts.owed) 0

-- The word that each stage asks for.
unfoldable pub post_asks : ℕ → Port → Area → Stage → Cursor → Touch
post_asks n p a High c = Read (slot_at n a Response c.slot + 2)
post_asks n p a Low c = Read (slot_at n a Response c.slot)
post_asks n p a Length c = Write c.envelope c.size
post_asks n p a Header c = Write (c.envelope + 2) (header_word (credits_of p))
post_asks n p a Text c = Write (c.envelope + 4 + 2 * c.at) (word_of p.outgoing c.size c.at)
post_asks n p a Release c = Write (slot_at n a Response c.slot + 2) (high_word false true c.high)

-- Where that word lies outside: 6 for a ring read, 7 for a ring write, 2 for an envelope word.
abbrev pub post_outside : Stage → Fatal
post_outside s = outside_as EnvelopeWrite s

-- Refusal 8: "post's first step, O=0".
unfoldable pub post_high : Port → Cursor → ℕ → Next Port
post_high p c v = looked p Response 8 c v

-- "Post checks, after the low word, from text-4 to its last text word: outside, 2."
unfoldable pub post_low : ℕ → Port → ℕ → Cursor → ℕ → Next Port
post_low n p end c v =
    cond (leb 4 (address_of n v c.high) && leb (address_of n v c.high + 2 * words_of c.size) end)
    (onward (with_poster p (At Length (with_envelope c (address_of n v c.high - 4)))))
    (fail p EnvelopeWrite)

-- The high-word write: an answer closes one open command and grants what it carries.
unfoldable pub posted : Port → Area → Cursor → Port
posted p a c =
    with_counts p
    (record {
      fetch = p.counts.fetch;
      post = next_of a Response c.slot;
      owed = cond p.asked.answers (left_of p.counts.owed) p.counts.owed;
      unanswered = cond p.asked.answers (p.counts.unanswered - 1) p.counts.unanswered;
    })

abbrev pub post_closed : Port → Bool → Next Port
post_closed p i = record { told = told done i; state = with_poster p Idle }

unfoldable pub post_release : Port → Area → Cursor → Next Port
post_release p a c =
    cond (is_set flagged c.high)
    (onward (with_poster (posted p a c) (Tail (tail_start a Response) c)))
    (post_closed (posted p a c) false)

-- What follows from the word that a stage found,
abbrev pub post_finds : ℕ → Port → Area → ℕ → Stage → Cursor → ℕ → Next Port
post_finds n p a end High c v = post_high p c v
post_finds n p a end Low c v = post_low n p end c v
post_finds n p a end Length c v = onward (with_poster p (At Header c))
post_finds n p a end Header c v = onward (with_poster p (text_or_release c 0))
post_finds n p a end Text c v = onward (with_poster p (text_or_release c (c.at + 1)))
post_finds n p a end Release c v = post_release p a c

-- or from none; and from a tail step.
unfoldable pub post_follows : ℕ → Port → Area → ℕ → Stage → Cursor → Option ℕ → Next Port
post_follows n p a end s c w = followed p (post_outside s) (post_finds n p a end s c) w

unfoldable pub post_tailed : Port → Cursor → TailEnd → Next Port
post_tailed p c x = tailed_on p Response (λ d. post_closed p) c x

-- A step of the post side, and its beginning with a text, as an answer or unsolicited: after 1 and 2, refusals 3 and 4.
unfoldable pub post_step : ℕ → Port → Memory → Outcome Port
post_step n p m = port_step n p Response (post_asks n p) (post_follows n p) (post_tailed p) m p.poster (serving_of p.phase)

abbrev pub post_begins : Port → Asked → List ℕ → Next Port
post_begins p x text =
    cond (leb (length text) room)
    (cond (x.answers && eqb p.counts.unanswered 0)
    (denied p 4)
    (onward (with_poster (with_outgoing p (padded text) x) (At High (start_of p.counts.post 0 (length text))))))
    (denied p 3)

unfoldable pub post_begun : Port → Asked → List ℕ → Next Port
post_begun p x text = port_begun p (post_begins p x text) p.poster (serving_of p.phase)
