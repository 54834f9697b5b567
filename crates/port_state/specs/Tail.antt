-- "If F was 1: read the previous slot's high word; if O=1 there, write 1 to the ring's indicator." One tail, for fetch and post.
use Rattle.std.specs.Prelude.{ℕ, ◌+◌, Bool, false, cond, Option, Some, None, Result, Ok, Err}
use Rattle.base_words.specs.Fields.{is_set, owner}
use Rattle.base_memory.specs.declared.Touch.{Touch}
use Rattle.base_memory.specs.declared.Touch.TheVariants.{Read}
use Rattle.base_answers.specs.declared.Fatal.{Fatal}
use Rattle.base_answers.specs.declared.Fatal.TheVariants.{RingRead, InterruptWrite}
use Rattle.base_area.specs.Layout.{slot_at, before_of, alone, indicator, has_vector}
use Rattle.base_area.specs.declared.Area.{Area}
use Rattle.base_area.specs.declared.Ring.{Ring}
use Rattle.base_side.specs.declared.Cursor.{Cursor}
use Rattle.port_state.specs.declared.state.TailStage.{TailStage}
use Rattle.port_state.specs.declared.state.TailStage.TheVariants.{Test, Mark}

-- "In a ring of one slot the test makes no read and always succeeds."
unfoldable pub tail_start : Area → Ring → TailStage
tail_start a r = cond (alone a r) Mark Test

-- The word that a tail step asks for.
unfoldable pub tail_asks : ℕ → Area → Ring → TailStage → Cursor → Touch
tail_asks n a r Test c = Read (slot_at n a r (before_of a r c.slot) + 2)
tail_asks n a r Mark c = indicator n a r 1

-- What a tail step comes to: a fatal error, the indicator next, or the end with or without an interrupt.
abbrev pub TailEnd : Type 0
TailEnd = Result (Option Bool) Fatal

-- What follows from it. An indicator outside is fatal 15, chapter 7's "Interrupt Write".
unfoldable pub test_follows : Option ℕ → TailEnd
test_follows None = Err RingRead
test_follows (Some v) = cond (is_set owner v) (Ok None) (Ok (Some false))

unfoldable pub mark_follows : Area → Option ℕ → TailEnd
mark_follows a None = Err InterruptWrite
mark_follows a (Some v) = Ok (Some (has_vector a.first))

abbrev pub tail_follows : Area → TailStage → Option ℕ → TailEnd
tail_follows a Test w = test_follows w
tail_follows a Mark w = mark_follows a w
