-- A side of the port, fetch or post: what its beginning and its step do, said once over what its operation asks and what follows.
use Rattle.std.specs.Prelude.{ℕ, Bool, true, false, cond, length, Option, Some, None, Result, Ok, Err}
use Rattle.base_memory.specs.Memory.{Memory, usable}
use Rattle.base_memory.specs.declared.Touch.{Touch}
use Rattle.base_words.specs.Fields.{is_set, owner}
use Rattle.base_answers.specs.declared.Refusal.{Refusal}
use Rattle.base_answers.specs.declared.Refusal.TheVariants.{NotRunning, Busy}
use Rattle.base_answers.specs.declared.Fatal.{Fatal}
use Rattle.base_answers.specs.declared.Fatal.TheVariants.{RingRead, RingWrite}
use Rattle.base_area.specs.declared.Area.{Area}
use Rattle.base_area.specs.declared.Ring.{Ring}
use Rattle.base_side.specs.Place.{with_high, with_at, has_word}
use Rattle.base_side.specs.Step.{Next, Outcome, with_memory, onward, denied, stepped}
use Rattle.base_side.specs.declared.Cursor.{Cursor}
use Rattle.port_state.specs.State.{serving_of, with_side, side_of, fail}
use Rattle.port_state.specs.Tail.{TailEnd, tail_asks, tail_follows}
use Rattle.port_state.specs.declared.state.Stage.{Stage}
use Rattle.port_state.specs.declared.state.Stage.TheVariants.{High, Low, Length, Header, Text, Release}
use Rattle.port_state.specs.declared.state.TailStage.TheVariants.{Mark}
use Rattle.port_state.specs.declared.state.Side.{Side}
use Rattle.port_state.specs.declared.state.Side.TheVariants.{Idle, At, Tail}
use Rattle.port_state.specs.declared.state.Port.{Port}

-- Whether a side has no operation.
abbrev pub is_idle : Side → Bool
is_idle Idle = true
is_idle (At s c) = false
is_idle (Tail s c) = false

-- Text word k next, or the release where there is none.
unfoldable pub text_or_release : Cursor → ℕ → Side
text_or_release c k = cond (has_word c k) (At Text (with_at c k)) (At Release c)

-- A refusal ends the operation of its side and changes nothing else.
abbrev pub refuse : Port → Ring → ℕ → Next Port
refuse p r k = denied (with_side p r Idle) k

-- Where a stage's word lies outside: 6 for a ring read, 7 for a ring write, and a code of the side for an envelope word.
abbrev pub outside_as : Fatal → Stage → Fatal
outside_as x High = RingRead
outside_as x Low = RingRead
outside_as x Length = x
outside_as x Header = x
outside_as x Text = x
outside_as x Release = RingWrite

-- A side's first step: the slot's high word says that the port owns it, or the side's refusal comes.
abbrev pub looked : Port → Ring → ℕ → Cursor → ℕ → Next Port
looked p r k c v = cond (is_set owner v) (onward (with_side p r (At Low (with_high c v)))) (refuse p r k)

-- What follows from the word found, or from none; and from a tail step.
abbrev pub followed : Port → Fatal → (ℕ → Next Port) → Option ℕ → Next Port
followed p x finds None = fail p x
followed p x finds (Some v) = finds v

abbrev pub tailed_on : Port → Ring → (Cursor → Bool → Next Port) → Cursor → TailEnd → Next Port
tailed_on p r closed c (Ok None) = onward (with_side p r (Tail Mark c))
tailed_on p r closed c (Ok (Some i)) = closed c i
tailed_on p r closed c (Err x) = fail p x

-- A step. `asks` is the word that a stage asks for, `follows` what follows from the word found, or from none, on a memory that counts
-- so many bytes, `tailed` what follows from a tail step. Refusals 1 and 12 touch nothing.
unfoldable pub port_step : ℕ → Port → Ring → (Area → Stage → Cursor → Touch) → (Area → ℕ → Stage → Cursor → Option ℕ → Next Port) → (Cursor → TailEnd → Next Port)
    → Memory → Side → Option Area → Outcome Port
port_step n p r asks follows tailed m x None = with_memory (refuse p r 1) m
port_step n p r asks follows tailed m Idle (Some a) = with_memory (refuse p r 12) m
port_step n p r asks follows tailed m (At s c) (Some a) = stepped n m (asks a s c) (follows a (usable n (length m)) s c)
port_step n p r asks follows tailed m (Tail s c) (Some a) = stepped n m (tail_asks n a r s c) (λ w. tailed c (tail_follows a s w))

-- Whether a side may begin an operation: refusal 1, then 2.
abbrev pub allowed : Side → Option Area → Result (Unit {0}) Refusal
allowed x None = Err NotRunning
allowed x (Some a) = cond (is_idle x) (Ok tt) (Err Busy)

abbrev pub may_begin : Port → Ring → Result (Unit {0}) Refusal
may_begin p r = allowed (side_of p r) (serving_of p.phase)

-- A beginning: refusal 1, then 2; `begins` is what it comes to otherwise. It touches no memory.
unfoldable pub port_begun : Port → Next Port → Side → Option Area → Next Port
port_begun p begins x None = denied p 1
port_begun p begins x (Some a) = cond (is_idle x) begins (denied p 2)
