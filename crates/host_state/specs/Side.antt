-- A side of the host, send or take: what its beginning and its step do, said once over what its operation asks and what follows.
use Rattle.std.specs.Prelude.{ℕ, Bool, true, false, cond, Option, Some, None, Result, Ok, Err}
use Rattle.base_memory.specs.Memory.{Memory}
use Rattle.base_memory.specs.declared.Touch.{Touch}
use Rattle.base_answers.specs.declared.Refusal.{Refusal}
use Rattle.base_answers.specs.declared.Refusal.TheVariants.{NotRunning, Busy}
use Rattle.base_area.specs.declared.Ring.{Ring}
use Rattle.base_side.specs.Place.{with_at, has_word}
use Rattle.base_side.specs.Step.{Next, Outcome, with_memory, denied, stepped}
use Rattle.base_side.specs.declared.Cursor.{Cursor}
use Rattle.host_state.specs.State.{is_ready, with_side, side_of}
use Rattle.host_state.specs.declared.state.Stage.{Stage}
use Rattle.host_state.specs.declared.state.Stage.TheVariants.{Text, Closing}
use Rattle.host_state.specs.declared.state.Side.{Side}
use Rattle.host_state.specs.declared.state.Side.TheVariants.{Idle, At}
use Rattle.host_state.specs.declared.state.Host.{Host}

-- Whether a side has no operation.
abbrev pub is_idle : Side → Bool
is_idle Idle = true
is_idle (At s c) = false

-- Text word k next, or the word before the high word where there is none.
unfoldable pub text_or_closing : Cursor → ℕ → Side
text_or_closing c k = cond (has_word c k) (At Text (with_at c k)) (At Closing c)

-- A refusal ends the operation of its side and changes nothing else.
abbrev pub refuse : Host → Ring → ℕ → Next Host
refuse h r k = denied (with_side h r Idle) k

-- What follows from the word found, or from none: "host word outside memory: 10; words already written by that operation stay".
abbrev pub followed : Host → Ring → (ℕ → Next Host) → Option ℕ → Next Host
followed h r finds None = refuse h r 10
followed h r finds (Some v) = finds v

-- A step of a host that is ready or not. `asks` is the word that a stage asks for, `follows` what follows from the word found, or from
-- none. Refusals 1 and 12 touch nothing.
unfoldable pub host_step : ℕ → Host → Ring → (Stage → Cursor → Touch) → (Stage → Cursor → Option ℕ → Next Host) → Memory → Side → Bool → Outcome Host
host_step n h r asks follows m x false = with_memory (refuse h r 1) m
host_step n h r asks follows m Idle true = with_memory (refuse h r 12) m
host_step n h r asks follows m (At s c) true = stepped n m (asks s c) (follows s c)

-- Whether a side may begin an operation: refusal 1, then 2.
abbrev pub allowed : Side → Bool → Result (Unit {0}) Refusal
allowed x false = Err NotRunning
allowed x true = cond (is_idle x) (Ok tt) (Err Busy)

abbrev pub may_begin : Host → Ring → Result (Unit {0}) Refusal
may_begin h r = allowed (side_of h r) (is_ready h)

-- A beginning: refusal 1, then 2; `begins` is what it comes to otherwise. It touches no memory.
unfoldable pub host_begun : Host → Next Host → Side → Bool → Next Host
host_begun h begins x false = denied h 1
host_begun h begins x true = cond (is_idle x) begins (denied h 2)
