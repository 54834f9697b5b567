-- "One step touches at most one word": for every side of both halves, the word that its stage asks for, and what that means.
use Rattle.std.specs.Prelude.{ℕ, ◌≡◌, Bool, true, false, cond, List, [], ◌∷◌, length, get_or, None, Option, Some}
use Rattle.base_memory.specs.Memory.{Memory}
use Rattle.base_memory.specs.OneWord.{Touches, Same}
use Rattle.base_memory.specs.declared.Touch.{Touch}
use Rattle.base_memory.specs.declared.Touch.TheVariants.{Nothing}
use Rattle.base_area.specs.Layout.{indicator}
use Rattle.base_area.specs.declared.Area.{Area}
use Rattle.base_area.specs.declared.Ring.{Ring}
use Rattle.base_area.specs.declared.Ring.TheVariants.{Command, Response}
use Rattle.base_side.specs.Step.{Outcome, without_memory}
use Rattle.base_side.specs.declared.Cursor.{Cursor}
use Rattle.port_state.specs.State.{serving_of}
use Rattle.port_state.specs.Tail.{tail_asks}
use Rattle.port_state.specs.Fetch.{fetch_asks, fetch_step}
use Rattle.port_state.specs.Post.{post_asks, post_step}
use Rattle.port_state.specs.declared.state.Stage.{Stage}
use Rattle.port_state.specs.declared.state.Side as PortSide
use Rattle.port_state.specs.declared.state.Side.TheVariants as P
use Rattle.port_state.specs.declared.state.Port.{Port}
use Rattle.host_state.specs.State.{is_finished, is_ready}
use Rattle.host_state.specs.Setup.{indicator_cleared}
use Rattle.host_state.specs.Send.{send_asks, send_step}
use Rattle.host_state.specs.Take.{take_asks, take_step}
use Rattle.host_state.specs.declared.state.Stage as HostStage
use Rattle.host_state.specs.declared.state.Side as HostSide
use Rattle.host_state.specs.declared.state.Side.TheVariants as H
use Rattle.host_state.specs.declared.state.Host.{Host}

-- A step that touches one word at most, t: the length and every other byte are as they were; answer and next state depend on
-- nothing but that word and memory's length, and so does what it writes.
pub record TouchesOnly (S : Type 0) (t : Touch) (step : Memory → Outcome S) : Type 0 where
  pub length_kept : (m : Memory) → length (step m).memory ≡ length m
  pub others_kept : (m : Memory) (j : ℕ) → (Touches t j → ⊥) → get_or (step m).memory j 0 ≡ get_or m j 0
  pub depends : (m m' : Memory) → Same t m m' → without_memory (step m) ≡ without_memory (step m')
  pub writes : (m m' : Memory) → Same t m m' → (j : ℕ) → Touches t j → get_or (step m).memory j 0 ≡ get_or (step m').memory j 0

-- The word that a side of the port asks for at its stage, given what its operation asks; the same of the host.
abbrev pub port_word : ℕ → Ring → (Area → Stage → Cursor → Touch) → PortSide.Side → Option Area → Touch
port_word n r asks x None = Nothing
port_word n r asks P.Idle (Some a) = Nothing
port_word n r asks (P.At s c) (Some a) = asks a s c
port_word n r asks (P.Tail s c) (Some a) = tail_asks n a r s c

abbrev pub host_word : (HostStage.Stage → Cursor → Touch) → HostSide.Side → Bool → Touch
host_word asks x false = Nothing
host_word asks H.Idle true = Nothing
host_word asks (H.At s c) true = asks s c

-- The kinds of step, and every one of them, whatever the state, over the number of address bits.
pub data Kind : Type 0 where
  fetches : Kind
  posts : Kind
  sends : Kind
  takes : Kind
  clears : Kind

abbrev pub kinds : List Kind
kinds = fetches ∷ posts ∷ sends ∷ takes ∷ clears ∷ []

abbrev pub EveryStepOf : Kind → Type 0
EveryStepOf fetches = (n : ℕ) (p : Port) → TouchesOnly Port (port_word n Command (fetch_asks n) p.fetcher (serving_of p.phase)) (fetch_step n p)
EveryStepOf posts = (n : ℕ) (p : Port) → TouchesOnly Port (port_word n Response (post_asks n p) p.poster (serving_of p.phase)) (post_step n p)
EveryStepOf sends = (n : ℕ) (h : Host) → TouchesOnly Host (host_word (send_asks n h) h.sender (is_ready h)) (send_step n h)
EveryStepOf takes = (n : ℕ) (h : Host) → TouchesOnly Host (host_word (take_asks n h) h.taker (is_ready h)) (take_step n h)
EveryStepOf clears = (n : ℕ) (h : Host) (r : Ring) → TouchesOnly Host (cond (is_finished h.shake) (indicator n h.area r 0) Nothing) (indicator_cleared n h r)

abbrev pub EveryStep : Type 0
EveryStep = (k : Kind) → EveryStepOf k
