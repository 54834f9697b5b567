-- Host and port over one memory, and what may happen to them in a run: the halves' own calls, by the definitions that their
-- contracts cite.
use Rattle.std.specs.Prelude.{ℕ, ◌<◌, Bool, List, [], ◌∷◌, get_or}
use Rattle.base_side.specs.Step.{Next, Outcome}
use Rattle.base_memory.specs.Memory.{Memory}
use Rattle.base_answers.specs.Told.{Told, Closing}
use Rattle.base_area.specs.declared.Ring.{Ring}
use Rattle.port_state.specs.Shake.{sa_of, sa_written}
use Rattle.port_state.specs.Fetch.{fetch_begun, fetch_step}
use Rattle.port_state.specs.Post.{post_begun, post_step}
use Rattle.port_state.specs.declared.state.Port.{Port}
use Rattle.host_state.specs.Shake.{Asks, Turn, sa_seen, time_up}
use Rattle.host_state.specs.Setup.{indicator_cleared}
use Rattle.host_state.specs.Send.{send_begun, send_step}
use Rattle.host_state.specs.Take.{take_begun, take_step}
use Rattle.host_state.specs.declared.state.Host.{Host}

pub record World : Type 0 where
  pub host : Host
  pub port : Port
  pub memory : Memory

abbrev pub world : Host → Port → Memory → World
world h p m = record { host = h; port = p; memory = m }

-- What may happen: begin and step of each side, with any text and flag; clearing of an indicator; SA read, written, shown to the
-- host; time is up. Refused calls are among them.
pub data Ev : Type 0 where
  begin_send : Bool → List ℕ → Ev
  step_send : Ev
  begin_take : Ev
  step_take : Ev
  begin_fetch : Ev
  step_fetch : Ev
  begin_post : Bool → List ℕ → Ev
  step_post : Ev
  clear_mark : Ring → Ev
  read_sa : Ev
  write_sa : ℕ → Ev
  show_sa : ℕ → Ev
  time_is_up : Ev

-- Texts are bytes.
abbrev pub Bytes : List ℕ → Type 0
Bytes t = (j : ℕ) → get_or t j 0 < 256

abbrev pub Proper : Ev → Type 0
Proper (begin_send f t) = Bytes t
Proper step_send = Unit {0}
Proper begin_take = Unit {0}
Proper step_take = Unit {0}
Proper begin_fetch = Unit {0}
Proper step_fetch = Unit {0}
Proper (begin_post a t) = Bytes t
Proper step_post = Unit {0}
Proper (clear_mark r) = Unit {0}
Proper read_sa = Unit {0}
Proper (write_sa w) = Unit {0}
Proper (show_sa w) = Unit {0}
Proper time_is_up = Unit {0}

-- What a call answers, interrupts apart: how it closed, the length, the 60 bytes.
pub record Heard : Type 0 where
  pub closing : Closing
  pub size : ℕ
  pub bytes : List ℕ

abbrev pub heard_of : Told → Heard
heard_of t = record { closing = t.closing; size = t.size; bytes = t.bytes }

pub data Ans : Type 0 where
  call : Heard → Ans
  word : ℕ → Ans
  asked : Asks → Ans

pub record Did : Type 0 where
  pub ans : Ans
  pub next : World

abbrev pub did : Ans → World → Did
did a w = record { ans = a; next = w }

-- Each call, on the world.
abbrev pub by_host : World → Outcome Host → Did
by_host w o = did (call (heard_of o.told)) (world o.state w.port o.memory)

abbrev pub by_host_only : World → Next Host → Did
by_host_only w x = did (call (heard_of x.told)) (world x.state w.port w.memory)

abbrev pub by_port : World → Outcome Port → Did
by_port w o = did (call (heard_of o.told)) (world w.host o.state o.memory)

abbrev pub by_port_only : World → Next Port → Did
by_port_only w x = did (call (heard_of x.told)) (world w.host x.state w.memory)

abbrev pub by_turn : World → Turn → Did
by_turn w x = did (asked x.asks) (world x.state w.port w.memory)

-- The steps of the four sides. Ours are those of the contracts; others can be tried in their place.
pub record FourSteps : Type 0 where
  pub send : ℕ → Host → Memory → Outcome Host
  pub take : ℕ → Host → Memory → Outcome Host
  pub fetch : ℕ → Port → Memory → Outcome Port
  pub post : ℕ → Port → Memory → Outcome Port

abbrev pub ours : FourSteps
ours = record { send = send_step; take = take_step; fetch = fetch_step; post = post_step }

abbrev pub act_by : FourSteps → ℕ → Ev → World → Did
act_by k n (begin_send f t) w = by_host_only w (send_begun w.host (record { flag = f }) t)
act_by k n step_send w = by_host w (k.send n w.host w.memory)
act_by k n begin_take w = by_host_only w (take_begun w.host)
act_by k n step_take w = by_host w (k.take n w.host w.memory)
act_by k n begin_fetch w = by_port_only w (fetch_begun w.port)
act_by k n step_fetch w = by_port w (k.fetch n w.port w.memory)
act_by k n (begin_post a t) w = by_port_only w (post_begun w.port (record { answers = a }) t)
act_by k n step_post w = by_port w (k.post n w.port w.memory)
act_by k n (clear_mark r) w = by_host w (indicator_cleared n w.host r w.memory)
act_by k n read_sa w = did (word (sa_of w.port)) w
act_by k n (write_sa x) w = by_port w (sa_written n w.port x w.memory)
act_by k n (show_sa x) w = by_turn w (sa_seen w.host x)
act_by k n time_is_up w = by_turn w (time_up w.host)

abbrev pub act : ℕ → Ev → World → Did
act n e w = act_by ours n e w

-- Host and port as a run sees them: what each call answers and leaves.
abbrev pub Halves : Type 0
Halves = Ev → World → Did

-- A run: what each call answered, and the world at the end.
abbrev pub answers : Halves → List Ev → World → List Ans
answers f [] w = []
answers f (e ∷ es) w = (f e w).ans ∷ answers f es (f e w).next

abbrev pub final : Halves → List Ev → World → World
final f [] w = w
final f (e ∷ es) w = final f es (f e w).next
