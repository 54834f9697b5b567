-- Every step is one touch and what follows from the word found; so one law on touches serves all sides. Assumes nothing.
use Rattle.std.specs.Prelude.{None, Option, Some}
use Prim.Native.Nat.{ℕ}
use mathlib.Core.Path.{ap₂}
use mathlib.Core.Bool.{Bool, true, false, cond}
use lib.ListN.{length}
use Rattle.base_memory.specs.Memory.{usable}
use Rattle.base_memory.proofs.OneWordLaws.{left_length, left_other, found_same, left_same}
use Rattle.base_memory.specs.declared.Touch.{Touch}
use Rattle.base_memory.specs.declared.Touch.TheVariants.{Nothing}
use Rattle.base_area.specs.Layout.{indicator}
use Rattle.base_area.specs.declared.Area.{Area}
use Rattle.base_area.specs.declared.Ring.{Ring}
use Rattle.base_area.specs.declared.Ring.TheVariants.{Command, Response}
use Rattle.base_side.specs.Step.{Next, with_memory, denied, stepped}
use Rattle.base_side.specs.declared.Cursor.{Cursor}
use Rattle.port_state.specs.State.{serving_of}
use Rattle.port_state.specs.Tail.{tail_asks, tail_follows}
use Rattle.port_state.specs.Side as PortStep
use Rattle.port_state.specs.Fetch.{fetch_asks, fetch_follows, fetch_tailed, fetch_step}
use Rattle.port_state.specs.Post.{post_asks, post_follows, post_tailed, post_step}
use Rattle.port_state.specs.declared.state.Stage.{Stage}
use Rattle.port_state.specs.Tail.{TailEnd}
use Rattle.port_state.specs.declared.state.Side as PortSide
use Rattle.port_state.specs.declared.state.Side.TheVariants as P
use Rattle.port_state.specs.declared.state.Port.{Port}
use Rattle.host_state.specs.State.{is_finished, is_ready}
use Rattle.host_state.specs.Side as HostStep
use Rattle.host_state.specs.Setup.{clear_follows, indicator_cleared}
use Rattle.host_state.specs.Send.{send_asks, send_follows, send_step}
use Rattle.host_state.specs.Take.{take_asks, take_follows, take_step}
use Rattle.host_state.specs.declared.state.Stage as HostStage
use Rattle.host_state.specs.declared.state.Side as HostSide
use Rattle.host_state.specs.declared.state.Side.TheVariants as H
use Rattle.host_state.specs.declared.state.Host.{Host}
use Rattle.fact_oneword.specs.OneStep.{TouchesOnly, port_word, host_word, EveryStep, fetches, posts, sends, takes, clears}

-- a step that is one touch and a function of what it found and of memory's length
by_touch : (S : Type 0) (n : ℕ) (t : Touch) (f : ℕ → Option ℕ → Next S) → TouchesOnly S t (λ m. stepped n m t (f (length m)))
by_touch S n t f =
    record {
      length_kept = λ m. left_length n m t;
      others_kept = λ m j h. left_other n m t j h;
      depends = λ m m' s. ap₂ f s.size (found_same n m m' t s);
      writes = λ m m' s j h. left_same n m m' t s j h;
    }

-- a call that touches nothing
untouched : (S : Type 0) (x : Next S) → TouchesOnly S Nothing (λ m. with_memory x m)
untouched S x = by_touch S 0 Nothing (λ k w. x)

-- a side of the port, and of the host
port_side : (n : ℕ) (p : Port) (r : Ring) (asks : Area → Stage → Cursor → Touch) (follows : Area → ℕ → Stage → Cursor → Option ℕ → Next Port)
    (tailed : Cursor → TailEnd → Next Port) (x : PortSide.Side) (s : Option Area)
    → TouchesOnly Port (port_word n r asks x s) (λ m. PortStep.port_step n p r asks follows tailed m x s)
unfolding PortStep.port_step
port_side n p r asks follows tailed x None = untouched Port (PortStep.refuse p r 1)
port_side n p r asks follows tailed P.Idle (Some a) = untouched Port (PortStep.refuse p r 12)
port_side n p r asks follows tailed (P.At s c) (Some a) = by_touch Port n (asks a s c) (λ k w. follows a (usable n k) s c w)
port_side n p r asks follows tailed (P.Tail s c) (Some a) = by_touch Port n (tail_asks n a r s c) (λ k w. tailed c (tail_follows a s w))

host_side : (n : ℕ) (h : Host) (r : Ring) (asks : HostStage.Stage → Cursor → Touch) (follows : HostStage.Stage → Cursor → Option ℕ → Next Host)
    (x : HostSide.Side) (b : Bool) → TouchesOnly Host (host_word asks x b) (λ m. HostStep.host_step n h r asks follows m x b)
unfolding HostStep.host_step
host_side n h r asks follows x false = untouched Host (HostStep.refuse h r 1)
host_side n h r asks follows H.Idle true = untouched Host (HostStep.refuse h r 12)
host_side n h r asks follows (H.At s c) true = by_touch Host n (asks s c) (λ k w. follows s c w)

-- clearing an indicator, behind the test of the handshake
clear_step : (n : ℕ) (h : Host) (t : Touch) (b : Bool)
    → TouchesOnly Host (cond b t Nothing) (λ m. cond b (stepped n m t (clear_follows h)) (with_memory (denied h 1) m))
clear_step n h t true = by_touch Host n t (λ k w. clear_follows h w)
clear_step n h t false = untouched Host (denied h 1)

pub every_step : EveryStep
unfolding fetch_step post_step send_step take_step indicator_cleared
every_step fetches = λ n p. port_side n p Command (fetch_asks n) (fetch_follows n p) (fetch_tailed p) p.fetcher (serving_of p.phase)
every_step posts = λ n p. port_side n p Response (post_asks n p) (post_follows n p) (post_tailed p) p.poster (serving_of p.phase)
every_step sends = λ n h. host_side n h Command (send_asks n h) (send_follows h) h.sender (is_ready h)
every_step takes = λ n h. host_side n h Response (take_asks n h) (take_follows h) h.taker (is_ready h)
every_step clears = λ n h r. clear_step n h (indicator n h.area r 0) (is_finished h.shake)
