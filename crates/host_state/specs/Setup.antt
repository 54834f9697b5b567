-- The host's setup with a pool address, and the clearing of an indicator.
use Rattle.std.specs.Prelude.{ℕ, true, false, cond, length, Option, Some, None}
use Rattle.base_memory.specs.Memory.{Memory, usable}
use Rattle.base_answers.specs.Told.{told, done}
use Rattle.base_area.specs.Layout.{indicator}
use Rattle.base_area.specs.Setup.{fits, set_up}
use Rattle.base_area.specs.declared.Ring.{Ring}
use Rattle.base_side.specs.Step.{Next, Outcome, with_memory, denied, stepped}
use Rattle.host_state.specs.State.{is_finished}
use Rattle.host_state.specs.Side.{is_idle}
use Rattle.host_state.specs.declared.state.Host.{Host}

-- "It sets the host's indices to 0 and the account to 1, each time it is accepted."
abbrev pub made_ready : Host → ℕ → Host
made_ready h pool =
    record {
      shake = h.shake;
      area = h.area;
      pool = pool;
      ready = true;
      sender = h.sender;
      taker = h.taker;
      outgoing = h.outgoing;
      asked = h.asked;
      incoming = h.incoming;
      credits = h.credits;
      counts = record { send = 0; take = 0; account = 1 };
    }

-- Refusals 1, 2 (either side) and 10, in that order; "a refused setup writes none".
unfoldable pub set_up_by : ℕ → Host → ℕ → Memory → Outcome Host
set_up_by n h pool m =
    cond (is_finished h.shake)
    (cond (is_idle h.sender)
    (cond (is_idle h.taker)
    (cond (fits n h.area pool (usable n (length m)))
    (record { told = told done false; state = made_ready h pool; memory = set_up n h.area pool m })
    (with_memory (denied h 10) m))
    (with_memory (denied h 2) m))
    (with_memory (denied h 2) m))
    (with_memory (denied h 1) m)

-- "Clearing an indicator is a host step": it needs the handshake but no setup, belongs to no side, and its 10 ends nothing.
abbrev pub clear_follows : Host → Option ℕ → Next Host
clear_follows h None = denied h 10
clear_follows h (Some v) = record { told = told done false; state = h }

unfoldable pub indicator_cleared : ℕ → Host → Ring → Memory → Outcome Host
indicator_cleared n h r m =
    cond (is_finished h.shake) (stepped n m (indicator n h.area r 0) (clear_follows h)) (with_memory (denied h 1) m)
