-- The calls of a host as data, each with the memory that it is lent, and the host after them.
use Rattle.std.specs.Prelude.{ℕ, true, false, List, [], ◌∷◌}
use Rattle.base_memory.specs.Memory.{Memory}
use Rattle.base_area.specs.declared.Ring.{Ring}
use Rattle.base_area.specs.declared.Ring.TheVariants.{Command}
use Rattle.host_state.specs.Shake.{begun, sa_seen, time_up}
use Rattle.host_state.specs.Setup.{set_up_by, indicator_cleared}
use Rattle.host_state.specs.Send.{send_step, send_begun}
use Rattle.host_state.specs.Take.{take_step, take_begun}
use Rattle.host_state.specs.declared.state.Asked.{Asked}
use Rattle.host_state.specs.declared.state.Beginning.{Beginning}
use Rattle.host_state.specs.declared.state.Host.{Host}

pub data Call : Type 0 where
  begins : Beginning → Call
  sees : ℕ → Call
  times_out : Call
  sets_up : ℕ → Memory → Call
  clears : Ring → Memory → Call
  begins_send : Asked → List ℕ → Call
  steps_send : Memory → Call
  begins_take : Call
  steps_take : Memory → Call

-- One of each kind.
abbrev pub kinds : List Call
kinds =
    begins (record { command = 0; response = 0; interrupts = false; vector = 0; base = 0 })
    ∷ sees 0
    ∷ times_out
    ∷ sets_up 0 []
    ∷ clears Command []
    ∷ begins_send (record { flag = true }) []
    ∷ steps_send []
    ∷ begins_take
    ∷ steps_take []
    ∷ []

-- The host after a call, over the number of address bits.
abbrev pub after : ℕ → Call → Host → Host
after n (begins b) h = (begun n h b).state
after n (sees w) h = (sa_seen h w).state
after n times_out h = (time_up h).state
after n (sets_up pool m) h = (set_up_by n h pool m).state
after n (clears r m) h = (indicator_cleared n h r m).state
after n (begins_send x t) h = (send_begun h x t).state
after n (steps_send m) h = (send_step n h m).state
after n begins_take h = (take_begun h).state
after n (steps_take m) h = (take_step n h m).state

abbrev pub played : ℕ → List Call → Host → Host
played n [] h = h
played n (c ∷ cs) h = played n cs (after n c h)
