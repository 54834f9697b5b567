-- The calls of a port as data, each with the memory that it is lent, and the port after them. (A read of SA changes nothing.)
use Rattle.std.specs.Prelude.{ℕ, true, List, [], ◌∷◌}
use Rattle.base_memory.specs.Memory.{Memory}
use Rattle.port_state.specs.State.{fresh}
use Rattle.port_state.specs.Shake.{sa_written}
use Rattle.port_state.specs.Fetch.{fetch_step, fetch_begun}
use Rattle.port_state.specs.Post.{post_step, post_begun}
use Rattle.port_state.specs.declared.state.Asked.{Asked}
use Rattle.port_state.specs.declared.state.Port.{Port}

pub data Call : Type 0 where
  writes_ip : Call
  writes_sa : ℕ → Memory → Call
  begins_fetch : Call
  steps_fetch : Memory → Call
  begins_post : Asked → List ℕ → Call
  steps_post : Memory → Call

-- One of each kind.
abbrev pub kinds : List Call
kinds =
    writes_ip
    ∷ writes_sa 0 []
    ∷ begins_fetch
    ∷ steps_fetch []
    ∷ begins_post (record { answers = true }) []
    ∷ steps_post []
    ∷ []

-- The port after a call, over the number of address bits.
abbrev pub after : ℕ → Call → Port → Port
after n writes_ip p = fresh p.made
after n (writes_sa w m) p = (sa_written n p w m).state
after n begins_fetch p = (fetch_begun p).state
after n (steps_fetch m) p = (fetch_step n p m).state
after n (begins_post x t) p = (post_begun p x t).state
after n (steps_post m) p = (post_step n p m).state

abbrev pub played : ℕ → List Call → Port → Port
played n [] p = p
played n (c ∷ cs) p = played n cs (after n c p)
