-- What the promise shuts out: halves that make one of those steps in the place of ours break it, each in a short run over rings of one
-- slot, with limit 2, after the real handshake and setup.
use Rattle.std.specs.Prelude.{ℕ, true, false, List, [], ◌∷◌, ◌++◌}
use Rattle.base_side.specs.Step.{Outcome}
use Rattle.base_words.specs.Words.{address_bits}
use Rattle.base_memory.specs.Memory.{Memory}
use Rattle.fact_plain.specs.Plain.{Bounds, start}
use Rattle.port_state.specs.declared.state.Port.{Port}
use Rattle.host_state.specs.declared.state.Host.{Host}
use Rattle.fact_traffic.specs.World.{Ev, begin_send, step_send, begin_take, step_take, begin_fetch, step_fetch, begin_post, step_post, Halves, ours, act_by}
use Rattle.fact_traffic.specs.Play.{idle, game}
use Rattle.fact_traffic.specs.Traffic.{Start, bounds_of, site_of, Promise}
use Rattle.fact_traffic.specs.Instance.{small_settings, small, small_way, small_start}
use Rattle.fact_traffic.specs.Errors.{high_word_first, fetched_unlooked, returned_unread, fifteen_each, account_kept, owed_kept}

-- Our halves with another send, fetch or post.
abbrev pub sending_by : (ℕ → Host → Memory → Outcome Host) → Halves
sending_by step = act_by (record { send = step; take = ours.take; fetch = ours.fetch; post = ours.post }) address_bits

abbrev pub fetching_by : (ℕ → Port → Memory → Outcome Port) → Halves
fetching_by step = act_by (record { send = ours.send; take = ours.take; fetch = step; post = ours.post }) address_bits

abbrev pub posting_by : (ℕ → Port → Memory → Outcome Port) → Halves
posting_by step = act_by (record { send = ours.send; take = ours.take; fetch = ours.fetch; post = step }) address_bits

-- The promise, of any halves, for a run from the small start.
abbrev pub bounds : Bounds
bounds = bounds_of small_settings small

abbrev pub Keeps : Halves → List Ev → Type 0
Keeps f es = Promise f (site_of small_settings 64) bounds es small_start (game (start bounds) idle idle idle idle)

-- A send of a text of one byte has six steps, of none five; so have a fetch and a take; a post has one more, for the indicator.
abbrev pub send_one : ℕ → List Ev
send_one t = begin_send false (t ∷ []) ∷ step_send ∷ step_send ∷ step_send ∷ step_send ∷ step_send ∷ step_send ∷ []

abbrev pub send_none : List Ev
send_none = begin_send false [] ∷ step_send ∷ step_send ∷ step_send ∷ step_send ∷ step_send ∷ []

abbrev pub fetch_one : List Ev
fetch_one = begin_fetch ∷ step_fetch ∷ step_fetch ∷ step_fetch ∷ step_fetch ∷ step_fetch ∷ step_fetch ∷ []

abbrev pub fetch_none : List Ev
fetch_none = begin_fetch ∷ step_fetch ∷ step_fetch ∷ step_fetch ∷ step_fetch ∷ step_fetch ∷ []

abbrev pub answer_none : List Ev
answer_none = begin_post true [] ∷ step_post ∷ step_post ∷ step_post ∷ step_post ∷ step_post ∷ step_post ∷ []

abbrev pub take_none : List Ev
take_none = begin_take ∷ step_take ∷ step_take ∷ step_take ∷ step_take ∷ step_take ∷ []

-- The port fetches between the high word and the low word.
abbrev pub between_the_words : List Ev
between_the_words = begin_send false (7 ∷ []) ∷ step_send ∷ step_send ∷ step_send ∷ step_send ∷ step_send ∷ fetch_one

-- The port fetches while the host has written no more than the length.
abbrev pub while_writing : List Ev
while_writing = begin_send false (7 ∷ []) ∷ step_send ∷ step_send ∷ fetch_one

-- With two credits the host sends again while the port is reading.
abbrev pub while_reading : List Ev
while_reading =
    send_one 1 ++ fetch_one ++ answer_none ++ take_none ++ send_one 7 ++ (begin_fetch ∷ step_fetch ∷ step_fetch ∷ step_fetch ∷ step_fetch ∷ send_one 9)

abbrev pub once_around : List Ev
once_around = send_none ++ fetch_none ++ answer_none ++ take_none

-- The wrong halves.
abbrev pub errors : List Halves
errors =
    sending_by high_word_first
    ∷ fetching_by fetched_unlooked
    ∷ fetching_by returned_unread
    ∷ posting_by fifteen_each
    ∷ sending_by account_kept
    ∷ posting_by owed_kept
    ∷ []

-- The small start is one of those that the theorem is about, so halves that break the promise there have no such theorem.
pub record ShutOut : Type 0 where
  pub starts : Start small_settings small small_way [] 64
  pub high_word_first_lem : Keeps (sending_by high_word_first) between_the_words → ⊥
  pub fetched_unlooked_lem : Keeps (fetching_by fetched_unlooked) while_writing → ⊥
  pub returned_unread_lem : Keeps (fetching_by returned_unread) while_reading → ⊥
  pub fifteen_each_lem : Keeps (posting_by fifteen_each) once_around → ⊥
  pub account_kept_lem : Keeps (sending_by account_kept) send_none → ⊥
  pub owed_kept_lem : Keeps (posting_by owed_kept) once_around → ⊥
