-- The theorem is about something: for every pair of exponents, whatever was in memory before, a start; and a mixed run, computed.
use Rattle.std.specs.Prelude.{ℕ, ◌≤◌, ◌≡◌, Bool, true, false, List, [], ◌∷◌, length, replicate}
use Rattle.base_words.specs.Words.{address_bits}
use Rattle.base_answers.specs.Told as Told
use Rattle.port_state.specs.Shake.{created}
use Rattle.host_state.specs.Shake.{new_host}
use Rattle.host_state.specs.declared.state.Beginning.{Beginning}
use Rattle.fact_meeting.specs.Meeting.{Pair, pair, opened, Sight, honest}
use Rattle.fact_traffic.specs.World.{World, Ev, begin_send, step_send, begin_take, step_take, begin_fetch, step_fetch, begin_post, step_post, Ans, call, act, answers}
use Rattle.fact_traffic.specs.Traffic.{started, Start}

-- Base 8 and the pool at 2048, in any 32 KiB, with any host and any port of a limit of 1 to 64 before.
abbrev pub settings : ℕ → ℕ → Bool → ℕ → Beginning
settings c r i v = record { command = c; response = r; interrupts = i; vector = v; base = 8 }

abbrev pub EveryPair : Type 0
EveryPair =
    (c r : ℕ) (i : Bool) (v : ℕ) (x : Pair) → c ≤ 7 → r ≤ 7 → v ≤ 127 → length x.memory ≡ 32768 → 1 ≤ x.port.made.limit → x.port.made.limit ≤ 64
    → Start (settings c r i v) x (honest 4 (opened (settings c r i v) x)) [] 2048

-- Rings of one slot over 256 bytes, limit 2.
abbrev pub small : Pair
small = pair new_host (created (record { nv = false; qb = false; di = false; version = 0; limit = 2 })).state (replicate 256 0)

abbrev pub small_settings : Beginning
small_settings = record { command = 0; response = 0; interrupts = false; vector = 0; base = 8 }

-- After the handshake and the setup.
abbrev pub small_way : List Sight
small_way = honest 4 (opened small_settings small)

abbrev pub small_start : World
small_start = started small_settings small small_way [] 64

-- A step's numbers: the refusal, 100 for done, 200 for going.
abbrev pub number_of : Told.Closing → ℕ
number_of Told.going = 200
number_of Told.done = 100
number_of (Told.refused k) = k
number_of (Told.fatal k) = 300

abbrev pub shown : List Ans → List ℕ
shown [] = []
shown (call h ∷ rest) = number_of h.closing ∷ shown rest
shown (Rattle.fact_traffic.specs.World.word w ∷ rest) = w ∷ shown rest
shown (Rattle.fact_traffic.specs.World.asked q ∷ rest) = shown rest

-- A command of one byte sent; the next send finds no credit; the fetch, an answer with it, a second answer that finds nothing open, an
-- unsolicited message that finds no slot, the take, and a send again that goes through while the fetch side looks and finds nothing.
abbrev pub calls : List Ev
calls =
    begin_send false (7 ∷ [])
    ∷ step_send ∷ step_send ∷ step_send ∷ begin_fetch ∷ step_fetch ∷ step_send ∷ step_send ∷ step_send
    ∷ begin_send false [] ∷ step_send
    ∷ begin_fetch ∷ step_fetch ∷ step_fetch ∷ step_fetch ∷ step_fetch ∷ step_fetch ∷ step_fetch
    ∷ begin_post true (9 ∷ []) ∷ step_post ∷ step_post ∷ step_post ∷ step_post ∷ step_post ∷ step_post ∷ step_post
    ∷ begin_post true [] ∷ begin_post false [] ∷ step_post
    ∷ begin_take ∷ step_take ∷ step_take ∷ step_take ∷ step_take ∷ step_take ∷ step_take
    ∷ begin_send false [] ∷ step_send ∷ step_send ∷ step_send ∷ step_send ∷ step_send
    ∷ begin_send false [] ∷ step_send
    ∷ []

abbrev pub MixedRun : Type 0
MixedRun =
    shown (answers (act address_bits) calls small_start)
    ≡ 200
    ∷ 200 ∷ 200 ∷ 200 ∷ 200 ∷ 7 ∷ 200 ∷ 200 ∷ 100
    ∷ 200 ∷ 5
    ∷ 200 ∷ 200 ∷ 200 ∷ 200 ∷ 200 ∷ 200 ∷ 100
    ∷ 200 ∷ 200 ∷ 200 ∷ 200 ∷ 200 ∷ 200 ∷ 200 ∷ 100
    ∷ 4 ∷ 200 ∷ 8
    ∷ 200 ∷ 200 ∷ 200 ∷ 200 ∷ 200 ∷ 200 ∷ 100
    ∷ 200 ∷ 200 ∷ 200 ∷ 200 ∷ 200 ∷ 100
    ∷ 200 ∷ 6
    ∷ []
