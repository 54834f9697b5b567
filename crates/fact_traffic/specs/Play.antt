-- The plain machine under the same calls: each operation is done whole, at one of its own steps, and its answer told at that step or
-- a later one of its own. The moments are chosen by whoever runs it.
use Rattle.std.specs.Prelude.{Bool, true, false, cond, ◌&&◌, List, [], ◌∷◌, leb, eqb, length}
use Rattle.base_words.specs.Fields.{of, is_set, er, fatal_code}
use Rattle.base_texts.specs.Texts.{room, zeros, padded}
use Rattle.base_answers.specs.Told as Told
use Rattle.host_state.specs.Shake as Shake
use Rattle.fact_plain.specs.Plain.{Bounds, Plain, Closed, done, got, refused}
use Rattle.fact_plain.specs.Log.{Op, sends, fetches, posts, takes, does, Log, noted}
use Rattle.fact_traffic.specs.World.{Ev, begin_send, step_send, begin_take, step_take, begin_fetch, step_fetch, begin_post, step_post, clear_mark, read_sa, write_sa, show_sa, time_is_up, Heard, Ans, call, word, asked}

-- A side: idle, an operation asked for and not yet done, or done and not yet told.
pub data Job : Type 0 where
  idle : Job
  waiting : Op → Job
  over : Closed → Job

pub record Play : Type 0 where
  pub plain : Plain
  pub sender : Job
  pub taker : Job
  pub fetcher : Job
  pub poster : Job

abbrev pub game : Plain → Job → Job → Job → Job → Play
game x s t f p = record { plain = x; sender = s; taker = t; fetcher = f; poster = p }

-- Whether the operation is done at this step, and whether its answer is told.
pub record Moment : Type 0 where
  pub acts : Bool
  pub tells : Bool

abbrev pub heard : Told.Closing → Heard
heard c = record { closing = c; size = 0; bytes = zeros }

-- A closed operation as a call answers it: a text in 60 bytes, zero beyond its length.
abbrev pub closed : Closed → Heard
closed done = heard Told.done
closed (got t) = record { closing = Told.done; size = length t; bytes = padded t }
closed (refused k) = heard (Told.refused k)

-- One step of a side.
pub record Move : Type 0 where
  pub ans : Heard
  pub job : Job
  pub plain : Plain

abbrev pub move : Heard → Job → Plain → Move
move a j x = record { ans = a; job = j; plain = x }

abbrev pub tell : Bool → Closed → Plain → Move
tell true c x = move (closed c) idle x
tell false c x = move (heard Told.going) (over c) x

abbrev pub do_it : Bounds → Bool → Bool → Op → Plain → Move
do_it b false t o x = move (heard Told.going) (waiting o) x
do_it b true t o x = tell t (does b o x).answer (does b o x).after

abbrev pub stepped : Bounds → Moment → Job → Plain → Move
stepped b m idle x = move (heard (Told.refused 12)) idle x
stepped b m (waiting o) x = do_it b m.acts m.tells o x
stepped b m (over c) x = tell m.tells c x

-- Beginning: busy (2), then too long (3), then nothing open (4).
abbrev pub begun : Bool → Bool → Op → Job → Plain → Move
begun short none o idle x =
    cond short (cond none (move (heard (Told.refused 4)) idle x) (move (heard Told.going) (waiting o) x)) (move (heard (Told.refused 3)) idle x)
begun short none o (waiting q) x = move (heard (Told.refused 2)) (waiting q) x
begun short none o (over c) x = move (heard (Told.refused 2)) (over c) x

pub record Played : Type 0 where
  pub ans : Ans
  pub next : Play

abbrev pub played : Ans → Play → Played
played a s = record { ans = a; next = s }

abbrev pub in_sender : Play → Move → Played
in_sender s v = played (call v.ans) (game v.plain v.job s.taker s.fetcher s.poster)

abbrev pub in_taker : Play → Move → Played
in_taker s v = played (call v.ans) (game v.plain s.sender v.job s.fetcher s.poster)

abbrev pub in_fetcher : Play → Move → Played
in_fetcher s v = played (call v.ans) (game v.plain s.sender s.taker v.job s.poster)

abbrev pub in_poster : Play → Move → Played
in_poster s v = played (call v.ans) (game v.plain s.sender s.taker s.fetcher v.job)

-- The same calls. Clearing an indicator and all that concerns SA leave the plain machine alone: SA reads 0 throughout.
abbrev pub play : Bounds → Moment → Ev → Play → Played
play b m (begin_send f t) s = in_sender s (begun (leb (length t) room) false (sends t) s.sender s.plain)
play b m step_send s = in_sender s (stepped b m s.sender s.plain)
play b m begin_take s = in_taker s (begun true false takes s.taker s.plain)
play b m step_take s = in_taker s (stepped b m s.taker s.plain)
play b m begin_fetch s = in_fetcher s (begun true false fetches s.fetcher s.plain)
play b m step_fetch s = in_fetcher s (stepped b m s.fetcher s.plain)
play b m (begin_post a t) s = in_poster s (begun (leb (length t) room) (a && eqb s.plain.unanswered 0) (posts a t) s.poster s.plain)
play b m step_post s = in_poster s (stepped b m s.poster s.plain)
play b m (clear_mark r) s = played (call (heard Told.done)) s
play b m read_sa s = played (word 0) s
play b m (write_sa w) s = played (call (heard Told.done)) s
play b m (show_sa w) s = played (asked (cond (is_set er w) (Shake.port_fatal (of fatal_code w)) Shake.none)) s
play b m time_is_up s = played (asked Shake.none) s

abbrev pub plays : Bounds → List Moment → List Ev → Play → List Ans
plays b [] es s = []
plays b (m ∷ ms) [] s = []
plays b (m ∷ ms) (e ∷ es) s = (play b m e s).ans ∷ plays b ms es (play b m e s).next

abbrev pub ends : Bounds → List Moment → List Ev → Play → Play
ends b [] es s = s
ends b (m ∷ ms) [] s = s
ends b (m ∷ ms) (e ∷ es) s = ends b ms es (play b m e s).next

-- What the plain machine has done, noted as it does it.
abbrev pub logged_job : Bounds → Bool → Job → Plain → Log → Log
logged_job b false j x l = l
logged_job b true idle x l = l
logged_job b true (waiting o) x l = noted b o (does b o x).answer l
logged_job b true (over c) x l = l

abbrev pub logged : Bounds → Moment → Ev → Play → Log → Log
logged b m (begin_send f t) s l = l
logged b m step_send s l = logged_job b m.acts s.sender s.plain l
logged b m begin_take s l = l
logged b m step_take s l = logged_job b m.acts s.taker s.plain l
logged b m begin_fetch s l = l
logged b m step_fetch s l = logged_job b m.acts s.fetcher s.plain l
logged b m (begin_post a t) s l = l
logged b m step_post s l = logged_job b m.acts s.poster s.plain l
logged b m (clear_mark r) s l = l
logged b m read_sa s l = l
logged b m (write_sa w) s l = l
logged b m (show_sa w) s l = l
logged b m time_is_up s l = l

abbrev pub logs : Bounds → List Moment → List Ev → Play → Log → Log
logs b [] es s l = l
logs b (m ∷ ms) [] s l = l
logs b (m ∷ ms) (e ∷ es) s l = logs b ms es (play b m e s).next (logged b m e s l)
