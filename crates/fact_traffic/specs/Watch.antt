-- One who sees the calls and their answers, and nothing else. He keeps the plain machine beside them, and says of each step whether it is
-- the one at which its operation is done, and whether its answer is told there.
use Rattle.std.specs.Prelude.{ℕ, suc, ◌+◌, Bool, true, false, cond, ◌&&◌, ◌||◌, List, [], ◌∷◌, eqb, length}
use Rattle.base_texts.specs.Texts.{words_of}
use Rattle.base_answers.specs.Told.{Closing, going, done, refused, fatal}
use Rattle.fact_plain.specs.Plain.{Entry, Bounds}
use Rattle.fact_plain.specs.Log.{Op, sends, fetches, posts, takes}
use Rattle.fact_traffic.specs.World.{Ev, begin_send, step_send, begin_take, step_take, begin_fetch, step_fetch, begin_post, step_post, clear_mark, read_sa, write_sa, show_sa, time_is_up, Ans, call, word, asked}
use Rattle.fact_traffic.specs.Play.{Job, idle, waiting, over, Play, Moment, play}

-- The plain machine, and the steps that the fetch and the post under way have made.
pub record Watch : Type 0 where
  pub play : Play
  pub fetching : ℕ
  pub posting : ℕ

abbrev pub watch : Play → ℕ → ℕ → Watch
watch s k j = record { play = s; fetching = k; posting = j }

-- Every answer but "going" ends its operation.
abbrev pub closes : Closing → Bool
closes going = false
closes done = true
closes (refused k) = true
closes (fatal k) = true

abbrev pub ended : Ans → Bool
ended (call h) = closes h.closing
ended (word w) = true
ended (asked q) = true

-- "Fetch: read high word; low word; length; header; text words; write high word .. Post: read high word; low word; write length; header;
-- text words; high word": that write, "where .. the operation has its effect", has so many steps before it.
abbrev pub steps_before : ℕ → ℕ
steps_before size = 4 + words_of size

-- The length of the command that a fetch finds, and of the message under post.
abbrev pub oldest_size : List Entry → ℕ
oldest_size [] = 0
oldest_size (e ∷ es) = length e.text

abbrev pub op_size : Op → ℕ
op_size (sends t) = length t
op_size fetches = 0
op_size (posts a t) = length t
op_size takes = 0

abbrev pub job_size : Job → ℕ
job_size idle = 0
job_size (waiting o) = op_size o
job_size (over c) = 0

-- Whether an operation is asked for and not yet done.
abbrev pub is_waiting : Job → Bool
is_waiting idle = false
is_waiting (waiting o) = true
is_waiting (over c) = false

-- A send or a take is done, and told, where its answer ends it; a fetch or a post is done at its high word, or refused where its answer
-- ends it. Calls that are no steps do nothing.
abbrev pub moment_of : Watch → Ev → Ans → Moment
moment_of w (begin_send f t) a = record { acts = false; tells = false }
moment_of w step_send a = record { acts = ended a; tells = ended a }
moment_of w begin_take a = record { acts = false; tells = false }
moment_of w step_take a = record { acts = ended a; tells = ended a }
moment_of w begin_fetch a = record { acts = false; tells = false }
moment_of w step_fetch a = record { acts = ended a || (is_waiting w.play.fetcher && eqb w.fetching (steps_before (oldest_size w.play.plain.commands))); tells = ended a }
moment_of w (begin_post b t) a = record { acts = false; tells = false }
moment_of w step_post a = record { acts = ended a || (is_waiting w.play.poster && eqb w.posting (steps_before (job_size w.play.poster))); tells = ended a }
moment_of w (clear_mark r) a = record { acts = false; tells = false }
moment_of w read_sa a = record { acts = false; tells = false }
moment_of w (write_sa x) a = record { acts = false; tells = false }
moment_of w (show_sa x) a = record { acts = false; tells = false }
moment_of w time_is_up a = record { acts = false; tells = false }

-- The steps made, after a call: an accepted beginning starts the count anew.
abbrev pub fetch_count : Ev → Ans → ℕ → ℕ
fetch_count (begin_send f t) a k = k
fetch_count step_send a k = k
fetch_count begin_take a k = k
fetch_count step_take a k = k
fetch_count begin_fetch a k = cond (ended a) k 0
fetch_count step_fetch a k = suc k
fetch_count (begin_post b t) a k = k
fetch_count step_post a k = k
fetch_count (clear_mark r) a k = k
fetch_count read_sa a k = k
fetch_count (write_sa w) a k = k
fetch_count (show_sa w) a k = k
fetch_count time_is_up a k = k

abbrev pub post_count : Ev → Ans → ℕ → ℕ
post_count (begin_send f t) a k = k
post_count step_send a k = k
post_count begin_take a k = k
post_count step_take a k = k
post_count begin_fetch a k = k
post_count step_fetch a k = k
post_count (begin_post b t) a k = cond (ended a) k 0
post_count step_post a k = suc k
post_count (clear_mark r) a k = k
post_count read_sa a k = k
post_count (write_sa w) a k = k
post_count (show_sa w) a k = k
post_count time_is_up a k = k

abbrev pub watched : Bounds → Ev → Ans → Watch → Watch
watched b e a w = watch (play b (moment_of w e a) e w.play).next (fetch_count e a w.fetching) (post_count e a w.posting)

-- The moments of a run, from its calls and answers; those of a first part of it are the first part of these.
abbrev pub moments_of : Bounds → List Ev → List Ans → Watch → List Moment
moments_of b [] rest w = []
moments_of b (e ∷ es) [] w = []
moments_of b (e ∷ es) (a ∷ rest) w = moment_of w e a ∷ moments_of b es rest (watched b e a w)
