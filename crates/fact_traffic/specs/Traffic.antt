-- Demand 3, stated: where a run starts, and what is promised of it.
use Rattle.std.specs.Prelude.{ℕ, ◌+◌, ◌%◌, ◌≤◌, ◌<◌, ◌≡◌, Bool, true, false, not, ◌||◌, eqb, ltb, List, [], ◌∷◌, length, get_or}
use Rattle.base_words.specs.Words.{address_bits}
use Rattle.base_texts.specs.Texts.{padded}
use Rattle.base_answers.specs.Told.{Closing, going, done, refused, fatal, told}
use Rattle.base_area.specs.Layout.{slots, area_lies}
use Rattle.base_area.specs.declared.Ring.TheVariants.{Command, Response}
use Rattle.fact_plain.specs.Plain.{Bounds, Plain, start}
use Rattle.fact_plain.specs.Log.{sends, fetches, posts, takes, Log, nothing, Good}
use Rattle.port_state.specs.Shake.{sa_of}
use Rattle.host_state.specs.Shake.{accepts, area_of}
use Rattle.host_state.specs.Setup.{set_up_by}
use Rattle.host_state.specs.declared.state.Beginning.{Beginning}
use Rattle.base_side.specs.declared.Cursor.{Cursor}
use Rattle.host_state.specs.declared.state.Shake.TheVariants.{Finished}
use Rattle.host_state.specs.declared.state.Stage.TheVariants.{Release}
use Rattle.host_state.specs.declared.state.Side.TheVariants.{At as Taking}
use Rattle.fact_meeting.specs.Meeting.{Pair, opened, Sight, sees_all}
use Rattle.fact_traffic.specs.Places.{slot_word, Site, view}
use Rattle.fact_traffic.specs.Rings.{Letter, waits, blank}
use Rattle.fact_traffic.specs.World.{World, world, Ev, Proper, Ans, call, word, asked, act, Halves, answers, final}
use Rattle.fact_traffic.specs.Play.{Job, idle, waiting, over, Moment, Play, game, plays, ends, logs}
use Rattle.fact_traffic.specs.Watch.{watch, moments_of}
use Rattle.fact_traffic.specs.Invariant.{whole_from}

-- Every text of the calls is bytes.
abbrev pub AllProper : List Ev → Type 0
AllProper [] = Unit {0}
AllProper (e ∷ es) = Proper e × AllProper es

-- The handshake by the halves' own calls, from any host and any port over any memory, whatever the host meets with on its way; any
-- calls between GO and the setup, where the rings are zeros; the setup.
abbrev pub met : Beginning → Pair → List Sight → World
met b x vs = world (sees_all vs (opened b x)).host (sees_all vs (opened b x)).port (sees_all vs (opened b x)).memory

abbrev pub early : Beginning → Pair → List Sight → List Ev → World
early b x vs ps = final (act address_bits) ps (met b x vs)

abbrev pub started : Beginning → Pair → List Sight → List Ev → ℕ → World
started b x vs ps pool =
    world (set_up_by address_bits (early b x vs ps).host pool (early b x vs ps).memory).state (early b x vs ps).port
    (set_up_by address_bits (early b x vs ps).host pool (early b x vs ps).memory).memory

-- A start: good settings, an area that lies in memory, a limit of 1 to 64, a handshake that the host has finished, an accepted setup.
pub record Start (b : Beginning) (x : Pair) (vs : List Sight) (ps : List Ev) (pool : ℕ) : Type 0 where
  pub settings : accepts address_bits b ≡ true
  pub area_in : area_lies address_bits x.memory (area_of b) ≡ true
  pub some : 1 ≤ x.port.made.limit
  pub most : x.port.made.limit ≤ 64
  pub finished : (sees_all vs (opened b x)).host.shake ≡ Finished
  pub bytes : AllProper ps
  pub setup : (set_up_by address_bits (early b x vs ps).host pool (early b x vs ps).memory).told ≡ told done false

-- Queues as long as the rings, and the board's limit.
abbrev pub bounds_of : Beginning → Pair → Bounds
bounds_of b x = record { commands = slots (area_of b) Command; responses = slots (area_of b) Response; limit = x.port.made.limit }

abbrev pub site_of : Beginning → ℕ → Site
site_of b pool = record { bits = address_bits; area = area_of b; pool = pool }

-- An answer that is neither refusal 9 nor 10 nor a fatal error.
abbrev pub calm_closing : Closing → Bool
calm_closing going = true
calm_closing done = true
calm_closing (refused k) = not (eqb k 9 || eqb k 10)
calm_closing (fatal k) = false

abbrev pub calmly : Ans → Bool
calmly (call h) = calm_closing h.closing
calmly (word w) = true
calmly (asked q) = true

abbrev pub AllCalm : List Ans → Type 0
AllCalm [] = Unit {0}
AllCalm (a ∷ rest) = (calmly a ≡ true) × AllCalm rest

-- What one who sees only the calls and their answers makes of a run: the moments, the history, the plain machine at the end.
module _ (f : Halves) (b : Bounds) (es : List Ev) (w : World) (s : Play) where
  abbrev pub moments : List Moment
  moments = moments_of b es (answers f es w) (watch s 0 0)

  abbrev pub history : Log
  history = logs b moments es s nothing

  abbrev pub reckoned : Plain
  reckoned = (ends b moments es s).plain

-- What is promised of a run of calls es of two halves from world w, which stands for the play s. A run has every first part of it as a
-- run too, so this holds after every call.
pub record Promise (f : Halves) (g : Site) (b : Bounds) (es : List Ev) (w : World) (s : Play) : Type 0 where
  -- one choice of moments, one for each call, at which the plain machine gives every answer
  pub each : length (moments f b es w s) ≡ length es
  pub same : plays b (moments f b es w s) es s ≡ answers f es w
  -- the history keeps the order, each once, and the queues' bounds; the four are reckoned from it, and sum to the limit
  pub good : Good b (history f b es w s) (reckoned f b es w s)
  -- what is stored agrees: account, commands unanswered, credits still to grant
  pub account : (reckoned f b es w s).account ≡ (final f es w).host.counts.account
  pub unanswered : (reckoned f b es w s).unanswered ≡ (final f es w).port.counts.unanswered
  pub owed : (reckoned f b es w s).owed ≡ (final f es w).port.counts.owed
  -- and the envelopes in memory: what the queues hold stands in the rings from the taker's slot on, with its bytes and credits;
  -- a response that the host has read and is about to give back is in its hand
  pub commands_held : (k : ℕ) → k < length (reckoned f b es w s).commands
      → Letter (view g (final f es w).memory) Command (((final f es w).port.counts.fetch + k) % slots g.area Command) (get_or (reckoned f b es w s).commands k blank)
  pub responses_held : (k : ℕ) → whole_from 0 (final f es w).host.taker ≤ k → k < length (reckoned f b es w s).responses
      → Letter (view g (final f es w).memory) Response (((final f es w).host.counts.take + k) % slots g.area Response) (get_or (reckoned f b es w s).responses k blank)
  pub response_in_hand : (c : Cursor) → (final f es w).host.taker ≡ Taking Release c
      → ((final f es w).host.incoming ≡ padded (get_or (reckoned f b es w s).responses 0 blank).text) × ((final f es w).host.credits ≡ (get_or (reckoned f b es w s).responses 0 blank).credits)
  -- and the owner bits: from the taker's slot on, as many slots hold a message as the queue has, and no other
  pub commands_owned : (k : ℕ) → k < slots g.area Command
      → waits Command (view g (final f es w).memory (slot_word Command (((final f es w).port.counts.fetch + k) % slots g.area Command) 2))
      ≡ ltb k (length (reckoned f b es w s).commands)
  pub responses_owned : (k : ℕ) → k < slots g.area Response
      → waits Response (view g (final f es w).memory (slot_word Response (((final f es w).host.counts.take + k) % slots g.area Response) 2))
      ≡ ltb k (length (reckoned f b es w s).responses)
  -- no fatal error: SA reads 0, and no call answers 9 or 10 or a fatal code
  pub quiet : sa_of (final f es w).port ≡ 0
  pub calm : AllCalm (answers f es w)

-- What the port may have begun before the setup and not stepped since: a fetch, an unsolicited message. No command is open there to answer.
abbrev pub EarlyFetch : Job → Type 0
EarlyFetch idle = Unit {0}
EarlyFetch (waiting (sends t)) = ⊥
EarlyFetch (waiting fetches) = Unit {0}
EarlyFetch (waiting (posts a t)) = ⊥
EarlyFetch (waiting takes) = ⊥
EarlyFetch (over c) = ⊥

abbrev pub EarlyPost : Job → Type 0
EarlyPost idle = Unit {0}
EarlyPost (waiting (sends t)) = ⊥
EarlyPost (waiting fetches) = ⊥
EarlyPost (waiting (posts true t)) = ⊥
EarlyPost (waiting (posts false t)) = Unit {0}
EarlyPost (waiting takes) = ⊥
EarlyPost (over c) = ⊥

-- The plain machine at the start: empty, but for that; then the promise, for every list of calls.
pub record AtStart (b : Beginning) (x : Pair) (vs : List Sight) (ps : List Ev) (pool : ℕ) : Type 0 where
  pub fetcher : Job
  pub poster : Job
  pub early_fetch : EarlyFetch fetcher
  pub early_post : EarlyPost poster
  pub nothing_early : ps ≡ [] → (fetcher ≡ idle) × (poster ≡ idle)
  pub promise : (es : List Ev) → AllProper es
      → Promise (act address_bits) (site_of b pool) (bounds_of b x) es (started b x vs ps pool) (game (start (bounds_of b x)) idle idle fetcher poster)

abbrev pub EveryRun : Type 0
EveryRun = (b : Beginning) (x : Pair) (vs : List Sight) (ps : List Ev) (pool : ℕ) → Start b x vs ps pool → AtStart b x vs ps pool
