-- One step of the world is one step of the plain machine, at a moment of the step's choosing. Assumes nothing.
use Prim.Native.Nat.{ℕ, ◌+◌, ◌<◌}
use mathlib.Core.Path.{◌≡◌, ap, subst, sym}
use mathlib.Core.Bool.{Bool, true, false}
use native.Mathlib.Omega.{arith}
use lib.Dec.{eqb}
use borrow.Author.Tests.{eq-eqb, ne_eqb}
use Rattle.fact_plain.specs.Plain.{Bounds, Plain, Result}
use Rattle.fact_plain.specs.Log.{Op, Allowed, does, noted, Log, Ran, then}
use Rattle.base_texts.specs.Texts.{words_of}
use Rattle.base_side.specs.declared.Cursor.{Cursor}
use Rattle.port_state.specs.declared.state.Stage.{Stage}
use Rattle.port_state.specs.declared.state.Stage.TheVariants as S
use Rattle.port_state.specs.declared.state.Side.{Side as Fetcher, Side as Poster}
use Rattle.port_state.specs.declared.state.Side.TheVariants.{Idle as NoFetch, At as Fetching, Tail as FetchTail, Idle as NoPost, At as Posting, Tail as PostTail}
use Rattle.fact_traffic.specs.Places.{Site}
use Rattle.fact_traffic.specs.World.{World, Ev, Did}
use Rattle.fact_traffic.specs.Play.{Moment, play, played, logged}
use Rattle.fact_traffic.specs.Watch.{watch, moment_of, fetch_count, post_count}
use Rattle.fact_traffic.specs.Invariant.{Past, Inv, plain_of, play_of}
use Rattle.fact_traffic.specs.Traffic.{calmly}

-- how many steps lie behind a stage
abbrev pub steps_to : Stage → Cursor → ℕ
steps_to S.High c = 0
steps_to S.Low c = 1
steps_to S.Length c = 2
steps_to S.Header c = 3
steps_to S.Text c = 4 + c.at
steps_to S.Release c = 4 + words_of c.size

abbrev pub FetchSteps : ℕ → Fetcher → Type 0
FetchSteps k NoFetch = Unit {0}
FetchSteps k (Fetching s c) = k ≡ steps_to s c
FetchSteps k (FetchTail s c) = Unit {0}

abbrev pub PostSteps : ℕ → Poster → Type 0
PostSteps k NoPost = Unit {0}
PostSteps k (Posting s c) = k ≡ steps_to s c
PostSteps k (PostTail s c) = Unit {0}

pub record Sim (g : Site) (end : ℕ) (b : Bounds) (e : Ev) (w : World) (x : Past) (d : Did) : Type 0 where
  pub moment : Moment
  pub past : Past
  pub inv : Inv g end b d.next past
  pub same : play b moment e (play_of w x) ≡ played d.ans (play_of d.next past)
  pub ran : (l : Log) → Ran b l (plain_of w x) → Ran b (logged b moment e (play_of w x) l) (plain_of d.next past)
  pub calm : calmly d.ans ≡ true
  -- one who counts steps names that moment, and goes on counting
  pub timed : (k j : ℕ) → FetchSteps k w.port.fetcher → PostSteps j w.port.poster → moment_of (watch (play_of w x) k j) e d.ans ≡ moment
  pub fetch_counted : (k : ℕ) → FetchSteps k w.port.fetcher → FetchSteps (fetch_count e d.ans k) d.next.port.fetcher
  pub post_counted : (k : ℕ) → PostSteps k w.port.poster → PostSteps (post_count e d.ans k) d.next.port.poster

abbrev pub later : Moment
later = record { acts = false; tells = false }

abbrev pub now : Moment
now = record { acts = true; tells = true }

abbrev pub untold : Moment
untold = record { acts = true; tells = false }

-- the moments of a step that goes on: before its high word, and at it
pub not_yet : (k n : ℕ) → k < n → ◌≡◌ {A = Moment} (record { acts = eqb k n; tells = false }) later
not_yet k n l = ap (λ (o : Bool). record { acts = o; tells = false }) (ne_eqb k n (λ e. omega (arith, l, e)))

pub due : (k n : ℕ) → k ≡ n → ◌≡◌ {A = Moment} (record { acts = eqb k n; tells = false }) untold
due k n e = ap (λ (o : Bool). record { acts = o; tells = false }) (eq-eqb k n e)

-- what the step is equal to may stand for it
pub sim_of : (g : Site) (end : ℕ) (b : Bounds) (e : Ev) (w : World) (x : Past) {A : Type 0} (f : A → Did) {a a' : A} → a ≡ a' → Sim g end b e w x (f a') → Sim g end b e w x (f a)
sim_of g end b e w x f q s = subst (λ y. Sim g end b e w x (f y)) (sym q) s

-- an operation done is one more in the log
pub ran_does : (b : Bounds) (x : Plain) (o : Op) → Allowed o x → (r : Result) → does b o x ≡ r → (l : Log) → Ran b l x → Ran b (noted b o (does b o x).answer l) r.after
ran_does b x o a r e l q = subst (λ (y : Result). Ran b (noted b o (does b o x).answer l) y.after) e (then o a q)
