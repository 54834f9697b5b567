-- A run starts where handshake, early calls and an accepted setup lead. Assumes nothing.
use Rattle.std.specs.Prelude.{None, Option, Some}
use Prim.Native.Nat.{ℕ, zero, suc, ◌+◌, ◌-◌, ◌<◌, ◌≤◌}
use mathlib.Core.Path.{◌≡◌, refl, sym, ap, subst, ◌∙◌}
use mathlib.Core.Bool.{Bool, true, false, cond, ◌&&◌, false≢true}
use mathlib.Core.List.{List, [], ◌∷◌}
use native.Mathlib.Omega.{arith}
use lib.Dec.{leb, eqb}
use lib.ListN.{length, get_or, set}
use borrow.Author.Tests.{leb-true, le-leb}
use Rattle.base_side.specs.Place.{start_of}
use Rattle.base_side.specs.Step.{Next, Outcome, stepped, with_memory, denied}
use Rattle.base_words.specs.Fields.{is_set, pi}
use Rattle.base_words.specs.Words.{go_word}
use Rattle.base_texts.specs.Texts.{zeros, padded}
use Rattle.base_memory.specs.Memory.{Memory, usable, lies, inside, with_word, cleared}
use Rattle.base_memory.specs.OneWord.{found, left}
use Rattle.base_memory.specs.declared.Touch.TheVariants.{Read}
use Rattle.base_memory.proofs.Laws.{usable_le, inside_yes, word_at_yes, cleared_length, cleared_inside}
use Rattle.base_area.specs.Layout.{base, slot_at, rings_end, indicator_back, indicator, lead, area_lies, area_cleared}
use Rattle.base_area.specs.declared.Area.{Area}
use Rattle.base_area.specs.declared.Ring.{Ring}
use Rattle.base_area.specs.declared.Ring.TheVariants.{Command, Response}
use Rattle.port_state.specs.State as PortState
use Rattle.port_state.specs.Shake.{ignored, heard, sa_written}
use Rattle.port_state.specs.Fetch.{fetch_asks, fetch_high, fetch_follows, fetch_step, fetch_begins, fetch_begun}
use Rattle.port_state.specs.Side as PortStep
use Rattle.port_state.specs.Side.{port_step, port_begun}
use Rattle.port_state.specs.Post.{post_asks, post_high, post_follows, post_step, post_begun, post_begins}
use Rattle.base_side.specs.declared.Cursor.{Cursor}
use Rattle.port_state.specs.declared.state.Made.{Made}
use Rattle.port_state.specs.declared.state.Stage.TheVariants as S
use Rattle.port_state.specs.declared.state.Phase.{Phase}
use Rattle.port_state.specs.declared.state.Phase.TheVariants.{Running}
use Rattle.port_state.specs.declared.state.Side.{Side as Fetcher, Side as Poster}
use Rattle.port_state.specs.declared.state.Side.TheVariants.{Idle as NoFetch, At as Fetching, Tail as FetchTail, Idle as NoPost, At as Posting, Tail as PostTail}
use Rattle.port_state.specs.declared.state.Port.{Port}
use Rattle.host_state.specs.State as HostState
use Rattle.host_state.specs.State.{is_ready}
use Rattle.host_state.specs.Shake.{saw_by, sa_seen, late_by, time_up}
use Rattle.host_state.specs.Setup.{clear_follows, indicator_cleared}
use Rattle.host_state.specs.Side as HostStep
use Rattle.host_state.specs.Side.{host_step, host_begun}
use Rattle.host_state.specs.Send.{send_step, send_begun}
use Rattle.host_state.specs.Take.{take_step, take_begun}
use Rattle.host_state.specs.declared.state.Asked.{Asked}
use Rattle.host_state.specs.declared.state.Shake.{Shake}
use Rattle.host_state.specs.declared.state.Shake.TheVariants.{Finished}
use Rattle.host_state.specs.declared.state.Side.TheVariants.{Idle as NoSend, Idle as NoTake}
use Rattle.host_state.specs.declared.state.Host.{Host}
use Rattle.fact_traffic.specs.World.{World, world, Ev, begin_send, step_send, begin_take, step_take, begin_fetch, step_fetch, begin_post, step_post, clear_mark, read_sa, write_sa, show_sa, time_is_up, Bytes, Proper, act, final}
use Rattle.fact_traffic.specs.Traffic.{AllProper}

-- the word at a place of a cleared area is 0
pub zero_word : (n : ℕ) (m : Memory) (a : Area) (q : ℕ) → area_lies n m a ≡ true → base n a ≤ q → q + 2 ≤ rings_end n a
    → found n (area_cleared n m a) (Read q) ≡ Some 0
unfolding area_lies area_cleared lies
zero_word n m a q e lo hi =
    let s = split (leb (lead a) (base n a)) (leb (base n a - lead a) (rings_end n a) && leb (rings_end n a) (usable n (length m))) e in
    let t = split (leb (base n a - lead a) (rings_end n a)) (leb (rings_end n a) (usable n (length m))) s.1 in
    let u : rings_end n a ≤ usable n (length m) = leb-true (rings_end n a) (usable n (length m)) t.1 in
    let k : base n a - lead a ≤ rings_end n a = leb-true (base n a - lead a) (rings_end n a) t.0 in
    let v : rings_end n a ≤ length m = omega (arith, u, usable_le n (length m)) in
    let size : length (cleared n m (base n a - lead a) (rings_end n a)) ≡ length m = cleared_length n m (base n a - lead a) (rings_end n a) s.1 k v in
    let b₀ : get_or (cleared n m (base n a - lead a) (rings_end n a)) q 0 ≡ 0 = cleared_inside n m (base n a - lead a) (rings_end n a) s.1 k v q (omega arith) (omega arith) in
    let b₁ : get_or (cleared n m (base n a - lead a) (rings_end n a)) (q + 1) 0 ≡ 0 = cleared_inside n m (base n a - lead a) (rings_end n a) s.1 k v (q + 1) (omega arith) (omega arith) in
    rw s.0
    (sym (word_at_yes n (cleared n m (base n a - lead a) (rings_end n a)) q (inside_yes n (cleared n m (base n a - lead a) (rings_end n a)) q (usable n (length m)) (ap (usable n) (sym size)) (omega arith)))
    ∙ ap Some (rw (b₀, b₁) refl))
  where
    split : (x y : Bool) → (x && y) ≡ true → (x ≡ true) × (y ≡ true)
    split true y e = (refl, e)
    split false y e = absurd (false≢true e)

-- a port that polls: nothing begun, or begun and not stepped
-- storing 0 where 0 stands changes nothing
set_zero : (m : Memory) (i : ℕ) → get_or m i 0 ≡ 0 → set m i 0 ≡ m
set_zero [] i e = refl
set_zero (x ∷ xs) zero e = ap (λ (y : ℕ). y ∷ xs) (sym e)
set_zero (x ∷ xs) (suc i) e = ap (λ (r : Memory). x ∷ r) (set_zero xs i e)

word_zero : (n : ℕ) (m : Memory) (q : ℕ) → get_or m q 0 ≡ 0 → get_or m (q + 1) 0 ≡ 0 → with_word n m q 0 ≡ m
unfolding with_word
word_zero n m q e f = go (inside n m q)
  where
    go : (o : Bool) → cond o (set (set m q 0) (q + 1) 0) m ≡ m
    go true = ap (λ (k : Memory). set k (q + 1) 0) (set_zero m q e) ∙ set_zero m (q + 1) f
    go false = refl

lead_least : (a : Area) → 4 ≤ lead a
lead_least a = go (is_set pi a.second)
  where
    go : (o : Bool) → 4 ≤ cond o 8 4
    go true = omega arith
    go false = omega arith

back_most : (r : Ring) → (indicator_back r ≤ 4) × (2 ≤ indicator_back r)
back_most Command = (omega arith, omega arith)
back_most Response = (omega arith, omega arith)

-- the indicators of a cleared area are 0: clearing one changes nothing
pub zero_mark : (n : ℕ) (m : Memory) (a : Area) (r : Ring) → area_lies n m a ≡ true → left n (area_cleared n m a) (indicator n a r 0) ≡ area_cleared n m a
unfolding area_lies area_cleared lies indicator
zero_mark n m a r e =
    let s = split (leb (lead a) (base n a)) (leb (base n a - lead a) (rings_end n a) && leb (rings_end n a) (usable n (length m))) e in
    let t = split (leb (base n a - lead a) (rings_end n a)) (leb (rings_end n a) (usable n (length m))) s.1 in
    let l : lead a ≤ base n a = leb-true (lead a) (base n a) s.0 in
    let k : base n a - lead a ≤ rings_end n a = leb-true (base n a - lead a) (rings_end n a) t.0 in
    let v : rings_end n a ≤ length m = omega (arith, leb-true (rings_end n a) (usable n (length m)) t.1, usable_le n (length m)) in
    let q : ℕ = base n a - indicator_back r in
    let c : (j : ℕ) → base n a - lead a ≤ j → j < base n a → get_or (cleared n m (base n a - lead a) (rings_end n a)) j 0 ≡ 0 =
    λ j lo hi. cleared_inside n m (base n a - lead a) (rings_end n a) s.1 k v j lo (omega (arith, hi)) in
    rw (s.0, le-leb (indicator_back r) (base n a) (omega (arith, l, lead_least a, (back_most r).0)))
    (word_zero n (cleared n m (base n a - lead a) (rings_end n a)) q
    (c q (omega (arith, l, lead_least a, (back_most r).0)) (omega (arith, l, lead_least a, (back_most r).1)))
    (c (q + 1) (omega (arith, l, lead_least a, (back_most r).0)) (omega (arith, l, lead_least a, (back_most r).1))))
  where
    split : (x y : Bool) → (x && y) ≡ true → (x ≡ true) × (y ≡ true)
    split true y e = (refl, e)
    split false y e = absurd (false≢true e)

-- what the host's calls come to before the setup
send_begun_off : (g : Host) (x : Asked) (t : List ℕ) → is_ready g ≡ false → (send_begun g x t).state ≡ g
unfolding send_begun is_ready host_begun
send_begun_off g x t e = rw e

send_off : (n : ℕ) (g : Host) (k : Memory) → is_ready g ≡ false → send_step n g k ≡ with_memory (HostStep.refuse g Command 1) k
unfolding send_step is_ready host_step
send_off n g k e = rw e

take_begun_off : (g : Host) → is_ready g ≡ false → (take_begun g).state ≡ g
unfolding take_begun is_ready host_begun
take_begun_off g e = rw e

take_off : (n : ℕ) (g : Host) (k : Memory) → is_ready g ≡ false → take_step n g k ≡ with_memory (HostStep.refuse g Response 1) k
unfolding take_step is_ready host_step
take_off n g k e = rw e

seen_off : (g : Host) (v : ℕ) → g.shake ≡ Finished → (sa_seen g v).state ≡ g
unfolding sa_seen
seen_off g v e = ap (λ (y : Shake). (saw_by g v y).state) e

late_off : (g : Host) → g.shake ≡ Finished → (time_up g).state ≡ g
unfolding time_up
late_off g e = ap (λ (y : Shake). (late_by g y).state) e

clear_state : (g : Host) (w : Option ℕ) → (clear_follows g w).state ≡ g
clear_state g None = refl
clear_state g (Some v) = refl

clear_off : (n : ℕ) (g : Host) (r : Ring) (k : Memory) → g.shake ≡ Finished
    → indicator_cleared n g r k ≡ stepped n k (indicator n g.area r 0) (clear_follows g)
unfolding indicator_cleared
clear_off n g r k e =
    ap (λ (y : Shake). cond (HostState.is_finished y) (stepped n k (indicator n g.area r 0) (clear_follows g)) (with_memory (denied g 1) k)) e

write_off : (n : ℕ) (p : Port) (a : Area) (go v : ℕ) (k : Memory) → p.phase ≡ Running a go → sa_written n p v k ≡ with_memory (ignored p) k
unfolding sa_written
write_off n p a go v k e = ap (λ (y : Phase). heard n p v k y) e

abbrev pub PollFetch : Port → Fetcher → Type 0
PollFetch p NoFetch = Unit {0}
PollFetch p (Fetching S.High c) = (c.slot ≡ 0) × (p.incoming ≡ zeros)
PollFetch p (Fetching S.Low c) = ⊥
PollFetch p (Fetching S.Length c) = ⊥
PollFetch p (Fetching S.Header c) = ⊥
PollFetch p (Fetching S.Text c) = ⊥
PollFetch p (Fetching S.Release c) = ⊥
PollFetch p (FetchTail s c) = ⊥

pub record PollPostOn (p : Port) (t : List ℕ) (c : Cursor) : Type 0 where
  pub slot : c.slot ≡ 0
  pub size : c.size ≡ length t
  pub short : length t ≤ 60
  pub bytes : Bytes t
  pub text : p.outgoing ≡ padded t
  pub unsolicited : p.asked.answers ≡ false

abbrev pub PollPost : Port → List ℕ → Poster → Type 0
PollPost p t NoPost = Unit {0}
PollPost p t (Posting S.High c) = PollPostOn p t c
PollPost p t (Posting S.Low c) = ⊥
PollPost p t (Posting S.Length c) = ⊥
PollPost p t (Posting S.Header c) = ⊥
PollPost p t (Posting S.Text c) = ⊥
PollPost p t (Posting S.Release c) = ⊥
PollPost p t (PostTail s c) = ⊥

pub record Polling (a : Area) (made : Made) (m : Memory) (h : Host) (w : World) : Type 0 where
  pub host : w.host ≡ h
  pub memory : w.memory ≡ m
  pub phase : w.port.phase ≡ Running a go_word
  pub made_is : w.port.made ≡ made
  pub counts : w.port.counts ≡ record { fetch = 0; post = 0; owed = made.limit - 1; unanswered = 0 }
  pub fetch : PollFetch w.port w.port.fetcher
  pub text : List ℕ
  pub post : PollPost w.port text w.port.poster

-- what a poll's step comes to
fetch_poll : (n : ℕ) (p : Port) (a : Area) (go : ℕ) (m : Memory) (c : Cursor) → p.phase ≡ Running a go → c.slot ≡ 0 → found n m (Read (slot_at n a Command 0 + 2)) ≡ Some 0
    → fetch_step n (PortState.with_fetcher p (Fetching S.High c)) m ≡ with_memory (PortStep.refuse (PortState.with_fetcher p (Fetching S.High c)) Command 7) m
unfolding fetch_step fetch_follows fetch_asks fetch_high port_step
fetch_poll n p a go m c r s f = rw (r, s, f)

fetch_none_lem : (n : ℕ) (p : Port) (a : Area) (go : ℕ) (m : Memory) → p.phase ≡ Running a go
    → fetch_step n (PortState.with_fetcher p NoFetch) m ≡ with_memory (PortStep.refuse (PortState.with_fetcher p NoFetch) Command 12) m
unfolding fetch_step port_step
fetch_none_lem n p a go m r = rw r

post_poll : (n : ℕ) (p : Port) (a : Area) (go : ℕ) (m : Memory) (c : Cursor) → p.phase ≡ Running a go → c.slot ≡ 0 → found n m (Read (slot_at n a Response 0 + 2)) ≡ Some 0
    → post_step n (PortState.with_poster p (Posting S.High c)) m ≡ with_memory (PortStep.refuse (PortState.with_poster p (Posting S.High c)) Response 8) m
unfolding post_step post_follows post_asks post_high port_step
post_poll n p a go m c r s f = rw (r, s, f)

post_none : (n : ℕ) (p : Port) (a : Area) (go : ℕ) (m : Memory) → p.phase ≡ Running a go
    → post_step n (PortState.with_poster p NoPost) m ≡ with_memory (PortStep.refuse (PortState.with_poster p NoPost) Response 12) m
unfolding post_step port_step
post_none n p a go m r = rw r

begun_fetch : (p : Port) (f : Fetcher) (a : Area) (go : ℕ) → p.phase ≡ Running a go → fetch_begun (PortState.with_fetcher p f) ≡ cond (PortStep.is_idle f) (fetch_begins (PortState.with_fetcher p f)) (denied (PortState.with_fetcher p f) 2)
unfolding fetch_begun port_begun
begun_fetch p f a go r = rw r

begun_post : (p : Port) (q : Poster) (k : Bool) (t : List ℕ) (a : Area) (go : ℕ) → p.phase ≡ Running a go
    → post_begun (PortState.with_poster p q) (record { answers = k }) t
    ≡ cond (PortStep.is_idle q) (post_begins (PortState.with_poster p q) (record { answers = k }) t) (denied (PortState.with_poster p q) 2)
unfolding post_begun port_begun
begun_post p q k t a go r = rw r

module _ (n : ℕ) (a : Area) (made : Made) (m : Memory) (zero_high : (r : Ring) → found n m (Read (slot_at n a r 0 + 2)) ≡ Some 0)
    (zero-marks : (r : Ring) → left n m (indicator n a r 0) ≡ m) where
  -- a host that has finished its handshake and had no setup
  abbrev h : Host
  h = HostState.fresh Finished a

  -- the same host and memory
  host_by : (w : World) (g : Host) → g ≡ w.host → Polling a made m h w → Polling a made m h (world g w.port w.memory)
  host_by w g e I = subst (λ (z : Host). Polling a made m h (world z w.port w.memory)) (sym e) I

  not_ready : (w : World) → Polling a made m h w → is_ready w.host ≡ false
  unfolding is_ready
  not_ready w I = ap is_ready I.host

  shaken : (w : World) → Polling a made m h w → w.host.shake ≡ Finished
  shaken w I = ap (λ (z : Host). z.shake) I.host

  unmarked : (r : Ring) (w : World) → Polling a made m h w → left n w.memory (indicator n w.host.area r 0) ≡ w.memory
  unmarked r w I =
      ap (λ (k : Memory). left n k (indicator n w.host.area r 0)) I.memory ∙ ap (λ (z : Host). left n m (indicator n z.area r 0)) I.host ∙ zero-marks r ∙ sym I.memory

  -- the same port but for its sides
  kept_by : (w : World) (p' : Port) → p'.phase ≡ w.port.phase → p'.made ≡ w.port.made → p'.counts ≡ w.port.counts → (I : Polling a made m h w)
      → PollFetch p' p'.fetcher → (t : List ℕ) → PollPost p' t p'.poster → Polling a made m h (world w.host p' w.memory)
  kept_by w p' e f c I F t P =
      record { host = I.host; memory = I.memory; phase = e ∙ I.phase; made_is = f ∙ I.made_is; counts = c ∙ I.counts; fetch = F; text = t; post = P }

  post_same : (p p' : Port) (t : List ℕ) (q : Poster) → p.outgoing ≡ p'.outgoing → p.asked.answers ≡ p'.asked.answers → PollPost p t q → PollPost p' t q
  post_same p p' t NoPost e d P = tt
  post_same p p' t (Posting S.High c) e d P = record { slot = P.slot; size = P.size; short = P.short; bytes = P.bytes; text = sym e ∙ P.text; unsolicited = sym d ∙ P.unsolicited }
  post_same p p' t (Posting S.Low c) e d P = P
  post_same p p' t (Posting S.Length c) e d P = P
  post_same p p' t (Posting S.Header c) e d P = P
  post_same p p' t (Posting S.Text c) e d P = P
  post_same p p' t (Posting S.Release c) e d P = P
  post_same p p' t (PostTail s c) e d P = P

  fetch_same : (p p' : Port) (q : Fetcher) → p.incoming ≡ p'.incoming → PollFetch p q → PollFetch p' q
  fetch_same p p' NoFetch e P = tt
  fetch_same p p' (Fetching S.High c) e P = (P.0, sym e ∙ P.1)
  fetch_same p p' (Fetching S.Low c) e P = P
  fetch_same p p' (Fetching S.Length c) e P = P
  fetch_same p p' (Fetching S.Header c) e P = P
  fetch_same p p' (Fetching S.Text c) e P = P
  fetch_same p p' (Fetching S.Release c) e P = P
  fetch_same p p' (FetchTail s c) e P = P

  module _ (g : Host) (p : Port) (k : Memory) where
    step_fetch_lem : (f : Fetcher) → Polling a made m h (world g (PortState.with_fetcher p f) k) → Polling a made m h (act n step_fetch (world g (PortState.with_fetcher p f) k)).next
    step_fetch_lem NoFetch I =
        subst (λ (o : Outcome Port). Polling a made m h (world g o.state o.memory)) (sym (fetch_none_lem n p a go_word k I.phase)) I
    step_fetch_lem (Fetching S.High c) I =
        subst (λ (o : Outcome Port). Polling a made m h (world g o.state o.memory))
        (sym (fetch_poll n p a go_word k c I.phase I.fetch.0 (subst (λ (y : Memory). found n y (Read (slot_at n a Command 0 + 2)) ≡ Some 0) (sym I.memory) (zero_high Command))))
        (kept_by (world g (PortState.with_fetcher p (Fetching S.High c)) k) (PortState.with_fetcher p NoFetch) refl refl refl I tt I.text (post_same (PortState.with_fetcher p (Fetching S.High c)) (PortState.with_fetcher p NoFetch) I.text p.poster refl refl I.post))
    step_fetch_lem (Fetching S.Low c) I = absurd I.fetch
    step_fetch_lem (Fetching S.Length c) I = absurd I.fetch
    step_fetch_lem (Fetching S.Header c) I = absurd I.fetch
    step_fetch_lem (Fetching S.Text c) I = absurd I.fetch
    step_fetch_lem (Fetching S.Release c) I = absurd I.fetch
    step_fetch_lem (FetchTail s c) I = absurd I.fetch

    step_post_lem : (q : Poster) → Polling a made m h (world g (PortState.with_poster p q) k) → Polling a made m h (act n step_post (world g (PortState.with_poster p q) k)).next
    step_post_lem NoPost I =
        subst (λ (o : Outcome Port). Polling a made m h (world g o.state o.memory)) (sym (post_none n p a go_word k I.phase)) I
    step_post_lem (Posting S.High c) I =
        subst (λ (o : Outcome Port). Polling a made m h (world g o.state o.memory))
        (sym (post_poll n p a go_word k c I.phase I.post.slot (subst (λ (y : Memory). found n y (Read (slot_at n a Response 0 + 2)) ≡ Some 0) (sym I.memory) (zero_high Response))))
        (kept_by (world g (PortState.with_poster p (Posting S.High c)) k) (PortState.with_poster p NoPost) refl refl refl I (fetch_same (PortState.with_poster p (Posting S.High c)) (PortState.with_poster p NoPost) p.fetcher refl I.fetch) I.text tt)
    step_post_lem (Posting S.Low c) I = absurd I.post
    step_post_lem (Posting S.Length c) I = absurd I.post
    step_post_lem (Posting S.Header c) I = absurd I.post
    step_post_lem (Posting S.Text c) I = absurd I.post
    step_post_lem (Posting S.Release c) I = absurd I.post
    step_post_lem (PostTail s c) I = absurd I.post

    begin_fetch_lem : (f : Fetcher) → Polling a made m h (world g (PortState.with_fetcher p f) k) → Polling a made m h (act n begin_fetch (world g (PortState.with_fetcher p f) k)).next
    begin_fetch_lem f I =
        subst (λ (o : Next Port). Polling a made m h (world g o.state k)) (sym (begun_fetch p f a go_word I.phase)) (go f I)
      where
        go : (f : Fetcher) → Polling a made m h (world g (PortState.with_fetcher p f) k) → Polling a made m h (world g (cond (PortStep.is_idle f) (fetch_begins (PortState.with_fetcher p f)) (denied (PortState.with_fetcher p f) 2)).state k)
        go NoFetch I =
            kept_by (world g (PortState.with_fetcher p NoFetch) k)
            (PortState.with_fetcher (PortState.with_incoming p zeros) (Fetching S.High (start_of p.counts.fetch 0 0))) refl refl refl I
            (ap (λ y. y.fetch) I.counts, refl) I.text
            (post_same (PortState.with_fetcher p NoFetch) (PortState.with_fetcher (PortState.with_incoming p zeros) (Fetching S.High (start_of p.counts.fetch 0 0))) I.text p.poster refl refl I.post)
        go (Fetching s c) I = I
        go (FetchTail s c) I = I

    begin_post_lem : (q : Poster) (b : Bool) (t : List ℕ) → Bytes t → Polling a made m h (world g (PortState.with_poster p q) k) → Polling a made m h (act n (begin_post b t) (world g (PortState.with_poster p q) k)).next
    begin_post_lem q b t y I =
        subst (λ (o : Next Port). Polling a made m h (world g o.state k)) (sym (begun_post p q b t a go_word I.phase)) (go q I)
      where
        fresh : Polling a made m h (world g (PortState.with_poster p NoPost) k) → (o : Bool) → leb (length t) 60 ≡ o → (b : Bool) → Polling a made m h (world g (post_begins (PortState.with_poster p NoPost) (record { answers = b }) t).state k)
        fresh I false e b = rw e I
        fresh I true e true =
            let z : eqb p.counts.unanswered 0 ≡ true = ap (λ y. eqb y.unanswered 0) I.counts in
            rw (e, z) I
        fresh I true e false =
            rw e
            (kept_by (world g (PortState.with_poster p NoPost) k)
            (PortState.with_poster (PortState.with_outgoing p (padded t) (record { answers = false })) (Posting S.High (start_of p.counts.post 0 (length t)))) refl refl refl I
            (fetch_same (PortState.with_poster p NoPost) (PortState.with_poster (PortState.with_outgoing p (padded t) (record { answers = false })) (Posting S.High (start_of p.counts.post 0 (length t)))) p.fetcher refl I.fetch) t
            record { slot = ap (λ y. y.post) I.counts; size = refl; short = leb-true (length t) 60 e; bytes = y; text = refl; unsolicited = refl })

        go : (q : Poster) → Polling a made m h (world g (PortState.with_poster p q) k) → Polling a made m h (world g (cond (PortStep.is_idle q) (post_begins (PortState.with_poster p q) (record { answers = b }) t) (denied (PortState.with_poster p q) 2)).state k)
        go NoPost I = fresh I (leb (length t) 60) refl b
        go (Posting s c) I = I
        go (PostTail s c) I = I

  poll : (e : Ev) → Proper e → (w : World) → Polling a made m h w → Polling a made m h (act n e w).next
  poll (begin_send f t) y w I = host_by w (send_begun w.host (record { flag = f }) t).state (send_begun_off w.host (record { flag = f }) t (not_ready w I)) I
  poll step_send y w I =
      subst (λ (o : Outcome Host). Polling a made m h (world o.state w.port o.memory)) (sym (send_off n w.host w.memory (not_ready w I)))
      (host_by w (HostState.with_sender w.host NoSend) (ap (λ (z : Host). HostState.with_sender z NoSend) I.host ∙ sym I.host) I)
  poll begin_take y w I = host_by w (take_begun w.host).state (take_begun_off w.host (not_ready w I)) I
  poll step_take y w I =
      subst (λ (o : Outcome Host). Polling a made m h (world o.state w.port o.memory)) (sym (take_off n w.host w.memory (not_ready w I)))
      (host_by w (HostState.with_taker w.host NoTake) (ap (λ (z : Host). HostState.with_taker z NoTake) I.host ∙ sym I.host) I)
  poll begin_fetch y w I = begin_fetch_lem w.host w.port w.memory w.port.fetcher I
  poll step_fetch y w I = step_fetch_lem w.host w.port w.memory w.port.fetcher I
  poll (begin_post b t) y w I = begin_post_lem w.host w.port w.memory w.port.poster b t y I
  poll step_post y w I = step_post_lem w.host w.port w.memory w.port.poster I
  poll (clear_mark r) y w I =
      subst (λ (o : Outcome Host). Polling a made m h (world o.state w.port o.memory)) (sym (clear_off n w.host r w.memory (shaken w I)))
      (host_by (world w.host w.port (left n w.memory (indicator n w.host.area r 0)))
      (clear_follows w.host (found n w.memory (indicator n w.host.area r 0))).state
      (clear_state w.host (found n w.memory (indicator n w.host.area r 0)))
      (subst (λ (k : Memory). Polling a made m h (world w.host w.port k)) (sym (unmarked r w I)) I))
  poll read_sa y w I = I
  poll (write_sa v) y w I =
      subst (λ (o : Outcome Port). Polling a made m h (world w.host o.state o.memory)) (sym (write_off n w.port a go_word v w.memory I.phase)) I
  poll (show_sa v) y w I = host_by w (sa_seen w.host v).state (seen_off w.host v (shaken w I)) I
  poll time_is_up y w I = host_by w (time_up w.host).state (late_off w.host (shaken w I)) I

  pub poll_all : (ps : List Ev) → AllProper ps → (w : World) → Polling a made m h w → Polling a made m h (final (act n) ps w)
  poll_all [] y w I = I
  poll_all (e ∷ ps) y w I = poll_all ps y.1 (act n e w).next (poll e y.0 w I)
