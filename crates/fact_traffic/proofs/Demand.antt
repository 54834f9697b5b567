-- Demand 3: from handshake, polls and an accepted setup, whatever the order of calls. Assumes nothing.
use Prim.Native.Nat.{ℕ, ◌+◌, ◌-◌, ◌%◌, ◌^◌, ◌<◌, ◌≤◌}
use mathlib.Core.Path.{◌≡◌, refl, sym, ap, subst, ◌∙◌}
use mathlib.Core.Bool.{Bool, true, false}
use mathlib.Core.List.{List, []}
use native.Mathlib.Omega.{arith}
use native.Mathlib.Nat.{mod-add-mod}
use lib.Dec.{ltb}
use borrow.Author.Tests.{lt-ltb, le-ltb}
use mathlib.Core.Logic.{inl, inr}
use lib.ListN.{length, get_or, drop, length-drop}
use lib.Seq.{get_or-drop}
use Rattle.base_side.specs.Step.{Outcome}
use Rattle.base_words.specs.Words.{address_bits, go_word}
use Rattle.base_texts.specs.Texts.{padded}
use Rattle.base_memory.specs.Memory.{Memory, usable}
use Rattle.base_answers.specs.Told.{Told, told, done, refused}
use Rattle.base_area.specs.Layout.{slots, slot_count, base, slot_at, rings_end, envelope_at, area_cleared}
use Rattle.base_area.specs.Setup.{pool_end, fits, set_up}
use Rattle.base_area.specs.declared.Area.{Area}
use Rattle.base_area.specs.declared.Ring.{Ring}
use Rattle.base_area.specs.declared.Ring.TheVariants.{Command, Response}
use Rattle.fact_layout.specs.Facts.{AreaFacts}
use Rattle.fact_layout.proofs.Rings.{slots_some, lt_or_ge, number_lt, every_layout}
use Rattle.fact_plain.specs.Plain.{Entry, Bounds, Plain, start}
use Rattle.fact_plain.specs.Log.{nothing, Ran, begin, Good, posts}
use Rattle.fact_plain.proofs.InOrder.{every_run_in_order}
use Rattle.port_state.specs.Shake.{sa_of}
use Rattle.port_state.specs.declared.state.Made.{Made}
use Rattle.port_state.specs.declared.state.Stage.TheVariants as S
use Rattle.port_state.specs.declared.state.Phase.TheVariants.{Running}
use Rattle.port_state.specs.declared.state.Side.{Side as Fetcher, Side as Poster}
use Rattle.port_state.specs.declared.state.Side.TheVariants.{Idle as NoFetch, At as Fetching, Tail as FetchTail, Idle as NoPost, At as Posting, Tail as PostTail}
use Rattle.port_state.specs.declared.state.Port.{Port}
use Rattle.host_state.specs.State as HostState
use Rattle.host_state.specs.Shake.{area_of}
use Rattle.host_state.specs.Setup.{made_ready, set_up_by}
use Rattle.host_state.specs.declared.state.Shake.TheVariants.{Finished}
use Rattle.host_state.specs.declared.state.Beginning.{Beginning}
use Rattle.base_side.specs.declared.Cursor.{Cursor}
use Rattle.host_state.specs.declared.state.Side.{Side as Taker}
use Rattle.host_state.specs.declared.state.Side.TheVariants.{Idle as NoTake, At as Taking}
use Rattle.host_state.specs.declared.state.Stage.TheVariants as H
use Rattle.host_state.specs.declared.state.Host.{Host}
use Rattle.fact_meeting.specs.Meeting.{Pair, opened, Sight, sees_all, Came}
use Rattle.fact_meeting.proofs.Ways.{every_way}
use Rattle.fact_traffic.specs.Places.{slot_word, Site, view}
use Rattle.fact_traffic.specs.Rings.{Letter, waits, blank, RingInv}
use Rattle.fact_traffic.specs.World.{World, world, Ev, act, final}
use Rattle.fact_traffic.specs.Play.{idle, Play, game, waiting}
use Rattle.fact_traffic.specs.Invariant.{Past, FetchInv, PostInv, whole_from, Inv, Setting, fetch_job, post_job, plain_of, play_of, TakeInv, next_response}
use Rattle.fact_traffic.specs.Traffic.{met, early, started, Start, bounds_of, site_of, history, Promise, AtStart, EveryRun, EarlyFetch, EarlyPost}
use Rattle.fact_traffic.proofs.SetupLaws.{Picture, picture}
use Rattle.fact_traffic.proofs.FirstRings.{first_ring}
use Rattle.fact_traffic.proofs.Begin.{zero_word, zero_mark, PollFetch, PollPost, Polling, poll_all}
use Rattle.fact_traffic.proofs.Sim.{FetchSteps, PostSteps}
use Rattle.fact_traffic.proofs.Run.{Whole, whole}

usable_end : (n size : ℕ) → usable n size ≤ 2 ^ n
unfolding usable
usable_end n size = omega arith

-- an accepted setup fits, and leaves this
setup_fits : (n : ℕ) (a : Area) (pool : ℕ) (m : Memory) → (set_up_by n (HostState.fresh Finished a) pool m).told ≡ told done false → fits n a pool (usable n (length m)) ≡ true
unfolding set_up_by
setup_fits n a pool m e = go (fits n a pool (usable n (length m))) refl
  where
    go : (o : Bool) → fits n a pool (usable n (length m)) ≡ o → fits n a pool (usable n (length m)) ≡ true
    go true k = k
    go false k =
        let c : refused 10 ≡ done = rw k at (ap (λ (t : Told). t.closing) e) in
        let z : ◌≡◌ {A = ℕ} 0 1 = cc in
        absurd (omega arith)

pub setup_is : (n : ℕ) (a : Area) (pool : ℕ) (m : Memory) → fits n a pool (usable n (length m)) ≡ true
    → set_up_by n (HostState.fresh Finished a) pool m ≡ record { told = told done false; state = made_ready (HostState.fresh Finished a) pool; memory = set_up n a pool m }
unfolding set_up_by
setup_is n a pool m k = rw k

sa_zero : (p : Port) (a : Area) (go : ℕ) → p.phase ≡ Running a go → sa_of p ≡ 0
unfolding sa_of
sa_zero p a go e = rw e

-- what a polling port has begun is what the invariant asks of it
polls_fetch : (g : Site) (p : Port) (x : Past) (f : Fetcher) → p.counts.fetch ≡ 0 → PollFetch p f → FetchInv g p x f
polls_fetch g p x NoFetch e P = tt
polls_fetch g p x (Fetching S.High c) e P = record { slot = P.0 ∙ sym e; progress = P.1 }
polls_fetch g p x (Fetching S.Low c) e P = absurd P
polls_fetch g p x (Fetching S.Length c) e P = absurd P
polls_fetch g p x (Fetching S.Header c) e P = absurd P
polls_fetch g p x (Fetching S.Text c) e P = absurd P
polls_fetch g p x (Fetching S.Release c) e P = absurd P
polls_fetch g p x (FetchTail s c) e P = absurd P

polls_post : (g : Site) (v : _) (p : Port) (x : Past) (q : Poster) → p.counts.post ≡ 0 → PollPost p x.posting q → PostInv g v p x q
polls_post g v p x NoPost e P = tt
polls_post g v p x (Posting S.High c) e P =
    record {
      slot = P.slot ∙ sym e;
      size = P.size;
      short = P.short;
      bytes = P.bytes;
      text = P.text;
      owed_one = λ k. absurd (mathlib.Core.Bool.false≢true (sym P.unsolicited ∙ k));
      progress = tt;
    }
polls_post g v p x (Posting S.Low c) e P = absurd P
polls_post g v p x (Posting S.Length c) e P = absurd P
polls_post g v p x (Posting S.Header c) e P = absurd P
polls_post g v p x (Posting S.Text c) e P = absurd P
polls_post g v p x (Posting S.Release c) e P = absurd P
polls_post g v p x (PostTail s c) e P = absurd P

whole_shift : (k : ℕ) (t : Taker) → whole_from k t ≡ k + whole_from 0 t
whole_shift k NoTake = omega arith
whole_shift k (Taking H.High c) = omega arith
whole_shift k (Taking H.Length c) = omega arith
whole_shift k (Taking H.Header c) = omega arith
whole_shift k (Taking H.Text c) = omega arith
whole_shift k (Taking H.Closing c) = omega arith
whole_shift k (Taking H.Release c) = omega arith

-- what is left of a history stands in the ring from the taker's slot on
held : (g : Site) (r : Ring) (m : Memory) (i j : ℕ) (hist : List Entry) (h from : ℕ) → RingInv g (view g m) r i j hist h from → (k : ℕ) → from ≤ h + k → k < length (drop h hist)
    → Letter (view g m) r ((j + k) % slots g.area r) (get_or (drop h hist) k blank)
held g r m i j hist h from R k f l =
    let e : (j + k) % slots g.area r ≡ (h + k) % slots g.area r = ap (λ (y : ℕ). (y + k) % slots g.area r) R.taker ∙ mod-add-mod h (slots g.area r) k in
    rw (e, get_or-drop h hist k blank) (R.kept (h + k) f (omega (arith, l, length-drop h hist)))

-- and the other slots hold none
owned : (g : Site) (r : Ring) (m : Memory) (i j : ℕ) (hist : List Entry) (h from : ℕ) → RingInv g (view g m) r i j hist h from → (k : ℕ) → k < slots g.area r
    → waits r (view g m (slot_word r ((j + k) % slots g.area r) 2)) ≡ ltb k (length (drop h hist))
owned g r m i j hist h from R k l =
    let e : (j + k) % slots g.area r ≡ (h + k) % slots g.area r = ap (λ (y : ℕ). (y + k) % slots g.area r) R.taker ∙ mod-add-mod h (slots g.area r) k in
    elim (lt_or_ge k (length (drop h hist))) [
      | inl u ↦ rw (e, lt-ltb k (length (drop h hist)) u) (R.full (h + k) (omega arith) (omega (arith, u, length-drop h hist)))
      | inr u ↦ rw (e, le-ltb k (length (drop h hist)) u) (R.free (h + k) (omega (arith, u, length-drop h hist)) (omega arith))
    ]

-- what the host has read of the oldest response, before it gives the slot back
in_hand : (g : Site) (end : ℕ) (b : Bounds) (w : World) (y : Past) → Inv g end b w y → (c : Cursor) → w.host.taker ≡ Taking H.Release c
    → (w.host.incoming ≡ padded (get_or (plain_of w y).responses 0 blank).text) × (w.host.credits ≡ (get_or (plain_of w y).responses 0 blank).credits)
in_hand g end b w y I c e =
    let P = (subst (λ (t : Taker). TakeInv g w.host y t) e I.take).progress in
    let q : get_or (drop y.taken y.posted) 0 blank ≡ next_response y = get_or-drop y.taken y.posted 0 blank ∙ ap (λ (k : ℕ). get_or y.posted k blank) (omega arith) in
    rw q (P.1.0, P.1.1.1)

-- a promise, from what holds of the whole run
promised : (b : Beginning) (pool end : ℕ) (bs : Bounds) (St : Setting (site_of b pool) end bs) → 1 ≤ bs.limit → (es : List Ev) (w : World) (x : Past) → Whole (site_of b pool) end bs St es w x 0 0
    → Ran bs nothing (plain_of w x) → Promise (act address_bits) (site_of b pool) bs es w (play_of w x)
promised b pool end bs St some es w x W r =
    let g : Site = site_of b pool in
    let f : World = final (act address_bits) es w in
    let y : Past = W.past in
    let q = W.reaches in
    record {
      each = W.each;
      same = W.same;
      good = subst (λ (s : Play). Good bs (history (act address_bits) bs es w (play_of w x)) s.plain) (sym q) (every_run_in_order bs some (history (act address_bits) bs es w (play_of w x)) (plain_of f y) (W.ran nothing r));
      account = ap (λ (s : Play). s.plain.account) q;
      unanswered = ap (λ (s : Play). s.plain.unanswered) q;
      owed = ap (λ (s : Play). s.plain.owed) q;
      commands_held =
          subst (λ (s : Play). (k : ℕ) → k < length s.plain.commands → Letter (view g f.memory) Command ((f.port.counts.fetch + k) % slots g.area Command) (get_or s.plain.commands k blank)) (sym q)
          (λ k u. held g Command f.memory f.host.counts.send f.port.counts.fetch y.sent y.fetched y.fetched W.inv.commands k (omega arith) u);
      responses_held =
          subst (λ (s : Play). (k : ℕ) → whole_from 0 f.host.taker ≤ k → k < length s.plain.responses → Letter (view g f.memory) Response ((f.host.counts.take + k) % slots g.area Response) (get_or s.plain.responses k blank)) (sym q)
          (λ k v u. held g Response f.memory f.port.counts.post f.host.counts.take y.posted y.taken (whole_from y.taken f.host.taker) W.inv.responses k (omega (arith, whole_shift y.taken f.host.taker)) u);
      response_in_hand =
          subst (λ (s : Play). (c : Cursor) → f.host.taker ≡ Taking H.Release c → (f.host.incoming ≡ padded (get_or s.plain.responses 0 blank).text) × (f.host.credits ≡ (get_or s.plain.responses 0 blank).credits)) (sym q)
          (in_hand g end bs f y W.inv);
      commands_owned =
          subst (λ (s : Play). (k : ℕ) → k < slots g.area Command → waits Command (view g f.memory (slot_word Command ((f.port.counts.fetch + k) % slots g.area Command) 2)) ≡ ltb k (length s.plain.commands)) (sym q)
          (owned g Command f.memory f.host.counts.send f.port.counts.fetch y.sent y.fetched y.fetched W.inv.commands);
      responses_owned =
          subst (λ (s : Play). (k : ℕ) → k < slots g.area Response → waits Response (view g f.memory (slot_word Response ((f.host.counts.take + k) % slots g.area Response) 2)) ≡ ltb k (length s.plain.responses)) (sym q)
          (owned g Response f.memory f.port.counts.post f.host.counts.take y.posted y.taken (whole_from y.taken f.host.taker) W.inv.responses);
      quiet = sa_zero f.port g.area W.inv.agreed.go W.inv.agreed.port_runs;
      calm = W.calm;
    }

-- what a polling port has begun, as the plain machine is asked for it
early_fetch_is : (p : Port) (f : Fetcher) → PollFetch p f → EarlyFetch (fetch_job [] f)
early_fetch_is p NoFetch P = tt
early_fetch_is p (Fetching s c) P = tt
early_fetch_is p (FetchTail s c) P = absurd P

early_post_is : (p : Port) (t : List ℕ) (q : Poster) → PollPost p t q → EarlyPost (post_job t p.asked.answers q)
early_post_is p t NoPost P = tt
early_post_is p t (Posting S.High c) P = subst (λ (o : Bool). EarlyPost (waiting (posts o t))) (sym P.unsolicited) tt
early_post_is p t (Posting S.Low c) P = absurd P
early_post_is p t (Posting S.Length c) P = absurd P
early_post_is p t (Posting S.Header c) P = absurd P
early_post_is p t (Posting S.Text c) P = absurd P
early_post_is p t (Posting S.Release c) P = absurd P
early_post_is p t (PostTail s c) P = absurd P

-- what a polling port has begun has made no step
none_fetched : (p : Port) (f : Fetcher) → PollFetch p f → FetchSteps 0 f
none_fetched p NoFetch P = tt
none_fetched p (Fetching S.High c) P = refl
none_fetched p (Fetching S.Low c) P = absurd P
none_fetched p (Fetching S.Length c) P = absurd P
none_fetched p (Fetching S.Header c) P = absurd P
none_fetched p (Fetching S.Text c) P = absurd P
none_fetched p (Fetching S.Release c) P = absurd P
none_fetched p (FetchTail s c) P = tt

none_posted : (p : Port) (t : List ℕ) (q : Poster) → PollPost p t q → PostSteps 0 q
none_posted p t NoPost P = tt
none_posted p t (Posting S.High c) P = refl
none_posted p t (Posting S.Low c) P = absurd P
none_posted p t (Posting S.Length c) P = absurd P
none_posted p t (Posting S.Header c) P = absurd P
none_posted p t (Posting S.Text c) P = absurd P
none_posted p t (Posting S.Release c) P = absurd P
none_posted p t (PostTail s c) P = tt

module _ (b : Beginning) (x : Pair) (vs : List Sight) (ps : List Ev) (pool : ℕ) (St : Start b x vs ps pool) where
  a : Area
  a = area_of b

  -- after the handshake
  came : Came b x (sees_all vs (opened b x))
  came = every_way b x vs St.settings St.area_in St.finished

  slot_in : (r : Ring) → (base address_bits (area_of b) ≤ slot_at address_bits (area_of b) r 0 + 2) × (slot_at address_bits (area_of b) r 0 + 2 + 2 ≤ rings_end address_bits (area_of b))
  unfolding slot_at
  slot_in r = (omega arith, omega (arith, number_lt (area_of b) r 0 (slots_some (area_of b) r)))

  polls : Polling (area_of b) x.port.made (area_cleared address_bits came.before (area_of b)) (HostState.fresh Finished (area_of b)) (early b x vs ps)
  polls =
      poll_all address_bits (area_of b) x.port.made (area_cleared address_bits came.before (area_of b))
      (λ r. zero_word address_bits came.before (area_of b) (slot_at address_bits (area_of b) r 0 + 2) came.inside (slot_in r).0 (slot_in r).1)
      (λ r. zero_mark address_bits came.before (area_of b) r came.inside)
      ps St.bytes (met b x vs)
      (subst (λ (y : Pair). Polling (area_of b) x.port.made (area_cleared address_bits came.before (area_of b)) (HostState.fresh Finished (area_of b)) (world y.host y.port y.memory))
      (sym came.runs)
      record { host = refl; memory = refl; phase = refl; made_is = refl; counts = refl; fetch = tt; text = []; post = tt })

  before : Memory
  before = (early b x vs ps).memory

  end : ℕ
  end = usable address_bits (length before)

  fit : fits address_bits (area_of b) pool end ≡ true
  unfolding end before
  fit = setup_fits address_bits (area_of b) pool (early b x vs ps).memory (subst (λ (y : Host). (set_up_by address_bits y pool (early b x vs ps).memory).told ≡ told done false) polls.host St.setup)

  F : AreaFacts address_bits (area_of b) pool end
  F = every_layout.area address_bits (area_of b) pool end fit

  rings_in : rings_end address_bits (area_of b) ≤ end
  unfolding slot_at
  rings_in = omega (arith, slots_some (area_of b) Command, F.slot_inside Command (slots (area_of b) Command - 1) (omega (arith, slots_some (area_of b) Command)))

  pool_in : pool_end (area_of b) pool ≤ end
  unfolding envelope_at
  pool_in = omega (arith, slots_some (area_of b) Command, F.envelope_inside Command (slots (area_of b) Command - 1) (omega (arith, slots_some (area_of b) Command)))

  setting : Setting (site_of b pool) end (bounds_of b x)
  unfolding end before
  setting =
      record {
        facts = F;
        wide = omega arith;
        narrow = omega arith;
        end_low = usable_end address_bits (length (early b x vs ps).memory);
        few = St.most;
        command_slots = refl;
        response_slots = refl;
      }

  is_started : started b x vs ps pool ≡ world (made_ready (HostState.fresh Finished (area_of b)) pool) (early b x vs ps).port (set_up address_bits (area_of b) pool before)
  unfolding before end
  is_started =
      ap (λ (o : Outcome Host). world o.state (early b x vs ps).port o.memory)
      (ap (λ (y : Host). set_up_by address_bits y pool (early b x vs ps).memory) polls.host ∙ setup_is address_bits (area_of b) pool (early b x vs ps).memory fit)

  first : Past
  first = record { sent = []; fetched = 0; posted = []; taken = 0; sending = []; posting = polls.text; holding = [] }

  now : World
  now = world (made_ready (HostState.fresh Finished (area_of b)) pool) (early b x vs ps).port (set_up address_bits (area_of b) pool before)

  shown : Picture address_bits (area_of b) pool end F rings_in pool_in (slot_count (area_of b)) (set_up address_bits (area_of b) pool before)
  unfolding end
  shown = picture address_bits (area_of b) pool end F rings_in pool_in before refl

  ring : (r : Ring) → RingInv (site_of b pool) (view (site_of b pool) (set_up address_bits (area_of b) pool before)) r 0 0 [] 0 0
  ring r = first_ring (site_of b pool) end F rings_in pool_in (omega arith) (omega arith) setting.end_low (set_up address_bits (area_of b) pool before) shown r

  inv : Inv (site_of b pool) end (bounds_of b x) now first
  unfolding now first
  inv =
      record {
        agreed =
            record {
              host_area = refl;
              host_pool = refl;
              host_runs = refl;
              host_ready = refl;
              go = go_word;
              port_runs = polls.phase;
              limit = ap (λ (y : Made). y.limit) polls.made_is;
            };
        size = shown.size;
        commands = subst (λ (k : ℕ). RingInv (site_of b pool) (view (site_of b pool) (set_up address_bits (area_of b) pool before)) Command 0 k [] 0 0) (sym (ap (λ y. y.fetch) polls.counts)) (ring Command);
        responses = subst (λ (k : ℕ). RingInv (site_of b pool) (view (site_of b pool) (set_up address_bits (area_of b) pool before)) Response k 0 [] 0 0) (sym (ap (λ y. y.post) polls.counts)) (ring Response);
        send = tt;
        take = tt;
        fetch = polls_fetch (site_of b pool) (early b x vs ps).port (record { sent = []; fetched = 0; posted = []; taken = 0; sending = []; posting = polls.text; holding = [] }) (early b x vs ps).port.fetcher (ap (λ y. y.fetch) polls.counts) polls.fetch;
        post = polls_post (site_of b pool) (view (site_of b pool) (set_up address_bits (area_of b) pool before)) (early b x vs ps).port (record { sent = []; fetched = 0; posted = []; taken = 0; sending = []; posting = polls.text; holding = [] }) (early b x vs ps).port.poster (ap (λ y. y.post) polls.counts) polls.post;
        sum = omega (arith, St.some, ap (λ y. y.unanswered) polls.counts, ap (λ y. y.owed) polls.counts);
      }

  plain_is : plain_of now first ≡ start (bounds_of b x)
  unfolding now first
  plain_is =
      λ i. record { commands = []; responses = []; account = 1; unanswered = (polls.counts i).unanswered; owed = (polls.counts i).owed }

  at_start : AtStart b x vs ps pool
  unfolding now first
  at_start =
      record {
        fetcher = fetch_job [] (early b x vs ps).port.fetcher;
        poster = post_job polls.text (early b x vs ps).port.asked.answers (early b x vs ps).port.poster;
        early_fetch = early_fetch_is (early b x vs ps).port (early b x vs ps).port.fetcher polls.fetch;
        early_post = early_post_is (early b x vs ps).port polls.text (early b x vs ps).port.poster polls.post;
        nothing_early = λ e. (
          ap (λ (qs : List Ev). fetch_job [] (early b x vs qs).port.fetcher) e ∙ ap (λ (y : Pair). fetch_job [] y.port.fetcher) came.runs,
          ap (λ (qs : List Ev). post_job polls.text (early b x vs qs).port.asked.answers (early b x vs qs).port.poster) e ∙ ap (λ (y : Pair). post_job polls.text y.port.asked.answers y.port.poster) came.runs,
        );
        promise = λ es y.
            subst (λ (w : World). Promise (act address_bits) (site_of b pool) (bounds_of b x) es w (game (start (bounds_of b x)) idle idle (fetch_job [] (early b x vs ps).port.fetcher) (post_job polls.text (early b x vs ps).port.asked.answers (early b x vs ps).port.poster))) (sym is_started)
            (subst (λ (s : Plain). Promise (act address_bits) (site_of b pool) (bounds_of b x) es now (game s idle idle (fetch_job [] (early b x vs ps).port.fetcher) (post_job polls.text (early b x vs ps).port.asked.answers (early b x vs ps).port.poster))) plain_is
            (promised b pool end (bounds_of b x) setting St.some es now first (whole (site_of b pool) end (bounds_of b x) setting es y now first inv 0 0 (none_fetched (early b x vs ps).port (early b x vs ps).port.fetcher polls.fetch) (none_posted (early b x vs ps).port polls.text (early b x vs ps).port.poster polls.post))
            (subst (λ (s : Plain). Ran (bounds_of b x) nothing s) (sym plain_is) begin)));
      }

pub every_run : EveryRun
every_run b x vs ps pool St = at_start b x vs ps pool St
