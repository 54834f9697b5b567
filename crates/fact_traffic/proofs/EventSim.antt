-- The calls that begin an operation, clear an indicator, or concern SA. Assumes nothing.
use Rattle.std.specs.Prelude.{Some}
use Prim.Native.Nat.{ℕ, ◌≤◌, ◌<◌}
use mathlib.Core.Path.{◌≡◌, refl, sym, ap, subst, ◌∙◌}
use mathlib.Core.Bool.{Bool, true, false, cond, ◌&&◌}
use mathlib.Core.List.{List}
use native.Mathlib.Omega.{arith}
use lib.Dec.{leb, eqb}
use lib.Pow.{pow_mono}
use lib.ListN.{length}
use borrow.Author.Tests.{leb-true, eqb-false}
use Rattle.base_side.specs.Place.{start_of}
use Rattle.base_side.specs.Step.{with_memory, denied}
use Rattle.base_words.specs.Fields.{of, is_set, er, fatal_code}
use Rattle.base_texts.specs.Texts.{zeros, padded}
use Rattle.base_memory.specs.Memory.{Memory, with_word}
use Rattle.base_memory.specs.OneWord.{found}
use Rattle.base_memory.specs.declared.Touch.TheVariants.{Write}
use Rattle.base_answers.specs.Told.{told, done}
use Rattle.base_area.specs.Layout.{slots, envelope_at}
use Rattle.base_area.specs.declared.Area.{Area}
use Rattle.base_area.specs.declared.Ring.{Ring}
use Rattle.base_area.specs.declared.Ring.TheVariants.{Command, Response}
use Rattle.fact_layout.specs.Facts.{AreaFacts}
use Rattle.fact_plain.specs.Plain.{Bounds}
use Rattle.port_state.specs.State as PortState
use Rattle.port_state.specs.Shake.{sa_of, sa_written, ignored}
use Rattle.port_state.specs.Fetch.{fetch_begins, fetch_begun}
use Rattle.port_state.specs.Side as PortStep
use Rattle.port_state.specs.Side.{port_begun}
use Rattle.port_state.specs.Post.{post_begun, post_begins}
use Rattle.port_state.specs.declared.state.Stage.TheVariants as S
use Rattle.port_state.specs.declared.state.Phase.TheVariants.{Running}
use Rattle.port_state.specs.declared.state.Side.{Side as Fetcher, Side as Poster}
use Rattle.port_state.specs.declared.state.Side.TheVariants.{Idle as NoFetch, At as Fetching, Tail as FetchTail, Idle as NoPost, At as Posting, Tail as PostTail}
use Rattle.port_state.specs.declared.state.Port.{Port}
use Rattle.host_state.specs.State as HostState
use Rattle.host_state.specs.State.{is_ready}
use Rattle.host_state.specs.Shake.{turn, port_fatal, none, sa_seen, time_up}
use Rattle.host_state.specs.Setup.{indicator_cleared}
use Rattle.host_state.specs.Send.{send_begun, send_begins}
use Rattle.host_state.specs.Side as HostStep
use Rattle.host_state.specs.Side.{host_begun}
use Rattle.host_state.specs.Take.{take_begins, take_begun}
use Rattle.host_state.specs.declared.state.Stage.TheVariants as H
use Rattle.host_state.specs.declared.state.Shake.TheVariants.{Finished}
use Rattle.host_state.specs.declared.state.Side.{Side as Sender, Side as Taker}
use Rattle.host_state.specs.declared.state.Side.TheVariants.{Idle as NoSend, At as Sending, Idle as NoTake, At as Taking}
use Rattle.host_state.specs.declared.state.Host.{Host}
use Rattle.fact_traffic.specs.Places.{mark_word, Site, addr, view}
use Rattle.fact_traffic.specs.World.{World, world, Ev, begin_send, begin_take, begin_fetch, begin_post, clear_mark, read_sa, write_sa, show_sa, time_is_up, Bytes, Did, act, by_host, by_host_only, by_port, by_port_only, by_turn}
use Rattle.fact_traffic.specs.Invariant.{Past, Inv, Setting}
use Rattle.fact_traffic.proofs.Place.{writes}
use Rattle.fact_traffic.proofs.RingLaws.{slot_lt}
use Rattle.fact_traffic.proofs.Frames.{send_frame, fetch_frame, take_frame, post_frame}
use Rattle.fact_traffic.specs.Traffic.{calmly}
use Rattle.fact_traffic.specs.Watch.{watch, moment_of, fetch_count, post_count}
use Rattle.fact_traffic.proofs.Marks.{marked, post_stays}
use Rattle.fact_traffic.proofs.Sim.{Sim, FetchSteps, PostSteps, later, sim_of}

module _ (g : Site) (end : ℕ) (b : Bounds) (S' : Setting g end b) (h : Host) (p : Port) (m : Memory) (x : Past) where
  F : AreaFacts g.bits g.area g.pool end
  F = S'.facts

  -- a call at which nothing is done leaves the log alone
  not_logged : (e : Ev) (s : Rattle.fact_traffic.specs.Play.Play) (l : Rattle.fact_plain.specs.Log.Log) → Rattle.fact_traffic.specs.Play.logged b later e s l ≡ l
  not_logged (begin_send f t) s l = refl
  not_logged Rattle.fact_traffic.specs.World.step_send s l = refl
  not_logged begin_take s l = refl
  not_logged Rattle.fact_traffic.specs.World.step_take s l = refl
  not_logged begin_fetch s l = refl
  not_logged Rattle.fact_traffic.specs.World.step_fetch s l = refl
  not_logged (begin_post a t) s l = refl
  not_logged Rattle.fact_traffic.specs.World.step_post s l = refl
  not_logged (clear_mark r) s l = refl
  not_logged read_sa s l = refl
  not_logged (write_sa w) s l = refl
  not_logged (show_sa w) s l = refl
  not_logged time_is_up s l = refl

  -- nothing changes
  still : (e : Ev) (w : World) → Inv g end b w x → (d : Did) → d.next ≡ w
      → Rattle.fact_traffic.specs.Play.play b later e (Rattle.fact_traffic.specs.Invariant.play_of w x) ≡ Rattle.fact_traffic.specs.Play.played d.ans (Rattle.fact_traffic.specs.Invariant.play_of w x)
      → calmly d.ans ≡ true → ((k j : ℕ) → moment_of (watch (Rattle.fact_traffic.specs.Invariant.play_of w x) k j) e d.ans ≡ later)
      → ((k : ℕ) → fetch_count e d.ans k ≡ k) → ((k : ℕ) → post_count e d.ans k ≡ k)
      → Sim g end b e w x d
  still e w I d q s c t f p =
      record {
        moment = later;
        past = x;
        inv = subst (λ (y : World). Inv g end b y x) (sym q) I;
        same = s ∙ ap (λ (y : World). Rattle.fact_traffic.specs.Play.played d.ans (Rattle.fact_traffic.specs.Invariant.play_of y x)) (sym q);
        ran = λ l r. subst (λ (k : Rattle.fact_plain.specs.Log.Log). Rattle.fact_plain.specs.Log.Ran b k (Rattle.fact_traffic.specs.Invariant.plain_of d.next x)) (sym (not_logged e (Rattle.fact_traffic.specs.Invariant.play_of w x) l))
            (subst (λ (y : World). Rattle.fact_plain.specs.Log.Ran b l (Rattle.fact_traffic.specs.Invariant.plain_of y x)) (sym q) r);
        calm = c;
        timed = λ k j u v. t k j;
        fetch_counted = λ k u. subst (λ (y : World). FetchSteps (fetch_count e d.ans k) y.port.fetcher) (sym q) (subst (λ (i : ℕ). FetchSteps i w.port.fetcher) (sym (f k)) u);
        post_counted = λ k u. subst (λ (y : World). PostSteps (post_count e d.ans k) y.port.poster) (sym q) (subst (λ (i : ℕ). PostSteps i w.port.poster) (sym (p k)) u);
      }

  host_ready : (h' : Host) → h'.shake ≡ Finished → h'.ready ≡ true → is_ready h' ≡ true
  unfolding is_ready
  host_ready h' e f = rw (e, f)

  -- an envelope of the pool starts where 32 bits say
  near : (r : Ring) (i : ℕ) → i < slots g.area r → h.area ≡ g.area → h.pool ≡ g.pool → HostState.envelope_of h r i ≡ envelope_at g.area g.pool r i
  near r i l a q = rw (a, q) (omega (arith, F.envelope_inside r i l, S'.end_low, pow_mono S'.narrow))

  ---------------------------------------------------------------- beginning a send

  send_begun_lem : (snd : Sender) (f : Bool) (t : List ℕ) → is_ready h ≡ true
      → send_begun (HostState.with_sender h snd) (record { flag = f }) t ≡ cond (HostStep.is_idle snd) (send_begins (HostState.with_sender h snd) (record { flag = f }) t) (denied (HostState.with_sender h snd) 2)
  unfolding send_begun is_ready host_begun
  send_begun_lem snd f t r = rw r

  pub begin_send_lem : (snd : Sender) (f : Bool) (t : List ℕ) → Bytes t → Inv g end b (world (HostState.with_sender h snd) p m) x
      → Sim g end b (begin_send f t) (world (HostState.with_sender h snd) p m) x (act g.bits (begin_send f t) (world (HostState.with_sender h snd) p m))
  begin_send_lem (Sending s c) f t y I =
      sim_of g end b (begin_send f t) (world (HostState.with_sender h (Sending s c)) p m) x (by_host_only (world (HostState.with_sender h (Sending s c)) p m)) (send_begun_lem (Sending s c) f t (host_ready h I.agreed.host_runs I.agreed.host_ready))
      (still (begin_send f t) (world (HostState.with_sender h (Sending s c)) p m) I _ refl refl refl (λ k j. refl) (λ k. refl) (λ k. refl))
  begin_send_lem NoSend f t y I =
      sim_of g end b (begin_send f t) w x (by_host_only w) (send_begun_lem NoSend f t (host_ready h I.agreed.host_runs I.agreed.host_ready)) (by (leb (length t) 60) refl)
    where
      w : World
      w = world (HostState.with_sender h NoSend) p m

      x' : Past
      x' = record { sent = x.sent; fetched = x.fetched; posted = x.posted; taken = x.taken; sending = t; posting = x.posting; holding = x.holding }

      h' : Host
      h' = HostState.with_sender (HostState.with_outgoing h (padded t) (record { flag = f })) (Sending H.High (start_of h.counts.send (HostState.envelope_of h Command h.counts.send) (length t)))

      by : (o : Bool) → leb (length t) 60 ≡ o → Sim g end b (begin_send f t) w x (by_host_only w (send_begins (HostState.with_sender h NoSend) (record { flag = f }) t))
      by false e = rw e (still (begin_send f t) w I (by_host_only w (denied (HostState.with_sender h NoSend) 3)) refl (rw e) refl (λ k j. refl) (λ k. refl) (λ k. refl))
      by true e =
          rw e
          record {
            moment = later;
            past = x';
            inv =
                record {
                  agreed = I.agreed;
                  size = I.size;
                  commands = I.commands;
                  responses = I.responses;
                  send = record { slot = refl; envelope = near Command h.counts.send (rw I.commands.giver (slot_lt g Command (length x.sent))) I.agreed.host_area I.agreed.host_pool; size = refl; short = leb-true (length t) 60 e; bytes = y; text = refl; progress = tt };
                  take = take_frame g (HostState.with_sender h NoSend) h' x x' h.taker refl refl refl refl (omega arith) (λ k. refl) I.take;
                  fetch = fetch_frame g p p x x' p.fetcher refl refl refl refl (omega arith) (λ k. refl) I.fetch;
                  post = post_frame g (view g m) (view g m) p p x x' p.poster refl refl refl refl (omega arith) refl refl (omega arith) (λ r o l. refl) I.post;
                  sum = I.sum;
                };
            same = rw e;
            ran = λ l r. r;
            calm = refl;
            timed = λ k j u v. refl;
            fetch_counted = λ k u. u;
            post_counted = λ k u. u;
          }

  ---------------------------------------------------------------- beginning a take

  take_begun_lem : (tk : Taker) → is_ready h ≡ true → take_begun (HostState.with_taker h tk) ≡ cond (HostStep.is_idle tk) (take_begins (HostState.with_taker h tk)) (denied (HostState.with_taker h tk) 2)
  unfolding take_begun is_ready host_begun
  take_begun_lem tk r = rw r

  pub begin_take_lem : (tk : Taker) → Inv g end b (world (HostState.with_taker h tk) p m) x
      → Sim g end b begin_take (world (HostState.with_taker h tk) p m) x (act g.bits begin_take (world (HostState.with_taker h tk) p m))
  begin_take_lem (Taking s c) I =
      sim_of g end b begin_take (world (HostState.with_taker h (Taking s c)) p m) x (by_host_only (world (HostState.with_taker h (Taking s c)) p m)) (take_begun_lem (Taking s c) (host_ready h I.agreed.host_runs I.agreed.host_ready))
      (still begin_take (world (HostState.with_taker h (Taking s c)) p m) I _ refl refl refl (λ k j. refl) (λ k. refl) (λ k. refl))
  begin_take_lem NoTake I =
      sim_of g end b begin_take (world (HostState.with_taker h NoTake) p m) x (by_host_only (world (HostState.with_taker h NoTake) p m)) (take_begun_lem NoTake (host_ready h I.agreed.host_runs I.agreed.host_ready))
      record {
        moment = later;
        past = x;
        inv =
            record {
              agreed = I.agreed;
              size = I.size;
              commands = I.commands;
              responses = I.responses;
              send = send_frame g (view g m) (view g m) (HostState.with_taker h NoTake)
                  (HostState.with_taker (HostState.with_incoming h zeros 0) (Taking H.High (start_of h.counts.take (HostState.envelope_of h Response h.counts.take) 0))) x x h.sender refl refl (omega arith) refl refl (omega arith) (λ o l. refl) I.send;
              take = record { slot = refl; envelope = near Response h.counts.take (rw I.responses.taker (slot_lt g Response x.taken)) I.agreed.host_area I.agreed.host_pool; progress = refl };
              fetch = I.fetch;
              post = I.post;
              sum = I.sum;
            };
        same = refl;
        ran = λ l r. r;
        calm = refl;
        timed = λ k j u v. refl;
        fetch_counted = λ k u. u;
        post_counted = λ k u. u;
      }

  ---------------------------------------------------------------- beginning a fetch

  fetch_begun_lem : (f : Fetcher) (a : Area) (go : ℕ) → p.phase ≡ Running a go → fetch_begun (PortState.with_fetcher p f) ≡ cond (PortStep.is_idle f) (fetch_begins (PortState.with_fetcher p f)) (denied (PortState.with_fetcher p f) 2)
  unfolding fetch_begun port_begun
  fetch_begun_lem f a go r = rw r

  pub begin_fetch_lem : (f : Fetcher) → Inv g end b (world h (PortState.with_fetcher p f) m) x
      → Sim g end b begin_fetch (world h (PortState.with_fetcher p f) m) x (act g.bits begin_fetch (world h (PortState.with_fetcher p f) m))
  begin_fetch_lem (Fetching s c) I =
      sim_of g end b begin_fetch (world h (PortState.with_fetcher p (Fetching s c)) m) x (by_port_only (world h (PortState.with_fetcher p (Fetching s c)) m)) (fetch_begun_lem (Fetching s c) g.area I.agreed.go I.agreed.port_runs)
      (still begin_fetch (world h (PortState.with_fetcher p (Fetching s c)) m) I _ refl refl refl (λ k j. refl) (λ k. refl) (λ k. refl))
  begin_fetch_lem (FetchTail s c) I =
      sim_of g end b begin_fetch (world h (PortState.with_fetcher p (FetchTail s c)) m) x (by_port_only (world h (PortState.with_fetcher p (FetchTail s c)) m)) (fetch_begun_lem (FetchTail s c) g.area I.agreed.go I.agreed.port_runs)
      (still begin_fetch (world h (PortState.with_fetcher p (FetchTail s c)) m) I _ refl refl refl (λ k j. refl) (λ k. refl) (λ k. refl))
  begin_fetch_lem NoFetch I =
      sim_of g end b begin_fetch (world h (PortState.with_fetcher p NoFetch) m) x (by_port_only (world h (PortState.with_fetcher p NoFetch) m)) (fetch_begun_lem NoFetch g.area I.agreed.go I.agreed.port_runs)
      record {
        moment = later;
        past = x;
        inv =
            record {
              agreed = I.agreed;
              size = I.size;
              commands = I.commands;
              responses = I.responses;
              send = I.send;
              take = I.take;
              fetch = record { slot = refl; progress = refl };
              post = post_frame g (view g m) (view g m) (PortState.with_fetcher p NoFetch)
                  (PortState.with_fetcher (PortState.with_incoming p zeros) (Fetching S.High (start_of p.counts.fetch 0 0))) x x p.poster refl refl refl refl (omega arith) refl refl (omega arith) (λ r o l. refl) I.post;
              sum = I.sum;
            };
        same = refl;
        ran = λ l r. r;
        calm = refl;
        timed = λ k j u v. refl;
        fetch_counted = λ k u. refl;
        post_counted = λ k u. u;
      }

  ---------------------------------------------------------------- beginning a post

  post_begun_lem : (q : Poster) (a : Bool) (t : List ℕ) (ar : Area) (go : ℕ) → p.phase ≡ Running ar go → post_begun (PortState.with_poster p q) (record { answers = a }) t
      ≡ cond (PortStep.is_idle q) (post_begins (PortState.with_poster p q) (record { answers = a }) t) (denied (PortState.with_poster p q) 2)
  unfolding post_begun port_begun
  post_begun_lem q a t ar go r = rw r

  pub begin_post_lem : (q : Poster) (a : Bool) (t : List ℕ) → Bytes t → Inv g end b (world h (PortState.with_poster p q) m) x
      → Sim g end b (begin_post a t) (world h (PortState.with_poster p q) m) x (act g.bits (begin_post a t) (world h (PortState.with_poster p q) m))
  begin_post_lem (Posting s c) a t y I =
      sim_of g end b (begin_post a t) (world h (PortState.with_poster p (Posting s c)) m) x (by_port_only (world h (PortState.with_poster p (Posting s c)) m)) (post_begun_lem (Posting s c) a t g.area I.agreed.go I.agreed.port_runs)
      (still (begin_post a t) (world h (PortState.with_poster p (Posting s c)) m) I _ refl refl refl (λ k j. refl) (λ k. refl) (λ k. refl))
  begin_post_lem (PostTail s c) a t y I =
      sim_of g end b (begin_post a t) (world h (PortState.with_poster p (PostTail s c)) m) x (by_port_only (world h (PortState.with_poster p (PostTail s c)) m)) (post_begun_lem (PostTail s c) a t g.area I.agreed.go I.agreed.port_runs)
      (still (begin_post a t) (world h (PortState.with_poster p (PostTail s c)) m) I _ refl refl refl (λ k j. refl) (λ k. refl) (λ k. refl))
  begin_post_lem NoPost a t y I =
      sim_of g end b (begin_post a t) w x (by_port_only w) (post_begun_lem NoPost a t g.area I.agreed.go I.agreed.port_runs) (by (leb (length t) 60) refl (a && eqb p.counts.unanswered 0) refl)
    where
      w : World
      w = world h (PortState.with_poster p NoPost) m

      x' : Past
      x' = record { sent = x.sent; fetched = x.fetched; posted = x.posted; taken = x.taken; sending = x.sending; posting = t; holding = x.holding }

      p' : Port
      p' = PortState.with_poster (PortState.with_outgoing p (padded t) (record { answers = a })) (Posting S.High (start_of p.counts.post 0 (length t)))

      open_one : (a : Bool) → (a && eqb p.counts.unanswered 0) ≡ false → a ≡ true → 1 ≤ p.counts.unanswered
      open_one true e k = omega (arith, eqb-false p.counts.unanswered 0 e)
      open_one false e k = absurd (mathlib.Core.Bool.false≢true k)

      by : (o : Bool) → leb (length t) 60 ≡ o → (u : Bool) → (a && eqb p.counts.unanswered 0) ≡ u → Sim g end b (begin_post a t) w x (by_port_only w (post_begins (PortState.with_poster p NoPost) (record { answers = a }) t))
      by false e u k = rw e (still (begin_post a t) w I (by_port_only w (denied (PortState.with_poster p NoPost) 3)) refl (rw e) refl (λ k j. refl) (λ k. refl) (λ k. refl))
      by true e true k = rw (e, k) (still (begin_post a t) w I (by_port_only w (denied (PortState.with_poster p NoPost) 4)) refl (rw (e, k)) refl (λ k j. refl) (λ k. refl) (λ k. refl))
      by true e false k =
          rw (e, k)
          record {
            moment = later;
            past = x';
            inv =
                record {
                  agreed = I.agreed;
                  size = I.size;
                  commands = I.commands;
                  responses = I.responses;
                  send = send_frame g (view g m) (view g m) h h x x' h.sender refl refl (omega arith) refl refl (omega arith) (λ o l. refl) I.send;
                  take = take_frame g h h x x' h.taker refl refl refl refl (omega arith) (λ z. refl) I.take;
                  fetch = fetch_frame g (PortState.with_poster p NoPost) p' x x' p.fetcher refl refl refl refl (omega arith) (λ z. refl) I.fetch;
                  post = record { slot = refl; size = refl; short = leb-true (length t) 60 e; bytes = y; text = refl; owed_one = open_one a k; progress = tt };
                  sum = I.sum;
                };
            same = rw (e, k);
            ran = λ l r. r;
            calm = refl;
            timed = λ k j u v. refl;
            fetch_counted = λ k u. u;
            post_counted = λ k u. refl;
          }

  ---------------------------------------------------------------- indicators and SA

  clear_is : (r : Ring) → h.shake ≡ Finished → h.area ≡ g.area → found g.bits m (Write (addr g (mark_word r)) 0) ≡ Some 0
      → indicator_cleared g.bits h r m ≡ record { told = told done false; state = h; memory = with_word g.bits m (addr g (mark_word r)) 0 }
  unfolding indicator_cleared
  clear_is r s a f = rw (s, a, F.indicator_at r 0, f)

  pub clear : (r : Ring) → Inv g end b (world h p m) x → Sim g end b (clear_mark r) (world h p m) x (act g.bits (clear_mark r) (world h p m))
  clear r I =
      let m' : Memory = with_word g.bits m (addr g (mark_word r)) 0 in
      sim_of g end b (clear_mark r) (world h p m) x (by_host (world h p m)) (clear_is r I.agreed.host_runs I.agreed.host_area (writes g end F m I.size (mark_word r) 0 tt))
      record {
        moment = later;
        past = x;
        inv = marked g end b S' h p p.fetcher p.poster m x I r 0 p.fetcher p.poster I.fetch (post_stays g end b S' h p p.fetcher p.poster m x I r 0 p.fetcher);
        same = refl;
        ran = λ l r. r;
        calm = refl;
        timed = λ k j u v. refl;
        fetch_counted = λ k u. u;
        post_counted = λ k u. u;
      }

  sa_zero : (a : Area) (go : ℕ) → p.phase ≡ Running a go → sa_of p ≡ 0
  unfolding sa_of
  sa_zero a go e = rw e

  sa_ignored : (a : Area) (go v : ℕ) → p.phase ≡ Running a go → sa_written g.bits p v m ≡ with_memory (ignored p) m
  unfolding sa_written
  sa_ignored a go v e = ap (λ y. Rattle.port_state.specs.Shake.heard g.bits p v m y) e

  shown_is : (v : ℕ) → h.shake ≡ Finished → sa_seen h v ≡ turn (cond (is_set er v) (port_fatal (of fatal_code v)) none) h
  unfolding sa_seen
  shown_is v e = ap (λ y. Rattle.host_state.specs.Shake.saw_by h v y) e

  late_is : h.shake ≡ Finished → time_up h ≡ turn none h
  unfolding time_up
  late_is e = ap (λ y. Rattle.host_state.specs.Shake.late_by h y) e

  pub read : Inv g end b (world h p m) x → Sim g end b read_sa (world h p m) x (act g.bits read_sa (world h p m))
  read I =
      sim_of g end b read_sa (world h p m) x (λ (v : ℕ). Rattle.fact_traffic.specs.World.did (Rattle.fact_traffic.specs.World.word v) (world h p m)) (sa_zero g.area I.agreed.go I.agreed.port_runs)
      (still read_sa (world h p m) I _ refl refl refl (λ k j. refl) (λ k. refl) (λ k. refl))

  pub write : (v : ℕ) → Inv g end b (world h p m) x → Sim g end b (write_sa v) (world h p m) x (act g.bits (write_sa v) (world h p m))
  write v I =
      sim_of g end b (write_sa v) (world h p m) x (by_port (world h p m)) (sa_ignored g.area I.agreed.go v I.agreed.port_runs) (still (write_sa v) (world h p m) I _ refl refl refl (λ k j. refl) (λ k. refl) (λ k. refl))

  pub show : (v : ℕ) → Inv g end b (world h p m) x → Sim g end b (show_sa v) (world h p m) x (act g.bits (show_sa v) (world h p m))
  show v I = sim_of g end b (show_sa v) (world h p m) x (by_turn (world h p m)) (shown_is v I.agreed.host_runs) (still (show_sa v) (world h p m) I _ refl refl refl (λ k j. refl) (λ k. refl) (λ k. refl))

  pub late : Inv g end b (world h p m) x → Sim g end b time_is_up (world h p m) x (act g.bits time_is_up (world h p m))
  late I = sim_of g end b time_is_up (world h p m) x (by_turn (world h p m)) (late_is I.agreed.host_runs) (still time_is_up (world h p m) I _ refl refl refl (λ k j. refl) (λ k. refl) (λ k. refl))
