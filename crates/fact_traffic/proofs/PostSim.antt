-- The post side's step, stage by stage. It takes effect where it writes the high word; its refusal where it looks; its answer is told
-- then, or at the end of its tail. Assumes nothing.
use Rattle.std.specs.Prelude.{Some}
use Prim.Native.Nat.{ℕ, suc, ◌+◌, ◌*◌, ◌-◌, ◌%◌, ◌<◌, ◌≤◌}
use mathlib.Core.Path.{◌≡◌, refl, sym, ap, subst, ◌∙◌}
use mathlib.Core.Bool.{Bool, true, false, cond, not}
use mathlib.Core.List.{List, [], ◌∷◌, ◌++◌}
use mathlib.Core.Logic.{inl, inr}
use native.Mathlib.Omega.{arith}
use lib.ListN.{length, drop, length-append}
use borrow.Author.Tests.{lt-ltb, le-ltb, le-leb}
use Rattle.base_words.specs.Fields.{of, is_set, owner, flagged, address_high}
use Rattle.base_words.specs.Words.{address_of, high_word, header_word}
use Rattle.base_texts.specs.Texts.{words_of, word_of, padded}
use Rattle.base_memory.specs.Memory.{Memory, usable, with_word}
use Rattle.base_memory.specs.OneWord.{found, left}
use Rattle.base_memory.specs.declared.Touch.{Touch}
use Rattle.base_memory.specs.declared.Touch.TheVariants.{Read, Write}
use Rattle.base_answers.specs.Told.{told, done}
use Rattle.base_rules.specs.Rules.{carried_of, left_of}
use Rattle.base_rules.proofs.Laws.{carried_bounds, nothing_lost}
use Rattle.base_area.specs.Layout.{slots, next_of, before_of, envelope_at, has_vector}
use Rattle.base_area.specs.declared.Area.{Area}
use Rattle.base_area.specs.declared.Ring.TheVariants.{Command, Response}
use Rattle.fact_layout.specs.Facts.{rings', slots_apart, AreaFacts}
use Rattle.fact_layout.proofs.Rings.{lt_or_ge, same_or_not, every_layout}
use Rattle.fact_plain.specs.Plain.{Entry, entry, Bounds}
use Rattle.fact_plain.specs.Log.{posts, does, noted, Allowed, Log, Ran, credits_in}
use Rattle.fact_plain.proofs.InOrder.{credits_more}
use Rattle.base_side.specs.Step.{with_memory, onward}
use Rattle.port_state.specs.State.{serving_of, with_poster, with_counts}
use Rattle.base_side.specs.Place.{with_high, with_envelope, with_at}
use Rattle.port_state.specs.Tail.{tail_start, tail_asks, test_follows, mark_follows, tail_follows}
use Rattle.port_state.specs.Post.{credits_of, post_asks, post_high, post_low, posted, post_release, post_finds, post_follows, post_tailed, post_step}
use Rattle.port_state.specs.Side.{refuse, text_or_release, port_step}
use Rattle.base_side.specs.declared.Cursor.{Cursor}
use Rattle.port_state.specs.declared.state.Stage.{Stage}
use Rattle.port_state.specs.declared.state.Stage.TheVariants as S
use Rattle.port_state.specs.declared.state.TailStage.{TailStage}
use Rattle.port_state.specs.declared.state.TailStage.TheVariants as E
use Rattle.port_state.specs.declared.state.Phase.{Phase}
use Rattle.port_state.specs.declared.state.Phase.TheVariants.{Running}
use Rattle.port_state.specs.declared.state.Side.{Side as Poster}
use Rattle.port_state.specs.declared.state.Side.TheVariants.{Idle as NoPost, At as Posting, Tail as PostTail}
use Rattle.port_state.specs.declared.state.Port.{Port}
use Rattle.host_state.specs.declared.state.Host.{Host}
use Rattle.fact_traffic.specs.Places.{slot_word, env_word, mark_word, Site, addr, view}
use Rattle.fact_traffic.specs.World.{World, world, step_post, by_port}
use Rattle.fact_traffic.specs.Invariant.{Past, upper_of, Written, PostRoom, PostInv, Inv, Setting, plain_of}
use Rattle.fact_traffic.proofs.Place.{far_sym, slots_far, words_far, envs_far, slot_env, reads, writes, stored, kept}
use Rattle.fact_traffic.proofs.RingLaws.{slot_lt, publish, giver_room, giver_full}
use Rattle.fact_traffic.proofs.Frames.{size_kept, quiet_env, quiet_slot, quiet_giver, send_frame, fetch_frame, take_frame, next_kept}
use Rattle.fact_traffic.proofs.Marks.{marked, fetch_stays}
use Rattle.fact_traffic.proofs.PlainLaws.{post_8, post_ok, left_more, left_length}
use Rattle.fact_traffic.proofs.Sim.{Sim, steps_to, later, now, untold, not_yet, due, sim_of, ran_does}
use Rattle.fact_traffic.proofs.WordLaws.{high_owner, high_upper, high_lt, address_is}
use Rattle.fact_traffic.proofs.GiverLaws.{put_len, put_head, put_word, letter}

-- a step of a running port whose touch finds a word
post_at : (n : ℕ) (p : Port) (a : Area) (go : ℕ) (m : Memory) (s : Stage) (c : Cursor) (t : Touch) (v : ℕ) → p.phase ≡ Running a go → post_asks n (with_poster p (Posting s c)) a s c ≡ t → found n m t ≡ Some v
    → post_step n (with_poster p (Posting s c)) m ≡ with_memory (post_finds n (with_poster p (Posting s c)) a (usable n (length m)) s c v) (left n m t)
unfolding post_step post_follows port_step
post_at n p a go m s c t v r e f = by_site n p a go m s c r ∙ rw (e, f)
  where
    by_site : (n : ℕ) (p : Port) (a : Area) (go : ℕ) (m : Memory) (s : Stage) (c : Cursor) → p.phase ≡ Running a go
        → post_step n (with_poster p (Posting s c)) m
        ≡ with_memory (post_follows n (with_poster p (Posting s c)) a (usable n (length m)) s c (found n m (post_asks n (with_poster p (Posting s c)) a s c))) (left n m (post_asks n (with_poster p (Posting s c)) a s c))
    by_site n p a go m s c r = ap (λ (y : Phase). port_step n (with_poster p (Posting s c)) Response (post_asks n (with_poster p (Posting s c))) (post_follows n (with_poster p (Posting s c))) (post_tailed (with_poster p (Posting s c))) m (Posting s c) (serving_of y)) r

tail_at : (n : ℕ) (p : Port) (a : Area) (go : ℕ) (m : Memory) (s : TailStage) (c : Cursor) (t : Touch) (v : ℕ) → p.phase ≡ Running a go → tail_asks n a Response s c ≡ t → found n m t ≡ Some v
    → post_step n (with_poster p (PostTail s c)) m ≡ with_memory (post_tailed (with_poster p (PostTail s c)) c (tail_follows a s (Some v))) (left n m t)
unfolding post_step port_step
tail_at n p a go m s c t v r e f = rw (r, e, f)

post_idle : (n : ℕ) (p : Port) (a : Area) (go : ℕ) (m : Memory) → p.phase ≡ Running a go → post_step n (with_poster p NoPost) m ≡ with_memory (refuse (with_poster p NoPost) Response 12) m
unfolding post_step port_step
post_idle n p a go m r = rw r

on_text : (c : Cursor) (k : ℕ) → k < words_of c.size → text_or_release c k ≡ Posting S.Text (with_at c k)
unfolding text_or_release
on_text c k l = rw (lt-ltb k (words_of c.size) l)

on_release : (c : Cursor) (k : ℕ) → words_of c.size ≤ k → text_or_release c k ≡ Posting S.Release c
unfolding text_or_release
on_release c k l = rw (le-ltb k (words_of c.size) l)

high_8 : (p : Port) (m : Memory) (c : Cursor) (v : ℕ) → is_set owner v ≡ false → with_memory (post_high (with_poster p (Posting S.High c)) c v) m ≡ with_memory (refuse p Response 8) m
unfolding post_high
high_8 p m c v e = rw e

high_on : (p : Port) (m : Memory) (c : Cursor) (v : ℕ) → is_set owner v ≡ true
    → with_memory (post_high (with_poster p (Posting S.High c)) c v) m ≡ with_memory (onward (with_poster p (Posting S.Low (with_high c v)))) m
unfolding post_high
high_on p m c v e = rw e

low_on : (n : ℕ) (p : Port) (m : Memory) (end a e : ℕ) (c : Cursor) (v : ℕ) → address_of n v c.high ≡ a → 4 ≤ a → a + 2 * words_of c.size ≤ end → a - 4 ≡ e
    → with_memory (post_low n (with_poster p (Posting S.Low c)) end c v) m ≡ with_memory (onward (with_poster p (Posting S.Length (with_envelope c e)))) m
unfolding post_low
low_on n p m end a e c v q l u d = rw (q, le-leb 4 a l, le-leb (a + 2 * words_of c.size) end u, d)

-- the credits that a post carries, written out
credits_are : (p : Port) → credits_of p ≡ cond p.asked.answers (carried_of p.counts.owed) 0
unfolding credits_of
credits_are p = refl

few_credits : (a : Bool) (k : ℕ) → cond a (carried_of k) 0 < 16
few_credits true k = omega (arith, (carried_bounds k).1)
few_credits false k = omega arith

module _ (g : Site) (end : ℕ) (b : Bounds) (S' : Setting g end b) (h : Host) (p : Port) (m : Memory) (x : Past) where
  F : AreaFacts g.bits g.area g.pool end
  F = S'.facts

  abbrev carries : Cursor → ℕ
  carries c = cond p.asked.answers (carried_of p.counts.owed) 0

  touch_high : (c : Cursor) → c.slot ≡ p.counts.post → post_asks g.bits (with_poster p (Posting S.High c)) g.area S.High c ≡ Read (addr g (slot_word Response p.counts.post 2))
  unfolding post_asks
  touch_high c s = rw s

  touch_low : (c : Cursor) → c.slot ≡ p.counts.post → post_asks g.bits (with_poster p (Posting S.Low c)) g.area S.Low c ≡ Read (addr g (slot_word Response p.counts.post 0))
  unfolding post_asks
  touch_low c s = rw s (ap Read (omega arith))

  touch_len : (c : Cursor) → c.slot ≡ p.counts.post → c.envelope ≡ envelope_at g.area g.pool Response c.slot
      → post_asks g.bits (with_poster p (Posting S.Length c)) g.area S.Length c ≡ Write (addr g (env_word Response p.counts.post 0)) c.size
  unfolding post_asks
  touch_len c s e = rw (e, s) (ap (λ (k : ℕ). Write k c.size) (omega arith))

  touch_head : (c : Cursor) → c.slot ≡ p.counts.post → c.envelope ≡ envelope_at g.area g.pool Response c.slot
      → post_asks g.bits (with_poster p (Posting S.Header c)) g.area S.Header c ≡ Write (addr g (env_word Response p.counts.post 2)) (header_word (carries c))
  unfolding post_asks credits_of
  touch_head c s e = rw (e, s)

  touch_text : (c : Cursor) → c.slot ≡ p.counts.post → c.envelope ≡ envelope_at g.area g.pool Response c.slot
      → post_asks g.bits (with_poster p (Posting S.Text c)) g.area S.Text c ≡ Write (addr g (env_word Response p.counts.post (4 + 2 * c.at))) (word_of p.outgoing c.size c.at)
  unfolding post_asks
  touch_text c s e = rw (e, s) (ap (λ (k : ℕ). Write k (word_of p.outgoing c.size c.at)) (omega arith))

  touch_release : (c : Cursor) → c.slot ≡ p.counts.post → post_asks g.bits (with_poster p (Posting S.Release c)) g.area S.Release c ≡ Write (addr g (slot_word Response p.counts.post 2)) (high_word false true c.high)
  unfolding post_asks
  touch_release c s = rw s

  module _ (q : Poster) (I : Inv g end b (world h (with_poster p q) m) x) where
    here : p.counts.post < slots g.area Response
    here = rw I.responses.giver (slot_lt g Response (length x.posted))

    send_in : h.counts.send < slots g.area Command
    send_in = rw I.commands.giver (slot_lt g Command (length x.sent))

    with_post : (q' : Poster) → PostInv g (view g m) (with_poster p q') x q' → Inv g end b (world h (with_poster p q') m) x
    with_post q' new =
        record {
          agreed = I.agreed;
          size = I.size;
          commands = I.commands;
          responses = I.responses;
          send = I.send;
          take = I.take;
          fetch = fetch_frame g (with_poster p q) (with_poster p q') x x p.fetcher refl refl refl refl (omega arith) (λ k. refl) I.fetch;
          post = new;
          sum = I.sum;
        }

    -- a word of the own envelope was written
    with_env : (q' : Poster) (o v : ℕ) → o + 2 ≤ 64 → PostRoom g x → PostInv g (view g (with_word g.bits m (addr g (env_word Response p.counts.post o)) v)) (with_poster p q') x q'
        → Inv g end b (world h (with_poster p q') (with_word g.bits m (addr g (env_word Response p.counts.post o)) v)) x
    with_env q' o v l room new =
        record {
          agreed = I.agreed;
          size = size_kept g end m (addr g (env_word Response p.counts.post o)) v I.size;
          commands = quiet_env g end F m I.size Command h.counts.send p.counts.fetch x.sent x.fetched x.fetched I.commands Response p.counts.post o v (λ s. rings') (here, l);
          responses = quiet_giver g end F m I.size Response p.counts.post h.counts.take x.posted x.taken _ I.responses o v room l;
          send = send_frame g (view g m) (view g (with_word g.bits m (addr g (env_word Response p.counts.post o)) v)) h h x x h.sender refl refl (omega arith) refl refl (omega arith)
              (λ k u. kept g end F m I.size (env_word Response p.counts.post o) (env_word Command h.counts.send k) v
              (envs_far g end F Response p.counts.post o Command h.counts.send k (here, l) (send_in, u) rings')) I.send;
          take = I.take;
          fetch = fetch_frame g (with_poster p q) (with_poster p q') x x p.fetcher refl refl refl refl (omega arith) (λ k. refl) I.fetch;
          post = new;
          sum = I.sum;
        }

  no_post : Inv g end b (world h (with_poster p NoPost) m) x → Sim g end b step_post (world h (with_poster p NoPost) m) x (by_port (world h (with_poster p NoPost) m) (post_step g.bits (with_poster p NoPost) m))
  no_post I =
      sim_of g end b step_post (world h (with_poster p NoPost) m) x (by_port (world h (with_poster p NoPost) m)) (post_idle g.bits p g.area I.agreed.go m I.agreed.port_runs)
      record { moment = now; past = x; inv = I; same = refl; ran = λ l r. r; calm = refl; timed = λ k j u v. refl; fetch_counted = λ k u. u; post_counted = λ k u. u }

  -- an answer that is asked for has an open command
  allowed : (s : Stage) (c : Cursor) (I : Inv g end b (world h (with_poster p (Posting s c)) m) x) → Allowed (posts p.asked.answers x.posting) (plain_of (world h (with_poster p (Posting s c)) m) x)
  allowed s c I = go p.asked.answers I.post.owed_one
    where
      go : (a : Bool) → (a ≡ true → 1 ≤ p.counts.unanswered) → Allowed (posts a x.posting) (plain_of (world h (with_poster p (Posting s c)) m) x)
      go true f = f refl
      go false f = tt

  high : (c : Cursor) → Inv g end b (world h (with_poster p (Posting S.High c)) m) x
      → Sim g end b step_post (world h (with_poster p (Posting S.High c)) m) x (by_port (world h (with_poster p (Posting S.High c)) m) (post_step g.bits (with_poster p (Posting S.High c)) m))
  high c I = by (is_set owner (view g m (slot_word Response p.counts.post 2))) refl
    where
      w : World
      w = world h (with_poster p (Posting S.High c)) m

      word : ℕ
      word = view g m (slot_word Response p.counts.post 2)

      step : post_step g.bits (with_poster p (Posting S.High c)) m ≡ with_memory (post_high (with_poster p (Posting S.High c)) c word) m
      step =
          post_at g.bits p g.area I.agreed.go m S.High c (Read (addr g (slot_word Response p.counts.post 2))) word I.agreed.port_runs
          (touch_high c I.post.slot) (reads g end F m I.size (slot_word Response p.counts.post 2) (here (Posting S.High c) I, omega arith))

      by : (o : Bool) → is_set owner word ≡ o → Sim g end b step_post w x (by_port w (post_step g.bits (with_poster p (Posting S.High c)) m))
      by false e =
          let full : length x.posted ≡ x.taken + slots g.area Response =
          giver_full g Response (view g m) (view g m) p.counts.post h.counts.take x.posted x.taken _ I.responses (ap not e) in
          let k : b.responses ≤ length (drop x.taken x.posted) = omega (arith, S'.response_slots, left_length x.posted x.taken 0 (omega arith)) in
          sim_of g end b step_post w x (by_port w) (step ∙ high_8 p m c word e)
          record {
            moment = now;
            past = x;
            inv = with_post (Posting S.High c) I NoPost tt;
            same = rw (post_8 b (plain_of w x) p.asked.answers x.posting k);
            ran = ran_does b (plain_of w x) (posts p.asked.answers x.posting) (allowed S.High c I) _ (post_8 b (plain_of w x) p.asked.answers x.posting k);
            calm = refl;
            timed = λ k j u v. refl;
            fetch_counted = λ k u. u;
            post_counted = λ k u. tt;
          }
      by true e =
          let room : PostRoom g x = giver_room g Response (view g m) (view g m) p.counts.post h.counts.take x.posted x.taken _ I.responses (ap not e) in
          sim_of g end b step_post w x (by_port w) (step ∙ high_on p m c word e)
          record {
            moment = later;
            past = x;
            inv =
                with_post (Posting S.High c) I (Posting S.Low (with_high c word))
                record {
                  slot = I.post.slot;
                  size = I.post.size;
                  short = I.post.short;
                  bytes = I.post.bytes;
                  text = I.post.text;
                  owed_one = I.post.owed_one;
                  progress = (room, rw I.post.slot (I.responses.highs p.counts.post (here (Posting S.High c) I)));
                };
            same = refl;
            ran = λ l r. r;
            calm = refl;
            timed = λ k j u v. not_yet j _ (omega (arith, v));
            fetch_counted = λ k u. u;
            post_counted = λ k u. ap suc u;
          }

  low : (c : Cursor) → Inv g end b (world h (with_poster p (Posting S.Low c)) m) x
      → Sim g end b step_post (world h (with_poster p (Posting S.Low c)) m) x (by_port (world h (with_poster p (Posting S.Low c)) m) (post_step g.bits (with_poster p (Posting S.Low c)) m))
  low c I =
      let i : ℕ = p.counts.post in
      let at : i < slots g.area Response = here (Posting S.Low c) I in
      let v : ℕ = view g m (slot_word Response i 0) in
      let e : ℕ = envelope_at g.area g.pool Response i in
      let k : address_of g.bits v c.high ≡ e + 4 =
      ap (λ (y : ℕ). address_of g.bits y c.high) (I.responses.lows i at)
      ∙ address_is g.bits (e + 4) c.high (omega (arith, F.envelope_even Response i)) (rw (← I.post.slot) I.post.progress.1) in
      sim_of g end b step_post (world h (with_poster p (Posting S.Low c)) m) x (by_port (world h (with_poster p (Posting S.Low c)) m))
      (post_at g.bits p g.area I.agreed.go m S.Low c (Read (addr g (slot_word Response i 0))) v I.agreed.port_runs
      (touch_low c I.post.slot) (reads g end F m I.size (slot_word Response i 0) (at, omega arith))
      ∙ low_on g.bits p m (usable g.bits (length m)) (e + 4) e c v k (omega arith) (rw I.post.size (omega (arith, F.envelope_inside Response i at, I.size, I.post.short))) (omega arith))
      record {
        moment = later;
        past = x;
        inv = with_post (Posting S.Low c) I (Posting S.Length (with_envelope c e))
            record {
              slot = I.post.slot;
              size = I.post.size;
              short = I.post.short;
              bytes = I.post.bytes;
              text = I.post.text;
              owed_one = I.post.owed_one;
              progress = (I.post.progress.0, (I.post.progress.1, ap (λ (y : ℕ). envelope_at g.area g.pool Response y) (sym I.post.slot)));
            };
        same = refl;
        ran = λ l r. r;
        calm = refl;
        timed = λ k j u v. not_yet j _ (omega (arith, v));
        fetch_counted = λ k u. u;
        post_counted = λ k u. ap suc u;
      }

  len : (c : Cursor) → Inv g end b (world h (with_poster p (Posting S.Length c)) m) x
      → Sim g end b step_post (world h (with_poster p (Posting S.Length c)) m) x (by_port (world h (with_poster p (Posting S.Length c)) m) (post_step g.bits (with_poster p (Posting S.Length c)) m))
  len c I =
      let P = I.post.progress in
      let i : ℕ = p.counts.post in
      let at : i < slots g.area Response = here (Posting S.Length c) I in
      sim_of g end b step_post (world h (with_poster p (Posting S.Length c)) m) x (by_port (world h (with_poster p (Posting S.Length c)) m))
      (post_at g.bits p g.area I.agreed.go m S.Length c (Write (addr g (env_word Response i 0)) c.size) c.size I.agreed.port_runs
      (touch_len c I.post.slot P.1.1) (writes g end F m I.size (env_word Response i 0) c.size (at, omega arith)))
      record {
        moment = later;
        past = x;
        inv = with_env (Posting S.Length c) I (Posting S.Header c) 0 c.size (omega arith) P.0
            record {
              slot = I.post.slot;
              size = I.post.size;
              short = I.post.short;
              bytes = I.post.bytes;
              text = I.post.text;
              owed_one = I.post.owed_one;
              progress = (P.0, (P.1.0, (P.1.1, rw I.post.slot (put_len g end F m I.size Response i at x.posting I.post.short c.size I.post.size))));
            };
        same = refl;
        ran = λ l r. r;
        calm = refl;
        timed = λ k j u v. not_yet j _ (omega (arith, v));
        fetch_counted = λ k u. u;
        post_counted = λ k u. ap suc u;
      }

  -- text word k next, or the release
  on_sim : (s : Stage) (c : Cursor) (k o v : ℕ) → o + 2 ≤ 64 → (I : Inv g end b (world h (with_poster p (Posting s c)) m) x) → PostRoom g x
      → of (address_high g.bits) c.high ≡ upper_of g Response c.slot → c.envelope ≡ envelope_at g.area g.pool Response c.slot → k ≤ words_of (length x.posting) → steps_to s c ≡ 3 + k
      → Written (view g (with_word g.bits m (addr g (env_word Response p.counts.post o)) v)) Response p.counts.post x.posting (carries c) k
      → post_step g.bits (with_poster p (Posting s c)) m ≡ with_memory (onward (with_poster p (text_or_release c k))) (with_word g.bits m (addr g (env_word Response p.counts.post o)) v)
      → Sim g end b step_post (world h (with_poster p (Posting s c)) m) x (by_port (world h (with_poster p (Posting s c)) m) (post_step g.bits (with_poster p (Posting s c)) m))
  on_sim s c k o v l I room up en u st W e =
      elim (lt_or_ge k (words_of c.size)) [
        | inl more ↦
            sim_of g end b step_post (world h (with_poster p (Posting s c)) m) x (by_port (world h (with_poster p (Posting s c)) m))
            (e ∙ ap (λ (y : Poster). with_memory (onward (with_poster p y)) m') (on_text c k more))
            record {
              moment = later;
              past = x;
              inv = with_env (Posting s c) I (Posting S.Text (with_at c k)) o v l room
                  record {
                    slot = I.post.slot;
                    size = I.post.size;
                    short = I.post.short;
                    bytes = I.post.bytes;
                    text = I.post.text;
                    owed_one = I.post.owed_one;
                    progress = (room, (up, (en, (subst (λ (y : ℕ). Written (view g m') Response c.slot x.posting y k) (sym (credits_are (with_poster p (Posting S.Text (with_at c k))))) (rw I.post.slot W), rw (← I.post.size) more))));
                  };
              same = refl;
              ran = λ y r. r;
              calm = refl;
              timed = λ i j y z. not_yet j _ (omega (arith, z, st, u));
              fetch_counted = λ i y. y;
              post_counted = λ i y. omega (arith, y, st);
            }
        | inr none ↦
            sim_of g end b step_post (world h (with_poster p (Posting s c)) m) x (by_port (world h (with_poster p (Posting s c)) m))
            (e ∙ ap (λ (y : Poster). with_memory (onward (with_poster p y)) m') (on_release c k none))
            record {
              moment = later;
              past = x;
              inv = with_env (Posting s c) I (Posting S.Release c) o v l room
                  record {
                    slot = I.post.slot;
                    size = I.post.size;
                    short = I.post.short;
                    bytes = I.post.bytes;
                    text = I.post.text;
                    owed_one = I.post.owed_one;
                    progress = (
                      room,
                      (
                        up,
                        subst (λ (y : ℕ). Written (view g m') Response c.slot x.posting y (words_of (length x.posting))) (sym (credits_are (with_poster p (Posting S.Release c))))
                            (rw I.post.slot (subst (λ (y : ℕ). Written (view g m') Response p.counts.post x.posting (carries c) y) (all none) W)),
                      ),
                    );
                  };
              same = refl;
              ran = λ y r. r;
              calm = refl;
              timed = λ i j y z. not_yet j _ (omega (arith, z, st, u));
              fetch_counted = λ i y. y;
              post_counted = λ i y. omega (arith, y, st, none, u, ap words_of I.post.size);
            }
      ]
    where
      m' : Memory
      m' = with_word g.bits m (addr g (env_word Response p.counts.post o)) v

      all : words_of c.size ≤ k → k ≡ words_of (length x.posting)
      all none = omega (arith, ap words_of I.post.size)

  head : (c : Cursor) → Inv g end b (world h (with_poster p (Posting S.Header c)) m) x
      → Sim g end b step_post (world h (with_poster p (Posting S.Header c)) m) x (by_port (world h (with_poster p (Posting S.Header c)) m) (post_step g.bits (with_poster p (Posting S.Header c)) m))
  head c I =
      let P = I.post.progress in
      let i : ℕ = p.counts.post in
      let at : i < slots g.area Response = here (Posting S.Header c) I in
      let v : ℕ = header_word (carries c) in
      on_sim S.Header c 0 2 v (omega arith) I P.0 P.1.0 P.1.1.0 (omega arith) (omega arith)
      (put_head g end F m I.size Response i at x.posting I.post.short (carries c) v refl (rw (← I.post.slot) P.1.1.1))
      (post_at g.bits p g.area I.agreed.go m S.Header c (Write (addr g (env_word Response i 2)) v) v I.agreed.port_runs
      (touch_head c I.post.slot P.1.1.0) (writes g end F m I.size (env_word Response i 2) v (at, omega arith)))

  text : (c : Cursor) → Inv g end b (world h (with_poster p (Posting S.Text c)) m) x
      → Sim g end b step_post (world h (with_poster p (Posting S.Text c)) m) x (by_port (world h (with_poster p (Posting S.Text c)) m) (post_step g.bits (with_poster p (Posting S.Text c)) m))
  text c I =
      let P = I.post.progress in
      let i : ℕ = p.counts.post in
      let at : i < slots g.area Response = here (Posting S.Text c) I in
      let v : ℕ = word_of p.outgoing c.size c.at in
      let few : c.at < words_of (length x.posting) = P.1.1.1.1 in
      on_sim S.Text c (c.at + 1) (4 + 2 * c.at) v (omega (arith, few, I.post.short)) I P.0 P.1.0 P.1.1.0 (omega (arith, few)) (omega arith)
      (put_word g end F m I.size Response i at x.posting I.post.short (carries c) c.at v I.post.bytes few
      (ap (λ (y : List ℕ). word_of y c.size c.at) I.post.text ∙ ap (λ (y : ℕ). word_of (padded x.posting) y c.at) I.post.size)
      (rw (← I.post.slot) (subst (λ (y : ℕ). Written (view g m) Response c.slot x.posting y c.at) (credits_are (with_poster p (Posting S.Text c))) P.1.1.1.0)))
      (post_at g.bits p g.area I.agreed.go m S.Text c (Write (addr g (env_word Response i (4 + 2 * c.at))) v) v I.agreed.port_runs
      (touch_text c I.post.slot P.1.1.0) (writes g end F m I.size (env_word Response i (4 + 2 * c.at)) v (at, omega (arith, few, I.post.short))))

  -- the high word: the response is given; an answer closes a command and grants what it carries
  abbrev counted : Cursor → Port
  counted c =
      with_counts p
      (record {
        fetch = p.counts.fetch;
        post = (p.counts.post + 1) % slots g.area Response;
        owed = cond p.asked.answers (left_of p.counts.owed) p.counts.owed;
        unanswered = cond p.asked.answers (p.counts.unanswered - 1) p.counts.unanswered;
      })

  abbrev one_more : Cursor → Past
  one_more c =
      record {
        sent = x.sent;
        fetched = x.fetched;
        posted = x.posted ++ (entry x.posting (carries c) ∷ []);
        taken = x.taken;
        sending = x.sending;
        posting = x.posting;
        holding = x.holding;
      }

  release_closes : (c : Cursor) (k : Memory) → c.slot ≡ p.counts.post → is_set flagged c.high ≡ false
      → with_memory (post_release (with_poster p (Posting S.Release c)) g.area c) k ≡ with_memory (record { told = told done false; state = with_poster (counted c) NoPost }) k
  unfolding post_release posted next_of
  release_closes c k s e = rw (e, s)

  release_goes : (c : Cursor) (k : Memory) → c.slot ≡ p.counts.post → is_set flagged c.high ≡ true
      → with_memory (post_release (with_poster p (Posting S.Release c)) g.area c) k ≡ with_memory (onward (with_poster (counted c) (PostTail (tail_start g.area Response) c))) k
  unfolding post_release posted next_of
  release_goes c k s e = rw (e, s)

  module _ (c : Cursor) (I : Inv g end b (world h (with_poster p (Posting S.Release c)) m) x) where
    after : Memory
    after = with_word g.bits m (addr g (slot_word Response p.counts.post 2)) (high_word false true c.high)

    at : p.counts.post < slots g.area Response
    at = here (Posting S.Release c) I

    room : PostRoom g x
    room = I.post.progress.0

    le : x.taken ≤ length x.posted
    le = omega (arith, I.responses.low, I.responses.mid)

    more : drop x.taken (x.posted ++ (entry x.posting (carries c) ∷ [])) ≡ drop x.taken x.posted ++ (entry x.posting (carries c) ∷ [])
    more = left_more x.posted x.taken (entry x.posting (carries c)) le

    space : length (drop x.taken x.posted) < b.responses
    space = omega (arith, S'.response_slots, left_length x.posted x.taken 0 le, room)

    step : post_step g.bits (with_poster p (Posting S.Release c)) m ≡ with_memory (post_release (with_poster p (Posting S.Release c)) g.area c) after
    unfolding after
    step =
        post_at g.bits p g.area I.agreed.go m S.Release c (Write (addr g (slot_word Response p.counts.post 2)) (high_word false true c.high)) (high_word false true c.high) I.agreed.port_runs
        (touch_release c I.post.slot) (writes g end F m I.size (slot_word Response p.counts.post 2) (high_word false true c.high) (at, omega arith))

    lows : (s : ℕ) → s < slots g.area Response → view g after (slot_word Response s 0) ≡ view g m (slot_word Response s 0)
    unfolding after
    lows s l =
        elim (same_or_not p.counts.post s) [
          | inl k ↦ rw (← k) (kept g end F m I.size (slot_word Response p.counts.post 2) (slot_word Response p.counts.post 0) (high_word false true c.high) (far_sym g (slot_word Response p.counts.post 0) (slot_word Response p.counts.post 2) (words_far g end F Response p.counts.post 0 2 (omega arith))))
          | inr d ↦ kept g end F m I.size (slot_word Response p.counts.post 2) (slot_word Response s 0) (high_word false true c.high) (slots_far g end F Response p.counts.post 2 Response s 0 (at, omega arith) (l, omega arith) (slots_apart d))
        ]

    -- what the four come to
    sum_after : h.counts.account + (length (drop x.fetched x.sent) + cond p.asked.answers (p.counts.unanswered - 1) p.counts.unanswered)
        + credits_in (drop x.taken (x.posted ++ (entry x.posting (carries c) ∷ []))) + cond p.asked.answers (left_of p.counts.owed) p.counts.owed ≡ b.limit
    sum_after = rw (more, credits_more (drop x.taken x.posted) (entry x.posting (carries c))) (go p.asked.answers I.post.owed_one)
      where
        go : (a : Bool) → (a ≡ true → 1 ≤ p.counts.unanswered)
            → h.counts.account + (length (drop x.fetched x.sent) + cond a (p.counts.unanswered - 1) p.counts.unanswered)
            + (credits_in (drop x.taken x.posted) + cond a (carried_of p.counts.owed) 0) + cond a (left_of p.counts.owed) p.counts.owed ≡ b.limit
        go true f = omega (arith, I.sum, f refl, nothing_lost p.counts.owed, (carried_bounds p.counts.owed).0)
        go false f = omega (arith, I.sum)

    given : (q' : Poster) → PostInv g (view g after) (with_poster (counted c) q') (one_more c) q' → Inv g end b (world h (with_poster (counted c) q') after) (one_more c)
    unfolding after
    given q' new =
        let i : ℕ = p.counts.post in
        let v : ℕ = high_word false true c.high in
        record {
          agreed = I.agreed;
          size = size_kept g end m (addr g (slot_word Response i 2)) v I.size;
          commands = quiet_slot g end F m I.size Command h.counts.send p.counts.fetch x.sent x.fetched x.fetched I.commands Response i 2 v (λ s. rings') (at, omega arith);
          responses =
              publish g Response (view g m) (view g (with_word g.bits m (addr g (slot_word Response i 2)) v)) i h.counts.take x.posted x.taken _ I.responses v i
              (stored g end F m I.size (slot_word Response i 2) v (at, omega arith) (high_lt false true c.high))
              (high_upper g.bits false true c.high S'.narrow ∙ rw (← I.post.slot) I.post.progress.1.0)
              (λ s l d. kept g end F m I.size (slot_word Response i 2) (slot_word Response s 2) v (slots_far g end F Response i 2 Response s 2 (at, omega arith) (l, omega arith) (slots_apart d)))
              lows
              (λ s l o u. kept g end F m I.size (slot_word Response i 2) (env_word Response s o) v (slot_env g end F Response i 2 Response s o (at, omega arith) (l, u)))
              (entry x.posting (carries c)) refl (ap not (high_owner false true c.high)) room
              (letter (view g m) Response i x.posting (carries c) I.post.short I.post.bytes (few_credits p.asked.answers p.counts.owed)
              (rw (← I.post.slot) (subst (λ (y : ℕ). Written (view g m) Response c.slot x.posting y (words_of (length x.posting))) (credits_are (with_poster p (Posting S.Release c))) I.post.progress.1.1)));
          send = send_frame g (view g m) (view g (with_word g.bits m (addr g (slot_word Response i 2)) v)) h h x (one_more c) h.sender refl refl (omega arith) refl refl (omega arith)
              (λ o l. kept g end F m I.size (slot_word Response i 2) (env_word Command h.counts.send o) v (slot_env g end F Response i 2 Command h.counts.send o (at, omega arith) (send_in (Posting S.Release c) I, l))) I.send;
          take = take_frame g h h x (one_more c) h.taker refl refl refl refl (simp length-append (omega arith)) (λ k. next_kept x.posted (entry x.posting (carries c)) x.taken k) I.take;
          fetch = fetch_frame g (with_poster p (Posting S.Release c)) (with_poster (counted c) q') x (one_more c) p.fetcher refl refl refl refl (omega arith) (λ k. refl) I.fetch;
          post = new;
          sum = sum_after;
        }

    release_sim : Sim g end b step_post (world h (with_poster p (Posting S.Release c)) m) x (by_port (world h (with_poster p (Posting S.Release c)) m) (post_step g.bits (with_poster p (Posting S.Release c)) m))
    release_sim = by (is_set flagged c.high) refl
      where
        w : World
        w = world h (with_poster p (Posting S.Release c)) m

        logged : (l : Log) → Ran b l (plain_of w x)
            → Ran b (noted b (posts p.asked.answers x.posting) (does b (posts p.asked.answers x.posting) (plain_of w x)).answer l)
            (record {
              commands = drop x.fetched x.sent;
              responses = drop x.taken (x.posted ++ (entry x.posting (carries c) ∷ []));
              account = h.counts.account;
              unanswered = cond p.asked.answers (p.counts.unanswered - 1) p.counts.unanswered;
              owed = cond p.asked.answers (left_of p.counts.owed) p.counts.owed;
            })
        logged l r =
            subst
            (λ (y : List Entry).
            Ran b (noted b (posts p.asked.answers x.posting) (does b (posts p.asked.answers x.posting) (plain_of w x)).answer l)
            (record {
              commands = drop x.fetched x.sent;
              responses = y;
              account = h.counts.account;
              unanswered = cond p.asked.answers (p.counts.unanswered - 1) p.counts.unanswered;
              owed = cond p.asked.answers (left_of p.counts.owed) p.counts.owed;
            })) (sym more)
            (ran_does b (plain_of w x) (posts p.asked.answers x.posting) (allowed S.Release c I) _ (post_ok b (plain_of w x) p.asked.answers x.posting space) l r)

        by : (o : Bool) → is_set flagged c.high ≡ o → Sim g end b step_post w x (by_port w (post_step g.bits (with_poster p (Posting S.Release c)) m))
        by false e =
            sim_of g end b step_post w x (by_port w) (step ∙ release_closes c after I.post.slot e)
            record { moment = now; past = one_more c; inv = given NoPost tt; same = rw (post_ok b (plain_of w x) p.asked.answers x.posting space, more); ran = logged; calm = refl; timed = λ k j u v. refl; fetch_counted = λ k u. u; post_counted = λ k u. tt }
        by true e =
            sim_of g end b step_post w x (by_port w) (step ∙ release_goes c after I.post.slot e)
            record {
              moment = untold;
              past = one_more c;
              inv = given (PostTail (tail_start g.area Response) c) (rw I.post.slot at);
              same = rw (post_ok b (plain_of w x) p.asked.answers x.posting space, more);
              ran = logged;
              calm = refl;
              timed = λ k j u v. due j _ (v ∙ ap (λ (y : ℕ). 4 + words_of y) I.post.size);
              fetch_counted = λ k u. u;
              post_counted = λ k u. tt;
            }

  -- the tail: the previous slot's test, and the indicator
  touch_test : (c : Cursor) → tail_asks g.bits g.area Response E.Test c ≡ Read (addr g (slot_word Response (before_of g.area Response c.slot) 2))
  unfolding tail_asks
  touch_test c = refl

  touch_mark : (c : Cursor) → tail_asks g.bits g.area Response E.Mark c ≡ Write (addr g (mark_word Response)) 1
  unfolding tail_asks
  touch_mark c = F.indicator_at Response 1

  test_goes : (c : Cursor) (k : Memory) (v : ℕ) → is_set owner v ≡ true
      → with_memory (post_tailed (with_poster p (PostTail E.Test c)) c (tail_follows g.area E.Test (Some v))) k ≡ with_memory (onward (with_poster p (PostTail E.Mark c))) k
  unfolding post_tailed test_follows mark_follows
  test_goes c k v e = rw e

  test_closes : (c : Cursor) (k : Memory) (v : ℕ) → is_set owner v ≡ false
      → with_memory (post_tailed (with_poster p (PostTail E.Test c)) c (tail_follows g.area E.Test (Some v))) k ≡ with_memory (record { told = told done false; state = with_poster p NoPost }) k
  unfolding post_tailed test_follows mark_follows
  test_closes c k v e = rw e

  mark_closes : (c : Cursor) (k : Memory) (v : ℕ)
      → with_memory (post_tailed (with_poster p (PostTail E.Mark c)) c (tail_follows g.area E.Mark (Some v))) k
      ≡ with_memory (record { told = told done (has_vector g.area.first); state = with_poster p NoPost }) k
  unfolding post_tailed test_follows mark_follows
  mark_closes c k v = refl

  test : (c : Cursor) → Inv g end b (world h (with_poster p (PostTail E.Test c)) m) x
      → Sim g end b step_post (world h (with_poster p (PostTail E.Test c)) m) x (by_port (world h (with_poster p (PostTail E.Test c)) m) (post_step g.bits (with_poster p (PostTail E.Test c)) m))
  test c I = by (is_set owner (view g m (slot_word Response (before_of g.area Response c.slot) 2))) refl
    where
      w : World
      w = world h (with_poster p (PostTail E.Test c)) m

      word : ℕ
      word = view g m (slot_word Response (before_of g.area Response c.slot) 2)

      step : post_step g.bits (with_poster p (PostTail E.Test c)) m ≡ with_memory (post_tailed (with_poster p (PostTail E.Test c)) c (tail_follows g.area E.Test (Some word))) m
      step =
          tail_at g.bits p g.area I.agreed.go m E.Test c (Read (addr g (slot_word Response (before_of g.area Response c.slot) 2))) word I.agreed.port_runs
          (touch_test c) (reads g end F m I.size (slot_word Response (before_of g.area Response c.slot) 2) ((every_layout.ring g.area Response).before_in c.slot I.post, omega arith))

      by : (o : Bool) → is_set owner word ≡ o → Sim g end b step_post w x (by_port w (post_step g.bits (with_poster p (PostTail E.Test c)) m))
      by true e =
          sim_of g end b step_post w x (by_port w) (step ∙ test_goes c m word e)
          record { moment = later; past = x; inv = with_post (PostTail E.Test c) I (PostTail E.Mark c) I.post; same = refl; ran = λ l r. r; calm = refl; timed = λ k j u v. refl; fetch_counted = λ k u. u; post_counted = λ k u. tt }
      by false e =
          sim_of g end b step_post w x (by_port w) (step ∙ test_closes c m word e)
          record { moment = now; past = x; inv = with_post (PostTail E.Test c) I NoPost tt; same = refl; ran = λ l r. r; calm = refl; timed = λ k j u v. refl; fetch_counted = λ k u. u; post_counted = λ k u. tt }

  mark : (c : Cursor) → Inv g end b (world h (with_poster p (PostTail E.Mark c)) m) x
      → Sim g end b step_post (world h (with_poster p (PostTail E.Mark c)) m) x (by_port (world h (with_poster p (PostTail E.Mark c)) m) (post_step g.bits (with_poster p (PostTail E.Mark c)) m))
  mark c I =
      let w : World = world h (with_poster p (PostTail E.Mark c)) m in
      let m' : Memory = with_word g.bits m (addr g (mark_word Response)) 1 in
      sim_of g end b step_post w x (by_port w)
      (tail_at g.bits p g.area I.agreed.go m E.Mark c (Write (addr g (mark_word Response)) 1) 1 I.agreed.port_runs (touch_mark c) (writes g end F m I.size (mark_word Response) 1 tt)
      ∙ mark_closes c m' 1)
      record {
        moment = now;
        past = x;
        inv = marked g end b S' h p p.fetcher (PostTail E.Mark c) m x I Response 1 p.fetcher NoPost (fetch_stays g end b S' h p p.fetcher (PostTail E.Mark c) m x I Response 1 NoPost) tt;
        same = refl;
        ran = λ l r. r;
        calm = refl;
        timed = λ k j u v. refl;
        fetch_counted = λ k u. u;
        post_counted = λ k u. tt;
      }

  -- every stage
  pub post_sim : (q : Poster) → Inv g end b (world h (with_poster p q) m) x
      → Sim g end b step_post (world h (with_poster p q) m) x (by_port (world h (with_poster p q) m) (post_step g.bits (with_poster p q) m))
  post_sim NoPost I = no_post I
  post_sim (Posting S.High c) I = high c I
  post_sim (Posting S.Low c) I = low c I
  post_sim (Posting S.Length c) I = len c I
  post_sim (Posting S.Header c) I = head c I
  post_sim (Posting S.Text c) I = text c I
  post_sim (Posting S.Release c) I = release_sim c I
  post_sim (PostTail E.Test c) I = test c I
  post_sim (PostTail E.Mark c) I = mark c I
