-- The take side's step, stage by stage. It takes effect where it writes the high word; its refusal where it looks. Assumes nothing.
use Rattle.std.specs.Prelude.{Ok, Some}
use Prim.Native.Nat.{ℕ, suc, ◌+◌, ◌*◌, ◌%◌, ◌<◌, ◌≤◌, min}
use mathlib.Core.Path.{◌≡◌, refl, sym, ap, subst, ◌∙◌}
use mathlib.Core.Bool.{Bool, true, false, not}
use mathlib.Core.List.{List, [], ◌∷◌}
use mathlib.Core.Logic.{inl, inr}
use native.Mathlib.Omega.{arith}
use lib.ListN.{length, drop}
use borrow.Author.Tests.{lt-ltb, le-ltb, le-leb}
use Rattle.base_words.specs.Fields.{of, is_set, owner, connection, message_type, credits}
use Rattle.base_words.specs.Words.{high_word}
use Rattle.base_texts.specs.Texts.{words_of, with_text}
use Rattle.base_memory.specs.Memory.{Memory, with_word}
use Rattle.base_memory.specs.OneWord.{found, left}
use Rattle.base_memory.specs.declared.Touch.{Touch}
use Rattle.base_memory.specs.declared.Touch.TheVariants.{Read, Write}
use Rattle.base_answers.specs.Told.{carried}
use Rattle.base_rules.specs.Rules.{fault_of}
use Rattle.base_rules.proofs.Laws.{sound}
use Rattle.base_area.specs.Layout.{slots, next_of, envelope_at}
use Rattle.base_area.specs.declared.Ring.TheVariants.{Command, Response}
use Rattle.fact_layout.specs.Facts.{rings', slots_apart, AreaFacts}
use Rattle.fact_layout.proofs.Rings.{slots_some, lt_or_ge, same_or_not}
use Rattle.fact_plain.specs.Plain.{Bounds}
use Rattle.fact_plain.specs.Log.{takes, does, noted, Ran, credits_in}
use Rattle.port_state.specs.declared.state.Port.{Port}
use Rattle.host_state.specs.State as HostState
use Rattle.host_state.specs.State.{is_ready, with_taker, with_incoming}
use Rattle.base_side.specs.Step.{with_memory, onward}
use Rattle.base_side.specs.Place.{with_high, with_size, with_at}
use Rattle.host_state.specs.Take.{take_asks, take_high, take_header, take_text, taken, take_closed, take_finds, take_follows, take_step}
use Rattle.host_state.specs.Side.{refuse, text_or_closing, host_step}
use Rattle.base_side.specs.declared.Cursor.{Cursor}
use Rattle.host_state.specs.declared.state.Stage.{Stage as TakeStage}
use Rattle.host_state.specs.declared.state.Stage.TheVariants as H
use Rattle.host_state.specs.declared.state.Side.{Side as Taker}
use Rattle.host_state.specs.declared.state.Side.TheVariants.{Idle as NoTake, At as Taking}
use Rattle.host_state.specs.declared.state.Host.{Host}
use Rattle.fact_traffic.specs.Places.{slot_word, env_word, Site, addr, view}
use Rattle.fact_traffic.specs.Rings.{Letter, RingInv}
use Rattle.fact_traffic.specs.Got.{Got}
use Rattle.fact_traffic.specs.World.{World, world, step_take, by_host}
use Rattle.fact_traffic.specs.Invariant.{Past, Found, next_response, TakeInv, whole_from, PostRoom, Inv, Setting, plain_of}
use Rattle.fact_traffic.proofs.Place.{far_sym, slots_far, words_far, envs_far, slot_env, reads, writes, stored, kept}
use Rattle.fact_traffic.proofs.RingLaws.{same_place, slot_lt, spoil, release, taker_some, taker_none}
use Rattle.fact_traffic.proofs.TextLaws.{got_none, got_more, got_all}
use Rattle.fact_traffic.proofs.Frames.{size_kept, quiet_at, quiet_env, quiet_slot, send_frame, post_frame}
use Rattle.fact_traffic.proofs.PlainLaws.{take_7, take_ok, left_none, left_some}
use Rattle.fact_traffic.proofs.Sim.{Sim, later, now, sim_of, ran_does}
use Rattle.fact_traffic.proofs.WordLaws.{high_owner, high_upper, high_lt, header_type, header_connection, header_credits}

-- a step of a ready host whose touch finds a word
take_at : (n : ℕ) (h : Host) (m : Memory) (s : TakeStage) (c : Cursor) (t : Touch) (v : ℕ) → is_ready h ≡ true → take_asks n (with_taker h (Taking s c)) s c ≡ t → found n m t ≡ Some v
    → take_step n (with_taker h (Taking s c)) m ≡ with_memory (take_finds (with_taker h (Taking s c)) s c v) (left n m t)
unfolding take_step take_follows is_ready host_step
take_at n h m s c t v r e f = rw (r, e, f)

take_idle : (n : ℕ) (h : Host) (m : Memory) → is_ready h ≡ true → take_step n (with_taker h NoTake) m ≡ with_memory (refuse (with_taker h NoTake) Response 12) m
unfolding take_step is_ready host_step
take_idle n h m r = rw r

on_text : (c : Cursor) (k : ℕ) → k < words_of c.size → text_or_closing c k ≡ Taking H.Text (with_at c k)
unfolding text_or_closing
on_text c k l = rw (lt-ltb k (words_of c.size) l)

on_refill : (c : Cursor) (k : ℕ) → words_of c.size ≤ k → text_or_closing c k ≡ Taking H.Closing c
unfolding text_or_closing
on_refill c k l = rw (le-ltb k (words_of c.size) l)

look_7 : (h : Host) (m : Memory) (c : Cursor) (v : ℕ) → is_set owner v ≡ true → with_memory (take_high (with_taker h (Taking H.High c)) c v) m ≡ with_memory (refuse h Response 7) m
unfolding take_high
look_7 h m c v e = rw e

look_on : (h : Host) (m : Memory) (c : Cursor) (v : ℕ) → is_set owner v ≡ false
    → with_memory (take_high (with_taker h (Taking H.High c)) c v) m ≡ with_memory (onward (with_taker h (Taking H.Length (with_high c v)))) m
unfolding take_high
look_on h m c v e = rw e

header_on : (h : Host) (m : Memory) (c : Cursor) (v k : ℕ) → (Ok tt) ≡ fault_of (of message_type v) (of connection v) c.size → of credits v ≡ k → h.counts.account + k ≤ 255
    → with_memory (take_header (with_taker h (Taking H.Header c)) c v) m ≡ with_memory (onward (with_taker (with_incoming h h.incoming k) (text_or_closing c 0))) m
unfolding take_header
header_on h m c v k e f l = rw (← e, f, le-leb (h.counts.account + k) 255 l)

module _ (g : Site) (end : ℕ) (b : Bounds) (S : Setting g end b) (h : Host) (p : Port) (m : Memory) (x : Past) where
  F : AreaFacts g.bits g.area g.pool end
  F = S.facts

  j : ℕ
  j = h.counts.take

  -- the words that the stages touch, as places
  touch_look : (c : Cursor) → h.area ≡ g.area → c.slot ≡ h.counts.take → take_asks g.bits (with_taker h (Taking H.High c)) H.High c ≡ Read (addr g (slot_word Response h.counts.take 2))
  unfolding take_asks
  touch_look c a s = rw (a, s)

  touch_len : (c : Cursor) → c.envelope ≡ envelope_at g.area g.pool Response h.counts.take → take_asks g.bits (with_taker h (Taking H.Length c)) H.Length c ≡ Read (addr g (env_word Response h.counts.take 0))
  unfolding take_asks
  touch_len c e = rw e (ap Read (omega arith))

  touch_head : (c : Cursor) → c.envelope ≡ envelope_at g.area g.pool Response h.counts.take → take_asks g.bits (with_taker h (Taking H.Header c)) H.Header c ≡ Read (addr g (env_word Response h.counts.take 2))
  unfolding take_asks
  touch_head c e = rw e

  touch_text : (c : Cursor) → c.envelope ≡ envelope_at g.area g.pool Response h.counts.take → take_asks g.bits (with_taker h (Taking H.Text c)) H.Text c ≡ Read (addr g (env_word Response h.counts.take (4 + 2 * c.at)))
  unfolding take_asks
  touch_text c e = rw e (ap Read (omega arith))

  touch_refill : (c : Cursor) → c.envelope ≡ envelope_at g.area g.pool Response h.counts.take → take_asks g.bits (with_taker h (Taking H.Closing c)) H.Closing c ≡ Write (addr g (env_word Response h.counts.take 0)) 60
  unfolding take_asks
  touch_refill c e = rw e (ap (λ (k : ℕ). Write k 60) (omega arith))

  touch_give : (c : Cursor) → h.area ≡ g.area → c.slot ≡ h.counts.take → take_asks g.bits (with_taker h (Taking H.Release c)) H.Release c ≡ Write (addr g (slot_word Response h.counts.take 2)) (high_word true true c.high)
  unfolding take_asks
  touch_give c a s = rw (a, s)

  module _ (tk : Taker) (I : Inv g end b (world (with_taker h tk) p m) x) where
    ready : is_ready h ≡ true
    unfolding is_ready
    ready = rw (I.agreed.host_runs, I.agreed.host_ready)

    here : h.counts.take < slots g.area Response
    here = rw I.responses.taker (slot_lt g Response x.taken)

    -- memory is as it was; a text word may have been read
    with_take : (room : List ℕ) (cr : ℕ) (tk' : Taker)
        → RingInv g (view g m) Response p.counts.post h.counts.take x.posted x.taken (whole_from x.taken tk')
        → TakeInv g (with_taker (with_incoming h room cr) tk') x tk' → Inv g end b (world (with_taker (with_incoming h room cr) tk') p m) x
    with_take room cr tk' ring new =
        record {
          agreed = I.agreed;
          size = I.size;
          commands = I.commands;
          responses = ring;
          send = send_frame g (view g m) (view g m) (with_taker h tk) (with_taker (with_incoming h room cr) tk') x x h.sender refl refl (omega arith) refl refl (omega arith) (λ o l. refl) I.send;
          take = new;
          fetch = I.fetch;
          post = I.post;
          sum = I.sum;
        }

  no_take : Inv g end b (world (with_taker h NoTake) p m) x → Sim g end b step_take (world (with_taker h NoTake) p m) x (by_host (world (with_taker h NoTake) p m) (take_step g.bits (with_taker h NoTake) m))
  no_take I =
      sim_of g end b step_take (world (with_taker h NoTake) p m) x (by_host (world (with_taker h NoTake) p m)) (take_idle g.bits h m (ready NoTake I))
      record { moment = now; past = x; inv = I; same = refl; ran = λ l r. r; calm = refl; timed = λ k j u v. refl; fetch_counted = λ k u. u; post_counted = λ k u. u }

  look : (c : Cursor) → Inv g end b (world (with_taker h (Taking H.High c)) p m) x
      → Sim g end b step_take (world (with_taker h (Taking H.High c)) p m) x (by_host (world (with_taker h (Taking H.High c)) p m) (take_step g.bits (with_taker h (Taking H.High c)) m))
  look c I = by (is_set owner (view g m (slot_word Response h.counts.take 2))) refl
    where
      w : World
      w = world (with_taker h (Taking H.High c)) p m

      word : ℕ
      word = view g m (slot_word Response h.counts.take 2)

      step : take_step g.bits (with_taker h (Taking H.High c)) m ≡ with_memory (take_high (with_taker h (Taking H.High c)) c word) m
      step =
          take_at g.bits h m H.High c (Read (addr g (slot_word Response h.counts.take 2))) word (ready (Taking H.High c) I)
          (touch_look c I.agreed.host_area I.take.slot) (reads g end F m I.size (slot_word Response h.counts.take 2) (here (Taking H.High c) I, omega arith))

      by : (o : Bool) → is_set owner word ≡ o → Sim g end b step_take w x (by_host w (take_step g.bits (with_taker h (Taking H.High c)) m))
      by true e =
          let none : drop x.taken x.posted ≡ [] =
          left_none x.posted x.taken (taker_none g Response (view g m) (view g m) p.counts.post h.counts.take x.posted x.taken x.taken I.responses (ap not e)) in
          sim_of g end b step_take w x (by_host w) (step ∙ look_7 h m c word e)
          record {
            moment = now;
            past = x;
            inv = with_take (Taking H.High c) I h.incoming h.credits NoTake I.responses tt;
            same = rw (take_7 b (plain_of w x) none);
            ran = ran_does b (plain_of w x) takes tt _ (take_7 b (plain_of w x) none);
            calm = refl;
            timed = λ k j u v. refl;
            fetch_counted = λ k u. u;
            post_counted = λ k u. u;
          }
      by false e =
          let some : x.taken < length x.posted =
          taker_some g Response (view g m) (view g m) p.counts.post h.counts.take x.posted x.taken x.taken I.responses (ap not e) in
          sim_of g end b step_take w x (by_host w) (step ∙ look_on h m c word e)
          record {
            moment = later;
            past = x;
            inv =
                with_take (Taking H.High c) I h.incoming h.credits (Taking H.Length (with_high c word)) I.responses
                record {
                  slot = I.take.slot;
                  envelope = I.take.envelope;
                  progress = (record { some = some; upper = rw I.take.slot (I.responses.highs h.counts.take (here (Taking H.High c) I)) }, I.take.progress);
                };
            same = refl;
            ran = λ l r. r;
            calm = refl;
            timed = λ k j u v. refl;
            fetch_counted = λ k u. u;
            post_counted = λ k u. u;
          }

  -- the letter that is being taken
  taking : (s : TakeStage) (c : Cursor) → whole_from x.taken (Taking s c) ≡ x.taken → (I : Inv g end b (world (with_taker h (Taking s c)) p m) x) → x.taken < length x.posted
      → Letter (view g m) Response h.counts.take (next_response x)
  taking s c e I some =
      rw I.responses.taker (I.responses.kept x.taken (rw e (omega arith)) some)

  length_step : (c : Cursor) → Inv g end b (world (with_taker h (Taking H.Length c)) p m) x
      → Sim g end b step_take (world (with_taker h (Taking H.Length c)) p m) x (by_host (world (with_taker h (Taking H.Length c)) p m) (take_step g.bits (with_taker h (Taking H.Length c)) m))
  length_step c I =
      let v : ℕ = view g m (env_word Response h.counts.take 0) in
      let L = taking H.Length c refl I I.take.progress.0.some in
      sim_of g end b step_take (world (with_taker h (Taking H.Length c)) p m) x (by_host (world (with_taker h (Taking H.Length c)) p m))
      (take_at g.bits h m H.Length c (Read (addr g (env_word Response h.counts.take 0))) v (ready (Taking H.Length c) I)
      (touch_len c I.take.envelope) (reads g end F m I.size (env_word Response h.counts.take 0) (here (Taking H.Length c) I, omega arith)))
      record {
        moment = later;
        past = x;
        inv = with_take (Taking H.Length c) I h.incoming h.credits (Taking H.Header (with_size c v)) I.responses
            record { slot = I.take.slot; envelope = I.take.envelope; progress = (I.take.progress.0, (I.take.progress.1, L.len)) };
        same = refl;
        ran = λ l r. r;
        calm = refl;
        timed = λ k j u v. refl;
        fetch_counted = λ k u. u;
        post_counted = λ k u. u;
      }

  -- text word k next, or the refill
  on_sim : (s : TakeStage) (c d : Cursor) (room : List ℕ) (k cr : ℕ) → whole_from x.taken (Taking s c) ≡ x.taken → (I : Inv g end b (world (with_taker h (Taking s c)) p m) x)
      → d.slot ≡ h.counts.take → d.envelope ≡ envelope_at g.area g.pool Response h.counts.take → Found g Response d.slot d.high x.posted x.taken → Got room (next_response x).text k → d.size ≡ length (next_response x).text
      → cr ≡ (next_response x).credits → length (next_response x).text ≤ 60
      → take_step g.bits (with_taker h (Taking s c)) m ≡ with_memory (onward (with_taker (with_incoming h room cr) (text_or_closing d k))) m
      → Sim g end b step_take (world (with_taker h (Taking s c)) p m) x (by_host (world (with_taker h (Taking s c)) p m) (take_step g.bits (with_taker h (Taking s c)) m))
  on_sim s c d room k cr wf I sl en fo go si ce sh e =
      elim (lt_or_ge k (words_of d.size)) [
        | inl more ↦
            sim_of g end b step_take (world (with_taker h (Taking s c)) p m) x (by_host (world (with_taker h (Taking s c)) p m))
            (e ∙ ap (λ (y : Taker). with_memory (onward (with_taker (with_incoming h room cr) y)) m) (on_text d k more))
            record {
              moment = later;
              past = x;
              inv = with_take (Taking s c) I room cr (Taking H.Text (with_at d k)) (subst (λ (y : ℕ). RingInv g (view g m) Response p.counts.post h.counts.take x.posted x.taken y) wf I.responses)
                  record { slot = sl; envelope = en; progress = (fo, (go, (si, (ce, rw (← si) more)))) };
              same = refl;
              ran = λ l r. r;
              calm = refl;
              timed = λ k j u v. refl;
              fetch_counted = λ k u. u;
              post_counted = λ k u. u;
            }
        | inr none ↦
            sim_of g end b step_take (world (with_taker h (Taking s c)) p m) x (by_host (world (with_taker h (Taking s c)) p m))
            (e ∙ ap (λ (y : Taker). with_memory (onward (with_taker (with_incoming h room cr) y)) m) (on_refill d k none))
            record {
              moment = later;
              past = x;
              inv = with_take (Taking s c) I room cr (Taking H.Closing d) (subst (λ (y : ℕ). RingInv g (view g m) Response p.counts.post h.counts.take x.posted x.taken y) wf I.responses)
                  record { slot = sl; envelope = en; progress = (fo, (got_all room (next_response x).text k sh (rw (← si) none) go, (si, ce))) };
              same = refl;
              ran = λ l r. r;
              calm = refl;
              timed = λ k j u v. refl;
              fetch_counted = λ k u. u;
              post_counted = λ k u. u;
            }
      ]

  -- the account has room for what the response carries: all credits together are at most 64
  affords : (s : TakeStage) (c : Cursor) → (I : Inv g end b (world (with_taker h (Taking s c)) p m) x) → x.taken < length x.posted → h.counts.account + (next_response x).credits ≤ 64
  affords s c I some = omega (arith, I.sum, S.few, ap credits_in (left_some x.posted x.taken some))

  header_step : (c : Cursor) → Inv g end b (world (with_taker h (Taking H.Header c)) p m) x
      → Sim g end b step_take (world (with_taker h (Taking H.Header c)) p m) x (by_host (world (with_taker h (Taking H.Header c)) p m) (take_step g.bits (with_taker h (Taking H.Header c)) m))
  header_step c I =
      let v : ℕ = view g m (env_word Response h.counts.take 2) in
      let some = I.take.progress.0.some in
      let L = taking H.Header c refl I some in
      let k : ℕ = (next_response x).credits in
      on_sim H.Header c c h.incoming 0 k refl I I.take.slot I.take.envelope I.take.progress.0
      (rw I.take.progress.1.0 (got_none (next_response x).text)) I.take.progress.1.1 refl L.short
      (take_at g.bits h m H.Header c (Read (addr g (env_word Response h.counts.take 2))) v (ready (Taking H.Header c) I)
      (touch_head c I.take.envelope) (reads g end F m I.size (env_word Response h.counts.take 2) (here (Taking H.Header c) I, omega arith))
      ∙ header_on h m c v k
      (sound (of message_type v) (of connection v) c.size (ap (of message_type) L.head ∙ header_type k) (ap (of connection) L.head ∙ header_connection k) (rw I.take.progress.1.1 L.short))
      (ap (of credits) L.head ∙ header_credits k L.few) (omega (arith, affords H.Header c I some)))

  text_is : (c : Cursor) (v : ℕ) → with_memory (take_finds (with_taker h (Taking H.Text c)) H.Text c v) m
      ≡ with_memory (onward (with_taker (with_incoming h (with_text h.incoming c.size c.at v) h.credits) (text_or_closing c (c.at + 1)))) m
  unfolding take_text
  text_is c v = refl

  text_step : (c : Cursor) → Inv g end b (world (with_taker h (Taking H.Text c)) p m) x
      → Sim g end b step_take (world (with_taker h (Taking H.Text c)) p m) x (by_host (world (with_taker h (Taking H.Text c)) p m) (take_step g.bits (with_taker h (Taking H.Text c)) m))
  text_step c I =
      let P = I.take.progress in
      let few : c.at < words_of (length (next_response x).text) = P.1.1.1.1 in
      let L = taking H.Text c refl I P.0.some in
      let v : ℕ = view g m (env_word Response h.counts.take (4 + 2 * c.at)) in
      let t : List ℕ = (next_response x).text in
      on_sim H.Text c c (with_text h.incoming c.size c.at v) (c.at + 1) h.credits refl I I.take.slot I.take.envelope P.0
      (rw (P.1.1.0, L.words c.at few) (got_more h.incoming t c.at L.bytes L.short P.1.0 few)) P.1.1.0 P.1.1.1.0 L.short
      (take_at g.bits h m H.Text c (Read (addr g (env_word Response h.counts.take (4 + 2 * c.at)))) v (ready (Taking H.Text c) I)
      (touch_text c I.take.envelope)
      (reads g end F m I.size (env_word Response h.counts.take (4 + 2 * c.at)) (here (Taking H.Text c) I, omega (arith, few, L.short)))
      ∙ text_is c v)

  -- the length is refilled: that letter is spoilt
  refill_step : (c : Cursor) → Inv g end b (world (with_taker h (Taking H.Closing c)) p m) x
      → Sim g end b step_take (world (with_taker h (Taking H.Closing c)) p m) x (by_host (world (with_taker h (Taking H.Closing c)) p m) (take_step g.bits (with_taker h (Taking H.Closing c)) m))
  refill_step c I =
      let i : ℕ = h.counts.take in
      let at : i < slots g.area Response = here (Taking H.Closing c) I in
      let some = I.take.progress.0.some in
      let R = spoil g Response (view g m) (view g m) p.counts.post i x.posted x.taken x.taken I.responses some refl in
      let m' : Memory = with_word g.bits m (addr g (env_word Response i 0)) 60 in
      sim_of g end b step_take (world (with_taker h (Taking H.Closing c)) p m) x (by_host (world (with_taker h (Taking H.Closing c)) p m))
      (take_at g.bits h m H.Closing c (Write (addr g (env_word Response i 0)) 60) 60 (ready (Taking H.Closing c) I)
      (touch_refill c I.take.envelope) (writes g end F m I.size (env_word Response i 0) 60 (at, omega arith)))
      record {
        moment = later;
        past = x;
        inv =
            record {
              agreed = I.agreed;
              size = size_kept g end m (addr g (env_word Response i 0)) 60 I.size;
              commands = quiet_env g end F m I.size Command h.counts.send p.counts.fetch x.sent x.fetched x.fetched I.commands Response i 0 60 (λ s. rings') (at, omega arith);
              responses =
                  quiet_at g end F m I.size Response p.counts.post i x.posted x.taken (suc x.taken) R (env_word Response i 0) 60
                  (λ s o l k. far_sym g (slot_word Response s o) (env_word Response i 0) (slot_env g end F Response s o Response i 0 (l, k) (at, omega arith)))
                  (λ d a u o k. envs_far g end F Response i 0 Response (d % slots g.area Response) o (at, omega arith) (slot_lt g Response d, k) (slots_apart (λ e. away d a u e)));
              send = send_frame g (view g m) (view g m') (with_taker h (Taking H.Closing c)) (with_taker h (Taking H.Release c)) x x h.sender refl refl (omega arith) refl refl (omega arith)
                  (λ o l. kept g end F m I.size (env_word Response i 0) (env_word Command h.counts.send o) 60 (envs_far g end F Response i 0 Command h.counts.send o (at, omega arith) (there, l) rings')) I.send;
              take = record { slot = I.take.slot; envelope = I.take.envelope; progress = I.take.progress };
              fetch = I.fetch;
              post = post_frame g (view g m) (view g m') p p x x p.poster refl refl refl refl (omega arith) refl refl (omega arith)
                  (λ room o l. kept g end F m I.size (env_word Response i 0) (env_word Response p.counts.post o) 60
                  (envs_far g end F Response i 0 Response p.counts.post o (at, omega arith) (post_in, l) (slots_apart (λ e. apart room e))))
                  I.post;
              sum = I.sum;
            };
        same = refl;
        ran = λ l r. r;
        calm = refl;
        timed = λ k j u v. refl;
        fetch_counted = λ k u. u;
        post_counted = λ k u. u;
      }
    where
      some' : x.taken < length x.posted
      some' = I.take.progress.0.some

      there : h.counts.send < slots g.area Command
      there = rw I.commands.giver (slot_lt g Command (length x.sent))

      post_in : p.counts.post < slots g.area Response
      post_in = rw I.responses.giver (slot_lt g Response (length x.posted))

      away : (d : ℕ) → suc x.taken ≤ d → d < length x.posted → h.counts.take ≡ d % slots g.area Response → ⊥
      away d a u e = omega (arith, same_place (slots g.area Response) x.taken x.taken d (omega arith) (omega (arith, slots_some g.area Response)) (omega arith) (omega (arith, I.responses.cap)) (sym I.responses.taker ∙ e))

      apart : PostRoom g x → h.counts.take ≡ p.counts.post → ⊥
      apart room e =
          omega (arith, some', same_place (slots g.area Response) x.taken x.taken (length x.posted) (omega arith) (omega (arith, slots_some g.area Response)) (omega (arith, some')) room (sym I.responses.taker ∙ e ∙ I.responses.giver))

  -- the high word: the slot is the port's again
  abbrev took : Cursor → Host
  took c =
      with_taker (HostState.with_counts h (record { send = h.counts.send; take = (h.counts.take + 1) % slots g.area Response; account = h.counts.account + h.credits })) NoTake

  abbrev one_less : Past
  one_less =
      record {
        sent = x.sent;
        fetched = x.fetched;
        posted = x.posted;
        taken = suc x.taken;
        sending = x.sending;
        posting = x.posting;
        holding = x.holding;
      }

  give_is : (c : Cursor) (k : Memory) (v : ℕ) → h.area ≡ g.area → c.slot ≡ h.counts.take → h.counts.account + h.credits ≤ 255
      → with_memory (take_finds (with_taker h (Taking H.Release c)) H.Release c v) k ≡ with_memory (record { told = carried c.size h.incoming false; state = took c }) k
  unfolding take_closed taken next_of
  give_is c k v a s l = rw (a, s, least (h.counts.account + h.credits) l)
    where
      least : (y : ℕ) → y ≤ 255 → min y 255 ≡ y
      least y u = omega arith

  give_step : (c : Cursor) → Inv g end b (world (with_taker h (Taking H.Release c)) p m) x
      → Sim g end b step_take (world (with_taker h (Taking H.Release c)) p m) x (by_host (world (with_taker h (Taking H.Release c)) p m) (take_step g.bits (with_taker h (Taking H.Release c)) m))
  give_step c I =
      let i : ℕ = h.counts.take in
      let w : World = world (with_taker h (Taking H.Release c)) p m in
      let at : i < slots g.area Response = here (Taking H.Release c) I in
      let P = I.take.progress in
      let some = P.0.some in
      let v : ℕ = high_word true true c.high in
      let m' : Memory = with_word g.bits m (addr g (slot_word Response i 2)) v in
      let R = I.responses in
      let cr : h.credits ≡ (next_response x).credits = P.1.1.1 in
      let rest : drop x.taken x.posted ≡ next_response x ∷ drop (suc x.taken) x.posted = left_some x.posted x.taken some in
      let done-it = take_ok b (plain_of w x) (next_response x) (drop (suc x.taken) x.posted) rest in
      sim_of g end b step_take w x (by_host w)
      (take_at g.bits h m H.Release c (Write (addr g (slot_word Response i 2)) v) v (ready (Taking H.Release c) I)
      (touch_give c I.agreed.host_area I.take.slot) (writes g end F m I.size (slot_word Response i 2) v (at, omega arith))
      ∙ give_is c m' v I.agreed.host_area I.take.slot (omega (arith, affords H.Release c I some, cr)))
      record {
        moment = now;
        past = one_less;
        inv =
            record {
              agreed = I.agreed;
              size = size_kept g end m (addr g (slot_word Response i 2)) v I.size;
              commands = quiet_slot g end F m I.size Command h.counts.send p.counts.fetch x.sent x.fetched x.fetched I.commands Response i 2 v (λ s. rings') (at, omega arith);
              responses =
                  release g Response (view g m) (view g m') p.counts.post i x.posted x.taken (suc x.taken) R v i
                  (stored g end F m I.size (slot_word Response i 2) v (at, omega arith) (high_lt true true c.high))
                  (high_upper g.bits true true c.high S.narrow ∙ rw (← I.take.slot) P.0.upper)
                  (λ s l d. kept g end F m I.size (slot_word Response i 2) (slot_word Response s 2) v (slots_far g end F Response i 2 Response s 2 (at, omega arith) (l, omega arith) (slots_apart d)))
                  (λ s l. lows s l)
                  (λ s l o u. kept g end F m I.size (slot_word Response i 2) (env_word Response s o) v (slot_env g end F Response i 2 Response s o (at, omega arith) (l, u)))
                  refl (ap not (high_owner true true c.high)) some (omega arith);
              send = send_frame g (view g m) (view g m') (with_taker h (Taking H.Release c)) (took c) x one_less h.sender refl refl (omega arith) refl refl (omega arith)
                  (λ o l. kept g end F m I.size (slot_word Response i 2) (env_word Command h.counts.send o) v (slot_env g end F Response i 2 Command h.counts.send o (at, omega arith) (there, l))) I.send;
              take = tt;
              fetch = Rattle.fact_traffic.proofs.Frames.fetch_frame g p p x one_less p.fetcher refl refl refl refl (omega arith) (λ k. refl) I.fetch;
              post = post_frame g (view g m) (view g m') p p x one_less p.poster refl refl refl refl (omega arith) refl refl (omega arith)
                  (λ room o l. kept g end F m I.size (slot_word Response i 2) (env_word Response p.counts.post o) v (slot_env g end F Response i 2 Response p.counts.post o (at, omega arith) (post_in, l)))
                  I.post;
              sum = omega (arith, I.sum, ap credits_in rest, cr);
            };
        same = rw (done-it, P.1.0, P.1.1.0, cr);
        ran = λ l r.
            subst (λ (y : ℕ). Ran b (noted b takes (does b takes (plain_of w x)).answer l) (record { commands = drop x.fetched x.sent; responses = drop (suc x.taken) x.posted; account = h.counts.account + y; unanswered = p.counts.unanswered; owed = p.counts.owed })) (sym cr)
            (ran_does b (plain_of w x) takes tt _ done-it l r);
        calm = refl;
        timed = λ k j u v. refl;
        fetch_counted = λ k u. u;
        post_counted = λ k u. u;
      }
    where
      there : h.counts.send < slots g.area Command
      there = rw I.commands.giver (slot_lt g Command (length x.sent))

      post_in : p.counts.post < slots g.area Response
      post_in = rw I.responses.giver (slot_lt g Response (length x.posted))

      lows : (s : ℕ) → s < slots g.area Response → view g (with_word g.bits m (addr g (slot_word Response h.counts.take 2)) (high_word true true c.high)) (slot_word Response s 0) ≡ view g m (slot_word Response s 0)
      lows s l =
          let at : h.counts.take < slots g.area Response = here (Taking H.Release c) I in
          elim (same_or_not h.counts.take s) [
            | inl q ↦ rw (← q) (kept g end F m I.size (slot_word Response h.counts.take 2) (slot_word Response h.counts.take 0) _ (far_sym g (slot_word Response h.counts.take 0) (slot_word Response h.counts.take 2) (words_far g end F Response h.counts.take 0 2 (omega arith))))
            | inr d ↦ kept g end F m I.size (slot_word Response h.counts.take 2) (slot_word Response s 0) _ (slots_far g end F Response h.counts.take 2 Response s 0 (at, omega arith) (l, omega arith) (slots_apart d))
          ]

  -- every stage
  pub take_sim : (tk : Taker) → Inv g end b (world (with_taker h tk) p m) x
      → Sim g end b step_take (world (with_taker h tk) p m) x (by_host (world (with_taker h tk) p m) (take_step g.bits (with_taker h tk) m))
  take_sim NoTake I = no_take I
  take_sim (Taking H.High c) I = look c I
  take_sim (Taking H.Length c) I = length_step c I
  take_sim (Taking H.Header c) I = header_step c I
  take_sim (Taking H.Text c) I = text_step c I
  take_sim (Taking H.Closing c) I = refill_step c I
  take_sim (Taking H.Release c) I = give_step c I
