-- The send side's step, stage by stage. It takes effect where it writes the high word; its refusals where it looks. Assumes nothing.
use Rattle.std.specs.Prelude.{Some}
use Prim.Native.Nat.{ℕ, ◌+◌, ◌*◌, ◌-◌, ◌%◌, ◌^◌, ◌<◌, ◌≤◌}
use mathlib.Core.Path.{◌≡◌, refl, sym, ap, subst, ◌∙◌}
use mathlib.Core.Bool.{Bool, true, false}
use mathlib.Core.List.{List, [], ◌∷◌, ◌++◌}
use mathlib.Core.Logic.{inl, inr}
use native.Mathlib.Omega.{arith}
use lib.ListN.{length, get_or, drop, length-append}
use borrow.Author.Tests.{lt-ltb, le-ltb, eq-eqb, ne_eqb}
use Rattle.base_words.specs.Fields.{is_set, owner}
use Rattle.base_words.specs.Words.{low_word, with_address, high_word}
use Rattle.base_texts.specs.Texts.{words_of, word_of, padded}
use Rattle.base_memory.specs.Memory.{Memory, with_word}
use Rattle.base_memory.specs.OneWord.{found, left}
use Rattle.base_memory.specs.declared.Touch.{Touch}
use Rattle.base_memory.specs.declared.Touch.TheVariants.{Nothing, Read, Write}
use Rattle.base_answers.specs.Told.{told, done}
use Rattle.base_area.specs.Layout.{slots, next_of, envelope_at}
use Rattle.base_area.specs.declared.Ring.TheVariants.{Command, Response}
use Rattle.fact_layout.specs.Facts.{rings, slots_apart, AreaFacts}
use Rattle.fact_layout.proofs.Rings.{lt_or_ge, same_or_not}
use Rattle.fact_plain.specs.Plain.{Entry, entry, Bounds}
use Rattle.fact_plain.specs.Log.{sends, does, noted, Ran, credits_in}
use Rattle.port_state.specs.declared.state.Port.{Port}
use Rattle.host_state.specs.State as HostState
use Rattle.host_state.specs.State.{is_ready, with_sender}
use Rattle.base_side.specs.Step.{with_memory, onward}
use Rattle.base_side.specs.Place.{with_high, with_at}
use Rattle.host_state.specs.Send.{send_asks, send_high, sent, send_finds, send_follows, send_step}
use Rattle.host_state.specs.Side.{refuse, text_or_closing, host_step}
use Rattle.base_side.specs.declared.Cursor.{Cursor}
use Rattle.host_state.specs.declared.state.Stage.{Stage as SendStage}
use Rattle.host_state.specs.declared.state.Stage.TheVariants as H
use Rattle.host_state.specs.declared.state.Side.{Side as Sender, Side as Taker}
use Rattle.host_state.specs.declared.state.Side.TheVariants.{Idle as NoSend, At as Sending}
use Rattle.host_state.specs.declared.state.Host.{Host}
use Rattle.fact_traffic.specs.Places.{slot_word, env_word, Site, addr, view}
use Rattle.fact_traffic.specs.Rings.{blank, RingInv}
use Rattle.fact_traffic.specs.World.{World, world, step_send, Did, by_host}
use Rattle.fact_traffic.specs.Invariant.{Past, Written, MayGive, SendInv, TakeInv, Inv, Setting, plain_of}
use Rattle.fact_traffic.proofs.Place.{far_sym, slots_far, words_far, envs_far, slot_env, reads, writes, stored, kept}
use Rattle.fact_traffic.proofs.RingLaws.{slot_lt, quiet, publish, giver_room, giver_full}
use Rattle.fact_traffic.proofs.Frames.{size_kept, quiet_env, quiet_slot, quiet_giver, written_kept, fetch_frame, take_frame, post_frame, next_kept}
use Rattle.fact_traffic.proofs.PlainLaws.{send_5, send_6, send_ok, left_more, left_length}
use Rattle.fact_traffic.proofs.Sim.{Sim, later, now, sim_of, ran_does}
use Rattle.fact_traffic.proofs.GiverLaws.{put_len, put_head, put_word, letter}
use Rattle.fact_traffic.proofs.WordLaws.{high_owner, high_upper, with_upper, low_lt, high_lt, upper_small}

-- a step of a ready host whose touch finds a word
send_at : (n : ℕ) (h : Host) (m : Memory) (s : SendStage) (c : Cursor) (t : Touch) (v : ℕ) → is_ready h ≡ true → send_asks n (with_sender h (Sending s c)) s c ≡ t → found n m t ≡ Some v
    → send_step n (with_sender h (Sending s c)) m ≡ with_memory (send_finds (with_sender h (Sending s c)) s c v) (left n m t)
unfolding send_step send_follows is_ready host_step
send_at n h m s c t v r e f = rw (r, e, f)

send_idle : (n : ℕ) (h : Host) (m : Memory) → is_ready h ≡ true → send_step n (with_sender h NoSend) m ≡ with_memory (refuse (with_sender h NoSend) Command 12) m
unfolding send_step is_ready host_step
send_idle n h m r = rw r

on_text : (c : Cursor) (k : ℕ) → k < words_of c.size → text_or_closing c k ≡ Sending H.Text (with_at c k)
unfolding text_or_closing
on_text c k l = rw (lt-ltb k (words_of c.size) l)

on_low : (c : Cursor) (k : ℕ) → words_of c.size ≤ k → text_or_closing c k ≡ Sending H.Closing c
unfolding text_or_closing
on_low c k l = rw (le-ltb k (words_of c.size) l)

-- what the look comes to
look_5 : (n : ℕ) (h : Host) (m : Memory) (c : Cursor) (v : ℕ) → h.counts.account ≡ 0 → with_memory (send_high (with_sender h (Sending H.High c)) c v) m ≡ with_memory (refuse h Command 5) m
unfolding send_high
look_5 n h m c v z = rw (eq-eqb h.counts.account 0 z)

look_6 : (h : Host) (m : Memory) (c : Cursor) (v : ℕ) → (h.counts.account ≡ 0 → ⊥) → is_set owner v ≡ true
    → with_memory (send_high (with_sender h (Sending H.High c)) c v) m ≡ with_memory (refuse h Command 6) m
unfolding send_high
look_6 h m c v z e = rw (ne_eqb h.counts.account 0 z, e)

look_on : (h : Host) (m : Memory) (c : Cursor) (v : ℕ) → (h.counts.account ≡ 0 → ⊥) → is_set owner v ≡ false
    → with_memory (send_high (with_sender h (Sending H.High c)) c v) m ≡ with_memory (onward (with_sender h (Sending H.Length (with_high c v)))) m
unfolding send_high
look_on h m c v z e = rw (ne_eqb h.counts.account 0 z, e)

module _ (g : Site) (end : ℕ) (b : Bounds) (S : Setting g end b) (h : Host) (p : Port) (m : Memory) (x : Past) where
  F : AreaFacts g.bits g.area g.pool end
  F = S.facts

  -- the words that the stages touch, as places
  touch_look : (c : Cursor) → h.area ≡ g.area → (h.counts.account ≡ 0 → ⊥) → send_asks g.bits (with_sender h (Sending H.High c)) H.High c ≡ Read (addr g (slot_word Command c.slot 2))
  unfolding send_asks
  touch_look c a k = rw (ne_eqb h.counts.account 0 k, a)

  touch_none : (c : Cursor) → h.counts.account ≡ 0 → send_asks g.bits (with_sender h (Sending H.High c)) H.High c ≡ Nothing
  unfolding send_asks
  touch_none c k = rw (eq-eqb h.counts.account 0 k)

  touch_len : (c : Cursor) → c.envelope ≡ envelope_at g.area g.pool Command h.counts.send
      → send_asks g.bits (with_sender h (Sending H.Length c)) H.Length c ≡ Write (addr g (env_word Command h.counts.send 0)) c.size
  unfolding send_asks
  touch_len c e = rw e (ap (λ (k : ℕ). Write k c.size) (omega arith))

  touch_head : (c : Cursor) → c.envelope ≡ envelope_at g.area g.pool Command h.counts.send
      → send_asks g.bits (with_sender h (Sending H.Header c)) H.Header c ≡ Write (addr g (env_word Command h.counts.send 2)) 0
  unfolding send_asks
  touch_head c e = rw e

  touch_text : (c : Cursor) → c.envelope ≡ envelope_at g.area g.pool Command h.counts.send
      → send_asks g.bits (with_sender h (Sending H.Text c)) H.Text c ≡ Write (addr g (env_word Command h.counts.send (4 + 2 * c.at))) (word_of h.outgoing c.size c.at)
  unfolding send_asks
  touch_text c e = rw e (ap (λ (k : ℕ). Write k (word_of h.outgoing c.size c.at)) (omega arith))

  touch_low : (c : Cursor) → h.area ≡ g.area → c.envelope ≡ envelope_at g.area g.pool Command h.counts.send → c.slot ≡ h.counts.send
      → send_asks g.bits (with_sender h (Sending H.Closing c)) H.Closing c
      ≡ Write (addr g (slot_word Command h.counts.send 0)) (low_word (envelope_at g.area g.pool Command h.counts.send + 4))
  unfolding send_asks
  touch_low c a e s = rw (a, e, s) (ap (λ (k : ℕ). Write k (low_word (envelope_at g.area g.pool Command h.counts.send + 4))) (omega arith))

  touch_give : (c : Cursor) → h.area ≡ g.area → c.envelope ≡ envelope_at g.area g.pool Command h.counts.send → c.slot ≡ h.counts.send
      → send_asks g.bits (with_sender h (Sending H.Release c)) H.Release c
      ≡ Write (addr g (slot_word Command h.counts.send 2))
      (high_word true h.asked.flag (with_address g.bits c.high (envelope_at g.area g.pool Command h.counts.send + 4)))
  unfolding send_asks
  touch_give c a e s = rw (a, e, s)

  -- the invariant after a step of this side
  module _ (snd : Sender) (I : Inv g end b (world (with_sender h snd) p m) x) where
    ready : is_ready h ≡ true
    unfolding is_ready
    ready = rw (I.agreed.host_runs, I.agreed.host_ready)

    here : h.counts.send < slots g.area Command
    here = rw I.commands.giver (slot_lt g Command (length x.sent))

    there : p.counts.post < slots g.area Response
    there = rw I.responses.giver (slot_lt g Response (length x.posted))

    with_send : (snd' : Sender) → SendInv g (view g m) (with_sender h snd') x snd' → Inv g end b (world (with_sender h snd') p m) x
    with_send snd' new =
        record {
          agreed = I.agreed;
          size = I.size;
          commands = I.commands;
          responses = I.responses;
          send = new;
          take = take_frame g (with_sender h snd) (with_sender h snd') x x h.taker refl refl refl refl (omega arith) (λ k. refl) I.take;
          fetch = I.fetch;
          post = I.post;
          sum = I.sum;
        }

    -- a word of the own envelope was written
    with_env : (snd' : Sender) (o v : ℕ) → o + 2 ≤ 64 → length x.sent < x.fetched + slots g.area Command
        → SendInv g (view g (with_word g.bits m (addr g (env_word Command h.counts.send o)) v)) (with_sender h snd') x snd'
        → Inv g end b (world (with_sender h snd') p (with_word g.bits m (addr g (env_word Command h.counts.send o)) v)) x
    with_env snd' o v l room new =
        record {
          agreed = I.agreed;
          size = size_kept g end m (addr g (env_word Command h.counts.send o)) v I.size;
          commands = quiet_giver g end F m I.size Command h.counts.send p.counts.fetch x.sent x.fetched x.fetched I.commands o v room l;
          responses = quiet_env g end F m I.size Response p.counts.post h.counts.take x.posted x.taken _ I.responses Command h.counts.send o v (λ s. rings) (here, l);
          send = new;
          take = take_frame g (with_sender h snd) (with_sender h snd') x x h.taker refl refl refl refl (omega arith) (λ k. refl) I.take;
          fetch = I.fetch;
          post = post_frame g (view g m) (view g (with_word g.bits m (addr g (env_word Command h.counts.send o)) v)) p p x x p.poster refl refl refl refl (omega arith) refl refl (omega arith)
              (λ r k u. kept g end F m I.size (env_word Command h.counts.send o) (env_word Response p.counts.post k) v
              (envs_far g end F Command h.counts.send o Response p.counts.post k (here, l) (there, u) rings))
              I.post;
          sum = I.sum;
        }

    -- the low word was written again: it holds what it held
    low_same : (v : ℕ) → v ≡ low_word (envelope_at g.area g.pool Command h.counts.send + 4)
        → RingInv g (view g (with_word g.bits m (addr g (slot_word Command h.counts.send 0)) v)) Command h.counts.send p.counts.fetch x.sent x.fetched x.fetched
    low_same v e =
        quiet g Command (view g m) (view g (with_word g.bits m (addr g (slot_word Command h.counts.send 0)) v)) h.counts.send p.counts.fetch x.sent x.fetched x.fetched I.commands
        (λ s l.
        elim (same_or_not h.counts.send s) [
          | inl q ↦ rw (← q) (stored g end F m I.size (slot_word Command h.counts.send 0) v (here, omega arith) (omega (arith, low_lt (envelope_at g.area g.pool Command h.counts.send + 4))) ∙ e ∙ sym (I.commands.lows h.counts.send here))
          | inr d ↦ kept g end F m I.size (slot_word Command h.counts.send 0) (slot_word Command s 0) v (slots_far g end F Command h.counts.send 0 Command s 0 (here, omega arith) (l, omega arith) (slots_apart d))
        ])
        (λ s l.
        elim (same_or_not h.counts.send s) [
          | inl q ↦ rw (← q) (kept g end F m I.size (slot_word Command h.counts.send 0) (slot_word Command h.counts.send 2) v (words_far g end F Command h.counts.send 0 2 (omega arith)))
          | inr d ↦ kept g end F m I.size (slot_word Command h.counts.send 0) (slot_word Command s 2) v (slots_far g end F Command h.counts.send 0 Command s 2 (here, omega arith) (l, omega arith) (slots_apart d))
        ])
        (λ c a u o k. kept g end F m I.size (slot_word Command h.counts.send 0) (env_word Command (c % slots g.area Command) o) v
        (slot_env g end F Command h.counts.send 0 Command (c % slots g.area Command) o (here, omega arith) (slot_lt g Command c, k)))

    -- a word of the own slot was written, the command ring being what it then is
    with_slot : (h' : Host) (x' : Past) (o v : ℕ) → o ≤ 2 → h'.area ≡ h.area → h'.pool ≡ h.pool → h'.shake ≡ h.shake → h'.ready ≡ h.ready
        → h'.counts.take ≡ h.counts.take → h'.taker ≡ h.taker → h'.incoming ≡ h.incoming → h'.credits ≡ h.credits
        → x'.fetched ≡ x.fetched → x'.posted ≡ x.posted → x'.taken ≡ x.taken → x'.posting ≡ x.posting → x'.holding ≡ x.holding
        → length x.sent ≤ length x'.sent → (x.fetched < length x.sent → get_or x.sent x.fetched blank ≡ get_or x'.sent x'.fetched blank)
        → RingInv g (view g (with_word g.bits m (addr g (slot_word Command h.counts.send o)) v)) Command h'.counts.send p.counts.fetch x'.sent x'.fetched x'.fetched
        → SendInv g (view g (with_word g.bits m (addr g (slot_word Command h.counts.send o)) v)) h' x' h'.sender
        → h'.counts.account + (length (drop x'.fetched x'.sent) + p.counts.unanswered) + credits_in (drop x'.taken x'.posted) + p.counts.owed ≡ b.limit
        → Inv g end b (world h' p (with_word g.bits m (addr g (slot_word Command h.counts.send o)) v)) x'
    with_slot h' x' o v l a q sh rd ti tk inc cre fe po ta pg ho more nx ring new sum' =
        record {
          agreed =
              record {
                host_area = a ∙ I.agreed.host_area;
                host_pool = q ∙ I.agreed.host_pool;
                host_runs = sh ∙ I.agreed.host_runs;
                host_ready = rd ∙ I.agreed.host_ready;
                go = I.agreed.go;
                port_runs = I.agreed.port_runs;
                limit = I.agreed.limit;
              };
          size = size_kept g end m (addr g (slot_word Command h.counts.send o)) v I.size;
          commands = ring;
          responses = rw (ti, tk, po, ta)
              (quiet_slot g end F m I.size Response p.counts.post h.counts.take x.posted x.taken _ I.responses Command h.counts.send o v (λ s. rings) (here, l));
          send = new;
          take = subst (λ (y : Taker). TakeInv g h' x' y) (sym tk) (take_frame g (with_sender h snd) h' x x' h.taker (sym ti) (sym inc) (sym cre) (sym ta) (rw po (omega arith)) (λ k. ap (λ (y : List Entry). get_or y x.taken blank) (sym po) ∙ ap (λ (y : ℕ). get_or x'.posted y blank) (sym ta)) I.take);
          fetch = fetch_frame g p p x x' p.fetcher refl refl (sym ho) (sym fe) more nx I.fetch;
          post = post_frame g (view g m) (view g (with_word g.bits m (addr g (slot_word Command h.counts.send o)) v)) p p x x' p.poster refl refl refl refl (omega arith) (sym pg) (sym po) (omega (arith, ta))
              (λ r k u. kept g end F m I.size (slot_word Command h.counts.send o) (env_word Response p.counts.post k) v
              (slot_env g end F Command h.counts.send o Response p.counts.post k (here, l) (there, u)))
              I.post;
          sum = sum';
        }

  -- the side's stages
  going_sim : (snd snd' : Sender) (t : List ℕ) (m' : Memory) (d : Did) → Rattle.fact_traffic.specs.Invariant.send_job x.sending snd ≡ Rattle.fact_traffic.specs.Play.waiting (sends x.sending)
      → Rattle.fact_traffic.specs.Invariant.send_job x.sending snd' ≡ Rattle.fact_traffic.specs.Play.waiting (sends x.sending)
      → d ≡ by_host (world (with_sender h snd) p m) (with_memory (onward (with_sender h snd')) m')
      → Inv g end b (world (with_sender h snd') p m') x
      → Sim g end b step_send (world (with_sender h snd) p m) x d
  going_sim snd snd' t m' d j j' e I' =
      subst (λ (y : Did). Sim g end b step_send (world (with_sender h snd) p m) x y) (sym e)
      record { moment = later; past = x; inv = I'; same = rw (j, j'); ran = λ l r. r; calm = refl; timed = λ k j u v. refl; fetch_counted = λ k u. u; post_counted = λ k u. u }

  no_send : Inv g end b (world (with_sender h NoSend) p m) x → Sim g end b step_send (world (with_sender h NoSend) p m) x (by_host (world (with_sender h NoSend) p m) (send_step g.bits (with_sender h NoSend) m))
  no_send I =
      sim_of g end b step_send (world (with_sender h NoSend) p m) x (by_host (world (with_sender h NoSend) p m)) (send_idle g.bits h m (ready NoSend I))
      record { moment = now; past = x; inv = I; same = refl; ran = λ l r. r; calm = refl; timed = λ k j u v. refl; fetch_counted = λ k u. u; post_counted = λ k u. u }

  -- the own slot's high word is read
  look : (c : Cursor) → Inv g end b (world (with_sender h (Sending H.High c)) p m) x
      → Sim g end b step_send (world (with_sender h (Sending H.High c)) p m) x (by_host (world (with_sender h (Sending H.High c)) p m) (send_step g.bits (with_sender h (Sending H.High c)) m))
  look c I =
      elim (same_or_not h.counts.account 0) [
        | inl z ↦ broke z
        | inr z ↦ by (is_set owner (view g m (slot_word Command c.slot 2))) refl z
      ]
    where
      w : World
      w = world (with_sender h (Sending H.High c)) p m

      j : c.slot ≡ h.counts.send
      j = I.send.slot

      valid : c.slot < slots g.area Command
      valid = rw j (here (Sending H.High c) I)

      after_refusal : Inv g end b (world (with_sender h NoSend) p m) x
      after_refusal = with_send (Sending H.High c) I NoSend tt

      broke : h.counts.account ≡ 0 → Sim g end b step_send w x (by_host w (send_step g.bits (with_sender h (Sending H.High c)) m))
      broke z =
          sim_of g end b step_send w x (by_host w)
          (send_at g.bits h m H.High c Nothing 0 (ready (Sending H.High c) I) (touch_none c z) refl ∙ look_5 g.bits h m c 0 z)
          record {
            moment = now;
            past = x;
            inv = after_refusal;
            same = rw (send_5 b (plain_of w x) x.sending z);
            ran = ran_does b (plain_of w x) (sends x.sending) tt _ (send_5 b (plain_of w x) x.sending z);
            calm = refl;
            timed = λ k j u v. refl;
            fetch_counted = λ k u. u;
            post_counted = λ k u. u;
          }

      step : (h.counts.account ≡ 0 → ⊥) → send_step g.bits (with_sender h (Sending H.High c)) m ≡ with_memory (send_high (with_sender h (Sending H.High c)) c (view g m (slot_word Command c.slot 2))) m
      step z =
          send_at g.bits h m H.High c (Read (addr g (slot_word Command c.slot 2))) (view g m (slot_word Command c.slot 2)) (ready (Sending H.High c) I)
          (touch_look c I.agreed.host_area z) (reads g end F m I.size (slot_word Command c.slot 2) (valid, omega arith))

      by : (o : Bool) → is_set owner (view g m (slot_word Command c.slot 2)) ≡ o → (h.counts.account ≡ 0 → ⊥) → Sim g end b step_send w x (by_host w (send_step g.bits (with_sender h (Sending H.High c)) m))
      by true e z =
          let full : length x.sent ≡ x.fetched + slots g.area Command =
          giver_full g Command (view g m) (view g m) h.counts.send p.counts.fetch x.sent x.fetched x.fetched I.commands (rw (← j) e) in
          let q : b.commands ≤ length (drop x.fetched x.sent) = omega (arith, S.command_slots, left_length x.sent x.fetched 0 (omega arith)) in
          sim_of g end b step_send w x (by_host w) (step z ∙ look_6 h m c (view g m (slot_word Command c.slot 2)) z e)
          record {
            moment = now;
            past = x;
            inv = after_refusal;
            same = rw (send_6 b (plain_of w x) x.sending z q);
            ran = ran_does b (plain_of w x) (sends x.sending) tt _ (send_6 b (plain_of w x) x.sending z q);
            calm = refl;
            timed = λ k j u v. refl;
            fetch_counted = λ k u. u;
            post_counted = λ k u. u;
          }
      by false e z =
          let room : length x.sent < x.fetched + slots g.area Command =
          giver_room g Command (view g m) (view g m) h.counts.send p.counts.fetch x.sent x.fetched x.fetched I.commands (rw (← j) e) in
          sim_of g end b step_send w x (by_host w) (step z ∙ look_on h m c (view g m (slot_word Command c.slot 2)) z e)
          record {
            moment = later;
            past = x;
            inv =
                with_send (Sending H.High c) I (Sending H.Length (with_high c (view g m (slot_word Command c.slot 2))))
                record {
                  slot = j;
                  envelope = I.send.envelope;
                  size = I.send.size;
                  short = I.send.short;
                  bytes = I.send.bytes;
                  text = I.send.text;
                  progress = record { credit = omega (arith, z); room = room };
                };
            same = refl;
            ran = λ l r. r;
            calm = refl;
            timed = λ k j u v. refl;
            fetch_counted = λ k u. u;
            post_counted = λ k u. u;
          }

  -- the envelope is written: length, header, text
  length_step : (c : Cursor) → Inv g end b (world (with_sender h (Sending H.Length c)) p m) x
      → Sim g end b step_send (world (with_sender h (Sending H.Length c)) p m) x (by_host (world (with_sender h (Sending H.Length c)) p m) (send_step g.bits (with_sender h (Sending H.Length c)) m))
  length_step c I =
      sim_of g end b step_send (world (with_sender h (Sending H.Length c)) p m) x (by_host (world (with_sender h (Sending H.Length c)) p m))
      (send_at g.bits h m H.Length c (Write (addr g (env_word Command h.counts.send 0)) c.size) c.size (ready (Sending H.Length c) I)
      (touch_len c I.send.envelope) (writes g end F m I.size (env_word Command h.counts.send 0) c.size (here (Sending H.Length c) I, omega arith)))
      record {
        moment = later;
        past = x;
        inv =
            with_env (Sending H.Length c) I (Sending H.Header c) 0 c.size (omega arith) I.send.progress.room
            record {
              slot = I.send.slot;
              envelope = I.send.envelope;
              size = I.send.size;
              short = I.send.short;
              bytes = I.send.bytes;
              text = I.send.text;
              progress = (I.send.progress, rw I.send.slot (put_len g end F m I.size Command h.counts.send (here (Sending H.Length c) I) x.sending I.send.short c.size I.send.size));
            };
        same = refl;
        ran = λ l r. r;
        calm = refl;
        timed = λ k j u v. refl;
        fetch_counted = λ k u. u;
        post_counted = λ k u. u;
      }

  -- text word k next, or the low word
  on_sim : (s : SendStage) (c : Cursor) (k o v : ℕ) → o + 2 ≤ 64 → (I : Inv g end b (world (with_sender h (Sending s c)) p m) x) → MayGive g h.counts.account x
      → k ≤ words_of (length x.sending)
      → Written (view g (with_word g.bits m (addr g (env_word Command h.counts.send o)) v)) Command h.counts.send x.sending 0 k
      → send_step g.bits (with_sender h (Sending s c)) m
      ≡ with_memory (onward (with_sender h (text_or_closing c k))) (with_word g.bits m (addr g (env_word Command h.counts.send o)) v)
      → Sim g end b step_send (world (with_sender h (Sending s c)) p m) x (by_host (world (with_sender h (Sending s c)) p m) (send_step g.bits (with_sender h (Sending s c)) m))
  on_sim s c k o v l I M u W e =
      elim (lt_or_ge k (words_of c.size)) [
        | inl more ↦
            sim_of g end b step_send (world (with_sender h (Sending s c)) p m) x (by_host (world (with_sender h (Sending s c)) p m))
            (e ∙ ap (λ (y : Sender). with_memory (onward (with_sender h y)) (with_word g.bits m (addr g (env_word Command h.counts.send o)) v)) (on_text c k more))
            record {
              moment = later;
              past = x;
              inv = with_env (Sending s c) I (Sending H.Text (with_at c k)) o v l M.room
                  record {
                    slot = I.send.slot;
                    envelope = I.send.envelope;
                    size = I.send.size;
                    short = I.send.short;
                    bytes = I.send.bytes;
                    text = I.send.text;
                    progress = (M, (rw I.send.slot W, rw (← I.send.size) more));
                  };
              same = refl;
              ran = λ q r. r;
              calm = refl;
              timed = λ k j u v. refl;
              fetch_counted = λ k u. u;
              post_counted = λ k u. u;
            }
        | inr none ↦
            sim_of g end b step_send (world (with_sender h (Sending s c)) p m) x (by_host (world (with_sender h (Sending s c)) p m))
            (e ∙ ap (λ (y : Sender). with_memory (onward (with_sender h y)) (with_word g.bits m (addr g (env_word Command h.counts.send o)) v)) (on_low c k none))
            record {
              moment = later;
              past = x;
              inv = with_env (Sending s c) I (Sending H.Closing c) o v l M.room
                  record {
                    slot = I.send.slot;
                    envelope = I.send.envelope;
                    size = I.send.size;
                    short = I.send.short;
                    bytes = I.send.bytes;
                    text = I.send.text;
                    progress = (M, rw I.send.slot (subst (λ (y : ℕ). Written (view g (with_word g.bits m (addr g (env_word Command h.counts.send o)) v)) Command h.counts.send x.sending 0 y) (all none) W));
                  };
              same = refl;
              ran = λ q r. r;
              calm = refl;
              timed = λ k j u v. refl;
              fetch_counted = λ k u. u;
              post_counted = λ k u. u;
            }
      ]
    where
      all : words_of c.size ≤ k → k ≡ words_of (length x.sending)
      all none = omega (arith, ap words_of I.send.size)

  header_step : (c : Cursor) → Inv g end b (world (with_sender h (Sending H.Header c)) p m) x
      → Sim g end b step_send (world (with_sender h (Sending H.Header c)) p m) x (by_host (world (with_sender h (Sending H.Header c)) p m) (send_step g.bits (with_sender h (Sending H.Header c)) m))
  header_step c I =
      on_sim H.Header c 0 2 0 (omega arith) I I.send.progress.0 (omega arith)
      (put_head g end F m I.size Command h.counts.send (here (Sending H.Header c) I) x.sending I.send.short 0 0 refl (rw (← I.send.slot) I.send.progress.1))
      (send_at g.bits h m H.Header c (Write (addr g (env_word Command h.counts.send 2)) 0) 0 (ready (Sending H.Header c) I)
      (touch_head c I.send.envelope) (writes g end F m I.size (env_word Command h.counts.send 2) 0 (here (Sending H.Header c) I, omega arith)))

  text_step : (c : Cursor) → Inv g end b (world (with_sender h (Sending H.Text c)) p m) x
      → Sim g end b step_send (world (with_sender h (Sending H.Text c)) p m) x (by_host (world (with_sender h (Sending H.Text c)) p m) (send_step g.bits (with_sender h (Sending H.Text c)) m))
  text_step c I =
      let v : ℕ = word_of h.outgoing c.size c.at in
      let few : c.at < words_of (length x.sending) = I.send.progress.1.1 in
      on_sim H.Text c (c.at + 1) (4 + 2 * c.at) v (omega (arith, few, I.send.short)) I I.send.progress.0 (omega (arith, few))
      (put_word g end F m I.size Command h.counts.send (here (Sending H.Text c) I) x.sending I.send.short 0 c.at v I.send.bytes few
      (ap (λ (y : List ℕ). word_of y c.size c.at) I.send.text ∙ ap (λ (y : ℕ). word_of (padded x.sending) y c.at) I.send.size) (rw (← I.send.slot) I.send.progress.1.0))
      (send_at g.bits h m H.Text c (Write (addr g (env_word Command h.counts.send (4 + 2 * c.at))) v) v (ready (Sending H.Text c) I)
      (touch_text c I.send.envelope)
      (writes g end F m I.size (env_word Command h.counts.send (4 + 2 * c.at)) v (here (Sending H.Text c) I, omega (arith, few, I.send.short))))

  -- the low word, with the pool's address
  low_step : (c : Cursor) → Inv g end b (world (with_sender h (Sending H.Closing c)) p m) x
      → Sim g end b step_send (world (with_sender h (Sending H.Closing c)) p m) x (by_host (world (with_sender h (Sending H.Closing c)) p m) (send_step g.bits (with_sender h (Sending H.Closing c)) m))
  low_step c I =
      let i : ℕ = h.counts.send in
      let v : ℕ = low_word (envelope_at g.area g.pool Command i + 4) in
      let at : i < slots g.area Command = here (Sending H.Closing c) I in
      sim_of g end b step_send (world (with_sender h (Sending H.Closing c)) p m) x (by_host (world (with_sender h (Sending H.Closing c)) p m))
      (send_at g.bits h m H.Closing c (Write (addr g (slot_word Command i 0)) v) v (ready (Sending H.Closing c) I)
      (touch_low c I.agreed.host_area I.send.envelope I.send.slot) (writes g end F m I.size (slot_word Command i 0) v (at, omega arith)))
      record {
        moment = later;
        past = x;
        inv =
            with_slot (Sending H.Closing c) I (with_sender h (Sending H.Release c)) x 0 v (omega arith) refl refl refl refl refl refl refl refl refl refl refl refl refl (omega arith) (λ k. refl)
            (low_same (Sending H.Closing c) I v refl)
            record {
              slot = I.send.slot;
              envelope = I.send.envelope;
              size = I.send.size;
              short = I.send.short;
              bytes = I.send.bytes;
              text = I.send.text;
              progress = (
                I.send.progress.0,
                rw I.send.slot
                    (written_kept (view g m) (view g (with_word g.bits m (addr g (slot_word Command i 0)) v)) Command i x.sending 0 (words_of (length x.sending)) I.send.short (omega arith)
                    (λ o u. kept g end F m I.size (slot_word Command i 0) (env_word Command i o) v (slot_env g end F Command i 0 Command i o (at, omega arith) (at, u)))
                    (rw (← I.send.slot) I.send.progress.1)),
              );
            }
            I.sum;
        same = refl;
        ran = λ l r. r;
        calm = refl;
        timed = λ k j u v. refl;
        fetch_counted = λ k u. u;
        post_counted = λ k u. u;
      }

  -- the high word: the command is given
  abbrev given : Host
  given = with_sender (HostState.with_counts h (record { send = (h.counts.send + 1) % slots g.area Command; take = h.counts.take; account = h.counts.account - 1 })) NoSend

  abbrev one_more : Past
  one_more =
      record {
        sent = x.sent ++ (entry x.sending 0 ∷ []);
        fetched = x.fetched;
        posted = x.posted;
        taken = x.taken;
        sending = x.sending;
        posting = x.posting;
        holding = x.holding;
      }

  give_is : (c : Cursor) (k : Memory) → h.area ≡ g.area → c.slot ≡ h.counts.send
      → with_memory (send_finds (with_sender h (Sending H.Release c)) H.Release c 0) k ≡ with_memory (record { told = told done false; state = given }) k
  unfolding sent next_of
  give_is c k a s = rw (a, s)

  give_step : (c : Cursor) → Inv g end b (world (with_sender h (Sending H.Release c)) p m) x
      → Sim g end b step_send (world (with_sender h (Sending H.Release c)) p m) x (by_host (world (with_sender h (Sending H.Release c)) p m) (send_step g.bits (with_sender h (Sending H.Release c)) m))
  give_step c I =
      let i : ℕ = h.counts.send in
      let w : World = world (with_sender h (Sending H.Release c)) p m in
      let a : ℕ = envelope_at g.area g.pool Command i + 4 in
      let v : ℕ = high_word true h.asked.flag (with_address g.bits c.high a) in
      let at : i < slots g.area Command = here (Sending H.Release c) I in
      let m' : Memory = with_word g.bits m (addr g (slot_word Command i 2)) v in
      let M : MayGive g h.counts.account x = I.send.progress.0 in
      let none : (h.counts.account ≡ 0 → ⊥) = omega (arith, M.credit) in
      let R = I.commands in
      let le : x.fetched ≤ length x.sent = omega (arith, R.low, R.mid) in
      let room : length (drop x.fetched x.sent) < b.commands = omega (arith, S.command_slots, left_length x.sent x.fetched 0 le, M.room) in
      let done-it = send_ok b (plain_of w x) x.sending none room in
      let more : drop x.fetched (x.sent ++ (entry x.sending 0 ∷ [])) ≡ drop x.fetched x.sent ++ (entry x.sending 0 ∷ []) = left_more x.sent x.fetched (entry x.sending 0) le in
      sim_of g end b step_send w x (by_host w)
      (send_at g.bits h m H.Release c (Write (addr g (slot_word Command i 2)) v) v (ready (Sending H.Release c) I)
      (touch_give c I.agreed.host_area I.send.envelope I.send.slot) (writes g end F m I.size (slot_word Command i 2) v (at, omega arith))
      ∙ give_is c m' I.agreed.host_area I.send.slot)
      record {
        moment = now;
        past = one_more;
        inv =
            with_slot (Sending H.Release c) I given one_more 2 v (omega arith) refl refl refl refl refl refl refl refl refl refl refl refl refl (simp length-append (omega arith))
            (λ k. next_kept x.sent (entry x.sending 0) x.fetched k)
            (publish g Command (view g m) (view g m') i p.counts.fetch x.sent x.fetched x.fetched R v i
            (stored g end F m I.size (slot_word Command i 2) v (at, omega arith) (high_lt true h.asked.flag (with_address g.bits c.high a)))
            (high_upper g.bits true h.asked.flag (with_address g.bits c.high a) S.narrow ∙ with_upper g.bits c.high a ∙ upper_small g.bits a S.wide (low i at))
            (λ s l d. kept g end F m I.size (slot_word Command i 2) (slot_word Command s 2) v (slots_far g end F Command i 2 Command s 2 (at, omega arith) (l, omega arith) (slots_apart d)))
            (λ s l. lows s l)
            (λ s l o u. kept g end F m I.size (slot_word Command i 2) (env_word Command s o) v (slot_env g end F Command i 2 Command s o (at, omega arith) (l, u)))
            (entry x.sending 0) refl (high_owner true h.asked.flag (with_address g.bits c.high a)) M.room
            (letter (view g m) Command i x.sending 0 I.send.short I.send.bytes (omega arith) (rw (← I.send.slot) I.send.progress.1)))
            tt
            (rw more (simp length-append (omega (arith, I.sum, M.credit))));
        same = rw (done-it, more);
        ran = λ l r. subst (λ (y : List Entry). Ran b (noted b (sends x.sending) (does b (sends x.sending) (plain_of w x)).answer l) (record { commands = y; responses = drop x.taken x.posted; account = h.counts.account - 1; unanswered = p.counts.unanswered; owed = p.counts.owed })) (sym more)
            (ran_does b (plain_of w x) (sends x.sending) tt _ done-it l r);
        calm = refl;
        timed = λ k j u v. refl;
        fetch_counted = λ k u. u;
        post_counted = λ k u. u;
      }
    where
      low : (i : ℕ) → i < slots g.area Command → envelope_at g.area g.pool Command i + 4 < 2 ^ g.bits
      low i l = omega (arith, F.envelope_inside Command i l, S.end_low)

      lows : (s : ℕ) → s < slots g.area Command
          → view g (with_word g.bits m (addr g (slot_word Command h.counts.send 2)) (high_word true h.asked.flag (with_address g.bits c.high (envelope_at g.area g.pool Command h.counts.send + 4)))) (slot_word Command s 0)
          ≡ view g m (slot_word Command s 0)
      lows s l =
          let at : h.counts.send < slots g.area Command = here (Sending H.Release c) I in
          elim (same_or_not h.counts.send s) [
            | inl q ↦ rw (← q) (kept g end F m I.size (slot_word Command h.counts.send 2) (slot_word Command h.counts.send 0) _ (far_sym g (slot_word Command h.counts.send 0) (slot_word Command h.counts.send 2) (words_far g end F Command h.counts.send 0 2 (omega arith))))
            | inr d ↦ kept g end F m I.size (slot_word Command h.counts.send 2) (slot_word Command s 0) _ (slots_far g end F Command h.counts.send 2 Command s 0 (at, omega arith) (l, omega arith) (slots_apart d))
          ]

  -- every stage
  pub send_sim : (snd : Sender) → Inv g end b (world (with_sender h snd) p m) x
      → Sim g end b step_send (world (with_sender h snd) p m) x (by_host (world (with_sender h snd) p m) (send_step g.bits (with_sender h snd) m))
  send_sim NoSend I = no_send I
  send_sim (Sending H.High c) I = look c I
  send_sim (Sending H.Length c) I = length_step c I
  send_sim (Sending H.Header c) I = header_step c I
  send_sim (Sending H.Text c) I = text_step c I
  send_sim (Sending H.Closing c) I = low_step c I
  send_sim (Sending H.Release c) I = give_step c I
