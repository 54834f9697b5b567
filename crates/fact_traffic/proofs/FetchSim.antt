-- The fetch side's step, stage by stage. It takes effect where it writes the high word; its refusal where it looks; its answer is told
-- then, or at the end of its tail. Assumes nothing.
use Rattle.std.specs.Prelude.{Ok, Some}
use Prim.Native.Nat.{ℕ, suc, ◌+◌, ◌*◌, ◌-◌, ◌%◌, ◌<◌, ◌≤◌, min}
use mathlib.Core.Path.{◌≡◌, refl, sym, ap, ◌∙◌}
use mathlib.Core.Bool.{Bool, true, false}
use mathlib.Core.List.{List, [], ◌∷◌}
use mathlib.Core.Logic.{inl, inr}
use native.Mathlib.Omega.{arith}
use lib.ListN.{length, drop}
use borrow.Author.Tests.{lt-ltb, le-ltb, le-leb}
use Rattle.base_words.specs.Fields.{of, is_set, owner, flagged, connection, message_type}
use Rattle.base_words.specs.Words.{address_of, high_word}
use Rattle.base_texts.specs.Texts.{words_of, with_text}
use Rattle.base_memory.specs.Memory.{Memory, usable, with_word}
use Rattle.base_memory.specs.OneWord.{found, left}
use Rattle.base_memory.specs.declared.Touch.{Touch}
use Rattle.base_memory.specs.declared.Touch.TheVariants.{Read, Write}
use Rattle.base_answers.specs.Told.{carried}
use Rattle.base_rules.specs.Rules.{fault_of}
use Rattle.base_rules.proofs.Laws.{sound}
use Rattle.base_area.specs.Layout.{slots, next_of, before_of, envelope_at, has_vector}
use Rattle.base_area.specs.declared.Area.{Area}
use Rattle.base_area.specs.declared.Ring.TheVariants.{Command, Response}
use Rattle.fact_layout.specs.Facts.{rings, slots_apart, AreaFacts}
use Rattle.fact_layout.proofs.Rings.{lt_or_ge, same_or_not, every_layout}
use Rattle.fact_plain.specs.Plain.{Entry, Bounds}
use Rattle.fact_plain.specs.Log.{fetches}
use Rattle.base_side.specs.Step.{with_memory, onward}
use Rattle.port_state.specs.State.{with_fetcher, with_incoming, with_counts}
use Rattle.base_side.specs.Place.{with_high, with_envelope, with_size, with_at}
use Rattle.port_state.specs.Tail.{tail_start, tail_asks, test_follows, mark_follows, tail_follows}
use Rattle.port_state.specs.Fetch.{fetch_asks, fetch_high, fetch_low, fetch_header, fetch_text, fetched, fetch_release, fetch_finds, fetch_follows, fetch_tailed, fetch_step}
use Rattle.port_state.specs.Side.{refuse, text_or_release, port_step}
use Rattle.base_side.specs.declared.Cursor.{Cursor}
use Rattle.port_state.specs.declared.state.Stage.{Stage}
use Rattle.port_state.specs.declared.state.Stage.TheVariants as S
use Rattle.port_state.specs.declared.state.TailStage.{TailStage}
use Rattle.port_state.specs.declared.state.TailStage.TheVariants as E
use Rattle.port_state.specs.declared.state.Phase.TheVariants.{Running}
use Rattle.port_state.specs.declared.state.Side.{Side as Fetcher}
use Rattle.port_state.specs.declared.state.Side.TheVariants.{Idle as NoFetch, At as Fetching, Tail as FetchTail}
use Rattle.port_state.specs.declared.state.Port.{Port}
use Rattle.host_state.specs.declared.state.Host.{Host}
use Rattle.fact_traffic.specs.Places.{slot_word, env_word, mark_word, Site, addr, view}
use Rattle.fact_traffic.specs.Rings.{Letter}
use Rattle.fact_traffic.specs.Got.{Got}
use Rattle.fact_traffic.specs.World.{World, world, step_fetch, by_port}
use Rattle.fact_traffic.specs.Watch.{oldest_size}
use Rattle.fact_traffic.specs.Invariant.{Past, Found, next_command, FetchInv, Inv, Setting, plain_of}
use Rattle.fact_traffic.proofs.Place.{far_sym, slots_far, words_far, slot_env, reads, writes, stored, kept}
use Rattle.fact_traffic.proofs.RingLaws.{slot_lt, release, taker_some, taker_none}
use Rattle.fact_traffic.proofs.TextLaws.{got_none, got_more, got_all}
use Rattle.fact_traffic.proofs.Frames.{size_kept, quiet_slot, send_frame, post_frame}
use Rattle.fact_traffic.proofs.Marks.{marked, post_stays}
use Rattle.fact_traffic.proofs.PlainLaws.{fetch_7, fetch_ok, left_none, left_some}
use Rattle.fact_traffic.proofs.Sim.{Sim, steps_to, later, now, untold, not_yet, due, sim_of, ran_does}
use Rattle.fact_traffic.proofs.WordLaws.{high_owner, high_upper, high_lt, address_is, header_type, header_connection}

-- a step of a running port whose touch finds a word
fetch_at : (n : ℕ) (p : Port) (a : Area) (go : ℕ) (m : Memory) (s : Stage) (c : Cursor) (t : Touch) (v : ℕ) → p.phase ≡ Running a go → fetch_asks n a s c ≡ t → found n m t ≡ Some v
    → fetch_step n (with_fetcher p (Fetching s c)) m ≡ with_memory (fetch_finds n (with_fetcher p (Fetching s c)) a (usable n (length m)) s c v) (left n m t)
unfolding fetch_step fetch_follows port_step
fetch_at n p a go m s c t v r e f = rw (r, e, f)

tail_at : (n : ℕ) (p : Port) (a : Area) (go : ℕ) (m : Memory) (s : TailStage) (c : Cursor) (t : Touch) (v : ℕ) → p.phase ≡ Running a go → tail_asks n a Command s c ≡ t → found n m t ≡ Some v
    → fetch_step n (with_fetcher p (FetchTail s c)) m ≡ with_memory (fetch_tailed (with_fetcher p (FetchTail s c)) c (tail_follows a s (Some v))) (left n m t)
unfolding fetch_step port_step
tail_at n p a go m s c t v r e f = rw (r, e, f)

fetch_idle : (n : ℕ) (p : Port) (a : Area) (go : ℕ) (m : Memory) → p.phase ≡ Running a go → fetch_step n (with_fetcher p NoFetch) m ≡ with_memory (refuse (with_fetcher p NoFetch) Command 12) m
unfolding fetch_step port_step
fetch_idle n p a go m r = rw r

on_text : (c : Cursor) (k : ℕ) → k < words_of c.size → text_or_release c k ≡ Fetching S.Text (with_at c k)
unfolding text_or_release
on_text c k l = rw (lt-ltb k (words_of c.size) l)

on_release : (c : Cursor) (k : ℕ) → words_of c.size ≤ k → text_or_release c k ≡ Fetching S.Release c
unfolding text_or_release
on_release c k l = rw (le-ltb k (words_of c.size) l)

high_7 : (p : Port) (m : Memory) (c : Cursor) (v : ℕ) → is_set owner v ≡ false → with_memory (fetch_high (with_fetcher p (Fetching S.High c)) c v) m ≡ with_memory (refuse p Command 7) m
unfolding fetch_high
high_7 p m c v e = rw e

high_on : (p : Port) (m : Memory) (c : Cursor) (v : ℕ) → is_set owner v ≡ true
    → with_memory (fetch_high (with_fetcher p (Fetching S.High c)) c v) m ≡ with_memory (onward (with_fetcher p (Fetching S.Low (with_high c v)))) m
unfolding fetch_high
high_on p m c v e = rw e

low_on : (n : ℕ) (p : Port) (m : Memory) (end a e : ℕ) (c : Cursor) (v : ℕ) → address_of n v c.high ≡ a → 4 ≤ a → a ≤ end → a - 4 ≡ e
    → with_memory (fetch_low n (with_fetcher p (Fetching S.Low c)) end c v) m ≡ with_memory (onward (with_fetcher p (Fetching S.Length (with_envelope c e)))) m
unfolding fetch_low
low_on n p m end a e c v q l u d = rw (q, le-leb 4 a l, le-leb a end u, d)

header_on : (p : Port) (m : Memory) (end : ℕ) (c : Cursor) (v : ℕ) → (Ok tt) ≡ fault_of (of message_type v) (of connection v) c.size
    → c.envelope + 4 + 2 * words_of c.size ≤ end → p.counts.owed + p.counts.unanswered < p.made.limit
    → with_memory (fetch_header (with_fetcher p (Fetching S.Header c)) end c v) m ≡ with_memory (onward (with_fetcher p (text_or_release c 0))) m
unfolding fetch_header
header_on p m end c v e l u = rw (← e, le-leb (c.envelope + 4 + 2 * words_of c.size) end l, lt-ltb (p.counts.owed + p.counts.unanswered) p.made.limit u)

module _ (g : Site) (end : ℕ) (b : Bounds) (S' : Setting g end b) (h : Host) (p : Port) (m : Memory) (x : Past) where
  F : AreaFacts g.bits g.area g.pool end
  F = S'.facts

  touch_high : (c : Cursor) → c.slot ≡ p.counts.fetch → fetch_asks g.bits g.area S.High c ≡ Read (addr g (slot_word Command p.counts.fetch 2))
  unfolding fetch_asks
  touch_high c s = rw s

  touch_low : (c : Cursor) → c.slot ≡ p.counts.fetch → fetch_asks g.bits g.area S.Low c ≡ Read (addr g (slot_word Command p.counts.fetch 0))
  unfolding fetch_asks
  touch_low c s = rw s (ap Read (omega arith))

  touch_len : (c : Cursor) → c.slot ≡ p.counts.fetch → c.envelope ≡ envelope_at g.area g.pool Command c.slot → fetch_asks g.bits g.area S.Length c ≡ Read (addr g (env_word Command p.counts.fetch 0))
  unfolding fetch_asks
  touch_len c s e = rw (e, s) (ap Read (omega arith))

  touch_head : (c : Cursor) → c.slot ≡ p.counts.fetch → c.envelope ≡ envelope_at g.area g.pool Command c.slot → fetch_asks g.bits g.area S.Header c ≡ Read (addr g (env_word Command p.counts.fetch 2))
  unfolding fetch_asks
  touch_head c s e = rw (e, s)

  touch_text : (c : Cursor) → c.slot ≡ p.counts.fetch → c.envelope ≡ envelope_at g.area g.pool Command c.slot
      → fetch_asks g.bits g.area S.Text c ≡ Read (addr g (env_word Command p.counts.fetch (4 + 2 * c.at)))
  unfolding fetch_asks
  touch_text c s e = rw (e, s) (ap Read (omega arith))

  touch_release : (c : Cursor) → c.slot ≡ p.counts.fetch → fetch_asks g.bits g.area S.Release c ≡ Write (addr g (slot_word Command p.counts.fetch 2)) (high_word false true c.high)
  unfolding fetch_asks
  touch_release c s = rw s

  module _ (f : Fetcher) (I : Inv g end b (world h (with_fetcher p f) m) x) where
    here : p.counts.fetch < slots g.area Command
    here = rw I.commands.taker (slot_lt g Command x.fetched)

    -- memory is as it was; a text word may have been read
    with_fetch : (room : List ℕ) (f' : Fetcher) → FetchInv g (with_fetcher (with_incoming p room) f') x f' → Inv g end b (world h (with_fetcher (with_incoming p room) f') m) x
    with_fetch room f' new =
        record {
          agreed = I.agreed;
          size = I.size;
          commands = I.commands;
          responses = I.responses;
          send = I.send;
          take = I.take;
          fetch = new;
          post = post_frame g (view g m) (view g m) (with_fetcher p f) (with_fetcher (with_incoming p room) f') x x p.poster refl refl refl refl (omega arith) refl refl (omega arith) (λ r o l. refl) I.post;
          sum = I.sum;
        }

  no_fetch : Inv g end b (world h (with_fetcher p NoFetch) m) x → Sim g end b step_fetch (world h (with_fetcher p NoFetch) m) x (by_port (world h (with_fetcher p NoFetch) m) (fetch_step g.bits (with_fetcher p NoFetch) m))
  no_fetch I =
      sim_of g end b step_fetch (world h (with_fetcher p NoFetch) m) x (by_port (world h (with_fetcher p NoFetch) m)) (fetch_idle g.bits p g.area I.agreed.go m I.agreed.port_runs)
      record { moment = now; past = x; inv = I; same = refl; ran = λ l r. r; calm = refl; timed = λ k j u v. refl; fetch_counted = λ k u. u; post_counted = λ k u. u }

  high : (c : Cursor) → Inv g end b (world h (with_fetcher p (Fetching S.High c)) m) x
      → Sim g end b step_fetch (world h (with_fetcher p (Fetching S.High c)) m) x (by_port (world h (with_fetcher p (Fetching S.High c)) m) (fetch_step g.bits (with_fetcher p (Fetching S.High c)) m))
  high c I = by (is_set owner (view g m (slot_word Command p.counts.fetch 2))) refl
    where
      w : World
      w = world h (with_fetcher p (Fetching S.High c)) m

      word : ℕ
      word = view g m (slot_word Command p.counts.fetch 2)

      step : fetch_step g.bits (with_fetcher p (Fetching S.High c)) m ≡ with_memory (fetch_high (with_fetcher p (Fetching S.High c)) c word) m
      step =
          fetch_at g.bits p g.area I.agreed.go m S.High c (Read (addr g (slot_word Command p.counts.fetch 2))) word I.agreed.port_runs
          (touch_high c I.fetch.slot) (reads g end F m I.size (slot_word Command p.counts.fetch 2) (here (Fetching S.High c) I, omega arith))

      by : (o : Bool) → is_set owner word ≡ o → Sim g end b step_fetch w x (by_port w (fetch_step g.bits (with_fetcher p (Fetching S.High c)) m))
      by false e =
          let none : drop x.fetched x.sent ≡ [] =
          left_none x.sent x.fetched (taker_none g Command (view g m) (view g m) h.counts.send p.counts.fetch x.sent x.fetched x.fetched I.commands e) in
          sim_of g end b step_fetch w x (by_port w) (step ∙ high_7 p m c word e)
          record {
            moment = now;
            past = x;
            inv = with_fetch (Fetching S.High c) I p.incoming NoFetch tt;
            same = rw (fetch_7 b (plain_of w x) none);
            ran = ran_does b (plain_of w x) fetches tt _ (fetch_7 b (plain_of w x) none);
            calm = refl;
            timed = λ k j u v. refl;
            fetch_counted = λ k u. tt;
            post_counted = λ k u. u;
          }
      by true e =
          let some : x.fetched < length x.sent =
          taker_some g Command (view g m) (view g m) h.counts.send p.counts.fetch x.sent x.fetched x.fetched I.commands e in
          sim_of g end b step_fetch w x (by_port w) (step ∙ high_on p m c word e)
          record {
            moment = later;
            past = x;
            inv =
                with_fetch (Fetching S.High c) I p.incoming (Fetching S.Low (with_high c word))
                record {
                  slot = I.fetch.slot;
                  progress = (record { some = some; upper = rw I.fetch.slot (I.commands.highs p.counts.fetch (here (Fetching S.High c) I)) }, I.fetch.progress);
                };
            same = refl;
            ran = λ l r. r;
            calm = refl;
            timed = λ k j u v. not_yet k _ (omega (arith, u));
            fetch_counted = λ k u. ap suc u;
            post_counted = λ k u. u;
          }

  -- the letter that is being fetched
  fetching : (f : Fetcher) (I : Inv g end b (world h (with_fetcher p f) m) x) → x.fetched < length x.sent → Letter (view g m) Command p.counts.fetch (next_command x)
  fetching f I some = rw I.commands.taker (I.commands.kept x.fetched (omega arith) some)

  low : (c : Cursor) → Inv g end b (world h (with_fetcher p (Fetching S.Low c)) m) x
      → Sim g end b step_fetch (world h (with_fetcher p (Fetching S.Low c)) m) x (by_port (world h (with_fetcher p (Fetching S.Low c)) m) (fetch_step g.bits (with_fetcher p (Fetching S.Low c)) m))
  low c I =
      let i : ℕ = p.counts.fetch in
      let at : i < slots g.area Command = here (Fetching S.Low c) I in
      let v : ℕ = view g m (slot_word Command i 0) in
      let e : ℕ = envelope_at g.area g.pool Command i in
      let q : address_of g.bits v c.high ≡ e + 4 =
      ap (λ (k : ℕ). address_of g.bits k c.high) (I.commands.lows i at)
      ∙ address_is g.bits (e + 4) c.high (omega (arith, F.envelope_even Command i)) (rw (← I.fetch.slot) I.fetch.progress.0.upper) in
      sim_of g end b step_fetch (world h (with_fetcher p (Fetching S.Low c)) m) x (by_port (world h (with_fetcher p (Fetching S.Low c)) m))
      (fetch_at g.bits p g.area I.agreed.go m S.Low c (Read (addr g (slot_word Command i 0))) v I.agreed.port_runs
      (touch_low c I.fetch.slot) (reads g end F m I.size (slot_word Command i 0) (at, omega arith))
      ∙ low_on g.bits p m (usable g.bits (length m)) (e + 4) e c v q (omega arith) (omega (arith, F.envelope_inside Command i at, I.size)) (omega arith))
      record {
        moment = later;
        past = x;
        inv = with_fetch (Fetching S.Low c) I p.incoming (Fetching S.Length (with_envelope c e))
            record { slot = I.fetch.slot; progress = (I.fetch.progress.0, (I.fetch.progress.1, ap (λ (k : ℕ). envelope_at g.area g.pool Command k) (sym I.fetch.slot))) };
        same = refl;
        ran = λ l r. r;
        calm = refl;
        timed = λ k j u v. not_yet k _ (omega (arith, u));
        fetch_counted = λ k u. ap suc u;
        post_counted = λ k u. u;
      }

  len : (c : Cursor) → Inv g end b (world h (with_fetcher p (Fetching S.Length c)) m) x
      → Sim g end b step_fetch (world h (with_fetcher p (Fetching S.Length c)) m) x (by_port (world h (with_fetcher p (Fetching S.Length c)) m) (fetch_step g.bits (with_fetcher p (Fetching S.Length c)) m))
  len c I =
      let P = I.fetch.progress in
      let v : ℕ = view g m (env_word Command p.counts.fetch 0) in
      let L = fetching (Fetching S.Length c) I P.0.some in
      sim_of g end b step_fetch (world h (with_fetcher p (Fetching S.Length c)) m) x (by_port (world h (with_fetcher p (Fetching S.Length c)) m))
      (fetch_at g.bits p g.area I.agreed.go m S.Length c (Read (addr g (env_word Command p.counts.fetch 0))) v I.agreed.port_runs
      (touch_len c I.fetch.slot P.1.1) (reads g end F m I.size (env_word Command p.counts.fetch 0) (here (Fetching S.Length c) I, omega arith)))
      record {
        moment = later;
        past = x;
        inv = with_fetch (Fetching S.Length c) I p.incoming (Fetching S.Header (with_size c v))
            record { slot = I.fetch.slot; progress = (P.0, (P.1.0, (P.1.1, L.len))) };
        same = refl;
        ran = λ l r. r;
        calm = refl;
        timed = λ k j u v. not_yet k _ (omega (arith, u));
        fetch_counted = λ k u. ap suc u;
        post_counted = λ k u. u;
      }

  -- the oldest command in the queue is the one that is fetched
  oldest_size_lem : x.fetched < length x.sent → oldest_size (drop x.fetched x.sent) ≡ length (next_command x).text
  oldest_size_lem l = ap oldest_size (left_some x.sent x.fetched l)

  -- text word k next, or the release
  on_sim : (s : Stage) (c : Cursor) (room : List ℕ) (k : ℕ) → (I : Inv g end b (world h (with_fetcher p (Fetching s c)) m) x)
      → Found g Command c.slot c.high x.sent x.fetched → Got room (next_command x).text k → c.envelope ≡ envelope_at g.area g.pool Command c.slot
      → c.size ≡ length (next_command x).text → length (next_command x).text ≤ 60 → k ≤ words_of (length (next_command x).text) → steps_to s c ≡ 3 + k
      → fetch_step g.bits (with_fetcher p (Fetching s c)) m ≡ with_memory (onward (with_fetcher (with_incoming p room) (text_or_release c k))) m
      → Sim g end b step_fetch (world h (with_fetcher p (Fetching s c)) m) x (by_port (world h (with_fetcher p (Fetching s c)) m) (fetch_step g.bits (with_fetcher p (Fetching s c)) m))
  on_sim s c room k I fo gt en si sh le st e =
      elim (lt_or_ge k (words_of c.size)) [
        | inl more ↦
            sim_of g end b step_fetch (world h (with_fetcher p (Fetching s c)) m) x (by_port (world h (with_fetcher p (Fetching s c)) m))
            (e ∙ ap (λ (y : Fetcher). with_memory (onward (with_fetcher (with_incoming p room) y)) m) (on_text c k more))
            record {
              moment = later;
              past = x;
              inv = with_fetch (Fetching s c) I room (Fetching S.Text (with_at c k)) record { slot = I.fetch.slot; progress = (fo, (gt, (en, (si, rw (← si) more)))) };
              same = refl;
              ran = λ l r. r;
              calm = refl;
              timed = λ i j u v. not_yet i _ (omega (arith, u, st, le, ap words_of (oldest_size_lem fo.some)));
              fetch_counted = λ i u. omega (arith, u, st);
              post_counted = λ i u. u;
            }
        | inr none ↦
            sim_of g end b step_fetch (world h (with_fetcher p (Fetching s c)) m) x (by_port (world h (with_fetcher p (Fetching s c)) m))
            (e ∙ ap (λ (y : Fetcher). with_memory (onward (with_fetcher (with_incoming p room) y)) m) (on_release c k none))
            record {
              moment = later;
              past = x;
              inv = with_fetch (Fetching s c) I room (Fetching S.Release c) record { slot = I.fetch.slot; progress = (fo, (got_all room (next_command x).text k sh (rw (← si) none) gt, si)) };
              same = refl;
              ran = λ l r. r;
              calm = refl;
              timed = λ i j u v. not_yet i _ (omega (arith, u, st, le, ap words_of (oldest_size_lem fo.some)));
              fetch_counted = λ i u. omega (arith, u, st, none, le, ap words_of si);
              post_counted = λ i u. u;
            }
      ]

  -- a command in the ring means a credit out
  credit : (f : Fetcher) (I : Inv g end b (world h (with_fetcher p f) m) x) → x.fetched < length x.sent → p.counts.owed + p.counts.unanswered < p.made.limit
  credit f I some = omega (arith, I.sum, I.agreed.limit, ap (λ (y : List Entry). length y) (left_some x.sent x.fetched some))

  head : (c : Cursor) → Inv g end b (world h (with_fetcher p (Fetching S.Header c)) m) x
      → Sim g end b step_fetch (world h (with_fetcher p (Fetching S.Header c)) m) x (by_port (world h (with_fetcher p (Fetching S.Header c)) m) (fetch_step g.bits (with_fetcher p (Fetching S.Header c)) m))
  head c I =
      let P = I.fetch.progress in
      let i : ℕ = p.counts.fetch in
      let at : i < slots g.area Command = here (Fetching S.Header c) I in
      let v : ℕ = view g m (env_word Command i 2) in
      let L = fetching (Fetching S.Header c) I P.0.some in
      let si : c.size ≡ length (next_command x).text = P.1.1.1 in
      on_sim S.Header c p.incoming 0 I P.0 (rw P.1.0 (got_none (next_command x).text)) P.1.1.0 si L.short (omega arith) (omega arith)
      (fetch_at g.bits p g.area I.agreed.go m S.Header c (Read (addr g (env_word Command i 2))) v I.agreed.port_runs
      (touch_head c I.fetch.slot P.1.1.0) (reads g end F m I.size (env_word Command i 2) (at, omega arith))
      ∙ header_on p m (usable g.bits (length m)) c v
      (sound (of message_type v) (of connection v) c.size (ap (of message_type) L.head ∙ header_type (next_command x).credits) (ap (of connection) L.head ∙ header_connection (next_command x).credits) (rw si L.short))
      (rw (P.1.1.0, I.fetch.slot, si) (omega (arith, F.envelope_inside Command i at, I.size, L.short))) (credit (Fetching S.Header c) I P.0.some))

  text_is : (c : Cursor) (v k : ℕ) → with_memory (fetch_finds g.bits (with_fetcher p (Fetching S.Text c)) g.area k S.Text c v) m
      ≡ with_memory (onward (with_fetcher (with_incoming p (with_text p.incoming c.size c.at v)) (text_or_release c (c.at + 1)))) m
  unfolding fetch_text
  text_is c v k = refl

  text : (c : Cursor) → Inv g end b (world h (with_fetcher p (Fetching S.Text c)) m) x
      → Sim g end b step_fetch (world h (with_fetcher p (Fetching S.Text c)) m) x (by_port (world h (with_fetcher p (Fetching S.Text c)) m) (fetch_step g.bits (with_fetcher p (Fetching S.Text c)) m))
  text c I =
      let P = I.fetch.progress in
      let few : c.at < words_of (length (next_command x).text) = P.1.1.1.1 in
      let L = fetching (Fetching S.Text c) I P.0.some in
      let v : ℕ = view g m (env_word Command p.counts.fetch (4 + 2 * c.at)) in
      let t : List ℕ = (next_command x).text in
      on_sim S.Text c (with_text p.incoming c.size c.at v) (c.at + 1) I P.0
      (rw (P.1.1.1.0, L.words c.at few) (got_more p.incoming t c.at L.bytes L.short P.1.0 few)) P.1.1.0 P.1.1.1.0 L.short (omega (arith, few)) (omega arith)
      (fetch_at g.bits p g.area I.agreed.go m S.Text c (Read (addr g (env_word Command p.counts.fetch (4 + 2 * c.at)))) v I.agreed.port_runs
      (touch_text c I.fetch.slot P.1.1.0)
      (reads g end F m I.size (env_word Command p.counts.fetch (4 + 2 * c.at)) (here (Fetching S.Text c) I, omega (arith, few, L.short)))
      ∙ text_is c v (usable g.bits (length m)))

  -- the high word: the slot is the host's again, and the command is open
  abbrev counted : Port
  counted =
      with_counts p (record { fetch = (p.counts.fetch + 1) % slots g.area Command; post = p.counts.post; owed = p.counts.owed; unanswered = p.counts.unanswered + 1 })

  abbrev one_less : Past
  one_less =
      record {
        sent = x.sent;
        fetched = suc x.fetched;
        posted = x.posted;
        taken = x.taken;
        sending = x.sending;
        posting = x.posting;
        holding = (next_command x).text;
      }

  release_closes : (c : Cursor) (k : Memory) → c.slot ≡ p.counts.fetch → p.counts.unanswered + 1 ≤ 255 → is_set flagged c.high ≡ false
      → with_memory (fetch_release (with_fetcher p (Fetching S.Release c)) g.area c) k ≡ with_memory (record { told = carried c.size p.incoming false; state = with_fetcher counted NoFetch }) k
  unfolding fetch_release fetched next_of
  release_closes c k s l e = rw (e, s, least (p.counts.unanswered + 1) l)
    where
      least : (y : ℕ) → y ≤ 255 → min y 255 ≡ y
      least y u = omega arith

  release_goes : (c : Cursor) (k : Memory) → c.slot ≡ p.counts.fetch → p.counts.unanswered + 1 ≤ 255 → is_set flagged c.high ≡ true
      → with_memory (fetch_release (with_fetcher p (Fetching S.Release c)) g.area c) k
      ≡ with_memory (onward (with_fetcher counted (FetchTail (tail_start g.area Command) c))) k
  unfolding fetch_release fetched next_of
  release_goes c k s l e = rw (e, s, least (p.counts.unanswered + 1) l)
    where
      least : (y : ℕ) → y ≤ 255 → min y 255 ≡ y
      least y u = omega arith

  module _ (c : Cursor) (I : Inv g end b (world h (with_fetcher p (Fetching S.Release c)) m) x) where
    after : Memory
    after = with_word g.bits m (addr g (slot_word Command p.counts.fetch 2)) (high_word false true c.high)

    at : p.counts.fetch < slots g.area Command
    at = here (Fetching S.Release c) I

    post_in : p.counts.post < slots g.area Response
    post_in = rw I.responses.giver (slot_lt g Response (length x.posted))

    send_in : h.counts.send < slots g.area Command
    send_in = rw I.commands.giver (slot_lt g Command (length x.sent))

    some : x.fetched < length x.sent
    some = I.fetch.progress.0.some

    rest : drop x.fetched x.sent ≡ next_command x ∷ drop (suc x.fetched) x.sent
    rest = left_some x.sent x.fetched some

    few : p.counts.unanswered + 1 ≤ 255
    few = omega (arith, I.sum, S'.few, ap (λ (y : List Entry). length y) rest)

    step : fetch_step g.bits (with_fetcher p (Fetching S.Release c)) m ≡ with_memory (fetch_release (with_fetcher p (Fetching S.Release c)) g.area c) after
    unfolding after
    step =
        fetch_at g.bits p g.area I.agreed.go m S.Release c (Write (addr g (slot_word Command p.counts.fetch 2)) (high_word false true c.high)) (high_word false true c.high) I.agreed.port_runs
        (touch_release c I.fetch.slot) (writes g end F m I.size (slot_word Command p.counts.fetch 2) (high_word false true c.high) (at, omega arith))

    lows : (s : ℕ) → s < slots g.area Command → view g after (slot_word Command s 0) ≡ view g m (slot_word Command s 0)
    unfolding after
    lows s l =
        elim (same_or_not p.counts.fetch s) [
          | inl q ↦ rw (← q) (kept g end F m I.size (slot_word Command p.counts.fetch 2) (slot_word Command p.counts.fetch 0) (high_word false true c.high) (far_sym g (slot_word Command p.counts.fetch 0) (slot_word Command p.counts.fetch 2) (words_far g end F Command p.counts.fetch 0 2 (omega arith))))
          | inr d ↦ kept g end F m I.size (slot_word Command p.counts.fetch 2) (slot_word Command s 0) (high_word false true c.high) (slots_far g end F Command p.counts.fetch 2 Command s 0 (at, omega arith) (l, omega arith) (slots_apart d))
        ]

    released : (f' : Fetcher) → FetchInv g (with_fetcher counted f') one_less f' → Inv g end b (world h (with_fetcher counted f') after) one_less
    unfolding after
    released f' new =
        let i : ℕ = p.counts.fetch in
        let v : ℕ = high_word false true c.high in
        record {
          agreed = I.agreed;
          size = size_kept g end m (addr g (slot_word Command i 2)) v I.size;
          commands =
              release g Command (view g m) (view g (with_word g.bits m (addr g (slot_word Command i 2)) v)) h.counts.send i x.sent x.fetched x.fetched I.commands v i
              (stored g end F m I.size (slot_word Command i 2) v (at, omega arith) (high_lt false true c.high))
              (high_upper g.bits false true c.high S'.narrow ∙ rw (← I.fetch.slot) I.fetch.progress.0.upper)
              (λ s l d. kept g end F m I.size (slot_word Command i 2) (slot_word Command s 2) v (slots_far g end F Command i 2 Command s 2 (at, omega arith) (l, omega arith) (slots_apart d)))
              lows
              (λ s l o u. kept g end F m I.size (slot_word Command i 2) (env_word Command s o) v (slot_env g end F Command i 2 Command s o (at, omega arith) (l, u)))
              refl (high_owner false true c.high) some (omega arith);
          responses = quiet_slot g end F m I.size Response p.counts.post h.counts.take x.posted x.taken _ I.responses Command i 2 v (λ s. rings) (at, omega arith);
          send = send_frame g (view g m) (view g (with_word g.bits m (addr g (slot_word Command i 2)) v)) h h x one_less h.sender refl refl (omega arith) refl refl (omega arith)
              (λ o l. kept g end F m I.size (slot_word Command i 2) (env_word Command h.counts.send o) v (slot_env g end F Command i 2 Command h.counts.send o (at, omega arith) (send_in, l))) I.send;
          take = Rattle.fact_traffic.proofs.Frames.take_frame g h h x one_less h.taker refl refl refl refl (omega arith) (λ k. refl) I.take;
          fetch = new;
          post = post_frame g (view g m) (view g (with_word g.bits m (addr g (slot_word Command i 2)) v)) (with_fetcher p (Fetching S.Release c)) (with_fetcher counted f') x one_less p.poster refl refl refl refl (omega arith) refl refl (omega arith)
              (λ r o l. kept g end F m I.size (slot_word Command i 2) (env_word Response p.counts.post o) v (slot_env g end F Command i 2 Response p.counts.post o (at, omega arith) (post_in, l)))
              I.post;
          sum = omega (arith, I.sum, ap (λ (y : List Entry). length y) rest);
        }

    release_sim : Sim g end b step_fetch (world h (with_fetcher p (Fetching S.Release c)) m) x (by_port (world h (with_fetcher p (Fetching S.Release c)) m) (fetch_step g.bits (with_fetcher p (Fetching S.Release c)) m))
    release_sim = by (is_set flagged c.high) refl
      where
        w : World
        w = world h (with_fetcher p (Fetching S.Release c)) m

        by : (o : Bool) → is_set flagged c.high ≡ o → Sim g end b step_fetch w x (by_port w (fetch_step g.bits (with_fetcher p (Fetching S.Release c)) m))
        by false e =
            sim_of g end b step_fetch w x (by_port w) (step ∙ release_closes c after I.fetch.slot few e)
            record {
              moment = now;
              past = one_less;
              inv = released NoFetch tt;
              same = rw (fetch_ok b (plain_of w x) (next_command x) (drop (suc x.fetched) x.sent) rest, I.fetch.progress.1.0, I.fetch.progress.1.1);
              ran = ran_does b (plain_of w x) fetches tt _ (fetch_ok b (plain_of w x) (next_command x) (drop (suc x.fetched) x.sent) rest);
              calm = refl;
              timed = λ k j u v. refl;
              fetch_counted = λ k u. tt;
              post_counted = λ k u. u;
            }
        by true e =
            sim_of g end b step_fetch w x (by_port w) (step ∙ release_goes c after I.fetch.slot few e)
            record {
              moment = untold;
              past = one_less;
              inv = released (FetchTail (tail_start g.area Command) c)
                  record { slot = rw I.fetch.slot at; size = I.fetch.progress.1.1; text = I.fetch.progress.1.0 };
              same = rw (fetch_ok b (plain_of w x) (next_command x) (drop (suc x.fetched) x.sent) rest);
              ran = ran_does b (plain_of w x) fetches tt _ (fetch_ok b (plain_of w x) (next_command x) (drop (suc x.fetched) x.sent) rest);
              calm = refl;
              timed = λ k j u v. due k _ (u ∙ ap (λ (y : ℕ). 4 + words_of y) (I.fetch.progress.1.1 ∙ sym (oldest_size_lem some)));
              fetch_counted = λ k u. tt;
              post_counted = λ k u. u;
            }

  -- the tail: the previous slot's test, and the indicator
  touch_test : (c : Cursor) → tail_asks g.bits g.area Command E.Test c ≡ Read (addr g (slot_word Command (before_of g.area Command c.slot) 2))
  unfolding tail_asks
  touch_test c = refl

  touch_mark : (c : Cursor) → tail_asks g.bits g.area Command E.Mark c ≡ Write (addr g (mark_word Command)) 1
  unfolding tail_asks
  touch_mark c = F.indicator_at Command 1

  test_goes : (c : Cursor) (k : Memory) (v : ℕ) → is_set owner v ≡ true
      → with_memory (fetch_tailed (with_fetcher p (FetchTail E.Test c)) c (tail_follows g.area E.Test (Some v))) k ≡ with_memory (onward (with_fetcher p (FetchTail E.Mark c))) k
  unfolding fetch_tailed test_follows mark_follows
  test_goes c k v e = rw e

  test_closes : (c : Cursor) (k : Memory) (v : ℕ) → is_set owner v ≡ false
      → with_memory (fetch_tailed (with_fetcher p (FetchTail E.Test c)) c (tail_follows g.area E.Test (Some v))) k
      ≡ with_memory (record { told = carried c.size p.incoming false; state = with_fetcher p NoFetch }) k
  unfolding fetch_tailed test_follows mark_follows
  test_closes c k v e = rw e

  mark_closes : (c : Cursor) (k : Memory) (v : ℕ)
      → with_memory (fetch_tailed (with_fetcher p (FetchTail E.Mark c)) c (tail_follows g.area E.Mark (Some v))) k
      ≡ with_memory (record { told = carried c.size p.incoming (has_vector g.area.first); state = with_fetcher p NoFetch }) k
  unfolding fetch_tailed test_follows mark_follows
  mark_closes c k v = refl

  test : (c : Cursor) → Inv g end b (world h (with_fetcher p (FetchTail E.Test c)) m) x
      → Sim g end b step_fetch (world h (with_fetcher p (FetchTail E.Test c)) m) x (by_port (world h (with_fetcher p (FetchTail E.Test c)) m) (fetch_step g.bits (with_fetcher p (FetchTail E.Test c)) m))
  test c I = by (is_set owner (view g m (slot_word Command (before_of g.area Command c.slot) 2))) refl
    where
      w : World
      w = world h (with_fetcher p (FetchTail E.Test c)) m

      word : ℕ
      word = view g m (slot_word Command (before_of g.area Command c.slot) 2)

      step : fetch_step g.bits (with_fetcher p (FetchTail E.Test c)) m ≡ with_memory (fetch_tailed (with_fetcher p (FetchTail E.Test c)) c (tail_follows g.area E.Test (Some word))) m
      step =
          tail_at g.bits p g.area I.agreed.go m E.Test c (Read (addr g (slot_word Command (before_of g.area Command c.slot) 2))) word I.agreed.port_runs
          (touch_test c) (reads g end F m I.size (slot_word Command (before_of g.area Command c.slot) 2) ((every_layout.ring g.area Command).before_in c.slot I.fetch.slot, omega arith))

      by : (o : Bool) → is_set owner word ≡ o → Sim g end b step_fetch w x (by_port w (fetch_step g.bits (with_fetcher p (FetchTail E.Test c)) m))
      by true e =
          sim_of g end b step_fetch w x (by_port w) (step ∙ test_goes c m word e)
          record {
            moment = later;
            past = x;
            inv = with_fetch (FetchTail E.Test c) I p.incoming (FetchTail E.Mark c) record { slot = I.fetch.slot; size = I.fetch.size; text = I.fetch.text };
            same = refl;
            ran = λ l r. r;
            calm = refl;
            timed = λ k j u v. refl;
            fetch_counted = λ k u. tt;
            post_counted = λ k u. u;
          }
      by false e =
          sim_of g end b step_fetch w x (by_port w) (step ∙ test_closes c m word e)
          record {
            moment = now;
            past = x;
            inv = with_fetch (FetchTail E.Test c) I p.incoming NoFetch tt;
            same = rw (I.fetch.size, I.fetch.text);
            ran = λ l r. r;
            calm = refl;
            timed = λ k j u v. refl;
            fetch_counted = λ k u. tt;
            post_counted = λ k u. u;
          }

  mark : (c : Cursor) → Inv g end b (world h (with_fetcher p (FetchTail E.Mark c)) m) x
      → Sim g end b step_fetch (world h (with_fetcher p (FetchTail E.Mark c)) m) x (by_port (world h (with_fetcher p (FetchTail E.Mark c)) m) (fetch_step g.bits (with_fetcher p (FetchTail E.Mark c)) m))
  mark c I =
      let w : World = world h (with_fetcher p (FetchTail E.Mark c)) m in
      let m' : Memory = with_word g.bits m (addr g (mark_word Command)) 1 in
      sim_of g end b step_fetch w x (by_port w)
      (tail_at g.bits p g.area I.agreed.go m E.Mark c (Write (addr g (mark_word Command)) 1) 1 I.agreed.port_runs (touch_mark c) (writes g end F m I.size (mark_word Command) 1 tt)
      ∙ mark_closes c m' 1)
      record {
        moment = now;
        past = x;
        inv = marked g end b S' h p (FetchTail E.Mark c) p.poster m x I Command 1 NoFetch p.poster tt (post_stays g end b S' h p (FetchTail E.Mark c) p.poster m x I Command 1 NoFetch);
        same = rw (I.fetch.size, I.fetch.text);
        ran = λ l r. r;
        calm = refl;
        timed = λ k j u v. refl;
        fetch_counted = λ k u. tt;
        post_counted = λ k u. u;
      }

  -- every stage
  pub fetch_sim : (f : Fetcher) → Inv g end b (world h (with_fetcher p f) m) x
      → Sim g end b step_fetch (world h (with_fetcher p f) m) x (by_port (world h (with_fetcher p f) m) (fetch_step g.bits (with_fetcher p f) m))
  fetch_sim NoFetch I = no_fetch I
  fetch_sim (Fetching S.High c) I = high c I
  fetch_sim (Fetching S.Low c) I = low c I
  fetch_sim (Fetching S.Length c) I = len c I
  fetch_sim (Fetching S.Header c) I = head c I
  fetch_sim (Fetching S.Text c) I = text c I
  fetch_sim (Fetching S.Release c) I = release_sim c I
  fetch_sim (FetchTail E.Test c) I = test c I
  fetch_sim (FetchTail E.Mark c) I = mark c I
