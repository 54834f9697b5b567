-- One induction over the calls: owed + unanswered + granted is the limit + fetched; a fetch past its header has a credit, and an answer
-- under way an open command. Assumes nothing.
use Rattle.std.specs.Prelude.{Err, None, Ok, Option, Result, Some}
use Prim.Native.Nat.{ℕ, ◌+◌, ◌*◌, ◌-◌, ◌<◌, ◌≤◌, min}
use mathlib.Core.Path.{◌≡◌, refl, sym, subst, ◌∙◌}
use mathlib.Core.Bool.{Bool, true, false, cond, ◌&&◌, false≢true}
use mathlib.Core.List.{List, [], ◌∷◌}
use mathlib.Core.Logic.{inl, inr}
use native.Mathlib.Omega.{arith}
use lib.Dec.{leb, ltb, eqb}
use lib.ListN.{length}
use borrow.Author.Tests.{lt-ltb, le-ltb, ltb-true, leb-true, eqb-false}
use Rattle.base_words.specs.Fields.{of, is_set, owner, flagged, connection, message_type, one, wr, go as goBit}
use Rattle.base_words.specs.Words.{address_of}
use Rattle.base_texts.specs.Texts.{words_of, padded, zeros}
use Rattle.base_memory.specs.Memory.{Memory, usable, lies, inside, word_at, cleared}
use Rattle.base_memory.specs.OneWord.{found}
use Rattle.base_answers.specs.Told.{told, done, fatal}
use Rattle.base_answers.specs.declared.Fatal.{Fatal}
use Rattle.base_answers.specs.declared.Fatal.TheVariants.{EnvelopeRead, EnvelopeWrite, CreditLimit, InvalidConnection, Incompatible}
use Rattle.base_rules.specs.Rules.{carried_of, left_of, fault_of}
use Rattle.base_rules.proofs.Laws.{nothing_lost, carried_bounds}
use Rattle.base_area.specs.Layout.{area_lies, area_cleared, step_interrupt, slots, base, slot_at, next_of, has_vector}
use Rattle.base_area.specs.declared.Area.{Area}
use Rattle.base_area.specs.declared.Ring.TheVariants.{Command, Response}
use Rattle.base_side.specs.Place.{has_word, with_at, with_envelope, start_of}
use Rattle.base_side.specs.Step.{Next, onward, denied}
use Rattle.base_side.specs.declared.Cursor.{Cursor}
use Rattle.port_state.specs.State.{fail, serving_of, with_phase, with_fetcher, with_poster, with_outgoing, fresh, ended}
use Rattle.port_state.specs.Shake.{with_limit, moved, ignored, created, first_heard, heard, sa_written}
use Rattle.port_state.specs.Tail.{tail_start, tail_follows, tail_asks, test_follows, mark_follows}
use Rattle.port_state.specs.Side.{is_idle, text_or_release, port_step, port_begun}
use Rattle.port_state.specs.Fetch.{credit_out, fetch_closed, fetch_asks, fetch_high, fetch_low, header_sound, fetch_header, fetch_text, fetched, fetch_release, fetch_follows, fetch_tailed, fetch_step, fetch_begins, fetch_begun}
use Rattle.port_state.specs.Post.{credits_of, post_closed, post_asks, post_high, post_low, posted, post_release, post_follows, post_tailed, post_step, post_begins, post_begun}
use Rattle.port_state.specs.declared.state.Asked.{Asked}
use Rattle.port_state.specs.declared.state.Made.{Made}
use Rattle.port_state.specs.declared.state.Phase.{Phase}
use Rattle.port_state.specs.declared.state.Phase.TheVariants.{Step1, Wrap, Step2, Step3, Step4, Running, Failed}
use Rattle.port_state.specs.declared.state.Stage.TheVariants.{High, Low, Length, Header, Text, Release}
use Rattle.port_state.specs.declared.state.TailStage.{TailStage}
use Rattle.port_state.specs.declared.state.TailStage.TheVariants.{Test, Mark}
use Rattle.port_state.specs.Tail.{TailEnd}
use Rattle.port_state.specs.declared.state.Side.{Side}
use Rattle.port_state.specs.declared.state.Side.TheVariants.{Idle, At, Tail}
use Rattle.port_state.specs.declared.state.Port.{Port}
use Rattle.fact_layout.proofs.Rings.{lt_or_ge}
use Rattle.port_state.specs.Calls.{Call, writes_ip, writes_sa, begins_fetch, steps_fetch, begins_post, steps_post, after, played}
use Rattle.fact_credit.specs.Credit.{Ledger, opened, releasing, is_on, fetched_one, granted_by, noted, reckoned, code_of, Reckoned, EveryLedger, Happens}

-- a fetch that has passed its header has a credit; an answer under way has an open command
abbrev Ahead : ℕ → ℕ → Side → Type 0
Ahead k l Idle = Unit {0}
Ahead k l (At High c) = Unit {0}
Ahead k l (At Low c) = Unit {0}
Ahead k l (At Length c) = Unit {0}
Ahead k l (At Header c) = Unit {0}
Ahead k l (At Text c) = k < l
Ahead k l (At Release c) = k < l
Ahead k l (Tail s c) = Unit {0}

abbrev Due : Bool → ℕ → Side → Type 0
Due a u Idle = Unit {0}
Due a u (At s c) = a ≡ true → 1 ≤ u
Due a u (Tail s c) = Unit {0}

record Kept (p : Port) (l : Ledger) : Type 0 where
  sum : p.counts.owed + p.counts.unanswered + l.granted ≡ p.made.limit + l.fetched
  some : 1 ≤ p.made.limit
  most : p.made.limit ≤ 64
  ahead : Ahead (p.counts.owed + p.counts.unanswered) p.made.limit p.fetcher
  due : Due p.asked.answers p.counts.unanswered p.poster

ahead_less : (k k' l : ℕ) (x : Side) → k' ≤ k → Ahead k l x → Ahead k' l x
ahead_less k k' l Idle h a = tt
ahead_less k k' l (At High c) h a = tt
ahead_less k k' l (At Low c) h a = tt
ahead_less k k' l (At Length c) h a = tt
ahead_less k k' l (At Header c) h a = tt
ahead_less k k' l (At Text c) h a = omega (arith, h, a)
ahead_less k k' l (At Release c) h a = omega (arith, h, a)
ahead_less k k' l (Tail s c) h a = tt

due_more : (b : Bool) (u u' : ℕ) (x : Side) → u ≤ u' → Due b u x → Due b u' x
due_more b u u' Idle h d = tt
due_more b u u' (At s c) h d = λ e. omega (arith, h, d e)
due_more b u u' (Tail s c) h d = tt

-- text word k next, or the release
text_ahead : (c : Cursor) (k a l : ℕ) → a < l → Ahead a l (text_or_release c k)
unfolding text_or_release
text_ahead c k a l h = go (has_word c k)
  where
    go : (b : Bool) → Ahead a l (cond b (At Text (with_at c k)) (At Release c))
    go true = h
    go false = h

text_due : (c : Cursor) (k : ℕ) (a : Bool) (u : ℕ) → (a ≡ true → 1 ≤ u) → Due a u (text_or_release c k)
unfolding text_or_release
text_due c k a u h = go (has_word c k)
  where
    go : (b : Bool) → Due a u (cond b (At Text (with_at c k)) (At Release c))
    go true = h
    go false = h

module _ (p : Port) (l : Ledger) (K : Kept p l) where
  -- the record with some fields changed
  phase_to : (x : Phase) → Kept (with_phase p x) l
  phase_to x = record { sum = K.sum; some = K.some; most = K.most; ahead = K.ahead; due = K.due }

  fetch_to : (x : Side) → Ahead (p.counts.owed + p.counts.unanswered) p.made.limit x → Kept (with_fetcher p x) l
  fetch_to x a = record { sum = K.sum; some = K.some; most = K.most; ahead = a; due = K.due }

  post_to : (x : Side) → Due p.asked.answers p.counts.unanswered x → Kept (with_poster p x) l
  post_to x d = record { sum = K.sum; some = K.some; most = K.most; ahead = K.ahead; due = d }

  fails : (x : Fatal) → Kept (ended p x) l
  fails x = record { sum = K.sum; some = K.some; most = K.most; ahead = tt; due = tt }

  -- one of two
  either : (b : Bool) (x y : Next Port) → Kept x.state l → Kept y.state l → Kept (cond b x y).state l
  either true x y f g = f
  either false x y f g = g

  -- nothing was released
  never : (b : Bool) (q : Port) (x : Ledger) → Kept q l → Kept q (cond (b && false) x l)
  never true q x k = k
  never false q x k = k

  ---------------------------------------------------------------- the fetch side

  module _ (n : ℕ) (a : Area) (end : ℕ) (c : Cursor) where
    high_step : (w : Option ℕ) → Kept (fetch_follows n p a end High c w).state l
    unfolding fetch_follows fetch_high
    high_step None = fails _
    high_step (Some v) = either (is_set owner v) _ _ (fetch_to _ tt) (fetch_to _ tt)

    low_step : (w : Option ℕ) → Kept (fetch_follows n p a end Low c w).state l
    unfolding fetch_follows fetch_low
    low_step None = fails _
    low_step (Some v) =
        either (leb 4 (address_of n v c.high) && leb (address_of n v c.high) end)
        (onward (with_fetcher p (At Length (with_envelope c (address_of n v c.high - 4)))))
        (fail p EnvelopeRead)
        (fetch_to _ tt) (fails _)

    length_step : (w : Option ℕ) → Kept (fetch_follows n p a end Length c w).state l
    unfolding fetch_follows
    length_step None = fails _
    length_step (Some v) = fetch_to _ tt

    judged : (f : Result (Unit {0}) Fatal) → Kept (header_sound p end c f).state l
    judged (Err x) = fails x
    judged (Ok tt) =
        either (leb (c.envelope + 4 + 2 * words_of c.size) end)
        (cond (credit_out p) (onward (with_fetcher p (text_or_release c 0))) (fail p CreditLimit))
        (fail p EnvelopeRead)
        (credit (credit_out p) refl) (fails _)
      where
        credit : (b : Bool) → credit_out p ≡ b
            → Kept (cond b (onward (with_fetcher p (text_or_release c 0))) (fail p CreditLimit)).state l
        credit true e = fetch_to _ (text_ahead c 0 (p.counts.owed + p.counts.unanswered) p.made.limit (ltb-true (p.counts.owed + p.counts.unanswered) p.made.limit e))
        credit false e = fails _

    header_step : (w : Option ℕ) → Kept (fetch_follows n p a end Header c w).state l
    unfolding fetch_follows fetch_header
    header_step None = fails _
    header_step (Some v) = judged (fault_of (of message_type v) (of connection v) c.size)

    text_step : p.fetcher ≡ At Text c → (w : Option ℕ) → Kept (fetch_follows n p a end Text c w).state l
    unfolding fetch_follows fetch_text
    text_step e None = fails _
    text_step e (Some v) =
        let h : p.counts.owed + p.counts.unanswered < p.made.limit = subst (λ (x : Side). Ahead (p.counts.owed + p.counts.unanswered) p.made.limit x) e K.ahead in
        record { sum = K.sum; some = K.some; most = K.most; ahead = text_ahead c (c.at + 1) _ _ h; due = K.due }

    tail_step : (x : TailEnd) → Kept (fetch_tailed p c x).state l
    unfolding fetch_tailed
    tail_step (Ok None) = fetch_to _ tt
    tail_step (Ok (Some i)) = fetch_to _ tt
    tail_step (Err x) = fails x

    -- the release: one more command is fetched, and open
    fetched_kept : p.fetcher ≡ At Release c → (x : Side) → ((k m : ℕ) → Ahead k m x) → Kept (with_fetcher (fetched p a c) x) (fetched_one l)
    unfolding fetched
    fetched_kept e x t =
        let h : p.counts.owed + p.counts.unanswered < p.made.limit = subst (λ (y : Side). Ahead (p.counts.owed + p.counts.unanswered) p.made.limit y) e K.ahead in
        record {
          sum = omega (arith, h, K.sum, K.most);
          some = K.some;
          most = K.most;
          ahead = t _ _;
          due = due_more p.asked.answers p.counts.unanswered (min (p.counts.unanswered + 1) 255) p.poster (omega (arith, h, K.most)) K.due;
        }

    release_step : p.fetcher ≡ At Release c → serving_of p.phase ≡ Some a → (w : Option ℕ)
        → Kept (fetch_follows n p a end Release c w).state (cond (is_on (serving_of (fetch_follows n p a end Release c w).state.phase)) (fetched_one l) l)
    unfolding fetch_follows fetch_release fetched
    release_step e f None = fails _
    release_step e f (Some v) = go (is_set flagged c.high)
      where
        go : (b : Bool)
            → Kept
            (cond b (onward (with_fetcher (fetched p a c) (Tail (tail_start a Command) c))) (fetch_closed (fetched p a c) c false)).state
            (cond
            (is_on
            (serving_of
            (cond b (onward (with_fetcher (fetched p a c) (Tail (tail_start a Command) c))) (fetch_closed (fetched p a c) c false)).state.phase))
            (fetched_one l)
            l)
        go true = rw f (fetched_kept e (Tail (tail_start a Command) c) (λ k m. tt))
        go false = rw f (fetched_kept e Idle (λ k m. tt))

  -- a step of the fetch side, by what it finds
  fetch_case : (n : ℕ) (m : Memory) (x : Side) (s : Option Area) → p.fetcher ≡ x → serving_of p.phase ≡ s
      → Kept (port_step n p Command (fetch_asks n) (fetch_follows n p) (fetch_tailed p) m x s).state
      (cond (releasing x && (is_on s && is_on (serving_of (port_step n p Command (fetch_asks n) (fetch_follows n p) (fetch_tailed p) m x s).state.phase)))
      (fetched_one l) l)
  unfolding port_step
  fetch_case n m x None e f = never (releasing x) (with_fetcher p Idle) _ (fetch_to Idle tt)
  fetch_case n m Idle (Some a) e f = fetch_to Idle tt
  fetch_case n m (At High c) (Some a) e f = high_step n a (usable n (length m)) c (found n m (fetch_asks n a High c))
  fetch_case n m (At Low c) (Some a) e f = low_step n a (usable n (length m)) c (found n m (fetch_asks n a Low c))
  fetch_case n m (At Length c) (Some a) e f = length_step n a (usable n (length m)) c (found n m (fetch_asks n a Length c))
  fetch_case n m (At Header c) (Some a) e f = header_step n a (usable n (length m)) c (found n m (fetch_asks n a Header c))
  fetch_case n m (At Text c) (Some a) e f = text_step n a (usable n (length m)) c e (found n m (fetch_asks n a Text c))
  fetch_case n m (At Release c) (Some a) e f = release_step n a (usable n (length m)) c e f (found n m (fetch_asks n a Release c))
  fetch_case n m (Tail s c) (Some a) e f = tail_step n a (usable n (length m)) c (tail_follows a s (found n m (tail_asks n a Command s c)))

  ---------------------------------------------------------------- the post side

  module _ (n : ℕ) (a : Area) (end : ℕ) (c : Cursor) where
    high_post : Due p.asked.answers p.counts.unanswered (At High c) → (w : Option ℕ) → Kept (post_follows n p a end High c w).state l
    unfolding post_follows post_high
    high_post d None = fails _
    high_post d (Some v) = either (is_set owner v) _ _ (post_to _ d) (post_to _ tt)

    low_post : Due p.asked.answers p.counts.unanswered (At Low c) → (w : Option ℕ) → Kept (post_follows n p a end Low c w).state l
    unfolding post_follows post_low
    low_post d None = fails _
    low_post d (Some v) =
        either (leb 4 (address_of n v c.high) && leb (address_of n v c.high + 2 * words_of c.size) end)
        (onward (with_poster p (At Length (with_envelope c (address_of n v c.high - 4)))))
        (fail p EnvelopeWrite)
        (post_to _ d) (fails _)

    length_post : Due p.asked.answers p.counts.unanswered (At Length c) → (w : Option ℕ) → Kept (post_follows n p a end Length c w).state l
    unfolding post_follows
    length_post d None = fails _
    length_post d (Some v) = post_to _ d

    header_post : Due p.asked.answers p.counts.unanswered (At Header c) → (w : Option ℕ) → Kept (post_follows n p a end Header c w).state l
    unfolding post_follows
    header_post d None = fails _
    header_post d (Some v) = post_to _ (text_due c 0 p.asked.answers p.counts.unanswered d)

    text_post : Due p.asked.answers p.counts.unanswered (At Text c) → (w : Option ℕ) → Kept (post_follows n p a end Text c w).state l
    unfolding post_follows
    text_post d None = fails _
    text_post d (Some v) = post_to _ (text_due c (c.at + 1) p.asked.answers p.counts.unanswered d)

    tail_post : (x : TailEnd) → Kept (post_tailed p c x).state l
    unfolding post_tailed
    tail_post (Ok None) = post_to _ tt
    tail_post (Ok (Some i)) = post_to _ tt
    tail_post (Err x) = fails x

    -- the release: an answer closes a command and grants what it carries
    granted_sum : (b : Bool) (o u g k : ℕ) → (b ≡ true → 1 ≤ u) → o + u + g ≡ k → cond b (left_of o) o + cond b (u - 1) u + (g + cond b (carried_of o) 0) ≡ k
    granted_sum true o u g k d e = omega (arith, d refl, e, nothing_lost o)
    granted_sum false o u g k d e = omega (arith, e)

    granted_less : (b : Bool) (o u : ℕ) → cond b (left_of o) o + cond b (u - 1) u ≤ o + u
    granted_less true o u = omega (arith, nothing_lost o, (carried_bounds o).0)
    granted_less false o u = omega arith

    posted_kept : Due p.asked.answers p.counts.unanswered (At Release c) → (x : Side) → ((b : Bool) (u : ℕ) → Due b u x) → Kept (with_poster (posted p a c) x) (granted_by p l)
    unfolding posted credits_of
    posted_kept d x t =
        record {
          sum = omega (arith, granted_sum p.asked.answers p.counts.owed p.counts.unanswered l.granted (p.made.limit + l.fetched) d K.sum);
          some = K.some;
          most = K.most;
          ahead = ahead_less (p.counts.owed + p.counts.unanswered) _ p.made.limit p.fetcher (granted_less p.asked.answers p.counts.owed p.counts.unanswered) K.ahead;
          due = t _ _;
        }

    release_post : Due p.asked.answers p.counts.unanswered (At Release c) → serving_of p.phase ≡ Some a → (w : Option ℕ)
        → Kept (post_follows n p a end Release c w).state (cond (is_on (serving_of (post_follows n p a end Release c w).state.phase)) (granted_by p l) l)
    unfolding post_follows post_release posted
    release_post d f None = fails _
    release_post d f (Some v) = go (is_set flagged c.high)
      where
        go : (b : Bool)
            → Kept
            (cond b (onward (with_poster (posted p a c) (Tail (tail_start a Response) c))) (post_closed (posted p a c) false)).state
            (cond
            (is_on
            (serving_of
            (cond b (onward (with_poster (posted p a c) (Tail (tail_start a Response) c))) (post_closed (posted p a c) false)).state.phase))
            (granted_by p l)
            l)
        go true = rw f (posted_kept d (Tail (tail_start a Response) c) (λ b u. tt))
        go false = rw f (posted_kept d Idle (λ b u. tt))

  post_case : (n : ℕ) (m : Memory) (x : Side) (s : Option Area) → Due p.asked.answers p.counts.unanswered x → serving_of p.phase ≡ s
      → Kept (port_step n p Response (post_asks n p) (post_follows n p) (post_tailed p) m x s).state
      (cond (releasing x && (is_on s && is_on (serving_of (port_step n p Response (post_asks n p) (post_follows n p) (post_tailed p) m x s).state.phase)))
      (granted_by p l) l)
  unfolding port_step
  post_case n m x None d f = never (releasing x) (with_poster p Idle) _ (post_to Idle tt)
  post_case n m Idle (Some a) d f = post_to Idle tt
  post_case n m (At High c) (Some a) d f = high_post n a (usable n (length m)) c d (found n m (post_asks n p a High c))
  post_case n m (At Low c) (Some a) d f = low_post n a (usable n (length m)) c d (found n m (post_asks n p a Low c))
  post_case n m (At Length c) (Some a) d f = length_post n a (usable n (length m)) c d (found n m (post_asks n p a Length c))
  post_case n m (At Header c) (Some a) d f = header_post n a (usable n (length m)) c d (found n m (post_asks n p a Header c))
  post_case n m (At Text c) (Some a) d f = text_post n a (usable n (length m)) c d (found n m (post_asks n p a Text c))
  post_case n m (At Release c) (Some a) d f = release_post n a (usable n (length m)) c d f (found n m (post_asks n p a Release c))
  post_case n m (Tail s c) (Some a) d f = tail_post n a (usable n (length m)) c (tail_follows a s (found n m (tail_asks n a Response s c)))

  ---------------------------------------------------------------- the other calls

  one_of : (b : Bool) (x y : Port) → Kept x l → Kept y l → Kept (cond b x y) l
  one_of true x y f g = f
  one_of false x y f g = g

  heard_kept : (n : ℕ) (w : ℕ) (m : Memory) (x : Phase) → Kept (heard n p w m x).state l
  unfolding first_heard
  heard_kept n w m Step1 =
      either (is_set one w)
      (cond (is_set wr w && p.made.di) (moved p (Wrap w) false) (moved p (Step2 w) (step_interrupt w)))
      (ignored p)
      (either (is_set wr w && p.made.di) (moved p (Wrap w) false) (moved p (Step2 w) (step_interrupt w)) (phase_to (Wrap w)) (phase_to (Step2 w)))
      K
  heard_kept n w m (Wrap x) = phase_to _
  heard_kept n w m (Step2 f) = phase_to _
  heard_kept n w m (Step3 f s) = one_of (area_lies n m (record { first = f; second = s; third = w })) _ _ (phase_to _) (fails _)
  heard_kept n w m (Step4 a) = either (is_set goBit w) (moved p (Running a w) false) (ignored p) (phase_to (Running a w)) K
  heard_kept n w m (Running a x) = K
  heard_kept n w m (Failed x) = K

  fetch_begun_lem : (x : Side) (s : Option Area) → Kept (port_begun p (fetch_begins p) x s).state l
  unfolding port_begun
  fetch_begun_lem x None = K
  fetch_begun_lem x (Some a) = either (is_idle x) _ _ (record { sum = K.sum; some = K.some; most = K.most; ahead = tt; due = K.due }) K

  post_begun_lem : (y : Asked) (t : List ℕ) (x : Side) (s : Option Area) → Kept (port_begun p (post_begins p y t) x s).state l
  unfolding port_begun
  post_begun_lem y t x None = K
  post_begun_lem y t x (Some a) = either (is_idle x) _ _ (either (leb (length t) 60) _ _ (open_one (y.answers && eqb p.counts.unanswered 0) refl) K) K
    where
      has_one : (b : Bool) (u : ℕ) → (b && eqb u 0) ≡ false → b ≡ true → 1 ≤ u
      has_one true u e h = omega (arith, eqb-false u 0 e)
      has_one false u e h = absurd (false≢true h)

      open_one : (b : Bool) → (y.answers && eqb p.counts.unanswered 0) ≡ b
          → Kept
          (cond b (denied p 4) (onward (with_poster (with_outgoing p (padded t) y) (At High (start_of p.counts.post 0 (length t)))))).state l
      open_one true e = K
      open_one false e = record { sum = K.sum; some = K.some; most = K.most; ahead = K.ahead; due = has_one y.answers p.counts.unanswered e }

-- every call
kept : (n : ℕ) (c : Call) (p : Port) (l : Ledger) → Kept p l → Kept (after n c p) (noted c p (after n c p) l)
unfolding fetch_step post_step sa_written fetch_begun post_begun
kept n writes_ip p l K = record { sum = omega (arith, K.some); some = K.some; most = K.most; ahead = tt; due = tt }
kept n (writes_sa w m) p l K = heard_kept p l K n w m p.phase
kept n begins_fetch p l K = fetch_begun_lem p l K p.fetcher (serving_of p.phase)
kept n (steps_fetch m) p l K = fetch_case p l K n m p.fetcher (serving_of p.phase) refl refl
kept n (begins_post x t) p l K = post_begun_lem p l K x t p.poster (serving_of p.phase)
kept n (steps_post m) p l K = post_case p l K n m p.poster (serving_of p.phase) K.due refl

all_kept : (n : ℕ) (cs : List Call) (p : Port) (l : Ledger) → Kept p l → Kept (played n cs p) (reckoned n cs p l)
all_kept n [] p l K = K
all_kept n (c ∷ cs) p l K = all_kept n cs (after n c p) (noted c p (after n c p) l) (kept n c p l K)

-- creation
created_kept : (made : Made) → Kept (created made).state opened
unfolding created
created_kept made = go (leb 1 made.limit) refl (leb made.limit 64) refl
  where
    go : (b : Bool) → leb 1 made.limit ≡ b → (o : Bool) → leb made.limit 64 ≡ o
        → Kept (cond (b && o) (record { told = told done false; state = fresh made }) (denied (fresh (with_limit made 1)) 11)).state opened
    go true e true f = record { sum = omega (arith, leb-true 1 made.limit e); some = leb-true 1 made.limit e; most = leb-true made.limit 64 f; ahead = tt; due = tt }
    go true e false f = record { sum = refl; some = omega arith; most = omega arith; ahead = tt; due = tt }
    go false e o f = record { sum = refl; some = omega arith; most = omega arith; ahead = tt; due = tt }

---------------------------------------------------------------- fatal 10

out_is : (p : Port) (l : Ledger) → Kept p l → credit_out p ≡ ltb l.fetched l.granted
out_is p l K =
    elim (lt_or_ge l.fetched l.granted) [
      | inl h ↦ lt-ltb (p.counts.owed + p.counts.unanswered) p.made.limit (omega (arith, h, K.sum)) ∙ sym (lt-ltb l.fetched l.granted h)
      | inr h ↦ le-ltb (p.counts.owed + p.counts.unanswered) p.made.limit (omega (arith, h, K.sum)) ∙ sym (le-ltb l.fetched l.granted h)
    ]

comes_10 : (n : ℕ) (p : Port) (m : Memory) (a : Area) (c : Cursor) (v : ℕ) → serving_of p.phase ≡ Some a → p.fetcher ≡ At Header c
    → found n m (fetch_asks n a Header c) ≡ Some v → fault_of (of message_type v) (of connection v) c.size ≡ (Ok tt)
    → leb (c.envelope + 4 + 2 * words_of c.size) (usable n (length m)) ≡ true → credit_out p ≡ false → (fetch_step n p m).told ≡ told (fatal 10) false
unfolding fetch_step port_step fetch_follows fetch_header
comes_10 n p m a c v s e f g i o = rw (s, e, f, g, i, o)

abbrev Tells : Type 0 → Next Port → Type 0
Tells u o = code_of o.told.closing ≡ 10 → u

tells_either : (u : Type 0) (b : Bool) (x y : Next Port) → Tells u x → Tells u y → Tells u (cond b x y)
tells_either u true x y f g = f
tells_either u false x y f g = g

module _ (p : Port) (l : Ledger) (K : Kept p l) where
  abbrev Used : Type 0
  Used = l.granted ≤ l.fetched

  used_up : credit_out p ≡ false → Used
  used_up e =
      elim (lt_or_ge l.fetched l.granted) [
        | inl h ↦ absurd (false≢true (sym e ∙ out_is p l K ∙ lt-ltb l.fetched l.granted h))
        | inr h ↦ h
      ]

  module _ (n : ℕ) (a : Area) (end : ℕ) (c : Cursor) where
    judged_10 : (k o s : Bool)
        → Tells Used (header_sound p end c (cond k (cond o (cond s (Ok tt) (Err Incompatible)) (Err InvalidConnection)) (Err Incompatible)))
    judged_10 true true true =
        tells_either Used (leb (c.envelope + 4 + 2 * words_of c.size) end)
        (cond (credit_out p) (onward (with_fetcher p (text_or_release c 0))) (fail p CreditLimit))
        (fail p EnvelopeRead)
        (credit (credit_out p) refl) (λ e. absurd (omega (arith, e)))
      where
        credit : (b : Bool) → credit_out p ≡ b
            → Tells Used (cond b (onward (with_fetcher p (text_or_release c 0))) (fail p CreditLimit))
        credit true e = λ f. absurd (omega (arith, f))
        credit false e = λ f. used_up e
    judged_10 true true false = λ e. absurd (omega (arith, e))
    judged_10 true false s = λ e. absurd (omega (arith, e))
    judged_10 false o s = λ e. absurd (omega (arith, e))

    found_10 : (s : _) (w : Option ℕ) → Tells Used (fetch_follows n p a end s c w)
    unfolding fetch_follows fetch_high fetch_low fetch_header fetch_text fetch_release fault_of
    found_10 High None = λ e. absurd (omega (arith, e))
    found_10 High (Some v) = tells_either Used (is_set owner v) _ _ (λ e. absurd (omega (arith, e))) (λ e. absurd (omega (arith, e)))
    found_10 Low None = λ e. absurd (omega (arith, e))
    found_10 Low (Some v) =
        tells_either Used (leb 4 (address_of n v c.high) && leb (address_of n v c.high) end)
        (onward (with_fetcher p (At Length (with_envelope c (address_of n v c.high - 4)))))
        (fail p EnvelopeRead)
        (λ e. absurd (omega (arith, e))) (λ e. absurd (omega (arith, e)))
    found_10 Length None = λ e. absurd (omega (arith, e))
    found_10 Length (Some v) = λ e. absurd (omega (arith, e))
    found_10 Header None = λ e. absurd (omega (arith, e))
    found_10 Header (Some v) = judged_10 (eqb (of message_type v) 0) (eqb (of connection v) 0) (leb c.size 60)
    found_10 Text None = λ e. absurd (omega (arith, e))
    found_10 Text (Some v) = λ e. absurd (omega (arith, e))
    found_10 Release None = λ e. absurd (omega (arith, e))
    found_10 Release (Some v) = tells_either Used (is_set flagged c.high) _ _ (λ e. absurd (omega (arith, e))) (λ e. absurd (omega (arith, e)))

    tail_10 : (s : TailStage) (w : Option ℕ) → Tells Used (fetch_tailed p c (tail_follows a s w))
    unfolding test_follows mark_follows fetch_tailed
    tail_10 Test None = λ e. absurd (omega (arith, e))
    tail_10 Test (Some v) = go (is_set owner v)
      where
        go : (b : Bool) → Tells Used (fetch_tailed p c (cond b (Ok None) (Ok (Some false))))
        go true = λ e. absurd (omega (arith, e))
        go false = λ e. absurd (omega (arith, e))
    tail_10 Mark None = λ e. absurd (omega (arith, e))
    tail_10 Mark (Some v) = λ e. absurd (omega (arith, e))

  fetch_10 : (n : ℕ) (m : Memory) (x : Side) (s : Option Area)
      → code_of (port_step n p Command (fetch_asks n) (fetch_follows n p) (fetch_tailed p) m x s).told.closing ≡ 10 → Used
  unfolding port_step
  fetch_10 n m x None e = absurd (omega (arith, e))
  fetch_10 n m Idle (Some a) e = absurd (omega (arith, e))
  fetch_10 n m (At s c) (Some a) e = found_10 n a (usable n (length m)) c s (found n m (fetch_asks n a s c)) e
  fetch_10 n m (Tail s c) (Some a) e = tail_10 n a (usable n (length m)) c s (found n m (tail_asks n a Command s c)) e

  only_10 : (n : ℕ) (m : Memory) → code_of (fetch_step n p m).told.closing ≡ 10 → Used
  unfolding fetch_step
  only_10 n m e = fetch_10 n m p.fetcher (serving_of p.phase) e

-- a post never
module _ (p : Port) where
  module _ (n : ℕ) (a : Area) (end : ℕ) (c : Cursor) where
    posted_10 : (s : _) (w : Option ℕ) → Tells ⊥ (post_follows n p a end s c w)
    unfolding post_follows post_high post_low post_release
    posted_10 High None = λ e. omega (arith, e)
    posted_10 High (Some v) = tells_either ⊥ (is_set owner v) _ _ (λ e. omega (arith, e)) (λ e. omega (arith, e))
    posted_10 Low None = λ e. omega (arith, e)
    posted_10 Low (Some v) =
        tells_either ⊥ (leb 4 (address_of n v c.high) && leb (address_of n v c.high + 2 * words_of c.size) end)
        (onward (with_poster p (At Length (with_envelope c (address_of n v c.high - 4)))))
        (fail p EnvelopeWrite)
        (λ e. omega (arith, e)) (λ e. omega (arith, e))
    posted_10 Length None = λ e. omega (arith, e)
    posted_10 Length (Some v) = λ e. omega (arith, e)
    posted_10 Header None = λ e. omega (arith, e)
    posted_10 Header (Some v) = λ e. omega (arith, e)
    posted_10 Text None = λ e. omega (arith, e)
    posted_10 Text (Some v) = λ e. omega (arith, e)
    posted_10 Release None = λ e. omega (arith, e)
    posted_10 Release (Some v) = tells_either ⊥ (is_set flagged c.high) _ _ (λ e. omega (arith, e)) (λ e. omega (arith, e))

    post_tail_10 : (s : TailStage) (w : Option ℕ) → Tells ⊥ (post_tailed p c (tail_follows a s w))
    unfolding test_follows mark_follows post_tailed
    post_tail_10 Test None = λ e. omega (arith, e)
    post_tail_10 Test (Some v) = go (is_set owner v)
      where
        go : (b : Bool) → Tells ⊥ (post_tailed p c (cond b (Ok None) (Ok (Some false))))
        go true = λ e. omega (arith, e)
        go false = λ e. omega (arith, e)
    post_tail_10 Mark None = λ e. omega (arith, e)
    post_tail_10 Mark (Some v) = λ e. omega (arith, e)

  post_10 : (n : ℕ) (m : Memory) (x : Side) (s : Option Area)
      → code_of (port_step n p Response (post_asks n p) (post_follows n p) (post_tailed p) m x s).told.closing ≡ 10 → ⊥
  unfolding port_step
  post_10 n m x None e = omega (arith, e)
  post_10 n m Idle (Some a) e = omega (arith, e)
  post_10 n m (At s c) (Some a) e = posted_10 n a (usable n (length m)) c s (found n m (post_asks n p a s c)) e
  post_10 n m (Tail s c) (Some a) e = post_tail_10 n a (usable n (length m)) c s (found n m (tail_asks n a Response s c)) e

  never_10 : (n : ℕ) (m : Memory) → code_of (post_step n p m).told.closing ≡ 10 → ⊥
  unfolding post_step
  never_10 n m e = post_10 n m p.poster (serving_of p.phase) e

reckons : (n : ℕ) (p : Port) (l : Ledger) → Kept p l → Reckoned n p l
reckons n p l K =
    record {
      out = out_is p l K;
      comes = λ m a c v s e f g i h. comes_10 n p m a c v s e f g i (out_is p l K ∙ le-ltb l.fetched l.granted h);
      only = only_10 p l K n;
      no_post = never_10 p n;
    }

pub every_ledger : EveryLedger
every_ledger n made cs = reckons n _ _ (all_kept n cs (created made).state opened (created_kept made))

pub happens : Happens
unfolding created sa_written first_heard fetch_begun port_begun fetch_step port_step fetch_asks fetch_follows fetch_high fetch_low fetch_header fetch_release fetched text_or_release fault_of zeros usable lies cleared slots base slot_at next_of has_vector step_interrupt area_lies area_cleared word_at inside
happens = record { used = refl; told_10 = refl }
