-- A fetch that is stepped alone, stage by stage, tail included. Assumes nothing.
use Rattle.std.specs.Prelude.{None, Ok, Some}
use Prim.Native.Nat.{ℕ, ◌+◌, ◌*◌, ◌-◌, ◌<◌, ◌≤◌}
use mathlib.Core.Path.{◌≡◌, refl, ◌∙◌}
use mathlib.Core.Bool.{Bool, true, false, cond}
use mathlib.Core.List.{List}
use native.Mathlib.Omega.{arith}
use lib.ListN.{length}
use borrow.Author.Tests.{lt-ltb, le-ltb, le-leb}
use Rattle.base_words.specs.Fields.{of, is_set, owner, connection, message_type}
use Rattle.base_words.specs.Words.{address_of, high_word}
use Rattle.base_texts.specs.Texts.{zeros, words_of, with_text}
use Rattle.base_memory.specs.Memory.{Memory, usable, word_in, with_word}
use Rattle.base_memory.specs.OneWord.{found, left}
use Rattle.base_memory.proofs.Laws.{with_word_length}
use Rattle.base_answers.specs.Told.{told, carried, going}
use Rattle.base_rules.specs.Rules.{fault_of}
use Rattle.base_area.specs.Layout.{slot_at}
use Rattle.base_area.specs.declared.Area.{Area}
use Rattle.base_area.specs.declared.Ring.TheVariants.{Command}
use Rattle.port_state.specs.State.{serving_of, with_fetcher, with_incoming}
use Rattle.base_side.specs.Step.{Outcome, with_memory, onward}
use Rattle.base_side.specs.Place.{start_of, with_high, with_envelope, with_size, with_at}
use Rattle.port_state.specs.Tail.{tail_asks, tail_follows}
use Rattle.port_state.specs.Fetch.{fetch_asks, fetch_high, fetch_low, credit_out, fetch_header, fetch_text, fetched, fetch_release, fetch_finds, fetch_follows, fetch_tailed, fetch_step, fetch_begun}
use Rattle.port_state.specs.Side.{text_or_release, port_step, port_begun}
use Rattle.base_side.specs.declared.Cursor.{Cursor}
use Rattle.port_state.specs.declared.state.Stage.{Stage}
use Rattle.port_state.specs.declared.state.Stage.TheVariants.{High, Low, Length, Header, Text, Release}
use Rattle.port_state.specs.declared.state.TailStage.{TailStage}
use Rattle.port_state.specs.declared.state.TailStage.TheVariants.{Mark}
use Rattle.port_state.specs.declared.state.Side.TheVariants.{Idle, At, Tail}
use Rattle.port_state.specs.declared.state.Port.{Port}
use Rattle.fact_progress.specs.Alone.{out, EndsAfter, goes, text_got, tail_memory, tail_interrupt}
use Rattle.fact_progress.specs.Progress.{MayFetch, FetchEnds, high_at, text_at, with_tail, fetch_envelope, fetch_size, fetch_flag, fetch_got, fetch_left, after_fetch}
use Rattle.fact_progress.proofs.Runs.{found_read, found_write, counted, loop}
use Rattle.fact_progress.proofs.TailRun.{slot_in, rings_kept, released, tail_count, text_in, words_in, head_in, start_in}

-- each stage, its word being found
module _ (n : ℕ) (p : Port) (a : Area) (runs : serving_of p.phase ≡ Some a) where
  sees : (m : Memory) (s : Stage) (c : Cursor) (w : ℕ) → found n m (fetch_asks n a s c) ≡ Some w
      → fetch_step n (with_fetcher p (At s c)) m
      ≡ (with_memory (fetch_finds n (with_fetcher p (At s c)) a (usable n (length m)) s c w) (left n m (fetch_asks n a s c)))
  unfolding fetch_step fetch_follows port_step
  sees m s c w f = rw (runs, f)

  module _ (m : Memory) (c : Cursor) where
    abbrev slot : ℕ
    slot = slot_at n a Command c.slot

    abbrev text : ℕ
    text = address_of n (word_in m slot) c.high

    get_high : slot + 4 ≤ usable n (length m) → is_set owner (word_in m (slot + 2)) ≡ true
        → (fetch_step n (with_fetcher p (At High c)) m) ≡ out (told going false) (with_fetcher p (At Low (with_high c (word_in m (slot + 2))))) m
    unfolding fetch_asks fetch_high
    get_high i f = sees m High c (word_in m (slot + 2)) (found_read n m (slot + 2) (omega arith)) ∙ rw f

    get_low : slot + 4 ≤ usable n (length m) → 4 ≤ text → text ≤ usable n (length m)
        → (fetch_step n (with_fetcher p (At Low c)) m) ≡ out (told going false) (with_fetcher p (At Length (with_envelope c (text - 4)))) m
    unfolding fetch_asks fetch_low
    get_low i l h = sees m Low c (word_in m slot) (found_read n m slot (omega arith)) ∙ rw (le-leb 4 text l, le-leb text (usable n (length m)) h)

    get_length : c.envelope + 4 ≤ usable n (length m)
        → (fetch_step n (with_fetcher p (At Length c)) m) ≡ out (told going false) (with_fetcher p (At Header (with_size c (word_in m c.envelope)))) m
    unfolding fetch_asks
    get_length i = sees m Length c (word_in m c.envelope) (found_read n m c.envelope (omega arith))

    get_header : c.envelope + 4 ≤ usable n (length m)
        → fault_of (of message_type (word_in m (c.envelope + 2))) (of connection (word_in m (c.envelope + 2))) c.size ≡ (Ok tt)
        → c.envelope + 4 + 2 * words_of c.size ≤ usable n (length m)
        → credit_out p ≡ true
        → (fetch_step n (with_fetcher p (At Header c)) m) ≡ out (told going false) (with_fetcher p (text_or_release c 0)) m
    unfolding fetch_asks fetch_header
    get_header i f b g =
        sees m Header c (word_in m (c.envelope + 2)) (found_read n m (c.envelope + 2) (omega arith))
        ∙ rw (f, le-leb (c.envelope + 4 + 2 * words_of c.size) (usable n (length m)) b, g)

    get_text : c.envelope + 4 + 2 * c.at + 2 ≤ usable n (length m)
        → fetch_step n (with_fetcher p (At Text c)) m
        ≡ out (told going false)
        (with_fetcher (with_incoming p (with_text p.incoming c.size c.at (word_in m (c.envelope + 4 + 2 * c.at)))) (text_or_release c (c.at + 1))) m
    unfolding fetch_asks fetch_text
    get_text i = sees m Text c (word_in m (c.envelope + 4 + 2 * c.at)) (found_read n m (c.envelope + 4 + 2 * c.at) i)

    release : slot + 4 ≤ usable n (length m)
        → fetch_step n (with_fetcher p (At Release c)) m
        ≡ (with_memory (fetch_release (with_fetcher p (At Release c)) a c) (with_word n m (slot + 2) (high_word false true c.high)))
    unfolding fetch_asks
    release i = sees m Release c (high_word false true c.high) (found_write n m (slot + 2) (omega arith) (high_word false true c.high))

  -- the tail's steps, by what they come to
  module _ (c : Cursor) (s : TailStage) (k : Memory) where
    tail_on : tail_follows a s (found n k (tail_asks n a Command s c)) ≡ (Ok None)
        → (fetch_step n (with_fetcher p (Tail s c)) k) ≡ out (told going false) (with_fetcher p (Tail Mark c)) (left n k (tail_asks n a Command s c))
    unfolding fetch_step fetch_tailed port_step
    tail_on e = rw (runs, e)

    tail_off : (i : Bool) → tail_follows a s (found n k (tail_asks n a Command s c)) ≡ Ok (Some i)
        → (fetch_step n (with_fetcher p (Tail s c)) k) ≡ out (carried c.size p.incoming i) (with_fetcher p Idle) (left n k (tail_asks n a Command s c))
    unfolding fetch_step fetch_tailed port_step
    tail_off i e = rw (runs, e)

-- a text word next, or the release
on_text : (c : Cursor) (k : ℕ) → k < words_of c.size → text_or_release c k ≡ At Text (with_at c k)
unfolding text_or_release
on_text c k l = rw (lt-ltb k (words_of c.size) l)

on_release : (c : Cursor) → text_or_release c (words_of c.size) ≡ At Release c
unfolding text_or_release
on_release c = rw (le-ltb (words_of c.size) (words_of c.size) (omega arith))

-- the whole fetch
module _ (n : ℕ) (p : Port) (a : Area) (m : Memory) (may : MayFetch n p a m) where
  abbrev step : Port → Memory → Outcome Port
  step = fetch_step n

  abbrev slot_of : ℕ
  slot_of = slot_at n a Command p.counts.fetch

  abbrev text_of : ℕ
  text_of = text_at n a Command p.counts.fetch m

  abbrev size_of : ℕ
  size_of = fetch_size n p a m

  abbrev start : Cursor
  start = start_of p.counts.fetch 0 0

  abbrev seen_high : Cursor
  seen_high = with_high start (high_at n a Command p.counts.fetch m)

  abbrev seen_low : Cursor
  seen_low = with_envelope seen_high (fetch_envelope n p a m)

  abbrev cursor : Cursor
  cursor = with_size seen_low size_of

  -- the port with some text read so far, and after the release
  abbrev port : List ℕ → Port
  port y = with_incoming p y

  abbrev got : List ℕ
  got = fetch_got n p a m

  abbrev given : Cursor → Port
  given c = fetched (with_fetcher (port got) (At Release c)) a c

  given_runs : (c : Cursor) → serving_of (given c).phase ≡ Some a
  unfolding fetched
  given_runs c = may.runs

  given_is : (l : ℕ) → with_fetcher (given (with_at cursor l)) Idle ≡ after_fetch n p a m
  unfolding fetched
  given_is l = rw may.idle

  begun : fetch_begun p ≡ onward (with_fetcher (port zeros) (At High start))
  unfolding fetch_begun port_begun
  begun = rw (may.runs, may.idle)

  own_in : slot_of + 4 ≤ usable n (length m)
  own_in = slot_in n a m may.rings Command p.counts.fetch may.index

  head : fetch_envelope n p a m + 4 ≤ usable n (length m)
  head = head_in text_of (words_of size_of) (usable n (length m)) may.above may.below

  abbrev word_got : ℕ → List ℕ → List ℕ
  word_got k y = with_text y size_of k (word_in m (fetch_envelope n p a m + 4 + 2 * k))

  abbrev words_got : ℕ → ℕ → List ℕ → List ℕ
  words_got k j y = text_got m (fetch_envelope n p a m) y size_of k j

  text_one : (l k : ℕ) (y : List ℕ) → k < words_of size_of → Unit {0}
      → step (with_fetcher (port y) (text_or_release (with_at cursor l) k)) m ≡ out (told going false) (with_fetcher (port (word_got k y)) (text_or_release (with_at cursor k) (k + 1))) m
  text_one l k y b u =
      rw (on_text (with_at cursor l) k b)
      (get_text n (port y) a may.runs m (with_at cursor k) (text_in text_of (words_of size_of) k (usable n (length m)) may.above may.below b))

  abbrev flag : Bool
  flag = fetch_flag n p a m

  abbrev rest : Memory
  rest = fetch_left n p a m

  -- after the text: the release, and the tail where F was 1
  release_tail : (l : ℕ)
      → EndsAfter step (with_tail n flag a Command p.counts.fetch rest 1)
      (with_fetcher (port got) (text_or_release (with_at cursor l) (words_of size_of))) m
      (carried size_of got (cond flag (tail_interrupt n a Command p.counts.fetch rest) false))
      (after_fetch n p a m) (cond flag (tail_memory n a Command p.counts.fetch rest) rest)
  unfolding fetch_release fetched
  release_tail l =
      let c : Cursor = with_at cursor l in
      rw (on_release c, ← given_is l)
      (released n a Command c step (λ s. with_fetcher (given c) (Tail s c)) (λ i. carried size_of got i) (with_fetcher (given c) Idle)
      (λ s k e. tail_on n (given c) a (given_runs c) c s k e)
      (λ s k i e. tail_off n (given c) a (given_runs c) c s k i e)
      rest (rings_kept n a rest m (with_word_length n m (slot_of + 2) (high_word false true (high_at n a Command p.counts.fetch m))) may.rings) may.index
      (with_fetcher (port got) (At Release c)) m flag
      (release n (port got) a may.runs m c own_in))

  pub fetch_ends_lem : FetchEnds n p a m
  fetch_ends_lem =
      record {
        begins = rw begun;
        ends =
            rw begun
            (counted (tail_count n flag a Command p.counts.fetch rest size_of)
            (goes (get_high n (port zeros) a may.runs m start own_in may.mine)
            (goes (get_low n (port zeros) a may.runs m seen_high own_in may.above (start_in text_of (words_of size_of) (usable n (length m)) may.below))
            (goes (get_length n (port zeros) a may.runs m seen_low head)
            (goes (get_header n (port zeros) a may.runs m cursor head may.sound
            (words_in text_of (words_of size_of) (usable n (length m)) may.above may.below) may.credit)
            (loop step (λ l k y. with_fetcher (port y) (text_or_release (with_at cursor l) k)) (λ y. m) word_got words_got (λ y. Unit {0}) (words_of size_of)
            (λ k y. refl) (λ k j y. refl) (λ k y u. u) text_one
            (words_of size_of) 0 0 zeros (omega arith) tt
            release_tail))))));
      }
