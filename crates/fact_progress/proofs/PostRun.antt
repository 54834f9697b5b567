-- A post that is stepped alone, stage by stage, tail included. Assumes nothing.
use Rattle.std.specs.Prelude.{None, Ok, Some}
use Prim.Native.Nat.{ℕ, ◌+◌, ◌*◌, ◌-◌, ◌<◌, ◌≤◌}
use mathlib.Core.Path.{◌≡◌, refl, ◌∙◌}
use mathlib.Core.Bool.{Bool, true, false, cond, ◌&&◌}
use mathlib.Core.List.{List, [], ◌∷◌}
use native.Mathlib.Omega.{arith}
use lib.Dec.{eqb}
use lib.ListN.{length}
use borrow.Author.Tests.{lt-ltb, le-ltb, le-leb, ne_eqb}
use Rattle.base_words.specs.Fields.{is_set, owner}
use Rattle.base_words.specs.Words.{address_of, high_word, header_word}
use Rattle.base_texts.specs.Texts.{words_of, word_of, padded}
use Rattle.base_memory.specs.Memory.{Memory, usable, word_in, with_word}
use Rattle.base_memory.specs.OneWord.{found, left}
use Rattle.base_memory.proofs.Laws.{with_word_length}
use Rattle.base_answers.specs.Told.{told, going, done}
use Rattle.base_area.specs.Layout.{slot_at}
use Rattle.base_area.specs.declared.Area.{Area}
use Rattle.base_area.specs.declared.Ring.TheVariants.{Response}
use Rattle.port_state.specs.State.{serving_of, with_poster}
use Rattle.base_side.specs.Step.{Outcome, with_memory, onward}
use Rattle.base_side.specs.Place.{start_of, with_high, with_envelope, with_at}
use Rattle.port_state.specs.Tail.{tail_asks, tail_follows}
use Rattle.port_state.specs.Post.{credits_of, post_asks, post_high, post_low, posted, post_release, post_finds, post_follows, post_tailed, post_step, post_begun}
use Rattle.port_state.specs.Side.{text_or_release, port_step, port_begun}
use Rattle.base_side.specs.declared.Cursor.{Cursor}
use Rattle.port_state.specs.declared.state.Stage.{Stage}
use Rattle.port_state.specs.declared.state.Stage.TheVariants.{High, Low, Length, Header, Text, Release}
use Rattle.port_state.specs.declared.state.TailStage.{TailStage}
use Rattle.port_state.specs.declared.state.TailStage.TheVariants.{Mark}
use Rattle.port_state.specs.declared.state.Side.TheVariants.{Idle, At, Tail}
use Rattle.port_state.specs.declared.state.Port.{Port}
use Rattle.fact_progress.specs.Alone.{out, EndsAfter, goes, Put, written, text_puts, tail_memory, tail_interrupt}
use Rattle.fact_progress.specs.Progress as ends
use Rattle.fact_progress.specs.Progress.{MayPost, PostEnds, high_at, text_at, with_tail, post_envelope, post_flag, asking, after_post}
use Rattle.fact_progress.proofs.Runs.{found_read, found_write, written_length, written_append, still, counted, loop}
use Rattle.fact_progress.proofs.TailRun.{slot_in, rings_kept, released, tail_count, text_in, head_in}

-- each stage, its word being found
module _ (n : ℕ) (p : Port) (a : Area) (runs : serving_of p.phase ≡ Some a) where
  sees : (m : Memory) (s : Stage) (c : Cursor) (w : ℕ) → found n m (post_asks n (with_poster p (At s c)) a s c) ≡ Some w
      → post_step n (with_poster p (At s c)) m
      ≡ (with_memory (post_finds n (with_poster p (At s c)) a (usable n (length m)) s c w) (left n m (post_asks n (with_poster p (At s c)) a s c)))
  unfolding post_step post_follows port_step
  sees m s c w f = rw (runs, f)

  module _ (m : Memory) (c : Cursor) where
    abbrev slot : ℕ
    slot = slot_at n a Response c.slot

    abbrev text : ℕ
    text = address_of n (word_in m slot) c.high

    get_high : slot + 4 ≤ usable n (length m) → is_set owner (word_in m (slot + 2)) ≡ true
        → (post_step n (with_poster p (At High c)) m) ≡ out (told going false) (with_poster p (At Low (with_high c (word_in m (slot + 2))))) m
    unfolding post_asks post_high
    get_high i f = sees m High c (word_in m (slot + 2)) (found_read n m (slot + 2) (omega arith)) ∙ rw f

    get_low : slot + 4 ≤ usable n (length m) → 4 ≤ text → text + 2 * words_of c.size ≤ usable n (length m)
        → (post_step n (with_poster p (At Low c)) m) ≡ out (told going false) (with_poster p (At Length (with_envelope c (text - 4)))) m
    unfolding post_asks post_low
    get_low i l h =
        sees m Low c (word_in m slot) (found_read n m slot (omega arith))
        ∙ rw (le-leb 4 text l, le-leb (text + 2 * words_of c.size) (usable n (length m)) h)

    put_length : c.envelope + 4 ≤ usable n (length m)
        → (post_step n (with_poster p (At Length c)) m) ≡ out (told going false) (with_poster p (At Header c)) (with_word n m c.envelope c.size)
    unfolding post_asks
    put_length i = sees m Length c c.size (found_write n m c.envelope (omega arith) c.size)

    put_header : c.envelope + 4 ≤ usable n (length m)
        → post_step n (with_poster p (At Header c)) m
        ≡ out (told going false) (with_poster p (text_or_release c 0)) (with_word n m (c.envelope + 2) (header_word (credits_of p)))
    unfolding post_asks credits_of
    put_header i =
        let v : ℕ = header_word (credits_of p) in
        sees m Header c v (found_write n m (c.envelope + 2) (omega arith) v)

    put_text : c.envelope + 4 + 2 * c.at + 2 ≤ usable n (length m)
        → post_step n (with_poster p (At Text c)) m
        ≡ out (told going false) (with_poster p (text_or_release c (c.at + 1))) (with_word n m (c.envelope + 4 + 2 * c.at) (word_of p.outgoing c.size c.at))
    unfolding post_asks
    put_text i = sees m Text c (word_of p.outgoing c.size c.at) (found_write n m (c.envelope + 4 + 2 * c.at) i (word_of p.outgoing c.size c.at))

    release : slot + 4 ≤ usable n (length m)
        → post_step n (with_poster p (At Release c)) m
        ≡ (with_memory (post_release (with_poster p (At Release c)) a c) (with_word n m (slot + 2) (high_word false true c.high)))
    unfolding post_asks
    release i = sees m Release c (high_word false true c.high) (found_write n m (slot + 2) (omega arith) (high_word false true c.high))

  -- the tail's steps, by what they come to
  module _ (c : Cursor) (s : TailStage) (k : Memory) where
    tail_on : tail_follows a s (found n k (tail_asks n a Response s c)) ≡ (Ok None)
        → (post_step n (with_poster p (Tail s c)) k) ≡ out (told going false) (with_poster p (Tail Mark c)) (left n k (tail_asks n a Response s c))
    unfolding post_step post_tailed port_step
    tail_on e = rw (runs, e)

    tail_off : (i : Bool) → tail_follows a s (found n k (tail_asks n a Response s c)) ≡ Ok (Some i)
        → (post_step n (with_poster p (Tail s c)) k) ≡ out (told done i) (with_poster p Idle) (left n k (tail_asks n a Response s c))
    unfolding post_step post_tailed port_step
    tail_off i e = rw (runs, e)

-- a text word next, or the release
on_text : (c : Cursor) (k : ℕ) → k < words_of c.size → text_or_release c k ≡ At Text (with_at c k)
unfolding text_or_release
on_text c k l = rw (lt-ltb k (words_of c.size) l)

on_release : (c : Cursor) → text_or_release c (words_of c.size) ≡ At Release c
unfolding text_or_release
on_release c = rw (le-ltb (words_of c.size) (words_of c.size) (omega arith))

-- an answer has an open command
opens : (answers : Bool) (k : ℕ) → (answers ≡ true → 1 ≤ k) → (answers && eqb k 0) ≡ false
opens true k h = ne_eqb k 0 (λ e. omega (arith, h refl))
opens false k h = refl

-- the whole post
module _ (n : ℕ) (p : Port) (a : Area) (answers : Bool) (t : List ℕ) (m : Memory) (may : MayPost n p a answers t m) where
  abbrev step : Port → Memory → Outcome Port
  step = post_step n

  abbrev slot_of : ℕ
  slot_of = slot_at n a Response p.counts.post

  abbrev text_of : ℕ
  text_of = text_at n a Response p.counts.post m

  abbrev envelope_of_lem : ℕ
  envelope_of_lem = post_envelope n p a m

  abbrev start : Cursor
  start = start_of p.counts.post 0 (length t)

  abbrev seen_high : Cursor
  seen_high = with_high start (high_at n a Response p.counts.post m)

  abbrev cursor : Cursor
  cursor = with_envelope seen_high envelope_of_lem

  -- the port with its text, and after the release
  abbrev port : Port
  port = asking p answers t

  abbrev given : Cursor → Port
  given c = posted (with_poster port (At Release c)) a c

  given_runs : (c : Cursor) → serving_of (given c).phase ≡ Some a
  unfolding posted
  given_runs c = may.runs

  given_is : (l : ℕ) → with_poster (given (with_at cursor l)) Idle ≡ after_post p a answers t
  unfolding posted
  given_is l = rw may.idle

  begun : post_begun p (record { answers = answers }) t ≡ onward (with_poster port (At High start))
  unfolding post_begun port_begun
  begun = rw (may.runs, may.idle, le-leb (length t) 60 may.short, opens answers p.counts.unanswered may.fetched)

  own_in : slot_of + 4 ≤ usable n (length m)
  own_in = slot_in n a m may.rings Response p.counts.post may.index

  head : envelope_of_lem + 4 ≤ usable n (length m)
  head = head_in text_of (words_of (length t)) (usable n (length m)) may.above may.below

  abbrev word_put : ℕ → Memory → Memory
  word_put k y = with_word n y (envelope_of_lem + 4 + 2 * k) (word_of (padded t) (length t) k)

  abbrev words_put : ℕ → ℕ → Memory → Memory
  words_put k j y = written n y (text_puts envelope_of_lem (padded t) (length t) k j)

  text_one : (l k : ℕ) (y : Memory) → k < words_of (length t) → length y ≡ length m
      → step (with_poster port (text_or_release (with_at cursor l) k)) y ≡ out (told going false) (with_poster port (text_or_release (with_at cursor k) (k + 1))) (word_put k y)
  text_one l k y b e =
      rw (on_text (with_at cursor l) k b)
      (put_text n port a may.runs y (with_at cursor k)
      (still n (envelope_of_lem + 4 + 2 * k + 2) y m e (text_in text_of (words_of (length t)) k (usable n (length m)) may.above may.below b)))

  abbrev flag : Bool
  flag = post_flag n p a m

  abbrev give : Put
  give = ends.release n a Response p.counts.post m

  -- after the text: the release, and the tail where F was 1
  release_tail : (l : ℕ) (k : Memory) → length k ≡ length m
      → EndsAfter step (with_tail n flag a Response p.counts.post (written n k (give ∷ [])) 1)
      (with_poster port (text_or_release (with_at cursor l) (words_of (length t)))) k
      (told done (cond flag (tail_interrupt n a Response p.counts.post (written n k (give ∷ []))) false))
      (after_post p a answers t) (cond flag (tail_memory n a Response p.counts.post (written n k (give ∷ []))) (written n k (give ∷ [])))
  unfolding post_release posted
  release_tail l k e =
      let c : Cursor = with_at cursor l in
      let rest : Memory = written n k (give ∷ []) in
      rw (on_release c, ← given_is l)
      (released n a Response c step (λ s. with_poster (given c) (Tail s c)) (λ i. told done i) (with_poster (given c) Idle)
      (λ s j f. tail_on n (given c) a (given_runs c) c s j f)
      (λ s j i f. tail_off n (given c) a (given_runs c) c s j i f)
      rest (rings_kept n a rest m (written_length n k (give ∷ []) ∙ e) may.rings) may.index
      (with_poster port (At Release c)) k flag
      (release n port a may.runs k c (still n (slot_of + 4) k m e own_in)))

  pub post_ends : PostEnds n p a answers t m
  unfolding credits_of
  post_ends =
      let header : ℕ = header_word (credits_of port) in
      let m₁ : Memory = with_word n m envelope_of_lem (length t) in
      let m₂ : Memory = with_word n m₁ (envelope_of_lem + 2) header in
      let texts : List Put = text_puts envelope_of_lem (padded t) (length t) 0 (words_of (length t)) in
      let l₁ : length m₁ ≡ length m = with_word_length n m envelope_of_lem (length t) in
      let l₂ : length m₂ ≡ length m = with_word_length n m₁ (envelope_of_lem + 2) header ∙ l₁ in
      record {
        begins = rw begun;
        ends =
            rw (begun, written_append n m₂ texts (give ∷ []))
            (counted (tail_count n flag a Response p.counts.post (written n (written n m₂ texts) (give ∷ [])) (length t))
            (goes (get_high n port a may.runs m start own_in may.mine)
            (goes (get_low n port a may.runs m seen_high own_in may.above may.below)
            (goes (put_length n port a may.runs m cursor head)
            (goes (put_header n port a may.runs m₁ cursor (still n (envelope_of_lem + 4) m₁ m l₁ head))
            (loop step (λ l k y. with_poster port (text_or_release (with_at cursor l) k)) (λ y. y) word_put words_put (λ y. length y ≡ length m) (words_of (length t))
            (λ k y. refl) (λ k j y. refl) (λ k y e. with_word_length n y (envelope_of_lem + 4 + 2 * k) (word_of (padded t) (length t) k) ∙ e) text_one
            (words_of (length t)) 0 0 m₂ (omega arith) l₂
            (λ l. release_tail l (written n m₂ texts) (written_length n m₂ texts ∙ l₂))))))));
      }
