-- A take that is stepped alone, stage by stage. Assumes nothing.
use Rattle.base_answers.specs.declared.Fatal.{Fatal}
use Rattle.std.specs.Prelude.{Err, Ok, Result, Some}
use Prim.Native.Nat.{ℕ, ◌+◌, ◌*◌, ◌<◌, ◌≤◌, min}
use mathlib.Core.Path.{◌≡◌, refl, ap, ◌∙◌}
use mathlib.Core.Bool.{Bool, true, false, cond, false≢true}
use mathlib.Core.List.{List}
use native.Mathlib.Omega.{arith}
use lib.Dec.{leb, eqb}
use lib.ListN.{length}
use borrow.Author.Tests.{lt-ltb, le-ltb, le-leb, leb-true}
use Rattle.base_words.specs.Fields.{of, is_set, owner, connection, message_type, credits}
use Rattle.base_words.specs.Words.{high_word}
use Rattle.base_texts.specs.Texts.{zeros, words_of, with_text}
use Rattle.base_memory.specs.Memory.{Memory, usable, word_in, with_word}
use Rattle.base_memory.specs.OneWord.{found, left}
use Rattle.base_memory.proofs.Laws.{with_word_length}
use Rattle.base_answers.specs.Told.{told, carried, going}
use Rattle.base_answers.specs.declared.Fatal.TheVariants.{InvalidConnection, Incompatible}
use Rattle.base_rules.specs.Rules.{fault_of}
use Rattle.base_area.specs.Layout.{slot_at}
use Rattle.base_area.specs.declared.Ring.TheVariants.{Response}
use Rattle.fact_layout.proofs.Rings.{every_layout}
use Rattle.host_state.specs.State.{is_ready, envelope_of, with_taker, with_incoming}
use Rattle.base_side.specs.Step.{Outcome, with_memory}
use Rattle.base_side.specs.Place.{start_of, with_high, with_size, with_at}
use Rattle.host_state.specs.Take.{take_asks, take_high, take_header, take_text, taken, take_closed, take_finds, take_follows, take_step, take_begun}
use Rattle.host_state.specs.Side.{text_or_closing, host_step, host_begun}
use Rattle.base_side.specs.declared.Cursor.{Cursor}
use Rattle.host_state.specs.declared.state.Stage.{Stage}
use Rattle.host_state.specs.declared.state.Stage.TheVariants.{High, Length, Header, Text, Closing, Release}
use Rattle.host_state.specs.declared.state.Side.{Side}
use Rattle.host_state.specs.declared.state.Side.TheVariants.{Idle, At}
use Rattle.host_state.specs.declared.state.Host.{Host}
use Rattle.fact_progress.specs.Alone.{out, EndsAfter, closes, goes, written, text_got}
use Rattle.fact_progress.specs.Progress as ends
use Rattle.fact_progress.specs.Progress.{MayTake, TakeEnds, take_envelope, take_size, take_puts, after_take}
use Rattle.fact_progress.proofs.Runs.{found_read, found_write, still, counted, loop}

-- a sound envelope has a text of at most 60 bytes
is_sound : Result (Unit {0}) Fatal → Bool
is_sound (Ok tt) = true
is_sound (Err x) = false

sound_short : (k c s : ℕ) → fault_of k c s ≡ (Ok tt) → s ≤ 60
unfolding fault_of is_sound
sound_short k c s e = leb-true s 60 (go (eqb k 0) (eqb c 0) (leb s 60) (ap is_sound e))
  where
    go : (x y z : Bool) → is_sound (cond x (cond y (cond z (Ok tt) (Err Incompatible)) (Err InvalidConnection)) (Err Incompatible)) ≡ true → z ≡ true
    go true true true f = refl
    go true true false f = absurd (false≢true f)
    go true false z f = absurd (false≢true f)
    go false y z f = absurd (false≢true f)

ready_kept : (h : Host) (x : Side) → is_ready h ≡ true → is_ready (with_taker h x) ≡ true
unfolding is_ready
ready_kept h x e = e

-- each stage, its word being found
module _ (n : ℕ) (h : Host) (ready : is_ready h ≡ true) where
  sees : (m : Memory) (s : Stage) (c : Cursor) (w : ℕ) → found n m (take_asks n (with_taker h (At s c)) s c) ≡ Some w
      → take_step n (with_taker h (At s c)) m
      ≡ (with_memory (take_finds (with_taker h (At s c)) s c w) (left n m (take_asks n (with_taker h (At s c)) s c)))
  unfolding take_step take_follows host_step
  sees m s c w f = rw (ready_kept h (At s c) ready, f)

  module _ (m : Memory) (c : Cursor) where
    abbrev slot : ℕ
    slot = slot_at n h.area Response c.slot

    abbrev envelope : ℕ
    envelope = c.envelope

    look : slot + 4 ≤ usable n (length m) → is_set owner (word_in m (slot + 2)) ≡ false
        → take_step n (with_taker h (At High c)) m
        ≡ out (told going false) (with_taker h (At Length (with_high c (word_in m (slot + 2))))) m
    unfolding take_asks take_high
    look i f = sees m High c (word_in m (slot + 2)) (found_read n m (slot + 2) (omega arith)) ∙ rw f

    get_length : envelope + 4 ≤ usable n (length m)
        → (take_step n (with_taker h (At Length c)) m) ≡ out (told going false) (with_taker h (At Header (with_size c (word_in m envelope)))) m
    unfolding take_asks
    get_length i = sees m Length c (word_in m envelope) (found_read n m envelope (omega arith))

    get_header : envelope + 4 ≤ usable n (length m)
        → fault_of (of message_type (word_in m (envelope + 2))) (of connection (word_in m (envelope + 2))) c.size ≡ (Ok tt)
        → h.counts.account + of credits (word_in m (envelope + 2)) ≤ 255
        → take_step n (with_taker h (At Header c)) m
        ≡ out (told going false) (with_taker (with_incoming h h.incoming (of credits (word_in m (envelope + 2)))) (text_or_closing c 0)) m
    unfolding take_asks take_header
    get_header i f b =
        sees m Header c (word_in m (envelope + 2)) (found_read n m (envelope + 2) (omega arith))
        ∙ rw (f, le-leb (h.counts.account + of credits (word_in m (envelope + 2))) 255 b)

    get_text : envelope + 4 + 2 * c.at + 2 ≤ usable n (length m)
        → take_step n (with_taker h (At Text c)) m
        ≡ out (told going false)
        (with_taker (with_incoming h (with_text h.incoming c.size c.at (word_in m (envelope + 4 + 2 * c.at))) h.credits) (text_or_closing c (c.at + 1))) m
    unfolding take_asks take_text
    get_text i = sees m Text c (word_in m (envelope + 4 + 2 * c.at)) (found_read n m (envelope + 4 + 2 * c.at) i)

    refill : envelope + 4 ≤ usable n (length m)
        → (take_step n (with_taker h (At Closing c)) m) ≡ out (told going false) (with_taker h (At Release c)) (with_word n m envelope 60)
    unfolding take_asks
    refill i = sees m Closing c 60 (found_write n m envelope (omega arith) 60)

    give : slot + 4 ≤ usable n (length m)
        → take_step n (with_taker h (At Release c)) m
        ≡ out (carried c.size h.incoming false) (with_taker (taken (with_taker h (At Release c)) c) Idle)
        (with_word n m (slot + 2) (high_word true true c.high))
    unfolding take_asks take_closed
    give i = sees m Release c (high_word true true c.high) (found_write n m (slot + 2) (omega arith) (high_word true true c.high))

-- a text word next, or the length's refill
on_text : (c : Cursor) (k : ℕ) → k < words_of c.size → text_or_closing c k ≡ At Text (with_at c k)
unfolding text_or_closing
on_text c k l = rw (lt-ltb k (words_of c.size) l)

on_refill : (c : Cursor) → text_or_closing c (words_of c.size) ≡ At Closing c
unfolding text_or_closing
on_refill c = rw (le-ltb (words_of c.size) (words_of c.size) (omega arith))

-- the whole take
module _ (n : ℕ) (h : Host) (m : Memory) (may : MayTake n h m) where
  abbrev step : Host → Memory → Outcome Host
  step = take_step n

  abbrev slot_of : ℕ
  slot_of = slot_at n h.area Response h.counts.take

  abbrev header : ℕ
  header = word_in m (take_envelope h + 2)

  abbrev start : Cursor
  start = start_of h.counts.take (take_envelope h) 0

  abbrev looked : Cursor
  looked = with_high start (word_in m (slot_of + 2))

  abbrev cursor : Cursor
  cursor = with_size looked (take_size h m)

  -- the host with some text read so far, before its credits are known and after
  abbrev early : Host
  early = with_incoming h zeros 0

  abbrev host : List ℕ → Host
  host y = with_incoming h y (of credits header)

  ready : (y : List ℕ) (k : ℕ) → is_ready (with_incoming h y k) ≡ true
  unfolding is_ready
  ready y k = may.ready

  envelope_in : take_envelope h + 64 ≤ usable n (length m)
  envelope_in = (every_layout.area n h.area h.pool (usable n (length m)) may.area_fits).envelope_inside Response h.counts.take may.index

  envelope_is : envelope_of h Response h.counts.take ≡ take_envelope h
  envelope_is = omega (arith, envelope_in, may.near)

  begun : take_begun h ≡ record { told = told going false; state = with_taker early (At High start) }
  unfolding take_begun host_begun
  begun = rw (may.ready, may.idle, envelope_is)

  left_is : (l : ℕ) → with_taker (taken (with_taker (host (ends.take_text h m)) (At Release (with_at cursor l))) (with_at cursor l)) Idle ≡ after_take h m
  unfolding taken
  left_is l =
      let a : min (h.counts.account + of credits header) 255 ≡ h.counts.account + of credits header = omega (arith, may.room) in
      rw (may.idle, a)

  slot_in : slot_of + 4 ≤ usable n (length m)
  slot_in = (every_layout.area n h.area h.pool (usable n (length m)) may.area_fits).slot_inside Response h.counts.take may.index

  short : take_size h m ≤ 60
  short = sound_short (of message_type header) (of connection header) (take_size h m) may.sound

  abbrev word_got : ℕ → List ℕ → List ℕ
  word_got k y = with_text y (take_size h m) k (word_in m (take_envelope h + 4 + 2 * k))

  abbrev words_got : ℕ → ℕ → List ℕ → List ℕ
  words_got k j y = text_got m (take_envelope h) y (take_size h m) k j

  text_one : (l k : ℕ) (y : List ℕ) → k < words_of (take_size h m) → Unit {0}
      → step (with_taker (host y) (text_or_closing (with_at cursor l) k)) m ≡ out (told going false) (with_taker (host (word_got k y)) (text_or_closing (with_at cursor k) (k + 1))) m
  text_one l k y b u =
      rw (on_text (with_at cursor l) k b) (get_text n (host y) (ready y (of credits header)) m (with_at cursor k) (omega (arith, envelope_in, short)))

  -- after the text: the length's refill, then the high word
  refill_give : (l : ℕ)
      → EndsAfter step 2 (with_taker (host (ends.take_text h m)) (text_or_closing (with_at cursor l) (words_of (take_size h m)))) m
      (carried (take_size h m) (ends.take_text h m) false) (after_take h m) (written n m (take_puts n h m))
  refill_give l =
      let y : List ℕ = ends.take_text h m in
      let m₁ : Memory = with_word n m (take_envelope h) 60 in
      let e₁ : length m₁ ≡ length m = with_word_length n m (take_envelope h) 60 in
      rw (on_refill (with_at cursor l), ← left_is l)
      (goes (refill n (host y) (ready y (of credits header)) m (with_at cursor l) (omega (arith, envelope_in)))
      (closes (give n (host y) (ready y (of credits header)) m₁ (with_at cursor l) (still n (slot_of + 4) m₁ m e₁ slot_in))))

  pub take_ends : TakeEnds n h m
  take_ends =
      record {
        begins = rw begun;
        ends =
            rw begun
            (counted (omega arith)
            (goes (look n early (ready zeros 0) m start slot_in may.back)
            (goes (get_length n early (ready zeros 0) m looked (omega (arith, envelope_in)))
            (goes (get_header n early (ready zeros 0) m cursor (omega (arith, envelope_in)) may.sound may.room)
            (loop step (λ l k y. with_taker (host y) (text_or_closing (with_at cursor l) k)) (λ y. m) word_got words_got (λ y. Unit {0}) (words_of (take_size h m))
            (λ k y. refl) (λ k j y. refl) (λ k y u. u) text_one
            (words_of (take_size h m)) 0 0 zeros (omega arith) tt
            refill_give)))));
      }
