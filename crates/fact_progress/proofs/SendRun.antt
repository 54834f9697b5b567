-- A send that is stepped alone, stage by stage. Assumes nothing.
use Rattle.std.specs.Prelude.{Some}
use Prim.Native.Nat.{ℕ, ◌+◌, ◌*◌, ◌<◌, ◌≤◌}
use mathlib.Core.Path.{◌≡◌, refl, ◌∙◌}
use mathlib.Core.Bool.{true, false}
use mathlib.Core.List.{List, [], ◌∷◌}
use native.Mathlib.Omega.{arith}
use lib.Dec.{eqb}
use lib.ListN.{length}
use borrow.Author.Tests.{lt-ltb, le-ltb, le-leb, ne_eqb}
use Rattle.base_words.specs.Fields.{is_set, owner}
use Rattle.base_words.specs.Words.{low_word, with_address, high_word}
use Rattle.base_texts.specs.Texts.{words_of, word_of, padded}
use Rattle.base_memory.specs.Memory.{Memory, usable, word_in, with_word}
use Rattle.base_memory.specs.OneWord.{found, left}
use Rattle.base_memory.proofs.Laws.{with_word_length}
use Rattle.base_answers.specs.Told.{told, going, done}
use Rattle.base_area.specs.Layout.{slot_at}
use Rattle.base_area.specs.declared.Ring.TheVariants.{Command}
use Rattle.fact_layout.proofs.Rings.{every_layout}
use Rattle.host_state.specs.State.{is_ready, envelope_of, with_sender, with_outgoing}
use Rattle.base_side.specs.Step.{Outcome, with_memory}
use Rattle.base_side.specs.Place.{start_of, with_high, with_at}
use Rattle.host_state.specs.Send.{send_asks, send_high, sent, send_finds, send_follows, send_step, send_begun}
use Rattle.host_state.specs.Side.{text_or_closing, host_step, host_begun}
use Rattle.host_state.specs.declared.state.Asked.{Asked}
use Rattle.base_side.specs.declared.Cursor.{Cursor}
use Rattle.host_state.specs.declared.state.Stage.{Stage}
use Rattle.host_state.specs.declared.state.Stage.TheVariants.{High, Length, Header, Text, Closing, Release}
use Rattle.host_state.specs.declared.state.Side.{Side}
use Rattle.host_state.specs.declared.state.Side.TheVariants.{Idle, At}
use Rattle.host_state.specs.declared.state.Host.{Host}
use Rattle.fact_progress.specs.Alone.{out, EndsAfter, closes, goes, Put, put, written, text_puts}
use Rattle.fact_progress.specs.Progress.{MaySend, SendEnds, send_envelope, after_send}
use Rattle.fact_progress.proofs.Runs.{found_read, found_write, written_length, written_append, still, counted, loop}

ready_kept : (h : Host) (x : Side) → is_ready h ≡ true → is_ready (with_sender h x) ≡ true
unfolding is_ready
ready_kept h x e = e

-- each stage, its word being found
module _ (n : ℕ) (h : Host) (ready : is_ready h ≡ true) where
  sees : (m : Memory) (s : Stage) (c : Cursor) (w : ℕ) → found n m (send_asks n (with_sender h (At s c)) s c) ≡ Some w
      → send_step n (with_sender h (At s c)) m
      ≡ (with_memory (send_finds (with_sender h (At s c)) s c w) (left n m (send_asks n (with_sender h (At s c)) s c)))
  unfolding send_step send_follows host_step
  sees m s c w f = rw (ready_kept h (At s c) ready, f)

  module _ (m : Memory) (c : Cursor) where
    abbrev slot : ℕ
    slot = slot_at n h.area Command c.slot

    abbrev envelope : ℕ
    envelope = c.envelope

    look : 1 ≤ h.counts.account → slot + 4 ≤ usable n (length m) → is_set owner (word_in m (slot + 2)) ≡ false
        → send_step n (with_sender h (At High c)) m
        ≡ out (told going false) (with_sender h (At Length (with_high c (word_in m (slot + 2))))) m
    unfolding send_asks send_high
    look a i f =
        let z : eqb h.counts.account 0 ≡ false = ne_eqb h.counts.account 0 (λ e. omega arith) in
        sees m High c (word_in m (slot + 2)) (rw z (found_read n m (slot + 2) (omega arith))) ∙ rw (z, f)

    put_length : envelope + 4 ≤ usable n (length m)
        → (send_step n (with_sender h (At Length c)) m) ≡ out (told going false) (with_sender h (At Header c)) (with_word n m envelope c.size)
    unfolding send_asks
    put_length i = sees m Length c c.size (found_write n m envelope (omega arith) c.size)

    put_header : envelope + 4 ≤ usable n (length m)
        → (send_step n (with_sender h (At Header c)) m) ≡ out (told going false) (with_sender h (text_or_closing c 0)) (with_word n m (envelope + 2) 0)
    unfolding send_asks
    put_header i = sees m Header c 0 (found_write n m (envelope + 2) (omega arith) 0)

    put_text : envelope + 4 + 2 * c.at + 2 ≤ usable n (length m)
        → send_step n (with_sender h (At Text c)) m
        ≡ out (told going false) (with_sender h (text_or_closing c (c.at + 1))) (with_word n m (envelope + 4 + 2 * c.at) (word_of h.outgoing c.size c.at))
    unfolding send_asks
    put_text i = sees m Text c (word_of h.outgoing c.size c.at) (found_write n m (envelope + 4 + 2 * c.at) i (word_of h.outgoing c.size c.at))

    put_low : slot + 4 ≤ usable n (length m)
        → (send_step n (with_sender h (At Closing c)) m) ≡ out (told going false) (with_sender h (At Release c)) (with_word n m slot (low_word (envelope + 4)))
    unfolding send_asks
    put_low i = sees m Closing c (low_word (envelope + 4)) (found_write n m slot (omega arith) (low_word (envelope + 4)))

    give : slot + 4 ≤ usable n (length m)
        → send_step n (with_sender h (At Release c)) m
        ≡ out (told done false) (with_sender (sent (with_sender h (At Release c)) c) Idle)
        (with_word n m (slot + 2) (high_word true h.asked.flag (with_address n c.high (envelope + 4))))
    unfolding send_asks
    give i =
        let v : ℕ = high_word true h.asked.flag (with_address n c.high (envelope + 4)) in
        sees m Release c v (found_write n m (slot + 2) (omega arith) v)

-- a text word next, or the low word
on_text : (c : Cursor) (k : ℕ) → k < words_of c.size → text_or_closing c k ≡ At Text (with_at c k)
unfolding text_or_closing
on_text c k l = rw (lt-ltb k (words_of c.size) l)

on_low : (c : Cursor) → text_or_closing c (words_of c.size) ≡ At Closing c
unfolding text_or_closing
on_low c = rw (le-ltb (words_of c.size) (words_of c.size) (omega arith))

-- the whole send
module _ (n : ℕ) (h : Host) (x : Asked) (t : List ℕ) (m : Memory) (may : MaySend n h t m) where
  abbrev host : Host
  host = with_outgoing h (padded t) x

  abbrev cursor : Cursor
  cursor = with_high (start_of h.counts.send (send_envelope h) (length t)) (word_in m (slot_at n h.area Command h.counts.send + 2))

  ready : is_ready host ≡ true
  unfolding is_ready
  ready = may.ready

  envelope_in : send_envelope h + 64 ≤ usable n (length m)
  envelope_in = (every_layout.area n h.area h.pool (usable n (length m)) may.area_fits).envelope_inside Command h.counts.send may.index

  envelope_is : envelope_of h Command h.counts.send ≡ send_envelope h
  envelope_is = omega (arith, envelope_in, may.near)

  begun : send_begun h x t ≡ record { told = told going false; state = with_sender host (At High (start_of h.counts.send (send_envelope h) (length t))) }
  unfolding send_begun host_begun
  begun = rw (may.ready, may.idle, le-leb (length t) 60 may.short, envelope_is)

  left_is : (l : ℕ) → with_sender (sent (with_sender host (At Release (with_at cursor l))) (with_at cursor l)) Idle ≡ after_send h x t
  unfolding sent
  left_is l = rw may.idle

  abbrev step : Host → Memory → Outcome Host
  step = send_step n

  abbrev slot_of : ℕ
  slot_of = slot_at n h.area Command h.counts.send

  slot_in : slot_of + 4 ≤ usable n (length m)
  slot_in = (every_layout.area n h.area h.pool (usable n (length m)) may.area_fits).slot_inside Command h.counts.send may.index

  abbrev word_put : ℕ → Memory → Memory
  word_put k y = with_word n y (send_envelope h + 4 + 2 * k) (word_of (padded t) (length t) k)

  abbrev words_put : ℕ → ℕ → Memory → Memory
  words_put k j y = written n y (text_puts (send_envelope h) (padded t) (length t) k j)

  text_one : (l k : ℕ) (y : Memory) → k < words_of (length t) → length y ≡ length m
      → step (with_sender host (text_or_closing (with_at cursor l) k)) y ≡ out (told going false) (with_sender host (text_or_closing (with_at cursor k) (k + 1))) (word_put k y)
  text_one l k y b e =
      rw (on_text (with_at cursor l) k b)
      (put_text n host ready y (with_at cursor k) (still n (send_envelope h + 4 + 2 * k + 2) y m e (omega (arith, envelope_in, may.short))))

  -- after the text: low word, then high word
  abbrev last_puts : List Put
  last_puts =
      put slot_of (low_word (send_envelope h + 4))
      ∷ put (slot_of + 2) (high_word true x.flag (with_address n (word_in m (slot_of + 2)) (send_envelope h + 4)))
      ∷ []

  low_give : (l : ℕ) (k : Memory) → length k ≡ length m
      → EndsAfter step 2 (with_sender host (text_or_closing (with_at cursor l) (words_of (length t)))) k (told done false) (after_send h x t) (written n k last_puts)
  low_give l k e =
      let k₁ : Memory = with_word n k slot_of (low_word (send_envelope h + 4)) in
      let e₁ : length k₁ ≡ length m = with_word_length n k slot_of (low_word (send_envelope h + 4)) ∙ e in
      rw (on_low (with_at cursor l), ← left_is l)
      (goes (put_low n host ready k (with_at cursor l) (still n (slot_of + 4) k m e slot_in))
      (closes (give n host ready k₁ (with_at cursor l) (still n (slot_of + 4) k₁ m e₁ slot_in))))

  pub send_ends_lem : SendEnds n h x t m
  send_ends_lem =
      let m₁ : Memory = with_word n m (send_envelope h) (length t) in
      let m₂ : Memory = with_word n m₁ (send_envelope h + 2) 0 in
      let texts : List Put = text_puts (send_envelope h) (padded t) (length t) 0 (words_of (length t)) in
      let l₁ : length m₁ ≡ length m = with_word_length n m (send_envelope h) (length t) in
      let l₂ : length m₂ ≡ length m = with_word_length n m₁ (send_envelope h + 2) 0 ∙ l₁ in
      record {
        begins = rw begun;
        ends =
            rw (begun, written_append n m₂ texts last_puts)
            (counted (omega arith)
            (goes (look n host ready m (start_of h.counts.send (send_envelope h) (length t)) may.credit slot_in may.free)
            (goes (put_length n host ready m cursor (omega (arith, envelope_in)))
            (goes (put_header n host ready m₁ cursor (still n (send_envelope h + 4) m₁ m l₁ (omega (arith, envelope_in))))
            (loop step (λ l k y. with_sender host (text_or_closing (with_at cursor l) k)) (λ y. y) word_put words_put (λ y. length y ≡ length m) (words_of (length t))
            (λ k y. refl) (λ k j y. refl) (λ k y e. with_word_length n y (send_envelope h + 4 + 2 * k) (word_of (padded t) (length t) k) ∙ e) text_one
            (words_of (length t)) 0 0 m₂ (omega arith) l₂
            (λ l. low_give l (written n m₂ texts) (written_length n m₂ texts ∙ l₂)))))));
      }
