-- A giver writes its envelope word by word, whichever ring it is; written whole, it is a letter. Assumes nothing.
use Prim.Native.Nat.{ℕ, ◌+◌, ◌*◌, ◌<◌, ◌≤◌}
use mathlib.Core.Path.{◌≡◌, ◌∙◌}
use mathlib.Core.List.{List}
use mathlib.Core.Logic.{inl, inr}
use native.Mathlib.Omega.{arith}
use lib.ListN.{length}
use Rattle.base_words.specs.Words.{header_word}
use Rattle.base_texts.specs.Texts.{words_of, word_of, padded}
use Rattle.base_memory.specs.Memory.{Memory, usable, with_word}
use Rattle.base_area.specs.Layout.{slots}
use Rattle.base_area.specs.declared.Ring.{Ring}
use Rattle.fact_layout.specs.Facts.{AreaFacts}
use Rattle.fact_layout.proofs.Rings.{same_or_not}
use Rattle.fact_plain.specs.Plain.{entry}
use Rattle.fact_traffic.specs.Places.{Place, env_word, Site, addr, view}
use Rattle.fact_traffic.specs.Rings.{Letter}
use Rattle.fact_traffic.specs.World.{Bytes}
use Rattle.fact_traffic.specs.Invariant.{Written}
use Rattle.fact_traffic.proofs.Place.{offsets_far, stored, kept}
use Rattle.fact_traffic.proofs.TextLaws.{word_lt}
use Rattle.fact_traffic.proofs.WordLaws.{header_lt}

module _ (g : Site) (end : ℕ) (F : AreaFacts g.bits g.area g.pool end) (m : Memory) (size : end ≡ usable g.bits (length m))
    (r : Ring) (s : ℕ) (here : s < slots g.area r) (t : List ℕ) (short : length t ≤ 60) where
  pub put_len : (x : ℕ) → x ≡ length t → view g (with_word g.bits m (addr g (env_word r s 0)) x) (env_word r s 0) ≡ length t
  put_len x e = stored g end F m size (env_word r s 0) x (here, omega arith) (omega arith) ∙ e

  pub put_head : (cr x : ℕ) → x ≡ header_word cr → view g m (env_word r s 0) ≡ length t → Written (view g (with_word g.bits m (addr g (env_word r s 2)) x)) r s t cr 0
  put_head cr x e l =
      record {
        len = kept g end F m size (env_word r s 2) (env_word r s 0) x (offsets_far g end F r s 2 0 (inr (omega arith))) ∙ l;
        head = stored g end F m size (env_word r s 2) x (here, omega arith) (omega (arith, header_lt cr)) ∙ e;
        words = λ j h. absurd (omega arith);
      }

  pub put_word : (cr k x : ℕ) → Bytes t → k < words_of (length t) → x ≡ word_of (padded t) (length t) k → Written (view g m) r s t cr k
      → Written (view g (with_word g.bits m (addr g (env_word r s (4 + 2 * k))) x)) r s t cr (k + 1)
  put_word cr k x b h e W =
      record {
        len = away 0 (omega arith) ∙ W.len;
        head = away 2 (omega arith) ∙ W.head;
        words = λ j l.
            elim (same_or_not j k) [
              | inl q ↦ rw q (stored g end F m size (env_word r s (4 + 2 * k)) x (here, omega arith) (rw e (word_lt t k b h short)) ∙ e)
              | inr q ↦ away (4 + 2 * j) (omega arith) ∙ W.words j (omega arith)
            ];
      }
    where
      away : (o : ℕ) → o + 2 ≤ 4 + 2 * k → view g (with_word g.bits m (addr g (env_word r s (4 + 2 * k))) x) (env_word r s o) ≡ view g m (env_word r s o)
      away o l = kept g end F m size (env_word r s (4 + 2 * k)) (env_word r s o) x (offsets_far g end F r s (4 + 2 * k) o (inr l))

pub letter : (v : Place → ℕ) (r : Ring) (s : ℕ) (t : List ℕ) (cr : ℕ) → length t ≤ 60 → Bytes t → cr < 16 → Written v r s t cr (words_of (length t)) → Letter v r s (entry t cr)
letter v r s t cr h b f W = record { short = h; bytes = b; few = f; len = W.len; head = W.head; words = W.words }
