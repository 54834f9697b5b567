-- An operation that is stepped alone: how many steps, what they answer, what they leave.
use Rattle.std.specs.Prelude.{ℕ, zero, suc, ◌+◌, ◌*◌, ◌≡◌, Bool, false, cond, ◌&&◌, ◌||◌, List, [], ◌∷◌}
use Rattle.base_side.specs.Step.{Outcome}
use Rattle.base_words.specs.Fields.{is_set, owner}
use Rattle.base_texts.specs.Texts.{word_of, with_text}
use Rattle.base_memory.specs.Memory.{Memory, word_in, with_word}
use Rattle.base_memory.specs.OneWord.{left}
use Rattle.base_answers.specs.Told.{Told, told, going}
use Rattle.base_area.specs.Layout.{slot_at, before_of, alone, indicator, has_vector}
use Rattle.base_area.specs.declared.Area.{Area}
use Rattle.base_area.specs.declared.Ring.{Ring}

-- What a step leaves, of either half.
abbrev pub out : {S : Type 0} → Told → S → Memory → Outcome S
out t s m = record { told = t; state = s; memory = m }

-- `EndsAfter step k s m t s' m'`: stepped alone from s over m, the operation answers "going" k - 1 times and closes at
-- step k with t, leaving s' and m'.
pub data EndsAfter {S : Type 0} (step : S → Memory → Outcome S) : ℕ → S → Memory → Told → S → Memory → Type 0 where
  closes : {s s' : S} {m m' : Memory} {t : Told} → step s m ≡ out t s' m' → EndsAfter step 1 s m t s' m'
  goes : {k : ℕ} {s s₁ s' : S} {m m₁ m' : Memory} {t : Told} → step s m ≡ out (told going false) s₁ m₁ → EndsAfter step k s₁ m₁ t s' m'
      → EndsAfter step (suc k) s m t s' m'

-- Words written one after the other, each an address and a value.
pub record Put : Type 0 where
  pub at : ℕ
  pub word : ℕ

abbrev pub put : ℕ → ℕ → Put
put a v = record { at = a; word = v }

abbrev pub written : ℕ → Memory → List Put → Memory
written n m [] = m
written n m (x ∷ xs) = written n (with_word n m x.at x.word) xs

-- A text's words from word k on, j of them, as an envelope at some address holds them.
abbrev pub text_puts : ℕ → List ℕ → ℕ → ℕ → ℕ → List Put
text_puts envelope room size k zero = []
text_puts envelope room size k (suc j) = put (envelope + 4 + 2 * k) (word_of room size k) ∷ text_puts envelope room size (k + 1) j

-- The room after j words of an envelope's text were read into it, from word k on.
abbrev pub text_got : Memory → ℕ → List ℕ → ℕ → ℕ → ℕ → List ℕ
text_got m envelope room size k zero = room
text_got m envelope room size k (suc j) = text_got m envelope (with_text room size k (word_in m (envelope + 4 + 2 * k))) size (k + 1) j

-- The tail of a fetch or a post that gave slot i up, over the memory that it finds: whether the indicator is written, how many
-- steps that takes, what it leaves, and whether it reports an interrupt.
abbrev pub marks : ℕ → Area → Ring → ℕ → Memory → Bool
marks n a r i m = alone a r || is_set owner (word_in m (slot_at n a r (before_of a r i) + 2))

abbrev pub tail_steps : ℕ → Area → Ring → ℕ → Memory → ℕ
tail_steps n a r i m = cond (alone a r) 1 (cond (is_set owner (word_in m (slot_at n a r (before_of a r i) + 2))) 2 1)

abbrev pub tail_memory : ℕ → Area → Ring → ℕ → Memory → Memory
tail_memory n a r i m = cond (marks n a r i m) (left n m (indicator n a r 1)) m

abbrev pub tail_interrupt : ℕ → Area → Ring → ℕ → Memory → Bool
tail_interrupt n a r i m = marks n a r i m && has_vector a.first
