-- A text that is being read a word at a time.
use Rattle.std.specs.Prelude.{ℕ, ◌*◌, ◌<◌, ◌≤◌, ◌≡◌, List, ◌⊎◌, length, get_or}
use Rattle.base_texts.specs.Texts.{room}

-- What is held when the first k words of t were read into it.
pub record Got (held t : List ℕ) (k : ℕ) : Type 0 where
  pub size : length held ≡ room
  pub there : (j : ℕ) → j < 2 * k → j < length t → get_or held j 0 ≡ get_or t j 0
  pub rest : (j : ℕ) → (length t ≤ j) ⊎ (2 * k ≤ j) → get_or held j 0 ≡ 0
