-- "One step touches at most one word": what a step does to memory is one of these, and nothing else.
use Rattle.std.specs.Prelude.{ℕ, ◌+◌, ◌≡◌, length, get_or, cond, ◌⊎◌, Option, Some, None}
use Rattle.base_memory.specs.Memory.{Memory, inside, word_at, with_word}
use Rattle.base_memory.specs.declared.Touch.{Touch}
use Rattle.base_memory.specs.declared.Touch.TheVariants.{Nothing, Below, Read, Write}

-- The word that a touch finds: what it reads, or what it wrote. A word below address 0 is outside; touching nothing finds 0.
abbrev pub found : ℕ → Memory → Touch → Option ℕ
found n m Nothing = Some 0
found n m Below = None
found n m (Read a) = word_at n m a
found n m (Write a v) = cond (inside n m a) (Some v) None

-- What a touch leaves in memory.
abbrev pub left : ℕ → Memory → Touch → Memory
left n m Nothing = m
left n m Below = m
left n m (Read a) = m
left n m (Write a v) = with_word n m a v

-- The two bytes of the word that a touch names.
abbrev pub Named : ℕ → ℕ → Type 0
Named a j = (j ≡ a) ⊎ (j ≡ a + 1)

abbrev pub Touches : Touch → ℕ → Type 0
Touches Nothing j = ⊥
Touches Below j = ⊥
Touches (Read a) j = Named a j
Touches (Write a v) j = Named a j

-- Two memories of one length that hold the same in the word that a touch names.
pub record Same (t : Touch) (m m' : Memory) : Type 0 where
  pub size : length m ≡ length m'
  pub agree : (j : ℕ) → Touches t j → get_or m j 0 ≡ get_or m' j 0
