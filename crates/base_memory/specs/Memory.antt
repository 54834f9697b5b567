-- Host memory as document 01 has it: a lent run of bytes of any length, words low byte first.
-- Everything is over n, the number of address bits: 18 today.
use Rattle.std.specs.Prelude.{ℕ, ◌+◌, ◌*◌, ◌-◌, ◌/◌, ◌%◌, ◌^◌, min, Bool, cond, ◌&&◌, List, ◌++◌, leb, length, get_or, set, take, drop, replicate, Option, Some, None}

abbrev pub Memory : Type 0
Memory = List ℕ

-- "an odd last byte and bytes from 262,144 on are never touched": how many bytes of a memory of some length count.
unfoldable pub usable : ℕ → ℕ → ℕ
usable n size = min (size / 2 * 2) (2 ^ n)

-- Whether the stretch from a to e lies in memory.
unfoldable pub lies : ℕ → Memory → ℕ → ℕ → Bool
lies n m a e = leb a e && leb e (usable n (length m))

-- Whether the word at an address lies in memory.
unfoldable pub inside : ℕ → Memory → ℕ → Bool
inside n m a = leb (a + 2) (usable n (length m))

-- The two bytes at an address as a word, low byte first.
abbrev pub word_in : Memory → ℕ → ℕ
word_in m a = get_or m a 0 + get_or m (a + 1) 0 * 256

-- What a read of the word at an address finds.
unfoldable pub word_at : ℕ → Memory → ℕ → Option ℕ
word_at n m a = cond (inside n m a) (Some (word_in m a)) None

-- Memory with a word written at an address; unchanged where that word lies outside.
unfoldable pub with_word : ℕ → Memory → ℕ → ℕ → Memory
with_word n m a v = cond (inside n m a) (set (set m a (v % 256)) (a + 1) (v / 256)) m

-- Memory with zeros from a to e; unchanged where that stretch leaves memory.
unfoldable pub cleared : ℕ → Memory → ℕ → ℕ → Memory
cleared n m a e = cond (lies n m a e) (take a m ++ (replicate (e - a) 0 ++ drop e m)) m
