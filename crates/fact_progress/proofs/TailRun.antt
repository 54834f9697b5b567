-- The tail of a fetch or a post, said once over the ring and the side, and a port's rings in memory. Assumes nothing.
use Rattle.std.specs.Prelude.{None, Ok, Some}
use Prim.Native.Nat.{ℕ, suc, ◌+◌, ◌*◌, ◌-◌, ◌<◌, ◌≤◌}
use mathlib.Core.Path.{◌≡◌, refl}
use mathlib.Core.Bool.{Bool, true, false, cond}
use native.Mathlib.Omega.{arith}
use lib.ListN.{length}
use borrow.Author.Tests.{le-leb}
use Rattle.base_words.specs.Fields.{is_set, owner}
use Rattle.base_texts.specs.Texts.{words_of}
use Rattle.base_memory.specs.Memory.{Memory, usable, word_in}
use Rattle.base_memory.specs.OneWord.{found, left}
use Rattle.base_memory.specs.declared.Touch.TheVariants.{Write}
use Rattle.base_answers.specs.Told.{Told, told, going}
use Rattle.base_area.specs.Layout.{slots, base, slot_at, before_of, alone, indicator_back, indicator, has_vector}
use Rattle.base_area.specs.declared.Area.{Area}
use Rattle.base_area.specs.declared.Ring.{Ring}
use Rattle.base_area.specs.declared.Ring.TheVariants.{Command, Response}
use Rattle.fact_layout.proofs.Rings.{every_layout, number_lt}
use Rattle.base_side.specs.Step.{Outcome, with_memory, onward}
use Rattle.port_state.specs.Tail.{tail_start, tail_asks, test_follows, mark_follows, tail_follows}
use Rattle.base_side.specs.declared.Cursor.{Cursor}
use Rattle.port_state.specs.declared.state.TailStage.{TailStage}
use Rattle.port_state.specs.declared.state.TailStage.TheVariants.{Test, Mark}
use Rattle.port_state.specs.declared.state.Port.{Port}
use Rattle.fact_progress.specs.Alone.{out, EndsAfter, closes, goes, tail_steps, tail_memory, tail_interrupt}
use Rattle.fact_progress.specs.Progress.{steps_for, RingsIn, with_tail}
use Rattle.fact_progress.proofs.Runs.{found_read, found_write, counted}

-- a port's slots and indicators in memory
back_le : (r : Ring) → (2 ≤ indicator_back r) × (indicator_back r ≤ 4)
back_le Command = omega arith
back_le Response = omega arith

module _ (n : ℕ) (a : Area) (m : Memory) (rings : RingsIn n a m) where
  pub slot_in : (r : Ring) (i : ℕ) → i < slots a r → slot_at n a r i + 4 ≤ usable n (length m)
  unfolding slot_at
  slot_in r i h = omega (arith, number_lt a r i h, rings.high)

  indicator_is : (r : Ring) → indicator n a r 1 ≡ Write (base n a - indicator_back r) 1
  unfolding indicator
  indicator_is r = rw (le-leb (indicator_back r) (base n a) (omega (arith, (back_le r).1, rings.low)))

  marked : (r : Ring) → found n m (indicator n a r 1) ≡ Some 1
  marked r = rw (indicator_is r) (found_write n m (base n a - indicator_back r) (omega (arith, (back_le r).0, (back_le r).1, rings.low, rings.high)) 1)

pub rings_kept : (n : ℕ) (a : Area) (k m : Memory) → length k ≡ length m → RingsIn n a m → RingsIn n a k
rings_kept n a k m e rings = record { low = rings.low; high = rw e rings.high }

-- the tail, of either side: what its steps do, told by what they find
module _ (n : ℕ) (a : Area) (r : Ring) (c : Cursor) (step : Port → Memory → Outcome Port) (at : TailStage → Port) (ans : Bool → Told) (end : Port)
    (on : (s : TailStage) (k : Memory) → tail_follows a s (found n k (tail_asks n a r s c)) ≡ (Ok None)
    → step (at s) k ≡ out (told going false) (at Mark) (left n k (tail_asks n a r s c)))
    (off : (s : TailStage) (k : Memory) (i : Bool) → tail_follows a s (found n k (tail_asks n a r s c)) ≡ Ok (Some i)
    → step (at s) k ≡ out (ans i) end (left n k (tail_asks n a r s c)))
    (m : Memory) (rings : RingsIn n a m) (index : c.slot < slots a r)
  where
    abbrev previous : ℕ
    previous = word_in m (slot_at n a r (before_of a r c.slot) + 2)

    mark : step (at Mark) m ≡ out (ans (has_vector a.first)) end (left n m (indicator n a r 1))
    unfolding tail_asks test_follows mark_follows
    mark = off Mark m (has_vector a.first) (rw (marked n a m rings r))

    previous_found : found n m (tail_asks n a r Test c) ≡ Some previous
    unfolding tail_asks
    previous_found =
        found_read n m (slot_at n a r (before_of a r c.slot) + 2)
        (omega (arith, slot_in n a m rings r (before_of a r c.slot) ((every_layout.ring a r).before_in c.slot index)))

    test_on : is_set owner previous ≡ true → step (at Test) m ≡ out (told going false) (at Mark) m
    unfolding tail_asks test_follows mark_follows
    test_on e = on Test m (rw (previous_found, e))

    test_off : is_set owner previous ≡ false → step (at Test) m ≡ out (ans false) end m
    unfolding tail_asks test_follows mark_follows
    test_off e = off Test m false (rw (previous_found, e))

    pub tail_ends : EndsAfter step (tail_steps n a r c.slot m) (at (tail_start a r)) m (ans (tail_interrupt n a r c.slot m)) end (tail_memory n a r c.slot m)
    unfolding tail_start
    tail_ends = go (alone a r) refl (is_set owner previous) refl
      where
        go : (b : Bool) → alone a r ≡ b → (o : Bool) → is_set owner previous ≡ o
            → EndsAfter step (tail_steps n a r c.slot m) (at (cond (alone a r) Mark Test)) m (ans (tail_interrupt n a r c.slot m)) end (tail_memory n a r c.slot m)
        go true e o f = rw e (closes mark)
        go false e true f = rw (e, f) (goes (test_on f) (closes mark))
        go false e false f = rw (e, f) (closes (test_off f))

    -- the write that gives the slot up, and the tail where F was 1
    pub released : (s : Port) (k : Memory) (f : Bool)
        → step s k ≡ (with_memory (cond f (onward (at (tail_start a r))) (record { told = ans false; state = end })) m)
        → EndsAfter step (with_tail n f a r c.slot m 1) s k (ans (cond f (tail_interrupt n a r c.slot m) false)) end (cond f (tail_memory n a r c.slot m) m)
    released s k true e = counted (omega arith) (goes e tail_ends)
    released s k false e = closes e

-- four steps, the text's words, the release and the tail
pub tail_count : (n : ℕ) (f : Bool) (a : Area) (r : Ring) (i : ℕ) (m : Memory) (size : ℕ)
    → suc (suc (suc (suc (words_of size + with_tail n f a r i m 1)))) ≡ with_tail n f a r i m (steps_for size)
tail_count n true a r i m size = omega arith
tail_count n false a r i m size = omega arith

-- an envelope's words, counted from its text
pub text_in : (x w k u : ℕ) → 4 ≤ x → x + 2 * w ≤ u → k < w → x - 4 + 4 + 2 * k + 2 ≤ u
text_in x w k u l h b = omega arith

pub words_in : (x w u : ℕ) → 4 ≤ x → x + 2 * w ≤ u → x - 4 + 4 + 2 * w ≤ u
words_in x w u l h = omega arith

pub head_in : (x w u : ℕ) → 4 ≤ x → x + 2 * w ≤ u → x - 4 + 4 ≤ u
head_in x w u l h = omega arith

pub start_in : (x w u : ℕ) → x + 2 * w ≤ u → x ≤ u
start_in x w u h = omega arith
