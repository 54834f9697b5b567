-- Laws of host memory, over the number of address bits. A word that was written is read back, every other byte is as it was,
-- and the length is kept. Assumes nothing.
use Prim.Native.Nat.{ℕ, ◌+◌, ◌*◌, ◌-◌, ◌/◌, ◌%◌, ◌<◌, ◌≤◌}
use mathlib.Core.Path.{◌≡◌, refl, sym, ap, ap₂, ◌∙◌}
use mathlib.Core.Bool.{Bool, true, false, cond}
use mathlib.Core.Logic.{◌⊎◌, inl, inr}
use mathlib.Core.List.{◌++◌}
use native.Mathlib.Omega.{arith}
use Rattle.std.specs.Prelude.{◌&&◌}
use lib.Dec.{leb}
use lib.ListN.{length, get_or, set, take, drop, replicate, length-set, length-drop, length-take, length-append, length-replicate, get_or-replicate, get_or-append}
use lib.Seq.{get_or-set_same, get_or-set_other, drop-drop, length-take-le, get_or-append-add, get_or-take, get_or-drop}
use borrow.Author.Tests.{le-leb, leb-true}
use Rattle.base_memory.specs.Memory.{Memory, usable, lies, inside, word_in, word_at, with_word, cleared}
use Rattle.std.specs.Prelude.{Some}

-- usable memory
pub usable_le : (n size : ℕ) → usable n size ≤ size
unfolding usable
usable_le n size = omega arith

-- a word inside, as a fact
pub inside_yes : (n : ℕ) (m : Memory) (a u : ℕ) → u ≡ usable n (length m) → a + 2 ≤ u → true ≡ inside n m a
unfolding inside
inside_yes n m a u e h = sym (le-leb (a + 2) (usable n (length m)) (omega arith))

pub inside_end : (n : ℕ) (m : Memory) (a : ℕ) → inside n m a ≡ true → a + 2 ≤ length m
unfolding inside
inside_end n m a e = omega (arith, leb-true (a + 2) (usable n (length m)) e, usable_le n (length m))

pub inside_fits : (n : ℕ) (m : Memory) (a : ℕ) → true ≡ inside n m a → a + 2 ≤ length m
inside_fits n m a e = inside_end n m a (sym e)

pub inside_still : (n : ℕ) (m : Memory) (a x : ℕ) → true ≡ inside n m a → a + 1 < length (set m a x)
inside_still n m a x e = simp length-set (omega (arith, inside_fits n m a e))

pub word_at_yes : (n : ℕ) (m : Memory) (a : ℕ) → true ≡ inside n m a → Some (word_in m a) ≡ word_at n m a
unfolding word_at
word_at_yes n m a e = rw (← e)

pub with_word_no : (n : ℕ) (m : Memory) (a v : ℕ) → false ≡ inside n m a → m ≡ with_word n m a v
unfolding with_word
with_word_no n m a v e = rw (← e)

-- the length is kept, and so is every byte of another word
pub with_word_length : (n : ℕ) (m : Memory) (a v : ℕ) → length (with_word n m a v) ≡ length m
unfolding with_word
with_word_length n m a v = go (inside n m a)
  where
    go : (b : Bool) → length (cond b (set (set m a (v % 256)) (a + 1) (v / 256)) m) ≡ length m
    go true = simp length-set
    go false = refl

pub with_word_inside : (n : ℕ) (m : Memory) (a v b : ℕ) → inside n (with_word n m a v) b ≡ inside n m b
unfolding inside
with_word_inside n m a v b = ap (λ (k : ℕ). leb (b + 2) (usable n k)) (with_word_length n m a v)

pub with_word_low : (n : ℕ) (m : Memory) (a v : ℕ) → inside n m a ≡ true → get_or (with_word n m a v) a 0 ≡ v % 256
unfolding with_word
with_word_low n m a v e =
    let h = inside_end n m a e in
    let d : (a ≡ a + 1 → ⊥) = omega arith in
    let l : a < length m = omega arith in
    rw (e, get_or-set_other, get_or-set_same)

pub with_word_high : (n : ℕ) (m : Memory) (a v : ℕ) → inside n m a ≡ true → get_or (with_word n m a v) (a + 1) 0 ≡ v / 256
unfolding with_word
with_word_high n m a v e =
    let h = inside_end n m a e in
    let l : a + 1 < length (set m a (v % 256)) = simp length-set (omega arith) in
    rw (e, get_or-set_same)

pub with_word_other : (n : ℕ) (m : Memory) (a v j : ℕ) → (j ≡ a → ⊥) → (j ≡ a + 1 → ⊥) → get_or (with_word n m a v) j 0 ≡ get_or m j 0
unfolding with_word
with_word_other n m a v j p q = go (inside n m a)
  where
    go : (b : Bool) → get_or (cond b (set (set m a (v % 256)) (a + 1) (v / 256)) m) j 0 ≡ get_or m j 0
    go true = rw (get_or-set_other, get_or-set_other)
    go false = refl

-- a word that was written is read back; a word that does not meet it is as it was
pub read_own : (n : ℕ) (m : Memory) (a v : ℕ) → inside n m a ≡ true → v < 65536 → word_at n (with_word n m a v) a ≡ Some v
unfolding word_at
read_own n m a v e h = rw (with_word_inside n m a v a, e, with_word_low n m a v e, with_word_high n m a v e) (ap Some (omega arith))

pub word_in_other : (n : ℕ) (m : Memory) (a b v : ℕ) → (a + 1 < b) ⊎ (b + 1 < a) → word_in (with_word n m a v) b ≡ word_in m b
word_in_other n m a b v (inl d) =
    ap₂ (λ (x y : ℕ). x + y * 256) (with_word_other n m a v b (omega arith) (omega arith)) (with_word_other n m a v (b + 1) (omega arith) (omega arith))
word_in_other n m a b v (inr d) =
    ap₂ (λ (x y : ℕ). x + y * 256) (with_word_other n m a v b (omega arith) (omega arith)) (with_word_other n m a v (b + 1) (omega arith) (omega arith))

pub read_other : (n : ℕ) (m : Memory) (a b v : ℕ) → (a + 1 < b) ⊎ (b + 1 < a) → word_at n (with_word n m a v) b ≡ word_at n m b
unfolding word_at
read_other n m a b v d = rw (with_word_inside n m a v b, word_in_other n m a b v d)

-- clearing a part
module _ (n : ℕ) (m : Memory) (a e u : ℕ) (eq : u ≡ usable n (length m)) where
  pub lies_yes : a ≤ e → e ≤ u → true ≡ lies n m a e
  unfolding lies
  lies_yes h l = simp (le-leb a e h, le-leb e (usable n (length m)) (omega arith))

both : (x y : Bool) → true ≡ (x && y) → (x ≡ true) × (y ≡ true)
both true true e = (refl, refl)
both true false e = absurd (cc e)
both false y e = absurd (cc e)

pub lies_fits : (n : ℕ) (m : Memory) (a e : ℕ) → true ≡ lies n m a e → (a ≤ e) × (e ≤ length m)
unfolding lies
lies_fits n m a e t =
    let b = both (leb a e) (leb e (usable n (length m))) t in
    (leb-true a e b.0, omega (arith, leb-true e (usable n (length m)) b.1, usable_le n (length m)))

pub cleared_no : (n : ℕ) (m : Memory) (a e : ℕ) → false ≡ lies n m a e → m ≡ cleared n m a e
unfolding cleared
cleared_no n m a e h = rw (← h)

-- the part comes back as zeros, between what stood before it and what stood after it
pub cleared_yes : (n : ℕ) (m p : Memory) (a e : ℕ) → true ≡ lies n m a e → p ≡ replicate (length (take (e - a) (drop a m))) 0
    → take a m ++ (p ++ drop (e - a) (drop a m)) ≡ cleared n m a e
unfolding cleared
cleared_yes n m p a e t g =
    let f = lies_fits n m a e t in
    let s : a + (e - a) ≡ e = omega (arith, f.0) in
    let k : e - a ≤ length (drop a m) = simp length-drop (omega (arith, f.0, f.1)) in
    rw (← t, g, length-take-le, drop-drop, s)

-- every byte after a clearing: zero inside, as it was outside
module _ (n : ℕ) (m : Memory) (a e : ℕ) (t : lies n m a e ≡ true) (p : a ≤ e) (q : e ≤ length m) where
  pub cleared_length : length (cleared n m a e) ≡ length m
  unfolding cleared
  cleared_length = rw t (simp (length-append, length-replicate, length-drop, length-take) (omega arith))

  pub cleared_inside : (j : ℕ) → a ≤ j → j < e → get_or (cleared n m a e) j 0 ≡ 0
  unfolding cleared
  cleared_inside j l h =
      let ha : length (take a m) ≡ a = length-take-le a m (omega arith) in
      let k : length (take a m) + (j - a) ≡ j = omega arith in
      let g : j - a < e - a = omega arith in
      rw t
      (ap (λ (x : ℕ). get_or (take a m ++ (replicate (e - a) 0 ++ drop e m)) x 0) (sym k)
      ∙ get_or-append-add (take a m) (replicate (e - a) 0 ++ drop e m) (j - a) 0
      ∙ get_or-append (replicate (e - a) 0) (drop e m) 0 (j - a) (simp length-replicate g)
      ∙ get_or-replicate (e - a) (j - a) 0 0 g)

  pub cleared_before : (j : ℕ) → j < a → get_or (cleared n m a e) j 0 ≡ get_or m j 0
  unfolding cleared
  cleared_before j h =
      let l : a ≤ length m = omega arith in
      let g : j < length (take a m) = rw (length-take-le a m l) h in
      rw t (get_or-append (take a m) (replicate (e - a) 0 ++ drop e m) 0 j g ∙ get_or-take a m j 0 h)

  pub cleared_after : (j : ℕ) → e ≤ j → get_or (cleared n m a e) j 0 ≡ get_or m j 0
  unfolding cleared
  cleared_after j h =
      let ha : length (take a m) ≡ a = length-take-le a m (omega arith) in
      let hr : length (replicate {A = ℕ} (e - a) 0) ≡ e - a = length-replicate (e - a) 0 in
      let k : length (take a m) + (length (replicate {A = ℕ} (e - a) 0) + (j - e)) ≡ j = omega arith in
      let s : e + (j - e) ≡ j = omega arith in
      rw t
      (ap (λ (x : ℕ). get_or (take a m ++ (replicate (e - a) 0 ++ drop e m)) x 0) (sym k)
      ∙ get_or-append-add (take a m) (replicate (e - a) 0 ++ drop e m) (length (replicate {A = ℕ} (e - a) 0) + (j - e)) 0
      ∙ get_or-append-add (replicate (e - a) 0) (drop e m) (j - e) 0
      ∙ get_or-drop e m (j - e) 0
      ∙ ap (λ (x : ℕ). get_or m x 0) s)
