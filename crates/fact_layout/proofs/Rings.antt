-- Ring and layout facts from the definitions: powers of two for the rings, and one number for each slot of both. Assumes nothing.
use Prim.Native.Nat.{ℕ, ◌+◌, ◌*◌, ◌-◌, ◌%◌, ◌<◌, ◌≤◌}
use mathlib.Core.Path.{◌≡◌, refl, sym, ap, ◌∙◌}
use mathlib.Core.Bool.{Bool, true, false, ◌&&◌, ◌||◌, false≢true}
use mathlib.Core.Logic.{◌⊎◌, inl, inr}
use native.Mathlib.Omega.{arith}
use native.Mathlib.Nat.{mod-lt, mod-eq_of_lt, mod_self, mul-suc, mul-le-mul_left}
use lib.Dec.{leb, eqb, ltb}
use lib.Pow.{pow_pos, pow_mono}
use borrow.Author.Tests.{leb-true, eqb-true, eqb-false, ltb-true, ltb-false, le-leb, ne_eqb}
use Rattle.base_area.specs.Layout.{exponent, slots, slot_count, base, number_of, slot_at, rings_end, next_of, before_of, alone, indicator_back, indicator, envelope_at}
use Rattle.base_area.specs.Setup.{pool_end, fits}
use Rattle.base_area.specs.declared.Area.{Area}
use Rattle.base_area.specs.declared.Ring.{Ring}
use Rattle.base_area.specs.declared.Ring.TheVariants.{Command, Response}
use Rattle.base_memory.specs.declared.Touch.TheVariants.{Write}
use Rattle.fact_layout.specs.Facts.{Clear, RingFacts, Apart, rings, rings', slots_apart, AreaFacts, EveryLayout}

-- a number is below another or not
pub lt_or_ge : (a b : ℕ) → (a < b) ⊎ (b ≤ a)
lt_or_ge a b = go (ltb a b) refl
  where
    go : (t : Bool) → ltb a b ≡ t → (a < b) ⊎ (b ≤ a)
    go true e = inl (ltb-true a b e)
    go false e = inr (ltb-false a b e)

pub same_or_not : (a b : ℕ) → (a ≡ b) ⊎ (a ≡ b → ⊥)
same_or_not a b = go (eqb a b) refl
  where
    go : (t : Bool) → eqb a b ≡ t → (a ≡ b) ⊎ (a ≡ b → ⊥)
    go true e = inl (eqb-true a b e)
    go false e = inr (eqb-false a b e)

-- the exponents are three bits wide
exponent_lt : (a : Area) (r : Ring) → exponent a r ≤ 7
exponent_lt a Command = omega arith
exponent_lt a Response = omega arith

pub slots_some : (a : Area) (r : Ring) → 1 ≤ slots a r
unfolding slots
slots_some a r = pow_pos (exponent a r)

pub slots_most : (a : Area) (r : Ring) → slots a r ≤ 128
unfolding slots
slots_most a r = pow_mono {j = 7} (exponent_lt a r)

module _ (a : Area) (r : Ring) where
  next_is : (i : ℕ) → next_of a r i ≡ (i + 1) % slots a r
  unfolding next_of
  next_is i = refl

  next_inner : (i : ℕ) → i + 1 < slots a r → next_of a r i ≡ i + 1
  next_inner i h = next_is i ∙ mod-eq_of_lt h

  next_wraps : (i : ℕ) → i + 1 ≡ slots a r → next_of a r i ≡ 0
  next_wraps i e = next_is i ∙ ap (λ (k : ℕ). k % slots a r) e ∙ mod_self (slots a r)

  before_zero : before_of a r 0 ≡ slots a r - 1
  unfolding before_of
  before_zero = refl

  before_inner : (i : ℕ) → (i ≡ 0 → ⊥) → before_of a r i ≡ i - 1
  unfolding before_of
  before_inner i h = rw (ne_eqb i 0 h)

  next_below : (i : ℕ) → next_of a r i < slots a r
  next_below i = rw (next_is i) (mod-lt (i + 1) (slots_some a r))

  before_below : (i : ℕ) → i < slots a r → before_of a r i < slots a r
  before_below i h =
      elim (same_or_not i 0) [
        | inl e ↦ rw (e, before_zero) (omega (arith, slots_some a r))
        | inr d ↦ rw (before_inner i d) (omega arith)
      ]

  before_next_is : (i : ℕ) → i < slots a r → before_of a r (next_of a r i) ≡ i
  before_next_is i h =
      elim (same_or_not (i + 1) (slots a r)) [
        | inl e ↦ rw (next_wraps i e, before_zero) (omega arith)
        | inr d ↦ rw (next_inner i (omega arith), before_inner (i + 1) (omega arith)) (omega arith)
      ]

  next_before_is : (i : ℕ) → i < slots a r → next_of a r (before_of a r i) ≡ i
  next_before_is i h =
      let s = slots_some a r in
      elim (same_or_not i 0) [
        | inl e ↦ rw (e, before_zero) (next_wraps (slots a r - 1) (omega arith))
        | inr d ↦ rw (before_inner i d, next_inner (i - 1) (omega arith)) (omega arith)
      ]

  alone_is : alone a r ≡ true → slots a r ≡ 1
  unfolding alone
  alone_is e = eqb-true (slots a r) 1 e

  alone_not : alone a r ≡ false → (slots a r ≡ 1 → ⊥)
  unfolding alone
  alone_not e = eqb-false (slots a r) 1 e

  not_before : (slots a r ≡ 1 → ⊥) → (i : ℕ) → i < slots a r → before_of a r i ≡ i → ⊥
  not_before d i h e =
      elim (same_or_not i 0) [
        | inl z ↦ d (omega (arith, sym before_zero ∙ ap (before_of a r) (sym z) ∙ e))
        | inr z ↦ omega (arith, sym (before_inner i z) ∙ e)
      ]

  ring_facts : RingFacts a r
  ring_facts =
      record {
        some = slots_some a r;
        most = slots_most a r;
        next_in = next_below;
        before_in = before_below;
        before_first = before_zero;
        next_last = next_wraps (slots a r - 1) (omega (arith, slots_some a r));
        before_next = before_next_is;
        next_before = next_before_is;
        alone_one = alone_is;
        not_alone = λ e. not_before (alone_not e);
      }

-- a slot's number among all slots
pub number_lt : (a : Area) (r : Ring) (i : ℕ) → i < slots a r → number_of a r i < slot_count a
number_lt a Command i h = omega arith
number_lt a Response i h = omega (arith, slots_some a Command)

number_apart : (a : Area) (r : Ring) (i : ℕ) (r' : Ring) (i' : ℕ) → i < slots a r → i' < slots a r' → Apart r i r' i' → number_of a r i ≡ number_of a r' i' → ⊥
number_apart a Command i Response i' h h' rings e = omega arith
number_apart a Response i Command i' h h' rings' e = omega arith
number_apart a Command i Command i' h h' (slots_apart d) e = d (omega arith)
number_apart a Response i Response i' h h' (slots_apart d) e = d (omega arith)

-- equal strides keep clear where the numbers differ
stride_le : (k p q : ℕ) → p < q → k * p + k ≤ k * q
stride_le k p q l = rw (← mul-suc k p) (mul-le-mul_left k l)

stride_clear : (x k p q : ℕ) → (p ≡ q → ⊥) → Clear (x + k * p) k (x + k * q) k
stride_clear x k p q d =
    elim (lt_or_ge p q) [
      | inl l ↦ inl (omega (arith, stride_le k p q l))
      | inr l ↦ inr (omega (arith, stride_le k q p (omega arith)))
    ]

and_true : (x y : Bool) → (x && y) ≡ true → (x ≡ true) × (y ≡ true)
and_true true y e = (refl, e)
and_true false y e = absurd (false≢true e)

or_true : (x y : Bool) → (x || y) ≡ true → (x ≡ true) ⊎ (y ≡ true)
or_true true y e = inl refl
or_true false y e = inr e

-- what an accepted setup says
module _ (n : ℕ) (a : Area) (pool end : ℕ) (e : fits n a pool end ≡ true) where
  says : ((pool % 2 ≡ 0) × (4 ≤ base n a) × (rings_end n a ≤ end) × (pool_end a pool ≤ end))
      × ((pool_end a pool ≤ base n a - 4) ⊎ (rings_end n a ≤ pool))
  unfolding fits
  says =
      let away : Bool = leb (pool_end a pool) (base n a - 4) || leb (rings_end n a) pool in
      let p = and_true (eqb (pool % 2) 0 && leb 4 (base n a) && leb (rings_end n a) end && leb (pool_end a pool) end) away e in
      let q = and_true (eqb (pool % 2) 0 && leb 4 (base n a) && leb (rings_end n a) end) (leb (pool_end a pool) end) p.0 in
      let s = and_true (eqb (pool % 2) 0 && leb 4 (base n a)) (leb (rings_end n a) end) q.0 in
      let t = and_true (eqb (pool % 2) 0) (leb 4 (base n a)) s.0 in (
        (eqb-true (pool % 2) 0 t.0, leb-true 4 (base n a) t.1, leb-true (rings_end n a) end s.1, leb-true (pool_end a pool) end q.1),
        elim (or_true (leb (pool_end a pool) (base n a - 4)) (leb (rings_end n a) pool) p.1) [
          | inl h ↦ inl (leb-true (pool_end a pool) (base n a - 4) h)
          | inr h ↦ inr (leb-true (rings_end n a) pool h)
        ],
      )

  slot_is : (r : Ring) (i : ℕ) → slot_at n a r i ≡ base n a + 4 * number_of a r i
  unfolding slot_at
  slot_is r i = refl

  envelope_is : (r : Ring) (i : ℕ) → envelope_at a pool r i ≡ pool + 64 * number_of a r i
  unfolding envelope_at
  envelope_is r i = refl

  indicator_is : (r : Ring) (v : ℕ) → indicator_back r ≤ base n a → indicator n a r v ≡ Write (base n a - indicator_back r) v
  unfolding indicator
  indicator_is r v h = rw (le-leb (indicator_back r) (base n a) h)

  back_le : (r : Ring) → (2 ≤ indicator_back r) × (indicator_back r ≤ 4)
  back_le Command = omega arith
  back_le Response = omega arith

  area_facts : AreaFacts n a pool end
  area_facts =
      record {
        base_low_lem = says.0.1;
        slot_from = λ r i. omega (arith, slot_is r i);
        slot_to = λ r i h. omega (arith, slot_is r i, number_lt a r i h);
        slot_inside = λ r i h. omega (arith, slot_is r i, number_lt a r i h, says.0.2);
        slots_clear = λ r i r' i' h h' d. rw (slot_is r i, slot_is r' i') (stride_clear (base n a) 4 (number_of a r i) (number_of a r' i') (number_apart a r i r' i' h h' d));
        indicator_at = λ r v. indicator_is r v (omega (arith, (back_le r).1, says.0.1));
        indicator_below = λ r. omega (arith, (back_le r).0, (back_le r).1, says.0.1);
        indicators_clear = inl (omega (arith, says.0.1));
        envelope_even = λ r i. rw (envelope_is r i) (omega (arith, says.0.0));
        envelope_from = λ r i. omega (arith, envelope_is r i);
        envelope_to = λ r i h. omega (arith, envelope_is r i, number_lt a r i h);
        envelope_inside = λ r i h. omega (arith, envelope_is r i, number_lt a r i h, says.0.3);
        envelopes_clear = λ r i r' i' h h' d. rw (envelope_is r i, envelope_is r' i') (stride_clear pool 64 (number_of a r i) (number_of a r' i') (number_apart a r i r' i' h h' d));
        pool_clear = elim says.1 [ inl h ↦ inl (omega (arith, says.0.1)) | inr h ↦ inr h ];
      }

pub every_layout : EveryLayout
every_layout = record { ring = ring_facts; area = area_facts }
