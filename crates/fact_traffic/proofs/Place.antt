-- Places of an accepted setup lie in memory and keep clear of each other, so a write at one changes no other. The one file with
-- addresses and bytes. Assumes nothing.
use Rattle.std.specs.Prelude.{Some}
use Prim.Native.Nat.{ℕ, ◌+◌, ◌<◌, ◌≤◌}
use mathlib.Core.Path.{◌≡◌, sym}
use mathlib.Core.Bool.{true}
use mathlib.Core.Logic.{◌⊎◌, inl, inr}
use native.Mathlib.Omega.{arith}
use lib.ListN.{length}
use Rattle.base_memory.specs.Memory.{Memory, usable, inside, with_word}
use Rattle.base_memory.specs.OneWord.{found}
use Rattle.base_memory.specs.declared.Touch.TheVariants.{Read, Write}
use Rattle.base_memory.proofs.Laws.{inside_yes, word_at_yes, with_word_low, with_word_high, word_in_other}
use Rattle.base_area.specs.Layout.{slots, indicator_back}
use Rattle.base_area.specs.declared.Ring.{Ring}
use Rattle.base_area.specs.declared.Ring.TheVariants.{Command, Response}
use Rattle.fact_layout.specs.Facts.{Clear, Apart, AreaFacts}
use Rattle.fact_traffic.specs.Places.{Place, slot_word, env_word, mark_word, Site, addr, Valid, view}

-- two places of two bytes each that do not meet
abbrev pub Far : Site → Place → Place → Type 0
Far g p q = Clear (addr g p) 2 (addr g q) 2

pub far_sym : (g : Site) (p q : Place) → Far g p q → Far g q p
far_sym g p q (inl h) = inr h
far_sym g p q (inr h) = inl h

module _ (g : Site) (end : ℕ) (F : AreaFacts g.bits g.area g.pool end) where
  back_le : (r : Ring) → (2 ≤ indicator_back r) × (indicator_back r ≤ 4)
  back_le Command = omega arith
  back_le Response = omega arith

  pub valid_in : (p : Place) → Valid g p → addr g p + 2 ≤ end
  valid_in (slot_word r i o) h = omega (arith, F.slot_inside r i h.0, h.1)
  valid_in (env_word r i o) h = omega (arith, F.envelope_inside r i h.0, h.1)
  valid_in (mark_word r) h = omega (arith, F.indicator_below r, F.slot_from r 0, F.slot_inside r 0 (some_slot r))
    where
      some_slot : (r : Ring) → 0 < slots g.area r
      some_slot r = Rattle.fact_layout.proofs.Rings.slots_some g.area r

  -- words of two slots, and the two words of one
  pub slots_far : (r : Ring) (i o : ℕ) (r' : Ring) (i' o' : ℕ) → Valid g (slot_word r i o) → Valid g (slot_word r' i' o') → Apart r i r' i' → Far g (slot_word r i o) (slot_word r' i' o')
  slots_far r i o r' i' o' h h' d =
      elim (F.slots_clear r i r' i' h.0 h'.0 d) [
        | inl c ↦ inl (omega (arith, h.1))
        | inr c ↦ inr (omega (arith, h'.1))
      ]

  pub words_far : (r : Ring) (i o o' : ℕ) → o + 2 ≤ o' → Far g (slot_word r i o) (slot_word r i o')
  words_far r i o o' h = inl (omega arith)

  -- words of two envelopes, and two words of one
  pub envs_far : (r : Ring) (i o : ℕ) (r' : Ring) (i' o' : ℕ) → Valid g (env_word r i o) → Valid g (env_word r' i' o') → Apart r i r' i' → Far g (env_word r i o) (env_word r' i' o')
  envs_far r i o r' i' o' h h' d =
      elim (F.envelopes_clear r i r' i' h.0 h'.0 d) [
        | inl c ↦ inl (omega (arith, h.1))
        | inr c ↦ inr (omega (arith, h'.1))
      ]

  pub offsets_far : (r : Ring) (i o o' : ℕ) → (o + 2 ≤ o') ⊎ (o' + 2 ≤ o) → Far g (env_word r i o) (env_word r i o')
  offsets_far r i o o' (inl h) = inl (omega arith)
  offsets_far r i o o' (inr h) = inr (omega arith)

  -- slots, envelopes and indicators
  pub slot_env : (r : Ring) (i o : ℕ) (r' : Ring) (i' o' : ℕ) → Valid g (slot_word r i o) → Valid g (env_word r' i' o') → Far g (slot_word r i o) (env_word r' i' o')
  slot_env r i o r' i' o' h h' =
      elim F.pool_clear [
        | inl c ↦ inr (omega (arith, F.envelope_to r' i' h'.0, h'.1, F.slot_from r i))
        | inr c ↦ inl (omega (arith, F.slot_to r i h.0, h.1, F.envelope_from r' i'))
      ]

  pub mark_slot : (r : Ring) (r' : Ring) (i' o' : ℕ) → Far g (mark_word r) (slot_word r' i' o')
  mark_slot r r' i' o' = inl (omega (arith, F.indicator_below r, F.slot_from r' i'))

  pub mark_env : (r : Ring) (r' : Ring) (i' o' : ℕ) → Valid g (env_word r' i' o') → Far g (mark_word r) (env_word r' i' o')
  mark_env r r' i' o' h' =
      elim F.pool_clear [
        | inl c ↦ inr (omega (arith, F.envelope_to r' i' h'.0, h'.1, (back_le r).1, F.base_low_lem))
        | inr c ↦ inl (omega (arith, F.indicator_below r, F.envelope_from r' i', F.slot_from r 0, F.slot_to r 0 (Rattle.fact_layout.proofs.Rings.slots_some g.area r)))
      ]

  -- a memory of the right length
  module _ (m : Memory) (size : end ≡ usable g.bits (length m)) where
    pub lies_in : (p : Place) → Valid g p → inside g.bits m (addr g p) ≡ true
    lies_in p h = sym (inside_yes g.bits m (addr g p) end size (valid_in p h))

    pub reads : (p : Place) → Valid g p → found g.bits m (Read (addr g p)) ≡ Some (view g m p)
    reads p h = sym (word_at_yes g.bits m (addr g p) (sym (lies_in p h)))

    pub writes : (p : Place) (x : ℕ) → Valid g p → found g.bits m (Write (addr g p) x) ≡ Some x
    writes p x h = rw (lies_in p h)

    pub stored : (p : Place) (x : ℕ) → Valid g p → x < 65536 → view g (with_word g.bits m (addr g p) x) p ≡ x
    stored p x h l = rw (with_word_low g.bits m (addr g p) x (lies_in p h), with_word_high g.bits m (addr g p) x (lies_in p h)) (omega arith)

    pub kept : (p q : Place) (x : ℕ) → Far g p q → view g (with_word g.bits m (addr g p) x) q ≡ view g m q
    kept p q x (inl c) = word_in_other g.bits m (addr g p) (addr g q) x (inl (omega arith))
    kept p q x (inr c) = word_in_other g.bits m (addr g p) (addr g q) x (inr (omega arith))
