-- After an accepted setup both rings are empty. Assumes nothing.
use Prim.Native.Nat.{ℕ, ◌+◌, ◌%◌, ◌^◌, ◌<◌, ◌≤◌}
use mathlib.Core.Path.{◌≡◌, sym, ap, ap₂, ◌∙◌}
use mathlib.Core.Bool.{Bool, true, false, not}
use mathlib.Core.List.{[]}
use native.Mathlib.Omega.{arith}
use native.Mathlib.Nat.{zero-mod}
use borrow.Author.Tests.{lt-ltb, le-ltb}
use Rattle.base_words.specs.Fields.{of, address_high}
use Rattle.base_words.specs.Words.{low_word, with_address, high_word}
use Rattle.base_memory.specs.Memory.{Memory, word_in}
use Rattle.base_area.specs.Layout.{slots, slot_count, number_of, slot_at, rings_end, envelope_at}
use Rattle.base_area.specs.Setup.{pool_end, to_port}
use Rattle.base_area.specs.declared.Area.{Area}
use Rattle.base_area.specs.declared.Ring.{Ring}
use Rattle.base_area.specs.declared.Ring.TheVariants.{Command, Response}
use Rattle.fact_layout.specs.Facts.{AreaFacts}
use Rattle.fact_layout.proofs.Rings.{number_lt}
use Rattle.fact_traffic.specs.Places.{slot_word, Site, view}
use Rattle.fact_traffic.specs.Rings.{waits, RingInv}
use Rattle.fact_traffic.proofs.RingLaws.{slot_lt}
use Rattle.fact_traffic.proofs.SetupLaws.{Picture}
use Rattle.fact_traffic.proofs.WordLaws.{high_owner, high_upper, with_upper, upper_small}

-- whose a slot is after the setup
ours : Ring → Bool
ours Command = false
ours Response = true

port_is : (a : Area) (r : Ring) (s : ℕ) → s < slots a r → to_port a (number_of a r s) ≡ ours r
unfolding ours
port_is a Command s l = le-ltb (slots a Response + s) (slots a Response) (omega arith)
port_is a Response s l = lt-ltb s (slots a Response) l

none_waits : (r : Ring) (f : Bool) (w : ℕ) → waits r (high_word (ours r) f w) ≡ false
unfolding ours
none_waits Command f w = high_owner false f w
none_waits Response f w = ap not (high_owner true f w)

module _ (g : Site) (end : ℕ) (F : AreaFacts g.bits g.area g.pool end) (rings_in : rings_end g.bits g.area ≤ end) (pool_in : pool_end g.area g.pool ≤ end)
    (wide : 16 ≤ g.bits) (narrow : g.bits ≤ 30) (low_end : end ≤ 2 ^ g.bits) (m : Memory)
    (P : Picture g.bits g.area g.pool end F rings_in pool_in (slot_count g.area) m) where
  low_word_lem : (r : Ring) (s : ℕ) → s < slots g.area r → view g m (slot_word r s 0) ≡ low_word (envelope_at g.area g.pool r s + 4)
  unfolding slot_at envelope_at
  low_word_lem r s l = ap (word_in m) (omega arith) ∙ P.lows (number_of g.area r s) (number_lt g.area r s l)

  high_word_lem : (r : Ring) (s : ℕ) → s < slots g.area r
      → view g m (slot_word r s 2) ≡ high_word (to_port g.area (number_of g.area r s)) (to_port g.area (number_of g.area r s)) (with_address g.bits 0 (envelope_at g.area g.pool r s + 4))
  unfolding slot_at envelope_at
  high_word_lem r s l = P.highs (number_of g.area r s) (number_lt g.area r s l)

  pub first_ring : (r : Ring) → RingInv g (view g m) r 0 0 [] 0 0
  first_ring r =
      record {
        low = omega arith;
        mid = omega arith;
        cap = omega arith;
        giver = sym (zero-mod (slots g.area r));
        taker = sym (zero-mod (slots g.area r));
        full = λ c a b. absurd (omega arith);
        free = λ c a b.
            ap (waits r)
            (high_word_lem r (c % slots g.area r) (slot_lt g r c)
            ∙ ap₂ (λ (o f : Bool). high_word o f (with_address g.bits 0 (envelope_at g.area g.pool r (c % slots g.area r) + 4)))
            (port_is g.area r (c % slots g.area r) (slot_lt g r c)) (port_is g.area r (c % slots g.area r) (slot_lt g r c)))
            ∙ none_waits r (ours r) (with_address g.bits 0 (envelope_at g.area g.pool r (c % slots g.area r) + 4));
        kept = λ c a b. absurd (omega arith);
        lows = low_word_lem r;
        highs = λ s l.
            let a : ℕ = envelope_at g.area g.pool r s + 4 in
            ap (of (address_high g.bits)) (high_word_lem r s l)
            ∙ high_upper g.bits (to_port g.area (number_of g.area r s)) (to_port g.area (number_of g.area r s)) (with_address g.bits 0 a) narrow
            ∙ with_upper g.bits 0 a
            ∙ upper_small g.bits a wide (omega (arith, F.envelope_inside r s l, low_end));
      }
