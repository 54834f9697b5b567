-- One ring: what it keeps under a write elsewhere, when a message is given, and when a slot is given back. All arithmetic modulo the
-- ring's length is here. Assumes nothing.
use Prim.Native.Nat.{ℕ, suc, ◌+◌, ◌*◌, ◌/◌, ◌%◌, ◌^◌, ◌<◌, ◌≤◌}
use mathlib.Core.Path.{◌≡◌, sym, ap, ◌∙◌}
use mathlib.Core.Bool.{true, false, false≢true, true≢false}
use mathlib.Core.List.{List, [], ◌∷◌, ◌++◌}
use mathlib.Core.Logic.{inl, inr}
use native.Mathlib.Omega.{arith}
use native.Mathlib.Nat.{mod-lt, mod-add-mod, add-mod_right, mul-le-mul_left, div-add-mod}
use lib.ListN.{length, get_or, length-append, get_or-append}
use lib.Seq.{get_or-append_seam}
use Rattle.base_words.specs.Fields.{of, address_high}
use Rattle.base_area.specs.Layout.{slots, envelope_at}
use Rattle.base_area.specs.declared.Ring.{Ring}
use Rattle.fact_layout.proofs.Rings.{slots_some, lt_or_ge, same_or_not}
use Rattle.fact_plain.specs.Plain.{Entry}
use Rattle.fact_traffic.specs.Places.{Place, slot_word, env_word, Site}
use Rattle.fact_traffic.specs.Rings.{waits, Letter, blank, RingInv}

-- two numbers of one window in one slot are one number
same_place_le : (n a b : ℕ) → a ≤ b → b < a + n → a % n ≡ b % n → a ≡ b
same_place_le n a b l u e =
    elim (lt_or_ge (a / n) (b / n)) [
      | inl h ↦ absurd (omega (arith, mul-le-mul_left n h, div-add-mod a n, div-add-mod b n))
      | inr h ↦ omega (arith, mul-le-mul_left n h, div-add-mod a n, div-add-mod b n)
    ]

pub same_place : (n h a b : ℕ) → h ≤ a → a < h + n → h ≤ b → b < h + n → a % n ≡ b % n → a ≡ b
same_place n h a b la ua lb ub e =
    elim (lt_or_ge a b) [
      | inl l ↦ same_place_le n a b (omega arith) (omega arith) e
      | inr l ↦ sym (same_place_le n b a l (omega arith) (sym e))
    ]

-- a letter is kept where its envelope is
pub letter_kept : (v v' : Place → ℕ) (r : Ring) (s : ℕ) (e : Entry) → ((o : ℕ) → o + 2 ≤ 64 → v' (env_word r s o) ≡ v (env_word r s o)) → Letter v r s e → Letter v' r s e
letter_kept v v' r s e k L =
    record {
      short = L.short;
      bytes = L.bytes;
      few = L.few;
      len = k 0 (omega arith) ∙ L.len;
      head = k 2 (omega arith) ∙ L.head;
      words = λ j h. k (4 + 2 * j) (omega (arith, h, L.short)) ∙ L.words j h;
    }

module _ (g : Site) (r : Ring) where
  pub slot_lt : (c : ℕ) → c % slots g.area r < slots g.area r
  slot_lt c = mod-lt c (slots_some g.area r)

  module _ (v v' : Place → ℕ) (i j : ℕ) (hist : List Entry) (h from : ℕ) (R : RingInv g v r i j hist h from) where
    -- a write that touches no slot of the ring and no whole letter
    pub quiet : ((s : ℕ) → s < slots g.area r → v' (slot_word r s 0) ≡ v (slot_word r s 0))
        → ((s : ℕ) → s < slots g.area r → v' (slot_word r s 2) ≡ v (slot_word r s 2))
        → ((c : ℕ) → from ≤ c → c < length hist → (o : ℕ) → o + 2 ≤ 64 → v' (env_word r (c % slots g.area r) o) ≡ v (env_word r (c % slots g.area r) o))
        → RingInv g v' r i j hist h from
    quiet k₀ k₂ ke =
        record {
          low = R.low;
          mid = R.mid;
          cap = R.cap;
          giver = R.giver;
          taker = R.taker;
          full = λ c a b. rw (k₂ (c % slots g.area r) (slot_lt c)) (R.full c a b);
          free = λ c a b. rw (k₂ (c % slots g.area r) (slot_lt c)) (R.free c a b);
          kept = λ c a b. letter_kept v v' r (c % slots g.area r) (get_or hist c blank) (ke c a b) (R.kept c a b);
          lows = λ s l. k₀ s l ∙ R.lows s l;
          highs = λ s l. ap (of (address_high g.bits)) (k₂ s l) ∙ R.highs s l;
        }

    -- the taker spoils the letter that it has read
    pub spoil : h < length hist → from ≡ h → RingInv g v r i j hist h (suc h)
    spoil s e =
        record {
          low = omega arith;
          mid = s;
          cap = R.cap;
          giver = R.giver;
          taker = R.taker;
          full = R.full;
          free = R.free;
          kept = λ c a b. R.kept c (omega arith) b;
          lows = R.lows;
          highs = R.highs;
        }

    -- a high word is written in one slot, with the address kept; every other slot word and every letter is as it was
    module _ (x s₀ : ℕ) (set : v' (slot_word r s₀ 2) ≡ x) (address : of (address_high g.bits) x ≡ (envelope_at g.area g.pool r s₀ + 4) / 2 ^ 16)
        (others : (s : ℕ) → s < slots g.area r → (s₀ ≡ s → ⊥) → v' (slot_word r s 2) ≡ v (slot_word r s 2))
        (lows' : (s : ℕ) → s < slots g.area r → v' (slot_word r s 0) ≡ v (slot_word r s 0))
        (letters : (s : ℕ) → s < slots g.area r → (o : ℕ) → o + 2 ≤ 64 → v' (env_word r s o) ≡ v (env_word r s o)) where
      new_highs : (s : ℕ) → s < slots g.area r → of (address_high g.bits) (v' (slot_word r s 2)) ≡ (envelope_at g.area g.pool r s + 4) / 2 ^ 16
      new_highs s l =
          elim (same_or_not s₀ s) [
            | inl e ↦ rw (← e, set) address
            | inr d ↦ ap (of (address_high g.bits)) (others s l d) ∙ R.highs s l
          ]

      -- the giver gives a message
      pub publish : (e : Entry) → s₀ ≡ i → waits r x ≡ true → length hist < h + slots g.area r → Letter v r s₀ e
          → RingInv g v' r ((i + 1) % slots g.area r) j (hist ++ (e ∷ [])) h from
      publish e at w room L =
          record {
            low = R.low;
            mid = simp length-append (omega (arith, R.mid));
            cap = simp length-append (omega arith);
            giver = simp length-append (ap (λ (k : ℕ). (k + 1) % slots g.area r) R.giver ∙ mod-add-mod (length hist) (slots g.area r) 1);
            taker = R.taker;
            full = λ c a b. full' c a (simp length-append at b);
            free = λ c a b. free' c (simp length-append at a) b;
            kept = λ c a b. kept' c a (simp length-append at b);
            lows = λ s l. lows' s l ∙ R.lows s l;
            highs = new_highs;
          }
        where
          here : s₀ ≡ length hist % slots g.area r
          here = at ∙ R.giver

          full' : (c : ℕ) → h ≤ c → c < length hist + 1 → waits r (v' (slot_word r (c % slots g.area r) 2)) ≡ true
          full' c a b =
              elim (same_or_not s₀ (c % slots g.area r)) [
                | inl k ↦ rw (← k, set) w
                | inr d ↦ rw (others (c % slots g.area r) (slot_lt c) d) (R.full c a (older c b d))
              ]
            where
              older : (c : ℕ) → c < length hist + 1 → (s₀ ≡ c % slots g.area r → ⊥) → c < length hist
              older c b d = elim (same_or_not c (length hist)) [ inl k ↦ absurd (d (here ∙ ap (λ (t : ℕ). t % slots g.area r) (sym k))) | inr k ↦ omega arith ]

          free' : (c : ℕ) → length hist + 1 ≤ c → c < h + slots g.area r → waits r (v' (slot_word r (c % slots g.area r) 2)) ≡ false
          free' c a b =
              let d : (s₀ ≡ c % slots g.area r → ⊥) =
              λ k. omega (arith, same_place (slots g.area r) h (length hist) c (omega (arith, R.low, R.mid)) room (omega (arith, R.low, R.mid)) b (sym here ∙ k)) in
              rw (others (c % slots g.area r) (slot_lt c) d) (R.free c (omega arith) b)

          kept' : (c : ℕ) → from ≤ c → c < length hist + 1 → Letter v' r (c % slots g.area r) (get_or (hist ++ (e ∷ [])) c blank)
          kept' c a b =
              elim (same_or_not c (length hist)) [
                | inl k ↦ rw (k, get_or-append_seam, ← here) (letter_kept v v' r s₀ e (letters s₀ (rw here (slot_lt (length hist)))) L)
                | inr k ↦
                    rw (get_or-append hist (e ∷ []) blank c (omega arith))
                    (letter_kept v v' r (c % slots g.area r) (get_or hist c blank) (letters (c % slots g.area r) (slot_lt c)) (R.kept c a (omega arith)))
              ]

      -- the taker gives a slot back
      pub release : s₀ ≡ j → waits r x ≡ false → h < length hist → from ≤ suc h
          → RingInv g v' r i ((j + 1) % slots g.area r) hist (suc h) (suc h)
      release at w some step =
          record {
            low = omega arith;
            mid = some;
            cap = omega (arith, R.cap);
            giver = R.giver;
            taker = ap (λ (k : ℕ). (k + 1) % slots g.area r) R.taker ∙ mod-add-mod h (slots g.area r) 1 ∙ ap (λ (k : ℕ). k % slots g.area r) (omega arith);
            full = full';
            free = free';
            kept = λ c a b. letter_kept v v' r (c % slots g.area r) (get_or hist c blank) (letters (c % slots g.area r) (slot_lt c)) (R.kept c (omega arith) b);
            lows = λ s l. lows' s l ∙ R.lows s l;
            highs = new_highs;
          }
        where
          here : s₀ ≡ h % slots g.area r
          here = at ∙ R.taker

          full' : (c : ℕ) → suc h ≤ c → c < length hist → waits r (v' (slot_word r (c % slots g.area r) 2)) ≡ true
          full' c a b =
              let d : (s₀ ≡ c % slots g.area r → ⊥) =
              λ k. omega (arith, same_place (slots g.area r) h h c (omega arith) (omega (arith, slots_some g.area r)) (omega arith) (omega (arith, R.cap)) (sym here ∙ k)) in
              rw (others (c % slots g.area r) (slot_lt c) d) (R.full c (omega arith) b)

          free' : (c : ℕ) → length hist ≤ c → c < suc h + slots g.area r → waits r (v' (slot_word r (c % slots g.area r) 2)) ≡ false
          free' c a b =
              elim (same_or_not s₀ (c % slots g.area r)) [
                | inl k ↦ rw (← k, set) w
                | inr d ↦ rw (others (c % slots g.area r) (slot_lt c) d) (R.free c a (older c b d))
              ]
            where
              older : (c : ℕ) → c < suc h + slots g.area r → (s₀ ≡ c % slots g.area r → ⊥) → c < h + slots g.area r
              older c b d =
                  elim (same_or_not c (h + slots g.area r)) [
                    | inl k ↦ absurd (d (here ∙ sym (add-mod_right h (slots g.area r)) ∙ ap (λ (t : ℕ). t % slots g.area r) (sym k)))
                    | inr k ↦ omega arith
                  ]

    -- what each side's test of its own slot tells
    pub giver_room : waits r (v (slot_word r i 2)) ≡ false → length hist < h + slots g.area r
    giver_room w =
        elim (lt_or_ge (length hist) (h + slots g.area r)) [
          | inl l ↦ l
          | inr l ↦
              let e : length hist ≡ h + slots g.area r = omega (arith, R.cap) in
              let k : i ≡ h % slots g.area r = R.giver ∙ ap (λ (t : ℕ). t % slots g.area r) e ∙ add-mod_right h (slots g.area r) in
              absurd (false≢true (sym w ∙ rw k (R.full h (omega arith) (omega (arith, slots_some g.area r)))))
        ]

    pub giver_full : waits r (v (slot_word r i 2)) ≡ true → length hist ≡ h + slots g.area r
    giver_full w =
        elim (lt_or_ge (length hist) (h + slots g.area r)) [
          | inl l ↦ absurd (true≢false (sym w ∙ rw R.giver (R.free (length hist) (omega arith) l)))
          | inr l ↦ omega (arith, R.cap)
        ]

    pub taker_some : waits r (v (slot_word r j 2)) ≡ true → h < length hist
    taker_some w =
        elim (lt_or_ge h (length hist)) [
          | inl l ↦ l
          | inr l ↦ absurd (true≢false (sym w ∙ rw R.taker (R.free h l (omega (arith, slots_some g.area r)))))
        ]

    pub taker_none : waits r (v (slot_word r j 2)) ≡ false → length hist ≡ h
    taker_none w =
        elim (lt_or_ge h (length hist)) [
          | inl l ↦ absurd (false≢true (sym w ∙ rw R.taker (R.full h (omega arith) l)))
          | inr l ↦ omega (arith, R.low, R.mid)
        ]
