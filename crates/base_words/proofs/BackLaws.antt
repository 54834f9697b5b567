-- What is built is read back. Assumes nothing.
use Prim.Native.Nat.{ℕ, ◌+◌, ◌*◌, ◌/◌, ◌%◌, ◌^◌, ◌-◌, ◌<◌, ◌≤◌}
use mathlib.Core.Path.{◌≡◌, refl, sym, ap, ◌∙◌}
use mathlib.Core.Bool.{Bool, true, false}
use native.Mathlib.Omega.{arith}
use lib.Dec.{eqb}
use lib.Pow.{low, mod-mod-pow, shr_lt}
use native.Mathlib.Nat.{mod-eq_of_lt, mod-lt}
use lib.Pow.{pow_pos}
use borrow.Author.Tests.{eq-eqb, ne_eqb}
use Rattle.base_words.specs.Fields.{of, flag, er, nv, qb, di, one, wr, ie, pi, owner, flagged, kept}
use Rattle.base_words.specs.Words.{step1_word, step2_word, step3_word, step4_word, fatal_word, first_word, second_word, address_of, low_word, with_address, high_word}
use Rattle.base_words.specs.ReadBack.{Step1Back, Step2Back, Step3Back, Step4Back, FatalBack, FirstBack, HighBack, HeaderBack, ReadBack}
use Rattle.base_words.proofs.Laws.{flag_lt}

-- a bit that holds a flag is that flag
flag_back : (b : Bool) (x : ℕ) → x ≡ flag b → eqb x 1 ≡ b
flag_back true x e = eq-eqb x 1 e
flag_back false x e = ne_eqb x 1 (λ (d : x ≡ 1). omega arith)

clear : (x : ℕ) → x ≡ 0 → eqb x 1 ≡ false
clear x e = ne_eqb x 1 (λ (d : x ≡ 1). omega arith)

step1_back : (n q d : Bool) → Step1Back n q d
step1_back n q d =
    let a = flag_lt n in
    let b = flag_lt q in
    let c = flag_lt d in
    record {
      steps = omega arith;
      no_error = clear (of er (step1_word n q d)) (omega arith);
      nv_back = flag_back n (of nv (step1_word n q d)) (omega arith);
      qb_back = flag_back q (of qb (step1_word n q d)) (omega arith);
      di_back = flag_back d (of di (step1_word n q d)) (omega arith);
    }

step2_back : (f : ℕ) → Step2Back f
step2_back f = record { steps = omega arith; no_error = clear (of er (step2_word f)) (omega arith); type_zero = omega arith; echoed = omega arith }

step3_back : (f : ℕ) → Step3Back f
step3_back f = record { steps = omega arith; no_error = clear (of er (step3_word f)) (omega arith); echoed = omega arith }

step4_back : (v : ℕ) → Step4Back v
step4_back v = record { steps = omega arith; no_error = clear (of er (step4_word v)) (omega arith); version_back = omega arith }

fatal_back : (x : ℕ) → FatalBack x
fatal_back x = record { error = eq-eqb (of er (fatal_word x)) 1 (omega arith); steps = omega arith; code = omega arith }

first_back : (c r : ℕ) (i : Bool) (v : ℕ) → FirstBack c r i v
first_back c r i v =
    let a = flag_lt i in
    record {
      set = eq-eqb (of one (first_word c r i v)) 1 (omega arith);
      no_wrap = clear (of wr (first_word c r i v)) (omega arith);
      command = omega arith;
      response = omega arith;
      interrupts = flag_back i (of ie (first_word c r i v)) (omega arith);
      vector_back = omega arith;
    }

high_back : (o f : Bool) (rest : ℕ) → HighBack o f rest
high_back o f rest =
    let a = flag_lt o in
    let b = flag_lt f in
    record {
      owner_back = flag_back o (of owner (high_word o f rest)) (omega arith);
      flag_back = flag_back f (of flagged (high_word o f rest)) (omega arith);
      rest_back = omega arith;
    }

header_back : (c : ℕ) → HeaderBack c
header_back c = record { credits_back = omega arith; type_zero = omega arith; connection_zero = omega arith }

-- the bits of an address above 15, through a high word: k of them, at most 14
over : (j k x y : ℕ) → j + k ≡ 14 → (x * 2 ^ 14 + y) % 2 ^ k ≡ y % 2 ^ k
over j k x y e =
    sym (mod-mod-pow (x * 2 ^ 14 + y) j k)
    ∙ ap (λ (t : ℕ). (x * 2 ^ 14 + y) % 2 ^ t % 2 ^ k) e
    ∙ ap (λ (t : ℕ). t % 2 ^ k) cut
    ∙ ap (λ (t : ℕ). y % 2 ^ t % 2 ^ k) (sym e)
    ∙ mod-mod-pow y j k
  where
    cut : (x * 2 ^ 14 + y) % 2 ^ 14 ≡ y % 2 ^ 14
    cut = omega arith

pub high_part : (k : ℕ) (o f : Bool) (w : ℕ) → k ≤ 14 → high_word o f w % 2 ^ k ≡ w % 2 ^ k
high_part k o f w h =
    let a = flag_lt o in
    let b = flag_lt f in
    let j : 14 - k + k ≡ 14 = omega arith in
    let s : high_word o f w ≡ (flag o * 2 + flag f) * 2 ^ 14 + w % 2 ^ 14 = omega arith in
    ap (λ (t : ℕ). t % 2 ^ k) s
    ∙ over (14 - k) k (flag o * 2 + flag f) (w % 2 ^ 14) j
    ∙ ap (λ (t : ℕ). w % 2 ^ t % 2 ^ k) (sym j)
    ∙ mod-mod-pow w (14 - k) k

pub upper_part : (k x y : ℕ) → (x / 2 ^ k * 2 ^ k + y % 2 ^ k) % 2 ^ k ≡ y % 2 ^ k
upper_part k x y = low (x / 2 ^ k) k (mod-lt y (pow_pos k))

-- over n = 16 + k address bits
address_at : (k : ℕ) (o f : Bool) (rest a : ℕ) → k ≤ 14 → a < 2 ^ (k + 16) → a % 2 ≡ 0
    → high_word o f (of kept rest / 2 ^ k * 2 ^ k + a / 2 ^ 16 / 2 ^ 0 % 2 ^ k) / 2 ^ 0 % 2 ^ k * 2 ^ 16 + low_word a / 2 ^ 1 % 2 ^ 15 * 2 ≡ a
address_at k o f rest a h l e =
    let w : ℕ = of kept rest / 2 ^ k * 2 ^ k + a / 2 ^ 16 / 2 ^ 0 % 2 ^ k in
    let one-over : high_word o f w / 2 ^ 0 ≡ high_word o f w = omega arith in
    let same : a / 2 ^ 16 / 2 ^ 0 ≡ a / 2 ^ 16 = omega arith in
    let top : high_word o f w / 2 ^ 0 % 2 ^ k ≡ a / 2 ^ 16 =
    ap (λ (t : ℕ). t % 2 ^ k) one-over
    ∙ high_part k o f w h
    ∙ upper_part k (of kept rest) (a / 2 ^ 16 / 2 ^ 0)
    ∙ ap (λ (t : ℕ). t % 2 ^ k) same
    ∙ mod-eq_of_lt (shr_lt k 16 l) in
    ap (λ (t : ℕ). t * 2 ^ 16 + low_word a / 2 ^ 1 % 2 ^ 15 * 2) top ∙ omega arith

address_back : (n : ℕ) (o f : Bool) (rest a : ℕ) → 16 ≤ n → n ≤ 30 → a < 2 ^ n → a % 2 ≡ 0 → address_of n (low_word a) (high_word o f (with_address n rest a)) ≡ a
address_back n o f rest a h g l e =
    let s : n - 16 + 16 ≡ n = omega arith in
    address_at (n - 16) o f rest a (omega arith) (rw s l) e

pub read_back : ReadBack
read_back =
    record {
      step1 = step1_back;
      step2 = step2_back;
      step3 = step3_back;
      step4 = step4_back;
      fatal = fatal_back;
      first = first_back;
      second = λ b. clear (of pi (second_word b)) (omega arith);
      fourth = refl;
      high = high_back;
      header = header_back;
      address = address_back;
    }
