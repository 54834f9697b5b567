-- Shifts and masks are the fields' arithmetic: one law for a mask, one for an OR of fields that do not meet. Assumes nothing.
use Prim.Native.Nat.{ℕ, ◌+◌, ◌*◌, ◌-◌, ◌/◌, ◌%◌, ◌^◌, ◌<◌, ◌≤◌}
use mathlib.Core.Path.{◌≡◌, refl, sym, ap, ap₂, ◌∙◌}
use mathlib.Core.Bool.{Bool, true, false}
use native.Mathlib.Omega.{arith}
use native.Mathlib.Nat.{one-mul, mod-eq_of_lt}
use lib.Bits.{bit_and, bit_or, and_mask, and_high, or_shifted, or_shifted_r}
use lib.Pow.{pow-lt, pow_pos}
use Rattle.base_words.specs.Fields.{flag}
use Rattle.base_words.specs.Words.{first_word, high_word, low_word}

-- 1 shifted within a word
pub shifted_one : (k : ℕ) → k < 16 → 1 * 2 ^ k % 65536 ≡ 2 ^ k
shifted_one k h = ap (λ (n : ℕ). n % 65536) (one-mul (2 ^ k)) ∙ mod-eq_of_lt (pow-lt {j = 16} h)

pub mask_is : (n k : ℕ) → k < 16 → bit_and n (1 * 2 ^ k % 65536 - 1) ≡ n % 2 ^ k
mask_is n k h = ap (λ (m : ℕ). bit_and n (m - 1)) (shifted_one k h) ∙ and_mask n k

pub mask_fits : (k : ℕ) → k < 16 → 1 ≤ 1 * 2 ^ k % 65536
mask_fits k h = rw (shifted_one k h) (pow_pos k)

-- an OR of a number of whole 2 ^ k's and one below 2 ^ k, either way round, is their sum
pub or_is : (n x k b : ℕ) → n ≡ x * 2 ^ k → b < 2 ^ k → bit_or n b ≡ n + b
or_is n x k b e h = ap (λ (y : ℕ). bit_or y b) e ∙ or_shifted x k b h ∙ ap (λ (y : ℕ). y + b) (sym e)

pub or_up : (b n x k : ℕ) → n ≡ x * 2 ^ k → b < 2 ^ k → bit_or b n ≡ n + b
or_up b n x k e h = ap (bit_or b) e ∙ or_shifted_r x k b h ∙ ap (λ (y : ℕ). y + b) (sym e)

pub flag_lt : (b : Bool) → flag b < 2
flag_lt true = omega arith
flag_lt false = omega arith

-- the host's Step 1 word, and a high word
first_sum : (x y f t : ℕ) → f < 2 → 32768 + (x * 2048 + y * 256 + f * 2 ^ 7 + t) ≡ 32768 + x * 2048 + y * 256 + f % 2 * 128 + t * 1
first_sum x y f t h = omega arith

whole : (c k : ℕ) → c / 2 ^ 0 % 2 ^ k ≡ c % 2 ^ k
whole c k = ap (λ (n : ℕ). n % 2 ^ k) (omega arith)

pub first_is : (x y z v c p t : ℕ) (i : Bool) → x ≡ c / 2 ^ 0 % 2 ^ 3 → y ≡ p / 2 ^ 0 % 2 ^ 3 → z ≡ flag i * 2 ^ 7 → t ≡ v / 2 ^ 0 % 2 ^ 7
    → bit_or (bit_or (bit_or (bit_or (x * 2048 % 65536) (y * 256 % 65536)) z) t) 32768 ≡ first_word c p i v
first_is x y z v c p t i ex ey ez et =
    let hi = flag_lt i in
    let fx : x * 2048 % 65536 ≡ x * 2048 = omega arith in
    let fy : y * 256 % 65536 ≡ y * 256 = omega arith in
    let a : bit_or (x * 2048) (y * 256) ≡ x * 2048 + y * 256 = or_is (x * 2048) x 11 (y * 256) refl (omega arith) in
    let b : bit_or (x * 2048 + y * 256) z ≡ x * 2048 + y * 256 + z = or_is (x * 2048 + y * 256) (x * 8 + y) 8 z (omega arith) (omega arith) in
    let d : bit_or (x * 2048 + y * 256 + z) t ≡ x * 2048 + y * 256 + z + t =
    or_is (x * 2048 + y * 256 + z) (x * 16 + y * 2 + flag i) 7 t (omega arith) (omega arith) in
    ap₂ (λ (m n : ℕ). bit_or (bit_or (bit_or (bit_or m n) z) t) 32768) fx fy
    ∙ ap (λ (n : ℕ). bit_or (bit_or (bit_or n z) t) 32768) a
    ∙ ap (λ (n : ℕ). bit_or (bit_or n t) 32768) b
    ∙ ap (λ (n : ℕ). bit_or n 32768) d
    ∙ or_up (x * 2048 + y * 256 + z + t) 32768 1 15 refl (omega arith)
    ∙ ap (λ (n : ℕ). 32768 + (x * 2048 + y * 256 + n + t)) ez
    ∙ first_sum x y (flag i) t hi
    ∙ (λ j. 32768 + (ex ∙ whole c 3) j * 2048 + (ey ∙ whole p 3) j * 256 + flag i % 2 * 128 + (et ∙ whole v 7) j * 1)

pub high_is : (x y t rest : ℕ) (o f : Bool) → x ≡ flag o * 2 ^ 15 → y ≡ flag f * 2 ^ 14 → t ≡ rest / 2 ^ 0 % 2 ^ 14 → bit_or (bit_or x y) t ≡ high_word o f rest
high_is x y t rest o f ex ey et =
    let ho = flag_lt o in
    let hf = flag_lt f in
    let a : bit_or x y ≡ x + y = or_is x (flag o) 15 y ex (omega arith) in
    ap (λ (n : ℕ). bit_or n t) a ∙ or_is (x + y) (flag o * 2 + flag f) 14 t (omega arith) (omega arith) ∙ omega arith

pub low_is : (a : ℕ) → bit_and a 65534 ≡ low_word a
low_is a = and_high a 15 1

pub low_fits : (a : ℕ) → bit_and a 65534 < 65536
low_fits a = omega (arith, low_is a)
