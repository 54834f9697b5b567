-- Words that both halves write, read back: owner bits, address bits, and that each fits a word. Assumes nothing.
use Prim.Native.Nat.{ℕ, ◌+◌, ◌-◌, ◌/◌, ◌%◌, ◌^◌, ◌<◌, ◌≤◌}
use mathlib.Core.Path.{◌≡◌, refl, sym, ap, ◌∙◌}
use mathlib.Core.Bool.{Bool}
use native.Mathlib.Omega.{arith}
use native.Mathlib.Nat.{mod-eq_of_lt}
use lib.Pow.{shr_lt}
use Rattle.base_words.specs.Fields.{of, is_set, owner, address_high, kept, connection, message_type, credits}
use Rattle.base_words.specs.Words.{low_word, with_address, high_word, header_word, address_of}
use Rattle.base_words.proofs.Laws.{flag_lt}
use Rattle.base_words.proofs.BackLaws.{read_back, high_part, upper_part}

pub high_owner : (o f : Bool) (rest : ℕ) → is_set owner (high_word o f rest) ≡ o
high_owner o f rest = (read_back.high o f rest).owner_back

-- the address bits above 15 of a high word are those of what it was built from
pub high_upper : (n : ℕ) (o f : Bool) (rest : ℕ) → n ≤ 30 → of (address_high n) (high_word o f rest) ≡ of (address_high n) rest
high_upper n o f rest h =
    let p : high_word o f rest / 2 ^ 0 ≡ high_word o f rest = omega arith in
    let q : rest / 2 ^ 0 ≡ rest = omega arith in
    ap (λ (k : ℕ). k % 2 ^ (n - 16)) p ∙ high_part (n - 16) o f rest (omega arith) ∙ ap (λ (k : ℕ). k % 2 ^ (n - 16)) (sym q)

pub with_upper : (n rest a : ℕ) → of (address_high n) (with_address n rest a) ≡ of (address_high n) (a / 2 ^ 16)
with_upper n rest a =
    let p : with_address n rest a / 2 ^ 0 ≡ with_address n rest a = omega arith in
    ap (λ (k : ℕ). k % 2 ^ (n - 16)) p ∙ upper_part (n - 16) (of kept rest) (a / 2 ^ 16 / 2 ^ 0)

-- an address below 2 ^ n has its upper bits whole
pub upper_small : (n a : ℕ) → 16 ≤ n → a < 2 ^ n → of (address_high n) (a / 2 ^ 16) ≡ a / 2 ^ 16
upper_small n a h l =
    let s : n - 16 + 16 ≡ n = omega arith in
    let p : a / 2 ^ 16 / 2 ^ 0 ≡ a / 2 ^ 16 = omega arith in
    ap (λ (k : ℕ). k % 2 ^ (n - 16)) p ∙ mod-eq_of_lt (shr_lt (n - 16) 16 (rw s l))

-- the two words of a descriptor together
pub address_is : (n a w : ℕ) → a % 2 ≡ 0 → of (address_high n) w ≡ a / 2 ^ 16 → address_of n (low_word a) w ≡ a
address_is n a w e u = rw u (omega arith)

pub header_zero : header_word 0 ≡ 0
header_zero = refl

pub low_lt : (a : ℕ) → low_word a < 65536
low_lt a = omega arith

pub high_lt : (o f : Bool) (rest : ℕ) → high_word o f rest < 65536
high_lt o f rest = omega (arith, flag_lt o, flag_lt f)

pub header_lt : (c : ℕ) → header_word c < 65536
header_lt c = omega arith

pub header_type : (c : ℕ) → of message_type (header_word c) ≡ 0
header_type c = (read_back.header c).type_zero

pub header_connection : (c : ℕ) → of connection (header_word c) ≡ 0
header_connection c = (read_back.header c).connection_zero

pub header_credits : (c : ℕ) → c < 16 → of credits (header_word c) ≡ c
header_credits c h = (read_back.header c).credits_back ∙ omega arith
