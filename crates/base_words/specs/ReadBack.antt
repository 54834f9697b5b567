-- What is built is read back: every field of every word that either half builds.
use Rattle.std.specs.Prelude.{ℕ, ◌%◌, ◌^◌, ◌<◌, ◌≤◌, ◌≡◌, Bool, true, false}
use Rattle.base_words.specs.Fields.{of, is_set, er, step_bits, nv, qb, di, port_type, echo, version, fatal_code, one, wr, command_exponent, response_exponent, ie, vector, upper, lower, pi, go, owner, flagged, kept, connection, message_type, credits}
use Rattle.base_words.specs.Words.{step1_word, step2_word, step3_word, step4_word, fatal_word, first_word, second_word, go_word, address_of, low_word, with_address, high_word, header_word}

pub record Step1Back (n q d : Bool) : Type 0 where
  pub steps : of step_bits (step1_word n q d) ≡ 1
  pub no_error : is_set er (step1_word n q d) ≡ false
  pub nv_back : is_set nv (step1_word n q d) ≡ n
  pub qb_back : is_set qb (step1_word n q d) ≡ q
  pub di_back : is_set di (step1_word n q d) ≡ d

pub record Step2Back (f : ℕ) : Type 0 where
  pub steps : of step_bits (step2_word f) ≡ 2
  pub no_error : is_set er (step2_word f) ≡ false
  pub type_zero : of port_type (step2_word f) ≡ 0
  pub echoed : of echo (step2_word f) ≡ of upper f

pub record Step3Back (f : ℕ) : Type 0 where
  pub steps : of step_bits (step3_word f) ≡ 4
  pub no_error : is_set er (step3_word f) ≡ false
  pub echoed : of echo (step3_word f) ≡ of lower f

pub record Step4Back (v : ℕ) : Type 0 where
  pub steps : of step_bits (step4_word v) ≡ 8
  pub no_error : is_set er (step4_word v) ≡ false
  pub version_back : of version (step4_word v) ≡ v % 256

-- A fatal word has no step bits where its code has eleven bits.
pub record FatalBack (x : ℕ) : Type 0 where
  pub error : is_set er (fatal_word x) ≡ true
  pub steps : of step_bits (fatal_word x) ≡ 0
  pub code : of fatal_code (fatal_word x) ≡ x % 2048

-- The host's Step 1 word; WR is 0.
pub record FirstBack (c r : ℕ) (i : Bool) (v : ℕ) : Type 0 where
  pub set : is_set one (first_word c r i v) ≡ true
  pub no_wrap : is_set wr (first_word c r i v) ≡ false
  pub command : of command_exponent (first_word c r i v) ≡ c % 8
  pub response : of response_exponent (first_word c r i v) ≡ r % 8
  pub interrupts : is_set ie (first_word c r i v) ≡ i
  pub vector_back : of vector (first_word c r i v) ≡ v % 128

-- A descriptor's high word.
pub record HighBack (o f : Bool) (rest : ℕ) : Type 0 where
  pub owner_back : is_set owner (high_word o f rest) ≡ o
  pub flag_back : is_set flagged (high_word o f rest) ≡ f
  pub rest_back : of kept (high_word o f rest) ≡ of kept rest

pub record HeaderBack (c : ℕ) : Type 0 where
  pub credits_back : of credits (header_word c) ≡ c % 16
  pub type_zero : of message_type (header_word c) ≡ 0
  pub connection_zero : of connection (header_word c) ≡ 0

pub record ReadBack : Type 0 where
  pub step1 : (n q d : Bool) → Step1Back n q d
  pub step2 : (f : ℕ) → Step2Back f
  pub step3 : (f : ℕ) → Step3Back f
  pub step4 : (v : ℕ) → Step4Back v
  pub fatal : (x : ℕ) → FatalBack x
  pub first : (c r : ℕ) (i : Bool) (v : ℕ) → FirstBack c r i v
  -- PI is 0 in the host's Step 2 word, and GO is set in its Step 4 word.
  pub second : (base : ℕ) → is_set pi (second_word base) ≡ false
  pub fourth : is_set go go_word ≡ true
  pub high : (o f : Bool) (rest : ℕ) → HighBack o f rest
  pub header : (c : ℕ) → HeaderBack c
  -- An even address of n bits is read back off the two words of a descriptor, whatever owner, flag and other bits.
  pub address : (n : ℕ) (o f : Bool) (rest a : ℕ) → 16 ≤ n → n ≤ 30 → a < 2 ^ n → a % 2 ≡ 0 → address_of n (low_word a) (high_word o f (with_address n rest a)) ≡ a
