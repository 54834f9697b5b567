-- What a call answers, in document 01's numbers and values: its refusal number, its fatal code, the length, the 60 bytes,
-- and whether it reports an interrupt. `told_of` gives them for each case of the enum that the code answers with.
use Rattle.std.specs.Prelude.{ℕ, Bool, false, List}
use Rattle.base_texts.specs.Texts.{zeros}
use Rattle.base_answers.specs.declared.Refusal.{Refusal}
use Rattle.base_answers.specs.declared.Refusal.TheVariants.{NotRunning, Busy, TooLong, NothingOpen, NoCredit, RingFull, Empty, NoSlot, BadEnvelope, DoesNotFit, BadSetting, IdleSide}
use Rattle.base_answers.specs.declared.Fatal.{Fatal}
use Rattle.base_answers.specs.declared.Fatal.TheVariants.{EnvelopeRead, EnvelopeWrite, RingRead, RingWrite, CreditLimit, InvalidConnection, InterruptWrite, Incompatible}
use Rattle.base_answers.specs.declared.Said.{Said}
use Rattle.base_answers.specs.declared.Said.TheVariants.{Going, Done, Refused, Failed}
use Rattle.base_answers.specs.declared.Reply.{Reply}

-- "Refusal numbers", document 01.
abbrev pub refusal_number : Refusal → ℕ
refusal_number NotRunning = 1
refusal_number Busy = 2
refusal_number TooLong = 3
refusal_number NothingOpen = 4
refusal_number NoCredit = 5
refusal_number RingFull = 6
refusal_number Empty = 7
refusal_number NoSlot = 8
refusal_number BadEnvelope = 9
refusal_number DoesNotFit = 10
refusal_number BadSetting = 11
refusal_number IdleSide = 12

-- The fatal codes, chapter 7 of document 004.
abbrev pub fatal_number : Fatal → ℕ
fatal_number EnvelopeRead = 1
fatal_number EnvelopeWrite = 2
fatal_number RingRead = 6
fatal_number RingWrite = 7
fatal_number CreditLimit = 10
fatal_number InvalidConnection = 14
fatal_number InterruptWrite = 15
fatal_number Incompatible = 20

-- How a call closes: the operation goes on, it is done, it is refused with a number, or the port fails with a code.
pub data Closing : Type 0 where
  going : Closing
  done : Closing
  refused : ℕ → Closing
  fatal : ℕ → Closing

abbrev pub closing_of : Said → Closing
closing_of Going = going
closing_of Done = done
closing_of (Refused r) = refused (refusal_number r)
closing_of (Failed x) = fatal (fatal_number x)

pub record Told : Type 0 where
  pub closing : Closing
  pub size : ℕ
  pub bytes : List ℕ
  pub interrupt : Bool

abbrev pub told_of : Reply → Told
told_of r = record { closing = closing_of r.said; size = r.size; bytes = r.bytes; interrupt = r.interrupt }

-- An answer with no text: length 0 and 60 zero bytes.
abbrev pub told : Closing → Bool → Told
told c i = record { closing = c; size = 0; bytes = zeros; interrupt = i }

-- "All return length 0 and 60 zero bytes."
abbrev pub refusal : ℕ → Told
refusal n = told (refused n) false

-- The closing answer of a fetch or a take: the text in 60 bytes, zero beyond its length.
abbrev pub carried : ℕ → List ℕ → Bool → Told
carried n t i = record { closing = done; size = n; bytes = t; interrupt = i }

-- The code's own replies, which `told_of` reads.
abbrev pub bare_reply : Said → Bool → Reply
bare_reply s i = record { said = s; size = 0; bytes = zeros; interrupt = i }

abbrev pub full_reply : ℕ → List ℕ → Bool → Reply
full_reply n t i = record { said = Done; size = n; bytes = t; interrupt = i }
