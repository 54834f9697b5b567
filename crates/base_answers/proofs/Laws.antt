-- Two replies that say the same in document 01's numbers are the same reply: the numbers are read back. Assumes nothing.
use Prim.Native.Nat.{ℕ}
use mathlib.Core.Path.{◌≡◌, refl, sym, ap, ◌∙◌}
use mathlib.Core.Bool.{cond}
use lib.Dec.{eqb}
use Rattle.base_answers.specs.Told.{Closing, going, done, refused, fatal, refusal_number, fatal_number, closing_of, Told, told_of}
use Rattle.base_answers.specs.declared.Refusal.{Refusal}
use Rattle.base_answers.specs.declared.Refusal.TheVariants.{NotRunning, Busy, TooLong, NothingOpen, NoCredit, RingFull, Empty, NoSlot, BadEnvelope, DoesNotFit, BadSetting, IdleSide}
use Rattle.base_answers.specs.declared.Fatal.{Fatal}
use Rattle.base_answers.specs.declared.Fatal.TheVariants.{EnvelopeRead, EnvelopeWrite, RingRead, RingWrite, CreditLimit, InvalidConnection, InterruptWrite, Incompatible}
use Rattle.base_answers.specs.declared.Said.{Said}
use Rattle.base_answers.specs.declared.Said.TheVariants.{Going, Done, Refused, Failed}
use Rattle.base_answers.specs.declared.Reply.{Reply}

-- the refusal of a number, and the fatal error of a code
pub refusal_of : ℕ → Refusal
refusal_of k =
    cond (eqb k 1) NotRunning
    (cond (eqb k 2) Busy
    (cond (eqb k 3) TooLong
    (cond (eqb k 4) NothingOpen
    (cond (eqb k 5) NoCredit
    (cond (eqb k 6) RingFull
    (cond (eqb k 7) Empty (cond (eqb k 8) NoSlot (cond (eqb k 9) BadEnvelope (cond (eqb k 10) DoesNotFit (cond (eqb k 11) BadSetting IdleSide))))))))))

pub refusal_back : (r : Refusal) → refusal_of (refusal_number r) ≡ r
unfolding refusal_of
refusal_back NotRunning = refl
refusal_back Busy = refl
refusal_back TooLong = refl
refusal_back NothingOpen = refl
refusal_back NoCredit = refl
refusal_back RingFull = refl
refusal_back Empty = refl
refusal_back NoSlot = refl
refusal_back BadEnvelope = refl
refusal_back DoesNotFit = refl
refusal_back BadSetting = refl
refusal_back IdleSide = refl

pub refusal_same : (r r' : Refusal) → refusal_number r ≡ refusal_number r' → r ≡ r'
refusal_same r r' e = sym (refusal_back r) ∙ ap refusal_of e ∙ refusal_back r'

fatal_of : ℕ → Fatal
fatal_of k =
    cond (eqb k 1) EnvelopeRead
    (cond (eqb k 2) EnvelopeWrite
    (cond (eqb k 6) RingRead
    (cond (eqb k 7) RingWrite (cond (eqb k 10) CreditLimit (cond (eqb k 14) InvalidConnection (cond (eqb k 15) InterruptWrite Incompatible))))))

fatal_back : (x : Fatal) → fatal_of (fatal_number x) ≡ x
unfolding fatal_of
fatal_back EnvelopeRead = refl
fatal_back EnvelopeWrite = refl
fatal_back RingRead = refl
fatal_back RingWrite = refl
fatal_back CreditLimit = refl
fatal_back InvalidConnection = refl
fatal_back InterruptWrite = refl
fatal_back Incompatible = refl

said_of : Closing → Said
said_of going = Going
said_of done = Done
said_of (refused k) = Refused (refusal_of k)
said_of (fatal k) = Failed (fatal_of k)

said_back : (s : Said) → said_of (closing_of s) ≡ s
unfolding said_of
said_back Going = refl
said_back Done = refl
said_back (Refused r) = ap Refused (refusal_back r)
said_back (Failed x) = ap Failed (fatal_back x)

pub reply_same : (r r' : Reply) → told_of r ≡ told_of r' → r ≡ r'
reply_same r r' e =
    let p : r.said ≡ r'.said = sym (said_back r.said) ∙ ap (λ (t : Told). said_of t.closing) e ∙ said_back r'.said in
    λ i. record { said = p i; size = (e i).size; bytes = (e i).bytes; interrupt = (e i).interrupt }
