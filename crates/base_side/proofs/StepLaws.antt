-- An answer and the half after it are what their definitions say of them: two that say the same are the same. Assumes nothing.
use mathlib.Core.Path.{◌≡◌}
use Rattle.base_memory.specs.Memory.{Memory}
use Rattle.base_answers.proofs.Laws.{reply_same}
use Rattle.base_side.specs.Step.{Next, next_by, with_memory}
use Rattle.base_side.specs.declared.Stepped.{Stepped}

-- the two parts of an outcome
pub told_and_state : {S : Type 0} {x y : Next S} {m m' : Memory} → with_memory x m ≡ with_memory y m' → (x ≡ y) × (m ≡ m')
told_and_state e = (λ i. record { told = (e i).told; state = (e i).state }, λ i. (e i).memory)

-- The numbers of an answer give the answer back,
pub stepped_same : {S : Type 0} (r r' : Stepped S) → next_by r ≡ next_by r' → r ≡ r'
stepped_same r r' e =
    let p = reply_same r.reply r'.reply (λ i. (e i).told) in
    λ i. record { reply = p i; half = (e i).state }

-- and so they do with the memory that a call leaves.
pub outcome_same : {S : Type 0} (r r' : Stepped S) (m m' : Memory) → with_memory (next_by r) m ≡ with_memory (next_by r') m' → (r ≡ r') × (m ≡ m')
outcome_same r r' m m' e = let q = told_and_state e in (stepped_same r r' q.0, q.1)
