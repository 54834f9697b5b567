-- What a call leaves, and what a step is, over the half's record S.
use Rattle.std.specs.Prelude.{ℕ, false, Option}
use Rattle.base_memory.specs.Memory.{Memory}
use Rattle.base_memory.specs.OneWord.{found, left}
use Rattle.base_memory.specs.declared.Touch.{Touch}
use Rattle.base_answers.specs.Told.{Told, told, told_of, refusal, going}
use Rattle.base_side.specs.declared.Stepped.{Stepped}

-- What a call that touches no memory leaves: its answer, and the next state.
pub record Next (S : Type 0) : Type 0 where
  pub told : Told
  pub state : S

-- What the code returned, in the terms of the definitions.
abbrev pub next_by : {S : Type 0} → Stepped S → Next S
next_by r = record { told = told_of r.reply; state = r.half }

-- What a call leaves: its answer, the next state, every byte of memory.
pub record Outcome (S : Type 0) : Type 0 where
  pub told : Told
  pub state : S
  pub memory : Memory

abbrev pub with_memory : {S : Type 0} → Next S → Memory → Outcome S
with_memory x m = record { told = x.told; state = x.state; memory = m }

-- Answer and next state of an outcome.
abbrev pub without_memory : {S : Type 0} → Outcome S → Next S
without_memory o = record { told = o.told; state = o.state }

-- An operation goes on; a call is refused with a number.
abbrev pub onward : {S : Type 0} → S → Next S
onward s = record { told = told going false; state = s }

abbrev pub denied : {S : Type 0} → S → ℕ → Next S
denied s k = record { told = refusal k; state = s }

-- "One step touches at most one word": a step asks for a word, and the rest follows from the word found, or from none.
abbrev pub stepped : {S : Type 0} → ℕ → Memory → Touch → (Option ℕ → Next S) → Outcome S
stepped n m asks follows = with_memory (follows (found n m asks)) (left n m asks)
