-- The port's handshake: creation, a write to IP, what SA shows, a write to SA. Document 01, "Handshake".
use Rattle.std.specs.Prelude.{ℕ, Bool, false, cond, ◌&&◌, leb}
use Rattle.base_words.specs.Fields.{is_set, one, wr, go}
use Rattle.base_words.specs.Words.{step1_word, step2_word, step3_word, step4_word, fatal_word}
use Rattle.base_memory.specs.Memory.{Memory}
use Rattle.base_answers.specs.Told.{told, done, fatal, fatal_number}
use Rattle.base_answers.specs.declared.Fatal.TheVariants.{RingWrite}
use Rattle.base_rules.specs.Rules.{most_limit}
use Rattle.base_area.specs.Layout.{step_interrupt, area_lies, area_cleared}
use Rattle.base_area.specs.declared.Area.{Area}
use Rattle.base_side.specs.Step.{Next, Outcome, with_memory, denied}
use Rattle.port_state.specs.State.{with_phase, fresh, ended}
use Rattle.port_state.specs.declared.state.Made.{Made}
use Rattle.port_state.specs.declared.state.Phase.{Phase}
use Rattle.port_state.specs.declared.state.Phase.TheVariants.{Step1, Wrap, Step2, Step3, Step4, Running, Failed}
use Rattle.port_state.specs.declared.state.Port.{Port}

-- Refusal 11: "at creation, limit not 1 to 64 (the port handed back has limit 1)".
abbrev pub with_limit : Made → ℕ → Made
with_limit x l = record { nv = x.nv; qb = x.qb; di = x.di; version = x.version; limit = l }

unfoldable pub created : Made → Next Port
created x =
    cond (leb 1 x.limit && leb x.limit most_limit)
    (record { told = told done false; state = fresh x })
    (denied (fresh (with_limit x 1)) 11)

-- What SA reads, by the table of document 01; running it reads 0, after a fatal error 8000 hex and the code.
abbrev pub shown : Made → Phase → ℕ
shown x Step1 = step1_word x.nv x.qb x.di
shown x (Wrap w) = w
shown x (Step2 first) = step2_word first
shown x (Step3 first second) = step3_word first
shown x (Step4 a) = step4_word x.version
shown x (Running a w) = 0
shown x (Failed f) = fatal_word (fatal_number f)

unfoldable pub sa_of : Port → ℕ
sa_of p = shown p.made p.phase

-- A write to SA that moves the handshake on, and one that changes nothing.
abbrev pub moved : Port → Phase → Bool → Next Port
moved p x i = record { told = told done i; state = with_phase p x }

abbrev pub ignored : Port → Next Port
ignored p = record { told = told done false; state = p }

-- "A Step 1 word without bit 15 changes nothing. WR counts only if DI was shown: then that word, and each later SA write, is shown back."
unfoldable pub first_heard : Port → ℕ → Next Port
first_heard p w =
    cond (is_set one w) (cond (is_set wr w && p.made.di) (moved p (Wrap w) false) (moved p (Step2 w) (step_interrupt w))) (ignored p)

-- "The word that ends Step 3 makes the port write zeros .. If that stretch leaves memory or starts below 0, nothing is written and fatal 7 follows."
abbrev pub third_heard : ℕ → Port → Area → Memory → Outcome Port
third_heard n p a m =
    record {
      told = told (cond (area_lies n m a) done (fatal 7)) (step_interrupt a.first);
      state = cond (area_lies n m a) (with_phase p (Step4 a)) (ended p RingWrite);
      memory = area_cleared n m a;
    }

-- A word of the host written to SA, by the phase that it finds.
abbrev pub heard : ℕ → Port → ℕ → Memory → Phase → Outcome Port
heard n p w m Step1 = with_memory (first_heard p w) m
heard n p w m (Wrap x) = with_memory (moved p (Wrap w) false) m
heard n p w m (Step2 first) = with_memory (moved p (Step3 first w) (step_interrupt first)) m
heard n p w m (Step3 first second) = third_heard n p (record { first = first; second = second; third = w }) m
heard n p w m (Step4 a) = with_memory (cond (is_set go w) (moved p (Running a w) false) (ignored p)) m
heard n p w m (Running a x) = with_memory (ignored p) m
heard n p w m (Failed x) = with_memory (ignored p) m

unfoldable pub sa_written : ℕ → Port → ℕ → Memory → Outcome Port
sa_written n p w m = heard n p w m p.phase
