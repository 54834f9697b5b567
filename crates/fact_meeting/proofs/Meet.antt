-- The four exchanges, one after the other: each word shown is the one expected, with the right echo. Assumes nothing.
use Prim.Native.Nat.{ℕ, ◌%◌, ◌<◌, ◌≤◌}
use mathlib.Core.Path.{◌≡◌, refl, ap, ◌∙◌}
use mathlib.Core.Bool.{Bool, true, false, ◌&&◌, false≢true}
use native.Mathlib.Omega.{arith}
use lib.Dec.{leb, ltb, eqb}
use borrow.Author.Tests.{leb-true, ltb-true, eqb-true, eq-eqb, ne_eqb}
use Rattle.base_words.specs.Fields.{of, is_set, er, step_bits, echo, one, wr, upper, lower, ie, vector, command_exponent, response_exponent}
use Rattle.base_words.specs.Words.{address_bits, step1_word, step2_word, step3_word, step4_word, first_word, second_word, third_word, go_word, address_of}
use Rattle.base_words.proofs.Laws.{flag_lt}
use Rattle.base_memory.specs.Memory.{Memory}
use Rattle.base_area.specs.Layout.{base, area_lies, area_cleared}
use Rattle.base_area.specs.declared.Area.{Area}
use Rattle.port_state.specs.State as PortState
use Rattle.port_state.specs.Shake.{sa_of, first_heard, sa_written}
use Rattle.port_state.specs.declared.state.Made.{Made}
use Rattle.port_state.specs.declared.state.Phase.{Phase}
use Rattle.port_state.specs.declared.state.Phase.TheVariants.{Step1, Step2, Step3, Step4, Running}
use Rattle.port_state.specs.declared.state.Port.{Port}
use Rattle.host_state.specs.State as HostState
use Rattle.host_state.specs.Shake.{accepts, area_of, begun, expecting, sa_seen}
use Rattle.host_state.specs.declared.state.Shake.{Shake}
use Rattle.host_state.specs.declared.state.Shake.TheVariants.{Expect, Finished}
use Rattle.host_state.specs.declared.state.Step.TheVariants.{One, Two, Three, Four}
use Rattle.host_state.specs.declared.state.Beginning.{Beginning}
use Rattle.host_state.specs.declared.state.Host.{Host}
use Rattle.fact_meeting.specs.Meeting.{Pair, pair, opened, exchange, exchanges, running, EveryMeeting}

-- what each word shown says to the host
step1_er : (n q d : Bool) → is_set er (step1_word n q d) ≡ false
step1_er n q d = ne_eqb (of er (step1_word n q d)) 1 (λ e. omega (arith, flag_lt n, flag_lt q, flag_lt d))

step1_bits : (n q d : Bool) → of step_bits (step1_word n q d) ≡ 1
step1_bits n q d = omega (arith, flag_lt n, flag_lt q, flag_lt d)

step2_er : (f : ℕ) → is_set er (step2_word f) ≡ false
step2_er f = ne_eqb (of er (step2_word f)) 1 (λ e. omega arith)

step2_bits : (f : ℕ) → of step_bits (step2_word f) ≡ 2
step2_bits f = omega arith

step2_echo : (f : ℕ) → of echo (step2_word f) ≡ of upper f
step2_echo f = omega arith

step3_er : (f : ℕ) → is_set er (step3_word f) ≡ false
step3_er f = ne_eqb (of er (step3_word f)) 1 (λ e. omega arith)

step3_bits : (f : ℕ) → of step_bits (step3_word f) ≡ 4
step3_bits f = omega arith

step3_echo : (f : ℕ) → of echo (step3_word f) ≡ of lower f
step3_echo f = omega arith

step4_er : (v : ℕ) → is_set er (step4_word v) ≡ false
step4_er v = ne_eqb (of er (step4_word v)) 1 (λ e. omega arith)

step4_bits : (v : ℕ) → of step_bits (step4_word v) ≡ 8
step4_bits v = omega arith

-- what the host's first word says to the port
pub first_one : (c r : ℕ) (i : Bool) (v : ℕ) → is_set one (first_word c r i v) ≡ true
first_one c r i v = eq-eqb (of one (first_word c r i v)) 1 (omega (arith, flag_lt i))

pub first_wr : (c r : ℕ) (i : Bool) (v : ℕ) → is_set wr (first_word c r i v) ≡ false
first_wr c r i v = ne_eqb (of wr (first_word c r i v)) 1 (λ e. omega (arith, flag_lt i))

-- the four exchanges
module _ (x : Made) (a : Area) (m : Memory) where
  host_at : Shake → Host
  host_at s = HostState.fresh s a

  port_at : Phase → Port
  port_at y = PortState.with_phase (PortState.fresh x) y

  exchange1 : is_set one a.first ≡ true → is_set wr a.first ≡ false
      → exchange (pair (host_at (Expect One false)) (port_at Step1) m) ≡ pair (host_at (Expect Two false)) (port_at (Step2 a.first)) m
  unfolding exchange sa_seen sa_of expecting sa_written first_heard host_at port_at
  exchange1 e f = rw (step1_er x.nv x.qb x.di, step1_bits x.nv x.qb x.di, e, f)

  exchange2 : exchange (pair (host_at (Expect Two false)) (port_at (Step2 a.first)) m) ≡ pair (host_at (Expect Three false)) (port_at (Step3 a.first a.second)) m
  unfolding exchange sa_seen sa_of expecting sa_written host_at port_at
  exchange2 = rw (step2_er a.first, step2_bits a.first, step2_echo a.first, eq-eqb (of upper a.first) (of upper a.first) refl)

  exchange3 : area_lies address_bits m a ≡ true
      → exchange (pair (host_at (Expect Three false)) (port_at (Step3 a.first a.second)) m) ≡ pair (host_at (Expect Four false)) (port_at (Step4 a)) (area_cleared address_bits m a)
  unfolding exchange sa_seen sa_of expecting sa_written host_at port_at
  exchange3 e = rw (step3_er a.first, step3_bits a.first, step3_echo a.first, eq-eqb (of lower a.first) (of lower a.first) refl, e)

  exchange4 : exchange (pair (host_at (Expect Four false)) (port_at (Step4 a)) m) ≡ pair (host_at Finished) (port_at (Running a go_word)) m
  unfolding exchange sa_seen sa_of expecting sa_written host_at port_at
  exchange4 = rw (step4_er x.version, step4_bits x.version)

-- the settings, read off the words again
and_true : (x y : Bool) → (x && y) ≡ true → (x ≡ true) × (y ≡ true)
and_true true y e = (refl, e)
and_true false y e = absurd (false≢true e)

pub record Good (b : Beginning) : Type 0 where
  pub command : b.command ≤ 7
  pub response : b.response ≤ 7
  pub vector : b.vector ≤ 127
  pub even : b.base % 2 ≡ 0
  pub low : b.base < 262144

pub good : (b : Beginning) → accepts address_bits b ≡ true → Good b
unfolding accepts
good b e =
    let p = and_true (leb b.command 7 && leb b.response 7 && leb b.vector 127 && eqb (b.base % 2) 0) (ltb b.base 262144) e in
    let q = and_true (leb b.command 7 && leb b.response 7 && leb b.vector 127) (eqb (b.base % 2) 0) p.0 in
    let r = and_true (leb b.command 7 && leb b.response 7) (leb b.vector 127) q.0 in
    let s = and_true (leb b.command 7) (leb b.response 7) r.0 in
    record {
      command = leb-true b.command 7 s.0;
      response = leb-true b.response 7 s.1;
      vector = leb-true b.vector 127 r.1;
      even = eqb-true (b.base % 2) 0 q.1;
      low = ltb-true b.base 262144 p.1;
    }

ie_back : (c r : ℕ) (i : Bool) (v : ℕ) → is_set ie (first_word c r i v) ≡ i
ie_back c r true v = eq-eqb (of ie (first_word c r true v)) 1 (omega arith)
ie_back c r false v = ne_eqb (of ie (first_word c r false v)) 1 (λ e. omega arith)

command_back : (c r : ℕ) (i : Bool) (v : ℕ) → c ≤ 7 → of command_exponent (first_word c r i v) ≡ c
command_back c r i v h = omega (arith, flag_lt i)

response_back : (c r : ℕ) (i : Bool) (v : ℕ) → r ≤ 7 → of response_exponent (first_word c r i v) ≡ r
response_back c r i v h = omega (arith, flag_lt i)

vector_back : (c r : ℕ) (i : Bool) (v : ℕ) → v ≤ 127 → of vector (first_word c r i v) ≡ v
vector_back c r i v h = omega (arith, flag_lt i)

base_back : (b : ℕ) → b % 2 ≡ 0 → b < 262144 → address_of address_bits (second_word b) (third_word b) ≡ b
base_back b e h = omega arith

-- the beginning writes IP, and a running port shows 0
started : (b : Beginning) (x : Pair) → accepts address_bits b ≡ true
    → opened b x ≡ pair (host_at x.port.made (area_of b) x.memory (Expect One false)) (port_at x.port.made (area_of b) x.memory Step1) x.memory
unfolding opened begun host_at port_at
started b x e = rw e

silent : (y : Made) (a : Area) → sa_of (PortState.with_phase (PortState.fresh y) (Running a go_word)) ≡ 0
unfolding sa_of
silent y a = refl

-- all of it
met : (b : Beginning) (x : Pair) → accepts address_bits b ≡ true → area_lies address_bits x.memory (area_of b) ≡ true
    → exchanges 4 (opened b x) ≡ running b x.port x.memory
unfolding exchanges host_at port_at
met b x e f =
    let a : Area = area_of b in
    let y : Made = x.port.made in
    let m : Memory = x.memory in
    ap (exchanges 4) (started b x e)
    ∙ ap (exchanges 3) (exchange1 y a m (first_one b.command b.response b.interrupts b.vector) (first_wr b.command b.response b.interrupts b.vector))
    ∙ ap (exchanges 2) (exchange2 y a m)
    ∙ ap (exchanges 1) (exchange3 y a m f)
    ∙ exchange4 y a (area_cleared address_bits m a)

pub every_meeting : EveryMeeting
unfolding base
every_meeting b x e f =
    let g = good b e in
    record {
      meet = met b x e f;
      quiet = ap (λ (y : Pair). sa_of y.port) (met b x e f) ∙ silent x.port.made (area_of b);
      command = command_back b.command b.response b.interrupts b.vector g.command;
      response = response_back b.command b.response b.interrupts b.vector g.response;
      interrupts = ie_back b.command b.response b.interrupts b.vector;
      vector_asked = vector_back b.command b.response b.interrupts b.vector g.vector;
      base_asked = base_back b.base g.even g.low;
    }
