-- The host's handshake: its beginning, a word of SA seen, time is up. Document 01, "Handshake", last paragraph.
use Rattle.std.specs.Prelude.{ℕ, ◌%◌, ◌^◌, Bool, true, false, cond, ◌&&◌, ◌||◌, List, leb, ltb, eqb}
use Rattle.base_words.specs.Fields.{of, is_set, er, step_bits, echo, fatal_code, upper, lower}
use Rattle.base_words.specs.Words.{first_word, second_word, third_word, go_word}
use Rattle.base_texts.specs.Texts.{zeros}
use Rattle.base_answers.specs.Told.{refusal_number}
use Rattle.base_area.specs.declared.Area.{Area}
use Rattle.host_state.specs.State.{with_shake, fresh}
use Rattle.host_state.specs.declared.state.Beginning.{Beginning}
use Rattle.host_state.specs.declared.state.Step.{Step}
use Rattle.host_state.specs.declared.state.Step.TheVariants.{One, Two, Three, Four}
use Rattle.host_state.specs.declared.state.Shake.{Shake}
use Rattle.host_state.specs.declared.state.Shake.TheVariants.{Dead, Expect, Finished}
use Rattle.host_state.specs.declared.state.Act.{Act}
use Rattle.host_state.specs.declared.state.Act.TheVariants.{WriteIp, WriteSa, Waiting, IsDead, None, PortFailed, Denied}
use Rattle.host_state.specs.declared.state.Host.{Host}
use Rattle.host_state.specs.declared.state.Shaken.{Shaken}

-- What the host half asks of its caller, in document 01's terms: write IP; write a word to SA; Waiting; Dead; None;
-- the port has failed with code x; refused with a number.
pub data Asks : Type 0 where
  writes_ip : Asks
  writes_sa : ℕ → Asks
  waiting : Asks
  dead : Asks
  none : Asks
  port_fatal : ℕ → Asks
  refuses : ℕ → Asks

abbrev pub asks_of : Act → Asks
asks_of WriteIp = writes_ip
asks_of (WriteSa w) = writes_sa w
asks_of Waiting = waiting
asks_of IsDead = dead
asks_of None = none
asks_of (PortFailed x) = port_fatal x
asks_of (Denied r) = refuses (refusal_number r)

-- What a handshake call leaves: what it asks, the length and the 60 bytes that every answer has, and the next state.
pub record Turn : Type 0 where
  pub asks : Asks
  pub size : ℕ
  pub bytes : List ℕ
  pub state : Host

abbrev pub turn_by : Shaken → Turn
turn_by r = record { asks = asks_of r.act; size = r.size; bytes = r.bytes; state = r.host }

-- No call of the handshake carries a text: "length 0 and 60 zero bytes".
abbrev pub turn : Asks → Host → Turn
turn x h = record { asks = x; size = 0; bytes = zeros; state = h }

-- A new host half: every word answers Dead until its first beginning.
abbrev pub new_host : Host
new_host = fresh Dead (record { first = 0; second = 0; third = 0 })

-- Refusal 11: "exponent over 7, vector/4 over 127, or ring base odd or wider than 18 bits".
unfoldable pub accepts : ℕ → Beginning → Bool
accepts n b = leb b.command 7 && leb b.response 7 && leb b.vector 127 && eqb (b.base % 2) 0 && ltb b.base (2 ^ n)

-- The three words that the host will write.
abbrev pub area_of : Beginning → Area
area_of b = record { first = first_word b.command b.response b.interrupts b.vector; second = second_word b.base; third = third_word b.base }

-- "The host half begins, at any time and forgetting all else, by writing IP". Refused, it changes nothing at all.
unfoldable pub begun : ℕ → Host → Beginning → Turn
begun n h b = cond (accepts n b) (turn writes_ip (fresh (Expect One false) (area_of b))) (turn (refuses 11) h)

-- The bit of a step among SA's four step bits, and the old step's; while Step 1 is expected there is no old step.
abbrev pub bit_of : Step → ℕ
bit_of One = 1
bit_of Two = 2
bit_of Three = 4
bit_of Four = 8

abbrev pub old_of : Step → ℕ
old_of One = 0
old_of Two = 1
old_of Three = 2
old_of Four = 4

-- Step 2 echoes the Step 1 word's bits 15-8, Step 3 its bits 7-0.
abbrev pub echoes : Area → Step → ℕ → Bool
echoes a One w = true
echoes a Two w = eqb (of echo w) (of upper a.first)
echoes a Three w = eqb (of echo w) (of lower a.first)
echoes a Four w = true

-- The word that answers each step, and what the host expects then.
abbrev pub reply : Area → Step → ℕ
reply a One = a.first
reply a Two = a.second
reply a Three = a.third
reply a Four = go_word

abbrev pub onward_from : Step → Bool → Shake
onward_from One b = Expect Two b
onward_from Two b = Expect Three b
onward_from Three b = Expect Four b
onward_from Four b = Finished

-- "makes it write IP once more; the second such event answers Dead".
abbrev pub mishap : Host → Bool → Turn
mishap h false = turn writes_ip (with_shake h (Expect One true))
mishap h true = turn dead (with_shake h Dead)

-- A word of SA while a step is expected.
unfoldable pub expecting : Host → Step → Bool → ℕ → Turn
expecting h s b w =
    cond (is_set er w)
    (mishap h b)
    (cond (eqb (of step_bits w) 0 || eqb (of step_bits w) (old_of s))
    (turn waiting h)
    (cond (eqb (of step_bits w) (bit_of s) && echoes h.area s w)
    (turn (writes_sa (reply h.area s)) (with_shake h (onward_from s b)))
    (mishap h b)))

-- "then a word with ER names fatal x (bits 10-0), any other answers None".
abbrev pub saw_by : Host → ℕ → Shake → Turn
saw_by h w Dead = turn dead h
saw_by h w (Expect s b) = expecting h s b w
saw_by h w Finished = turn (cond (is_set er w) (port_fatal (of fatal_code w)) none) h

unfoldable pub sa_seen : Host → ℕ → Turn
sa_seen h w = saw_by h w h.shake

abbrev pub late_by : Host → Shake → Turn
late_by h Dead = turn dead h
late_by h (Expect s b) = mishap h b
late_by h Finished = turn none h

-- "time is up".
unfoldable pub time_up : Host → Turn
time_up h = late_by h h.shake
