-- The host: what has come of a text is zero from its length on, and before its length is known all zero. Assumes nothing.
use Rattle.base_answers.specs.declared.Fatal.{Fatal}
use Rattle.std.specs.Prelude.{Err, None, Ok, Option, Result, Some}
use Prim.Native.Nat.{ℕ, ◌+◌, ◌*◌, ◌<◌}
use mathlib.Core.Path.{◌≡◌, refl, ◌∙◌}
use mathlib.Core.Bool.{Bool, true, false, cond, ◌&&◌, ◌||◌}
use mathlib.Core.List.{List, [], ◌∷◌}
use lib.Dec.{leb, eqb}
use lib.ListN.{length}
use Rattle.base_words.specs.Fields.{of, is_set, owner, connection, message_type, credits, er, step_bits}
use Rattle.base_texts.specs.Texts.{with_text, padded}
use Rattle.base_texts.proofs.Laws.{zeros_length}
use Rattle.base_memory.specs.Memory.{Memory, usable}
use Rattle.base_memory.specs.OneWord.{found}
use Rattle.base_answers.specs.Told.{Told, told, done}
use Rattle.base_rules.specs.Rules.{fault_of}
use Rattle.base_area.specs.Layout.{indicator}
use Rattle.base_area.specs.Setup.{fits}
use Rattle.base_area.specs.declared.Ring.{Ring}
use Rattle.base_area.specs.declared.Ring.TheVariants.{Command, Response}
use Rattle.base_side.specs.Place.{with_high, with_at, has_word, start_of}
use Rattle.base_side.specs.Step.{Next, Outcome, onward, denied, with_memory, stepped}
use Rattle.base_side.specs.declared.Cursor.{Cursor}
use Rattle.host_state.specs.State.{is_finished, is_ready, envelope_of, with_shake, with_sender, with_taker, with_outgoing, with_incoming, fresh}
use Rattle.host_state.specs.Side.{refuse, is_idle, text_or_closing, host_step, host_begun}
use Rattle.host_state.specs.Shake.{Turn, turn, writes_ip, writes_sa, waiting, refuses, new_host, accepts, area_of, begun, mishap, bit_of, old_of, echoes, reply, onward_from, expecting, saw_by, sa_seen, late_by, time_up}
use Rattle.host_state.specs.Setup.{made_ready, set_up_by, clear_follows, indicator_cleared}
use Rattle.host_state.specs.Send.{send_asks, send_high, sent, send_follows, send_step, send_begins, send_begun}
use Rattle.host_state.specs.Take.{take_asks, take_high, take_sound, take_header, take_text, taken, take_closed, take_follows, take_step, take_begins, take_begun}
use Rattle.host_state.specs.Calls.{Call, begins, sees, times_out, sets_up, clears, begins_send, steps_send, begins_take, steps_take, after, played}
use Rattle.host_state.specs.declared.state.Asked.{Asked}
use Rattle.host_state.specs.declared.state.Beginning.{Beginning}
use Rattle.host_state.specs.declared.state.Step.TheVariants.{One}
use Rattle.host_state.specs.declared.state.Shake.{Shake}
use Rattle.host_state.specs.declared.state.Shake.TheVariants.{Dead, Expect, Finished}
use Rattle.host_state.specs.declared.state.Stage.{Stage}
use Rattle.host_state.specs.declared.state.Stage.TheVariants.{High, Length, Header, Text, Closing, Release}
use Rattle.host_state.specs.declared.state.Side.{Side}
use Rattle.host_state.specs.declared.state.Side.TheVariants.{Idle, At}
use Rattle.host_state.specs.declared.state.Host.{Host}
use Rattle.fact_zeros.specs.Zeros.{Filled}
use Rattle.fact_zeros.proofs.Rooms.{Zero, zeros_zero, zero_on, bare, text_zero, text_length, word_in}

abbrev Clean : List ℕ → Side → Type 0
Clean t Idle = Unit {0}
Clean t (At High c) = Zero 0 t
Clean t (At Length c) = Zero 0 t
Clean t (At Header c) = Zero 0 t
Clean t (At Text c) = Zero c.size t × (2 * c.at < c.size)
Clean t (At Closing c) = Zero c.size t
Clean t (At Release c) = Zero c.size t

record Kept (t : List ℕ) (x : Side) : Type 0 where
  long : length t ≡ 60
  clean : Clean t x

abbrev Keeps : Host → Type 0
Keeps h = Kept h.incoming h.taker

record Good (h : Host) (x : Told) : Type 0 where
  keeps : Keeps h
  filled : Filled x

text_clean : (c : Cursor) (k : ℕ) (t : List ℕ) → Zero c.size t → Clean t (text_or_closing c k)
unfolding text_or_closing
text_clean c k t z = go (has_word c k) refl
  where
    go : (b : Bool) → has_word c k ≡ b → Clean t (cond b (At Text (with_at c k)) (At Closing c))
    go true e = (z, word_in k c.size e)
    go false e = z

either : (b : Bool) (x y : Next Host) → Good x.state x.told → Good y.state y.told → Good (cond b x y).state (cond b x y).told
either true x y f g = f
either false x y f g = g

---------------------------------------------------------------- the take side

module _ (h : Host) (l : length h.incoming ≡ 60) where
  refuses_with : (k : ℕ) → Good (refuse h Response k).state (refuse h Response k).told
  refuses_with k = record { keeps = record { long = l; clean = tt }; filled = bare _ _ }

  module _ (c : Cursor) where
    judged : (k : ℕ) (f : Result (Unit {0}) Fatal) → Zero 0 h.incoming → Good (take_sound h c k f).state (take_sound h c k f).told
    judged k (Err x) z = refuses_with 9
    judged k (Ok tt) z =
        either (leb (h.counts.account + k) 255) (onward (with_taker (with_incoming h h.incoming k) (text_or_closing c 0))) (refuse h Response 9)
        (record { keeps = record { long = l; clean = text_clean c 0 h.incoming (zero_on c.size h.incoming z) }; filled = bare _ _ })
        (refuses_with 9)

    finds : (s : Stage) → Clean h.incoming (At s c) → (w : Option ℕ) → Good (take_follows h s c w).state (take_follows h s c w).told
    unfolding take_follows take_high take_header take_text take_closed taken
    finds s z None = refuses_with 10
    finds High z (Some v) =
        either (is_set owner v) (refuse h Response 7) (onward (with_taker h (At Length (with_high c v)))) (refuses_with 7)
        (record { keeps = record { long = l; clean = z }; filled = bare _ _ })
    finds Length z (Some v) = record { keeps = record { long = l; clean = z }; filled = bare _ _ }
    finds Header z (Some v) = judged (of credits v) (fault_of (of message_type v) (of connection v) c.size) z
    finds Text z (Some v) =
        record {
          keeps = record {
            long = text_length h.incoming c.size c.at v ∙ l;
            clean = text_clean c (c.at + 1) (with_text h.incoming c.size c.at v) (text_zero h.incoming c.size c.at v z.1 z.0);
          };
          filled = bare _ _;
        }
    finds Closing z (Some v) = record { keeps = record { long = l; clean = z }; filled = bare _ _ }
    finds Release z (Some v) = record { keeps = record { long = l; clean = tt }; filled = record { sixty = l; beyond = λ j h. z j h } }

  take_case : (n : ℕ) (m : Memory) (x : Side) (b : Bool) → Clean h.incoming x
      → Good (host_step n h Response (take_asks n h) (take_follows h) m x b).state (host_step n h Response (take_asks n h) (take_follows h) m x b).told
  unfolding host_step
  take_case n m x false z = refuses_with 1
  take_case n m Idle true z = refuses_with 12
  take_case n m (At s c) true z = finds c s z (found n m (take_asks n h s c))

---------------------------------------------------------------- the other calls

module _ (h : Host) (K : Keeps h) where
  which : (b : Bool) (x y : Next Host) → Keeps x.state → Keeps y.state → Keeps (cond b x y).state
  which true x y f g = f
  which false x y f g = g

  which_turn : (b : Bool) (x y : Turn) → Keeps x.state → Keeps y.state → Keeps (cond b x y).state
  which_turn true x y f g = f
  which_turn false x y f g = g

  which_out : (b : Bool) (x y : Outcome Host) → Keeps x.state → Keeps y.state → Keeps (cond b x y).state
  which_out true x y f g = f
  which_out false x y f g = g

  begins_so : (n : ℕ) (b : Beginning) → Keeps (begun n h b).state
  unfolding begun
  begins_so n b = which_turn (accepts n b) (turn writes_ip (fresh (Expect One false) (area_of b))) (turn (refuses 11) h) (record { long = zeros_length; clean = tt }) K

  mishaps : (b : Bool) → Keeps (mishap h b).state
  mishaps false = K
  mishaps true = K

  sees_so : (w : ℕ) (s : Shake) → Keeps (saw_by h w s).state
  unfolding expecting
  sees_so w Dead = K
  sees_so w (Expect s b) =
      which_turn (is_set er w)
      (mishap h b)
      (cond (eqb (of step_bits w) 0 || eqb (of step_bits w) (old_of s))
      (turn waiting h)
      (cond (eqb (of step_bits w) (bit_of s) && echoes h.area s w) (turn (writes_sa (reply h.area s)) (with_shake h (onward_from s b))) (mishap h b)))
      (mishaps b)
      (which_turn (eqb (of step_bits w) 0 || eqb (of step_bits w) (old_of s))
      (turn waiting h)
      (cond (eqb (of step_bits w) (bit_of s) && echoes h.area s w) (turn (writes_sa (reply h.area s)) (with_shake h (onward_from s b))) (mishap h b))
      K
      (which_turn (eqb (of step_bits w) (bit_of s) && echoes h.area s w) (turn (writes_sa (reply h.area s)) (with_shake h (onward_from s b))) (mishap h b) K (mishaps b)))
  sees_so w Finished = K

  late : (s : Shake) → Keeps (late_by h s).state
  late Dead = K
  late (Expect s b) = mishaps b
  late Finished = K

  sets_up_lem : (n pool : ℕ) (m : Memory) → Keeps (set_up_by n h pool m).state
  unfolding set_up_by
  sets_up_lem n pool m = go (is_finished h.shake) (is_idle h.sender) (is_idle h.taker) (fits n h.area pool (usable n (length m)))
    where
      go : (f s t x : Bool)
          → Keeps
          (cond f
          (cond s
          (cond t
          (cond x
          (record { told = told done false; state = made_ready h pool; memory = Rattle.base_area.specs.Setup.set_up n h.area pool m })
          (with_memory (denied h 10) m))
          (with_memory (denied h 2) m))
          (with_memory (denied h 2) m))
          (with_memory (denied h 1) m)
          ).state
      go true true true true = K
      go true true true false = K
      go true true false x = K
      go true false t x = K
      go false s t x = K

  clear_word : (w : Option ℕ) → Keeps (clear_follows h w).state
  clear_word None = K
  clear_word (Some v) = K

  clears_so : (n : ℕ) (r : Ring) (m : Memory) → Keeps (indicator_cleared n h r m).state
  unfolding indicator_cleared
  clears_so n r m =
      which_out (is_finished h.shake) (stepped n m (indicator n h.area r 0) (clear_follows h)) (with_memory (denied h 1) m) (clear_word (found n m (indicator n h.area r 0))) K

  sends : (s : Stage) (c : Cursor) (w : Option ℕ) → Keeps (send_follows h s c w).state
  unfolding send_follows send_high sent
  sends s c None = K
  sends High c (Some v) =
      which (eqb h.counts.account 0) (refuse h Command 5) (cond (is_set owner v) (refuse h Command 6) (onward (with_sender h (At Length (with_high c v))))) K
      (which (is_set owner v) (refuse h Command 6) (onward (with_sender h (At Length (with_high c v)))) K K)
  sends Length c (Some v) = K
  sends Header c (Some v) = K
  sends Text c (Some v) = K
  sends Closing c (Some v) = K
  sends Release c (Some v) = K

  send_case : (n : ℕ) (m : Memory) (x : Side) (b : Bool) → Keeps (host_step n h Command (send_asks n h) (send_follows h) m x b).state
  unfolding host_step
  send_case n m x false = K
  send_case n m Idle true = K
  send_case n m (At s c) true = sends s c (found n m (send_asks n h s c))

  send_begins_lem : (y : Asked) (t : List ℕ) (x : Side) (b : Bool) → Keeps (host_begun h (send_begins h y t) x b).state
  unfolding host_begun
  send_begins_lem y t x false = K
  send_begins_lem y t x true =
      which (is_idle x) (send_begins h y t) (denied h 2)
      (which (leb (length t) 60)
      (onward (with_sender (with_outgoing h (padded t) y) (At High (start_of h.counts.send (envelope_of h Command h.counts.send) (length t)))))
      (denied h 3)
      K
      K)
      K

  take_begins_lem : (x : Side) (b : Bool) → Keeps (host_begun h (take_begins h) x b).state
  unfolding host_begun
  take_begins_lem x false = K
  take_begins_lem x true = which (is_idle x) (take_begins h) (denied h 2) (record { long = zeros_length; clean = zeros_zero }) K

keeps_on : (n : ℕ) (c : Call) (h : Host) → Keeps h → Keeps (after n c h)
unfolding sa_seen time_up send_step send_begun take_step take_begun
keeps_on n (begins b) h K = begins_so h K n b
keeps_on n (sees w) h K = sees_so h K w h.shake
keeps_on n times_out h K = late h K h.shake
keeps_on n (sets_up pool m) h K = sets_up_lem h K n pool m
keeps_on n (clears r m) h K = clears_so h K n r m
keeps_on n (begins_send x t) h K = send_begins_lem h K x t h.sender (is_ready h)
keeps_on n (steps_send m) h K = send_case h K n m h.sender (is_ready h)
keeps_on n begins_take h K = take_begins_lem h K h.taker (is_ready h)
keeps_on n (steps_take m) h K = (take_case h K.long n m h.taker (is_ready h) K.clean).keeps

all_keeps : (n : ℕ) (cs : List Call) (h : Host) → Keeps h → Keeps (played n cs h)
all_keeps n [] h K = K
all_keeps n (c ∷ cs) h K = all_keeps n cs (after n c h) (keeps_on n c h K)

step_filled : (n : ℕ) (h : Host) (m : Memory) → Keeps h → Filled (take_step n h m).told
unfolding take_step
step_filled n h m K = (take_case h K.long n m h.taker (is_ready h) K.clean).filled

pub every_take : (n : ℕ) (cs : List Call) (m : Memory) → Filled (take_step n (played n cs new_host) m).told
every_take n cs m = step_filled n (played n cs new_host) m (all_keeps n cs new_host (record { long = zeros_length; clean = tt }))
