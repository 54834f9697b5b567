-- A start for every pair of exponents, and a mixed run computed. Assumes nothing.
use Prim.Native.Nat.{ℕ, ◌+◌, ◌*◌, ◌≤◌}
use mathlib.Core.Path.{◌≡◌, refl, sym, ap, subst, ◌∙◌}
use mathlib.Core.Bool.{Bool, true, false}
use native.Mathlib.Omega.{arith}
use lib.ListN.{length}
use borrow.Author.Tests.{le-leb, lt-leb}
use Rattle.base_side.specs.Step.{Outcome}
use Rattle.base_texts.specs.Texts.{zeros, byte_at, with_byte, word_of, with_text, padded}
use Rattle.base_memory.specs.Memory.{usable, lies, inside, word_at, with_word, cleared, Memory}
use Rattle.base_rules.specs.Rules.{fault_of, carried_of, left_of}
use Rattle.base_area.specs.Layout.{slots, base, slot_at, next_of, before_of, alone, indicator, envelope_at, has_vector, step_interrupt, area_lies, area_cleared, slot_count}
use Rattle.base_area.specs.Setup.{fits, slot_set, slots_set, set_up}
use Rattle.port_state.specs.Shake.{created, sa_of, first_heard, sa_written}
use Rattle.port_state.specs.Tail.{tail_start, tail_asks, test_follows, mark_follows}
use Rattle.port_state.specs.Fetch.{fetch_asks, fetch_high, fetch_low, fetch_header, fetch_text, fetched, fetch_release, fetch_follows, fetch_tailed, fetch_step, fetch_begun}
use Rattle.port_state.specs.Side.{text_or_release, port_step, port_begun}
use Rattle.port_state.specs.Post.{credits_of, post_asks, post_high, post_low, posted, post_release, post_follows, post_tailed, post_step, post_begun}
use Rattle.host_state.specs.State.{is_ready}
use Rattle.host_state.specs.Shake.{accepts, begun, expecting, sa_seen, area_of}
use Rattle.host_state.specs.Setup.{set_up_by}
use Rattle.host_state.specs.Send.{send_asks, send_high, sent, send_follows, send_step, send_begun}
use Rattle.host_state.specs.Side.{text_or_closing, host_step, host_begun}
use Rattle.host_state.specs.Take.{take_asks, take_high, take_header, take_text, taken, take_closed, take_follows, take_step, take_begun}
use Rattle.fact_meeting.specs.Meeting.{opened, exchange, exchanges, Pair}
use Rattle.fact_meeting.proofs.Meet.{every_meeting}
use Rattle.fact_meeting.proofs.Ways.{honest_is}
use Rattle.base_answers.specs.Told.{told, done}
use Rattle.base_words.specs.Words.{address_bits}
use Rattle.base_memory.proofs.Laws.{lies_yes, cleared_length}
use Rattle.base_area.specs.declared.Ring.TheVariants.{Command, Response}
use Rattle.fact_layout.proofs.Rings.{slots_some, slots_most}
use Rattle.host_state.specs.State as HostState
use Rattle.host_state.specs.declared.state.Shake.TheVariants.{Finished}
use Rattle.host_state.specs.declared.state.Host.{Host}
use Rattle.fact_traffic.specs.Instance.{settings, EveryPair, MixedRun}
use Rattle.fact_traffic.proofs.Demand.{setup_is}

pub mixed_run : MixedRun
unfolding zeros byte_at with_byte word_of with_text padded usable lies inside word_at with_word cleared fault_of carried_of left_of slots base slot_at next_of before_of alone indicator envelope_at has_vector step_interrupt area_lies area_cleared fits slot_set slots_set set_up created sa_of first_heard sa_written tail_start tail_asks fetch_asks fetch_high fetch_low text_or_release fetch_header fetch_text fetched fetch_release fetch_follows fetch_tailed fetch_step fetch_begun credits_of post_asks post_high post_low posted post_release post_follows post_tailed post_step post_begun is_ready accepts begun expecting sa_seen set_up_by send_asks send_high text_or_closing sent send_follows send_step send_begun take_asks take_high take_header take_text taken take_closed take_follows take_step take_begun opened exchange exchanges port_step host_step port_begun host_begun test_follows mark_follows
mixed_run = refl

-- the settings, the area and the setup of every pair of exponents
module _ (c r : ℕ) (i : Bool) (v : ℕ) where
  accepted : c ≤ 7 → r ≤ 7 → v ≤ 127 → accepts address_bits (settings c r i v) ≡ true
  unfolding accepts
  accepted hc hr hv = rw (le-leb c 7 hc, le-leb r 7 hr, le-leb v 127 hv)

  few : slot_count (area_of (settings c r i v)) ≤ 256
  few = omega (arith, slots_most (area_of (settings c r i v)) Response, slots_most (area_of (settings c r i v)) Command)

  some : 2 ≤ slot_count (area_of (settings c r i v))
  some = omega (arith, slots_some (area_of (settings c r i v)) Response, slots_some (area_of (settings c r i v)) Command)

  room : (m : Memory) → length m ≡ 32768 → usable address_bits (length m) ≡ 32768
  unfolding usable
  room m e = rw e

  in_memory : (m : Memory) → length m ≡ 32768 → area_lies address_bits m (area_of (settings c r i v)) ≡ true
  unfolding area_lies base
  in_memory m e = sym (lies_yes address_bits m 4 (8 + 4 * slot_count (area_of (settings c r i v))) 32768 (sym (room m e)) (omega arith) (omega (arith, few)))

  cleared_size : (m : Memory) → length m ≡ 32768 → length (area_cleared address_bits m (area_of (settings c r i v))) ≡ 32768
  unfolding area_cleared base
  cleared_size m e =
      cleared_length address_bits m 4 (8 + 4 * slot_count (area_of (settings c r i v)))
      (sym (lies_yes address_bits m 4 (8 + 4 * slot_count (area_of (settings c r i v))) 32768 (sym (room m e)) (omega arith) (omega (arith, few)))) (omega arith) (omega (arith, few)) ∙ e

  fitting : fits address_bits (area_of (settings c r i v)) 2048 32768 ≡ true
  unfolding fits base
  fitting =
      rw (
        le-leb (8 + 4 * slot_count (area_of (settings c r i v))) 32768 (omega (arith, few)),
        le-leb (2048 + 64 * slot_count (area_of (settings c r i v))) 32768 (omega (arith, few)),
        lt-leb (2048 + 64 * slot_count (area_of (settings c r i v))) 4 (omega arith),
        le-leb (8 + 4 * slot_count (area_of (settings c r i v))) 2048 (omega (arith, few)),
      )

  set_up_lem : (m : Memory) → length m ≡ 32768 → (set_up_by address_bits (HostState.fresh Finished (area_of (settings c r i v))) 2048 m).told ≡ told done false
  set_up_lem m e =
      ap (λ (o : Outcome Host). o.told) (setup_is address_bits (area_of (settings c r i v)) 2048 m (ap (fits address_bits (area_of (settings c r i v)) 2048) (room m e) ∙ fitting))

pub every_pair : EveryPair
every_pair c r i v x hc hr hv e l u =
    let s = accepted c r i v hc hr hv in
    let k = in_memory c r i v x.memory e in
    record {
      settings = s;
      area_in = k;
      some = l;
      most = u;
      bytes = tt;
      finished = ap (λ (y : Pair). y.host.shake) (honest_is 4 (opened (settings c r i v) x) ∙ (every_meeting (settings c r i v) x s k).meet);
      setup =
          subst (λ (y : Pair). (set_up_by address_bits y.host 2048 y.memory).told ≡ told done false) (sym (honest_is 4 (opened (settings c r i v) x) ∙ (every_meeting (settings c r i v) x s k).meet))
          (set_up_lem c r i v (area_cleared address_bits x.memory (area_of (settings c r i v))) (cleared_size c r i v x.memory e));
    }
