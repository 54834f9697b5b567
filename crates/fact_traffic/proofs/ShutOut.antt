-- Each of the wrong halves breaks the promise: the run is computed, and an answer or a number is another. Assumes nothing.
use Prim.Native.Nat.{ℕ}
use mathlib.Core.Path.{◌≡◌, refl, ap}
use mathlib.Core.List.{List, []}
use native.Mathlib.Omega.{arith}
use lib.ListN.{get_or}
use Rattle.base_texts.specs.Texts.{zeros, byte_at, with_byte, word_of, with_text, padded}
use Rattle.base_memory.specs.Memory.{usable, lies, inside, word_at, with_word, cleared}
use Rattle.base_rules.specs.Rules.{fault_of, carried_of, left_of}
use Rattle.base_area.specs.Layout.{slots, base, slot_at, next_of, before_of, alone, indicator, envelope_at, has_vector, step_interrupt, area_lies, area_cleared}
use Rattle.base_area.specs.Setup.{fits, slot_set, slots_set, set_up}
use Rattle.port_state.specs.Shake.{created, sa_of, first_heard, sa_written}
use Rattle.port_state.specs.Tail.{tail_start, tail_asks, test_follows, mark_follows}
use Rattle.port_state.specs.Fetch.{fetch_asks, fetch_high, fetch_low, fetch_header, fetch_text, fetched, fetch_release, fetch_follows, fetch_tailed, fetch_step, fetch_begun}
use Rattle.port_state.specs.Side.{text_or_release, port_step, port_begun}
use Rattle.port_state.specs.Post.{credits_of, post_asks, post_high, post_low, posted, post_release, post_follows, post_tailed, post_step, post_begun}
use Rattle.host_state.specs.State.{is_ready}
use Rattle.host_state.specs.Shake.{accepts, begun, expecting, sa_seen}
use Rattle.host_state.specs.Setup.{set_up_by}
use Rattle.host_state.specs.Send.{send_asks, send_high, sent, send_follows, send_step, send_begun}
use Rattle.host_state.specs.Side.{text_or_closing, host_step, host_begun}
use Rattle.host_state.specs.Take.{take_asks, take_high, take_header, take_text, taken, take_closed, take_follows, take_step, take_begun}
use Rattle.fact_meeting.specs.Meeting.{opened, exchange, exchanges}
use Rattle.fact_plain.specs.Plain.{full, send, fetch, post, take}
use Rattle.fact_traffic.specs.World.{Ans}
use Rattle.fact_traffic.specs.Instance.{small_settings, small, small_way, shown}
use Rattle.fact_traffic.specs.Traffic.{Start}
use Rattle.fact_traffic.specs.ShutOut.{Keeps, sending_by, fetching_by, posting_by, between_the_words, while_writing, while_reading, send_none, once_around, ShutOut}
use Rattle.fact_traffic.specs.Errors.{high_word_first, fetched_unlooked, returned_unread, fifteen_each, account_kept, owed_kept}

small_start_lem : Start small_settings small small_way [] 64
unfolding zeros byte_at with_byte word_of with_text padded usable lies inside word_at with_word cleared fault_of carried_of left_of slots base slot_at next_of before_of alone indicator envelope_at has_vector step_interrupt area_lies area_cleared fits slot_set slots_set set_up created sa_of first_heard sa_written tail_start tail_asks fetch_asks fetch_high fetch_low text_or_release fetch_header fetch_text fetched fetch_release fetch_follows fetch_tailed fetch_step fetch_begun credits_of post_asks post_high post_low posted post_release post_follows post_tailed post_step post_begun is_ready accepts begun expecting sa_seen set_up_by send_asks send_high text_or_closing sent send_follows send_step send_begun take_asks take_high take_header take_text taken take_closed take_follows take_step take_begun opened exchange exchanges full send fetch post take port_step host_step port_begun host_begun test_follows mark_follows
small_start_lem = record { settings = refl; area_in = refl; some = omega arith; most = omega arith; finished = refl; bytes = tt; setup = refl }

high_word_first_lem : Keeps (sending_by high_word_first) between_the_words → ⊥
unfolding zeros byte_at with_byte word_of with_text padded usable lies inside word_at with_word cleared fault_of carried_of left_of slots base slot_at next_of before_of alone indicator envelope_at has_vector step_interrupt area_lies area_cleared fits slot_set slots_set set_up created sa_of first_heard sa_written tail_start tail_asks fetch_asks fetch_high fetch_low text_or_release fetch_header fetch_text fetched fetch_release fetch_follows fetch_tailed fetch_step fetch_begun credits_of post_asks post_high post_low posted post_release post_follows post_tailed post_step post_begun is_ready accepts begun expecting sa_seen set_up_by send_asks send_high text_or_closing sent send_follows send_step send_begun take_asks take_high take_header take_text taken take_closed take_follows take_step take_begun opened exchange exchanges full send fetch post take port_step host_step port_begun host_begun test_follows mark_follows
high_word_first_lem P = let z : ◌≡◌ {A = ℕ} 7 100 = ap (λ (l : List Ans). get_or (shown l) 12 0) P.same in
    absurd (omega arith)

fetched_unlooked_lem : Keeps (fetching_by fetched_unlooked) while_writing → ⊥
unfolding zeros byte_at with_byte word_of with_text padded usable lies inside word_at with_word cleared fault_of carried_of left_of slots base slot_at next_of before_of alone indicator envelope_at has_vector step_interrupt area_lies area_cleared fits slot_set slots_set set_up created sa_of first_heard sa_written tail_start tail_asks fetch_asks fetch_high fetch_low text_or_release fetch_header fetch_text fetched fetch_release fetch_follows fetch_tailed fetch_step fetch_begun credits_of post_asks post_high post_low posted post_release post_follows post_tailed post_step post_begun is_ready accepts begun expecting sa_seen set_up_by send_asks send_high text_or_closing sent send_follows send_step send_begun take_asks take_high take_header take_text taken take_closed take_follows take_step take_begun opened exchange exchanges full send fetch post take port_step host_step port_begun host_begun test_follows mark_follows
fetched_unlooked_lem P = let z : ◌≡◌ {A = ℕ} 7 100 = ap (λ (l : List Ans). get_or (shown l) 9 0) P.same in
    absurd (omega arith)

returned_unread_lem : Keeps (fetching_by returned_unread) while_reading → ⊥
unfolding zeros byte_at with_byte word_of with_text padded usable lies inside word_at with_word cleared fault_of carried_of left_of slots base slot_at next_of before_of alone indicator envelope_at has_vector step_interrupt area_lies area_cleared fits slot_set slots_set set_up created sa_of first_heard sa_written tail_start tail_asks fetch_asks fetch_high fetch_low text_or_release fetch_header fetch_text fetched fetch_release fetch_follows fetch_tailed fetch_step fetch_begun credits_of post_asks post_high post_low posted post_release post_follows post_tailed post_step post_begun is_ready accepts begun expecting sa_seen set_up_by send_asks send_high text_or_closing sent send_follows send_step send_begun take_asks take_high take_header take_text taken take_closed take_follows take_step take_begun opened exchange exchanges full send fetch post take port_step host_step port_begun host_begun test_follows mark_follows
returned_unread_lem P = let z : ◌≡◌ {A = ℕ} 6 100 = ap (λ (l : List Ans). get_or (shown l) 45 0) P.same in
    absurd (omega arith)

fifteen_each_lem : Keeps (posting_by fifteen_each) once_around → ⊥
unfolding zeros byte_at with_byte word_of with_text padded usable lies inside word_at with_word cleared fault_of carried_of left_of slots base slot_at next_of before_of alone indicator envelope_at has_vector step_interrupt area_lies area_cleared fits slot_set slots_set set_up created sa_of first_heard sa_written tail_start tail_asks fetch_asks fetch_high fetch_low text_or_release fetch_header fetch_text fetched fetch_release fetch_follows fetch_tailed fetch_step fetch_begun credits_of post_asks post_high post_low posted post_release post_follows post_tailed post_step post_begun is_ready accepts begun expecting sa_seen set_up_by send_asks send_high text_or_closing sent send_follows send_step send_begun take_asks take_high take_header take_text taken take_closed take_follows take_step take_begun opened exchange exchanges full send fetch post take port_step host_step port_begun host_begun test_follows mark_follows
fifteen_each_lem P = let z : ◌≡◌ {A = ℕ} 2 15 = P.account in
    absurd (omega arith)

account_kept_lem : Keeps (sending_by account_kept) send_none → ⊥
unfolding zeros byte_at with_byte word_of with_text padded usable lies inside word_at with_word cleared fault_of carried_of left_of slots base slot_at next_of before_of alone indicator envelope_at has_vector step_interrupt area_lies area_cleared fits slot_set slots_set set_up created sa_of first_heard sa_written tail_start tail_asks fetch_asks fetch_high fetch_low text_or_release fetch_header fetch_text fetched fetch_release fetch_follows fetch_tailed fetch_step fetch_begun credits_of post_asks post_high post_low posted post_release post_follows post_tailed post_step post_begun is_ready accepts begun expecting sa_seen set_up_by send_asks send_high text_or_closing sent send_follows send_step send_begun take_asks take_high take_header take_text taken take_closed take_follows take_step take_begun opened exchange exchanges full send fetch post take port_step host_step port_begun host_begun test_follows mark_follows
account_kept_lem P = let z : ◌≡◌ {A = ℕ} 0 1 = P.account in
    absurd (omega arith)

owed_kept_lem : Keeps (posting_by owed_kept) once_around → ⊥
unfolding zeros byte_at with_byte word_of with_text padded usable lies inside word_at with_word cleared fault_of carried_of left_of slots base slot_at next_of before_of alone indicator envelope_at has_vector step_interrupt area_lies area_cleared fits slot_set slots_set set_up created sa_of first_heard sa_written tail_start tail_asks fetch_asks fetch_high fetch_low text_or_release fetch_header fetch_text fetched fetch_release fetch_follows fetch_tailed fetch_step fetch_begun credits_of post_asks post_high post_low posted post_release post_follows post_tailed post_step post_begun is_ready accepts begun expecting sa_seen set_up_by send_asks send_high text_or_closing sent send_follows send_step send_begun take_asks take_high take_header take_text taken take_closed take_follows take_step take_begun opened exchange exchanges full send fetch post take port_step host_step port_begun host_begun test_follows mark_follows
owed_kept_lem P = let z : ◌≡◌ {A = ℕ} 0 1 = P.owed in
    absurd (omega arith)

pub shut_out : ShutOut
shut_out =
    record {
      starts = small_start_lem;
      high_word_first_lem = high_word_first_lem;
      fetched_unlooked_lem = fetched_unlooked_lem;
      returned_unread_lem = returned_unread_lem;
      fifteen_each_lem = fifteen_each_lem;
      account_kept_lem = account_kept_lem;
      owed_kept_lem = owed_kept_lem;
    }
