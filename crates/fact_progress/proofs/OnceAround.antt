-- The premises are met, by computing. Assumes nothing.
use mathlib.Core.Path.{refl}
use lib.Dec.{lit≤, lit<}
use Rattle.base_texts.specs.Texts.{zeros, byte_at, with_byte, word_of, with_text, padded}
use Rattle.base_memory.specs.Memory.{usable, inside, lies, with_word, cleared}
use Rattle.base_rules.specs.Rules.{fault_of, carried_of, left_of}
use Rattle.base_area.specs.Layout.{slots, base, slot_at, next_of, envelope_at}
use Rattle.base_area.specs.Setup.{fits, slot_set, slots_set, set_up}
use Rattle.port_state.specs.Post.{credits_of, posted}
use Rattle.host_state.specs.State.{is_ready}
use Rattle.host_state.specs.Setup.{set_up_by}
use Rattle.fact_progress.specs.Instance.{EveryPremiseMet}
use Rattle.fact_progress.specs.Progress.{sends, takes, fetches, posts}

pub met : EveryPremiseMet
unfolding zeros byte_at with_byte word_of with_text padded usable inside lies with_word cleared fault_of carried_of left_of slots base slot_at next_of envelope_at fits slot_set slots_set set_up credits_of posted is_ready set_up_by
met sends = record { ready = refl; idle = refl; short = lit≤ tt; credit = lit≤ tt; index = lit< tt; area_fits = refl; near = lit≤ tt; free = refl }
met takes = record { ready = refl; idle = refl; index = lit< tt; area_fits = refl; near = lit≤ tt; back = refl; sound = refl; room = lit≤ tt }
met fetches =
    record {
      runs = refl;
      idle = refl;
      index = lit< tt;
      rings = record { low = lit≤ tt; high = lit≤ tt };
      mine = refl;
      above = lit≤ tt;
      below = lit≤ tt;
      sound = refl;
      credit = refl;
    }
met posts =
    record {
      runs = refl;
      idle = refl;
      short = lit≤ tt;
      fetched = λ e. lit≤ tt;
      index = lit< tt;
      rings = record { low = lit≤ tt; high = lit≤ tt };
      mine = refl;
      above = lit≤ tt;
      below = lit≤ tt;
    }
