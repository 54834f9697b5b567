use mathlib.Core.Path.{◌≡◌, refl, sym}
use lib.ListN.{length}
use Rattle.base_texts.specs.Texts.{zeros}
use Rattle.base_memory.specs.Memory.{usable, lies, cleared}
use Rattle.base_rules.specs.Rules.{carried_of, left_of}
use Rattle.base_area.specs.Layout.{slots, base, slot_at, next_of, has_vector, step_interrupt, area_lies, area_cleared}
use Rattle.port_state.specs.Shake.{created, sa_of, first_heard, sa_written}
use Rattle.port_state.specs.Post.{credits_of, posted}
use Rattle.host_state.specs.Shake.{accepts, begun, expecting, sa_seen}
use Rattle.fact_examples.specs.Marked.{Claim, table}
use Rattle.fact_examples.proofs.marked_examples.Goals as goal

-- All twelve rows by computing the definitions. Assumes nothing.
all-rows : Claim
unfolding table zeros usable lies cleared carried_of left_of slots base slot_at next_of has_vector step_interrupt area_lies area_cleared created sa_of first_heard sa_written credits_of posted accepts begun expecting sa_seen
all-rows = refl

counted : length table ≡ 12
unfolding table
counted = refl

pub returns : goal.returns
returns c = (sym counted, all-rows)
