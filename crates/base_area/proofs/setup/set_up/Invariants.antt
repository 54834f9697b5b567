use mathlib.Core.Path.{◌≡◌}
use Rattle.base_words.specs.Words.{address_bits}
use Rattle.base_area.specs.Setup.{slots_set}
use Rattle.base_area.proofs.setup.set_up.Given as goal

abbrev pub invariant-loop-j : goal.invariant-loop-j
invariant-loop-j l = l.mem ≡ slots_set address_bits l.area l.pool l.j l.initial.mem
