use mathlib.Core.Path.{refl}
use Rattle.base_words.proofs.BackLaws.{read_back}
use Rattle.base_words.proofs.readback.read_back.Goals as goal

-- The fact is `read_back`. Assumes nothing.
pub returns : goal.returns
returns c = (refl, read_back)
