use Rattle.base_words.proofs.Laws.{high_is}
use Rattle.base_words.proofs.descriptor.high_word.Goals as goal

pub returns : goal.returns
returns c = high_is _ _ _ c.args.rest c.args.port c.args.flag c.placed.ensures c.placed-2.ensures c.part.ensures
