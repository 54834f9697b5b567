use Rattle.base_words.proofs.Laws.{first_is}
use Rattle.base_words.proofs.hostword.first.Goals as goal

pub returns : goal.returns
returns c = first_is _ _ _ c.args.vector4 c.args.command c.args.response _ c.args.interrupts c.part-c.ensures c.part-p.ensures c.placed.ensures c.part-v.ensures
