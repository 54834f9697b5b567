-- A word that was tested byte by byte; for the shorter ones the search does without.
use Rattle.std.proofs.Common.{rules}
use Rattle.std.proofs.lemmas.Slice.Eq.{text_from_reads}
use Rattle.program_script.proofs.order.read.Goals as goal

pub returns-in-98-clause-word : goal.returns-in-98-clause-word
returns-in-98-clause-word c = text_from_reads _ _ (search rules) (search rules)

pub returns-in_ok-text-in-98-2-clause-word : goal.returns-in_ok-text-in-98-2-clause-word
returns-in_ok-text-in-98-2-clause-word c = text_from_reads _ _ (search rules) (search rules)

pub returns-in-99-clause-word : goal.returns-in-99-clause-word
returns-in-99-clause-word c = text_from_reads _ _ (search rules) (search rules)

pub returns-in-99-2-clause-word : goal.returns-in-99-2-clause-word
returns-in-99-2-clause-word c = text_from_reads _ _ (search rules) (search rules)

pub returns-in_ok-text-in-98-3-clause-word : goal.returns-in_ok-text-in-98-3-clause-word
returns-in_ok-text-in-98-3-clause-word c = text_from_reads _ _ (search rules) (search rules)
