use mathlib.Core.Path.{refl}
use Rattle.fact_progress.specs.Progress.{EveryOperationEnds, sends, takes, fetches, posts}
use Rattle.fact_progress.proofs.SendRun.{send_ends_lem}
use Rattle.fact_progress.proofs.TakeRun.{take_ends}
use Rattle.fact_progress.proofs.FetchRun.{fetch_ends_lem}
use Rattle.fact_progress.proofs.PostRun.{post_ends}
use Rattle.fact_progress.proofs.every_operation_ends.Goals as goal

-- The four runs, each by its own file. Assumes nothing.
every : EveryOperationEnds
every sends = send_ends_lem
every takes = take_ends
every fetches = fetch_ends_lem
every posts = post_ends

pub returns : goal.returns
returns c = (refl, every)
