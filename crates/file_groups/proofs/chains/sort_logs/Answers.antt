use Rattle.std.proofs.Common.{rules}
use Rattle.std.proofs.lemmas.Result.{IfOk-weaker}
use Rattle.file_groups.specs.Chains.{log_number}
use Rattle.file_groups.proofs.SortLemmas.{sorted_from}
use Rattle.file_groups.proofs.chains.sort_logs.Goals as goal

pub returns : goal.returns
returns c =
    IfOk-weaker c.sort_by_key.result _ _
    (λ done sorted. sorted_from log_number _ _ c.sort_by_key.ensures.permutation sorted c.sort_by_key.ensures.stable (λ a r q k. search rules))
    c.sort_by_key.ensures.sorted
