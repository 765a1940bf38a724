use Rattle.std.proofs.Common.{◌≡◌, ◌≤◌, ◌+◌, ◌++◌, ◌∷◌, drop}
use Rattle.parquet_pages.specs.Levels.{levels_body}
use Rattle.parquet_pages.proofs.LevelsLemmas.{with_run}
use Rattle.parquet_pages.proofs.levels.put_runs_from.Given as goal

abbrev pub invariant-loop-next : goal.invariant-loop-next
invariant-loop-next l =
    (l.times ≤ l.next-index + 1)
    × (l.out.items ++ with_run l.times l.level (drop l.next-index l.more) ≡ l.initial.out.items ++ levels_body (l.first ∷ l.more))
