use Rattle.std.proofs.Common.{◌≡◌, ◌≤◌, length}
use Rattle.parquet_pages.specs.Levels.{runs_at, taken}
use Rattle.parquet_pages.proofs.LevelsLemmas.{with_rest}
use Rattle.parquet_pages.proofs.levels.runs_at.Given as goal

abbrev pub invariant-loop-rest : goal.invariant-loop-rest
invariant-loop-rest l =
    (length l.levels.items ≤ l.count)
    × (taken l.count (runs_at (length l.bytes) l.bytes) ≡ with_rest l.count l.levels.items l.rest)

abbrev pub decreases-loop-rest : goal.decreases-loop-rest
decreases-loop-rest l = length l.rest
