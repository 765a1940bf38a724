use Rattle.std.proofs.Common.{arith}
use Rattle.parquet_pages.proofs.LevelsLemmas.{runs_within, prefix_lengths}
use Rattle.parquet_pages.proofs.levels.levels_at.Goals as goal

pub error_behind-requires : goal.error_behind-requires
error_behind-requires c =
    let within = runs_within c.args.count c.in_ok-runs.runs.now c.in-Err-Field.error (rw c.in-Err-Field.field-0-is at c.in-Err-Field.ensures) in
    let lengths = prefix_lengths c.args.bytes.now c.in_ok-runs.runs.now c.in_ok-runs.rest.now (λ i. omega (arith, c.type_inv.bytes i)) c.in_ok-runs.ensures in
    omega (arith, within, lengths)
