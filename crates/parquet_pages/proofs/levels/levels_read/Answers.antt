use Rattle.std.proofs.Common.{◌-◌, ◌∙◌, ap, sym, length, drop, Bool, List, Ok, arith}
use Rattle.parquet_pages.proofs.LevelsLemmas.{levels_answer, levels_at_within}
use Rattle.parquet_pages.proofs.levels.levels_read.Goals as goal

pub overflow_sub-result : goal.overflow_sub-result
overflow_sub-result c =
    (levels_answer c.args.count c.args.bytes.now c.in-Ok.rest.now c.in-Ok.levels.items (λ i. omega (arith, c.type_inv.bytes i)) c.in-Ok.ensures).0

pub returns-in-Ok : goal.returns-in-Ok
returns-in-Ok c =
    let answer = levels_answer c.args.count c.args.bytes.now c.in-Ok.rest.now c.in-Ok.levels.items (λ i. omega (arith, c.type_inv.bytes i)) c.in-Ok.ensures in
    (omega arith, answer.1 ∙ ap (λ (levels : List Bool). Ok (levels, drop (length c.args.bytes.now - length c.in-Ok.rest.now) c.args.bytes.now)) (sym c.from_vec.ensures))

pub returns-in-Err-Field : goal.returns-in-Err-Field
returns-in-Err-Field c =
    let read = rw c.in-Err-Field.field-0-is at c.in-Err-Field.ensures in
    let within = levels_at_within c.args.count c.args.bytes.now c.in-Err-Field.error (λ i. omega (arith, c.type_inv.bytes i)) read in
    (c.in-Err-Field.error, read, omega (arith, within, c.offset.ensures))
