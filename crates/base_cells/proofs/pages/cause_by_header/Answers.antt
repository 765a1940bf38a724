use Rattle.std.proofs.Common.{◌∙◌, ap, sym, drop, Err, arith}
use Rattle.base_cells.specs.declared.base_error.BaseError.TheVariants.{BadBase}
use Rattle.base_cells.specs.declared.base_error.BaseCause.{BaseCause}
use Rattle.base_cells.proofs.PageLemmas.{too_many, told_count}
use Rattle.base_cells.proofs.pages.cause_by_header.Goals as goal

pub returns-in-Some-clause-cause : goal.returns-in-Some-clause-cause
returns-in-Some-clause-cause c at =
    too_many c.args.column.now c.args.bytes.now (drop c.in-Ok.field-0-1 c.args.bytes.now) c.in-Ok.header c.in-Some.count c.args.left at (λ i. omega (arith, c.type_inv.bytes i)) c.in-Ok.ensures.1 (told_count c.in-Ok.header.values c.in-Some.count c.in-Some.ensures) c.if-left-count.true
    ∙ ap (λ (why : BaseCause). Err (BadBase why at)) (sym c.cause_of_many.ensures)
