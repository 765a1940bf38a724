use Rattle.std.proofs.Common.{◌-◌, length, take, drop}
use Rattle.base_cells.proofs.PageLemmas.{page_positive}
use Rattle.base_cells.proofs.pages.page_or.Goals as goal

pub returns-then-len-left-clause-some : goal.returns-then-len-left-clause-some
returns-then-len-left-clause-some c = page_positive c.args.column.now (take (length c.args.bytes.now - c.args.at) (drop c.args.at c.args.bytes.now)) c.in-Ok.cells c.in-Ok.len c.in-Ok.ensures.exact
