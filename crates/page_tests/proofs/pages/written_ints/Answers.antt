use Rattle.page_tests.proofs.FitLemmas.{ints_fit}
use Rattle.page_tests.proofs.pages.written_ints.Goals as goal

pub written-requires : goal.written-requires
written-requires c = ints_fit c.in_ok-column.column c.in_ok-cells.cells c.in_ok-column.ensures.0 c.in_ok-column.ensures.1 c.in_ok-cells.ensures
