use Rattle.page_tests.proofs.FitLemmas.{truths_fit}
use Rattle.page_tests.proofs.pages.written_truths.Goals as goal

pub written-requires : goal.written-requires
written-requires c = truths_fit c.in_ok-column.column c.in_ok-cells.cells c.in_ok-column.ensures.0 c.in_ok-cells.ensures
