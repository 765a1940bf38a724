use Rattle.std.proofs.Common.{◌≡◌, true, false, rules}
use Rattle.std.specs.Prelude.{◌==◌}
use Rattle.std.specs.List.{list_any}
use Rattle.table_core.proofs.ViewLemmas.{absent_decides, named_decides}
use Rattle.table_core.proofs.control.Control.decide_pin_at.Goals as goal

pub returns-then-not-is_among : goal.returns-then-not-is_among
returns-then-not-is_among c = λ A H now is.
    let absent : list_any (λ u. u == c.args.t) c.args.self.now.completed.items ≡ false = search rules in
    rw c.without_operation.ensures (absent_decides A H c.args.self.now c.args.t c.args.bases_only now is absent)

pub returns : goal.returns
returns c = λ A H now is.
    let among : list_any (λ u. u == c.args.t) c.args.self.now.completed.items ≡ true = search rules in
    rw c.without_operation-2.ensures (named_decides A H c.args.self.now c.args.t c.args.bases_only c.in_ok-view.view now is c.in_ok-view.ensures among)
