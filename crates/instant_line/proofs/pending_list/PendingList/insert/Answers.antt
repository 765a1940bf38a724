use Rattle.std.proofs.Common.{◌≤◌, length, ap, ◌∙◌, drop, arith}
use Rattle.std.specs.List.{insert}
use Rattle.instant_line.proofs.Dropped.{drop-insert}
use Rattle.instant_line.specs.PendingList.{Queue}
use Rattle.instant_line.proofs.pending_list.PendingList.insert.Goals as goal

pub returns-clause-items : goal.returns-clause-items
returns-clause-items c =
    let within : c.self.inside.gone ≤ length c.self.inside.all.items = omega (arith, c.self.invariant) in
    ap (drop c.self.inside.gone) c.in-Ok.ensures.items
    ∙ drop-insert c.self.inside.gone c.args.place c.self.inside.all.items c.args.instant within
    ∙ ap (λ (q : Queue). insert q.items c.args.place c.args.instant) c.self.view_is
