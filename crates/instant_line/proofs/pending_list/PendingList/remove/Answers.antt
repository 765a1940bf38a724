use Rattle.std.proofs.Common.{◌≤◌, length, ap, ◌∙◌, sym, drop, arith}
use Rattle.std.specs.List.{remove}
use Rattle.instant_line.proofs.Dropped.{drop-remove, drop_first}
use Rattle.instant_line.specs.PendingList.{Queue}
use Rattle.instant_line.proofs.pending_list.PendingList.remove.Goals as goal

pub returns-then-place-eq0-clause-items : goal.returns-then-place-eq0-clause-items
returns-then-place-eq0-clause-items c =
    let within : c.self.inside.gone ≤ length c.self.inside.all.items = omega (arith, c.self.invariant) in
    drop_first c.self.inside.gone c.self.inside.all.items within
    ∙ ap (λ (q : Queue). remove q.items 0) c.self.view_is
    ∙ ap (remove c.args.self.now.items) (sym c.if-place-eq0.true)

pub returns-else-place-eq0-clause-items : goal.returns-else-place-eq0-clause-items
returns-else-place-eq0-clause-items c =
    let within : c.self.inside.gone ≤ length c.self.inside.all.items = omega (arith, c.self.invariant) in
    ap (drop c.self.inside.gone) c.remove.ensures.items
    ∙ drop-remove c.self.inside.gone c.args.place c.self.inside.all.items within
    ∙ ap (λ (q : Queue). remove q.items c.args.place) c.self.view_is
