use Rattle.std.proofs.Common.{ap, ◌∙◌, set}
use Rattle.std.proofs.lemmas.List.{drop-set-add}
use Rattle.instant_line.specs.PendingList.{Queue}
use Rattle.instant_line.proofs.pending_list.PendingList.replace.Goals as goal

pub returns-clause-items : goal.returns-clause-items
returns-clause-items c =
    drop-set-add c.self.inside.gone c.self.inside.all.items c.args.place c.args.instant
    ∙ ap (λ (q : Queue). set q.items c.args.place c.args.instant) c.self.view_is
