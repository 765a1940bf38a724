use Rattle.std.proofs.Common.{◌∙◌, sym, ap, ◌++◌, ◌∷◌, []}
use Rattle.hudi_base.specs.Files.{changed, changed_all}
use Rattle.store_mem.specs.Files.{files_given}
use Rattle.store_mem.proofs.FilesLemmas.{changed_all-push}
use Rattle.store_mem.proofs.history.History.add.Goals as goal

pub invariant_of-self-2 : goal.invariant_of-self-2
invariant_of-self-2 c =
    let first = files_given c.self.inside.given in
    c.in_ok-change.ensures.ok ∙ ap (λ files. changed files c.args.operation) c.self.invariant
    ∙ sym (changed_all-push first c.self.inside.operations.items c.args.operation)
    ∙ ap (changed_all first) (sym (c.push_in_room.ensures ∙ ap (λ operations. operations ++ c.args.operation ∷ []) c.reserve.ensures.items))
