use Rattle.std.proofs.Common.{◌∙◌, sym, ap, Some}
use Rattle.std.specs.FinMap.{get}
use Rattle.store_mem.specs.Files.{files_made}
use Rattle.store_mem.proofs.FilesLemmas.{get_found}
use Rattle.store_mem.proofs.history.History.file.Goals as goal

pub returns-in-Some : goal.returns-in-Some
returns-in-Some c =
    ap (λ history. get (files_made history) c.args.name.now) (sym c.self.view_is)
    ∙ ap (λ files. get files c.args.name.now) (sym c.self.invariant)
    ∙ get_found c.self.inside.files.entries c.args.name.now ∙ sym c.in-Some.ensures.value ∙ ap Some (sym c.as_slice.ensures)

pub returns-in-None : goal.returns-in-None
returns-in-None c =
    ap (λ history. get (files_made history) c.args.name.now) (sym c.self.view_is)
    ∙ ap (λ files. get files c.args.name.now) (sym c.self.invariant)
    ∙ get_found c.self.inside.files.entries c.args.name.now ∙ sym c.in-None.ensures.value
