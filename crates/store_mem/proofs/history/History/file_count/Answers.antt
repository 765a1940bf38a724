use Rattle.std.proofs.Common.{◌∙◌, sym, ap}
use Rattle.std.specs.FinMap.{len}
use Rattle.store_mem.specs.Files.{files_made}
use Rattle.store_mem.proofs.FilesLemmas.{len_in_order}
use Rattle.store_mem.proofs.history.History.file_count.Goals as goal

pub returns : goal.returns
returns c =
    c.len.ensures.len ∙ sym (len_in_order c.self.inside.files.entries c.len.ensures.ordered)
    ∙ ap len c.self.invariant ∙ ap (λ history. len (files_made history)) c.self.view_is
