use Rattle.std.proofs.Common.{◌∙◌, sym, ap, map, ◌++◌, append-nil}
use Rattle.store_mem.proofs.FilesLemmas.{in_order, size_of}
use Rattle.store_mem.proofs.files.sizes_of.Goals as goal

pub returns : goal.returns
returns c =
    let done = c.in-None.ensures.steps.0 in
    sym (append-nil c.loop-name.listing) ∙ ap (λ rest. c.loop-name.listing ++ map size_of rest) (sym done)
    ∙ c.loop-name.invariant ∙ ap (map size_of) (sym (in_order c.args.files.now.entries c.iter-name-items.ensures.ordered))
