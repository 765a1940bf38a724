use Rattle.std.proofs.Common.{ℕ, List, [], ◌∷◌, ◌++◌, sym, ap, ◌∙◌}
use Rattle.std.specs.List.{filter_map}
use Rattle.file_groups.specs.Names.{name_if_named}
use Rattle.file_groups.proofs.FileLists.{names_more}
use Rattle.file_groups.proofs.names.names_of.Goals as goal

pub loop-file-preserved : goal.loop-file-preserved
loop-file-preserved c =
    c.in_ok-push_name.ensures
    ∙ ap (λ (names : List (List ℕ)). names ++ filter_map (name_if_named c.args.table.now) (c.loop-file-item.result.0 ∷ [])) c.loop-file.invariant
    ∙ sym (names_more c.args.table.now c.args.files.now c.loop-file.file-index c.loop-file-item.result c.loop-file-test.true c.loop-file-item.is)
