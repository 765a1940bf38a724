use Rattle.std.proofs.Common.{List, [], ◌∷◌, ◌++◌, sym, ap, ◌∙◌}
use Rattle.file_groups.specs.Views.{log_parts}
use Rattle.file_groups.specs.declared.parts.LogPart.{LogPart}
use Rattle.file_groups.proofs.FileLists.{logs_more}
use Rattle.file_groups.proofs.views.log_parts.Goals as goal

pub loop-file-preserved : goal.loop-file-preserved
loop-file-preserved c =
    c.in_ok-push_log.ensures
    ∙ ap (λ (logs : List LogPart). logs ++ log_parts c.args.table.now (c.loop-file-item.result ∷ [])) c.loop-file.invariant
    ∙ sym (logs_more c.args.table.now c.args.files.now c.loop-file.file-index c.loop-file-item.result c.loop-file-test.true c.loop-file-item.is)
