use Rattle.std.proofs.Common.{◌≡◌, refl, true, false}
use Rattle.script_run.proofs.Meanings.{no_files, some_files}
use Rattle.script_run.proofs.solo.find_no_file.Goals as goal

false_true : false ≡ true → ⊥
false_true h = cc

pub returns-then-is_empty-clause-listed : goal.returns-then-is_empty-clause-listed
returns-then-is_empty-clause-listed g c = no_files (g.S.Store.state c.args.store.now).told.files c.in-Files.files c.in-Files.ensures.answer.1 (c.if-is_empty.ensures.0 refl)

pub returns-else-is_empty-clause-listed : goal.returns-else-is_empty-clause-listed
returns-else-is_empty-clause-listed g c = some_files (g.S.Store.state c.args.store.now).told.files c.in-Files.files c.in-Files.ensures.answer.1 (λ none. false_true (c.if-is_empty.ensures.1 none))
