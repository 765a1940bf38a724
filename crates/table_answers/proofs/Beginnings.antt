-- What holds of a history holds of what it began with.
use Rattle.std.proofs.Common.{List, [], ◌∷◌, ◌++◌}
use Rattle.hudi_base.specs.Files.{FileMap}
use Rattle.table_history.specs.Histories.{History}
use Rattle.table_history.specs.JobLaw.{Work, IsLegal}
use Rattle.table_history.specs.Tables.{Table}
use Rattle.table_history.specs.declared.entry.Entry.{Entry}
use Rattle.table_images.specs.Runs.{IsRun, Run, history_of}
use Rattle.table_answers.specs.NamedRuns.{AllNamesFit}

pub legal_before : (work : Work) (A : Table) (before : History) (more : List Entry) → IsLegal work A (more ++ before) → IsLegal work A before
legal_before work A before [] legal = legal
legal_before work A before (e ∷ more) legal = legal_before work A before more legal.0

pub named_before : (A : Table) (before : History) (more : List Entry) → AllNamesFit A (more ++ before) → AllNamesFit A before
named_before A before [] names = names
named_before A before (e ∷ more) names = named_before A before more names.1

pub run_names : (work : Work) (A : Table) (files : FileMap) (R : Run) → IsRun work A files R → AllNamesFit A (history_of R)
run_names work A files [] run = tt
run_names work A files (h ∷ R) run = (run.1.comes.names, run_names work A files R run.0)
