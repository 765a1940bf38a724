-- Histories: the entries of a run, the last one first, so that `e ∷ H` is entry e after history H.
use Rattle.std.specs.Prelude.{Bool, ◌==◌, ◌&&◌, if◌then◌else◌, List, [], ◌∷◌}
use Rattle.table_history.specs.declared.entry.Entry.{Entry}
use Rattle.table_history.specs.declared.job.Job.{Job}

abbrev pub History : Type 0
History = List Entry

abbrev pub is_job : Job → Job → Bool
is_job a b = (a.lane == b.lane) && (a.line == b.line)

-- a job's own entries, the last one first
abbrev pub own : Job → History → List Entry
own job [] = []
own job (e ∷ H) = if is_job job e.job then e ∷ own job H else own job H
