-- What the parts of a query answer. Only private clauses cite this.
use Rattle.std.specs.Prelude.{◌≡◌, ℕ, List, [], ◌∷◌, get_or, map, Result, Ok, Err}
use Rattle.std.specs.FinMap.{empty}
use Rattle.payload_merge.specs.Fold.{RowTable, rows_of, table_after_all}
use Rattle.payload_merge.specs.RowRefs.{write_in}
use Rattle.payload_merge.specs.declared.row.Row.{Row}
use Rattle.payload_merge.specs.declared.row.Write.{Write}
use Rattle.payload_merge.specs.declared.row.Write.TheVariants.{Put, Del}
use Rattle.payload_merge.specs.declared.row_error.RowError.{RowError}
use Rattle.payload_merge.specs.declared.row_error.RowError.TheVariants.{BadContent, Memory}
use Rattle.payload_merge.specs.declared.row_refs.WriteRef.{WriteRef}
use Rattle.table_core.specs.declared.job_reply.JobReply.{JobReply}
use Rattle.table_core.specs.declared.job_reply.JobReply.TheVariants as job
use Rattle.table_query.specs.GroupReading.{Damage}
use Rattle.table_query.specs.declared.logs.PartLog.{PartLog}

-- the answer is the damage, or want of memory
abbrev pub IsStop : JobReply → Damage → Type 0
IsStop (job.Damaged name cause place) damage = damage ≡ record { name = name; cause = cause; place = place }
IsStop job.Memory damage = Unit {0}
IsStop _ damage = ⊥

-- an error tells what was found, unless memory was wanting
abbrev pub IsErrorOf : {A : Type 0} → JobReply → Result A Damage → Type 0
IsErrorOf (job.Damaged name cause place) found = found ≡ Err (record { name = name; cause = cause; place = place })
IsErrorOf job.Memory found = Unit {0}
IsErrorOf _ found = ⊥

-- the logs that were found
abbrev pub GivesLogs : Result (List PartLog) JobReply → Result (List PartLog) Damage → Type 0
GivesLogs (Ok logs) found = found ≡ Ok logs
GivesLogs (Err error) found = IsErrorOf error found

-- the writes that were found make of the first table the second
abbrev pub Folds : {E : Type 0} → Result (List Write) E → RowTable → RowTable → Type 0
Folds (Ok writes) old new = new ≡ table_after_all old writes
Folds (Err error) old new = ⊥

abbrev pub GivesFold : Result (Unit {0}) JobReply → Result (List Write) Damage → RowTable → RowTable → Type 0
GivesFold (Ok done) found old new = Folds found old new
GivesFold (Err error) found old new = IsErrorOf error found

-- of one block
abbrev pub GivesBlock : Result (Unit {0}) RowError → Result (List Write) ℕ → RowTable → RowTable → Type 0
GivesBlock (Ok done) found old new = Folds found old new
GivesBlock (Err (BadContent offset)) found old new = found ≡ Err offset
GivesBlock (Err Memory) found old new = Unit {0}
GivesBlock (Err _) found old new = ⊥

-- the bytes of a file by its number
abbrev pub text_at : List (List ℕ) → ℕ → List ℕ
text_at texts number = get_or texts number []

abbrev pub GivesLog : Result PartLog JobReply → Result (List PartLog) Damage → Type 0
GivesLog (Ok log) found = found ≡ Ok (log ∷ [])
GivesLog (Err error) found = IsErrorOf error found

-- the rows that the writes found leave where there was none, in the order of their keys
abbrev pub LeavesRows : {E : Type 0} → Result (List Write) E → List Row → Type 0
LeavesRows (Ok writes) rows = rows ≡ rows_of (table_after_all empty writes)
LeavesRows (Err error) rows = ⊥

abbrev pub GivesRows : Result (List Row) JobReply → Result (List Write) Damage → Type 0
GivesRows (Ok rows) found = LeavesRows found rows
GivesRows (Err error) found = IsErrorOf error found

-- there are no deletes
abbrev pub ArePuts : List Write → Type 0
ArePuts [] = Unit {0}
ArePuts (Put row ∷ writes) = ArePuts writes
ArePuts (Del partition key rank ∷ writes) = ⊥

-- what borrowed writes to a partition leave where there was no row
abbrev pub lent_table : List ℕ → List WriteRef → RowTable
lent_table partition writes = table_after_all empty (map (write_in partition) writes)
