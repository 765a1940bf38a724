-- What a snapshot query answers.
use Rattle.std.specs.Prelude.{◌≡◌, ◌+◌, ℕ, List, [], ◌∷◌, All, Option, Some, None, Result, Ok, Err, IfOk, IfErr, IfSome}
use Rattle.std.specs.FinMap.{empty}
use Rattle.payload_merge.specs.Fold.{rows_of, table_after_all}
use Rattle.payload_merge.specs.declared.row.Row.{Row}
use Rattle.payload_merge.specs.declared.row.Write.{Write}
use Rattle.table_core.specs.declared.job_reply.JobReply.{JobReply}
use Rattle.table_core.specs.declared.job_reply.JobReply.TheVariants as job
use Rattle.table_history.specs.JobLaw.{Phase, Fresh, Ended, phase}
use Rattle.table_history.specs.declared.entry.Entry.{Entry}
use Rattle.table_history.specs.declared.view.GroupParts.{GroupParts}
use Rattle.table_history.specs.declared.view.View.{View}
use Rattle.table_jobs.specs.Replies.{told}
use Rattle.table_query.specs.GroupReading.{Damage, TableReading, files_in, group_writes, view_writes}
use Rattle.table_query.specs.ReadBytes.{PinsAt, IsReadWhole, ReadsBefore, bytes_read, pinned}

-- the rows that the writes leave, or the damage
abbrev pub reply_with : Option ℕ → Result (List Write) Damage → JobReply
reply_with t (Ok writes) = job.Rows t (rows_of (table_after_all empty writes))
reply_with t (Err damage) = job.Damaged damage.name damage.cause damage.place

-- Groups, whose files are numbered from here on, were read one after another: each file of each to its end, up to the
-- first group whose bytes have no reading.
abbrev pub AreReadInTurn : TableReading → List ℕ → (ℕ → List ℕ) → ℕ → List GroupParts → Type 0
AreReadInTurn reading completed bytes first [] = Unit {0}
AreReadInTurn reading completed bytes first (g ∷ groups) =
    IsReadWhole bytes first g.parts
    × IfOk (group_writes reading completed bytes first g) (λ writes. AreReadInTurn reading completed bytes (first + files_in g) groups)

-- Where the bytes of a group have no reading, no step reads a file behind the group's.
abbrev pub StopsAtDamage : TableReading → List ℕ → List Entry → ℕ → List GroupParts → Type 0
StopsAtDamage reading completed mine first [] = Unit {0}
StopsAtDamage reading completed mine first (g ∷ groups) =
    IfErr (group_writes reading completed (bytes_read mine) first g) (λ damage. ReadsBefore (first + files_in g) mine)
    × StopsAtDamage reading completed mine (first + files_in g) groups

-- Where the groups were read in turn, the answer is made of the bytes; memory may be wanting.
abbrev pub IsMadeOf : TableReading → View → (ℕ → List ℕ) → JobReply → Type 0
IsMadeOf reading view bytes job.Memory = Unit {0}
IsMadeOf reading view bytes given =
    AreReadInTurn reading view.completed bytes 0 view.groups × (given ≡ reply_with view.t (view_writes reading view.completed bytes view.groups))

-- An answer that a step told is that; else it is made of what was read. Without a pin memory was wanting.
abbrev pub IsAnswer : TableReading → Option JobReply → Option View → (ℕ → List ℕ) → JobReply → Type 0
IsAnswer reading (Some answer) view bytes given = given ≡ answer
IsAnswer reading None None bytes given = given ≡ job.Memory
IsAnswer reading None (Some view) bytes given = IsMadeOf reading view bytes given

-- a query has ended where it has no pin
abbrev pub HasLeft : Phase → Type 0
HasLeft Fresh = Unit {0}
HasLeft Ended = Unit {0}
HasLeft _ = ⊥

pub record IsQueryReply (reading : TableReading) (at : Option ℕ) (mine : List Entry) (given : JobReply) : Type 0 where
  pub pins : PinsAt at mine
  pub stops : IfSome (pinned mine) (λ view. StopsAtDamage reading view.completed mine 0 view.groups)
  pub answer : IsAnswer reading (told mine) (pinned mine) (bytes_read mine) given
  pub left : HasLeft (phase mine)

-- the rows of an answer, if it has any, all have this
abbrev pub RowsHave : (Row → Type 0) → JobReply → Type 0
RowsHave P (job.Rows t rows) = All P rows
RowsHave P _ = Unit {0}
