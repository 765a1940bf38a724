-- What the bytes of a view's files hold: the writes of its completed instants, or the first part that has no reading.
use Rattle.std.specs.Prelude.{ℕ, ◌+◌, ◌==◌, ◌&&◌, not, Bool, true, false, if◌then◌else◌, List, [], ◌∷◌, ◌++◌, length, Result, Ok, Err}
use Rattle.std.specs.List.{flat_map, list_any}
use Rattle.block_contents.specs.Deletes.{deletes_in}
use Rattle.hudi_base.specs.declared.file_group.GroupRef.{GroupRef}
use Rattle.log_block.specs.declared.block.Block.{Block}
use Rattle.log_block.specs.declared.block.Block.TheVariants.{Data, Delete, Rollback}
use Rattle.log_scan.specs.Texts.{scan_of}
use Rattle.log_scan.specs.declared.found.Scan.{Scan}
use Rattle.payload_merge.specs.Contents.{DataReading, data_writes}
use Rattle.payload_merge.specs.declared.row.Write.{Write}
use Rattle.table_history.specs.declared.reply.Cause.{Cause}
use Rattle.table_history.specs.declared.reply.Cause.TheVariants as cause
use Rattle.table_history.specs.declared.view.GroupParts.{GroupParts}
use Rattle.table_history.specs.declared.view.Part.{Part}
use Rattle.table_jobs.specs.Places.{place_in}
use Rattle.table_query.specs.declared.logs.PartLog.{PartLog}

-- how a table's blocks are read: its data contents, and its name, which is in the ids of its groups; deletes are read
-- alike in all tables
pub record TableReading : Type 0 where
  pub rows : DataReading
  pub table : List ℕ

-- A part that has no reading: its name, what is wrong, and where. That is the offset in a file that is no log text, and
-- the number of the block, from 0, whose content has no reading.
pub record Damage : Type 0 where
  pub name : List ℕ
  pub cause : Cause
  pub place : ℕ

-- the second, behind the first, unless one of them is an error, the first first
abbrev pub followed_by : {A E : Type 0} → Result (List A) E → Result (List A) E → Result (List A) E
followed_by (Err e) later = Err e
followed_by (Ok xs) (Err e) = Err e
followed_by (Ok xs) (Ok ys) = Ok (xs ++ ys)

-- what each of some things gives, one behind another, or the first error. Each is numbered by the sizes of those before it.
abbrev pub all_from : {A B E : Type 0} → (A → ℕ) → (ℕ → A → Result (List B) E) → ℕ → List A → Result (List B) E
all_from size gives number [] = Ok []
all_from size gives number (x ∷ xs) = followed_by (gives number x) (all_from size gives (number + size x) xs)

abbrev pub one_each : {A : Type 0} → A → ℕ
one_each x = 1

-- ---- the logs of a group

-- The blocks of a part. A torn rest holds none, and is no damage. Until base files can be read, a base file has no reading.
abbrev pub log_of : Part → List ℕ → Result (List PartLog) Damage
log_of part bytes = by part.base (scan_of bytes)
  where
    by : Bool → Result Scan ℕ → Result (List PartLog) Damage
    by true found = Err (record { name = part.name; cause = cause.Base; place = 0 })
    by false (Ok found) = Ok (record { name = part.name; blocks = found.blocks } ∷ [])
    by false (Err at) = Err (record { name = part.name; cause = cause.Log; place = at })

-- the logs of parts, whose files are numbered from here on
abbrev pub part_gives : (ℕ → List ℕ) → ℕ → Part → Result (List PartLog) Damage
part_gives bytes number part = log_of part (bytes number)

abbrev pub logs_of : (ℕ → List ℕ) → ℕ → List Part → Result (List PartLog) Damage
logs_of bytes first parts = all_from one_each (part_gives bytes) first parts

-- ---- the blocks that count

abbrev pub is_among : List ℕ → ℕ → Bool
is_among times t = list_any (λ u. t == u) times

abbrev pub target_of : Block → List ℕ
target_of (Rollback instant target) = target ∷ []
target_of _ = []

-- The instants that rollback blocks of a group void. For now a group has one slice, so they void them in all its logs.
abbrev pub voided : List PartLog → List ℕ
voided logs = flat_map (λ log. flat_map target_of log.blocks) logs

-- a block of a completed instant that isn't voided
abbrev pub counts : List ℕ → List ℕ → Block → Bool
counts completed void (Data instant schema content) = is_among completed instant && not (is_among void instant)
counts completed void (Delete instant content) = is_among completed instant && not (is_among void instant)
counts completed void (Rollback instant target) = false

-- ---- their writes

-- the puts of a data block, and the deletes of a delete block in the group's partition
abbrev pub block_writes : TableReading → GroupRef → Block → Result (List Write) ℕ
block_writes reading group (Data instant schema content) = data_writes reading.rows (place_in reading.table instant group) content
block_writes reading group (Delete instant content) = deletes_in group.partition content
block_writes reading group (Rollback instant target) = Ok []

-- the writes of a block with a number, or the number where it has none
abbrev pub numbered : ℕ → Result (List Write) ℕ → Result (List Write) ℕ
numbered number (Ok writes) = Ok writes
numbered number (Err offset) = Err number

-- the writes of those blocks of a log that count, or the number of the first of them that has no reading
abbrev pub block_gives : TableReading → GroupRef → (Block → Bool) → ℕ → Block → Result (List Write) ℕ
block_gives reading group counted number block = if counted block then numbered number (block_writes reading group block) else Ok []

abbrev pub log_writes : TableReading → GroupRef → (Block → Bool) → List Block → Result (List Write) ℕ
log_writes reading group counted blocks = all_from one_each (block_gives reading group counted) 0 blocks

-- the writes of a part, or its damage
abbrev pub in_part : List ℕ → Result (List Write) ℕ → Result (List Write) Damage
in_part name (Ok writes) = Ok writes
in_part name (Err number) = Err (record { name = name; cause = cause.Content; place = number })

abbrev pub log_gives : TableReading → GroupRef → (Block → Bool) → ℕ → PartLog → Result (List Write) Damage
log_gives reading group counted number log = in_part log.name (log_writes reading group counted log.blocks)

abbrev pub logs_writes : TableReading → GroupRef → (Block → Bool) → List PartLog → Result (List Write) Damage
logs_writes reading group counted logs = all_from one_each (log_gives reading group counted) 0 logs

-- The writes that a group's logs hold: first each of them has to be a text, and then each content that counts has to have
-- a reading.
abbrev pub writes_in : TableReading → List ℕ → GroupRef → Result (List PartLog) Damage → Result (List Write) Damage
writes_in reading completed group (Err damage) = Err damage
writes_in reading completed group (Ok logs) = logs_writes reading group (counts completed (voided logs)) logs

abbrev pub group_writes : TableReading → List ℕ → (ℕ → List ℕ) → ℕ → GroupParts → Result (List Write) Damage
group_writes reading completed bytes first g = writes_in reading completed g.group (logs_of bytes first g.parts)

-- how many files a group has
abbrev pub files_in : GroupParts → ℕ
files_in g = length g.parts

-- the writes of a view's groups, whose files are numbered in their order
abbrev pub view_writes : TableReading → List ℕ → (ℕ → List ℕ) → List GroupParts → Result (List Write) Damage
view_writes reading completed bytes groups = all_from files_in (group_writes reading completed bytes) 0 groups
