-- The bounds of the numbers in file names and in blocks.
use Rattle.std.specs.Prelude.{◌≡◌, ◌⊎◌, ℕ, true, ◌<◌, ◌≤◌, List, Some}
use Rattle.std.specs.List.{AllByRecursion}
use Rattle.hudi_base.specs.Files.{FileMap}
use Rattle.hudi_base.specs.InstantTime.{first_time}
use Rattle.hudi_base.specs.declared.file_group.GroupRef.{GroupRef}
use Rattle.file_names.specs.declared.file_name.Action.{Action}
use Rattle.file_names.specs.declared.file_name.Action.TheVariants.{Delta, Compaction, Replace}
use Rattle.file_names.specs.declared.file_name.FileName.TheVariants as file
use Rattle.file_names.specs.declared.file_name.State.TheVariants as state
use Rattle.file_names.specs.declared.file_name.Token.{Token}
use Rattle.log_block.specs.declared.block.Block.{Block}
use Rattle.log_block.specs.declared.block.Block.TheVariants.{Data, Delete, Rollback}
use Rattle.table_history.specs.After.{greatest_in}
use Rattle.table_history.specs.Tables.{Table, Instant, instant_at}
use Rattle.table_history.specs.Targets.{is_live, target_of_group}
use Rattle.table_images.specs.LogTexts.{HasFile, blocks_in}

-- the name was made by an earlier session, or by one of the attempts that this session has made
abbrev pub IsMade : Table → ℕ → Token → Type 0
IsMade A tries token = (token.session < A.session) ⊎ ((token.session ≡ A.session) × (token.attempt < tries))

-- no time in the block is above this one
abbrev pub IsUpTo : ℕ → Block → Type 0
IsUpTo most (Data instant schema content) = instant ≤ most
IsUpTo most (Delete instant content) = instant ≤ most
IsUpTo most (Rollback instant target) = (instant ≤ most) × (target ≤ most)

-- A log: no time in its name or its blocks is above the greatest in the names of the timeline, and the slice of a live
-- group isn't above the one that new blocks go to.
pub record IsBoundedLog (A : Table) (tries : ℕ) (group : GroupRef) (slice : ℕ) (token : Token) (bytes : List ℕ)
    : Type 0 where
  pub made : IsMade A tries token
  pub drawn : slice ≤ greatest_in A.instants
  pub current : is_live A group ≡ true → slice ≤ (target_of_group group).slice
  pub blocks : AllByRecursion (IsUpTo (greatest_in A.instants)) (blocks_in bytes)

-- a base, likewise
pub record IsBoundedBase (A : Table) (tries : ℕ) (token : Token) (t : ℕ) : Type 0 where
  pub made : IsMade A tries token
  pub time : t ≤ greatest_in A.instants

-- the actions whose completion shows in queries
abbrev pub HasData : Action → Type 0
HasData Delta = Unit {0}
HasData Compaction = Unit {0}
HasData Replace = Unit {0}
HasData _ = ⊥

-- a data instant
abbrev pub IsDataInstant : Instant → Type 0
IsDataInstant i = (i.state ≡ state.Completed) × HasData i.action

-- the earliest instant that queries may read: the first time, or a data instant
abbrev pub IsEarliest : Table → Type 0
IsEarliest A =
    (A.earliest ≡ first_time) ⊎ ((i : Instant) × (instant_at A.instants A.earliest ≡ Some i) × IsDataInstant i)

-- no instant began after more completions than there are
abbrev pub StartsBounded : Table → Type 0
StartsBounded A = (t : ℕ) (i : Instant) → instant_at A.instants t ≡ Some i → i.start ≤ A.completed

-- all of it, of an image and a table whose session has tried to make so many names
pub record NumbersBounded (image : FileMap) (A : Table) (tries : ℕ) : Type 0 where
  pub logs : (group : GroupRef) (slice version : ℕ) (token : Token) (bytes : List ℕ)
      → HasFile image A (file.Log group slice version token) bytes → IsBoundedLog A tries group slice token bytes
  pub bases : (group : GroupRef) (token : Token) (t : ℕ) (bytes : List ℕ)
      → HasFile image A (file.Base group token t) bytes → IsBoundedBase A tries token t
  pub earliest : IsEarliest A
  pub starts : StartsBounded A
