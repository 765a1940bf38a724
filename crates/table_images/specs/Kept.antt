-- What an image of a table has to keep from step to step: more than that it stands for the table. What is added speaks
-- of owned instants and of the logs that this session appends to, so it says nothing of a table that was just opened.
use Rattle.std.specs.Prelude.{◌≡◌, ◌⊎◌, ℕ, ◌<◌, ◌≤◌, ◌^◌, true, false, List, [], Some}
use Rattle.std.specs.FinMap.{get}
use Rattle.std.specs.List.{AllByRecursion}
use Rattle.hudi_base.specs.Files.{FileMap}
use Rattle.hudi_base.specs.InstantTime.{IsTime}
use Rattle.hudi_base.specs.declared.file_group.Target.{Target}
use Rattle.file_names.specs.FileName.{IsNamed, name_of}
use Rattle.file_names.specs.declared.file_name.Action.TheVariants.{Delta}
use Rattle.file_names.specs.declared.file_name.FileName.TheVariants as file
use Rattle.file_names.specs.declared.file_name.State.TheVariants as state
use Rattle.file_names.specs.declared.file_name.Token.{Token}
use Rattle.log_block.specs.Form.{Fits}
use Rattle.log_block.specs.declared.block.Block.{Block}
use Rattle.table_forms.specs.NameForms.{IsPartitionPath}
use Rattle.table_history.specs.After.{after_history, greatest_in}
use Rattle.table_history.specs.Histories.{History}
use Rattle.table_history.specs.Instants.{instant_of}
use Rattle.table_history.specs.Logs.{attempts, is_unused, version_in_use, bytes_of}
use Rattle.table_history.specs.Metadata.{writes_among}
use Rattle.table_history.specs.Tables.{Table, Instant}
use Rattle.table_history.specs.Targets.{is_live, target_of_group}
use Rattle.table_history.specs.declared.job.Job.{Job}
use Rattle.table_images.specs.Chains.{ChainsHold}
use Rattle.table_images.specs.KnownFiles.{KnownFiles}
use Rattle.table_images.specs.LogTexts.{HasFile, WholeBlocks, bytes_of_blocks}
use Rattle.table_images.specs.Numbers.{NumbersBounded}
use Rattle.table_images.specs.Properties.{PropertiesFile}
use Rattle.table_images.specs.Runs.{log_in_use}
use Rattle.table_images.specs.Tiles.{TilesHold}
use Rattle.table_images.specs.Timeline.{TimelineFiles}

-- ---- owned instants

-- the group covers slots of a partition now, and its new blocks go to this slice
pub record IsCurrent (A : Table) (s : Target) : Type 0 where
  pub live : is_live A s.group ≡ true
  pub partition : IsPartitionPath s.group.partition
  pub slice : s.slice ≡ (target_of_group s.group).slice
  pub bounded : s.slice ≤ greatest_in A.instants

-- a deltacommit that isn't completed, of a time that instants may have, whose targets are current and have fewer than
-- 2^32 writes each
pub record IsOwnedWrite (A : Table) (t : ℕ) (i : Instant) : Type 0 where
  pub action : i.action ≡ Delta
  pub pending : (i.state ≡ state.Requested) ⊎ (i.state ≡ state.Inflight)
  pub time : IsTime t
  pub targets : AllByRecursion (IsCurrent A) i.targets
  pub unplaced : i.state ≡ state.Requested → i.blocks ≡ []
  pub writes : (target : ℕ) → writes_among target i.blocks < 2 ^ 32

-- each instant that a job owns is such a one
unfoldable pub OwnedInstants : Table → History → Type 0
OwnedInstants A H =
    (t : ℕ) (i : Instant) (job : Job) → instant_of A H t ≡ Some i → i.owner ≡ Some job
    → IsOwnedWrite (after_history A H) t i

-- the writes of an instant count: it is completed, or owned and no step of it failed
abbrev pub Counts : ℕ → Instant → Type 0
Counts t i = (i.state ≡ state.Completed) ⊎ (((job : Job) × (i.owner ≡ Some job)) × (i.failed ≡ false))

-- ---- the logs of this session

-- the log in use of a slice has exactly the bytes that are known of it, and these are whole blocks
pub record IsOpenLog (image : FileMap) (A : Table) (H : History) (s : Target) : Type 0 where
  pub named : IsNamed (log_in_use A H s)
  pub bytes : List ℕ
  pub there : get image (name_of A.props.name (log_in_use A H s)) ≡ Some bytes
  pub known : bytes_of A H (name_of A.props.name (log_in_use A H s)) ≡ bytes
  pub blocks : List Block
  pub fit : AllByRecursion Fits blocks
  pub whole : bytes ≡ bytes_of_blocks blocks

-- so has each log that this session has placed a block in and hasn't failed on
unfoldable pub OpenLogs : FileMap → Table → History → Type 0
OpenLogs image A H = (s : Target) → is_unused A H s ≡ false → IsOpenLog image A H s

-- the version in use is the greatest of the slice: another log is of a lesser one
abbrev pub IsOldOrInUse : Table → History → Target → ℕ → Token → Type 0
IsOldOrInUse A H s version token =
    (version < version_in_use A H s)
    ⊎ ((is_unused A H s ≡ false) × (file.Log s.group s.slice version token ≡ log_in_use A H s))

-- so it is with each log of a slice
unfoldable pub VersionsRise : FileMap → Table → History → Type 0
VersionsRise image A H =
    (s : Target) (version : ℕ) (token : Token) (bytes : List ℕ)
    → HasFile image (after_history A H) (file.Log s.group s.slice version token) bytes
    → IsOldOrInUse A H s version token

-- ---- all of it

pub record Kept (A : Table) (image : FileMap) (H : History) : Type 0 where
  pub properties : PropertiesFile image (after_history A H)
  pub timeline : TimelineFiles image (after_history A H)
  pub whole : WholeBlocks image (after_history A H)
  pub tiles : TilesHold (after_history A H)
  pub chains : ChainsHold Counts image (after_history A H)
  pub numbers : NumbersBounded image (after_history A H) (attempts A H)
  pub known : KnownFiles image (after_history A H)
  pub owned : OwnedInstants A H
  pub logs : OpenLogs image A H
  pub versions : VersionsRise image A H
