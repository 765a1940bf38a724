-- When the files of a store stand for a table: what queries and a later opening of the table rely on. So far a table
-- has deltacommits alone.
use Rattle.std.specs.Prelude.{◌≡◌, ◌≢◌, ◌⊎◌, ◌≤◌, ℕ, ◌+◌, List, [], ◌∷◌, length, take, drop, Some}
use Rattle.std.specs.FinMap.{get}
use Rattle.std.specs.List.{AllByRecursion}
use Rattle.hudi_base.specs.Files.{FileMap}
use Rattle.file_names.specs.FileName.{name_of, kind_of, base, log}
use Rattle.file_names.specs.declared.file_name.FileName.{FileName}
use Rattle.table_history.specs.After.{after_history, greatest_in}
use Rattle.table_history.specs.Concerns.{IsOpened}
use Rattle.table_history.specs.Histories.{History}
use Rattle.table_history.specs.Logs.{attempts, bytes_of}
use Rattle.table_history.specs.Tables.{Table, KnownFile}
use Rattle.table_images.specs.Chains.{ChainsHold, IsCompleted}
use Rattle.table_images.specs.KnownFiles.{KnownFiles}
use Rattle.table_images.specs.LogTexts.{HasFile, WholeBlocks}
use Rattle.table_images.specs.Numbers.{NumbersBounded}
use Rattle.table_images.specs.Properties.{PropertiesFile}
use Rattle.table_images.specs.Tiles.{TilesHold}
use Rattle.table_images.specs.Timeline.{TimelineFiles}

-- The files of an image stand for a table whose session has tried to make so many names.
pub record StandsFor (image : FileMap) (A : Table) (tries : ℕ) : Type 0 where
  pub properties : PropertiesFile image A
  pub timeline : TimelineFiles image A
  pub whole : WholeBlocks image A
  pub tiles : TilesHold A
  pub chains : ChainsHold IsCompleted image A
  pub numbers : NumbersBounded image A tries
  pub known : KnownFiles image A

-- they stand for the table after a history
abbrev pub StandsAfter : Table → FileMap → History → Type 0
StandsAfter A image H = StandsFor image (after_history A H) (attempts A H)

-- ---- a table that was just opened

-- one of the known files is this one
abbrev pub Knows : List KnownFile → FileName → Type 0
Knows [] of = ⊥
Knows (known ∷ more) of = (known.file ≡ of) ⊎ Knows more of

-- each known file has its own name, and is there once
abbrev pub IsKnownOnce : Table → List KnownFile → Type 0
IsKnownOnce A [] = Unit {0}
IsKnownOnce A (known ∷ more) =
    (known.name ≡ name_of A.props.name known.file) × AllByRecursion (λ other. known.name ≢ other.name) more
    × IsKnownOnce A more

-- Nobody owns an instant, no time in the names of the timeline is above the last one, and the base and log files that
-- the table knows are all that there are, each once.
pub record IsJustOpened (files : FileMap) (A : Table) : Type 0 where
  pub opened : IsOpened A
  pub last : greatest_in A.instants ≤ A.last
  pub known : (of : FileName) (bytes : List ℕ) → HasFile files A of bytes → (kind_of of ≡ base) ⊎ (kind_of of ≡ log)
      → Knows A.files of
  pub once : IsKnownOnce A A.files

-- The base and log files of an image, each once, with all of its bytes.
pub record IsListing (image : FileMap) (A : Table) (files : List KnownFile) : Type 0 where
  pub bytes : AllByRecursion (λ known. get image known.name ≡ Some known.bytes) files
  pub all : (of : FileName) (bytes : List ℕ) → HasFile image A of bytes → (kind_of of ≡ base) ⊎ (kind_of of ≡ log)
      → Knows files of
  pub once : IsKnownOnce A files

-- ---- pieces of files

-- The file is there, the piece is within it, and it is a piece of the bytes that the table knows.
pub record IsPieceThere (image : FileMap) (A : Table) (H : History) (name : List ℕ) (offset len : ℕ) : Type 0 where
  pub content : List ℕ
  pub there : get image name ≡ Some content
  pub within : offset + len ≤ length content
  pub same : take len (drop offset content) ≡ take len (drop offset (bytes_of A H name))
