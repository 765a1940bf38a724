-- What is known of a table when a history begins.
use Rattle.std.specs.Prelude.{ℕ, ◌==◌, Bool, if◌then◌else◌, List, [], ◌∷◌, Option, Some, None}
use Rattle.hudi_base.specs.InstantTime.{first_time}
use Rattle.hudi_base.specs.declared.file_group.Target.{Target}
use Rattle.file_names.specs.declared.file_name.Action.{Action}
use Rattle.file_names.specs.declared.file_name.FileName.{FileName}
use Rattle.file_names.specs.declared.file_name.State.{State}
use Rattle.table_props.specs.PropsTexts.{Told as Properties}
use Rattle.table_history.specs.declared.job.Job.{Job}

-- a block of an instant: the number of its target, how many writes it has, and its bytes
pub record Block : Type 0 where
  pub target : ℕ
  pub writes : ℕ
  pub bytes : List ℕ

-- An instant: its action and state, who owns it, the groups and slices that it writes to, the blocks that it placed,
-- the last one first, the checkpoint in the source of its rows that it was completed with, and whether a step of it
-- failed; how many instants were completed at its first step, and which of the completed ones it is itself.
pub record Instant : Type 0 where
  pub action : Action
  pub state : State
  pub owner : Option Job
  pub targets : List Target
  pub blocks : List Block
  pub checkpoint : Option ℕ
  pub failed : Bool
  pub start : ℕ
  pub finished : Option ℕ

-- a base or log file, by its name, up to the length that is known of it
pub record KnownFile : Type 0 where
  pub file : FileName
  pub name : List ℕ
  pub bytes : List ℕ

-- A table: its properties, the instants by time, how many of them are completed, the earliest instant that queries may
-- read, the files, the session, and the greatest time in the names of the timeline.
pub record Table : Type 0 where
  pub props : Properties
  pub instants : List (ℕ × Instant)
  pub completed : ℕ
  pub earliest : ℕ
  pub files : List KnownFile
  pub session : ℕ
  pub last : ℕ

-- a table without instants
abbrev pub fresh : Properties → Table
fresh props = record { props = props; instants = []; completed = 0; earliest = first_time; files = []; session = 0; last = first_time }

abbrev pub instant_at : List (ℕ × Instant) → ℕ → Option Instant
instant_at [] t = None
instant_at (known ∷ more) t = if known.0 == t then Some known.1 else instant_at more t
