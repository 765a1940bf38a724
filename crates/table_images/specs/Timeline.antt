-- The files of the timeline: those of the table's instants and of the states that they have reached, each with its
-- metadata, and no others. The names and the states follow Hudi's timeline.
use Rattle.std.specs.Prelude.{◌≡◌, ℕ, Bool, true, false, List, Option, Some, None, Ok, IsSomeAnd}
use Rattle.std.specs.FinMap.{get}
use Rattle.hudi_base.specs.Files.{FileMap}
use Rattle.hudi_base.specs.InstantTime.{IsTime}
use Rattle.commit_meta.specs.Metadata.{meta_of}
use Rattle.file_names.specs.FileName.{name_of}
use Rattle.file_names.specs.declared.file_name.Action.{Action}
use Rattle.file_names.specs.declared.file_name.FileName.TheVariants as file
use Rattle.file_names.specs.declared.file_name.State.{State}
use Rattle.file_names.specs.declared.file_name.State.TheVariants.{Requested, Inflight, Completed}
use Rattle.table_history.specs.Metadata.{metadata}
use Rattle.table_history.specs.Tables.{Table, Instant, instant_at}

-- An instant is requested, then inflight, then completed: whether one in the first state has reached the second.
abbrev pub has_reached : State → State → Bool
has_reached Completed s = true
has_reached Inflight Completed = false
has_reached Inflight s = true
has_reached Requested Requested = true
has_reached Requested s = false

-- there is an instant of this action, and it has reached this state
abbrev pub HasReached : Option Instant → Action → State → Type 0
HasReached None action s = ⊥
HasReached (Some i) action s = (i.action ≡ action) × (has_reached i.state s ≡ true)

-- the name of the file that marks a state
abbrev pub timeline_name : Table → ℕ → Action → State → List ℕ
timeline_name A t action s = name_of A.props.name (file.Instant t action s)

-- A file is there, and reads as what an instant has to say in this state. So far an instant is a deltacommit: a file of
-- another action reads as nothing that one says.
abbrev pub ReadsAs : List ℕ → Option Instant → Action → State → Option (List ℕ) → Type 0
ReadsAs table None action s file = ⊥
ReadsAs table (Some i) action s file = IsSomeAnd file (λ bytes. meta_of table action s bytes ≡ Ok (metadata i s))

-- the file that marks a state of an instant is there, with its metadata, exactly where the instant has reached that state
pub record IsMarked (image : FileMap) (A : Table) (t : ℕ) (action : Action) (s : State) : Type 0 where
  pub there : HasReached (instant_at A.instants t) action s
      → ReadsAs A.props.name (instant_at A.instants t) action s (get image (timeline_name A t action s))
  pub only : (bytes : List ℕ) → get image (timeline_name A t action s) ≡ Some bytes
      → HasReached (instant_at A.instants t) action s

-- each name of the timeline is of such a file, or of none
unfoldable pub TimelineFiles : FileMap → Table → Type 0
TimelineFiles image A = (t : ℕ) (action : Action) (s : State) → IsTime t → IsMarked image A t action s
