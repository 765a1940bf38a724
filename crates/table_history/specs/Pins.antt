-- Pins, and the views that they keep.
use Rattle.std.specs.Prelude.{◌≡◌, ℕ, Bool, true, false, ◌+◌, ◌==◌, nat_le, nat_lt, if◌then◌else◌, List, [], ◌∷◌, length, filter, reverse, map, slice_get, Option, Some, None}
use Rattle.std.specs.List.{flat_map}
use Rattle.hudi_base.specs.declared.file_group.GroupRef.{GroupRef}
use Rattle.hudi_base.specs.declared.file_group.Target.{Target}
use Rattle.file_names.specs.FileName.{name_of}
use Rattle.file_names.specs.declared.file_name.FileName.TheVariants.{Log}
use Rattle.table_history.specs.Histories.{History}
use Rattle.table_history.specs.Instants.{completed_instants, latest}
use Rattle.table_history.specs.Logs.{logs_of}
use Rattle.table_history.specs.Tables.{Table}
use Rattle.table_history.specs.Targets.{AreLive}
use Rattle.table_history.specs.declared.job.Job.{Job}
use Rattle.table_history.specs.declared.log_file.LogFile.{LogFile}
use Rattle.table_history.specs.declared.reply.Reply.{Reply}
use Rattle.table_history.specs.declared.reply.Reply.TheVariants.{Pinned, Done}
use Rattle.table_history.specs.declared.step.Step.{Step}
use Rattle.table_history.specs.declared.step.Step.TheVariants.{Pin, Unpin}
use Rattle.table_history.specs.declared.view.GroupParts.{GroupParts}
use Rattle.table_history.specs.declared.view.LivePin.{LivePin}
use Rattle.table_history.specs.declared.view.Part.{Part}
use Rattle.table_history.specs.declared.view.View.{View}

-- how many pins the session has had
abbrev pub pins_made : History → ℕ
pins_made [] = 0
pins_made (e ∷ H) = after e.reply (pins_made H)
  where
    after : Reply → ℕ → ℕ
    after (Pinned view) before = before + 1
    after _ before = before

-- what an entry makes of the pin p
abbrev pub pin_after : ℕ → Job → Step → Reply → Option LivePin → Option LivePin
pin_after p job (Pin at bases_only) (Pinned view) before = if view.pin == p then Some (record { job = job; view = view }) else before
pin_after p job (Unpin q) Done before = if q == p then None else before
pin_after p job _ _ before = before

abbrev pub pin_of : History → ℕ → Option LivePin
pin_of [] p = None
pin_of (e ∷ H) p = pin_after p e.job e.step e.reply (pin_of H p)

-- the files of a view, in order: their numbers are their places
abbrev pub files_of_view : View → List Part
files_of_view view = flat_map (λ g. g.parts) view.groups

-- ---- what a pin sees

-- the completed instants up to a time, in order
abbrev pub completed_up_to : Table → History → ℕ → List ℕ
completed_up_to A H t = reverse (filter (λ u. nat_le u t) (completed_instants A H))

-- a log as a part of a view
abbrev pub part_of : Table → Target → LogFile → Part
part_of A s log = record { name = name_of A.props.name (Log s.group s.slice log.version (record { session = log.session; attempt = log.attempt })); length = log.length; base = false }

-- The chain of a group at a time: its base, and the logs of the slices from the base's time on, by slice and version. For
-- now there are no bases, and a group has one slice.
abbrev pub chain_at : Table → History → GroupRef → ℕ → Bool → List Part
chain_at A H group t true = []
chain_at A H group t false = map (part_of A (record { group = group; slice = group.born })) (reverse (logs_of A H (record { group = group; slice = group.born })))

-- the group has a file
abbrev pub has_files : Table → History → ℕ → Bool → GroupRef → Bool
has_files A H t bases_only group = nat_lt 0 (length (chain_at A H group t bases_only))

-- The groups of the tiles that have a file, each with its chain.
pub record AreParts (A : Table) (H : History) (t : ℕ) (bases_only : Bool) (parts : List GroupParts) : Type 0 where
  pub groups : List GroupRef
  pub live : AreLive A (has_files A H t bases_only) groups
  pub are : parts ≡ map (λ group. record { group = group; parts = chain_at A H group t bases_only }) groups

-- those at a pin's instant; none where no instant is pinned
abbrev pub ArePartsAt : Table → History → Option ℕ → Bool → List GroupParts → Type 0
ArePartsAt A H None bases_only parts = parts ≡ []
ArePartsAt A H (Some t) bases_only parts = AreParts A H t bases_only parts

-- the instant that a pin is at: the named one, else the latest
abbrev pub pinned_instant : Table → History → Option ℕ → Option ℕ
pinned_instant A H None = latest A H
pinned_instant A H (Some t) = Some t

abbrev pub completed_for : Table → History → Option ℕ → List ℕ
completed_for A H None = []
completed_for A H (Some t) = completed_up_to A H t

-- the view of a pin
pub record IsView (A : Table) (H : History) (at : Option ℕ) (bases_only : Bool) (view : View) : Type 0 where
  pub pin : view.pin ≡ pins_made H + 1
  pub t : view.t ≡ pinned_instant A H at
  pub groups : ArePartsAt A H view.t bases_only view.groups
  pub completed : view.completed ≡ completed_for A H view.t

-- a file of a live pin's view
abbrev pub part_at : View → ℕ → Option Part
part_at view file = slice_get (files_of_view view) file
