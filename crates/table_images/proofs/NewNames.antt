-- A file of the timeline that a step makes is new.
use Rattle.std.proofs.Common.{◌≡◌, ℕ, true, false, List, [], Option, Some, None, refl, sym, ap, ◌∙◌, subst}
use Rattle.std.specs.FinMap.{get}
use Rattle.hudi_base.specs.Files.{FileMap}
use Rattle.hudi_base.specs.InstantTime.{IsTime}
use Rattle.hudi_base.specs.declared.file_group.Target.{Target}
use Rattle.file_names.specs.declared.file_name.Action.TheVariants.{Delta}
use Rattle.file_names.specs.declared.file_name.State.{State}
use Rattle.file_names.specs.declared.file_name.State.TheVariants.{Requested, Inflight, Completed}
use Rattle.table_history.specs.Answers.{Answers, May, AllPlaced}
use Rattle.table_history.specs.Concerns.{IsOpened}
use Rattle.table_history.specs.Histories.{History}
use Rattle.table_history.specs.Instants.{instant_of}
use Rattle.table_history.specs.Logs.{target_at}
use Rattle.table_history.specs.Operations.{operation, appends, part_read, reads}
use Rattle.table_history.specs.Tables.{Table, Instant}
use Rattle.table_history.specs.declared.job.Job.{Job}
use Rattle.table_history.specs.declared.operation.Op.TheVariants as op
use Rattle.table_history.specs.declared.reply.Reply.{Reply}
use Rattle.table_history.specs.declared.reply.Reply.TheVariants as reply
use Rattle.table_history.specs.declared.step.Step.{Step}
use Rattle.table_history.specs.declared.step.Step.TheVariants.{Begin, Enter, Append, Finish, Pin, Unpin, Read, Abandon}
use Rattle.table_history.specs.declared.view.Part.{Part}
use Rattle.table_history.proofs.Bounds.{undrawn}
use Rattle.table_images.specs.Kept.{Kept, OwnedInstants}
use Rattle.table_images.specs.Runs.{NamesFit}
use Rattle.table_images.specs.Timeline.{HasReached, TimelineFiles, has_reached, timeline_name}
use Rattle.table_images.proofs.Lines.{at_after}
use Rattle.table_images.proofs.Written.{owner_at}

-- what hasn't been reached has no file
unmarked : (A : Table) (H : History) (image : FileMap) (t : ℕ) (s : State) → IsTime t → (HasReached (instant_of A H t) Delta s → ⊥) → Kept A image H → get image (timeline_name A t Delta s) ≡ None
unfolding TimelineFiles
unmarked A H image t s time not_yet kept = by_file (get image (timeline_name A t Delta s)) refl
  where
    by_file : (o : Option (List ℕ)) → get image (timeline_name A t Delta s) ≡ o → get image (timeline_name A t Delta s) ≡ None
    by_file None is = is
    by_file (Some bytes) is =
        absurd (not_yet (subst (λ (o : Option Instant). HasReached o Delta s) (at_after A H t) ((kept.timeline t Delta s time).only bytes is)))

-- a name that is made is that of the file of the timeline
made_is : (name other bytes more : List ℕ) → op.Create name bytes ≡ op.Create other more → name ≡ other
made_is name other bytes more is = cc

no_creation : (H : History) (A : Table) (o : Option Target) (bs name bytes : List ℕ) → appends A H bs o ≡ op.Create name bytes → ⊥
no_creation H A None bs name bytes is = cc
no_creation H A (Some s) bs name bytes is = cc

no_made_read : (at len : ℕ) (part : Option Part) (name bytes : List ℕ) → reads at len part ≡ op.Create name bytes → ⊥
no_made_read at len None name bytes is = cc
no_made_read at len (Some part) name bytes is = cc

none_made : (name bytes : List ℕ) → op.Nothing ≡ op.Create name bytes → ⊥
none_made name bytes is = cc

requested_only : (i : Instant) → i.state ≡ Requested → HasReached (Some i) Delta Inflight → ⊥
requested_only i requested reached = let wrong : false ≡ true = sym (ap (λ s. has_reached s Inflight) requested) ∙ reached.1 in cc

inflight_only : (i : Instant) → i.state ≡ Inflight → HasReached (Some i) Delta Completed → ⊥
inflight_only i inflight reached = let wrong : false ≡ true = sym (ap (λ s. has_reached s Completed) inflight) ∙ reached.1 in cc

module _ (A : Table) (H : History) (image : FileMap) (opened : IsOpened A) (kept : Kept A image H) where
  drawn_is_new : (j : Job) (r : Reply) (name bytes : List ℕ) → Answers A H Begin r → NamesFit A H Begin r → operation A H Begin r ≡ op.Create name bytes → get image name ≡ None
  drawn_is_new j (reply.Began t) name bytes answers names is =
      ap (get image) (sym (made_is (timeline_name A t Delta Requested) name _ bytes is))
      ∙ unmarked A H image t Requested names (λ reached. subst (λ (o : Option Instant). HasReached o Delta Requested) (undrawn A H opened t answers) reached) kept
  drawn_is_new j _ name bytes answers names is = absurd (none_made name bytes is)

  entered_is_new : (j : Job) (t : ℕ) (slots : _) (r : Reply) (name bytes : List ℕ) → May A H j (Enter t slots) → operation A H (Enter t slots) r ≡ op.Create name bytes → get image name ≡ None
  unfolding OwnedInstants
  entered_is_new j t slots (reply.Entered targets) name bytes may is =
      let own = owner_at A H j t (λ i. i.state ≡ Requested) may.0 in
      ap (get image) (sym (made_is (timeline_name A t Delta Inflight) name _ bytes is))
      ∙ unmarked A H image t Inflight (kept.owned t own.i j own.is own.owner).time
      (λ reached. requested_only own.i own.what (subst (λ (o : Option Instant). HasReached o Delta Inflight) own.is reached)) kept
  entered_is_new j t slots _ name bytes may is = absurd (none_made name bytes is)

  completed_is_new : (j : Job) (t : ℕ) (checkpoint : Option ℕ) (r : Reply) (name bytes : List ℕ) → May A H j (Finish t checkpoint) → operation A H (Finish t checkpoint) r ≡ op.Create name bytes
      → get image name ≡ None
  unfolding OwnedInstants
  completed_is_new j t checkpoint r name bytes may is =
      let own = owner_at A H j t (λ i. (i.state ≡ Inflight) × AllPlaced i) may in
      ap (get image) (sym (made_is (timeline_name A t Delta Completed) name _ bytes is))
      ∙ unmarked A H image t Completed (kept.owned t own.i j own.is own.owner).time
      (λ reached. inflight_only own.i own.what.0 (subst (λ (o : Option Instant). HasReached o Delta Completed) own.is reached)) kept

  pub name_is_new : (j : Job) (s : Step) (r : Reply) (name bytes : List ℕ) → May A H j s → Answers A H s r → NamesFit A H s r → operation A H s r ≡ op.Create name bytes → get image name ≡ None
  name_is_new j Begin r name bytes may answers names is = drawn_is_new j r name bytes answers names is
  name_is_new j (Enter t slots) r name bytes may answers names is = entered_is_new j t slots r name bytes may is
  name_is_new j (Append t target writes bs) r name bytes may answers names is = absurd (no_creation H A (target_at A H t target) bs name bytes is)
  name_is_new j (Finish t checkpoint) r name bytes may answers names is = completed_is_new j t checkpoint r name bytes may is
  name_is_new j (Pin at bases_only) r name bytes may answers names is = absurd (none_made name bytes is)
  name_is_new j (Unpin pin) r name bytes may answers names is = absurd (none_made name bytes is)
  name_is_new j (Read from number at len) r name bytes may answers names is = absurd (no_made_read at len (part_read H from number) name bytes is)
  name_is_new j (Abandon t) r name bytes may answers names is = absurd (none_made name bytes is)
