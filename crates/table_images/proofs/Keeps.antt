-- The law of one entry: all rows.
use Rattle.std.proofs.Common.{◌≡◌, ◌≤◌, ℕ, false, List, [], ◌∷◌, take, Option, Some, None, IfSome, refl, sym, subst}
use Rattle.hudi_base.specs.Files.{FileMap}
use Rattle.hudi_base.specs.declared.file_group.Target.{Target}
use Rattle.hudi_base.specs.declared.operation.Operation.{Operation}
use Rattle.hudi_base.specs.declared.operation.Operation.TheVariants as changes
use Rattle.file_names.specs.FileName.{IsNamed}
use Rattle.file_names.specs.declared.file_name.Action.TheVariants.{Delta}
use Rattle.file_names.specs.declared.file_name.State.TheVariants.{Requested, Inflight, Completed}
use Rattle.commit_meta.specs.Texts.{meta_bytes}
use Rattle.commit_meta.specs.declared.meta.Meta.TheVariants as meta
use Rattle.table_history.specs.After.{greatest_in}
use Rattle.table_history.specs.Answers.{Answers, May, AllPlaced}
use Rattle.table_history.specs.Concerns.{IsOpened}
use Rattle.table_history.specs.Histories.{History, own}
use Rattle.table_history.specs.Instants.{instant_of, failed, abandoned}
use Rattle.table_history.specs.JobLaw.{Work, Allows, IsLegal, Phase, phase}
use Rattle.table_history.specs.JobLaw.Phase.{Writes}
use Rattle.table_history.specs.Logs.{target_at, known_length, version_in_use}
use Rattle.table_history.specs.Metadata.{written_by}
use Rattle.table_history.specs.Operations.{operation, appends, part_read, reads}
use Rattle.table_history.specs.Tables.{Table, Instant}
use Rattle.table_history.specs.declared.job.Job.{Job}
use Rattle.table_history.specs.declared.operation.Op.{Op}
use Rattle.table_history.specs.declared.operation.Op.TheVariants as op
use Rattle.table_history.specs.declared.reply.Reply.{Reply}
use Rattle.table_history.specs.declared.reply.Reply.TheVariants as reply
use Rattle.table_history.specs.declared.step.Step.{Step}
use Rattle.table_history.specs.declared.step.Step.TheVariants.{Begin, Enter, Append, Finish, Pin, Unpin, Read, Abandon}
use Rattle.table_history.specs.declared.view.Part.{Part}
use Rattle.table_images.specs.Blocks.{HoldsBlocks, IsBlockFor}
use Rattle.table_images.specs.Kept.{Kept}
use Rattle.table_images.specs.Runs.{Did, IsPartial, IsPossible, NamesFit, NumbersFit, changed_by, log_in_use}
use Rattle.table_images.specs.Stops.{KeepsAll}
use Rattle.table_images.specs.Timeline.{timeline_name}
use Rattle.table_images.proofs.Advances.{line_same, line_less, no_more-failed, no_more-abandoned}
use Rattle.table_images.proofs.Appended.{name_in_use}
use Rattle.table_images.proofs.AppendRows.{row_placed, row_nothing, row_prefix}
use Rattle.table_images.proofs.Phases.{MayWrite, IsSound, still_sound}
use Rattle.table_images.proofs.Rows.{row_quiet, row_begun, row_entered, row_completed}
use Rattle.table_images.proofs.SameLogs.{entry}
use Rattle.table_images.proofs.Written.{IsAppending, appending, carried, owner_at}

-- ---- operations that do nothing

no_operation : (r : Reply) (did : Option Operation) → Did op.Nothing r did → did ≡ None
no_operation reply.Fault None is = refl
no_operation reply.Fault (Some did) is = absurd is
no_operation (reply.Damaged name cause) did is = is
no_operation _ did is = is

no_change : (part : Option Part) (at len : ℕ) (r : Reply) (did : Option Operation) → Did (reads at len part) r did → did ≡ None
no_change None at len r did is = no_operation r did is
no_change (Some part) at len reply.Fault None is = refl
no_change (Some part) at len reply.Fault (Some did) is = absurd is
no_change (Some part) at len (reply.Damaged name cause) did is = is
no_change (Some part) at len _ did is = is

no_creation : (name bytes : List ℕ) (did : Option Operation) → IsPartial (op.Create name bytes) did → did ≡ None
no_creation name bytes None is = refl
no_creation name bytes (Some did) is = absurd is

module _ (work : Work) (A : Table) (opened : IsOpened A) (last : greatest_in A.instants ≤ A.last) (blocks : HoldsBlocks work.Holds) where
  abbrev After : FileMap → History → Job → Step → Reply → Option Operation → Type 0
  After image H j s r did = Kept A (changed_by image did) (entry j s r ∷ H)

  -- what did nothing left the files
  quiet : (image : FileMap) (H : History) (j : Job) (s : Step) (r : Reply) (did : Option Operation) → did ≡ None → Kept A image (entry j s r ∷ H) → After image H j s r did
  quiet image H j s r did none kept = subst (After image H j s r) (sym none) kept

  begins : (image : FileMap) (H : History) (j : Job) (r : Reply) (did : Option Operation) → Kept A image H → Answers A H Begin r → NamesFit A H Begin r → Did (operation A H Begin r) r did
      → IsPossible image did → After image H j Begin r did
  begins image H j (reply.Began t) did kept answers names is possible =
      subst (After image H j Begin (reply.Began t)) (sym is) (row_begun A H image j t opened last answers names (subst (IsPossible image) is possible) kept)
  begins image H j reply.TimeOver did kept answers names is possible = quiet image H j Begin reply.TimeOver did is (row_quiet A H image j Begin reply.TimeOver tt (line_same A H _ (λ t. refl)) kept)
  begins image H j reply.Fault did kept answers names is possible =
      quiet image H j Begin reply.Fault did (no_operation reply.Fault did is) (row_quiet A H image j Begin reply.Fault tt (line_same A H _ (λ t. refl)) kept)
  begins image H j (reply.Damaged name cause) did kept answers names is possible =
      quiet image H j Begin (reply.Damaged name cause) did is (row_quiet A H image j Begin (reply.Damaged name cause) tt (line_same A H _ (λ t. refl)) kept)
  begins image H j _ did kept answers names is possible = absurd answers

  enters : (image : FileMap) (H : History) (j : Job) (t : ℕ) (slots : _) (r : Reply) (did : Option Operation) → Kept A image H → May A H j (Enter t slots) → Answers A H (Enter t slots) r
      → Did (operation A H (Enter t slots) r) r did → IsPossible image did → After image H j (Enter t slots) r did
  enters image H j t slots (reply.Entered targets) did kept may answers is possible =
      let own = owner_at A H j t (λ i. i.state ≡ Requested) may.0 in
      subst (After image H j (Enter t slots) (reply.Entered targets)) (sym is)
      (row_entered A H image j t slots targets own.i own.is own.owner own.what may.1 answers (subst (IsPossible image) is possible) kept)
  enters image H j t slots reply.Fault did kept may answers is possible =
      quiet image H j (Enter t slots) reply.Fault did (no_operation reply.Fault did is)
      (row_quiet A H image j (Enter t slots) reply.Fault tt (line_less A H _ t failed no_more-failed (λ u. refl)) kept)
  enters image H j t slots (reply.Damaged name cause) did kept may answers is possible =
      quiet image H j (Enter t slots) (reply.Damaged name cause) did is
      (row_quiet A H image j (Enter t slots) (reply.Damaged name cause) tt (line_less A H _ t failed no_more-failed (λ u. refl)) kept)
  enters image H j t slots _ did kept may answers is possible = absurd answers

  may_write : (j : Job) (p : Phase) (t : ℕ) (checkpoint : Option ℕ) → Allows work j p (Finish t checkpoint) → MayWrite t p
  may_write j (Writes u targets placed) t checkpoint allowed = sym allowed.0
  may_write j _ t checkpoint allowed = absurd allowed

  is_sound : (j : Job) (o : Option Instant) (i : Instant) → o ≡ Some i → IsSound j o → i.failed ≡ false
  is_sound j o i is sound = let here : IsSound j (Some i) = subst (IsSound j) is sound in here.1

  finishes : (image : FileMap) (H : History) (j : Job) (t : ℕ) (checkpoint : Option ℕ) (r : Reply) (did : Option Operation) → Kept A image H → IsLegal work A H → May A H j (Finish t checkpoint)
      → Answers A H (Finish t checkpoint) r → Allows work j (phase (own j H)) (Finish t checkpoint) → NumbersFit A H (Finish t checkpoint) → Did (operation A H (Finish t checkpoint) r) r did → IsPossible image did
      → After image H j (Finish t checkpoint) r did
  finishes image H j t checkpoint (reply.Completed u) did kept legal may answers allowed fits is possible =
      let own_t = owner_at A H j t (λ i. (i.state ≡ Inflight) × AllPlaced i) may in
      let sound = is_sound j (instant_of A H t) own_t.i own_t.is (still_sound work A H opened legal j t (may_write j (phase (own j H)) t checkpoint allowed)) in
      subst (λ n. After image H j (Finish t checkpoint) (reply.Completed n) did) (sym answers)
      (subst (After image H j (Finish t checkpoint) (reply.Completed t)) (sym is)
      (row_completed A H image j t checkpoint own_t.i own_t.is own_t.owner sound own_t.what.0 fits (subst (IsPossible image) is possible) kept))
  finishes image H j t checkpoint reply.Fault did kept legal may answers allowed fits is possible =
      quiet image H j (Finish t checkpoint) reply.Fault did (no_creation (timeline_name A t Delta Completed) (meta_bytes A.props.name (meta.Delta (record { checkpoint = checkpoint; groups = written_by A H t }))) did is)
      (row_quiet A H image j (Finish t checkpoint) reply.Fault tt (line_less A H _ t failed no_more-failed (λ u. refl)) kept)
  finishes image H j t checkpoint (reply.Damaged name cause) did kept legal may answers allowed fits is possible =
      quiet image H j (Finish t checkpoint) (reply.Damaged name cause) did is
      (row_quiet A H image j (Finish t checkpoint) (reply.Damaged name cause) tt (line_less A H _ t failed no_more-failed (λ u. refl)) kept)
  finishes image H j t checkpoint _ did kept legal may answers allowed fits is possible = absurd answers

  leaves : (image : FileMap) (H : History) (j : Job) (t : ℕ) (r : Reply) (did : Option Operation) → Kept A image H → Answers A H (Abandon t) r → Did op.Nothing r did → After image H j (Abandon t) r did
  leaves image H j t reply.Done did kept answers is =
      quiet image H j (Abandon t) reply.Done did is (row_quiet A H image j (Abandon t) reply.Done tt (line_less A H _ t abandoned no_more-abandoned (λ u. refl)) kept)
  leaves image H j t _ did kept answers is = absurd answers

  -- the operation of an append, by where it goes
  abbrev op_of : History → List ℕ → Target → Op
  op_of H bytes s = op.Append (name_in_use A H s) bytes

  of_slice : (H : History) (bytes : List ℕ) (s : Target) (r : Reply) (did : Option Operation) (o : Option Target) → o ≡ Some s → Did (appends A H bytes o) r did → Did (op_of H bytes s) r did
  of_slice H bytes s r did o at is = subst (λ (o : Option Target). Did (appends A H bytes o) r did) at is

  named_of : (H : History) (s : Target) (o : Option Target) → o ≡ Some s → IfSome o (λ s. IsNamed (log_in_use A H s)) → IsNamed (log_in_use A H s)
  named_of H s o at names = subst (λ (o : Option Target). IfSome o (λ s. IsNamed (log_in_use A H s))) at names

  version_of : (H : History) (s : Target) (version at_byte : ℕ) (o : Option Target) → o ≡ Some s
      → IfSome o (λ s. (version ≡ version_in_use A H s) × (at_byte ≡ known_length A H s version)) → version ≡ version_in_use A H s
  version_of H s version at_byte o at answers =
      let here : (version ≡ version_in_use A H s) × (at_byte ≡ known_length A H s version) =
      subst (λ (o : Option Target). IfSome o (λ s. (version ≡ version_in_use A H s) × (at_byte ≡ known_length A H s version))) at answers in
      here.0

  adds : (image : FileMap) (H : History) (j : Job) (t target writes : ℕ) (bytes : List ℕ) (r : Reply) (did : Option Operation) (to : IsAppending A H j t target) (carries : IsBlockFor t bytes) → Kept A image H
      → Answers A H (Append t target writes bytes) r → IsNamed (log_in_use A H to.s) → NumbersFit A H (Append t target writes bytes) → Did (op_of H bytes to.s) r did → After image H j (Append t target writes bytes) r did
  adds image H j t target writes bytes (reply.Placed version at) did to carries kept answers named fits is =
      subst (After image H j (Append t target writes bytes) (reply.Placed version at)) (sym is)
      (subst (λ (bs : List ℕ). After image H j (Append t target writes bs) (reply.Placed version at) (Some (changes.Append (name_in_use A H to.s) bs))) (sym carries.is)
      (row_placed A H image j t target writes version at carries.block to carries.fits carries.write (version_of H to.s version at (target_at A H t target) to.at answers) named fits kept))
  adds image H j t target writes bytes reply.Fault None to carries kept answers named fits is =
      subst (λ (bs : List ℕ). After image H j (Append t target writes bs) reply.Fault None) (sym carries.is)
      (row_nothing A H image j t target writes carries.block to carries.fits carries.write named kept)
  adds image H j t target writes bytes reply.Fault (Some did) to carries kept answers named fits is =
      subst (λ (o : Operation). After image H j (Append t target writes bytes) reply.Fault (Some o)) (sym is.1)
      (subst (λ (bs : List ℕ). After image H j (Append t target writes bs) reply.Fault (Some (changes.Append (name_in_use A H to.s) (take is.0 bs)))) (sym carries.is)
      (row_prefix A H image j t target writes carries.block to carries.fits carries.write named kept is.0))
  adds image H j t target writes bytes _ did to carries kept answers named fits is = absurd answers

  by_step : (image : FileMap) (H : History) (j : Job) (s : Step) (r : Reply) (did : Option Operation) → Kept A image H → IsLegal work A H → May A H j s → Answers A H s r
      → Allows work j (phase (own j H)) s → NamesFit A H s r → NumbersFit A H s → Did (operation A H s r) r did → IsPossible image did → After image H j s r did
  by_step image H j Begin r did kept legal may answers allowed names fits is possible = begins image H j r did kept answers names is possible
  by_step image H j (Enter t slots) r did kept legal may answers allowed names fits is possible = enters image H j t slots r did kept may answers is possible
  by_step image H j (Append t target writes bytes) r did kept legal may answers allowed names fits is possible =
      let to = appending A H j t target writes bytes kept.owned may in
      adds image H j t target writes bytes r did to (carried work j (phase (own j H)) t target writes bytes blocks allowed) kept answers
      (named_of H to.s (target_at A H t target) to.at names) fits (of_slice H bytes to.s r did (target_at A H t target) to.at is)
  by_step image H j (Finish t checkpoint) r did kept legal may answers allowed names fits is possible = finishes image H j t checkpoint r did kept legal may answers allowed fits is possible
  by_step image H j (Pin at bases_only) r did kept legal may answers allowed names fits is possible =
      quiet image H j (Pin at bases_only) r did (no_operation r did is) (row_quiet A H image j (Pin at bases_only) r tt (line_same A H _ (λ t. refl)) kept)
  by_step image H j (Unpin pin) r did kept legal may answers allowed names fits is possible =
      quiet image H j (Unpin pin) r did (no_operation r did is) (row_quiet A H image j (Unpin pin) r tt (line_same A H _ (λ t. refl)) kept)
  by_step image H j (Read from number at len) r did kept legal may answers allowed names fits is possible =
      quiet image H j (Read from number at len) r did (no_change (part_read H from number) at len r did is) (row_quiet A H image j (Read from number at len) r tt (line_same A H _ (λ t. refl)) kept)
  by_step image H j (Abandon t) r did kept legal may answers allowed names fits is possible = leaves image H j t r did kept answers is

  -- what is kept before an entry is kept after it
  pub keeps : KeepsAll work A (Kept A)
  keeps files H h kept legal may possible =
      by_step files H h.entry.job h.entry.step h.entry.reply h.did kept legal may.comes.next.may may.comes.next.answers may.comes.allowed may.comes.names may.comes.numbers may.did possible
