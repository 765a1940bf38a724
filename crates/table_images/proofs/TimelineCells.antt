-- The files of the timeline, at each kind of step.
use Rattle.std.proofs.Common.{◌≡◌, ◌⊎◌, ◌++◌, inl, inr, ℕ, true, Option, Some, None, Ok, refl, sym, ap, ◌∙◌, subst, List}
use Rattle.std.specs.FinMap.{get, insert}
use Rattle.hudi_base.specs.Files.{FileMap, content}
use Rattle.hudi_base.specs.InstantTime.{IsTime}
use Rattle.file_names.specs.FileName.{name_of, IsNamed}
use Rattle.file_names.specs.declared.file_name.Action.{Action}
use Rattle.file_names.specs.declared.file_name.Action.TheVariants.{Delta}
use Rattle.file_names.specs.declared.file_name.FileName.{FileName}
use Rattle.file_names.specs.declared.file_name.FileName.TheVariants as file
use Rattle.file_names.specs.declared.file_name.State.{State}
use Rattle.file_names.specs.declared.file_name.State.TheVariants.{Requested, Inflight, Completed}
use Rattle.file_names.proofs.NameTexts.{name_of_injective}
use Rattle.table_history.specs.After.{after_history}
use Rattle.table_history.specs.Histories.{History}
use Rattle.table_history.specs.Instants.{instant_of}
use Rattle.commit_meta.specs.Metadata.{meta_of}
use Rattle.table_history.specs.Metadata.{metadata}
use Rattle.table_history.specs.Tables.{Table, Instant}
use Rattle.table_images.specs.Kept.{Kept}
use Rattle.table_images.specs.Timeline.{HasReached, has_reached, IsMarked, ReadsAs, TimelineFiles, timeline_name}
use Rattle.table_images.proofs.Advances.{Advances, IsSameStage, KeepsLine, number_cases}
use Rattle.table_images.proofs.Frame.{one_name, get_here, get_apart}
use Rattle.table_images.proofs.Lines.{at_after}
use Rattle.hudi_base.specs.declared.file_group.GroupRef.{GroupRef}
use Rattle.hudi_base.specs.declared.file_group.Target.{Target}
use Rattle.file_names.specs.declared.file_name.Token.{Token}
use Rattle.table_history.specs.Logs.{attempt_in_use, version_in_use}
use Rattle.table_images.specs.Runs.{log_in_use}
use Rattle.table_images.proofs.Appended.{name_in_use, with_more}

-- ---- no operation on a file of the timeline

reached_old : (A : Table) (H K : History) → KeepsLine IsSameStage A H K → (t : ℕ) (action : Action) (s : State) (o : Option Instant) → instant_of A K t ≡ o → HasReached o action s → HasReached (instant_of A H t) action s
reached_old A H K line t action s None is reached = absurd reached
reached_old A H K line t action s (Some found) is reached =
    let was = line.old t found is in
    subst (λ (o : Option Instant). HasReached o action s) (sym was.was) (sym was.same.action ∙ reached.0, ap (λ r. has_reached r s) (sym was.same.state) ∙ reached.1)

reached_new : (A : Table) (H K : History) → KeepsLine IsSameStage A H K → (t : ℕ) (action : Action) (s : State) (o : Option Instant) → instant_of A H t ≡ o → HasReached o action s → HasReached (instant_of A K t) action s
reached_new A H K line t action s None is reached = absurd reached
reached_new A H K line t action s (Some old) is reached =
    let now = line.new t old is in
    subst (λ (o : Option Instant). HasReached o action s) (sym now.is) (now.same.action ∙ reached.0, ap (λ r. has_reached r s) now.same.state ∙ reached.1)

-- what the file says that marks a reached state is the same
abbrev Says : Table → History → History → ℕ → Action → State → Type 0
Says A H K t action s = HasReached (instant_of A K t) action s → (c : Option (List ℕ)) → ReadsAs A.props.name (instant_of A H t) action s c → ReadsAs A.props.name (instant_of A K t) action s c

reads_same : (table : List ℕ) (old new : Instant) (action : Action) (s : State) (c : Option (List ℕ)) → metadata new s ≡ metadata old s → ReadsAs table (Some old) action s c → ReadsAs table (Some new) action s c
reads_same table old new action s None same reads = reads
reads_same table old new action s (Some bytes) same reads = reads ∙ ap Ok (sym same)

says_new : (A : Table) (H K : History) (t : ℕ) (action : Action) (s : State) (old new : Instant) → instant_of A H t ≡ Some old → instant_of A K t ≡ Some new → metadata new s ≡ metadata old s → Says A H K t action s
says_new A H K t action s old new was is same reached c reads =
    subst (λ (o : Option Instant). ReadsAs A.props.name o action s c) (sym is) (reads_same A.props.name old new action s c same (subst (λ (o : Option Instant). ReadsAs A.props.name o action s c) was reads))

says_still : (A : Table) (H K : History) → KeepsLine IsSameStage A H K → (t : ℕ) (action : Action) (s : State) (o : Option Instant) → instant_of A K t ≡ o → Says A H K t action s
says_still A H K line t action s None is reached c reads = absurd (subst (λ (o : Option Instant). HasReached o action s) is reached)
says_still A H K line t action s (Some found) is reached c reads =
    let was = line.old t found is in
    let at : has_reached was.old.state s ≡ true = ap (λ r. has_reached r s) (sym was.same.state) ∙ (subst (λ (o : Option Instant). HasReached o action s) is reached).1 in
    says_new A H K t action s was.old found was.was is (was.same.said s at) reached c reads

marked_as : (A : Table) (H K : History) (image new : FileMap) (t : ℕ) (action : Action) (s : State) → get new (timeline_name A t action s) ≡ get image (timeline_name A t action s)
    → (HasReached (instant_of A K t) action s → HasReached (instant_of A H t) action s) → (HasReached (instant_of A H t) action s → HasReached (instant_of A K t) action s)
    → Says A H K t action s
    → IsMarked image (after_history A H) t action s → IsMarked new (after_history A K) t action s
marked_as A H K image new t action s file back on says marked = record {
  there = λ reached.
      let here : HasReached (instant_of A K t) action s = subst (λ (o : Option Instant). HasReached o action s) (at_after A K t) reached in
      let old = marked.there (subst (λ (o : Option Instant). HasReached o action s) (sym (at_after A H t)) (back here)) in
      subst (λ (o : Option Instant). ReadsAs A.props.name o action s (get new (timeline_name A t action s))) (sym (at_after A K t))
      (says here (get new (timeline_name A t action s)) (subst (λ (c : Option (List ℕ)). ReadsAs A.props.name (instant_of A H t) action s c) (sym file)
      (subst (λ (o : Option Instant). ReadsAs A.props.name o action s (get image (timeline_name A t action s))) (at_after A H t) old)));
  only = λ bytes is. subst (λ (o : Option Instant). HasReached o action s) (sym (at_after A K t))
      (on (subst (λ (o : Option Instant). HasReached o action s) (at_after A H t) (marked.only bytes (sym file ∙ is))));
}

pub timeline_still : (A : Table) (H K : History) (image new : FileMap) → KeepsLine IsSameStage A H K
    → ((t : ℕ) (action : Action) (s : State) → IsTime t → get new (timeline_name A t action s) ≡ get image (timeline_name A t action s)) → Kept A image H → TimelineFiles new (after_history A K)
unfolding TimelineFiles
timeline_still A H K image new line files kept t action s time =
    marked_as A H K image new t action s (files t action s time) (reached_old A H K line t action s (instant_of A K t) refl) (reached_new A H K line t action s (instant_of A H t) refl)
    (says_still A H K line t action s (instant_of A K t) refl) (kept.timeline t action s time)

-- ---- a file of the timeline is made

pub timeline_made : (A : Table) (H K : History) (image : FileMap) (t : ℕ) (s : State) (bytes : List ℕ) (made : Instant) → IsTime t → Advances A H K t s made
    → meta_of A.props.name Delta s bytes ≡ Ok (metadata made s) → Kept A image H → TimelineFiles (insert image (timeline_name A t Delta s) bytes) (after_history A K)
unfolding TimelineFiles
timeline_made A H K image t s bytes found time advance reads kept u action r utime = by_name (one_name (timeline_name A u action r) (timeline_name A t Delta s))
  where
    new : FileMap
    new = insert image (timeline_name A t Delta s) bytes

    now : HasReached (instant_of A K t) Delta s
    now = subst (λ (o : Option Instant). HasReached o Delta s) (sym advance.at) (advance.action, ap (λ q. has_reached q s) advance.state ∙ itself s)
      where
        itself : (q : State) → has_reached q q ≡ true
        itself Requested = refl
        itself Inflight = refl
        itself Completed = refl

    made : file.Instant u action r ≡ file.Instant t Delta s → IsMarked new (after_history A K) u action r
    made same =
        let ut : t ≡ u = cc in
        let ad : Delta ≡ action = cc in
        let rs : s ≡ r = cc in
        record {
          there = λ reached.
              subst (λ (o : Option Instant). ReadsAs A.props.name o action r (get new (timeline_name A u action r))) (sym (at_after A K u))
              (subst (λ (o : Option Instant). ReadsAs A.props.name o action r (get new (timeline_name A u action r))) (sym advance.at ∙ ap (instant_of A K) ut)
              (subst (λ (c : Option (List ℕ)). ReadsAs A.props.name (Some found) action r c) (sym (ap (λ (of : FileName). get new (name_of A.props.name of)) same ∙ get_here image (timeline_name A t Delta s) bytes))
              (subst (λ a. ReadsAs A.props.name (Some found) a r (Some bytes)) ad (subst (λ q. ReadsAs A.props.name (Some found) Delta q (Some bytes)) rs reads))));
          only = λ content is. subst (λ (o : Option Instant). HasReached o action r) (sym (at_after A K u))
              (subst (λ n. HasReached (instant_of A K n) action r) ut (subst (λ a. HasReached (instant_of A K t) a r) ad (subst (λ q. HasReached (instant_of A K t) Delta q) rs now)));
        }

    back_here : (timeline_name A t action r ≡ timeline_name A t Delta s → ⊥) → HasReached (instant_of A K t) action r → HasReached (instant_of A H t) action r
    back_here apart reached = by_case (advance.after action r reached)
      where
        by_case : ((action ≡ Delta) × (r ≡ s)) ⊎ HasReached (instant_of A H t) action r → HasReached (instant_of A H t) action r
        by_case (inl same) = absurd (apart (λ i. timeline_name A t (same.0 i) (same.1 i)))
        by_case (inr old) = old

    back : (timeline_name A u action r ≡ timeline_name A t Delta s → ⊥) → (t ≡ u) ⊎ (t ≡ u → ⊥) → HasReached (instant_of A K u) action r → HasReached (instant_of A H u) action r
    back apart (inl here) reached =
        subst (λ n. HasReached (instant_of A H n) action r) here
        (back_here (λ same. apart (ap (λ n. timeline_name A n action r) (sym here) ∙ same)) (subst (λ n. HasReached (instant_of A K n) action r) (sym here) reached))
    back apart (inr other) reached = subst (λ (o : Option Instant). HasReached o action r) (advance.others u other) reached

    on : (t ≡ u) ⊎ (t ≡ u → ⊥) → HasReached (instant_of A H u) action r → HasReached (instant_of A K u) action r
    on (inl here) reached = subst (λ n. HasReached (instant_of A K n) action r) here (advance.before action r (subst (λ n. HasReached (instant_of A H n) action r) (sym here) reached))
    on (inr other) reached = subst (λ (o : Option Instant). HasReached o action r) (sym (advance.others u other)) reached

    says : (timeline_name A u action r ≡ timeline_name A t Delta s → ⊥) → (o : Option Instant) → instant_of A H u ≡ o → (t ≡ u) ⊎ (t ≡ u → ⊥) → Says A H K u action r
    says apart None was at reached c reads = absurd (subst (λ (o : Option Instant). ReadsAs A.props.name o action r c) was reads)
    says apart (Some old) was (inl here) reached c reads =
        by_case (advance.after action r (subst (λ n. HasReached (instant_of A K n) action r) (sym here) reached))
      where
        old_at : instant_of A H t ≡ Some old
        old_at = ap (instant_of A H) here ∙ was

        by_case : ((action ≡ Delta) × (r ≡ s)) ⊎ HasReached (instant_of A H t) action r → ReadsAs A.props.name (instant_of A K u) action r c
        by_case (inl same) = absurd (apart (ap (λ n. timeline_name A n action r) (sym here) ∙ (λ i. timeline_name A t (same.0 i) (same.1 i))))
        by_case (inr before) =
            says_new A H K u action r old found was (ap (instant_of A K) (sym here) ∙ advance.at)
            (advance.said old old_at r (subst (λ (o : Option Instant). HasReached o action r) old_at before).1) reached c reads
    says apart (Some old) was (inr other) reached c reads =
        says_new A H K u action r old old was (advance.others u other ∙ was) refl reached c reads

    by_name : (timeline_name A u action r ≡ timeline_name A t Delta s) ⊎ (timeline_name A u action r ≡ timeline_name A t Delta s → ⊥) → IsMarked new (after_history A K) u action r
    by_name (inl same) = made (name_of_injective A.props.name (file.Instant u action r) (file.Instant t Delta s) utime time same)
    by_name (inr apart) =
        marked_as A H K image new u action r (get_apart image (timeline_name A t Delta s) bytes (timeline_name A u action r) apart) (back apart (number_cases t u)) (on (number_cases t u))
        (says apart (instant_of A H u) refl (number_cases t u)) (kept.timeline u action r utime)

-- ---- a log is no file of the timeline

instant_no_log : (t : ℕ) (action : Action) (st : State) (group : GroupRef) (slice version : ℕ) (token : Token) → file.Instant t action st ≡ file.Log group slice version token → ⊥
instant_no_log t action st group slice version token is = cc

-- a file of the timeline is no log
pub timeline_apart : (A : Table) (H : History) (image : FileMap) (s : Target) (more : List ℕ) → IsNamed (log_in_use A H s) → (t : ℕ) (action : Action) (st : State) → IsTime t
    → get (with_more A H image s more) (timeline_name A t action st) ≡ get image (timeline_name A t action st)
timeline_apart A H image s more named t action st time =
    get_apart image (name_in_use A H s) (content image (name_in_use A H s) ++ more) (timeline_name A t action st)
    (λ same. instant_no_log t action st s.group s.slice (version_in_use A H s) (record { session = A.session; attempt = attempt_in_use A H s })
    (name_of_injective A.props.name (file.Instant t action st) (log_in_use A H s) time named same))
