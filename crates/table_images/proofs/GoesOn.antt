-- What an honest store answers leads from a run to a run with one entry more.
use Rattle.std.proofs.Common.{◌≡◌, inl, inr, ◌≤◌, ◌+◌, ℕ, List, [], ◌∷◌, ◌++◌, length, take, Option, Some, None, IfSome, option_map, append_assoc, append-nil, length-append, refl, sym, ap, ◌∙◌, subst, arith}
use Rattle.std.specs.FinMap.{get}
use Rattle.hudi_base.specs.Files.{FileMap, IsImage, Told, after, changed, changed_all}
use Rattle.hudi_base.specs.Store.{IsLeftBy, Lacks}
use Rattle.hudi_base.specs.declared.operation.Operation.{Operation}
use Rattle.hudi_base.specs.declared.operation.Operation.TheVariants.{Create, Append}
use Rattle.table_history.specs.Histories.{History}
use Rattle.table_history.specs.JobLaw.{Work}
use Rattle.table_history.specs.Operations.{operation, Succeeds}
use Rattle.table_history.specs.Tables.{Table}
use Rattle.table_history.specs.declared.entry.Entry.{Entry}
use Rattle.table_history.specs.declared.operation.Op.{Op}
use Rattle.table_history.specs.declared.operation.Op.TheVariants as op
use Rattle.table_history.specs.declared.reply.Reply.{Reply}
use Rattle.table_history.specs.declared.reply.Reply.TheVariants as reply
use Rattle.table_images.specs.Blocks.{HoldsBlocks}
use Rattle.table_images.specs.Runs.{Did, Happened, IsPossible, MayCome, MayHappen, changed_by, done, files_after, operations_of, whole}
use Rattle.table_images.specs.Stands.{IsJustOpened, StandsAfter, StandsFor}
use Rattle.table_images.specs.Stops.{IsAtStop}
use Rattle.table_images.specs.StoreRuns.{IsRunOn}
use Rattle.table_images.proofs.Lines.{some_same}
use Rattle.table_images.proofs.Opened.{every_image}

abbrev told_after : Told → Option Operation → Told
told_after told None = told
told_after told (Some operation) = after told operation

module _ (work : Work) (A : Table) (files : FileMap) (before : List Operation) where
  pub begins : (told : Told) → told.files ≡ Some files → told.operations ≡ Some before → IsRunOn work A files before [] told
  begins told now operations = record { run = []; are = refl; operations = operations ∙ ap Some (sym (append-nil before)); now = now; legal = tt }

  pub goes_on : (H : History) (old : Told) (e : Entry) (did : Option Operation) → IsRunOn work A files before H old → MayCome work A H e → Did (operation A H e.step e.reply) e.reply did
      → ((held : FileMap) → old.files ≡ Some held → IsPossible held did) → IsRunOn work A files before (e ∷ H) (told_after old did)
  goes_on H old e did ran comes does possible = record {
    run = h ∷ ran.run;
    are = ap (λ (K : History). e ∷ K) ran.are;
    operations = told_operations did;
    now = told_files did;
    legal = (ran.legal, subst (λ (K : History). MayHappen work A K h) (sym ran.are) (record { comes = comes; did = does }), possible (files_after files ran.run) ran.now);
  }
    where
      h : Happened
      h = record { entry = e; did = did }

      told_operations : (did : Option Operation) → (told_after old did).operations ≡ Some (before ++ (operations_of ran.run ++ done did))
      told_operations None = ran.operations ∙ ap (λ os. Some (before ++ os)) (sym (append-nil (operations_of ran.run)))
      told_operations (Some operation) = ap (option_map (λ os. os ++ operation ∷ [])) ran.operations ∙ ap Some (append_assoc before (operations_of ran.run) (operation ∷ []))

      told_files : (did : Option Operation) → (told_after old did).files ≡ Some (changed_by (files_after files ran.run) did)
      told_files None = ran.now
      told_files (Some operation) = ap (option_map (λ fs. changed fs operation)) ran.now

  -- nothing was done
  pub nothing : (H : History) (old : Told) (e : Entry) → IsRunOn work A files before H old → MayCome work A H e → Did (operation A H e.step e.reply) e.reply None → IsRunOn work A files before (e ∷ H) old
  nothing H old e ran comes does = goes_on H old e None ran comes does (λ held is. tt)

  did_whole : (o : Op) (r : Reply) → Succeeds r → Did o r (whole o)
  did_whole o reply.Fault wrong = absurd wrong
  did_whole o (reply.Damaged name cause) wrong = absurd wrong
  did_whole o reply.Memory wrong = absurd wrong
  did_whole o _ right = refl

  did_as : (H : History) (e : Entry) (o : Op) → operation A H e.step e.reply ≡ o → Succeeds e.reply → Did (operation A H e.step e.reply) e.reply (whole o)
  did_as H e o is right = subst (λ (p : Op). Did p e.reply (whole o)) (sym is) (did_whole o e.reply right)

  -- a file was made
  pub creates : (H : History) (old : Told) (e : Entry) (name bytes : List ℕ) → IsRunOn work A files before H old → MayCome work A H e → operation A H e.step e.reply ≡ op.Create name bytes → Succeeds e.reply
      → Lacks old name → IsRunOn work A files before (e ∷ H) (after old (Create name bytes))
  creates H old e name bytes ran comes is right lacks =
      goes_on H old e (Some (Create name bytes)) ran comes (did_as H e (op.Create name bytes) is right) (λ held held_is. subst (λ (o : Option FileMap). IfSome o (λ fs. get fs name ≡ None)) held_is lacks)

  -- a block was appended
  pub appends : (H : History) (old : Told) (e : Entry) (name bytes : List ℕ) → IsRunOn work A files before H old → MayCome work A H e → operation A H e.step e.reply ≡ op.Append name bytes → Succeeds e.reply
      → IsRunOn work A files before (e ∷ H) (after old (Append name bytes))
  appends H old e name bytes ran comes is right = goes_on H old e (Some (Append name bytes)) ran comes (did_as H e (op.Append name bytes) is right) (λ held held_is. tt)

  -- an append failed
  pub fails_on : (H : History) (old new : Told) (e : Entry) (name bytes : List ℕ) → IsRunOn work A files before H old → MayCome work A H e → operation A H e.step e.reply ≡ op.Append name bytes
      → e.reply ≡ reply.Fault → IsLeftBy (Append name bytes) old new → IsRunOn work A files before (e ∷ H) new
  fails_on H old new e name bytes ran comes is fault (inl same) =
      subst (IsRunOn work A files before (e ∷ H)) (sym same) (nothing H old e ran comes (subst (λ (r : Reply). Did (operation A H e.step e.reply) r None) (sym fault) tt))
  fails_on H old new e name bytes ran comes is fault (inr (n, left)) =
      subst (IsRunOn work A files before (e ∷ H)) (sym left.appended)
      (goes_on H old e (Some (Append name (take n bytes))) ran comes
      (subst (λ (r : Reply). Did (operation A H e.step e.reply) r (Some (Append name (take n bytes)))) (sym fault)
      (subst (λ (o : Op). Did o reply.Fault (Some (Append name (take n bytes)))) (sym is) (n, refl)))
      (λ held held_is. tt))

-- every image of what the store was told to do
pub told_images : (work : Work) (A : Table) (first : FileMap) (before operations : List Operation) (H : History) (told : Told) (blocks : HoldsBlocks work.Holds)
    → StandsFor (changed_all first before) A 0 → IsJustOpened (changed_all first before) A → (ran : IsRunOn work A (changed_all first before) before H told) → told.operations ≡ Some operations
    → (k : ℕ) (image : FileMap) → length before + k ≤ length operations → IsImage first operations (length before + k) image → IsAtStop (StandsAfter A) ran.run k image
told_images work A first before operations H told blocks stands opened ran is k image le at =
    let all : operations ≡ before ++ operations_of ran.run = some_same (sym is ∙ ran.operations) in
    let long = ap length all in
    every_image work A blocks first before ran.run k image stands opened ran.legal (omega (arith, le, long, length-append before (operations_of ran.run)))
    (subst (λ (os : List Operation). IsImage first os (length before + k) image) all at)
