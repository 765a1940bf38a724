-- What a step on an honest store adds to the run, where the files stood.
use Rattle.std.proofs.Common.{◌≡◌, ◌≢◌, inl, inr, ◌<◌, ◌≤◌, ◌+◌, ℕ, List, [], ◌∷◌, ◌++◌, length, take, drop, Option, Some, None, option_map, length-take, min, refl, sym, ap, ◌∙◌, subst, arith, length-drop}
use Rattle.std.specs.Prelude.{IfSome}
use Rattle.std.specs.Option.{option_map_or}
use Rattle.std.specs.FinMap.{get}
use Rattle.hudi_base.specs.Files.{FileMap, Told, after}
use Rattle.hudi_base.specs.Store.{Has, IsLeftBy, Lacks}
use Rattle.hudi_base.specs.declared.file_group.Target.{Target}
use Rattle.hudi_base.specs.declared.operation.Operation.{Operation}
use Rattle.hudi_base.specs.declared.operation.Operation.TheVariants.{Create, Append, Remove}
use Rattle.table_history.specs.Answers.{May, Answers}
use Rattle.table_history.specs.Histories.{History}
use Rattle.table_history.specs.JobLaw.{Work}
use Rattle.table_history.specs.Logs.{attempt_in_use, bytes_of, log_name, target_at, version_in_use}
use Rattle.table_history.specs.Operations.{operation, appends, reads, part_read, Foresees, Succeeds}
use Rattle.table_history.specs.Tables.{Table}
use Rattle.table_history.specs.declared.job.Job.{Job}
use Rattle.table_history.specs.declared.operation.Op.{Op}
use Rattle.table_history.specs.declared.operation.Op.TheVariants as op
use Rattle.table_history.specs.declared.reply.Cause.{Cause}
use Rattle.table_history.specs.declared.reply.Cause.TheVariants.{Missing, Short}
use Rattle.table_history.specs.declared.reply.Reply.{Reply}
use Rattle.table_history.specs.declared.reply.Reply.TheVariants as reply
use Rattle.table_history.specs.declared.step.Reader.{Reader}
use Rattle.table_history.specs.declared.step.Reader.TheVariants as reader
use Rattle.table_history.specs.declared.step.Step.{Step}
use Rattle.table_history.specs.declared.step.Step.TheVariants as step
use Rattle.table_history.specs.declared.view.Part.{Part}
use Rattle.table_images.specs.Blocks.{HoldsBlocks}
use Rattle.table_images.specs.Kept.{Kept}
use Rattle.table_images.specs.Runs.{Did, IsPossible, NamesFit, files_after, history_of, whole}
use Rattle.table_images.specs.Stands.{IsJustOpened, IsPieceThere, StandsFor}
use Rattle.table_images.proofs.Images.{legal_of}
use Rattle.table_images.proofs.Lines.{none_some, some_same}
use Rattle.table_images.proofs.NewNames.{name_is_new}
use Rattle.table_images.proofs.Opened.{kept_after}
use Rattle.table_images.proofs.Pieces.{piece_is_there}
use Rattle.table_images.proofs.Views.{KnownViews}
use Rattle.table_images.proofs.ViewSteps.{views_known}
use Rattle.table_board.proofs.Changing.{unchanged}
use Rattle.table_board.proofs.Replying.{append_reads_nothing}
use Rattle.table_board.specs.HonestRuns.{RunsTrue, IsUndamagedReply}
use Rattle.table_board.specs.KnownEntries.{known_reply}
use Rattle.table_board.specs.Outcomes.{MayEnd, Leaves, reply_after}
use Rattle.table_board.specs.declared.acting.Outcome.{Outcome}
use Rattle.table_board.specs.declared.acting.Outcome.TheVariants.{Done, Piece, Fault, Damaged, Memory}

-- what a store tells after what an entry did
abbrev pub told_after : Told → Option Operation → Told
told_after told None = told
told_after told (Some operation) = after told operation

-- What a step with this reply did to the store, and that it read what the table knows.
pub record IsShown (A : Table) (H : History) (old new : Told) (s : Step) (r : Reply) : Type 0 where
  pub did : Option Operation
  pub told : new ≡ told_after old did
  pub does : Did (operation A H s r) r did
  pub possible : (files : FileMap) → old.files ≡ Some files → IsPossible files did
  pub known : known_reply A H s r ≡ r
  pub undamaged : IsUndamagedReply r

-- ---- replies

undamaged : (r : Reply) → Succeeds r → IsUndamagedReply r
undamaged (reply.Damaged name cause) right = right
undamaged _ right = tt

does_whole : (p : Op) (r : Reply) → Succeeds r → Did p r (whole p)
does_whole p reply.Fault right = absurd right
does_whole p (reply.Damaged name cause) right = absurd right
does_whole p reply.Memory right = absurd right
does_whole p _ right = refl

known_none : (A : Table) (H : History) (from : Reader) (file at len : ℕ) (r : Reply) → part_read H from file ≡ None → r ≡ reply.Piece [] → known_reply A H (step.Read from file at len) r ≡ r
known_none A H from file at len r none is =
    subst (λ (r : Reply). known_reply A H (step.Read from file at len) r ≡ r) (sym is)
    (ap (λ (o : Option Part). reply.Piece (option_map_or (λ part. take len (drop at (bytes_of A H part.name))) o [])) none)

known_read : (A : Table) (H : History) (from : Reader) (file at len : ℕ) (r : Reply) (o : Option Part) → part_read H from file ≡ o → r ≡ reply.Piece [] → MayEnd (reads at len o) Done
    → known_reply A H (step.Read from file at len) r ≡ r
known_read A H from file at len r None none is ends = known_none A H from file at len r none is
known_read A H from file at len r (Some part) some is ends = absurd ends

known_done : (A : Table) (H : History) (s : Step) (r : Reply) → Foresees A H s r → MayEnd (operation A H s r) Done → known_reply A H s r ≡ r
known_done A H (step.Read from file at len) r is ends = known_read A H from file at len r (part_read H from file) refl is ends
known_done A H _ r is ends = refl

known_fault : (A : Table) (H : History) (s : Step) → known_reply A H s reply.Fault ≡ reply.Fault
known_fault A H (step.Read from file at len) = refl
known_fault A H _ = refl

-- ---- what was done

pub done_told : (honest : Type 0) (p : Op) (old new : Told) → Leaves honest p old new Done → new ≡ told_after old (whole p)
done_told honest op.Nothing old new leaves = leaves
done_told honest (op.Create name bytes) old new leaves = leaves.1
done_told honest (op.Append name bytes) old new leaves = leaves
done_told honest (op.Remove name) old new leaves = leaves.1
done_told honest (op.Read name at len) old new leaves = leaves

if_lacks : (o : Option FileMap) (files : FileMap) (name : List ℕ) → o ≡ Some files → IfSome o (λ files. get files name ≡ None) → get files name ≡ None
if_lacks o files name is lacks = subst (λ (o : Option FileMap). IfSome o (λ files. get files name ≡ None)) is lacks

if_has : (o : Option FileMap) (files : FileMap) (name : List ℕ) (P : List ℕ → Type 0) → o ≡ Some files → IfSome o (λ files. (bytes : List ℕ) × (get files name ≡ Some bytes) × P bytes)
    → (bytes : List ℕ) × (get files name ≡ Some bytes) × P bytes
if_has o files name P is has = subst (λ (o : Option FileMap). IfSome o (λ files. (bytes : List ℕ) × (get files name ≡ Some bytes) × P bytes)) is has

done_possible : (honest : Type 0) (p : Op) (old new : Told) → Leaves honest p old new Done → (files : FileMap) → old.files ≡ Some files → IsPossible files (whole p)
done_possible honest op.Nothing old new leaves files is = tt
done_possible honest (op.Create name bytes) old new leaves files is = if_lacks old.files files name is leaves.0
done_possible honest (op.Append name bytes) old new leaves files is = tt
done_possible honest (op.Remove name) old new leaves files is =
    let has = if_has old.files files name (λ _. Unit {0}) is leaves.0 in (has.0, has.1)
done_possible honest (op.Read name at len) old new leaves files is = tt

-- ---- a failure

abbrev IsFault : Table → History → Told → Told → Step → Type 0
IsFault A H old new s = IsShown A H old new s reply.Fault

nothing_failed : (A : Table) (H : History) (old new : Told) (s : Step) → new ≡ old → IsFault A H old new s
nothing_failed A H old new s same = record { did = None; told = same; does = tt; possible = λ files is. tt; known = known_fault A H s; undamaged = tt }

append_left : (A : Table) (H : History) (old new : Told) (t target writes : ℕ) (bytes name : List ℕ) → appends A H bytes (target_at A H t target) ≡ op.Append name bytes
    → IsLeftBy (Append name bytes) old new → IsFault A H old new (step.Append t target writes bytes)
append_left A H old new t target writes bytes name is (inl same) = nothing_failed A H old new (step.Append t target writes bytes) same
append_left A H old new t target writes bytes name is (inr (n, left)) = record {
  did = Some (Append name (take n bytes));
  told = left.appended;
  does = subst (λ (p : Op). Did p reply.Fault (Some (Append name (take n bytes)))) (sym is) (n, refl);
  possible = λ files held. tt;
  known = refl;
  undamaged = tt;
}

append_failed : (honest : Type 0) (A : Table) (H : History) (old new : Told) (t target writes : ℕ) (bytes : List ℕ) (o : Option Target) → target_at A H t target ≡ o → honest
    → MayEnd (appends A H bytes o) Fault → Leaves honest (appends A H bytes o) old new Fault → IsFault A H old new (step.Append t target writes bytes)
append_failed honest A H old new t target writes bytes None is h ends leaves = absurd ends
append_failed honest A H old new t target writes bytes (Some s) is h ends leaves =
    append_left A H old new t target writes bytes (log_name A s (version_in_use A H s) (attempt_in_use A H s)) (ap (appends A H bytes) is) (leaves.leaves h)

read_failed : (honest : Type 0) (at len : ℕ) (old new : Told) (o : Option Part) → MayEnd (reads at len o) Fault → Leaves honest (reads at len o) old new Fault → new ≡ old
read_failed honest at len old new None ends leaves = absurd ends
read_failed honest at len old new (Some part) ends leaves = leaves

faulted : (honest : Type 0) (A : Table) (H : History) (s : Step) (r : Reply) (old new : Told) → honest → MayEnd (operation A H s r) Fault → Leaves honest (operation A H s r) old new Fault
    → IsFault A H old new s
faulted honest A H step.Begin (reply.Began t) old new h ends leaves = nothing_failed A H old new step.Begin (leaves.leaves h)
faulted honest A H step.Begin _ old new h ends leaves = absurd ends
faulted honest A H (step.Enter t slots) (reply.Entered targets) old new h ends leaves = nothing_failed A H old new (step.Enter t slots) (leaves.leaves h)
faulted honest A H (step.Enter t slots) _ old new h ends leaves = absurd ends
faulted honest A H (step.Append t target writes bytes) r old new h ends leaves = append_failed honest A H old new t target writes bytes (target_at A H t target) refl h ends leaves
faulted honest A H (step.Finish t checkpoint) r old new h ends leaves = nothing_failed A H old new (step.Finish t checkpoint) (leaves.leaves h)
faulted honest A H (step.Read from file at len) r old new h ends leaves =
    nothing_failed A H old new (step.Read from file at len) (read_failed honest at len old new (part_read H from file) ends leaves)
faulted honest A H (step.Pin at bases_only) r old new h ends leaves = absurd ends
faulted honest A H (step.Unpin pin) r old new h ends leaves = absurd ends
faulted honest A H (step.Abandon t) r old new h ends leaves = absurd ends

-- ---- the files that the table knows

nothing_removed : (name : List ℕ) → op.Nothing ≡ op.Remove name → ⊥
nothing_removed name is = cc

-- what no operation of a step is
no_removal : (A : Table) (H : History) (s : Step) (r : Reply) (name : List ℕ) → operation A H s r ≡ op.Remove name → ⊥
no_removal A H step.Begin (reply.Began t) name is = cc
no_removal A H step.Begin _ name is = nothing_removed name is
no_removal A H (step.Enter t slots) (reply.Entered targets) name is = cc
no_removal A H (step.Enter t slots) _ name is = nothing_removed name is
no_removal A H (step.Append t target writes bytes) r name is = appends_none (target_at A H t target) is
  where
    appends_none : (o : Option Target) → appends A H bytes o ≡ op.Remove name → ⊥
    appends_none None is = cc
    appends_none (Some s) is = cc
no_removal A H (step.Finish t checkpoint) r name is = cc
no_removal A H (step.Read from file at len) r name is = reads_none (part_read H from file) is
  where
    reads_none : (o : Option Part) → reads at len o ≡ op.Remove name → ⊥
    reads_none None is = cc
    reads_none (Some part) is = cc
no_removal A H (step.Pin at bases_only) r name is = cc
no_removal A H (step.Unpin pin) r name is = cc
no_removal A H (step.Abandon t) r name is = cc

creates_none : (at len : ℕ) (o : Option Part) (name bytes : List ℕ) → reads at len o ≡ op.Create name bytes → ⊥
creates_none at len None name bytes is = cc
creates_none at len (Some part) name bytes is = cc

-- a reply whose step makes a file is the machine's
creating : (A : Table) (H : History) (s : Step) (r : Reply) (name bytes : List ℕ) → operation A H s r ≡ op.Create name bytes → Foresees A H s r → Answers A H s r
creating A H (step.Read from file at len) r name bytes is sees = absurd (creates_none at len (part_read H from file) name bytes is)
creating A H step.Begin r name bytes is sees = sees
creating A H (step.Enter t slots) r name bytes is sees = sees
creating A H (step.Append t target writes block) r name bytes is sees = sees
creating A H (step.Finish t checkpoint) r name bytes is sees = sees
creating A H (step.Pin at bases_only) r name bytes is sees = sees
creating A H (step.Unpin pin) r name bytes is sees = sees
creating A H (step.Abandon t) r name bytes is sees = sees

-- the files of a run are kept
pub kept_on : (work : Work) (A : Table) (H : History) (files : FileMap) (before : List Operation) (old : Told) → HoldsBlocks work.Holds → StandsFor files A 0 → IsJustOpened files A
    → (runs : RunsTrue work A files before old H) → Kept A (files_after files runs.run.run) H
kept_on work A H files before old blocks stands opened runs =
    subst (Kept A (files_after files runs.run.run)) runs.run.are (kept_after work A blocks files runs.run.run stands opened runs.run.legal)

module _ (work : Work) (A : Table) (H : History) (files : FileMap) (before : List Operation) (old new : Told) (blocks : HoldsBlocks work.Holds) (stands : StandsFor files A 0)
    (opened : IsJustOpened files A) (true_to : RunsTrue work A files before old H) (j : Job) where
  abbrev now : FileMap
  now = files_after files true_to.run.run

  kept : Kept A now H
  kept = kept_on work A H files before old blocks stands opened true_to

  views : KnownViews A H
  views = subst (KnownViews A) true_to.run.are (views_known work A (history_of true_to.run.run) opened.once (legal_of work A files true_to.run.run true_to.run.legal))

  held : old.files ≡ Some now
  held = true_to.run.now

  -- a file that should be new is new
  not_there : (s : Step) (r : Reply) (name bytes : List ℕ) → May A H j s → Foresees A H s r → NamesFit A H s r → operation A H s r ≡ op.Create name bytes → Has old name (λ _. Unit {0}) → ⊥
  not_there s r name bytes may sees names is has =
      let found = if_has old.files now name (λ _. Unit {0}) held has in
      none_some (sym (name_is_new A H now opened.opened kept j s r name bytes may (creating A H s r name bytes is sees) names is) ∙ found.1)

  there : (s : Step) (r : Reply) (name : List ℕ) (at len : ℕ) → May A H j s → operation A H s r ≡ op.Read name at len → IsPieceThere now A H name at len
  there s r name at len may is = piece_is_there A H now kept views j s r name at len may is

  -- a file that is read is there
  is_there : (s : Step) (r : Reply) (name : List ℕ) (at len : ℕ) → May A H j s → operation A H s r ≡ op.Read name at len → Lacks old name → ⊥
  is_there s r name at len may is lacks = none_some (sym (if_lacks old.files now name held lacks) ∙ (there s r name at len may is).there)

  long_enough : (len at : ℕ) (content : List ℕ) → at + len ≤ length content → length (take len (drop at content)) < len → ⊥
  long_enough len at content within short = omega (arith, within, short, length-take len (drop at content), length-drop at content)

  -- and long enough
  is_long : (s : Step) (r : Reply) (name : List ℕ) (at len : ℕ) → May A H j s → operation A H s r ≡ op.Read name at len → Has old name (λ content. length (take len (drop at content)) < len) → ⊥
  is_long s r name at len may is short =
      let piece = there s r name at len may is in
      let found = if_has old.files now name (λ content. length (take len (drop at content)) < len) held short in
      let same : found.0 ≡ piece.content = some_same (sym found.1 ∙ piece.there) in
      long_enough len at piece.content piece.within (subst (λ (content : List ℕ). length (take len (drop at content)) < len) same found.2)

  -- what is read is what the table knows
  piece_known : (s : Step) (r : Reply) (name bytes : List ℕ) (at len : ℕ) → May A H j s → operation A H s r ≡ op.Read name at len → Has old name (λ content. bytes ≡ take len (drop at content))
      → bytes ≡ take len (drop at (bytes_of A H name))
  piece_known s r name bytes at len may is has =
      let piece = there s r name at len may is in
      let found = if_has old.files now name (λ content. bytes ≡ take len (drop at content)) held has in
      let same : found.0 ≡ piece.content = some_same (sym found.1 ∙ piece.there) in
      found.2 ∙ ap (λ (content : List ℕ). take len (drop at content)) same ∙ piece.same

  -- ---- none is damaged

  no_damage : (s : Step) (r : Reply) (p : Op) (cause : Cause) (honest : Type 0) → operation A H s r ≡ p → May A H j s → Foresees A H s r → NamesFit A H s r → MayEnd p (Damaged cause)
      → Leaves honest p old new (Damaged cause) → ⊥
  no_damage s r op.Nothing cause honest is may sees names ends leaves = ends
  no_damage s r (op.Create name bytes) cause honest is may sees names ends leaves = not_there s r name bytes may sees names is leaves.0
  no_damage s r (op.Append name bytes) cause honest is may sees names ends leaves = ends
  no_damage s r (op.Remove name) cause honest is may sees names ends leaves = no_removal A H s r name is
  no_damage s r (op.Read name at len) Missing honest is may sees names ends leaves = is_there s r name at len may is leaves.0
  no_damage s r (op.Read name at len) Short honest is may sees names ends leaves = is_long s r name at len may is leaves.0
  no_damage s r (op.Read name at len) _ honest is may sees names ends leaves = ends

  -- ---- a piece

  piece_of : (from : Reader) (file at len : ℕ) (r : Reply) (bytes : List ℕ) (honest : Type 0) (o : Option Part) → part_read H from file ≡ o → May A H j (step.Read from file at len)
      → MayEnd (reads at len o) (Piece bytes) → Leaves honest (reads at len o) old new (Piece bytes) → IsShown A H old new (step.Read from file at len) (reply.Piece bytes)
  piece_of from file at len r bytes honest None is may ends leaves = absurd ends
  piece_of from file at len r bytes honest (Some part) is may ends leaves = record {
    did = None;
    told = leaves.1;
    does = ap (λ (o : Option Part). whole (reads at len o)) (sym is);
    possible = λ files held. tt;
    known =
        ap (λ (o : Option Part). reply.Piece (option_map_or (λ part. take len (drop at (bytes_of A H part.name))) o [])) is
        ∙ ap reply.Piece (sym (piece_known (step.Read from file at len) r part.name bytes at len may (ap (reads at len) is) leaves.0));
    undamaged = tt;
  }

  pieced : (s : Step) (r : Reply) (bytes : List ℕ) (honest : Type 0) → May A H j s → MayEnd (operation A H s r) (Piece bytes) → Leaves honest (operation A H s r) old new (Piece bytes)
      → IsShown A H old new s (reply.Piece bytes)
  pieced step.Begin (reply.Began t) bytes honest may ends leaves = absurd ends
  pieced step.Begin _ bytes honest may ends leaves = absurd ends
  pieced (step.Enter t slots) (reply.Entered targets) bytes honest may ends leaves = absurd ends
  pieced (step.Enter t slots) _ bytes honest may ends leaves = absurd ends
  pieced (step.Append t target writes block) r bytes honest may ends leaves = absurd (append_reads_nothing A H block bytes (target_at A H t target) ends)
  pieced (step.Finish t checkpoint) r bytes honest may ends leaves = absurd ends
  pieced (step.Read from file at len) r bytes honest may ends leaves = piece_of from file at len r bytes honest (part_read H from file) refl may ends leaves
  pieced (step.Pin at bases_only) r bytes honest may ends leaves = absurd ends
  pieced (step.Unpin pin) r bytes honest may ends leaves = absurd ends
  pieced (step.Abandon t) r bytes honest may ends leaves = absurd ends

  -- ---- a step

  pub shown : (s : Step) (r : Reply) (o : Outcome) (honest : Type 0) → honest → May A H j s → Foresees A H s r → Succeeds r → NamesFit A H s r → MayEnd (operation A H s r) o
      → Leaves honest (operation A H s r) old new o → o ≢ Memory → IsShown A H old new s (reply_after o (operation A H s r) r)
  shown s r Done honest h may sees right names ends leaves known = record {
    did = whole (operation A H s r);
    told = done_told honest (operation A H s r) old new leaves;
    does = does_whole (operation A H s r) r right;
    possible = done_possible honest (operation A H s r) old new leaves;
    known = known_done A H s r sees ends;
    undamaged = undamaged r right;
  }
  shown s r (Piece bytes) honest h may sees right names ends leaves known = pieced s r bytes honest may ends leaves
  shown s r Fault honest h may sees right names ends leaves known = faulted honest A H s r old new h ends leaves
  shown s r (Damaged cause) honest h may sees right names ends leaves known =
      absurd (no_damage s r (operation A H s r) cause honest refl may sees names ends leaves)
  shown s r Memory honest h may sees right names ends leaves known = absurd (known refl)
