-- The run of a board on an honest store, from one entry to the next.
use Rattle.std.proofs.Common.{◌≡◌, ◌≢◌, ℤ, inl, inr, ◌<◌, ◌≤◌, ◌+◌, ◌^◌, ℕ, Bool, true, false, cond, List, [], ◌∷◌, ◌++◌, length, take, Option, Some, None, option_map, length-append, refl, sym, ap, ◌∙◌, subst, arith, lit<, lit≤}
use Rattle.std.specs.Prelude.{IfSome, IsSome, slice_get}
use Rattle.std.specs.Int.Signed.{≤ℤ_refl}
use Rattle.std.proofs.lemmas.List.{length-take-le, take-append-le}
use Rattle.std.proofs.Math.Seq.{take-length}
use Rattle.hudi_base.specs.Files.{FileMap, IsImage, IsReplay, Told, changed, changed_all}
use Rattle.hudi_base.specs.InstantTime.{IsTime}
use Rattle.hudi_base.specs.Store.{IsLeftBy, StoreState}
use Rattle.hudi_base.specs.declared.file_group.Target.{Target}
use Rattle.hudi_base.specs.declared.operation.Operation.{Operation}
use Rattle.hudi_base.specs.declared.operation.Operation.TheVariants.{Append}
use Rattle.file_names.specs.FileName.{IsGroup, IsNamed}
use Rattle.key_index.proofs.FirstTiles.{first-is}
use Rattle.table_core.specs.ControlTables.{HasRoomFor, HasSlice, IsControl, IsLeaving}
use Rattle.table_core.specs.declared.control.Control.{Control}
use Rattle.table_history.specs.After.{after_history}
use Rattle.table_history.specs.Answers.{IsNext, May}
use Rattle.table_history.specs.Histories.{History, own}
use Rattle.table_history.specs.JobLaw.{Allows, IsReplyOf, Work, phase}
use Rattle.table_history.specs.Logs.{attempt_in_use, attempts, is_unused, opened_at}
use Rattle.table_history.specs.Operations.{Decides, operation}
use Rattle.table_history.specs.Tables.{Table, fresh}
use Rattle.table_history.specs.declared.entry.Entry.{Entry}
use Rattle.table_history.specs.declared.job.Job.{Job}
use Rattle.table_history.specs.declared.operation.Decision.{Decision}
use Rattle.table_history.specs.declared.operation.Op.{Op}
use Rattle.table_history.specs.declared.operation.Op.TheVariants as op
use Rattle.table_history.specs.declared.reply.Reply.{Reply}
use Rattle.table_history.specs.declared.reply.Reply.TheVariants as reply
use Rattle.table_history.specs.declared.step.Step.{Step}
use Rattle.table_history.specs.declared.step.Step.TheVariants as step
use Rattle.table_images.specs.Blocks.{HoldsBlocks}
use Rattle.table_images.specs.Kept.{IsCurrent, Kept}
use Rattle.table_images.specs.Runs.{MayCome, NamesFit, NumbersFit, files_after, log_in_use, operations_of, whole}
use Rattle.table_images.specs.Stands.{IsJustOpened, StandsFor}
use Rattle.table_images.specs.StoreRuns.{IsRunOn}
use Rattle.table_images.proofs.GoesOn.{begins, goes_on, told_images}
use Rattle.table_images.proofs.Lines.{none_some, some_same}
use Rattle.table_images.proofs.Written.{appending}
use Rattle.std.specs.List.{AllByRecursion}
use Rattle.table_board.proofs.Changing.{unchanged}
use Rattle.table_board.proofs.Counting.{board_same}
use Rattle.table_board.proofs.Honest.{IsShown, done_told, kept_on, shown, told_after}
use Rattle.table_board.proofs.Keeping.{left_of, next_of}
use Rattle.table_board.specs.Boards.{Keeps}
use Rattle.table_board.specs.HonestRuns.{BoardHolds, HasOwnReply, KeepsRun, RunsTrue, StandsThroughout, Stood, files_then}
use Rattle.table_board.specs.Journals.{JournalState}
use Rattle.table_board.specs.KnownEntries.{known_entries, known_entry, known_reply}
use Rattle.table_board.specs.Outcomes.{HasTime, Leaves, MayEnd, Performs, reply_after}
use Rattle.table_board.specs.declared.acting.Outcome.{Outcome}
use Rattle.table_board.specs.declared.acting.Outcome.TheVariants.{Done, Piece, Fault, Damaged, Memory}
use Rattle.table_props.specs.PropsTexts.{Told as Properties, told_of}

-- ---- the first state

replayed : (o : Option FileMap) (p : Option (List Operation)) (q : Option FileMap) (first : FileMap) (operations : List Operation) → IsSome o → p ≡ Some operations → q ≡ Some first
    → IfSome o (λ files. IfSome p (λ operations. IfSome q (λ first. files ≡ changed_all first operations))) → o ≡ Some (changed_all first operations)
replayed None p q first operations some is at replay = let wrong : false ≡ true = some in absurd cc
replayed (Some files) p q first operations some is at replay =
    ap Some (subst (λ (q : Option FileMap). IfSome q (λ first. files ≡ changed_all first operations)) at
    (subst (λ (p : Option (List Operation)). IfSome p (λ operations. IfSome q (λ first. files ≡ changed_all first operations))) is replay))

if_some : (o : Option (List Operation)) (P : List Operation → Type 0) (operations : List Operation) → o ≡ Some operations → IfSome o P → P operations
if_some o P operations is holds = subst (λ (o : Option (List Operation)). IfSome o P) is holds

at_least : (o : Option (List Operation)) (done : ℕ) → IfSome o (λ operations. done ≡ length operations) → IfSome o (λ operations. done ≤ length operations)
at_least None done is = tt
at_least (Some operations) done is = omega (arith, is)

pub run_begins : (work : Work) (A : Table) (done : ℕ) (honest : Type 0) (told : Told) → IsReplay told → IfSome told.operations (λ operations. done ≡ length operations)
    → KeepsRun work A done honest told []
run_begins work A done honest told replay count = record {
  grown = λ h. at_least told.operations done count;
  true_to = λ blocks first operations stood.
      let number : done ≡ length operations = if_some told.operations (λ operations. done ≡ length operations) operations stood.tells_operations count in
      let whole : take done operations ≡ operations = ap (λ n. take n operations) number ∙ take-length operations in
      let files : told.files ≡ Some (changed_all first operations) = replayed told.files told.operations told.first first operations stood.tells_files stood.tells_operations stood.tells_first replay in
      record {
        run = begins work A (files_then first done operations) (take done operations) told (files ∙ ap (λ os. Some (changed_all first os)) (sym whole)) (stood.tells_operations ∙ ap Some (sym whole));
        known = refl;
        undamaged = tt;
      };
}

-- ---- what an honest store did before

-- what an honest store did, whatever it came to
pub record IsDone (old new : Told) : Type 0 where
  pub did : Option Operation
  pub told : new ≡ told_after old did

left_by : (name bytes : List ℕ) (old new : Told) → IsLeftBy (Append name bytes) old new → IsDone old new
left_by name bytes old new (inl same) = record { did = None; told = same }
left_by name bytes old new (inr (n, left)) = record { did = Some (Append name (take n bytes)); told = left.appended }

pub is_done : (honest : Type 0) (p : Op) (old new : Told) (o : Outcome) → honest → Leaves honest p old new o → IsDone old new
is_done honest p old new Done h leaves = record { did = whole p; told = done_told honest p old new leaves }
is_done honest p old new (Piece bytes) h leaves = record { did = None; told = unchanged honest p old new (Piece bytes) tt leaves }
is_done honest p old new (Damaged cause) h leaves = record { did = None; told = unchanged honest p old new (Damaged cause) tt leaves }
is_done honest p old new Memory h leaves = record { did = None; told = unchanged honest p old new Memory tt leaves }
is_done honest op.Nothing old new Fault h leaves = record { did = None; told = leaves }
is_done honest (op.Create name bytes) old new Fault h leaves = record { did = None; told = leaves.leaves h }
is_done honest (op.Append name bytes) old new Fault h leaves = left_by name bytes old new (leaves.leaves h)
is_done honest (op.Remove name) old new Fault h leaves = record { did = None; told = leaves.leaves h }
is_done honest (op.Read name at len) old new Fault h leaves = record { did = None; told = leaves }

-- the operations that it had done are the first of those that it has done
record IsPast (done : ℕ) (before : Option (List Operation)) (operations : List Operation) : Type 0 where
  earlier : List Operation
  is : before ≡ Some earlier
  same : take done earlier ≡ take done operations

past : (done : ℕ) (did : Option Operation) (old : Told) (operations : List Operation) → IfSome old.operations (λ os. done ≤ length os) → (told_after old did).operations ≡ Some operations
    → IsPast done old.operations operations
past done None old operations le is = record { earlier = operations; is = is; same = refl }
past done (Some operation) old operations le is = by old.operations refl le is
  where
    by : (o : Option (List Operation)) → old.operations ≡ o → IfSome o (λ os. done ≤ length os) → option_map (λ os. os ++ operation ∷ []) o ≡ Some operations → IsPast done old.operations operations
    by None at le is = absurd (none_some is)
    by (Some os) at le is = record { earlier = os; is = at; same = sym (take-append-le done os (operation ∷ []) le) ∙ ap (take done) (some_same is) }

some_before : (did : Option Operation) (old : Told) → IsSome (told_after old did).files → IsSome old.files
some_before None old some = some
some_before (Some operation) old some = by old.files some
  where
    by : (o : Option FileMap) → IsSome (option_map (λ files. changed files operation) o) → IsSome o
    by None some = some
    by (Some files) some = refl

first_before : (did : Option Operation) (old : Told) → (told_after old did).first ≡ old.first
first_before None old = refl
first_before (Some operation) old = refl

grows : (done : ℕ) (did : Option Operation) (old : Told) → IfSome old.operations (λ os. done ≤ length os) → IfSome (told_after old did).operations (λ os. done ≤ length os)
grows done None old le = le
grows done (Some operation) old le = by old.operations le
  where
    by : (o : Option (List Operation)) → IfSome o (λ os. done ≤ length os) → IfSome (option_map (λ os. os ++ operation ∷ []) o) (λ os. done ≤ length os)
    by None le = tt
    by (Some os) le = omega (arith, le, length-append os (operation ∷ []))

record IsEarlier (honest : Type 0) (old : Told) (A : Table) (done : ℕ) (first : FileMap) (operations : List Operation) : Type 0 where
  earlier : List Operation
  stood : Stood honest old A done first earlier
  same : take done earlier ≡ take done operations

stood_before : (before honest : Type 0) (old new : Told) (A : Table) (done : ℕ) (first : FileMap) (operations : List Operation) → before → IsDone old new
    → IfSome old.operations (λ os. done ≤ length os) → Stood honest new A done first operations → IsEarlier before old A done first operations
stood_before before honest old new A done first operations h does le stood =
    let then = past done does.did old operations le (ap (λ t. t.operations) (sym does.told) ∙ stood.tells_operations) in
    record {
      earlier = then.earlier;
      stood = record {
        honest = h;
        tells_files = some_before does.did old (subst (λ (t : Told). IsSome t.files) does.told stood.tells_files);
        tells_operations = then.is;
        tells_first = sym (first_before does.did old) ∙ ap (λ t. t.first) (sym does.told) ∙ stood.tells_first;
        stands = subst (λ (os : List Operation). StandsFor (changed_all first os) A 0) (sym then.same) stood.stands;
        opened = subst (λ (os : List Operation). IsJustOpened (changed_all first os) A) (sym then.same) stood.opened;
      };
      same = then.same;
    }

-- ---- one entry more

-- what has to be shown of an entry
pub record IsMore (work : Work) (A : Table) (H : History) (old new : Told) (e : Entry) : Type 0 where
  pub shown : IsShown A H old new e.step e.reply
  pub comes : MayCome work A H e

run_on : (work : Work) (A : Table) (files : FileMap) (before : List Operation) (old new : Told) (H : History) (e : Entry) → RunsTrue work A files before old H → IsMore work A H old new e
    → RunsTrue work A files before new (e ∷ H)
run_on work A files before old new H e runs more = record {
  run = subst (IsRunOn work A files before (e ∷ H)) (sym more.shown.told) (goes_on work A files before H old e more.shown.did runs.run more.comes more.shown.does more.shown.possible);
  known =
      λ i. record { job = e.job; step = e.step; reply = (ap (λ (K : History). known_reply A K e.step e.reply) runs.known ∙ more.shown.known) i } ∷ runs.known i;
  undamaged = (more.shown.undamaged, runs.undamaged);
}

pub run_more : (work : Work) (A : Table) (done : ℕ) (before honest : Type 0) (old new : Told) (H : History) (e : Entry) → (honest → before) → KeepsRun work A done before old H
    → (before → IsDone old new)
    → (before → HoldsBlocks work.Holds → (files : FileMap) (os : List Operation) → StandsFor files A 0 → IsJustOpened files A → RunsTrue work A files os old H → IsMore work A H old new e)
    → KeepsRun work A done honest new (e ∷ H)
run_more work A done before honest old new H e same was does more = record {
  grown = λ h.
      let d = does (same h) in
      subst (λ (t : Told). IfSome t.operations (λ os. done ≤ length os)) (sym d.told) (grows done d.did old (was.grown (same h)));
  true_to = λ blocks first operations stood.
      let h = same stood.honest in
      let then = stood_before before honest old new A done first operations h (does h) (was.grown h) stood in
      let runs = was.true_to blocks first then.earlier then.stood in
      subst (λ (os : List Operation). RunsTrue work A (changed_all first os) os new (e ∷ H)) then.same
      (run_on work A (files_then first done then.earlier) (take done then.earlier) old new H e runs
      (more h blocks (files_then first done then.earlier) (take done then.earlier) then.stood.stands then.stood.opened runs));
}

-- ---- the names of files have a form

opened_le : (A : Table) (H : History) (s : Target) → opened_at A H s ≤ attempts A H
opened_le A [] s = omega arith
opened_le A (e ∷ H) s = by (is_unused A H s) (opened_le A H s)
  where
    by : (b : Bool) → opened_at A H s ≤ attempts A H → cond b (attempts A H) (opened_at A H s) ≤ attempts A (e ∷ H)
    by true le = omega arith
    by false le = omega arith

in_use_le : (A : Table) (H : History) (s : Target) → attempt_in_use A H s ≤ attempts A H
in_use_le A H s = by (is_unused A H s)
  where
    by : (b : Bool) → cond b (attempts A H) (opened_at A H s) ≤ attempts A H
    by true = omega arith
    by false = opened_le A H s

apart : (a b : ℕ) → a < b → b ≡ a → ⊥
apart a b less same = omega (arith, less, same)

named_group : (A : Table) (H : History) (c : Control) (s : Target) → IsControl A H c → IsCurrent (after_history A H) s → IsGroup s.group
named_group A H c s tables current =
    let first = first-is A.props.buckets s.group tables.fit current.live in
    record {
      partition = current.partition;
      lo = first.lo;
      hi = first.hi;
      born = subst IsTime (sym first.born) (lit≤ tt, lit≤ tt);
    }

named_in : (A : Table) (H : History) (c : Control) (s : Target) (block : ℕ) → IsControl A H c → A.session < 2 ^ 64 → IsCurrent (after_history A H) s → HasSlice c block (Some s) → c.attempts + 1 < 2 ^ 64
    → IsNamed (log_in_use A H s)
named_in A H c s block tables session current room tries =
    let group = named_group A H c s tables current in
    let version = room.1.version in
    let same = (tables.slices s).version in
    let all = tables.attempts in
    let le = in_use_le A H s in
    record {
      of_group = group;
      within = subst IsTime (sym current.slice) group.born;
      counted = omega arith;
      fits = omega (arith, version, same);
      made_by = record { session = session; attempt = omega (arith, tries, all, le) };
    }

pub names_of : (A : Table) (H : History) (image : FileMap) (c : Control) (j : Job) (s : Step) (r : Reply) → IsControl A H c → A.session < 2 ^ 64 → Kept A image H → HasRoomFor c s r → HasTime r → May A H j s
    → NamesFit A H s r
names_of A H image c j step.Begin (reply.Began t) tables session kept room time may = time
names_of A H image c j step.Begin _ tables session kept room time may = tt
names_of A H image c j (step.Append t target writes bytes) r tables session kept room time may =
    let to = appending A H j t target writes bytes kept.owned may in
    let slot : HasSlice c (length bytes) (Some to.s) =
    subst (HasSlice c (length bytes)) (ap (λ (xs : List Target). slice_get xs target) (tables.targets t) ∙ to.at) room.decided.0 in
    subst (λ (o : Option Target). IfSome o (λ s. IsNamed (log_in_use A H s))) (sym to.at) (named_in A H c to.s (length bytes) tables session to.current slot room.decided.1)
names_of A H image c j _ r tables session kept room time may = tt

-- the numbers in metadata fit
pub numbers_of : (A : Table) (H : History) (c : Control) (s : Step) (r : Reply) → IsControl A H c → HasRoomFor c s r → NumbersFit A H s
numbers_of A H c (step.Append t target writes bytes) r tables room = subst (λ n. n + writes < 2 ^ 32) (tables.writes t target) room.decided.2.1
numbers_of A H c (step.Finish t checkpoint) r tables room = room.decided.1
numbers_of A H c _ r tables room = tt

pub names_after : (A : Table) (H : History) (s : Step) (r : Reply) (o : Outcome) (p : Op) → NamesFit A H s r → NamesFit A H s (reply_after o p r)
names_after A H s r Done p names = names
names_after A H step.Begin r (Piece bytes) p names = tt
names_after A H step.Begin r Fault p names = tt
names_after A H step.Begin r (Damaged cause) p names = tt
names_after A H step.Begin r Memory p names = tt
names_after A H (step.Append t target writes bytes) r o p names = names
names_after A H _ r o p names = tt

-- ---- what a step shows

-- an entry's reply, by the bytes that the table knows, is the machine's
next_known : (A : Table) (K H : History) (e : Entry) → K ≡ H → known_reply A H e.step e.reply ≡ e.reply → IsNext A K (known_entry A K e) → IsNext A H e
next_known A K H e same known next =
    subst (λ (r : Reply). IsNext A H (record e { reply = r })) known (subst (λ (K : History). IsNext A K (known_entry A K e)) same next)

-- a step that was decided, over an honest store
pub acted_more : (work : Work) (A : Table) (H : History) (c : Control) (j : Job) (s : Step) (now : ℤ) (d : Decision) (o : Outcome) (r : Reply) (honest : Type 0) (old new : StoreState)
    → ((K : History) → K ≡ known_entries A H → IsControl A K c) → A.session < 2 ^ 64 → HasRoomFor c s d.reply → HasTime d.reply → Decides A (known_entries A H) s now d → Performs honest d.op old new o → o ≢ Memory
    → r ≡ reply_after o d.op d.reply → IsNext A (known_entries A H) (known_entry A (known_entries A H) (record { job = j; step = s; reply = r })) → Allows work j (phase (own j H)) s
    → honest → HoldsBlocks work.Holds → (files : FileMap) (os : List Operation) → StandsFor files A 0 → IsJustOpened files A → RunsTrue work A files os old.told H
    → IsMore work A H old.told new.told (record { job = j; step = s; reply = r })
acted_more work A H c j s now d o r honest old new tables session room time decides performs known is next law h blocks files os stands opened runs = record {
  shown = shown_r;
  comes = record {
    next = next_known A (known_entries A H) H (record { job = j; step = s; reply = r }) runs.known shown_r.known next;
    allowed = law;
    names = subst (NamesFit A H s) (sym is) (names_after A H s d.reply o d.op names);
    numbers = numbers_of A H c s d.reply (tables H (sym runs.known)) room;
  };
}
  where
    decided : Decides A H s now d
    decided = subst (λ (K : History). Decides A K s now d) runs.known decides

    may : May A H j s
    may = subst (λ (K : History). May A K j s) runs.known next.may

    names : NamesFit A H s d.reply
    names = names_of A H (files_after files runs.run.run) c j s d.reply (tables H (sym runs.known)) session (kept_on work A H files os old.told blocks stands opened runs) room time may

    op_is : d.op ≡ operation A H s d.reply
    op_is = decided.op

    shown_r : IsShown A H old.told new.told s r
    shown_r =
        subst (IsShown A H old.told new.told s) (ap (λ (p : Op). reply_after o p d.reply) (sym op_is) ∙ sym is)
        (shown work A H files os old.told new.told blocks stands opened runs j s d.reply o honest h may decided.answers decided.succeeds names
        (subst (λ (p : Op). MayEnd p o) op_is performs.ends) (subst (λ (p : Op). Leaves honest p old.told new.told o) op_is performs.leaves) known)

-- a step by which a job leaves
pub left_more : (work : Work) (A : Table) (H : History) (j : Job) (s : Step) (old : Told) → IsLeaving s
    → IsNext A (known_entries A H) (known_entry A (known_entries A H) (record { job = j; step = s; reply = reply.Done })) → Allows work j (phase (own j H)) s
    → (files : FileMap) (os : List Operation) → RunsTrue work A files os old H → IsMore work A H old old (record { job = j; step = s; reply = reply.Done })
left_more work A H j (step.Unpin pin) old leaves next law files os runs = record {
  shown = record { did = None; told = refl; does = refl; possible = λ files is. tt; known = refl; undamaged = tt };
  comes = record { next = next_known A (known_entries A H) H (record { job = j; step = step.Unpin pin; reply = reply.Done }) runs.known refl next; allowed = law; names = tt; numbers = tt };
}
left_more work A H j (step.Abandon t) old leaves next law files os runs = record {
  shown = record { did = None; told = refl; does = refl; possible = λ files is. tt; known = refl; undamaged = tt };
  comes = record { next = next_known A (known_entries A H) H (record { job = j; step = step.Abandon t; reply = reply.Done }) runs.known refl next; allowed = law; names = tt; numbers = tt };
}
left_more work A H j _ old leaves next law files os runs = absurd leaves

-- ---- the board's functions

-- a step that was decided and done
pub acted_on : (work : Work) (props : Properties) (c c1 c2 : Control) (j j2 : JournalState) (job : Job) (s : Step) (now : ℤ) (d : Decision) (o : Outcome) (r : Reply) (done : ℕ) (before honest : Type 0)
    (old new : StoreState) → Keeps work (fresh props) c j → Keeps work (fresh props) c2 j2 → Allows work job (phase (own job j.entries)) s → Decides (fresh props) (known_entries (fresh props) j.entries) s now d
    → Performs before d.op old new o → o ≢ Memory → r ≡ reply_after o d.op d.reply → ((A : Table) (H : History) → IsControl A H c → IsControl A H c1) → HasRoomFor c1 s d.reply → HasTime d.reply
    → (honest → before) → KeepsRun work (fresh props) done before old.told j.entries → j2.entries ≡ record { job = job; step = s; reply = r } ∷ j.entries
    → KeepsRun work (fresh (told_of c2.props)) done honest new.told j2.entries
acted_on work props c c1 c2 j j2 job s now d o r done before honest old new keeps keeps2 law decides performs known is tables room time same was entries =
    let A : Table = fresh props in
    let H : History = j.entries in
    let e : Entry = record { job = job; step = s; reply = r } in
    let next : IsNext A (known_entries A H) (known_entry A (known_entries A H) e) =
    subst (λ (r : Reply). IsNext A (known_entries A H) (known_entry A (known_entries A H) (record { job = job; step = s; reply = r }))) (sym is)
    (next_of work A c j job s now d o keeps law decides performs.ends known) in
    let more : KeepsRun work A done honest new.told (e ∷ H) =
    run_more work A done before honest old.told new.told H e same was (λ h. is_done before d.op old.told new.told o h performs.leaves)
    (acted_more work A H c1 job s now d o r before old new (λ K at. tables A K (subst (λ (K : History). IsControl A K c) (sym at) keeps.tables)) (lit< tt) room time decides performs known is next law) in
    subst (λ (B : Table). KeepsRun work B done honest new.told j2.entries) (λ i. fresh (sym keeps2.tables.props i))
    (subst (λ (K : History). KeepsRun work A done honest new.told K) (sym entries) more)

-- no entry more, and the store did nothing
run_same : (work : Work) (A : Table) (done : ℕ) (before honest : Type 0) (old new : Told) (H : History) → (honest → before) → KeepsRun work A done before old H → new ≡ old
    → KeepsRun work A done honest new H
run_same work A done before honest old new H same was is = record {
  grown = λ h. subst (λ (t : Told). IfSome t.operations (λ os. done ≤ length os)) (sym is) (was.grown (same h));
  true_to = λ blocks first operations stood.
      subst (λ (t : Told). RunsTrue work A (files_then first done operations) (take done operations) t H) (sym is)
      (was.true_to blocks first operations (record {
        honest = same stood.honest;
        tells_files = subst (λ (t : Told). IsSome t.files) is stood.tells_files;
        tells_operations = ap (λ t. t.operations) (sym is) ∙ stood.tells_operations;
        tells_first = ap (λ t. t.first) (sym is) ∙ stood.tells_first;
        stands = stood.stands;
        opened = stood.opened;
      }));
}

-- a step that wanted memory
pub still_holds : (work : Work) (c c1 : Control) (j j1 : JournalState) (first done : ℕ) (before honest : Type 0) (old new : StoreState) (most : ℤ) → BoardHolds work c j first done before old most
    → ((A : Table) (H : History) → IsControl A H c → IsControl A H c1) → j1.entries ≡ j.entries → j1.owed ≡ j.owed → j.room ≤ j1.room → old.faults ≤ new.faults → new.told ≡ old.told → (honest → before)
    → BoardHolds work c1 j1 first done honest new most
still_holds work c c1 j j1 first done before honest old new most holds tables entries owed room rose told same =
    let now = tables (fresh (told_of c.props)) (known_entries (fresh (told_of c.props)) j.entries) holds.always.keeps.tables in
    let same_table : fresh (told_of c.props) ≡ fresh (told_of c1.props) = λ i. fresh (sym now.props i) in
    record {
      always = board_same work c c1 j j1 first old.faults new.faults most most holds.always tables entries owed room rose (≤ℤ_refl most);
      replies = subst (AllByRecursion HasOwnReply) (sym entries) holds.replies;
      on_honest =
          subst (λ (B : Table). KeepsRun work B done honest new.told j1.entries) same_table
          (subst (λ (K : History). KeepsRun work (fresh (told_of c.props)) done honest new.told K) (sym entries)
          (run_same work (fresh (told_of c.props)) done before honest old.told new.told j.entries same holds.on_honest told));
    }

-- a step by which a job leaves
pub left_on : (work : Work) (props : Properties) (c c2 : Control) (j j2 : JournalState) (job : Job) (s : Step) (done : ℕ) (honest : Type 0) (told : Told) → Keeps work (fresh props) c j
    → Keeps work (fresh props) c2 j2 → Allows work job (phase (own job j.entries)) s → IsLeaving s → KeepsRun work (fresh props) done honest told j.entries
    → j2.entries ≡ record { job = job; step = s; reply = reply.Done } ∷ j.entries → KeepsRun work (fresh (told_of c2.props)) done honest told j2.entries
left_on work props c c2 j j2 job s done honest told keeps keeps2 law leaves was entries =
    let A : Table = fresh props in
    let H : History = j.entries in
    let more : KeepsRun work A done honest told (record { job = job; step = s; reply = reply.Done } ∷ H) =
    run_more work A done honest honest told told H (record { job = job; step = s; reply = reply.Done }) (λ h. h) was (λ h. record { did = None; told = refl })
    (λ h blocks files os stands opened runs. left_more work A H job s told leaves (left_of work A c j job s keeps law leaves) law files os runs) in
    subst (λ (B : Table). KeepsRun work B done honest told j2.entries) (λ i. fresh (sym keeps2.tables.props i))
    (subst (λ (K : History). KeepsRun work A done honest told K) (sym entries) more)

-- a step by which a job leaves is done
pub done_fits : (s : Step) → IsLeaving s → IsReplyOf s reply.Done
done_fits (step.Unpin pin) leaves = tt
done_fits (step.Abandon t) leaves = tt
done_fits _ leaves = absurd leaves

-- one entry more
pub replies_more : (e : Entry) (H K : History) → K ≡ e ∷ H → HasOwnReply e → AllByRecursion HasOwnReply H → AllByRecursion HasOwnReply K
replies_more e H K is own all = subst (AllByRecursion HasOwnReply) (sym is) (own, all)

-- ---- what follows

-- every image of the run stands
pub throughout : (work : Work) (A : Table) (done : ℕ) (honest : Type 0) (told : Told) (H : History) → KeepsRun work A done honest told H → HoldsBlocks work.Holds → (first : FileMap) (operations : List Operation)
    → Stood honest told A done first operations → StandsThroughout work A first done operations H
throughout work A done honest told H keeps blocks first operations stood =
    let runs = keeps.true_to blocks first operations stood in
    let le : done ≤ length operations = if_some told.operations (λ os. done ≤ length os) operations stood.tells_operations (keeps.grown stood.honest) in
    let count : length (take done operations) ≡ done = length-take-le done operations le in
    let all : operations ≡ take done operations ++ operations_of runs.run.run = some_same (sym stood.tells_operations ∙ runs.run.operations) in
    record {
      run = runs.run.run;
      entries = runs.run.are;
      legal = runs.run.legal;
      in_order = all;
      images = λ k image few at.
          let long = ap length all in
          told_images work A first (take done operations) operations H told blocks stood.stands stood.opened runs.run stood.tells_operations k image
          (omega (arith, few, long, length-append (take done operations) (operations_of runs.run.run)))
          (subst (λ n. IsImage first operations (n + k) image) (sym count) at);
    }
