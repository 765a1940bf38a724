-- How a call ends, and where nothing stands in the way.
use Rattle.std.proofs.Common.{◌≡◌, ◌≢◌, ◌⊎◌, ◌||◌, ℕ, ◌+◌, ◌≤◌, Bool, true, false, List, [], ◌∷◌, ◌++◌, length, Option, Some, None, IfSome, Result, Ok, Err, refl, sym, ap, subst, ◌∙◌, inl, inr, arith, String, Global}
use Rattle.std.specs.FinMap.{empty, len, empty_of_len, len-empty, len-entries, entries}
use Rattle.std.specs.List.{AllByRecursion}
use Rattle.std.specs.Ordering.{nat_cmp}
use Rattle.std.specs.Cmp.Lexicographic.{slice_cmp}
use Rattle.std.specs.Str.Lines.{lines}
use Rattle.std.proofs.lemmas.List.{length-map, nil_from_length}
use Rattle.hudi_base.specs.Clock.{ClockState}
use Rattle.hudi_base.specs.Faults.{Rose}
use Rattle.hudi_base.specs.Files.{FileMap, sizes}
use Rattle.hudi_base.specs.Store.{StoreState}
use Rattle.hudi_base.specs.Streams.{SinkState, SourceState}
use Rattle.hudi_base.specs.declared.store.FileSize.{FileSize}
use Rattle.script_jobs.specs.Scripts.{SaidJob, SaidScript, most_script_bytes, script_of}
use Rattle.script_jobs.specs.declared.script.LineCause.{LineCause}
use Rattle.table_board.specs.Boards.{FaultsCounted, faults_among}
use Rattle.table_core.specs.declared.job_reply.JobReply.{JobReply}
use Rattle.table_core.specs.declared.job_reply.JobReply.TheVariants as job
use Rattle.table_history.specs.Histories.{History}
use Rattle.table_history.specs.declared.entry.Entry.{Entry}
use Rattle.script_run.specs.Ends.{IsTooLong}
use Rattle.script_run.specs.Lines.{AnswersLine}
use Rattle.script_run.specs.Outcome.{Ends, HasRun, IsSmooth, Means, Moment, any_failed, is_failure, jobs_of, moment, status_of, table_made}
use Rattle.script_run.specs.Parts.{CameTo, EndsEarly, EndsListed, IsScript, TakesMemory, Tells}
use Rattle.script_run.specs.Runs.{IsUndamagedAnswer, RanJobs, RunTable, WasHonestFresh}
use Rattle.script_run.specs.declared.verdict.Verdict.{Verdict}
use Rattle.script_run.specs.declared.verdict.Verdict.TheVariants.{BadWords, InputFailed, TooLong, BadLine, StoreFailed, TableExists, NoTable, OutOfMemory, Ran, Failed}
use Rattle.script_run.proofs.Snapshots.{From, from_jobs}
use Rattle.script_run.proofs.Tellings.{line_fault}

-- ---- listings

pub no_files : (files : Option FileMap) (listing : List FileSize) → IfSome files (λ files. listing ≡ sizes files) → listing ≡ [] → IfSome files (λ files. files ≡ empty)
no_files None listing is none = tt
no_files (Some files) listing is none =
    empty_of_len files (len-entries files ∙ sym (length-map (entries files) _) ∙ ap length (sym is ∙ none))

pub some_files : (files : Option FileMap) (listing : List FileSize) → IfSome files (λ files. listing ≡ sizes files) → ¬ (listing ≡ []) → IfSome files (λ files. ¬ (files ≡ empty))
some_files None listing is some = tt
some_files (Some files) listing is some = λ none.
    some (is ∙ nil_from_length (sizes files) (length-map (entries files) _ ∙ sym (len-entries files) ∙ ap len none ∙ len-empty (slice_cmp nat_cmp) (List ℕ)))

-- ---- meanings

pub listed_came : (verdict : Verdict) (script : SaidScript) (honest : Type 0) (old new : StoreState) (clock : ClockState) → new.told ≡ old.told → EndsListed verdict old new
    → CameTo verdict script honest old new clock clock
listed_came StoreFailed script honest old new clock same ends = (ends, inl same, refl)
listed_came TableExists script honest old new clock same ends = (ends, same, refl)
listed_came (OutOfMemory text) script honest old new clock same ends = inl (same, ends)
listed_came NoTable script honest old new clock same ends = absurd ends
listed_came (Ran text) script honest old new clock same ends = absurd ends
listed_came (Failed text) script honest old new clock same ends = absurd ends
listed_came BadWords script honest old new clock same ends = absurd ends
listed_came InputFailed script honest old new clock same ends = absurd ends
listed_came TooLong script honest old new clock same ends = absurd ends
listed_came (BadLine number cause) script honest old new clock same ends = absurd ends

pub came_means : (verdict : Verdict) (words : List (String Global)) (script : SaidScript) (honest : Type 0) (old new : StoreState) (old_input new_input : SourceState)
    (before after : ClockState) → IsScript words old_input new_input script → CameTo verdict script honest old new before after
    → Means verdict words honest (moment old old_input before) (moment new new_input after)
came_means StoreFailed words script honest old new old_input new_input before after is came =
    (is.right, (is.bytes, (is.whole, (script, (is.says, (came.0, record { told = came.1; clock = came.2 }))))))
came_means TableExists words script honest old new old_input new_input before after is came =
    (is.right, (is.bytes, (is.whole, (script, (is.says, (came.0, record { told = came.1; clock = came.2 }))))))
came_means NoTable words script honest old new old_input new_input before after is came =
    (is.right, (is.bytes, (is.whole, (script, (is.says, (came.0, came.1, record { told = came.2; clock = came.3 }))))))
came_means (Ran text) words script honest old new old_input new_input before after is came = (is.right, (is.bytes, (is.whole, (script, (is.says, came)))))
came_means (Failed text) words script honest old new old_input new_input before after is came = (is.right, (is.bytes, (is.whole, (script, (is.says, came)))))
came_means (OutOfMemory text) words script honest old new old_input new_input before after is (inl none) = inl none
came_means (OutOfMemory text) words script honest old new old_input new_input before after is (inr begun) =
    inr (is.right, (is.bytes, (is.whole, (script, (is.says, begun)))))
came_means BadWords words script honest old new old_input new_input before after is came = absurd came
came_means InputFailed words script honest old new old_input new_input before after is came = absurd came
came_means TooLong words script honest old new old_input new_input before after is came = absurd came
came_means (BadLine number cause) words script honest old new old_input new_input before after is came = absurd came

pub early_means : (verdict : Verdict) (words : List (String Global)) (honest : Type 0) (store : StoreState) (clock : ClockState) (old_input new_input : SourceState)
    → EndsEarly verdict words old_input new_input → Means verdict words honest (moment store old_input clock) (moment store new_input clock)
early_means BadWords words honest store clock old_input new_input ends = (ends.0, ap (λ (input : SourceState). moment store input clock) ends.1)
early_means InputFailed words honest store clock old_input new_input ends = (ends.0, ends.1, record { store = refl; clock = refl })
early_means TooLong words honest store clock old_input new_input ends = (ends.0, ends.1, record { store = refl; clock = refl })
early_means (BadLine number cause) words honest store clock old_input new_input ends = (ends, record { store = refl; clock = refl })
early_means (OutOfMemory text) words honest store clock old_input new_input ends = inl (refl, ends)
early_means StoreFailed words honest store clock old_input new_input ends = absurd ends
early_means TableExists words honest store clock old_input new_input ends = absurd ends
early_means NoTable words honest store clock old_input new_input ends = absurd ends
early_means (Ran text) words honest store clock old_input new_input ends = absurd ends
early_means (Failed text) words honest store clock old_input new_input ends = absurd ends

-- ---- want of memory for a text

means_wanting : (verdict : Verdict) (words : List (String Global)) (honest : Type 0) (old new : Moment) → TakesMemory verdict → Means verdict words honest old new
    → Means (OutOfMemory []) words honest old new
means_wanting BadWords words honest old new takes means = inl (ap (λ (m : Moment). m.store.told) means.1, refl)
means_wanting TooLong words honest old new takes means = inl (ap (λ (s : StoreState). s.told) means.2.store, refl)
means_wanting (BadLine number cause) words honest old new takes means = inl (ap (λ (s : StoreState). s.told) means.1.store, refl)
means_wanting TableExists words honest old new takes (right, (bytes, (whole, (script, (says, came))))) = inl (came.1.told, refl)
means_wanting NoTable words honest old new takes (right, (bytes, (whole, (script, (says, came))))) = inl (came.2.told, refl)
means_wanting InputFailed words honest old new takes means = absurd takes
means_wanting StoreFailed words honest old new takes means = absurd takes
means_wanting (OutOfMemory text) words honest old new takes means = absurd takes
means_wanting (Ran text) words honest old new takes means = absurd takes
means_wanting (Failed text) words honest old new takes means = absurd takes

-- an end that is told is the one that was meant, or want of memory
pub told : (verdict : Verdict) (words : List (String Global)) (honest : Type 0) (before now : Moment) (status : ℕ) (old new : SinkState)
    → Means verdict words honest before now → Tells verdict status old new → (verdict : Verdict) × (Means verdict words honest before now × Ends verdict status old new)
told verdict words honest before now status old new means (inl ends) = (verdict, (means, ends))
told verdict words honest before now status old new means (inr wanting) = (OutOfMemory [], (means_wanting verdict words honest before now wanting.0 means, wanting.1))

-- ---- faults

faults-append : (es before : List Entry) → faults_among (es ++ before) ≡ faults_among before + faults_among es
faults-append [] before = omega arith
faults-append (e ∷ es) before = let more = faults-append es before in omega (arith, more)

fault_counts : (es before : List Entry) → 1 ≤ faults_among es → 1 ≤ faults_among (es ++ before)
fault_counts es before some = let both = faults-append es before in omega (arith, both)

counts_on : (before after : History) → From before after → 1 ≤ faults_among before → 1 ≤ faults_among after
counts_on before after from some = let P : History → Type 0 = λ H. 1 ≤ faults_among H in
    let both = faults-append from.more before in subst P (sym from.is) (omega (arith, both))

either_true : (a b : Bool) → (a || b) ≡ true → (a ≡ true) ⊎ (b ≡ true)
either_true true b is = inl refl
either_true false b is = inr is

is_fault : (reply : JobReply) → IsUndamagedAnswer reply → is_failure reply ≡ true → reply ≡ job.Fault
is_fault job.Fault whole is = refl
is_fault (job.Damaged name cause at) whole is = absurd whole
is_fault reply whole is = cc

-- a job that failed has an entry that is a fault, where no file is damaged
pub failed_counts : (table : RunTable) (Stood : Type 0) (jobs : List SaidJob) (replies : List JobReply) (before after : History) → RanJobs table Stood jobs replies before after
    → AllByRecursion IsUndamagedAnswer replies → any_failed replies ≡ true → 1 ≤ faults_among after
failed_counts table Stood [] [] before after same whole is = cc
failed_counts table Stood [] (r ∷ replies) before after ran whole is = absurd ran
failed_counts table Stood (j ∷ jobs) [] before after ran whole is = absurd ran
failed_counts table Stood (j ∷ jobs) (r ∷ replies) before after ran whole is =
    by_either (either_true (is_failure r) (any_failed replies) is) (failed_counts table Stood jobs replies ran.0 after ran.2 whole.1)
  where
    by_either : (is_failure r ≡ true) ⊎ (any_failed replies ≡ true) → (any_failed replies ≡ true → 1 ≤ faults_among after) → 1 ≤ faults_among after
    by_either (inr later) more = more later
    by_either (inl now) more =
        let line = ran.1 in
        let fault = is_fault r whole.0 now in
        let some = line_fault table.layout j.what line.mine (subst (λ (r : JobReply). AnswersLine table.layout j.what line.mine r) fault line.answers) in
        let P : History → Type 0 = λ H. 1 ≤ faults_among H in
        counts_on ran.0 after (from_jobs table Stood jobs replies ran.0 after ran.2) (subst P (sym line.made.are) (fault_counts line.mine before some))

rose : (first now : ℕ) (H : History) → FaultsCounted first H now → 1 ≤ faults_among H → Rose first now
rose first now H (inl counted) some = omega arith
rose first now H (inr last) some = omega arith

-- ---- where nothing stands in the way

same_left : (left : Option (List ℕ)) (bytes whole : List ℕ) → left ≡ Some bytes → IfSome left (λ left. left ≡ whole) → bytes ≡ whole
same_left None bytes whole is all = cc
same_left (Some held) bytes whole is all = let same : held ≡ bytes = cc in sym same ∙ all

ok_err : (means : Result SaidScript (ℕ × LineCause)) (script : SaidScript) (bad : ℕ × LineCause) → means ≡ Ok script → means ≡ Err bad → ⊥
ok_err means script bad good none = cc

same_ok : (means : Result SaidScript (ℕ × LineCause)) (one other : SaidScript) → means ≡ Ok one → means ≡ Ok other → one ≡ other
same_ok means one other first second = cc

not_too_long : (left : Option (List ℕ)) (bytes : List ℕ) → left ≡ Some bytes → length bytes ≤ most_script_bytes → IsTooLong left → ⊥
not_too_long None bytes is few long = cc
not_too_long (Some held) bytes is few long = let same : held ≡ bytes = cc in absurd (omega (arith, few, long, ap length same))

told_none : (files : Option FileMap) → files ≡ Some empty → IfSome files (λ files. files ≢ empty) → ⊥
told_none None is some = cc
told_none (Some files) is some = let same : files ≡ empty = cc in some same

-- a run over a store that counted no fault has no job that failed
not_failed : (honest : Type 0) (script : SaidScript) (text : List ℕ) (old new : StoreState) (clock : ClockState) → WasHonestFresh honest old.told → ¬ (Rose old.faults new.faults)
    → HasRun honest script true text old new clock → ⊥
not_failed honest script text old new clock fresh none run =
    let whole = run.run.on_honest fresh.0 fresh.1.0 fresh.1.1 in
    none (rose old.faults new.faults run.history run.run.faults (failed_counts run.table (WasHonestFresh honest old.told) (jobs_of script) run.replies [] run.history run.run.ran whole.1.1.answers run.failure))

meant_well : (verdict : Verdict) (words : List (String Global)) (honest : Type 0) (before now : Moment) (output_old output_new : SinkState)
    → IsSmooth words honest before now output_old output_new → Means verdict words honest before now → (status_of verdict ≡ 0) ⊎ (status_of verdict ≡ 8)
meant_well (Ran text) words honest before now output_old output_new smooth means = inl refl
meant_well (OutOfMemory text) words honest before now output_old output_new smooth means = inr refl
meant_well BadWords words honest before now output_old output_new smooth means = absurd (means.0 smooth.right)
meant_well InputFailed words honest before now output_old output_new smooth means = absurd (smooth.input means.1)
meant_well TooLong words honest before now output_old output_new smooth means = absurd (not_too_long before.input.left smooth.bytes smooth.left smooth.few means.1)
meant_well (BadLine number cause) words honest before now output_old output_new smooth ((right, (bytes, (whole, says))), untouched) =
    let same : smooth.bytes ≡ bytes = same_left before.input.left smooth.bytes bytes smooth.left whole.all in
    absurd (ok_err (script_of 1 (lines bytes)) smooth.script (number, cause) (ap (λ (b : List ℕ). script_of 1 (lines b)) (sym same) ∙ smooth.says) says)
meant_well StoreFailed words honest before now output_old output_new smooth (right, (bytes, (whole, (script, (says, came))))) = absurd (smooth.store came.0)
meant_well TableExists words honest before now output_old output_new smooth (right, (bytes, (whole, (script, (says, came))))) =
    absurd (told_none before.store.told.files smooth.fresh.1.1.files came.0)
meant_well NoTable words honest before now output_old output_new smooth (right, (bytes, (whole, (script, (says, came))))) =
    let same : smooth.bytes ≡ bytes = same_left before.input.left smooth.bytes bytes smooth.left whole.all in
    let one : smooth.script ≡ script = same_ok (script_of 1 (lines bytes)) smooth.script script (ap (λ (b : List ℕ). script_of 1 (lines b)) (sym same) ∙ smooth.says) says in
    absurd (smooth.makes (ap table_made one ∙ came.1))
meant_well (Failed text) words honest before now output_old output_new smooth (right, (bytes, (whole, (script, (says, came))))) =
    absurd (not_failed honest script text before.store now.store now.clock smooth.fresh smooth.store came.1)

pub ends_well : (verdict : Verdict) (words : List (String Global)) (honest : Type 0) (before now : Moment) (status : ℕ) (output_old output_new : SinkState)
    → IsSmooth words honest before now output_old output_new → Means verdict words honest before now → Ends verdict status output_old output_new → (status ≡ 0) ⊎ (status ≡ 8)
ends_well verdict words honest before now status output_old output_new smooth means (inr failed) = absurd (smooth.output failed.1.cause)
ends_well verdict words honest before now status output_old output_new smooth means (inl ends) = by_meaning (meant_well verdict words honest before now output_old output_new smooth means)
  where
    by_meaning : (status_of verdict ≡ 0) ⊎ (status_of verdict ≡ 8) → (status ≡ 0) ⊎ (status ≡ 8)
    by_meaning (inl zero) = inl (ends.0 ∙ zero)
    by_meaning (inr eight) = inr (ends.0 ∙ eight)
