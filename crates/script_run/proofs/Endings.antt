-- How a run ends.
use Rattle.std.proofs.Common.{◌≡◌, ◌≢◌, ◌⊎◌, ℕ, ◌≤◌, Bool, true, false, List, [], ◌++◌, Option, Some, None, IfSome, Result, Ok, Err, refl, sym, ap, subst, ◌∙◌, inl, inr, arith, append_assoc, append-nil}
use Rattle.std.specs.Prelude.{IsSomeAnd, MatchResult}
use Rattle.std.specs.declared.alloc.AllocError.{AllocError}
use Rattle.hudi_base.specs.Clock.{ClockState}
use Rattle.hudi_base.specs.Faults.{CountsFault, Rose}
use Rattle.hudi_base.specs.Files.{FileMap, Told}
use Rattle.hudi_base.specs.Store.{Fails, StoreState}
use Rattle.script_texts.specs.Marks.{journal_text}
use Rattle.script_jobs.specs.Scripts.{SaidJob, SaidScript}
use Rattle.script_texts.specs.Texts.{init_text, jobs_text}
use Rattle.table_core.specs.declared.job_reply.JobReply.{JobReply}
use Rattle.table_history.specs.Histories.{History}
use Rattle.std.specs.FinMap.{empty, get, get-empty}
use Rattle.std.specs.Ordering.{nat_cmp}
use Rattle.std.specs.Cmp.Lexicographic.{slice_cmp}
use Rattle.table_history.specs.Tables.{fresh}
use Rattle.table_images.specs.Properties.{properties_name}
use Rattle.table_open.specs.NewTables.{Makes, making}
use Rattle.table_props.specs.PropsTexts.{Told as Properties}
use Rattle.table_open.specs.declared.making.OpenError.{OpenError}
use Rattle.table_open.specs.declared.making.OpenError.TheVariants as open_error
use Rattle.script_run.specs.Outcome.{HasBegun, HasRun, IsMadeBy, IsWithoutFiles, jobs_of, table_made}
use Rattle.script_run.specs.Parts.{CameTo, Prints, RanSoFar, StoppedAt, verdict_of}
use Rattle.script_run.specs.Runs.{IsRunOf, RanJobs, RunTable}
use Rattle.script_run.specs.declared.verdict.Verdict.{Verdict}
use Rattle.script_run.specs.declared.verdict.Verdict.TheVariants.{BadWords, InputFailed, TooLong, BadLine, StoreFailed, TableExists, NoTable, OutOfMemory, Ran, Failed}
use Rattle.script_run.proofs.WholeRuns.{run_earlier}

-- what is said of jobs that ran is said of a run
abbrev pub RunsAre : RunTable → History → Type 0 → StoreState → StoreState → ClockState → Type 0
RunsAre table H honest old new clock = (jobs : List SaidJob) (replies : List JobReply) → RanJobs table ⊥ jobs replies [] H → IsRunOf table jobs H replies honest old new clock

module _ (script : SaidScript) (table : RunTable) (of_script : IsMadeBy script table) where
  printed : (H : History) (lines journal text : List ℕ) (failed told : Bool) (honest : Type 0) (old new : StoreState) (clock : ClockState) → journal ≡ journal_text H
      → RanSoFar table (init_text script.init) (jobs_of script) H lines failed → failed ≡ told → text ≡ lines ++ journal → RunsAre table H honest old new clock → HasRun honest script told text old new clock
  printed H lines journal text failed told honest old new clock marks ran is text_is run = record {
    table = table;
    made = of_script;
    history = H;
    replies = ran.replies;
    run = run (jobs_of script) ran.replies ran.ran;
    failure = ran.failure ∙ is;
    printed = text_is ∙ ap (λ (t : List ℕ). t ++ journal) ran.printed
        ∙ ap (λ (t : List ℕ). init_text script.init ++ jobs_text table.layout (jobs_of script) ran.replies ++ t) marks;
  }

  begun_whole : (H : History) (lines journal text rest : List ℕ) (failed : Bool) (honest : Type 0) (old new : StoreState) (clock : ClockState) → journal ≡ journal_text H
      → RanSoFar table (init_text script.init) (jobs_of script) H lines failed → lines ++ journal ≡ text ++ rest → RunsAre table H honest old new clock → HasBegun honest script text old new clock
  begun_whole H lines journal text rest failed honest old new clock marks ran is run = record {
    table = table;
    made = of_script;
    first = jobs_of script;
    later = [];
    are = sym (append-nil (jobs_of script));
    history = H;
    replies = ran.replies;
    run = run (jobs_of script) ran.replies ran.ran;
    rest = rest;
    printed = ap (λ (t : List ℕ). t ++ journal_text H) (sym ran.printed) ∙ ap (λ (t : List ℕ). lines ++ t) (sym marks) ∙ is;
  }

  begun : (H : History) (lines text : List ℕ) (honest : Type 0) (old new : StoreState) (clock : ClockState) → StoppedAt table (init_text script.init) (jobs_of script) H lines → text ≡ lines
      → RunsAre table H honest old new clock → HasBegun honest script text old new clock
  begun H lines text honest old new clock stopped is run = record {
    table = table;
    made = of_script;
    first = stopped.first;
    later = stopped.later;
    are = stopped.are;
    history = H;
    replies = stopped.replies;
    run = run stopped.first stopped.replies stopped.ran;
    rest = stopped.rest ++ journal_text H;
    printed = ap (λ (t : List ℕ). t ++ journal_text H) stopped.printed ∙ append_assoc lines stopped.rest (journal_text H) ∙ ap (λ (t : List ℕ). t ++ (stopped.rest ++ journal_text H)) (sym is);
  }

pub came_to : (script : SaidScript) (table : RunTable) → IsMadeBy script table → (ran : Result Bool AllocError) (lines journal : List ℕ) (verdict : Verdict) (H : History) (honest : Type 0)
    (old new : StoreState) (before after : ClockState) → IsWithoutFiles old.told → journal ≡ journal_text H
    → MatchResult ran (λ failed. RanSoFar table (init_text script.init) (jobs_of script) H lines failed) (λ error. StoppedAt table (init_text script.init) (jobs_of script) H lines)
    → Prints ran lines journal verdict → RunsAre table H honest old new after → CameTo verdict script honest old new before after
came_to script table of_script (Ok failed) lines journal (Ran text) H honest old new before after fresh marks ran prints run =
    (fresh, printed script table of_script H lines journal text failed false honest old new after marks ran prints.0 prints.1 run)
came_to script table of_script (Ok failed) lines journal (Failed text) H honest old new before after fresh marks ran prints run =
    (fresh, printed script table of_script H lines journal text failed true honest old new after marks ran prints.0 prints.1 run)
came_to script table of_script (Ok failed) lines journal (OutOfMemory text) H honest old new before after fresh marks ran prints run =
    inr (fresh, begun_whole script table of_script H lines journal text prints.0 failed honest old new after marks ran prints.1 run)
came_to script table of_script (Err error) lines journal (OutOfMemory text) H honest old new before after fresh marks ran prints run =
    inr (fresh, begun script table of_script H lines text honest old new after ran prints run)
came_to script table of_script (Ok failed) lines journal BadWords H honest old new before after fresh marks ran prints run = absurd prints
came_to script table of_script (Ok failed) lines journal InputFailed H honest old new before after fresh marks ran prints run = absurd prints
came_to script table of_script (Ok failed) lines journal TooLong H honest old new before after fresh marks ran prints run = absurd prints
came_to script table of_script (Ok failed) lines journal (BadLine number cause) H honest old new before after fresh marks ran prints run = absurd prints
came_to script table of_script (Ok failed) lines journal StoreFailed H honest old new before after fresh marks ran prints run = absurd prints
came_to script table of_script (Ok failed) lines journal TableExists H honest old new before after fresh marks ran prints run = absurd prints
came_to script table of_script (Ok failed) lines journal NoTable H honest old new before after fresh marks ran prints run = absurd prints
came_to script table of_script (Err error) lines journal (Ran text) H honest old new before after fresh marks ran prints run = absurd prints
came_to script table of_script (Err error) lines journal (Failed text) H honest old new before after fresh marks ran prints run = absurd prints
came_to script table of_script (Err error) lines journal BadWords H honest old new before after fresh marks ran prints run = absurd prints
came_to script table of_script (Err error) lines journal InputFailed H honest old new before after fresh marks ran prints run = absurd prints
came_to script table of_script (Err error) lines journal TooLong H honest old new before after fresh marks ran prints run = absurd prints
came_to script table of_script (Err error) lines journal (BadLine number cause) H honest old new before after fresh marks ran prints run = absurd prints
came_to script table of_script (Err error) lines journal StoreFailed H honest old new before after fresh marks ran prints run = absurd prints
came_to script table of_script (Err error) lines journal TableExists H honest old new before after fresh marks ran prints run = absurd prints
came_to script table of_script (Err error) lines journal NoTable H honest old new before after fresh marks ran prints run = absurd prints

-- ---- what went before was a listing

rose_earlier : (first later now : ℕ) → first ≤ later → Rose later now → Rose first now
rose_earlier first later now le rose = omega arith

fails_made : (was is : Type 0) (made : Option Properties) (old new : Told) → (was → is) → IsSomeAnd made (λ props. Fails is (making props) old new) → IsSomeAnd made (λ props. Fails was (making props) old new)
fails_made was is None old new same fails = fails
fails_made was is (Some props) old new same fails =
    record { files = fails.files; operations = fails.operations; first = fails.first; leaves = λ honest. fails.leaves (same honest) }

fails_earlier : (was is : Type 0) (made : Option Properties) (old new : Told) → (was → is) → (new ≡ old) ⊎ IsSomeAnd made (λ props. Fails is (making props) old new)
    → (new ≡ old) ⊎ IsSomeAnd made (λ props. Fails was (making props) old new)
fails_earlier was is made old new same (inl unchanged) = inl unchanged
fails_earlier was is made old new same (inr fails) = inr (fails_made was is made old new same fails)

has_run : (script : SaidScript) (was is : Type 0) (told : Told) (faults later : ℕ) (new : StoreState) (clock : ClockState) (failed : Bool) (text : List ℕ) → (was → is) → faults ≤ later
    → HasRun is script failed text (record { told = told; faults = later }) new clock → HasRun was script failed text (record { told = told; faults = faults }) new clock
has_run script was is told faults later new clock failed text same le run = record {
  table = run.table;
  made = run.made;
  history = run.history;
  replies = run.replies;
  run = run_earlier run.table was is told faults later new clock (jobs_of script) run.replies run.history same le run.run;
  failure = run.failure;
  printed = run.printed;
}

has_begun : (script : SaidScript) (was is : Type 0) (told : Told) (faults later : ℕ) (new : StoreState) (clock : ClockState) (text : List ℕ) → (was → is) → faults ≤ later
    → HasBegun is script text (record { told = told; faults = later }) new clock → HasBegun was script text (record { told = told; faults = faults }) new clock
has_begun script was is told faults later new clock text same le run = record {
  table = run.table;
  made = run.made;
  first = run.first;
  later = run.later;
  are = run.are;
  history = run.history;
  replies = run.replies;
  run = run_earlier run.table was is told faults later new clock run.first run.replies run.history same le run.run;
  rest = run.rest;
  printed = run.printed;
}

came_before : (verdict : Verdict) (script : SaidScript) (was is : Type 0) (told : Told) (faults later : ℕ) (new : StoreState) (before after : ClockState) → (was → is) → faults ≤ later
    → CameTo verdict script is (record { told = told; faults = later }) new before after → CameTo verdict script was (record { told = told; faults = faults }) new before after
came_before StoreFailed script was is told faults later new before after same le came =
    (rose_earlier faults later new.faults le came.0, fails_earlier was is (table_made script) told new.told same came.1, came.2)
came_before TableExists script was is told faults later new before after same le came = came
came_before NoTable script was is told faults later new before after same le came = came
came_before (Ran text) script was is told faults later new before after same le came = (came.0, has_run script was is told faults later new after false text same le came.1)
came_before (Failed text) script was is told faults later new before after same le came = (came.0, has_run script was is told faults later new after true text same le came.1)
came_before (OutOfMemory text) script was is told faults later new before after same le (inl none) = inl none
came_before (OutOfMemory text) script was is told faults later new before after same le (inr begun) = inr (begun.0, has_begun script was is told faults later new after text same le begun.1)
came_before BadWords script was is told faults later new before after same le came = absurd came
came_before InputFailed script was is told faults later new before after same le came = absurd came
came_before TooLong script was is told faults later new before after same le came = absurd came
came_before (BadLine number cause) script was is told faults later new before after same le came = absurd came

pub came_earlier : (verdict : Verdict) (script : SaidScript) (was is : Type 0) (old mid new : StoreState) (before after : ClockState) → (was → is) → mid.told ≡ old.told
    → old.faults ≤ mid.faults → CameTo verdict script is mid new before after → CameTo verdict script was old new before after
came_earlier verdict script was is old mid new before after same told le came =
    came_before verdict script was is old.told old.faults mid.faults new before after same le
    (subst (λ (told : Told). CameTo verdict script is (record { told = told; faults = mid.faults }) new before after) told came)

-- ---- a table that isn't made

some_file : (files : Option FileMap) (name : List ℕ) → IfSome files (λ files. (bytes : List ℕ) × (get files name ≡ Some bytes) × Unit {0}) → IfSome files (λ files. files ≢ empty)
some_file None name has = tt
some_file (Some files) name has = λ none.
    let wrong : None ≡ Some has.0 = sym (get-empty (slice_cmp nat_cmp) name) ∙ ap (λ (fs : FileMap). get fs name) (sym none) ∙ has.1 in cc

pub not_made : (script : SaidScript) (props : Properties) (error : OpenError) (honest : Type 0) (old new : StoreState) (clock : ClockState) → table_made script ≡ Some props
    → Makes honest old.told new.told props (Some error) → CountsFault old.faults new.faults (error ≡ open_error.StoreFault) → CameTo (verdict_of error) script honest old new clock clock
not_made script props open_error.Memory honest old new clock made makes counts = inl (makes, refl)
not_made script props open_error.TableExists honest old new clock made makes counts = (some_file old.told.files (properties_name (fresh props)) makes.0, makes.1, refl)
not_made script props open_error.StoreFault honest old new clock made makes counts =
    (counts.cause refl, inr (subst (λ (o : Option Properties). IsSomeAnd o (λ props. Fails honest (making props) old.told new.told)) (sym made) makes), refl)
