-- What the entries of one job make of a history.
use Rattle.std.proofs.Common.{◌≡◌, inl, inr, Bool, true, false, cond, refl, List, [], ◌∷◌, ◌++◌, Option, Some, None, slice_get, sym, ap, subst, ◌∙◌, arith}
use Rattle.std.specs.Prelude.{ℕ, IsSomeAnd, filter}
use Rattle.std.specs.List.{AllByRecursion}
use Rattle.std.proofs.lemmas.Bool.Decides.{nat_tests}
use Rattle.hudi_base.specs.declared.file_group.Target.{Target}
use Rattle.payload_merge.specs.declared.row.Write.{Write}
use Rattle.payload_merge.specs.Fold.{writes_from}
use Rattle.table_history.specs.Histories.{History, is_job, own}
use Rattle.table_history.specs.declared.entry.Entry.{Entry}
use Rattle.table_history.specs.declared.job.Job.{Job}
use Rattle.table_history.specs.declared.step.Step.{Step}
use Rattle.table_history.specs.declared.step.Step.TheVariants.{Begin, Enter, Append, Finish, Pin, Unpin, Read, Abandon}
use Rattle.upsert_writer.specs.Blocks.{BlockForm, IsBlockOf, HasWrites}
use Rattle.upsert_writer.specs.BatchWrites.{is_in_group, batch_in}
use Rattle.table_answers.specs.InTurn.{CarriesForm, CarriesWrites, IsInTurn, IsItsTurn, IsMadeBy}
use Rattle.table_query.specs.ReadBytes.{IsQueryStep, PinsAt}
use Rattle.upsert_writer.specs.WriterSteps.{IsWriterStep, WritesBatch, targets_given}

-- ---- the entries of one job

abbrev pub AllBy : Job → List Entry → Type 0
AllBy job es = AllByRecursion (λ e. e.job ≡ job) es

pub job_itself : (job : Job) → is_job job job ≡ true
job_itself job = grind (arith, nat_tests)

-- a job's entries behind a history in which it has none
pub own_made : (job : Job) (before : History) (es : List Entry) → AllBy job es → own job before ≡ [] → own job (es ++ before) ≡ es
own_made job before [] all first = first
own_made job before (e ∷ es) all first =
    let same : is_job job e.job ≡ true = ap (is_job job) all.0 ∙ job_itself job in
    ap (λ b. cond b (e ∷ own job (es ++ before)) (own job (es ++ before))) same ∙ ap (λ rest. e ∷ rest) (own_made job before es all.1 first)

-- ---- turns

turn_first : (job : Job) (before : History) → own job before ≡ [] → IsItsTurn job before
turn_first job [] first = tt
turn_first job (x ∷ before) first = inr first

turn_next : (job : Job) (before : History) (es : List Entry) → AllBy job es → own job before ≡ [] → IsItsTurn job (es ++ before)
turn_next job before [] all first = turn_first job before first
turn_next job before (x ∷ es) all first = inl all.0

turns : (job : Job) (before : History) (es : List Entry) → AllBy job es → own job before ≡ [] → IsInTurn before → IsInTurn (es ++ before)
turns job before [] all first turn = turn
turns job before (e ∷ es) all first turn =
    (subst (λ j. IsItsTurn j (es ++ before)) (sym all.0) (turn_next job before es all.1 first), turns job before es all.1 first turn)

pub next_turn : (before after : History) (job : Job) (mine : List Entry) → IsInTurn before → IsMadeBy job before after mine → IsInTurn after
next_turn before after job mine turn made = subst IsInTurn (sym made.are) (turns job before mine made.all made.first turn)

-- ---- writes

some_with : (o : Option Target) (P Q : Target → Type 0) → ((s : Target) → P s → Q s) → IsSomeAnd o P → IsSomeAnd o Q
some_with None P Q step h = absurd h
some_with (Some s) P Q step h = step s h

all_pass : (p : Write → Bool) (ws : List Write) → AllByRecursion (λ w. p w ≡ true) (filter p ws)
all_pass p [] = tt
all_pass p (w ∷ ws) = by (p w) refl (all_pass p ws)
  where
    by : (b : Bool) → p w ≡ b → AllByRecursion (λ w. p w ≡ true) (filter p ws) → AllByRecursion (λ w. p w ≡ true) (cond b (w ∷ filter p ws) (filter p ws))
    by true is rest = (is, rest)
    by false is rest = rest

step_carries : (form : BlockForm) (batch : List Write) (targets : List Target) (step : Step) → IsWriterStep form batch targets step → CarriesWrites form targets step
step_carries form batch targets (Append t target writes bytes) h =
    some_with (slice_get targets target) (λ s. IsBlockOf form batch t s writes bytes)
    (λ s. (own : List Write) × HasWrites form own t s.group writes bytes × AllByRecursion (λ w. is_in_group s.group w ≡ true) own)
    (λ s is. (batch_in t s.group batch, is, all_pass (is_in_group s.group) (writes_from t 0 batch))) h
step_carries form batch targets Begin h = tt
step_carries form batch targets (Enter t slots) h = tt
step_carries form batch targets (Finish t checkpoint) h = tt
step_carries form batch targets (Pin at bases_only) h = tt
step_carries form batch targets (Unpin pin) h = tt
step_carries form batch targets (Read from file at len) h = tt
step_carries form batch targets (Abandon t) h = tt

-- each of a job's entries carries writes, by the targets that its own entries before were given
abbrev pub EachCarries : BlockForm → List Entry → Type 0
EachCarries form [] = Unit {0}
EachCarries form (e ∷ es) = CarriesWrites form (targets_given es) e.step × EachCarries form es

writer_each : (form : BlockForm) (batch : List Write) (es : List Entry) → WritesBatch form batch es → EachCarries form es
writer_each form batch [] wrote = tt
writer_each form batch (e ∷ es) wrote = (step_carries form batch (targets_given es) e.step wrote.0, writer_each form batch es wrote.1)

pub carries_on : (form : BlockForm) (job : Job) (before : History) (es : List Entry) → AllBy job es → own job before ≡ [] → EachCarries form es → CarriesForm form before
    → CarriesForm form (es ++ before)
carries_on form job before [] all first each carries = carries
carries_on form job before (e ∷ es) all first each carries =
    let mine : own e.job (es ++ before) ≡ es = ap (λ j. own j (es ++ before)) all.0 ∙ own_made job before es all.1 first in
    (subst (λ own_es. CarriesWrites form (targets_given own_es) e.step) (sym mine) each.0, carries_on form job before es all.1 first each.1 carries)

pub writer_carries : (form : BlockForm) (batch : List Write) (before after : History) (job : Job) (mine : List Entry) → CarriesForm form before → IsMadeBy job before after mine
    → WritesBatch form batch mine → CarriesForm form after
writer_carries form batch before after job mine carries made wrote =
    subst (CarriesForm form) (sym made.are) (carries_on form job before mine made.all made.first (writer_each form batch mine wrote) carries)

-- a query appends nothing
query_carries_step : (form : BlockForm) (at : Option ℕ) (targets : List Target) (step : Step) → IsQueryStep at step → CarriesWrites form targets step
query_carries_step form at targets (Append t target writes bytes) asks = absurd asks
query_carries_step form at targets Begin asks = tt
query_carries_step form at targets (Enter t slots) asks = tt
query_carries_step form at targets (Finish t checkpoint) asks = tt
query_carries_step form at targets (Pin asked bases_only) asks = tt
query_carries_step form at targets (Unpin pin) asks = tt
query_carries_step form at targets (Read from file offset len) asks = tt
query_carries_step form at targets (Abandon t) asks = tt

query_each : (form : BlockForm) (at : Option ℕ) (es : List Entry) → PinsAt at es → EachCarries form es
query_each form at [] pins = tt
query_each form at (e ∷ es) pins = (query_carries_step form at (targets_given es) e.step pins.0, query_each form at es pins.1)

pub query_carries : (form : BlockForm) (at : Option ℕ) (before after : History) (job : Job) (mine : List Entry) → CarriesForm form before → IsMadeBy job before after mine
    → PinsAt at mine → CarriesForm form after
query_carries form at before after job mine carries made pins =
    subst (CarriesForm form) (sym made.are) (carries_on form job before mine made.all made.first (query_each form at mine pins) carries)
