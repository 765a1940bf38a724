-- One more step of a writer.
use Rattle.std.proofs.Common.{◌≡◌, ◌<◌, ℕ, List, ◌∷◌, length, get_or, refl, sym, subst}
use Rattle.std.specs.Prelude.{slice_get, Option, IsSomeAnd}
use Rattle.std.proofs.lemmas.Option.{slice_get-get_or}
use Rattle.hudi_base.specs.declared.file_group.Target.{Target}
use Rattle.payload_merge.specs.declared.row.Write.{Write}
use Rattle.table_history.specs.JobLaw.{Work, Phase, PlacedEntry, Writes, Allows, entries_of}
use Rattle.table_history.specs.declared.entry.Entry.{Entry}
use Rattle.table_history.specs.declared.job.Job.{Job}
use Rattle.table_history.specs.declared.reply.Reply.{Reply}
use Rattle.table_history.specs.declared.step.Step.{Step}
use Rattle.table_history.specs.declared.step.Step.TheVariants.{Append}
use Rattle.upsert_writer.specs.BatchWrites.{batch_in}
use Rattle.upsert_writer.specs.Blocks.{BlockForm, HasWrites}
use Rattle.upsert_writer.specs.WriterSteps.{IsWriterStep, WritesBatch, targets_given}
use Rattle.upsert_writer.specs.Writers.{WritesOn}

pub one_step : (form : BlockForm) (batch : List Write) (place : ℕ) (job : Job) (step : Step) (reply : Reply) (mine after : List PlacedEntry)
    → after ≡ record { place = place; entry = record { job = job; step = step; reply = reply } } ∷ mine
    → IsWriterStep form batch (targets_given (entries_of mine)) step → WritesBatch form batch (entries_of mine) → WritesBatch form batch (entries_of after)
one_step form batch place job step reply mine after is one before =
    let P : List PlacedEntry → Type 0 = λ placed. WritesBatch form batch (entries_of placed) in
    subst P (sym is) (one, before)

pub no_step : (form : BlockForm) (batch : List Write) (mine after : List PlacedEntry) → after ≡ mine → WritesBatch form batch (entries_of mine) → WritesBatch form batch (entries_of after)
no_step form batch mine after is before =
    let P : List PlacedEntry → Type 0 = λ placed. WritesBatch form batch (entries_of placed) in
    subst P (sym is) before

-- steps for the same writes
pub same_batch : (form : BlockForm) (ws batch : List Write) (before after : List Entry) → ws ≡ batch → WritesOn form ws before after → WritesOn form batch before after
same_batch form ws batch before after same goes =
    let P : List Write → Type 0 = λ xs. WritesOn form xs before after in
    subst P same goes

some_at : (P : Target → Type 0) (targets : List Target) (number : ℕ) (d : Target) → number < length targets → P (get_or targets number d) → IsSomeAnd (slice_get targets number) P
some_at P targets number d within here =
    let Q : Option Target → Type 0 = λ found. IsSomeAnd found P in
    subst Q (sym (slice_get-get_or targets number d within)) here

-- the append of a block to the target that comes next
pub may_append : (work : Work) (job : Job) (p : Phase) (t : ℕ) (targets : List Target) (number target : ℕ) (d : Target) (writes : ℕ) (bytes : List ℕ)
    → p ≡ Writes t targets number → target ≡ number → number < length targets → work.Holds job t (get_or targets number d) writes bytes
    → Allows work job p (Append t target writes bytes)
may_append work job p t targets number target d writes bytes at same within holds =
    let P : Phase → Type 0 = λ q. Allows work job q (Append t target writes bytes) in
    subst P (sym at) (refl, same, some_at (λ (x : Target). work.Holds job t x writes bytes) targets number d within holds)

pub is_append : (form : BlockForm) (batch own : List Write) (t : ℕ) (given targets : List Target) (number target : ℕ) (d : Target) (writes : ℕ) (bytes : List ℕ)
    → given ≡ targets → target ≡ number → number < length targets → own ≡ batch_in t (get_or targets number d).group batch
    → HasWrites form own t (get_or targets number d).group writes bytes → IsWriterStep form batch given (Append t target writes bytes)
is_append form batch own t given targets number target d writes bytes same numbered within is block =
    let s : Target = get_or targets number d in
    let P : List Target → Type 0 = λ ts. IsWriterStep form batch ts (Append t target writes bytes) in
    let Q : ℕ → Type 0 = λ n. IsWriterStep form batch targets (Append t n writes bytes) in
    let R : List Write → Type 0 = λ xs. HasWrites form xs t s.group writes bytes in
    subst P (sym same) (subst Q (sym numbered) (some_at (λ (x : Target). HasWrites form (batch_in t x.group batch) t x.group writes bytes) targets number d within (subst R is block)))
