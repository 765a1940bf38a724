-- Each placed block holds some writes, as the form of the table's blocks says.
use Rattle.std.proofs.Common.{◌≡◌, ℕ, Bool, true, false, cond, ◌&&◌, not, List, [], ◌∷◌, length, Option, Some, None, Ok, slice_get, refl, sym, ap, subst, ◌∙◌, append-nil, ◌+◌}
use Rattle.std.specs.Prelude.{IsSomeAnd, ◌==◌}
use Rattle.std.specs.List.{AllByRecursion}
use Rattle.hudi_base.specs.declared.file_group.GroupRef.{GroupRef}
use Rattle.hudi_base.specs.declared.file_group.Target.{Target}
use Rattle.log_block.specs.Form.{Fits, block_bytes}
use Rattle.log_block.specs.Reading.{block_at}
use Rattle.log_block.specs.declared.block.Block.{Block}
use Rattle.log_block.specs.declared.block.Block.TheVariants.{Data, Delete, Rollback}
use Rattle.log_block.specs.declared.block.BlockRead.TheVariants.{Whole}
use Rattle.log_block.proofs.Blocks.{block_at_again}
use Rattle.payload_merge.specs.Contents.{data_writes}
use Rattle.payload_merge.specs.declared.row.Write.{Write}
use Rattle.table_history.proofs.OwnEntries.{linked}
use Rattle.table_history.specs.Histories.{History, own}
use Rattle.table_history.specs.Logs.{target_at}
use Rattle.table_history.specs.Concerns.{HasPlaced, IsOpened, Stands}
use Rattle.table_history.specs.Instants.{instant_of, targets_of}
use Rattle.table_history.specs.JobLaw.{Work, IsLegal, Phase, Fresh, Drawn, Writes, Committed, Owes, Reads, Leaves, Ended, Allows, next_phase, phase}
use Rattle.table_history.specs.Tables.{Table, Instant}
use Rattle.table_history.specs.declared.entry.Entry.{Entry}
use Rattle.table_history.specs.declared.job.Job.{Job}
use Rattle.file_names.specs.declared.file_name.State.TheVariants as state
use Rattle.std.specs.Option.{option_map_or}
use Rattle.table_history.specs.declared.reply.Reply.{Reply}
use Rattle.table_history.specs.declared.reply.Reply.TheVariants as reply
use Rattle.table_history.specs.declared.step.Step.{Step}
use Rattle.table_history.specs.declared.step.Step.TheVariants.{Begin, Enter, Append, Finish, Pin, Unpin, Read, Abandon}
use Rattle.table_images.proofs.SameLogs.{entry}
use Rattle.table_images.proofs.Texts.{fit_more}
use Rattle.table_jobs.specs.Places.{place_in}
use Rattle.table_query.specs.GroupReading.{counts, is_among, target_of}
use Rattle.table_query.specs.GroupReading as query
use Rattle.upsert_writer.specs.BatchWrites.{is_in_group}
use Rattle.upsert_writer.specs.Blocks.{BlockForm, HasWrites, Holds}
use Rattle.table_answers.specs.InTurn.{CarriesForm, CarriesWrites}
use Rattle.table_answers.specs.InstantWrites.{block_writes, or_none, writes_read}
use Rattle.upsert_writer.specs.WriterSteps.{targets_given}
use Rattle.table_answers.proofs.Placed.{PlacedBlock, placed, placed_at, placed_by}

-- ---- targets

-- a writer was given the targets of its instant
abbrev IsGiven : Phase → List Target → Type 0
IsGiven (Writes t targets placed) given = given ≡ targets
IsGiven _ given = Unit {0}

given_next : (p : Phase) (s : Step) (r : Reply) (es : List Entry) (job : Job) → IsGiven p (targets_given es) → IsGiven (next_phase p s r) (targets_given (entry job s r ∷ es))
given_next (Drawn t) (Enter u slots) (reply.Entered targets) es job was = refl
given_next (Writes t targets placed) (Append u target writes bytes) (reply.Placed version at) es job was = was
given_next Fresh Begin (reply.Began t) es job was = tt
given_next Fresh (Pin at bases_only) (reply.Pinned view) es job was = tt
given_next Fresh s r es job was = tt
given_next (Drawn t) (Abandon u) r es job was = tt
given_next (Drawn t) s r es job was = tt
given_next (Writes t targets placed) (Finish u checkpoint) (reply.Completed v) es job was = tt
given_next (Writes t targets placed) (Abandon u) r es job was = tt
given_next (Writes t targets placed) s r es job was = tt
given_next (Committed t) s r es job was = tt
given_next (Owes t) s r es job was = tt
given_next (Reads pin [] at) (Read from number offset len) (reply.Piece bytes) es job was = tt
given_next (Reads pin (file ∷ files) at) (Read from number offset len) (reply.Piece bytes) es job was = by (at + len == file.1)
  where
    by : (b : Bool) → IsGiven (cond b (Reads pin files 0) (Reads pin (file ∷ files) (at + len))) (targets_given (entry job (Read from number offset len) (reply.Piece bytes) ∷ es))
    by true = tt
    by false = tt
given_next (Reads pin files at) (Unpin q) r es job was = tt
given_next (Reads pin files at) s r es job was = tt
given_next (Leaves pin) s r es job was = tt
given_next Ended s r es job was = tt

pub given_of : (es : List Entry) → IsGiven (phase es) (targets_given es)
given_of [] = tt
given_of (e ∷ es) = given_next (phase es) e.step e.reply es e.job (given_of es)

-- so the targets that it was given are those that the table has of its instant
given_is : (work : Work) (A : Table) (H : History) (job : Job) (p : Phase) (given : List Target) (t target writes : ℕ) (bytes : List ℕ) → IsGiven p given → Stands A H job p
    → Allows work job p (Append t target writes bytes) → given ≡ targets_of A H t
given_is work A H job (Writes u targets blocks) given t target writes bytes is stands allowed =
    is ∙ by (instant_of A H u) stands ∙ ap (targets_of A H) (sym allowed.0)
  where
    by : (o : Option Instant) → IsSomeAnd o (λ i. (i.owner ≡ Some job) × ((i.state ≡ state.Inflight) × (i.targets ≡ targets) × HasPlaced blocks i)) → targets ≡ option_map_or (λ (i : Instant). i.targets) o []
    by None stands = absurd stands
    by (Some i) stands = sym stands.1.1
given_is work A H job p given t target writes bytes is stands allowed = absurd allowed

-- ---- blocks

-- one whole block of the instant, that the form reads as writes of the slice's group
pub record IsWriteBlock (form : BlockForm) (s : Target) (b : PlacedBlock) : Type 0 where
  pub to : b.to ≡ s
  pub block : Block
  pub fits : Fits block
  pub is : b.bytes ≡ block_bytes block
  pub wrote : List Write
  pub own : AllByRecursion (λ w. is_in_group s.group w ≡ true) wrote
  pub holds : Holds form b.t s.group wrote block
  pub writes : block_writes form (Some s) b.bytes ≡ wrote

-- what a query reads in the block
pub reads_held : (form : BlockForm) (t : ℕ) (group : GroupRef) (own : List Write) (block : Block) → Holds form t group own block
    → query.block_writes (record { rows = form.reading; table = form.table }) group block ≡ Ok own
reads_held form t group own (Data instant schema content) holds =
    ap (λ at. data_writes form.reading (place_in form.table at group) content) holds.0 ∙ holds.2
reads_held form t group own (Delete instant content) holds = holds.2
reads_held form t group own (Rollback instant target) holds = absurd holds

-- it counts where its instant does
pub counts_held : (form : BlockForm) (t : ℕ) (group : GroupRef) (own : List Write) (block : Block) (completed void : List ℕ) → Holds form t group own block
    → counts completed void block ≡ (is_among completed t && not (is_among void t))
counts_held form t group own (Data instant schema content) completed void holds = ap (λ at. is_among completed at && not (is_among void at)) holds.0
counts_held form t group own (Delete instant content) completed void holds = ap (λ at. is_among completed at && not (is_among void at)) holds.0
counts_held form t group own (Rollback instant target) completed void holds = absurd holds

-- and it voids none
pub voids_none : (form : BlockForm) (t : ℕ) (group : GroupRef) (own : List Write) (block : Block) → Holds form t group own block → target_of block ≡ []
voids_none form t group own (Data instant schema content) holds = refl
voids_none form t group own (Delete instant content) holds = refl
voids_none form t group own (Rollback instant target) holds = absurd holds

held_read : (form : BlockForm) (s : Target) (t len : ℕ) (own : List Write) (block : Block) → Holds form t s.group own block → writes_read form s (Whole block len) ≡ own
held_read form s t len own (Data instant schema content) holds =
    ap (λ at. or_none (data_writes form.reading (place_in form.table at s.group) content)) holds.0 ∙ ap or_none holds.2
held_read form s t len own (Delete instant content) holds = ap or_none holds.2
held_read form s t len own (Rollback instant target) holds = absurd holds

-- the writes of a block are those that it holds
pub block_of_writes : (form : BlockForm) (s : Target) (t writes : ℕ) (bytes : List ℕ) (own : List Write) → HasWrites form own t s.group writes bytes → block_writes form (Some s) bytes ≡ own
block_of_writes form s t writes bytes own has =
    let there : block_at bytes ≡ Whole has.block (length (block_bytes has.block)) =
    ap block_at (has.is ∙ sym (append-nil (block_bytes has.block))) ∙ block_at_again has.block [] has.fits in
    ap (writes_read form s) there ∙ held_read form s t (length (block_bytes has.block)) own has.block has.holds

write_block : (form : BlockForm) (s : Target) (t writes : ℕ) (bytes : List ℕ) (own : List Write) → HasWrites form own t s.group writes bytes → AllByRecursion (λ w. is_in_group s.group w ≡ true) own
    → IsWriteBlock form s (record { t = t; to = s; bytes = bytes })
write_block form s t writes bytes own has lie = record {
  to = refl;
  block = has.block;
  fits = has.fits;
  is = has.is;
  wrote = own;
  own = lie;
  holds = has.holds;
  writes = block_of_writes form s t writes bytes own has;
}

abbrev pub AllWriteBlocks : BlockForm → List PlacedBlock → Type 0
AllWriteBlocks form bs = AllByRecursion (λ b. IsWriteBlock form b.to b) bs

carried : (form : BlockForm) (t writes : ℕ) (bytes : List ℕ) (o : Option Target)
    → IsSomeAnd o (λ s. (own : List Write) × HasWrites form own t s.group writes bytes × AllByRecursion (λ w. is_in_group s.group w ≡ true) own) → AllWriteBlocks form (placed_at t bytes o)
carried form t writes bytes None has = absurd has
carried form t writes bytes (Some s) has = (write_block form s t writes bytes has.0 has.1 has.2, tt)

placed_carries : (form : BlockForm) (work : Work) (A : Table) (H : History) (job : Job) (p : Phase) (given : List Target) (s : Step) (r : Reply) → IsGiven p given → Stands A H job p → Allows work job p s
    → CarriesWrites form given s → AllWriteBlocks form (placed_by A H s r)
placed_carries form work A H job p given (Append t target writes bytes) (reply.Placed version at) is stands allowed carries =
    carried form t writes bytes (target_at A H t target)
    (subst (λ (targets : List Target). IsSomeAnd (slice_get targets target) (λ s. (own : List Write) × HasWrites form own t s.group writes bytes × AllByRecursion (λ w. is_in_group s.group w ≡ true) own))
    (given_is work A H job p given t target writes bytes is stands allowed) carries)
placed_carries form work A H job p given s r is stands allowed carries = tt

pub all_write_blocks : (form : BlockForm) (work : Work) (A : Table) (H : History) → IsOpened A → IsLegal work A H → CarriesForm form H → AllWriteBlocks form (placed A H)
all_write_blocks form work A [] opened legal carries = tt
all_write_blocks form work A (e ∷ H) opened legal carries =
    fit_more (λ b. IsWriteBlock form b.to b) (placed A H) (placed_by A H e.step e.reply) (all_write_blocks form work A H opened legal.0 carries.1)
    (placed_carries form work A H e.job (phase (own e.job H)) (targets_given (own e.job H)) e.step e.reply (given_of (own e.job H)) (linked work A H opened legal.0 e.job) legal.2 carries.0)
