-- From the journal of a board to what is said of a run.
use Rattle.std.proofs.Common.{◌≡◌, ℕ, ◌≤◌, ℤ, List, [], ◌∷◌, ◌++◌, ◌+◌, length, take, length-append, append_assoc, Option, Some, None, IfSome, ap, sym, ◌∙◌, subst, inl, inr, arith}
use Rattle.std.proofs.Math.Seq.{take-append_seam}
use Rattle.std.specs.FinMap.{empty}
use Rattle.std.specs.List.{AllByRecursion}
use Rattle.hudi_base.specs.Clock.{ClockState}
use Rattle.hudi_base.specs.Files.{FileMap, IsImage, IsReplay, Told, changed_all}
use Rattle.hudi_base.specs.Store.{StoreState}
use Rattle.hudi_base.specs.declared.operation.Operation.{Operation}
use Rattle.script_jobs.specs.Scripts.{SaidJob}
use Rattle.key_index.specs.Tiling.{IsBuckets}
use Rattle.table_answers.specs.NamedRuns.{AllNamesFit}
use Rattle.table_answers.proofs.Beginnings.{run_names}
use Rattle.table_board.specs.Boards.{DrawnTimes, FaultsCounted, Origin, table_of}
use Rattle.table_board.specs.HonestRuns.{IsUndamaged, StandsThroughout, Stood, WhereStood}
use Rattle.table_board.specs.KnownEntries.{known_entries}
use Rattle.table_board.specs.Later.{IsLater}
use Rattle.table_core.specs.declared.job_reply.JobReply.{JobReply}
use Rattle.table_history.specs.Histories.{History}
use Rattle.table_history.specs.JobLaw.{IsLegal}
use Rattle.table_history.specs.Tables.{Table, fresh}
use Rattle.script_run.specs.Batches.{any_batch}
use Rattle.script_run.specs.Runs.{IsRunOf, RanJobs, RunTable, WasHonestFresh, table_at_first}
use Rattle.table_open.specs.NewTables.{IsHonestFresh, IsNoneOrTable, making}
use Rattle.table_open.proofs.Made.{replay_is}
use Rattle.script_run.proofs.FromBoard.{stood_on}
use Rattle.script_run.proofs.Snapshots.{IsWhole, answers_undamaged, from_itself, turned_first, with_snapshots}

-- what a board says of its entries
pub record Journal (origin : Origin) (H : History) (honest : Type 0) (state : StoreState) (most : ℤ) : Type 0 where
  pub legal : IsLegal any_batch (table_of origin) (known_entries (table_of origin) H)
  pub faults : FaultsCounted origin.faults H state.faults
  pub drawn : DrawnTimes (table_of origin) most H
  pub undamaged : WhereStood honest state.told origin (λ first operations. AllByRecursion IsUndamaged H)
  pub legal_as_read : WhereStood honest state.told origin (λ first operations. IsLegal any_batch (table_of origin) H)
  pub images : WhereStood honest state.told origin (λ first operations. StandsThroughout any_batch (table_of origin) first origin.done operations H)

-- a board that was made with its table, over a store that was seen so before and then
pub record IsMadeOver (origin : Origin) (table : RunTable) (was then : Type 0) (old mid : StoreState) : Type 0 where
  pub props : origin.props ≡ table.props
  pub buckets : IsBuckets table.props.buckets
  pub faults : origin.faults ≡ mid.faults
  pub no_fewer : old.faults ≤ mid.faults
  pub done : IfSome mid.told.operations (λ operations. origin.done ≡ length operations)
  pub replay : IsReplay old.told
  pub first_images : IsNoneOrTable table.props
  pub stood : (start : FileMap) (before : List Operation) → IsHonestFresh was old.told start before
      → Stood then mid.told (table_of origin) origin.done start (before ++ making table.props ∷ [])

if_some : {A : Type 0} (P : A → Type 0) (o : Option A) (x : A) → o ≡ Some x → IfSome o P → P x
if_some P None x is h = cc
if_some P (Some y) x is h = let same : y ≡ x = cc in subst P same h

counted_earlier : (first later now : ℕ) (H : History) → first ≤ later → FaultsCounted later H now → FaultsCounted first H now
counted_earlier first later now H le (inl counted) = inl (omega arith)
counted_earlier first later now H le (inr last) = inr last

one_longer : (before : List Operation) (operation : Operation) → length (before ++ operation ∷ []) ≡ length before + 1
one_longer before operation = length-append before (operation ∷ [])

pub run_of : (table : RunTable) (origin : Origin) (was then is : Type 0) (old mid new : StoreState) (before after : ClockState) (jobs : List SaidJob) (replies : List JobReply) (H : History)
    → IsMadeOver origin table was then old mid → IsLater origin origin then is mid new before after → Journal origin H is new after.most → RanJobs table ⊥ jobs replies [] H
    → IsRunOf table jobs H replies was old new after
run_of table origin was then is old mid new before after jobs replies H made later journal ran =
    let table_is : table_of origin ≡ table_at_first table = ap fresh made.props in
    let begun = λ (first : List Operation). first ++ making table.props ∷ [] in
    let more_of = λ (start : FileMap) (first : List Operation) (f : IsHonestFresh was old.told start first).
    let stood = made.stood start first f in later.told.operations stood.honest (begun first) stood.tells_operations in
    let now_of = λ (start : FileMap) (first : List Operation) (f : IsHonestFresh was old.told start first). begun first ++ (more_of start first f).0 in
    let done_of = λ (start : FileMap) (first : List Operation) (f : IsHonestFresh was old.told start first).
    if_some (λ (operations : List Operation). origin.done ≡ length operations) mid.told.operations (begun first) (made.stood start first f).tells_operations made.done in
    let stood_of = λ (start : FileMap) (first : List Operation) (f : IsHonestFresh was old.told start first).
    stood_on (table_of origin) then is mid.told new.told origin.done start (begun first) (now_of start first f) (made.stood start first f) (done_of start first f) later.told later.honest.0
    (more_of start first f).1 in
    let legal_of = λ (start : FileMap) (first : List Operation) (f : IsHonestFresh was old.told start first).
    subst (λ (A : Table). IsLegal any_batch A H) table_is (journal.legal_as_read start (now_of start first f) (stood_of start first f)) in
    let undamaged_of = λ (start : FileMap) (first : List Operation) (f : IsHonestFresh was old.told start first).
    journal.undamaged start (now_of start first f) (stood_of start first f) in
    let images_of = λ (start : FileMap) (first : List Operation) (f : IsHonestFresh was old.told start first).
    journal.images start (now_of start first f) (stood_of start first f) in
    let named_of = λ (start : FileMap) (first : List Operation) (f : IsHonestFresh was old.told start first).
    let images = images_of start first f in
    subst (λ (A : Table). AllNamesFit A H) table_is (subst (AllNamesFit (table_of origin)) images.entries (run_names any_batch (table_of origin) _ images.run images.legal)) in
    let whole_of : WasHonestFresh was old.told → IsWhole table H = λ f.
    record { buckets = made.buckets; legal = legal_of f.0 f.1.0 f.1.1; named = named_of f.0 f.1.0 f.1.1; undamaged = undamaged_of f.0 f.1.0 f.1.1 } in
    let with_rows : RanJobs table (WasHonestFresh was old.told) jobs replies [] H =
    with_snapshots table (WasHonestFresh was old.told) jobs replies [] H H ran (turned_first table) (from_itself H) whole_of in
    record {
      ran = with_rows;
      legal = subst (λ (A : Table). IsLegal any_batch A (known_entries A H)) table_is journal.legal;
      drawn = subst (λ (A : Table). DrawnTimes A after.most H) table_is journal.drawn;
      faults = counted_earlier old.faults mid.faults new.faults H made.no_fewer (subst (λ (n : ℕ). FaultsCounted n H new.faults) made.faults journal.faults);
      on_honest = λ start first f.
          let more = more_of start first f in
          let now = now_of start first f in
          let longer = one_longer first (making table.props) in
          let none : changed_all start first ≡ empty = sym (replay_is old.told empty start first f.files f.operations f.first made.replay) in (
            now,
            (
              more.1,
              record {
                undamaged = undamaged_of start first f;
                answers = answers_undamaged table (WasHonestFresh was old.told) jobs replies [] H H with_rows (start, (first, f)) (from_itself H) (undamaged_of start first f);
                legal = legal_of start first f;
                made = ap (λ (n : ℕ). take n now) (sym longer) ∙ take-append_seam (begun first) more.0;
                first_images = λ image stop.
                    made.first_images start first more.0 image none
                    (subst (λ (operations : List Operation). IsImage start operations (length first) image) (append_assoc first (making table.props ∷ []) more.0) stop);
                images = subst (λ (n : ℕ). StandsThroughout any_batch (table_at_first table) start n now H) (done_of start first f ∙ longer)
                    (subst (λ (A : Table). StandsThroughout any_batch A start origin.done now H) table_is (images_of start first f));
              },
            ),
          );
    }

-- ---- what went before was a listing

ran_earlier : (table : RunTable) (Stood Then : Type 0) (jobs : List SaidJob) (replies : List JobReply) (before after : History) → (Stood → Then) → RanJobs table Then jobs replies before after
    → RanJobs table Stood jobs replies before after
ran_earlier table Stood Then [] [] before after earlier same = same
ran_earlier table Stood Then [] (r ∷ replies) before after earlier ran = absurd ran
ran_earlier table Stood Then (j ∷ jobs) [] before after earlier ran = absurd ran
ran_earlier table Stood Then (j ∷ jobs) (r ∷ replies) before after earlier ran =
    (ran.0, record { mine = ran.1.mine; made = ran.1.made; answers = ran.1.answers; comes = λ stood. ran.1.comes (earlier stood) }, ran_earlier table Stood Then jobs replies ran.0 after earlier ran.2)

fresh_then : (was is : Type 0) (told : Told) (start : FileMap) (first : List Operation) → (was → is) → IsHonestFresh was told start first → IsHonestFresh is told start first
fresh_then was is told start first same f = record { honest = same f.honest; files = f.files; operations = f.operations; first = f.first }

pub run_earlier : (table : RunTable) (was is : Type 0) (told : Told) (faults later : ℕ) (new : StoreState) (clock : ClockState) (jobs : List SaidJob) (replies : List JobReply) (H : History) → (was → is)
    → faults ≤ later → IsRunOf table jobs H replies is (record { told = told; faults = later }) new clock → IsRunOf table jobs H replies was (record { told = told; faults = faults }) new clock
run_earlier table was is told faults later new clock jobs replies H same le run = record {
  ran = ran_earlier table (WasHonestFresh was told) (WasHonestFresh is told) jobs replies [] H (λ f. (f.0, (f.1.0, fresh_then was is told f.0 f.1.0 same f.1.1))) run.ran;
  legal = run.legal;
  drawn = run.drawn;
  faults = counted_earlier faults later new.faults H le run.faults;
  on_honest = λ start first f. run.on_honest start first (fresh_then was is told start first same f);
}
