-- A query in turn answers the fold of the completed instants.
use Rattle.std.proofs.Common.{◌≡◌, ℕ, Bool, true, false, ◌&&◌, List, [], length, map, zero-add, ◌∷◌, ◌++◌, Option, Some, None, Ok, slice_get, refl, sym, ap, subst, ◌∙◌}
use Rattle.std.specs.Prelude.{filter, nat_le, reverse}
use Rattle.std.specs.FinMap.{empty}
use Rattle.std.specs.List.{AllByRecursion, flat_map}
use Rattle.payload_merge.specs.Fold.{rows_of, table_after_all}
use Rattle.payload_merge.proofs.Tables.{rows_of-empty}
use Rattle.table_board.specs.HonestRuns.{IsUndamaged, IsUndamagedReply}
use Rattle.table_core.specs.declared.job_reply.JobReply.{JobReply}
use Rattle.table_core.specs.declared.job_reply.JobReply.TheVariants as job_reply
use Rattle.table_history.specs.Histories.{History}
use Rattle.table_history.specs.Instants.{completed_instants}
use Rattle.table_history.specs.JobLaw.{Work, IsLegal, phase}
use Rattle.table_history.specs.Answers.{May}
use Rattle.table_history.specs.Logs.{bytes_in, files_of, target_at}
use Rattle.hudi_base.specs.declared.file_group.GroupRef.{GroupRef}
use Rattle.hudi_base.specs.declared.file_group.Target.{Target}
use Rattle.key_index.specs.Tiling.{IsBuckets}
use Rattle.key_index.proofs.FirstTiles.{each-among}
use Rattle.table_history.specs.Targets.{AreLive, is_live}
use Rattle.table_history.specs.declared.step.Step.{Step}
use Rattle.table_history.specs.declared.step.Step.TheVariants.{Append}
use Rattle.table_images.proofs.Texts.{fit_more}
use Rattle.table_history.specs.Pins.{ArePartsAt, IsView, completed_for, has_files, part_at}
use Rattle.table_history.specs.Tables.{Table, fresh}
use Rattle.table_history.specs.declared.entry.Entry.{Entry}
use Rattle.table_history.specs.declared.job.Job.{Job}
use Rattle.table_history.specs.declared.reply.Reply.{Reply}
use Rattle.table_history.specs.declared.reply.Reply.TheVariants as reply
use Rattle.table_history.specs.declared.view.GroupParts.{GroupParts}
use Rattle.table_history.specs.declared.view.Part.{Part}
use Rattle.table_history.specs.declared.view.View.{View}
use Rattle.table_jobs.specs.Replies.{ending, first_of_two, told}
use Rattle.table_query.specs.Answers.{AreReadInTurn, IsAnswer, IsMadeOf, IsQueryReply, reply_with}
use Rattle.table_query.specs.GroupReading.{TableReading, view_writes}
use Rattle.table_query.specs.ReadBytes.{bytes_read, pinned}
use Rattle.upsert_writer.specs.Blocks.{BlockForm}
use Rattle.table_answers.specs.InTurn.{CarriesForm, IsInTurn, IsMadeBy}
use Rattle.table_answers.specs.InstantWrites.{writes_of}
use Rattle.table_answers.specs.NamedRuns.{AllNamesFit}
use Rattle.table_answers.specs.Snapshots.{AnswersSnapshot, rows_at}
use Rattle.table_answers.proofs.Beginnings.{legal_before}
use Rattle.table_answers.proofs.FilesRead.{BeginsParts, IsSoFar, files_read, whole_beginning}
use Rattle.table_answers.proofs.LogTexts.{IsChained, logs_have_blocks}
use Rattle.table_answers.proofs.GroupFolds.{groups_fold, placed_seen}
use Rattle.table_answers.proofs.LiveSlices.{IsOwn, appending, goes_there, instants_plain}
use Rattle.table_answers.proofs.Placed.{placed, placed_at, placed_by}
use Rattle.table_answers.proofs.WriteBlocks.{AllWriteBlocks, all_write_blocks}
use Rattle.table_answers.proofs.Times.{falls_filtered, fold_is, rises_reversed}
use Rattle.table_answers.proofs.Turns.{Falls, completed_fall}
use Rattle.table_answers.proofs.ViewWrites.{groups_are_read, groups_written, view_long, with_parts, writes_by_group}
use Rattle.table_answers.proofs.Writes.{fresh_opened, in_order}
use Rattle.table_props.specs.PropsTexts.{Told as Properties}

-- ---- what the entries tell

module _ (form : BlockForm) (A : Table) (H : History) (at : Option ℕ) where
  abbrev TellsNone : Option JobReply → Type 0
  TellsNone None = Unit {0}
  TellsNone (Some answer) = AnswersSnapshot form A H at answer

  one_tells : (r : Reply) (o : Option JobReply) → IsUndamagedReply r → TellsNone o → TellsNone (first_of_two (ending r) o)
  one_tells (reply.Completed t) o whole rest = tt
  one_tells (reply.NotCompleted t) o whole rest = tt
  one_tells reply.TimeOver o whole rest = tt
  one_tells reply.Fault o whole rest = tt
  one_tells (reply.Damaged name cause) o whole rest = absurd whole
  one_tells r o whole rest = rest

  -- no step tells rows
  tells : (es : List Entry) → AllByRecursion IsUndamaged es → TellsNone (told es)
  tells [] whole = tt
  tells (e ∷ es) whole = one_tells e.reply (told es) whole.0 (tells es whole.1)

-- ---- what was read

-- each placed block went to the current slice of a live group
own_more : (A : Table) (H : History) (t : ℕ) (bytes : List ℕ) (o : Option Target) → ((s : Target) → o ≡ Some s → IsOwn A s) → AllByRecursion (λ b. IsOwn A b.to) (placed_at t bytes o)
own_more A H t bytes None own = tt
own_more A H t bytes (Some s) own = (own s refl, tt)

own_placed : (work : Work) (props : Properties) (H : History) → IsLegal work (fresh props) H → AllByRecursion (λ b. IsOwn (fresh props) b.to) (placed (fresh props) H)
own_placed work props [] legal = tt
own_placed work props (e ∷ H) legal =
    fit_more (λ b. IsOwn (fresh props) b.to) (placed (fresh props) H) (placed_by (fresh props) H e.step e.reply) (own_placed work props H legal.0)
    (one e.step e.reply legal.1.may)
  where
    same : {x y : Target} → Some x ≡ Some y → x ≡ y
    same is = cc

    one : (st : Step) (r : Reply) → May (fresh props) H e.job st → AllByRecursion (λ b. IsOwn (fresh props) b.to) (placed_by (fresh props) H st r)
    one (Append t target writes bytes) (reply.Placed version at) may =
        let to = appending (fresh props) H e.job t target (instants_plain work props H legal.0 t) may in
        own_more (fresh props) H t bytes (target_at (fresh props) H t target)
        (λ s is. subst (IsOwn (fresh props)) (same (sym (goes_there (fresh props) H t target to.0 to.1) ∙ is)) to.1.own)
    one st r may = tt

module _ (form : BlockForm) (props : Properties) (fit : IsBuckets props.buckets) (work : Work) (before : History) (legal : IsLegal work (fresh props) before) (turn : IsInTurn before)
    (carries : CarriesForm form before) (names : AllNamesFit (fresh props) before) (at : Option ℕ) where
  abbrev A : Table
  A = fresh props

  abbrev reading : TableReading
  reading = record { rows = form.reading; table = form.table }

  chained : (s : Target) → IsChained A before s
  chained s = logs_have_blocks work props before s legal names

  rows : AllWriteBlocks form (placed A before)
  rows = all_write_blocks form work A before (fresh_opened props) legal carries

  abbrev times : ℕ → List ℕ
  times t = filter (λ u. nat_le u t) (completed_instants A before)

  times_fall : (t : ℕ) → Falls (times t)
  times_fall t = falls_filtered (λ u. nat_le u t) (completed_instants A before) (completed_fall work props before legal turn)

  lives_of : (t : ℕ) (gs : List GroupRef) → AreLive A (has_files A before t false) gs → AllByRecursion (λ g. is_live A g ≡ true) gs
  lives_of t gs live = each-among (λ g. is_live A g ≡ true) gs (λ g among. first (is_live A g) (has_files A before t false g) (sym (live.are g) ∙ among))
    where
      first : (a b : Bool) → (a && b) ≡ true → a ≡ true
      first true b h = refl
      first false b h = h

  -- the counted blocks of the groups fold as the instants
  folded : (t : ℕ) (gs : List GroupRef) → AreLive A (has_files A before t false) gs
      → rows_of (table_after_all empty (writes_by_group form A before chained rows (reverse (times t)) gs)) ≡ rows_at form A before (Some t)
  folded t gs live =
      let own = own_placed work props before legal in
      ap rows_of (groups_fold form (reverse (times t)) A (placed A before) gs fit rows own (lives_of t gs live) live.order (placed_seen A before t gs live chained own))
      ∙ ap (λ writes. rows_of (table_after_all empty writes)) (in_order form work props before legal turn (reverse (times t)) (rises_reversed (times t) (times_fall t)))
      ∙ ap rows_of (sym (fold_is (writes_of form A before) (times t) (times_fall t)))

  made_rows : (view : View) (bytes : ℕ → List ℕ) → IsView A before at false view → ((k : ℕ) (part : Part) → part_at view k ≡ Some part → bytes k ≡ bytes_in (files_of A before) part.name)
      → AnswersSnapshot form A before at (reply_with view.t (view_writes reading view.completed bytes view.groups))
  made_rows view bytes is are = by view.t refl view.groups is.groups are
    where
      by : (time : Option ℕ) → view.t ≡ time → (groups : List GroupParts) → ArePartsAt A before time false groups
          → ((k : ℕ) (part : Part) → slice_get (flat_map (λ (g : GroupParts). g.parts) groups) k ≡ Some part → bytes k ≡ bytes_in (files_of A before) part.name)
          → AnswersSnapshot form A before at (reply_with view.t (view_writes reading view.completed bytes groups))
      by None time groups none files =
          let empty_is : reply_with view.t (view_writes reading view.completed bytes groups) ≡ reply_with None (Ok []) =
          ap (λ (gs : List GroupParts). reply_with view.t (view_writes reading view.completed bytes gs)) none ∙ ap (λ (o : Option ℕ). reply_with o (Ok [])) time in
          subst (AnswersSnapshot form A before at) (sym empty_is) (record { at_is = sym time ∙ is.t; rows_are = rows_of-empty })
      by (Some t) time groups parts files =
          let completed : view.completed ≡ reverse (times t) = is.completed ∙ ap (completed_for A before) time in
          let writes : view_writes reading view.completed bytes groups ≡ Ok (writes_by_group form A before chained rows (reverse (times t)) parts.groups) =
          ap (λ (gs : List GroupParts). view_writes reading view.completed bytes gs) parts.are ∙ ap (λ (us : List ℕ). view_writes reading us bytes (map (with_parts form A before chained rows t) parts.groups)) completed
          ∙ groups_written form A before chained rows (reverse (times t)) t bytes 0 parts.groups
          (λ k part there. ap bytes (zero-add k) ∙ files k part (ap (λ (gs : List GroupParts). slice_get (flat_map (λ (g : GroupParts). g.parts) gs) k) parts.are ∙ there)) in
          let found : reply_with view.t (view_writes reading view.completed bytes groups)
          ≡ reply_with (Some t) (Ok (writes_by_group form A before chained rows (reverse (times t)) parts.groups)) =
          ap (reply_with view.t) writes ∙ ap (λ (o : Option ℕ). reply_with o (Ok (writes_by_group form A before chained rows (reverse (times t)) parts.groups))) time in
          subst (AnswersSnapshot form A before at) (sym found) (record { at_is = sym time ∙ is.t; rows_are = folded t parts.groups parts.live })

  -- each file was read to its end
  all_are : (view : View) (bytes : ℕ → List ℕ) → IsView A before at false view
      → ((k : ℕ) (part : Part) → part_at view k ≡ Some part → length (bytes k) ≡ part.length → bytes k ≡ bytes_in (files_of A before) part.name)
      → AreReadInTurn reading view.completed bytes 0 view.groups → (k : ℕ) (part : Part) → part_at view k ≡ Some part → bytes k ≡ bytes_in (files_of A before) part.name
  all_are view bytes is whole read k part there = by view.t view.groups is.groups whole read there
    where
      parts_in : List GroupParts → List Part
      parts_in groups = flat_map (λ (g : GroupParts). g.parts) groups

      by : (time : Option ℕ) (groups : List GroupParts) → ArePartsAt A before time false groups
          → ((k : ℕ) (part : Part) → slice_get (parts_in groups) k ≡ Some part → length (bytes k) ≡ part.length → bytes k ≡ bytes_in (files_of A before) part.name)
          → AreReadInTurn reading view.completed bytes 0 groups → slice_get (parts_in groups) k ≡ Some part → bytes k ≡ bytes_in (files_of A before) part.name
      by None groups none whole read there = let wrong : None ≡ Some part = sym (ap (λ (gs : List GroupParts). slice_get (parts_in gs) k) none) ∙ there in cc
      by (Some t) groups parts whole read there =
          ap bytes (sym (zero-add k))
          ∙ groups_are_read form A before chained rows view.completed t bytes 0 parts.groups
          (λ j p at long. ap bytes (zero-add j) ∙ whole j p (ap (λ (gs : List GroupParts). slice_get (parts_in gs) j) parts.are ∙ at) (ap (λ n. length (bytes n)) (sym (zero-add j)) ∙ long))
          (subst (AreReadInTurn reading view.completed bytes 0) parts.are read) k part
          (sym (ap (λ (gs : List GroupParts). slice_get (parts_in gs) k) parts.are) ∙ there)

  made_of : (view : View) (mine : List Entry) (given : JobReply) → IsView A before at false view → BeginsParts (files_of A before) mine view → IsMadeOf reading view (bytes_read mine) given
      → AnswersSnapshot form A before at given
  made_of view mine given is begins made = by given made
    where
      from : (given : JobReply) → AreReadInTurn reading view.completed (bytes_read mine) 0 view.groups × (given ≡ reply_with view.t (view_writes reading view.completed (bytes_read mine) view.groups)) → AnswersSnapshot form A before at given
      from given found =
          subst (AnswersSnapshot form A before at) (sym found.1)
          (made_rows view (bytes_read mine) is
          (all_are view (bytes_read mine) is
          (λ k part there long. whole_beginning (bytes_read mine k) (bytes_in (files_of A before) part.name) (begins k part there)
          (long ∙ sym (view_long form A before chained rows at view is k part there)))
          found.0))

      by : (given : JobReply) → IsMadeOf reading view (bytes_read mine) given → AnswersSnapshot form A before at given
      by job_reply.Memory made = tt
      by given made = from given made

  answered : (mine : List Entry) (given : JobReply) (o : Option JobReply) (v : Option View) → pinned mine ≡ v → TellsNone form A before at o
      → ((view : View) → pinned mine ≡ Some view → IsView A before at false view × BeginsParts (files_of A before) mine view)
      → IsAnswer reading o v (bytes_read mine) given → AnswersSnapshot form A before at given
  answered mine given (Some answer) v is tells views answer_is = subst (AnswersSnapshot form A before at) (sym answer_is) tells
  answered mine given None None is tells views answer_is = subst (AnswersSnapshot form A before at) (sym answer_is) tt
  answered mine given None (Some view) is tells views made = made_of view mine given (views view is).0 (views view is).1 made

pub snapshot_is_fold : (work : Work) (form : BlockForm) (props : Properties) (before after : History) (job : Job) (mine : List Entry) (at : Option ℕ) (given : JobReply) → IsBuckets props.buckets
    → IsMadeBy job before after mine → IsLegal work (fresh props) after → AllNamesFit (fresh props) before → IsInTurn before → CarriesForm form before → AllByRecursion IsUndamaged mine
    → IsQueryReply (record { rows = form.reading; table = form.table }) at mine given → AnswersSnapshot form (fresh props) before at given
snapshot_is_fold work form props before after job mine at given fit made legal names turn carries whole answers =
    let A : Table = fresh props in
    let all : IsLegal work A (mine ++ before) = subst (IsLegal work A) made.are legal in
    let first : IsLegal work A before = legal_before work A before mine all in
    let read : IsSoFar A before at mine (phase mine) =
    files_read work A before at job (view_long form A before (chained form props fit work before first turn carries names at) (rows form props fit work before first turn carries names at) at) made.first mine made.all answers.pins all in
    answered form props fit work before first turn carries names at mine given (told mine) (pinned mine) refl (tells form A before at mine whole) read.views answers.answer
