-- What a committed writer's instant wrote: its batch.
use Rattle.std.proofs.Common.{◌≡◌, ◌⊎◌, inl, inr, Result, Ok, Err, ◌+◌, ℕ, zero, suc, Bool, true, false, cond, ◌||◌, ◌&&◌, List, [], ◌∷◌, ◌++◌, append-nil, map, take, length, Option, Some, None, slice_get, refl, sym, ap, subst, ◌∙◌, arith}
use Rattle.std.specs.Prelude.{◌==◌, IsSomeAnd, IsOkAnd, nat_lt}
use Rattle.std.specs.List.{AllByRecursion, flat_map, list_any}
use Rattle.std.specs.List.Sorted.{IsStrictlySortedBy}
use Rattle.std.specs.Ordering.{is_eq}
use Rattle.std.specs.Str.{bytes_eq}
use Rattle.std.specs.declared.cmp.Ordering.TheVariants.{Less}
use Rattle.std.proofs.lemmas.Grind.{flat_map-append}
use Rattle.std.proofs.lemmas.List.{take_all}
use Rattle.std.proofs.lemmas.Map.Keys.{sorted_head}
use Rattle.hudi_base.specs.declared.file_group.GroupRef.{GroupRef}
use Rattle.hudi_base.specs.declared.file_group.Target.{Target}
use Rattle.file_names.specs.declared.file_name.State.TheVariants as state
use Rattle.key_index.specs.Tiling.{IsBuckets, has_slot, is_among, is_same_group}
use Rattle.key_index.proofs.FirstTiles.{same-is, same-itself}
use Rattle.payload_merge.specs.Fold.{writes_from}
use Rattle.payload_merge.specs.Payload.{key_of}
use Rattle.payload_merge.specs.declared.row.Write.{Write}
use Rattle.table_core.specs.KeyLaws.{same_group}
use Rattle.table_core.specs.declared.job_reply.JobReply.TheVariants as job_reply
use Rattle.table_history.specs.Answers.{Answers, May, is_completed}
use Rattle.table_history.specs.Histories.{History, own}
use Rattle.table_history.specs.Instants.{begun, completed_instants, completions, instant_of}
use Rattle.table_history.specs.JobLaw.{Work, IsLegal, Phase, Fresh, Drawn, Writes, Committed, Owes, Allows, next_phase, phase}
use Rattle.table_history.specs.Concerns.{HasPlaced, Stands}
use Rattle.table_history.specs.Tables.{Instant, Table, fresh}
use Rattle.table_history.specs.Targets.{AreTargets, group_cmp, is_asked, is_live, target_of_group}
use Rattle.table_history.specs.Times.{insert_time}
use Rattle.table_history.specs.declared.entry.Entry.{Entry}
use Rattle.table_history.specs.declared.job.Job.{Job}
use Rattle.table_history.specs.declared.reply.Reply.{Reply}
use Rattle.table_history.specs.declared.reply.Reply.TheVariants as reply
use Rattle.table_history.specs.declared.step.PartitionSlots.{PartitionSlots}
use Rattle.table_history.specs.declared.step.Step.{Step}
use Rattle.table_history.specs.declared.step.Step.TheVariants.{Begin, Enter, Append, Finish, Pin, Unpin, Read, Abandon}
use Rattle.table_history.proofs.Bounds.{same_number}
use Rattle.table_history.proofs.OwnEntries.{linked}
use Rattle.table_images.proofs.WhereTo.{itself_group}
use Rattle.table_images.proofs.SameLogs.{IsNoAppend, entry}
use Rattle.table_jobs.specs.Replies.{EndsAs, IsWriterReply}
use Rattle.upsert_writer.specs.Answers.{AnswersBatch}
use Rattle.upsert_writer.specs.BatchWrites.{is_in_group, batch_in, partition_of}
use Rattle.upsert_writer.specs.Batches.{Refusal}
use Rattle.upsert_writer.specs.Blocks.{BlockForm, IsBlockOf}
use Rattle.upsert_writer.specs.Slots.{AreSlotsOf, each_slot, write_slot}
use Rattle.upsert_writer.specs.WriterSteps.{IsWriterStep, WritesBatch, targets_given}
use Rattle.upsert_writer.proofs.WholeBatches.{all_go_there}
use Rattle.table_answers.specs.InTurn.{IsMadeBy}
use Rattle.table_answers.specs.InstantWrites.{WritesGroups, block_writes, instant_writes, writes_of}
use Rattle.table_answers.proofs.Closed.{or_true}
use Rattle.table_answers.proofs.Made.{AllBy, own_made}
use Rattle.table_answers.proofs.GroupFolds.{one_live}
use Rattle.table_answers.proofs.LiveSlices.{ArePlain, appending, instants_plain}
use Rattle.table_answers.proofs.WriteBlocks.{block_of_writes}
use Rattle.table_answers.proofs.Writes.{fresh_opened, one_block_more, same_writes}
use Rattle.table_props.specs.PropsTexts.{Told as Properties}

-- ---- lists

take_none : {X : Type 0} (xs : List X) → take 0 xs ≡ []
take_none [] = refl
take_none (x ∷ xs) = refl

take_one_more : {X : Type 0} (xs : List X) (n : ℕ) (x : X) → slice_get xs n ≡ Some x → take (n + 1) xs ≡ take n xs ++ x ∷ []
take_one_more xs n x is = ap (λ m. take m xs) (next n) ∙ by xs n is
  where
    next : (n : ℕ) → n + 1 ≡ suc n
    next n = omega arith

    none_some : None ≡ Some x → ⊥
    none_some e = cc

    by : (xs : List _) (n : ℕ) → slice_get xs n ≡ Some x → take (suc n) xs ≡ take n xs ++ x ∷ []
    by [] n is = absurd (none_some is)
    by (y ∷ xs) zero is = let there : Some y ≡ Some x = is in let same : y ≡ x = cc in ap (λ zs. y ∷ zs) (take_none xs) ∙ ap (λ z. z ∷ []) same
    by (y ∷ xs) (suc n) is = ap (λ zs. y ∷ zs) (by xs n is)

-- ---- how far a writer is

module _ (form : BlockForm) (props : Properties) (batch : List Write) where
  abbrev A : Table
  A = fresh props

  abbrev batch_to : ℕ → List Target → List Write
  batch_to t targets = flat_map (λ s. batch_in t s.group batch) targets

  pub record IsWriting (H : History) (es : List Entry) (t : ℕ) (targets : List Target) (blocks : ℕ) : Type 0 where
    pub given : targets_given es ≡ targets
    pub slots : List PartitionSlots
    pub asked : AreSlotsOf batch slots
    pub are : AreTargets (fresh props) slots targets
    pub wrote : writes_of form (fresh props) H t ≡ batch_to t (take blocks targets)

  -- completed, with these writes
  pub record IsWritten (H : History) (t : ℕ) : Type 0 where
    pub wrote : WritesGroups batch t (fresh props) (writes_of form (fresh props) H t)
    pub completed : is_completed (fresh props) H t ≡ true

  abbrev Wrote : History → List Entry → Phase → Type 0
  Wrote H es (Drawn t) = writes_of form A H t ≡ []
  Wrote H es (Writes t targets blocks) = IsWriting H es t targets blocks
  Wrote H es (Committed t) = IsWritten H t
  Wrote H es _ = Unit {0}

  -- ---- one entry

  module _ (H : History) (es : List Entry) (j : Job) (plain : (t : ℕ) → ArePlain A (instant_of A H t)) where
    abbrev same_as : (s : Step) (r : Reply) → IsNoAppend s → May A H j s → Answers A H s r → (t : ℕ) → writes_of form A (entry j s r ∷ H) t ≡ writes_of form A H t
    same_as s r other may answers t = same_writes form A H (fresh_opened props) j t (completions A H) plain s r other may answers

    drawn_none : (t : ℕ) → writes_of form A (entry j Begin (reply.Began t) ∷ H) t ≡ []
    drawn_none t = ap (λ b. instant_writes form (cond b (Some (begun j (completions A H))) (instant_of A H t))) (same_number t t refl)

    entered_then : (u t : ℕ) (slots : List PartitionSlots) (targets : List Target) → u ≡ t → AreSlotsOf batch slots → May A H j (Enter u slots) → AreTargets A slots targets
        → writes_of form A H t ≡ [] → IsWriting (entry j (Enter u slots) (reply.Entered targets) ∷ H) (entry j (Enter u slots) (reply.Entered targets) ∷ es) t targets 0
    entered_then u t slots targets same asked may are none = record {
      given = refl;
      slots = slots;
      asked = asked;
      are = are;
      wrote = same_as (Enter u slots) (reply.Entered targets) tt may are t ∙ none ∙ sym (ap (batch_to t) (take_none targets));
    }

    some_is : (o : Option Target) (s : Target) (P : Target → Type 0) → o ≡ Some s → IsSomeAnd o P → P s
    some_is o s P is has = let here : IsSomeAnd (Some s) P = subst (λ (o : Option Target). IsSomeAnd o P) is has in here

    targets_are : (t : ℕ) (targets : List Target) (blocks : ℕ) (i : Instant) (o : Option Instant) → o ≡ Some i
        → IsSomeAnd o (λ i. (i.owner ≡ Some j) × ((i.state ≡ state.Inflight) × (i.targets ≡ targets) × HasPlaced blocks i)) → i.targets ≡ targets
    targets_are t targets blocks i o is stands =
        let here : IsSomeAnd (Some i) (λ i. (i.owner ≡ Some j) × ((i.state ≡ state.Inflight) × (i.targets ≡ targets) × HasPlaced blocks i)) =
        subst (λ (o : Option Instant). IsSomeAnd o (λ i. (i.owner ≡ Some j) × ((i.state ≡ state.Inflight) × (i.targets ≡ targets) × HasPlaced blocks i))) is stands in
        here.1.1

    placed_then : (u t : ℕ) (targets : List Target) (blocks target writes version at : ℕ) (bytes : List ℕ) → u ≡ t → target ≡ blocks → Stands A H j (Writes t targets blocks)
        → May A H j (Append u target writes bytes) → IsSomeAnd (slice_get (targets_given es) target) (λ s. IsBlockOf form batch u s writes bytes) → IsWriting H es t targets blocks
        → IsWriting (entry j (Append u target writes bytes) (reply.Placed version at) ∷ H) (entry j (Append u target writes bytes) (reply.Placed version at) ∷ es) t targets (blocks + 1)
    placed_then u t targets blocks target writes version at bytes same next stands may has was =
        let to = appending A H j u target (plain u) may in
        let s : Target = to.0 in
        let is_targets : to.1.i.targets ≡ targets = targets_are t targets blocks to.1.i (instant_of A H t) (ap (instant_of A H) (sym same) ∙ to.1.is) stands in
        let there : slice_get targets target ≡ Some s = ap (λ ts. slice_get ts target) (sym is_targets) ∙ to.1.to in
        let one = some_is (slice_get (targets_given es) target) s (λ s. IsBlockOf form batch u s writes bytes) (ap (λ ts. slice_get ts target) was.given ∙ there) has in
        let block : block_writes form (Some s) bytes ≡ batch_in t s.group batch = block_of_writes form s u writes bytes (batch_in u s.group batch) one ∙ ap (λ n. batch_in n s.group batch) same in
        record {
          given = was.given;
          slots = was.slots;
          asked = was.asked;
          are = was.are;
          wrote = one_block_more form A H j u target writes version at bytes s to.1 t
              ∙ ap (λ ws. ws ++ cond (u == t) (block_writes form (Some s) bytes) []) was.wrote
              ∙ ap (λ b. batch_to t (take blocks targets) ++ cond b (block_writes form (Some s) bytes) []) (same_number u t same)
              ∙ ap (λ ws. batch_to t (take blocks targets) ++ ws) (block ∙ sym (append-nil (batch_in t s.group batch)))
              ∙ sym (flat_map-append (λ (s : Target). batch_in t s.group batch) (take blocks targets) (s ∷ []))
              ∙ sym (ap (batch_to t) (take_one_more targets blocks s (ap (slice_get targets) (sym next) ∙ there)));
        }

    of_groups : (t : ℕ) (gs : List GroupRef) → batch_to t (map target_of_group gs) ≡ flat_map (λ group. batch_in t group batch) gs
    of_groups t [] = refl
    of_groups t (g ∷ gs) = ap (λ ws. batch_in t g batch ++ ws) (of_groups t gs)

    among_inserted : (v : ℕ) (us : List ℕ) → list_any (λ w. w == v) (insert_time v us) ≡ true
    among_inserted v [] = ap (λ b. b || false) (same_number v v refl)
    among_inserted v (u ∷ us) = by (nat_lt u v) (among_inserted v us)
      where
        by : (b : Bool) → list_any (λ w. w == v) (insert_time v us) ≡ true → list_any (λ w. w == v) (cond b (v ∷ u ∷ us) (u ∷ insert_time v us)) ≡ true
        by true rest = ap (λ c. c || list_any (λ w. w == v) (u ∷ us)) (same_number v v refl)
        by false rest = or_true (u == v) (list_any (λ w. w == v) (insert_time v us)) rest

    finished_then : (u t v : ℕ) (checkpoint : _) (targets : List Target) (blocks : ℕ) → v ≡ u → u ≡ t → blocks ≡ length targets → May A H j (Finish u checkpoint) → IsWriting H es t targets blocks
        → IsWritten (entry j (Finish u checkpoint) (reply.Completed v) ∷ H) v
    finished_then u t v checkpoint targets blocks answers same count may was = record {
      wrote = record {
        slots = was.slots;
        asked = was.asked;
        groups = was.are.groups;
        live = was.are.live;
        are = same_as (Finish u checkpoint) (reply.Completed v) tt may answers v ∙ ap (writes_of form A H) (answers ∙ same) ∙ was.wrote
            ∙ ap (batch_to t) (take_all blocks targets (let all = count in omega (arith, all)) ∙ was.are.are) ∙ of_groups t was.are.groups
            ∙ ap (λ n. flat_map (λ group. batch_in n group batch) was.are.groups) (sym (answers ∙ same));
      };
      completed = among_inserted v (completed_instants A H);
    }

    wrote_then : (work : Work) (s : Step) (r : Reply) (p : Phase) → IsWriterStep form batch (targets_given es) s → May A H j s → Answers A H s r → Allows work j p s → Stands A H j p → Wrote H es p
        → Wrote (entry j s r ∷ H) (entry j s r ∷ es) (next_phase p s r)
    wrote_then work (Pin asked bases_only) r p takes may answers allowed stands was = absurd takes
    wrote_then work (Unpin pin) r p takes may answers allowed stands was = absurd takes
    wrote_then work (Read from number_of offset len) r p takes may answers allowed stands was = absurd takes
    wrote_then work Begin (reply.Began t) Fresh takes may answers allowed stands was = drawn_none t
    wrote_then work Begin _ Fresh takes may answers allowed stands was = tt
    wrote_then work (Enter u slots) (reply.Entered targets) (Drawn t) takes may answers allowed stands was = entered_then u t slots targets allowed.0 takes may answers was
    wrote_then work (Enter u slots) _ (Drawn t) takes may answers allowed stands was = tt
    wrote_then work (Abandon u) r (Drawn t) takes may answers allowed stands was = tt
    wrote_then work (Append u target writes bytes) (reply.Placed version at) (Writes t targets blocks) takes may answers allowed stands was =
        placed_then u t targets blocks target writes version at bytes allowed.0 allowed.1 stands may takes was
    wrote_then work (Append u target writes bytes) _ (Writes t targets blocks) takes may answers allowed stands was = tt
    wrote_then work (Finish u checkpoint) (reply.Completed v) (Writes t targets blocks) takes may answers allowed stands was =
        finished_then u t v checkpoint targets blocks answers allowed.0 allowed.1 may was
    wrote_then work (Finish u checkpoint) _ (Writes t targets blocks) takes may answers allowed stands was = tt
    wrote_then work (Abandon u) r (Writes t targets blocks) takes may answers allowed stands was = tt
    wrote_then work (Abandon u) r (Owes t) takes may answers allowed stands was = tt
    wrote_then work s r p takes may answers allowed stands was = absurd allowed

-- ---- a writer's entries

pub writer_wrote : (work : Work) (form : BlockForm) (props : Properties) (batch : List Write) (before : History) (job : Job) (es : List Entry) → own job before ≡ [] → AllBy job es → WritesBatch form batch es
    → IsLegal work (fresh props) (es ++ before) → Wrote form props batch (es ++ before) es (phase es)
writer_wrote work form props batch before job [] first all wrote legal = tt
writer_wrote work form props batch before job (e ∷ es) first all wrote legal =
    let mine : own e.job (es ++ before) ≡ es = ap (λ j. own j (es ++ before)) all.0 ∙ own_made job before es all.1 first in
    wrote_then form props batch (es ++ before) es e.job (instants_plain work props (es ++ before) legal.0) work e.step e.reply (phase es) wrote.0 legal.1.may legal.1.answers
    (subst (λ xs. Allows work e.job (phase xs) e.step) mine legal.2)
    (subst (λ xs. Stands (fresh props) (es ++ before) e.job (phase xs)) mine (linked work (fresh props) (es ++ before) (fresh_opened props) legal.0 e.job))
    (writer_wrote work form props batch before job es first all.1 wrote.1 legal.0)

committed_end : (form : BlockForm) (props : Properties) (batch : List Write) (H : History) (es : List Entry) (t : ℕ) (p : Phase) → EndsAs p (job_reply.Committed t) → Wrote form props batch H es p → IsWritten form props batch H t
committed_end form props batch H es t (Committed u) ends was = subst (IsWritten form props batch H) (same u ends) was
  where
    same : (u : ℕ) → job_reply.Committed t ≡ job_reply.Committed u → u ≡ t
    same u e = cc
committed_end form props batch H es t Fresh ends was = absurd (other ends)
  where
    other : job_reply.Committed t ≡ job_reply.Memory → ⊥
    other e = cc
committed_end form props batch H es t p ends was = absurd ends

pub batch_written : (work : Work) (form : BlockForm) (props : Properties) (batch : List Write) (before after : History) (job : Job) (mine : List Entry) (t : ℕ) → IsMadeBy job before after mine → IsLegal work (fresh props) after
    → WritesBatch form batch mine → IsWriterReply mine (job_reply.Committed t) → IsWritten form props batch after t
batch_written work form props batch before after job mine t made legal wrote reply_is =
    subst (λ H. IsWritten form props batch H t) (sym made.are)
    (committed_end form props batch (mine ++ before) mine t (phase mine) reply_is.ended
    (writer_wrote work form props batch before job mine made.first made.all wrote (subst (IsLegal work (fresh props)) made.are legal)))

-- of rows or keys that are committed none was refused
pub given_written : (work : Work) (form : BlockForm) (props : Properties) (found : Result (List Write) Refusal) (before after : History) (job : Job) (mine : List Entry) (t : ℕ) → IsMadeBy job before after mine
    → IsLegal work (fresh props) after → AnswersBatch form found mine (job_reply.Committed t)
    → IsOkAnd found (λ writes. WritesGroups writes t (fresh props) (writes_of form (fresh props) after t))
given_written work form props (Ok writes) before after job mine t made legal answers =
    (batch_written work form props writes before after job mine t made legal answers.wrote answers.answers).wrote
given_written work form props (Err refusal) before after job mine t made legal answers = absurd (refused answers.1)
  where
    refused : (job_reply.Committed t ≡ job_reply.BadRow refusal.place refusal.cause) ⊎ (job_reply.Committed t ≡ job_reply.Memory) → ⊥
    refused (inl e) = cc
    refused (inr e) = cc

-- ---- where all writes lie in one group

not_both : true ≡ false → ⊥
not_both e = cc

from_both : (a b : Bool) → (a ≡ true → b ≡ true) → (b ≡ true → a ≡ true) → a ≡ b
from_both true b to from = sym (to refl)
from_both false true to from = from refl
from_both false false to from = refl

-- a partition's slot is the group's
abbrev is_at : GroupRef → (List ℕ × ℕ) → Bool
is_at group at = bytes_eq at.0 group.partition && has_slot group at.1

any_append : {X : Type 0} (p : X → Bool) (xs ys : List X) → list_any p (xs ++ ys) ≡ (list_any p xs || list_any p ys)
any_append p [] ys = refl
any_append p (x ∷ xs) ys = ap (λ b. p x || b) (any_append p xs ys) ∙ along (p x) (list_any p xs) (list_any p ys)
  where
    along : (a b c : Bool) → (a || (b || c)) ≡ ((a || b) || c)
    along true b c = refl
    along false b c = refl

any_each : (g : GroupRef) (partition slots : List ℕ) → list_any (is_at g) (map (λ slot. (partition, slot)) slots) ≡ (bytes_eq partition g.partition && list_any (λ slot. has_slot g slot) slots)
any_each g partition [] = none (bytes_eq partition g.partition)
  where
    none : (a : Bool) → false ≡ (a && false)
    none true = refl
    none false = refl
any_each g partition (slot ∷ slots) = ap (λ b. is_at g (partition, slot) || b) (any_each g partition slots) ∙ over (bytes_eq partition g.partition) (has_slot g slot) _
  where
    over : (a b c : Bool) → ((a && b) || (a && c)) ≡ (a && (b || c))
    over true b c = refl
    over false b c = refl

asked_each : (slots : List PartitionSlots) (g : GroupRef) → list_any (is_at g) (flat_map each_slot slots) ≡ is_asked slots g
asked_each [] g = refl
asked_each (asked ∷ slots) g =
    any_append (is_at g) (each_slot asked) (flat_map each_slot slots)
    ∙ ap (λ b. b || list_any (is_at g) (flat_map each_slot slots)) (any_each g asked.partition asked.slots)
    ∙ ap (λ b. (bytes_eq asked.partition g.partition && list_any (λ slot. has_slot g slot) asked.slots) || b) (asked_each slots g)

writes_each : (batch : List Write) (g : GroupRef) → list_any (is_at g) (map write_slot batch) ≡ list_any (is_in_group g) batch
writes_each [] g = refl
writes_each (w ∷ batch) g = ap (λ b. is_at g (write_slot w) || b) (writes_each batch g) ∙ ap (λ b. b || list_any (is_in_group g) batch) (along (bytes_eq (partition_of w) g.partition) _ _)
  where
    along : (a b c : Bool) → (a && (b && c)) ≡ ((a && b) && c)
    along true b c = refl
    along false b c = refl

-- the groups that are asked for are those that a write lies in
asked_writes : (batch : List Write) (slots : List PartitionSlots) (g : GroupRef) → AreSlotsOf batch slots → is_asked slots g ≡ list_any (is_in_group g) batch
asked_writes batch slots g asked = sym (asked_each slots g) ∙ ap (list_any (is_at g)) asked ∙ writes_each batch g

some_write : (A : Table) (g h : GroupRef) (batch : List Write) → IsBuckets A.props.buckets → is_live A g ≡ true → is_live A h ≡ true → AllByRecursion (λ w. is_in_group g w ≡ true) batch
    → list_any (is_in_group h) batch ≡ true → h ≡ g
some_write A g h [] fit live_g live_h all any = cc
some_write A g h (w ∷ batch) fit live_g live_h all any = by (is_in_group h w) refl any (some_write A g h batch fit live_g live_h all.1)
  where
    by : (b : Bool) → is_in_group h w ≡ b → (b || list_any (is_in_group h) batch) ≡ true → (list_any (is_in_group h) batch ≡ true → h ≡ g) → h ≡ g
    by true here any later = one_live A h g (key_of w) fit live_h live_g here all.0
    by false other any later = later any

single : (gs : List GroupRef) (g : GroupRef) → ((h : GroupRef) → is_among gs h ≡ is_same_group h g) → IsStrictlySortedBy group_cmp gs → gs ≡ g ∷ []
single [] g are sorted = absurd (not_both (sym (are g ∙ same-itself g)))
single (x ∷ []) g are sorted = ap (λ y. y ∷ []) (same-is x g (sym (are x) ∙ ap (λ b. b || false) (same-itself x)))
single (x ∷ (y ∷ rest)) g are sorted =
    let first : x ≡ g = same-is x g (sym (are x) ∙ ap (λ b. b || is_among (y ∷ rest) x) (same-itself x)) in
    let second : y ≡ g = same-is y g (sym (are y) ∙ ap (λ b. is_same_group y x || (b || is_among rest y)) (same-itself y) ∙ or_true' (is_same_group y x)) in
    absurd (not_less g (ap (λ z. group_cmp z g) (sym first) ∙ ap (group_cmp x) (sym second) ∙ (sorted_head group_cmp x (y ∷ rest) sorted).0))
  where
    or_true' : (b : Bool) → (b || true) ≡ true
    or_true' true = refl
    or_true' false = refl

    not_less : (g : GroupRef) → group_cmp g g ≡ Less → ⊥
    not_less g less = not_both (sym (itself_group g) ∙ sym (same_group g g) ∙ ap is_eq less)

none_in : (t : ℕ) (gs : List GroupRef) → flat_map (λ group. batch_in t group []) gs ≡ []
none_in t [] = refl
none_in t (g ∷ gs) = none_in t gs

all_in_one : (A : Table) (batch : List Write) (t : ℕ) (g : GroupRef) (writes : List Write) → IsBuckets A.props.buckets → is_live A g ≡ true → AllByRecursion (λ w. is_in_group g w ≡ true) batch
    → WritesGroups batch t A writes → writes ≡ writes_from t 0 batch
all_in_one A [] t g writes fit live all wrote = wrote.are ∙ none_in t wrote.groups
all_in_one A (w ∷ batch) t g writes fit live all wrote =
    let groups = single wrote.groups g (λ h. from_both _ _ (to h) (from h)) wrote.live.order in
    wrote.are ∙ ap (λ gs. flat_map (λ group. batch_in t group (w ∷ batch)) gs) groups ∙ append-nil (batch_in t g (w ∷ batch))
    ∙ all_go_there t 0 g (w ∷ batch) all
  where
    both : (a b : Bool) → (a && b) ≡ true → (a ≡ true) × (b ≡ true)
    both true b h = (refl, h)
    both false b h = (h, cc)

    to : (h : GroupRef) → is_among wrote.groups h ≡ true → is_same_group h g ≡ true
    to h among =
        let tests = both (is_live A h) (is_asked wrote.slots h) (sym (wrote.live.are h) ∙ among) in
        let same = some_write A g h (w ∷ batch) fit live tests.0 all (sym (asked_writes (w ∷ batch) wrote.slots h wrote.asked) ∙ tests.1) in
        ap (λ x. is_same_group x g) same ∙ same-itself g

    from : (h : GroupRef) → is_same_group h g ≡ true → is_among wrote.groups h ≡ true
    from h same =
        let is = same-is h g same in
        wrote.live.are h ∙ ap (λ x. is_live A x && is_asked wrote.slots x) is ∙ ap (λ b. b && is_asked wrote.slots g) live
        ∙ asked_writes (w ∷ batch) wrote.slots g wrote.asked ∙ ap (λ b. b || list_any (is_in_group g) batch) all.0

pub whole_batch : (work : Work) (form : BlockForm) (props : Properties) (batch : List Write) (before after : History) (job : Job) (mine : List Entry) (t : ℕ) (group : GroupRef) → IsBuckets props.buckets
    → IsMadeBy job before after mine → IsLegal work (fresh props) after → WritesBatch form batch mine → IsWriterReply mine (job_reply.Committed t)
    → is_live (fresh props) group ≡ true → AllByRecursion (λ w. is_in_group group w ≡ true) batch
    → writes_of form (fresh props) after t ≡ writes_from t 0 batch
whole_batch work form props batch before after job mine t group fit made legal wrote reply_is live all =
    all_in_one (fresh props) batch t group _ fit live all (batch_written work form props batch before after job mine t made legal wrote reply_is).wrote
