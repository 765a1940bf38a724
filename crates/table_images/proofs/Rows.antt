-- All parts at one kind of step: steps that leave the logs.
use Rattle.std.proofs.Common.{◌≡◌, inr, ◌<◌, ◌≤◌, ◌+◌, ◌^◌, ℕ, true, false, List, [], ◌∷◌, Option, Some, None, Ok, refl, sym, ap, ◌∙◌, subst, arith, lit≤}
use Rattle.std.specs.Prelude.{IfSome}
use Rattle.std.specs.Option.{option_map_or}
use Rattle.std.specs.List.{All, AllByRecursion}
use Rattle.std.specs.FinMap.{get, insert}
use Rattle.hudi_base.specs.Files.{FileMap}
use Rattle.hudi_base.specs.InstantTime.{IsTime}
use Rattle.hudi_base.specs.declared.file_group.GroupRef.{GroupRef}
use Rattle.hudi_base.specs.declared.file_group.Target.{Target}
use Rattle.commit_meta.specs.Metadata.{meta_of}
use Rattle.commit_meta.specs.Texts.{meta_bytes}
use Rattle.commit_meta.specs.declared.meta.Meta.TheVariants as meta
use Rattle.key_index.specs.Tiling.{IsBuckets}
use Rattle.key_index.proofs.FirstTiles.{first-is}
use Rattle.meta_parts.specs.Parts.{IsTarget}
use Rattle.file_names.specs.FileName.{name_of, kind_of}
use Rattle.file_names.specs.declared.file_name.Action.TheVariants.{Delta}
use Rattle.file_names.specs.declared.file_name.FileName.TheVariants as file
use Rattle.file_names.specs.declared.file_name.State.{State}
use Rattle.file_names.specs.declared.file_name.State.TheVariants.{Requested, Inflight, Completed}
use Rattle.file_names.proofs.NameTexts.{name_of_injective}
use Rattle.table_forms.specs.NameForms.{IsPartitionPath}
use Rattle.table_history.specs.After.{after_history, greatest_in}
use Rattle.table_history.specs.Concerns.{IsOpened}
use Rattle.table_history.specs.Histories.{History}
use Rattle.table_history.specs.Instants.{instant_of, completions, begun, entered, completed}
use Rattle.table_history.specs.Metadata.{metadata, writes_among, written, written_by}
use Rattle.table_history.specs.Tables.{Table, Instant, Block}
use Rattle.table_history.specs.Targets.{AreTargets}
use Rattle.table_history.specs.Times.{greatest_time}
use Rattle.table_history.specs.declared.entry.Entry.{Entry}
use Rattle.table_history.specs.declared.job.Job.{Job}
use Rattle.table_history.specs.declared.reply.Reply.{Reply}
use Rattle.table_history.specs.declared.reply.Reply.TheVariants as reply
use Rattle.table_history.specs.declared.step.PartitionSlots.{PartitionSlots}
use Rattle.table_history.specs.declared.step.Step.{Step}
use Rattle.table_history.specs.declared.step.Step.TheVariants.{Begin, Enter, Finish}
use Rattle.table_history.proofs.Bounds.{undrawn}
use Rattle.table_images.specs.Chains.{ChainsHold, IsChain, blocks_of_chain}
use Rattle.table_images.specs.Kept.{Kept, OwnedInstants, IsOwnedWrite, IsCurrent}
use Rattle.table_images.specs.Timeline.{has_reached, timeline_name}
use Rattle.table_images.proofs.Advances.{Advances, IsNextState, IsNoMore, IsSameStage, KeepsLine, stage, line_weaker, advances_begun, advances_changed, greatest_was}
use Rattle.table_images.proofs.NumberCells.{earliest_stays, stays_kept, stays_advanced, starts_kept, starts_advanced, bounded_still, bases_still}
use Rattle.table_images.proofs.ChainCells.{Holds, HoldsHere, chain_left, chain_bounded, of_chain, to_chain, holds_still, holds_advanced, here_begun, here_entered, here_completed}
use Rattle.table_images.proofs.Frame.{get_apart}
use Rattle.table_images.proofs.Lines.{at_after, greatest_rises, none_some}
use Rattle.table_images.proofs.MetadataBack.{empty_reads, claims_read, delta_reads}
use Rattle.table_images.proofs.OwnedCells.{owned_still, owned_advanced, owned_more, owned-begun, owned-entered}
use Rattle.table_images.proofs.PropertiesCells.{properties_still, properties_marked}
use Rattle.table_images.proofs.SameLogs.{SameLogs, LeavesLogs, IsNoAppend, same_logs, entry}
use Rattle.table_images.proofs.WholeCells.{whole_still}
use Rattle.table_images.proofs.KnownCells.{known_still}
use Rattle.table_images.proofs.OpenLogCells.{logs_still}
use Rattle.table_images.proofs.VersionCells.{versions_still}
use Rattle.table_images.proofs.TimelineCells.{timeline_still, timeline_made}

pub completions_rise : (A : Table) (H : History) (e : Entry) → completions A H ≤ completions A (e ∷ H)
completions_rise A H e = by_reply e.reply refl
  where
    by_reply : (r : Reply) → e.reply ≡ r → completions A H ≤ completions A (e ∷ H)
    by_reply (reply.Completed t) is = rw is (omega arith)
    by_reply r is = rw is (omega arith)

-- ---- a step that does nothing to the files

pub row_quiet : (A : Table) (H : History) (image : FileMap) (j : Job) (s : Step) (r : Reply) → IsNoAppend s → KeepsLine IsNoMore A H (entry j s r ∷ H) → Kept A image H → Kept A image (entry j s r ∷ H)
unfolding ChainsHold
row_quiet A H image j s r other line kept = record {
  properties = properties_still A H K image image refl kept.properties;
  timeline = timeline_still A H K image image stages (λ t action st time. refl) kept;
  whole = whole_still A H K image image leaves kept;
  tiles = kept.tiles;
  chains = λ group named.
      let was = kept.chains group named in
      (was.0, chain_left A H K image image group was.0 leaves was.1, to_chain A K group was.0 (blocks_of_chain was.0) refl (holds_still A H K group (blocks_of_chain was.0) line (of_chain A H group was.0 was.2)));
  numbers = record {
    logs = bounded_still A H K image image leaves kept;
    bases = bases_still A H K image image leaves kept;
    earliest = earliest_stays A H K (stays_kept A H K stages) kept.numbers.earliest;
    starts = starts_kept A H K stages (completions_rise A H (entry j s r)) kept.numbers.starts;
  };
  known = known_still A H K image image leaves kept;
  owned = owned_still A H K line leaves.greatest kept.owned;
  logs = logs_still A H K image image leaves kept;
  versions = versions_still A H K image image leaves kept;
}
  where
    K : History
    K = entry j s r ∷ H

    leaves : LeavesLogs A H (entry j s r ∷ H) image image
    leaves = record { logs = same_logs A H j s r other; files = λ of named kind. refl; more = λ name bytes is. is; greatest = greatest_rises A H (entry j s r) }

    stages : KeepsLine IsSameStage A H (entry j s r ∷ H)
    stages = line_weaker IsNoMore IsSameStage stage A H (entry j s r ∷ H) line

-- ---- a step that makes a file of the timeline

abbrev pub with_marked : Table → FileMap → ℕ → State → List ℕ → FileMap
with_marked A image t s bytes = insert image (timeline_name A t Delta s) bytes

leaves_made : (A : Table) (H K : History) (image : FileMap) (t : ℕ) (s : State) (bytes : List ℕ) → IsTime t → get image (timeline_name A t Delta s) ≡ None → SameLogs A H K
    → greatest_in (after_history A H).instants ≤ greatest_in (after_history A K).instants → LeavesLogs A H K image (with_marked A image t s bytes)
leaves_made A H K image t s bytes time absent same le = record {
  logs = same;
  files = λ of named kind. get_apart image (timeline_name A t Delta s) bytes (name_of A.props.name of) (λ one. kind (ap kind_of (name_of_injective A.props.name of (file.Instant t Delta s) named time one)));
  more = λ name content is. get_apart image (timeline_name A t Delta s) bytes name (λ one. none_some (sym absent ∙ ap (get image) (sym one) ∙ is)) ∙ is;
  greatest = le;
}

row_advanced : (A : Table) (H : History) (image : FileMap) (j : Job) (st : Step) (r : Reply) (t : ℕ) (s : State) (bytes : List ℕ) (found : Instant) → IsNoAppend st → IsTime t
    → meta_of A.props.name Delta s bytes ≡ Ok (metadata found s)
    → get image (timeline_name A t Delta s) ≡ None → Advances A H (entry j st r ∷ H) t s found → found.start ≤ completions A (entry j st r ∷ H)
    → ((job : Job) → found.owner ≡ Some job → IsOwnedWrite (after_history A (entry j st r ∷ H)) t found)
    → ((group : GroupRef) (chain : FileMap) → IsChain image (after_history A H) group chain → Holds A H group (blocks_of_chain chain) → HoldsHere A H group (blocks_of_chain chain) t found)
    → Kept A image H → Kept A (with_marked A image t s bytes) (entry j st r ∷ H)
unfolding ChainsHold
row_advanced A H image j st r t s bytes found other time reads absent advance start owner here kept = record {
  properties = properties_still A H K image (with_marked A image t s bytes) (properties_marked A image t s bytes time) kept.properties;
  timeline = timeline_made A H K image t s bytes found time advance reads kept;
  whole = whole_still A H K image (with_marked A image t s bytes) leaves kept;
  tiles = kept.tiles;
  chains = λ group named.
      let was = kept.chains group named in
      let holds = of_chain A H group was.0 was.2 in (
        was.0,
        chain_left A H K image (with_marked A image t s bytes) group was.0 leaves was.1,
        to_chain A K group was.0 (blocks_of_chain was.0) refl (holds_advanced A H K group (blocks_of_chain was.0) t s found advance (here group was.0 was.1 holds) holds),
      );
  numbers = record {
    logs = bounded_still A H K image (with_marked A image t s bytes) leaves kept;
    bases = bases_still A H K image (with_marked A image t s bytes) leaves kept;
    earliest = earliest_stays A H K (stays_advanced A H K t s found advance) kept.numbers.earliest;
    starts = starts_advanced A H K t s found advance (completions_rise A H (entry j st r)) start kept.numbers.starts;
  };
  known = known_still A H K image (with_marked A image t s bytes) leaves kept;
  owned = owned_advanced A H K t s found advance leaves.greatest owner kept.owned;
  logs = logs_still A H K image (with_marked A image t s bytes) leaves kept;
  versions = versions_still A H K image (with_marked A image t s bytes) leaves kept;
}
  where
    K : History
    K = entry j st r ∷ H

    leaves : LeavesLogs A H (entry j st r ∷ H) image (with_marked A image t s bytes)
    leaves = leaves_made A H (entry j st r ∷ H) image t s bytes time absent (same_logs A H j st r other) (greatest_rises A H (entry j st r))

pub row_begun : (A : Table) (H : History) (image : FileMap) (j : Job) (t : ℕ) → IsOpened A → greatest_in A.instants ≤ A.last → greatest_time A H < t → IsTime t
    → get image (timeline_name A t Delta Requested) ≡ None → Kept A image H → Kept A (with_marked A image t Requested (meta_bytes A.props.name meta.Empty)) (entry j Begin (reply.Began t) ∷ H)
row_begun A H image j t opened last above time absent kept =
    row_advanced A H image j Begin (reply.Began t) t Requested (meta_bytes A.props.name meta.Empty) (begun j (completions A H)) tt time (empty_reads A.props.name) absent (advances_begun A H (entry j Begin (reply.Began t)) t j (undrawn A H opened t above) (λ u. refl))
    (completions_rise A H (entry j Begin (reply.Began t))) (λ job owner. owned-begun (after_history A (entry j Begin (reply.Began t) ∷ H)) t j (completions A H) time)
    (λ group chain is holds. here_begun A H group (blocks_of_chain chain) t (begun j (completions A H)) (greatest_in (after_history A H).instants) higher (chain_bounded A H image group chain kept is) refl refl) kept
  where
    higher : greatest_in (after_history A H).instants < t
    higher = let le = greatest_was A H opened last in omega (arith, le, above)

next_of : (from from_is to : State) → from ≡ from_is → IsNextState from_is to → IsNextState from to
next_of from from_is to is next = subst (λ s. IsNextState s to) (sym is) next

start_of : (A : Table) (H : History) (image : FileMap) (t : ℕ) (i : Instant) (e : Entry) → Kept A image H → instant_of A H t ≡ Some i → i.start ≤ completions A (e ∷ H)
start_of A H image t i e kept is =
    let old = kept.numbers.starts t i (at_after A H t ∙ is) in
    let rise = completions_rise A H e in
    omega (arith, old, rise)

targets_after : (A : Table) (K : History) (slots : List PartitionSlots) (targets : List Target) → AreTargets A slots targets → AreTargets (after_history A K) slots targets
targets_after A K slots targets are = record { groups = are.groups; live = record { are = are.live.are; order = are.live.order }; are = are.are }

-- what an instant says of its earlier states stays
said_entered : (i : Instant) (targets : List Target) (r : State) → has_reached Requested r ≡ true → metadata (entered targets i) r ≡ metadata i r
said_entered i targets Requested reached = refl
said_entered i targets Inflight reached = let wrong : false ≡ true = reached in absurd cc
said_entered i targets Completed reached = let wrong : false ≡ true = reached in absurd cc

said_completed : (i : Instant) (number : ℕ) (checkpoint : Option ℕ) (r : State) → has_reached Inflight r ≡ true → metadata (completed number checkpoint i) r ≡ metadata i r
said_completed i number checkpoint Requested reached = refl
said_completed i number checkpoint Inflight reached = refl
said_completed i number checkpoint Completed reached = let wrong : false ≡ true = reached in absurd cc

written_at : (A : Table) (H : History) (t : ℕ) (i : Instant) → instant_of A H t ≡ Some i → written_by A H t ≡ written (λ target. writes_among target i.blocks) 0 i.targets
written_at A H t i is = ap (λ (o : Option Instant). written (λ target. option_map_or (λ i. writes_among target i.blocks) o 0) 0 (option_map_or (λ i. i.targets) o [])) is

-- ---- which metadata has a written form

named_target : (A : Table) (s : Target) → IsBuckets A.props.buckets → IsCurrent A s → IsTarget s
named_target A s fit current =
    let first = first-is A.props.buckets s.group fit current.live in
    let born : IsTime s.group.born = subst IsTime (sym first.born) (lit≤ tt, lit≤ tt) in
    record {
      group = record { partition = current.partition; lo = first.lo; hi = first.hi; born = born };
      slice = subst IsTime (sym current.slice) born;
    }

named_targets : (A : Table) → IsBuckets A.props.buckets → (targets : List Target) → AllByRecursion (IsCurrent A) targets → AllByRecursion IsTarget targets
named_targets A fit [] all = tt
named_targets A fit (s ∷ targets) all = (named_target A s fit all.0, named_targets A fit targets all.1)

written_targets : (A : Table) → IsBuckets A.props.buckets → (blocks : List Block) → ((target : ℕ) → writes_among target blocks < 2 ^ 32) → (number : ℕ) (targets : List Target) → AllByRecursion (IsCurrent A) targets
    → AllByRecursion (λ w. IsTarget w.0 × (w.1 < 2 ^ 32)) (written (λ target. writes_among target blocks) number targets)
written_targets A fit blocks few number [] all = tt
written_targets A fit blocks few number (s ∷ targets) all = ((named_target A s fit all.0, few number), written_targets A fit blocks few (number + 1) targets all.1)

pub row_entered : (A : Table) (H : History) (image : FileMap) (j : Job) (t : ℕ) (slots : List PartitionSlots) (targets : List Target) (i : Instant) → instant_of A H t ≡ Some i → i.owner ≡ Some j
    → i.state ≡ Requested → All (λ (asked : PartitionSlots). IsPartitionPath asked.partition) slots → AreTargets A slots targets → get image (timeline_name A t Delta Inflight) ≡ None → Kept A image H
    → Kept A (with_marked A image t Inflight (meta_bytes A.props.name (meta.Claims targets))) (entry j (Enter t slots) (reply.Entered targets) ∷ H)
unfolding OwnedInstants
row_entered A H image j t slots targets i is owner requested paths are absent kept =
    let owned = kept.owned t i j is owner in
    let e = entry j (Enter t slots) (reply.Entered targets) in
    let current = owned-entered (after_history A (e ∷ H)) t i slots targets paths (targets_after A (e ∷ H) slots targets are) requested (owned_more A H (e ∷ H) t i (greatest_rises A H e) owned) in
    row_advanced A H image j (Enter t slots) (reply.Entered targets) t Inflight (meta_bytes A.props.name (meta.Claims targets)) (entered targets i) tt owned.time
    (claims_read A.props.name targets (named_targets (after_history A (e ∷ H)) kept.tiles.0 targets current.targets)) absent
    (advances_changed A H e t (entered targets) i Inflight is owned.action (next_of i.state Requested Inflight requested tt) refl refl
    (λ r reached. said_entered i targets r (ap (λ s. has_reached s r) (sym requested) ∙ reached)) (λ u. refl))
    (start_of A H image t i e kept is)
    (λ job owns. current)
    (λ group chain at holds. here_entered A H group (blocks_of_chain chain) t i targets is (owned.unplaced requested) requested holds) kept

pub row_completed : (A : Table) (H : History) (image : FileMap) (j : Job) (t : ℕ) (checkpoint : Option ℕ) (i : Instant) → instant_of A H t ≡ Some i → i.owner ≡ Some j → i.failed ≡ false
    → i.state ≡ Inflight → IfSome checkpoint (λ n. n < 2 ^ 64) → get image (timeline_name A t Delta Completed) ≡ None → Kept A image H
    → Kept A (with_marked A image t Completed (meta_bytes A.props.name (meta.Delta (record { checkpoint = checkpoint; groups = written_by A H t })))) (entry j (Finish t checkpoint) (reply.Completed t) ∷ H)
unfolding OwnedInstants
row_completed A H image j t checkpoint i is owner sound inflight fits absent kept =
    let owned = kept.owned t i j is owner in
    let e = entry j (Finish t checkpoint) (reply.Completed t) in
    let all = written_targets (after_history A H) kept.tiles.0 i.blocks owned.writes 0 i.targets owned.targets in
    row_advanced A H image j (Finish t checkpoint) (reply.Completed t) t Completed (meta_bytes A.props.name (meta.Delta (record { checkpoint = checkpoint; groups = written_by A H t })))
    (completed (completions A H) checkpoint i) tt owned.time
    (subst (λ (groups : List (Target × ℕ)). meta_of A.props.name Delta Completed (meta_bytes A.props.name (meta.Delta (record { checkpoint = checkpoint; groups = groups }))) ≡ Ok (metadata (completed (completions A H) checkpoint i) Completed))
    (sym (written_at A H t i is)) (delta_reads A.props.name (record { checkpoint = checkpoint; groups = written (λ target. writes_among target i.blocks) 0 i.targets }) all fits)) absent
    (advances_changed A H e t (completed (completions A H) checkpoint) i Completed is owned.action (next_of i.state Inflight Completed inflight tt) refl refl
    (λ r reached. said_completed i (completions A H) checkpoint r (ap (λ s. has_reached s r) (sym inflight) ∙ reached)) (λ u. refl))
    (start_of A H image t i e kept is)
    (λ job owns. absurd (none_some owns))
    (λ group chain at holds. here_completed A H group (blocks_of_chain chain) t checkpoint i is (inr ((j, owner), sound)) (λ v k at_v. kept.numbers.starts v k (at_after A H v ∙ at_v)) holds) kept
