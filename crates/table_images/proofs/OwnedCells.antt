-- Owned instants, at each kind of step.
use Rattle.std.proofs.Common.{◌≡◌, ◌⊎◌, inl, inr, ◌≤◌, ◌<◌, ◌+◌, ◌^◌, ◌==◌, ℕ, Bool, true, false, cond, ◌&&◌, List, [], ◌∷◌, map, Some, refl, sym, ap, ◌∙◌, subst, arith}
use Rattle.std.specs.Prelude.{◌||◌}
use Rattle.std.specs.List.{All, AllByRecursion, list_any}
use Rattle.std.specs.Str.{bytes_eq}
use Rattle.std.proofs.lemmas.Bool.Decides.{nat_tests}
use Rattle.std.proofs.lemmas.List.Elements.{All-head, All-tail}
use Rattle.std.proofs.lemmas.Slice.Eq.{bytes_eq-Decides}
use Rattle.hudi_base.specs.InstantTime.{IsTime}
use Rattle.hudi_base.specs.declared.file_group.GroupRef.{GroupRef}
use Rattle.hudi_base.specs.declared.file_group.Target.{Target}
use Rattle.key_index.specs.Tiling.{has_slot}
use Rattle.key_index.proofs.FirstTiles.{each-among, first-born}
use Rattle.table_forms.specs.NameForms.{IsPartitionPath}
use Rattle.file_names.specs.declared.file_name.State.{State}
use Rattle.file_names.specs.declared.file_name.State.TheVariants.{Requested, Inflight}
use Rattle.table_history.specs.After.{after_history, greatest_in}
use Rattle.table_history.specs.Histories.{History}
use Rattle.table_history.specs.Instants.{instant_of, begun, entered, with_block}
use Rattle.table_history.specs.Metadata.{writes_among}
use Rattle.table_history.specs.Tables.{Table, Instant, Block}
use Rattle.table_history.specs.Targets.{AreTargets, is_asked, is_live, target_of_group}
use Rattle.table_history.specs.declared.job.Job.{Job}
use Rattle.table_history.specs.declared.step.PartitionSlots.{PartitionSlots}
use Rattle.table_images.specs.Kept.{OwnedInstants, IsOwnedWrite, IsCurrent}
use Rattle.table_images.specs.Timeline.{has_reached}
use Rattle.table_images.proofs.Advances.{Advances, IsNoMore, KeepsLine, number_cases}
use Rattle.table_images.proofs.Lines.{first_least, some_same}

current_more : (A : Table) (H K : History) (targets : List Target) → greatest_in (after_history A H).instants ≤ greatest_in (after_history A K).instants
    → AllByRecursion (IsCurrent (after_history A H)) targets → AllByRecursion (IsCurrent (after_history A K)) targets
current_more A H K [] le all = tt
current_more A H K (s ∷ targets) le all =
    (record { live = all.0.live; partition = all.0.partition; slice = all.0.slice; bounded = omega (arith, all.0.bounded, le) }, current_more A H K targets le all.1)

pub owned_more : (A : Table) (H K : History) (t : ℕ) (i : Instant) → greatest_in (after_history A H).instants ≤ greatest_in (after_history A K).instants
    → IsOwnedWrite (after_history A H) t i → IsOwnedWrite (after_history A K) t i
owned_more A H K t i le owned =
    record { action = owned.action; pending = owned.pending; time = owned.time; targets = current_more A H K i.targets le owned.targets; unplaced = owned.unplaced; writes = owned.writes }

pub owned_still : (A : Table) (H K : History) → KeepsLine IsNoMore A H K → greatest_in (after_history A H).instants ≤ greatest_in (after_history A K).instants → OwnedInstants A H → OwnedInstants A K
unfolding OwnedInstants
owned_still A H K line le owned t found job is owner =
    let was = line.old t found is in
    let old = owned_more A H K t was.old le (owned t was.old job was.was (was.same.owner job owner)) in
    record {
      action = was.same.action ∙ old.action;
      pending = subst (λ (s : State). (s ≡ Requested) ⊎ (s ≡ Inflight)) (sym was.same.state) old.pending;
      time = old.time;
      targets = subst (AllByRecursion (IsCurrent (after_history A K))) (sym was.same.targets) old.targets;
      unplaced = λ requested. was.same.blocks ∙ old.unplaced (sym was.same.state ∙ requested);
      writes = λ target. subst (λ (blocks : List Block). writes_among target blocks < 2 ^ 32) (sym was.same.blocks) (old.writes target);
    }

-- an instant that advanced, and the others
pub owned_advanced : (A : Table) (H K : History) (t : ℕ) (s : State) (new : Instant) → Advances A H K t s new → greatest_in (after_history A H).instants ≤ greatest_in (after_history A K).instants
    → ((job : Job) → new.owner ≡ Some job → IsOwnedWrite (after_history A K) t new) → OwnedInstants A H → OwnedInstants A K
unfolding OwnedInstants
owned_advanced A H K t s new advance le here owned u found job is owner = by_case (number_cases t u)
  where
    by_case : (t ≡ u) ⊎ (t ≡ u → ⊥) → IsOwnedWrite (after_history A K) u found
    by_case (inl same) =
        let one : new ≡ found = some_same (sym advance.at ∙ ap (instant_of A K) same ∙ is) in
        subst (λ n. IsOwnedWrite (after_history A K) n found) same (subst (IsOwnedWrite (after_history A K) t) one (here job (ap (λ (i : Instant). i.owner) one ∙ owner)))
    by_case (inr other) = owned_more A H K u found le (owned u found job (sym (advance.others u other) ∙ is) owner)

pub owned-begun : (A : Table) (t : ℕ) (job : Job) (number : ℕ) → IsTime t → IsOwnedWrite A t (begun job number)
owned-begun A t job number time = record { action = refl; pending = inl refl; time = time; targets = tt; unplaced = λ is. refl; writes = λ target. omega arith }

both : (a b : Bool) → (a && b) ≡ true → (a ≡ true) × (b ≡ true)
both true b h = (refl, h)
both false b h = (h, cc)

-- a group that is asked for lies in a partition
in_partition : (slots : List PartitionSlots) (g : GroupRef) → All (λ (asked : PartitionSlots). IsPartitionPath asked.partition) slots → is_asked slots g ≡ true → IsPartitionPath g.partition
in_partition [] g all asked = cc
in_partition (first ∷ more) g all asked =
    by_test (bytes_eq first.partition g.partition && list_any (λ slot. has_slot g slot) first.slots) refl asked
    (in_partition more g (All-tail (λ (asked : PartitionSlots). IsPartitionPath asked.partition) first more all))
  where
    by_test : (b : Bool) → (bytes_eq first.partition g.partition && list_any (λ slot. has_slot g slot) first.slots) ≡ b → (b || is_asked more g) ≡ true
        → (is_asked more g ≡ true → IsPartitionPath g.partition) → IsPartitionPath g.partition
    by_test true here asked later =
        subst IsPartitionPath ((bytes_eq-Decides first.partition g.partition).0 (both (bytes_eq first.partition g.partition) _ here).0)
        (All-head (λ (asked : PartitionSlots). IsPartitionPath asked.partition) first more all)
    by_test false other asked later = later asked

all_targets : (P : Target → Type 0) (gs : List GroupRef) → AllByRecursion (λ g. P (target_of_group g)) gs → AllByRecursion P (map target_of_group gs)
all_targets P [] all = tt
all_targets P (g ∷ gs) all = (all.0, all_targets P gs all.1)

current_one : (A : Table) (g : GroupRef) → is_live A g ≡ true → IsPartitionPath g.partition → IsCurrent A (target_of_group g)
current_one A g live partition =
    let born = first-born A.props.buckets g live in
    let least = first_least A.instants in
    record { live = live; partition = partition; slice = refl; bounded = omega (arith, born, least) }

current_targets : (A : Table) (slots : List PartitionSlots) (targets : List Target) → All (λ (asked : PartitionSlots). IsPartitionPath asked.partition) slots → AreTargets A slots targets
    → AllByRecursion (IsCurrent A) targets
current_targets A slots targets paths are =
    subst (AllByRecursion (IsCurrent A)) (sym are.are)
    (all_targets (IsCurrent A) are.groups (each-among (λ g. IsCurrent A (target_of_group g)) are.groups (λ g among.
    let tests = both (is_live A g) (is_asked slots g) (sym (are.live.are g) ∙ among) in
    current_one A g tests.0 (in_partition slots g paths tests.1))))

pub owned-entered : (A : Table) (t : ℕ) (i : Instant) (slots : List PartitionSlots) (targets : List Target) → All (λ (asked : PartitionSlots). IsPartitionPath asked.partition) slots → AreTargets A slots targets → i.state ≡ Requested → IsOwnedWrite A t i
    → IsOwnedWrite A t (entered targets i)
owned-entered A t i slots targets paths are requested owned = record {
  action = owned.action;
  pending = inr refl;
  time = owned.time;
  targets = current_targets A slots targets paths are;
  unplaced = λ is. owned.unplaced requested;
  writes = owned.writes;
}

pub owned-placed : (A : Table) (t : ℕ) (i : Instant) (target writes : ℕ) (bytes : List ℕ) → i.state ≡ Inflight → writes_among target i.blocks + writes < 2 ^ 32 → IsOwnedWrite A t i → IsOwnedWrite A t (with_block target writes bytes i)
owned-placed A t i target writes bytes inflight few owned = record {
  action = owned.action;
  pending = owned.pending;
  time = owned.time;
  targets = owned.targets;
  unplaced = λ requested. absurd (apart (sym requested ∙ inflight));
  writes = λ k. by_test k (target == k) refl;
}
  where
    by_test : (k : ℕ) (b : Bool) → (target == k) ≡ b → writes_among k i.blocks + cond b writes 0 < 2 ^ 32
    by_test k true same = subst (λ k. writes_among k i.blocks + writes < 2 ^ 32) (let one : target ≡ k = grind (arith, nat_tests) in one) few
    by_test k false other = let old = owned.writes k in omega (arith, old)

    apart : Requested ≡ Inflight → ⊥
    apart is = let wrong : false ≡ true = ap (λ s. has_reached s Inflight) is in cc
