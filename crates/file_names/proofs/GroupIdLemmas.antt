-- The group of a partition that has a file id.
use Rattle.std.proofs.Common.{◌≡◌, ℕ, ◌<◌, ◌^◌, ◌&&◌, Bool, true, false, not, nat_eq, nat_le, cond, List, [], ◌∷◌, length, get_or, drop, Option, Some, None, refl, subst, arith}
use Rattle.std.specs.List.{list_all}
use Rattle.std.specs.Str.{bytes_eq}
use Rattle.std.specs.Prelude.{option_map, option_and_then}
use Rattle.std.proofs.lemmas.Bool.Decides.{nat_tests}
use Rattle.std.proofs.lemmas.Bool.{false_from_ne_true}
use Rattle.std.proofs.lemmas.Option.{cond_some}
use Rattle.std.proofs.lemmas.Slice.Eq.{bytes_eq-Decides}
use Rattle.hudi_base.specs.InstantTime.{IsTime, first_time, time_of}
use Rattle.hudi_base.specs.declared.file_group.GroupRef.{GroupRef}
use Rattle.hudi_base.proofs.TimeTexts.{time_text-time_of}
use Rattle.table_forms.specs.NameForms.{IsPartitionPath, is_partition_byte}
use Rattle.table_forms.proofs.PieceLemmas.{and_parts}
use Rattle.file_names.specs.Candidate.{hex_number, born_of, group_of}
use Rattle.file_names.specs.FileId.{file_id}
use Rattle.file_names.specs.FileName.{IsGroup}
use Rattle.file_names.specs.GroupIds.{is_partition_path, only_with_id, group_with_id, IsGroupWithId}
use Rattle.file_names.proofs.IdTexts.{group_of-file_id}

-- ---- partitions

pub path_is : (text : List ℕ) → IsPartitionPath text → is_partition_path text ≡ true
path_is text path =
    let filled : nat_le 1 (length text) ≡ true = grind (arith, nat_tests, path.filled) in
    let short : nat_le (length text) 200 ≡ true = grind (arith, nat_tests, path.short) in
    let seen : nat_eq (get_or text 0 0) 46 ≡ false = grind (arith, nat_tests, path.seen) in
    rw (filled, short, seen, path.bytes) refl

pub is_path : (text : List ℕ) → is_partition_path text ≡ true → IsPartitionPath text
is_path text e =
    let all = and_parts (nat_le 1 (length text) && nat_le (length text) 200 && not (nat_eq (get_or text 0 0) 46)) (list_all is_partition_byte text) e in
    let three = and_parts (nat_le 1 (length text) && nat_le (length text) 200) (not (nat_eq (get_or text 0 0) 46)) all.0 in
    let two = and_parts (nat_le 1 (length text)) (nat_le (length text) 200) three.0 in
    record {
      filled = grind (arith, nat_tests, two.0);
      short = grind (arith, nat_tests, two.1);
      seen = λ same. let clash : not (nat_eq (get_or text 0 0) 46) ≡ false = grind (arith, nat_tests, same) in absurd cc;
      bytes = all.1;
    }

-- ---- groups

IsTime-first : IsTime first_time
IsTime-first = (omega arith, omega arith)

born_is_time : (text : List ℕ) (t : ℕ) → born_of text ≡ Some t → IsTime t
unfolding born_of
born_is_time text t e = by (bytes_eq text (48 ∷ [])) e
  where
    by : (b : Bool) → cond b (Some first_time) (time_of text) ≡ Some t → IsTime t
    by true e = let same : first_time ≡ t = cc in subst IsTime same IsTime-first
    by false e = (time_text-time_of text t e).0

small_number : (at : ℕ) (text : List ℕ) → hex_number at text < 2 ^ 16
unfolding hex_number
small_number at text = omega arith

taken_apart : (partition id : List ℕ) (g : GroupRef) → IsPartitionPath partition → group_of partition id ≡ Some g → IsGroup g × (g.partition ≡ partition)
unfolding group_of
taken_apart partition id g path e = by (born_of (drop 37 id)) refl e
  where
    by : (born : Option ℕ) → born_of (drop 37 id) ≡ born
        → option_map (λ (t : ℕ). let made : GroupRef = record { partition = partition; lo = hex_number 0 id; hi = hex_number 4 id; born = t } in made) born ≡ Some g
        → IsGroup g × (g.partition ≡ partition)
    by None is e = absurd cc
    by (Some t) is e =
        let made : GroupRef = record { partition = partition; lo = hex_number 0 id; hi = hex_number 4 id; born = t } in
        let same : made ≡ g = cc in
        subst (λ (h : GroupRef). IsGroup h × (h.partition ≡ partition)) same
        (record { partition = path; lo = small_number 0 id; hi = small_number 4 id; born = born_is_time (drop 37 id) t is }, refl)

-- a group is the one that has its id
pub group_with_id-file_id : (table : List ℕ) (g : GroupRef) → IsGroup g → group_with_id table g.partition (file_id table g) ≡ Some g
unfolding group_with_id
group_with_id-file_id table g h =
    let own : bytes_eq (file_id table g) (file_id table g) ≡ true = (bytes_eq-Decides (file_id table g) (file_id table g)).1 refl in
    rw (path_is g.partition h.partition, group_of-file_id table g h, own) refl

found_with_id : (table partition id : List ℕ) (found : Option GroupRef) (g : GroupRef) → IsPartitionPath partition → group_of partition id ≡ found → option_and_then (only_with_id table id) found ≡ Some g
    → IsGroup g × (g.partition ≡ partition) × (file_id table g ≡ id)
found_with_id table partition id None g path is e = absurd cc
found_with_id table partition id (Some h) g path is e =
    let told = cond_some (bytes_eq (file_id table h) id) h g e in
    let own = taken_apart partition id h path is in
    subst (λ (k : GroupRef). IsGroup k × (k.partition ≡ partition) × (file_id table k ≡ id)) told.1 (own.0, own.1, (bytes_eq-Decides (file_id table h) id).0 told.0)

-- and a group that was found has the id
pub has_id : (table partition id : List ℕ) (g : GroupRef) → group_with_id table partition id ≡ Some g → IsGroup g × (g.partition ≡ partition) × (file_id table g ≡ id)
unfolding group_with_id
has_id table partition id g e = by (is_partition_path partition) refl e
  where
    by : (b : Bool) → is_partition_path partition ≡ b → cond b (option_and_then (only_with_id table id) (group_of partition id)) None ≡ Some g
        → IsGroup g × (g.partition ≡ partition) × (file_id table g ≡ id)
    by true is e = found_with_id table partition id (group_of partition id) g (is_path partition is) refl e
    by false is e = absurd cc

-- what is found is exact
pub group_with_id_exact : (table partition id : List ℕ) → IsGroupWithId table partition id (group_with_id table partition id)
group_with_id_exact table partition id = by (group_with_id table partition id) refl
  where
    by : (found : Option GroupRef) → group_with_id table partition id ≡ found → IsGroupWithId table partition id found
    by (Some g) e = has_id table partition id g e
    by None e = λ g h partitions same.
        let told : group_with_id table partition id ≡ Some g =
        subst (λ (p : List ℕ). group_with_id table p id ≡ Some g) partitions (subst (λ (i : List ℕ). group_with_id table g.partition i ≡ Some g) same (group_with_id-file_id table g h)) in
        absurd cc

-- ---- the test, in steps

pub no_path_no_group : (table partition id : List ℕ) → (IsPartitionPath partition → ⊥) → group_with_id table partition id ≡ None
unfolding group_with_id
no_path_no_group table partition id none =
    rw (false_from_ne_true (is_partition_path partition) (λ e. none (is_path partition e))) refl

pub group_by_candidate : (table partition id : List ℕ) → IsPartitionPath partition → group_with_id table partition id ≡ option_and_then (only_with_id table id) (group_of partition id)
unfolding group_with_id
group_by_candidate table partition id path = rw (path_is partition path) refl

pub ruleset with_ids = (no_path_no_group, group_by_candidate)
