-- Writes that carry their instant and their places, and those of them that lie in a group.
use Rattle.std.proofs.Common.{◌≡◌, ◌≤◌, ◌<◌, ◌+◌, ◌^◌, ◌&&◌, ◌⊎◌, inl, inr, ℕ, Bool, true, false, cond, List, [], ◌∷◌, ◌++◌, length, filter, refl, sym, ap, ◌∙◌, get_or, arith, add-zero, zero-add, All}
use Rattle.std.specs.List.{list_all}
use Rattle.std.specs.Str.{bytes_eq}
use Rattle.std.proofs.lemmas.List.Elements.{All-nil, All-cons, All-head, All-tail, All-filter, All-weaker, filter_passes}
use Rattle.std.proofs.lemmas.Slice.Eq.{bytes_eq-Decides}
use Rattle.hudi_base.specs.declared.file_group.GroupRef.{GroupRef}
use Rattle.payload_merge.specs.Fold.{write_at, writes_from}
use Rattle.payload_merge.specs.declared.row.Row.{Row}
use Rattle.payload_merge.specs.declared.row.Write.{Write}
use Rattle.payload_merge.specs.declared.row.Write.TheVariants.{Put, Del}
use Rattle.table_forms.specs.NameForms.{IsPartitionPath}
use Rattle.upsert_writer.specs.BatchWrites.{is_in_group, partition_of}
use Rattle.upsert_writer.specs.Making.{IsNewDelete, IsNewPut}
use Rattle.upsert_writer.specs.TargetWrites.{AreOfKind, IsDeleteAt, IsPutAt}

from_more : (t n : ℕ) (ws : List Write) (w : Write) → writes_from t n (ws ++ w ∷ []) ≡ writes_from t n ws ++ write_at t (n + length ws) w ∷ []
from_more t n [] w = ap (λ (seq : ℕ). write_at t seq w ∷ []) (sym (add-zero n))
from_more t n (first ∷ ws) w =
    let moved : (n + 1) + length ws ≡ n + length (first ∷ ws) = omega arith in
    ap (λ (rest : List Write). write_at t n first ∷ rest) (from_more t (n + 1) ws w ∙ ap (λ (seq : ℕ). writes_from t (n + 1) ws ++ write_at t seq w ∷ []) moved)

-- one write more
pub writes_from-push : (t : ℕ) (ws : List Write) (w : Write) → writes_from t 0 (ws ++ w ∷ []) ≡ writes_from t 0 ws ++ write_at t (length ws) w ∷ []
writes_from-push t ws w = from_more t 0 ws w ∙ ap (λ (seq : ℕ). writes_from t 0 ws ++ write_at t seq w ∷ []) (zero-add (length ws))

pub writes_from-length : (t n : ℕ) (ws : List Write) → length (writes_from t n ws) ≡ length ws
writes_from-length t n [] = refl
writes_from-length t n (w ∷ ws) = grind (arith, writes_from-length t (n + 1) ws)

-- a put of an instant's row, wherever it lies
abbrev IsPutOf : (Row → Type 0) → ℕ → Write → Type 0
IsPutOf Own t (Put row) = Own row × (row.commit ≡ t)
IsPutOf Own t (Del partition key rank) = ⊥

abbrev IsShortDelete : Write → Type 0
IsShortDelete (Del partition key rank) = length key < 2 ^ 32
IsShortDelete (Put row) = ⊥

put_placed : (Own : Row → Type 0) (t n : ℕ) (w : Write) → IsNewPut Own w → IsPutOf Own t (write_at t n w)
put_placed Own t n (Put row) new = (new.own t n, refl)
put_placed Own t n (Del partition key rank) new = new

puts_placed : (Own : Row → Type 0) (t n : ℕ) (ws : List Write) → All (IsNewPut Own) ws → All (IsPutOf Own t) (writes_from t n ws)
puts_placed Own t n [] new = All-nil (IsPutOf Own t)
puts_placed Own t n (w ∷ ws) new =
    All-cons (IsPutOf Own t) (write_at t n w) (writes_from t (n + 1) ws) (put_placed Own t n w (All-head (IsNewPut Own) w ws new)) (puts_placed Own t (n + 1) ws (All-tail (IsNewPut Own) w ws new))

delete_placed : (t n : ℕ) (w : Write) → IsNewDelete w → IsShortDelete (write_at t n w)
delete_placed t n (Put row) new = new
delete_placed t n (Del partition key rank) new = new.1

deletes_placed : (t n : ℕ) (ws : List Write) → All IsNewDelete ws → All IsShortDelete (writes_from t n ws)
deletes_placed t n [] new = All-nil IsShortDelete
deletes_placed t n (w ∷ ws) new =
    All-cons IsShortDelete (write_at t n w) (writes_from t (n + 1) ws) (delete_placed t n w (All-head IsNewDelete w ws new)) (deletes_placed t (n + 1) ws (All-tail IsNewDelete w ws new))

first_of : (x y z : Bool) → (x && y && z) ≡ true → x ≡ true
first_of true y z h = refl
first_of false y z h = h

in_partition : (group : GroupRef) (w : Write) → is_in_group group w ≡ true → partition_of w ≡ group.partition
in_partition group w h = (bytes_eq-Decides (partition_of w) group.partition).0 (first_of (bytes_eq (partition_of w) group.partition) _ _ h)

put_lies : (Own : Row → Type 0) (t : ℕ) (p : List ℕ) (w : Write) → IsPutOf Own t w → partition_of w ≡ p → IsPutAt Own t p w
put_lies Own t p (Put row) is lies = (is.0, is.1, lies)
put_lies Own t p (Del partition key rank) is lies = is

delete_lies : (p : List ℕ) (w : Write) → IsShortDelete w → partition_of w ≡ p → IsDeleteAt p w
delete_lies p (Put row) is lies = is
delete_lies p (Del partition key rank) is lies = (lies, is)

-- writes of one kind that lie in a group lie in its partition
pub kind_in_group : (Own : Row → Type 0) (t : ℕ) (group : GroupRef) (ws : List Write) → All (IsNewPut Own) ws ⊎ All IsNewDelete ws → AreOfKind Own t group.partition (filter (is_in_group group) (writes_from t 0 ws))
kind_in_group Own t group ws (inl new) =
    let placed = writes_from t 0 ws in
    inl (λ k d h. put_lies Own t group.partition (get_or (filter (is_in_group group) placed) k d)
    (All-filter (is_in_group group) (IsPutOf Own t) placed (puts_placed Own t 0 ws new) k d h) (in_partition group (get_or (filter (is_in_group group) placed) k d) (filter_passes (is_in_group group) placed k d h)))
kind_in_group Own t group ws (inr new) =
    let placed = writes_from t 0 ws in
    inr (λ k d h. delete_lies group.partition (get_or (filter (is_in_group group) placed) k d)
    (All-filter (is_in_group group) IsShortDelete placed (deletes_placed t 0 ws new) k d h) (in_partition group (get_or (filter (is_in_group group) placed) k d) (filter_passes (is_in_group group) placed k d h)))

-- ---- where they lie

put_path : (Own : Row → Type 0) (w : Write) → IsNewPut Own w → IsPartitionPath (partition_of w)
put_path Own (Put row) new = new.placed
put_path Own (Del partition key rank) new = absurd new

delete_path : (w : Write) → IsNewDelete w → IsPartitionPath (partition_of w)
delete_path (Put row) new = absurd new
delete_path (Del partition key rank) new = new.0

-- writes that can be written lie in partitions
pub on_paths : (Own : Row → Type 0) (ws : List Write) → All (IsNewPut Own) ws ⊎ All IsNewDelete ws → All (λ w. IsPartitionPath (partition_of w)) ws
on_paths Own ws (inl new) = All-weaker (IsNewPut Own) (λ w. IsPartitionPath (partition_of w)) (put_path Own) ws new
on_paths Own ws (inr new) = All-weaker IsNewDelete (λ w. IsPartitionPath (partition_of w)) delete_path ws new

all_by : (p : Write → Bool) (w : Write) (ws : List Write) (b : Bool) → p w ≡ b → (list_all p ws ≡ true → filter p ws ≡ ws) → list_all p (w ∷ ws) ≡ true → filter p (w ∷ ws) ≡ w ∷ ws
all_by p w ws true is rest h =
    ap (λ (b : Bool). cond b (w ∷ filter p ws) (filter p ws)) is ∙ ap (λ (others : List Write). w ∷ others) (rest (sym (ap (λ (b : Bool). b && list_all p ws) is) ∙ h))
all_by p w ws false is rest h =
    let never : false ≡ true = sym (ap (λ (b : Bool). b && list_all p ws) is) ∙ h in cc

-- where all lie in the group, these are all writes
pub all_of_group : (p : Write → Bool) (ws : List Write) → list_all p ws ≡ true → filter p ws ≡ ws
all_of_group p [] h = refl
all_of_group p (w ∷ ws) h = all_by p w ws (p w) refl (all_of_group p ws) h

short_by : (p : Write → Bool) (w : Write) (ws : List Write) (b : Bool) → length (filter p ws) ≤ length ws → length (cond b (w ∷ filter p ws) (filter p ws)) ≤ length (w ∷ ws)
short_by p w ws true rest = omega arith
short_by p w ws false rest = omega arith

pub filter-short : (p : Write → Bool) (ws : List Write) → length (filter p ws) ≤ length ws
filter-short p [] = omega arith
filter-short p (w ∷ ws) = short_by p w ws (p w) (filter-short p ws)
