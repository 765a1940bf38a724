-- Borrowed writes in the order of their keys, one after another.
use Rattle.std.proofs.Common.{◌≡◌, ◌≢◌, ◌↔◌, ◌<ℤ◌, IsTrue, ℕ, suc, ◌+◌, ℤ, ◌<◌, Bool, true, false, cond, not, eqb, List, [], ◌∷◌, ◌++◌, Option, Some, None, map, filter, length, take, drop, get_or, refl, sym, ap, subst, ◌∙◌, arith}
use Rattle.std.specs.Prelude.{int_lt, IfOk, Result, Ok, Err}
use Rattle.std.specs.Option.{ForSome, option_map}
use Rattle.std.specs.List.{AllByRecursion}
use Rattle.std.specs.Ordering.{ordering_then, ordering_reverse, eq_by_cmp, is_eq}
use Rattle.std.specs.declared.cmp.Ordering.{Ordering}
use Rattle.std.specs.declared.cmp.Ordering.TheVariants.{Less, Equal, Greater}
use Rattle.std.specs.Cmp.Lexicographic.{pointwise, bytes_decides}
use Rattle.std.specs.FinMap.{empty, get, find, put, entries, get-entries, entries-insert, len-entries, len-empty}
use Rattle.std.proofs.lemmas.Cmp.{nat_list_cmp_total, tied_itself}
use Rattle.std.proofs.lemmas.Int.{ints}
use Rattle.std.proofs.Math.Seq.{drop-cons}
use Rattle.std.proofs.lemmas.List.{append-nil, map-append, nil_from_length, take_more}
use Rattle.std.proofs.lemmas.Map.Lookups.{exact_bytes}
use Rattle.payload_merge.specs.declared.row.Row.{Row}
use Rattle.payload_merge.specs.declared.row.Write.{Write}
use Rattle.payload_merge.specs.declared.prefixed_writes.PrefixedWrite.{PrefixedWrite}
use Rattle.payload_merge.specs.declared.row_refs.RowRef.{RowRef}
use Rattle.payload_merge.specs.declared.row_refs.WriteRef.{WriteRef}
use Rattle.payload_merge.specs.declared.row_refs.WriteRef.TheVariants.{Put, Del}
use Rattle.payload_merge.specs.declared.row.Write.TheVariants as write
use Rattle.payload_merge.specs.Payload.{Key, key_cmp, key_of, key_of_row, rank_of, row_after, winner}
use Rattle.payload_merge.specs.Fold.{RowTable, with_row, table_after, table_after_all, rows_of, row_after_all}
use Rattle.payload_merge.specs.Laws.{writes_to}
use Rattle.payload_merge.specs.RowRefs.{LeaveRows, key_of_ref, rank_of_ref, row_in, write_in}
use Rattle.payload_merge.specs.KeyOrder.{IsLeftBy, KeysRiseFrom, OrdersByKey, bytes_cmp, has_key, listed, write_of}
use Rattle.payload_merge.proofs.Filters.{filter-map, filter-none}
use Rattle.payload_merge.proofs.Keys.{keys_total}
use Rattle.payload_merge.proofs.KeyedTables.{applied_keyed}
use Rattle.payload_merge.proofs.Tables.{table_after_all-push, get-nothing, get-table_after_all, get-with_row, same_table, with_row_same}

-- ---- the order of the writes

key_of-write_in : (partition : List ℕ) (write : WriteRef) → key_of (write_in partition write) ≡ (partition, key_of_ref write)
key_of-write_in partition (Put row) = refl
key_of-write_in partition (Del key rank) = refl

-- writes to one partition are to one key where the record keys are one
same_writes : (partition : List ℕ) (xs ys : List WriteRef) → ((key : List ℕ) → filter (has_key key) ys ≡ filter (has_key key) xs) → (q : Key) → writes_to q (map (write_in partition) ys) ≡ writes_to q (map (write_in partition) xs)
same_writes partition xs ys stable q = filtered ys ∙ ap (map (write_in partition)) (by_order (bytes_cmp q.0 partition)) ∙ sym (filtered xs)
  where
    never : (zs : List WriteRef) → AllByRecursion (λ z. false ≡ false) zs
    never [] = tt
    never (z ∷ zs) = (refl, never zs)

    none : (zs : List WriteRef) → filter (λ z. false) zs ≡ []
    none zs = filter-none (λ z. false) zs (never zs)

    by_order : (o : Ordering) → filter (λ z. is_eq (ordering_then o (bytes_cmp q.1 (key_of_ref z)))) ys ≡ filter (λ z. is_eq (ordering_then o (bytes_cmp q.1 (key_of_ref z)))) xs
    by_order Less = none ys ∙ sym (none xs)
    by_order Equal = stable q.1
    by_order Greater = none ys ∙ sym (none xs)

    alike : (zs : List WriteRef) → filter (λ z. eq_by_cmp key_cmp q (key_of (write_in partition z))) zs ≡ filter (λ z. eq_by_cmp key_cmp q (partition, key_of_ref z)) zs
    alike [] = refl
    alike (z ∷ zs) =
        ap (λ k. cond (eq_by_cmp key_cmp q k) (z ∷ filter (λ y. eq_by_cmp key_cmp q (key_of (write_in partition y))) zs) (filter (λ y. eq_by_cmp key_cmp q (key_of (write_in partition y))) zs)) (key_of-write_in partition z)
        ∙ ap (λ rest. cond (eq_by_cmp key_cmp q (partition, key_of_ref z)) (z ∷ rest) rest) (alike zs)

    filtered : (zs : List WriteRef) → writes_to q (map (write_in partition) zs) ≡ map (write_in partition) (filter (λ z. eq_by_cmp key_cmp q (partition, key_of_ref z)) zs)
    filtered zs = filter-map (write_in partition) (λ write. eq_by_cmp key_cmp q (key_of write)) zs ∙ ap (map (write_in partition)) (alike zs)

-- writes whose order was changed, but at no key, make the same table
same_tables : (partition : List ℕ) (xs ys : List WriteRef) → ((key : List ℕ) → filter (has_key key) ys ≡ filter (has_key key) xs) → table_after_all empty (map (write_in partition) ys) ≡ table_after_all empty (map (write_in partition) xs)
same_tables partition xs ys stable = same_table _ _ (λ q.
    get-table_after_all empty (map (write_in partition) ys) q
    ∙ ap (row_after_all (get empty q)) (same_writes partition xs ys stable q)
    ∙ sym (get-table_after_all empty (map (write_in partition) xs) q))

pub folded_again : (writes ordered : List WriteRef) (rows : List RowRef) → OrdersByKey writes ordered → LeaveRows ordered rows → LeaveRows writes rows
folded_again writes ordered rows order folded partition = folded partition ∙ ap rows_of (same_tables partition writes ordered order.stable)

-- ---- entries in the order of their keys

none_before : (k : Key) (earlier : List (Key × Row)) → AllByRecursion (λ (e : Key × Row). key_cmp k e.0 ≡ Greater) earlier → find key_cmp k earlier ≡ None
none_before k [] all = refl
none_before k (e ∷ earlier) all = ap (λ o. cond (is_eq o) (Some e.1) (find key_cmp k earlier)) all.0 ∙ none_before k earlier all.1

put_last : (k : Key) (row : Row) (earlier : List (Key × Row)) → AllByRecursion (λ (e : Key × Row). key_cmp k e.0 ≡ Greater) earlier → put key_cmp k row earlier ≡ earlier ++ (k, row) ∷ []
put_last k row [] all = refl
put_last k row (e ∷ earlier) all = rw all.0 (ap (λ es. e ∷ es) (put_last k row earlier all.1))

-- the entry of a borrowed row
abbrev entry_in : List ℕ → RowRef → Key × Row
entry_in partition row = ((partition, row.key.now), row_in partition row)

turned : (o r : Ordering) → o ≡ ordering_reverse r → r ≡ Less → o ≡ Greater
turned o Less is less = is
turned o Equal is less = absurd cc
turned o Greater is less = absurd cc

-- all keys are below this one
abbrev AreBelow : List ℕ → List RowRef → Type 0
AreBelow key rows = AllByRecursion (λ row. bytes_cmp row.key.now key ≡ Less) rows

-- in one partition, keys above are above
above : (partition key : List ℕ) (rows : List RowRef) → AreBelow key rows → AllByRecursion (λ (e : Key × Row). key_cmp (partition, key) e.0 ≡ Greater) (map (entry_in partition) rows)
above partition key [] all = tt
above partition key (row ∷ rows) all = (
  ap (λ o. ordering_then o (bytes_cmp key row.key.now)) (tied_itself nat_list_cmp_total partition)
      ∙ turned (bytes_cmp key row.key.now) (bytes_cmp row.key.now key) (nat_list_cmp_total.antisymm key row.key.now) all.0,
  above partition key rows all.1,
)

-- ---- the rows so far

-- a key that a table doesn't have may be said to have none
without : (m : RowTable) (k : Key) → get m k ≡ None → with_row m k None ≡ m
without m k none = ap (with_row m k) (sym none) ∙ with_row_same m k

-- of two rows that a key is given, the later one counts
with_row_again : (m : RowTable) (k : Key) (first second : Option Row) → with_row (with_row m k first) k second ≡ with_row m k second
with_row_again m k first second = same_table _ _ (λ q.
    get-with_row (with_row m k first) k second q
    ∙ ap (cond (eq_by_cmp key_cmp q k) second) (get-with_row m k first q)
    ∙ again (eq_by_cmp key_cmp q k) (get m q)
    ∙ sym (get-with_row m k second q))
  where
    again : (b : Bool) (here : Option Row) → cond b second (cond b first here) ≡ cond b second here
    again true here = refl
    again false here = refl

get-with_row-itself : (m : RowTable) (k : Key) (row : Option Row) → get (with_row m k row) k ≡ row
get-with_row-itself m k row = get-with_row m k row k ∙ ap (λ o. cond (is_eq o) row (get m k)) (tied_itself keys_total k)

-- writes made a table of these rows, and above all of them a key has this row, if any
pub record Folds (writes : List WriteRef) (rows : List RowRef) (key : List ℕ) (present : Option RowRef) : Type 0 where
  pub base : List ℕ → RowTable
  pub table : (partition : List ℕ) → table_after_all empty (map (write_in partition) writes) ≡ with_row (base partition) (partition, key) (option_map (row_in partition) present)
  pub base_entries : (partition : List ℕ) → entries (base partition) ≡ map (entry_in partition) rows
  pub below : AreBelow key rows
  pub keyed : ForSome present (λ row. row.key.now ≡ key)

missing : (partition key : List ℕ) (rows : List RowRef) (m : RowTable) → entries m ≡ map (entry_in partition) rows → AreBelow key rows → get m (partition, key) ≡ None
missing partition key rows m are below =
    get-entries m (partition, key) ∙ ap (find key_cmp (partition, key)) are ∙ none_before (partition, key) (map (entry_in partition) rows) (above partition key rows below)

-- the entries once the row of the last key is known
entries_with : (partition key : List ℕ) (rows : List RowRef) (present : Option RowRef) (m : RowTable) → entries m ≡ map (entry_in partition) rows → AreBelow key rows → ForSome present (λ row. row.key.now ≡ key)
    → entries (with_row m (partition, key) (option_map (row_in partition) present)) ≡ map (entry_in partition) (rows ++ listed present)
entries_with partition key rows None m are below keyed =
    ap entries (without m (partition, key) (missing partition key rows m are below)) ∙ are ∙ ap (map (entry_in partition)) (sym (append-nil rows))
entries_with partition key rows (Some row) m are below keyed =
    entries-insert keys_total m (partition, key) (row_in partition row)
    ∙ ap (put key_cmp (partition, key) (row_in partition row)) are
    ∙ put_last (partition, key) (row_in partition row) (map (entry_in partition) rows) (above partition key rows below)
    ∙ ap (λ k. map (entry_in partition) rows ++ ((partition, k), row_in partition row) ∷ []) (sym (keyed row refl))
    ∙ sym (map-append (entry_in partition) rows (row ∷ []))

none_keyed : (key : List ℕ) → ForSome None (λ (row : RowRef). row.key.now ≡ key)
none_keyed key row is = absurd cc

pub Folds-none : Folds [] [] [] None
Folds-none = record {
  base = λ partition. empty;
  table = λ partition. sym (without empty (partition, []) (get-nothing (partition, [])));
  base_entries = λ partition. nil_from_length _ (sym (len-entries empty) ∙ len-empty key_cmp Row);
  below = tt;
  keyed = none_keyed [];
}

all_below : (key other : List ℕ) (rows : List RowRef) (present : Option RowRef) → bytes_cmp key other ≡ Less → AreBelow key rows → ForSome present (λ row. row.key.now ≡ key) → AreBelow other (rows ++ listed present)
all_below key other [] None less all keyed = tt
all_below key other [] (Some row) less all keyed = (ap (λ k. bytes_cmp k other) (keyed row refl) ∙ less, tt)
all_below key other (row ∷ rows) present less all keyed = (nat_list_cmp_total.trans row.key.now key other all.0 less, all_below key other rows present less all.1 keyed)

-- the next key, above all so far
Folds-next : (writes : List WriteRef) (rows : List RowRef) (key other : List ℕ) (present : Option RowRef) → Folds writes rows key present → bytes_cmp key other ≡ Less → Folds writes (rows ++ listed present) other None
Folds-next writes rows key other present folds less = record {
  base = λ partition. with_row (folds.base partition) (partition, key) (option_map (row_in partition) present);
  table = λ partition. folds.table partition ∙ sym (without _ (partition, other) (missing partition other (rows ++ listed present) _ (are partition) below));
  base_entries = are;
  below = below;
  keyed = none_keyed other;
}
  where
    are : (partition : List ℕ) → entries (with_row (folds.base partition) (partition, key) (option_map (row_in partition) present)) ≡ map (entry_in partition) (rows ++ listed present)
    are partition = entries_with partition key rows present (folds.base partition) (folds.base_entries partition) folds.below folds.keyed

    below : AreBelow other (rows ++ listed present)
    below = all_below key other rows present less folds.below folds.keyed

-- what is left has the key of the write
left_keyed : (write : WriteRef) (key : List ℕ) (present left : Option RowRef) → key_of_ref write ≡ key → IsLeftBy write present left → ForSome present (λ row. row.key.now ≡ key) → ForSome left (λ row. row.key.now ≡ key)
left_keyed write key present None same is keyed = none_keyed key
left_keyed write key present (Some row) same is keyed = λ found at. ap (λ (one : RowRef). one.key.now) (sym (let e : row ≡ found = cc in e)) ∙
    ap (λ (k : Key). k.1) (applied_keyed (option_map (row_in []) present) (write_in [] write) (row_in [] row) (of_present present keyed) (is []) ∙ key_of-write_in [] write) ∙ same
  where
    of_present : (o : Option RowRef) → ForSome o (λ one. one.key.now ≡ key) → (r : Row) → option_map (row_in []) o ≡ Some r → key_of_row r ≡ key_of (write_in [] write)
    of_present None here r found = absurd cc
    of_present (Some one) here r found =
        let is_one : row_in [] one ≡ r = cc in
        sym (ap key_of_row is_one) ∙ ap (λ (k : List ℕ). let pair : Key = ([], k) in pair) (here one refl ∙ sym same) ∙ sym (key_of-write_in [] write)

-- one more write to that key
Folds-write : (writes : List WriteRef) (rows : List RowRef) (key : List ℕ) (present left : Option RowRef) (write : WriteRef) → Folds writes rows key present → key_of_ref write ≡ key → IsLeftBy write present left
    → Folds (writes ++ write ∷ []) rows key left
Folds-write writes rows key present left write folds same is = record {
  base = folds.base;
  table = table;
  base_entries = folds.base_entries;
  below = folds.below;
  keyed = left_keyed write key present left same is folds.keyed;
}
  where
    written : (partition : List ℕ) (m : RowTable) → table_after (with_row m (partition, key) (option_map (row_in partition) present)) (write_in partition write) ≡ with_row m (partition, key) (option_map (row_in partition) left)
    written partition m =
        let so_far = with_row m (partition, key) (option_map (row_in partition) present) in
        ap (λ k. with_row so_far k (row_after (get so_far k) (write_in partition write))) (key_of-write_in partition write ∙ ap (λ (k : List ℕ). let pair : Key = (partition, k) in pair) same)
        ∙ ap (λ o. with_row so_far (partition, key) (row_after o (write_in partition write))) (get-with_row-itself m (partition, key) (option_map (row_in partition) present))
        ∙ ap (with_row so_far (partition, key)) (is partition)
        ∙ with_row_again m (partition, key) (option_map (row_in partition) present) (option_map (row_in partition) left)

    table : (partition : List ℕ) → table_after_all empty (map (write_in partition) (writes ++ write ∷ [])) ≡ with_row (folds.base partition) (partition, key) (option_map (row_in partition) left)
    table partition =
        ap (table_after_all empty) (map-append (write_in partition) writes (write ∷ []))
        ∙ table_after_all-push empty (map (write_in partition) writes) (write_in partition write)
        ∙ ap (λ t. table_after t (write_in partition write)) (folds.table partition)
        ∙ written partition (folds.base partition)

rows_of_entries : (partition : List ℕ) (rows : List RowRef) → map (λ (e : Key × Row). e.1) (map (entry_in partition) rows) ≡ map (row_in partition) rows
rows_of_entries partition [] = refl
rows_of_entries partition (row ∷ rows) = ap (λ more. row_in partition row ∷ more) (rows_of_entries partition rows)

-- the rows of all keys
pub LeaveRows-end : (writes : List WriteRef) (rows : List RowRef) (key : List ℕ) (present : Option RowRef) → Folds writes rows key present → LeaveRows writes (rows ++ listed present)
LeaveRows-end writes rows key present folds partition =
    sym (rows_of_entries partition (rows ++ listed present))
    ∙ ap (map (λ (e : Key × Row). e.1)) (sym (entries_with partition key rows present (folds.base partition) (folds.base_entries partition) folds.below folds.keyed) ∙ ap entries (sym (folds.table partition)))

-- ---- one step of the loop

-- of keys that rise, the next is above this one or is it
next_above : (key other : List ℕ) → bytes_cmp other key ≢ Less → other ≢ key → bytes_cmp key other ≡ Less
next_above key other rises apart = by_order (bytes_cmp key other) refl
  where
    by_order : (o : Ordering) → bytes_cmp key other ≡ o → bytes_cmp key other ≡ Less
    by_order Less is = is
    by_order Equal is = absurd (apart (sym (exact_bytes key other is)))
    by_order Greater is = absurd (rises (nat_list_cmp_total.antisymm other key ∙ ap ordering_reverse is))

rank_of-write_in : (partition : List ℕ) (write : WriteRef) → rank_of (write_in partition write) ≡ rank_of_ref write
rank_of-write_in partition (Put row) = refl
rank_of-write_in partition (Del key rank) = refl

-- which is left, by the ranks
by_rank : (partition : List ℕ) (write : WriteRef) (present : RowRef) (b : Bool) → int_lt (rank_of_ref write) present.rank ≡ b → row_after (Some (row_in partition present)) (write_in partition write) ≡ winner b (row_in partition present) (write_in partition write)
by_rank partition write present b is =
    ap (λ z. winner (int_lt z present.rank) (row_in partition present) (write_in partition write)) (rank_of-write_in partition write)
    ∙ ap (λ c. winner c (row_in partition present) (write_in partition write)) is

loses : (present : Row) (write : Write) → winner false present write ≡ row_after None write
loses present (write.Put row) = refl
loses present (write.Del partition key rank) = refl

-- what is left, where z and y are the ranks of the write and of the row as the code passes them on
pub stays : (write : WriteRef) (present : RowRef) (z y : ℤ) (outranks : Bool) → z ≡ rank_of_ref write → y ≡ present.rank → outranks ≡ true → IsTrue outranks ↔ (z <ℤ y) → IsLeftBy write (Some present) (Some present)
stays write present z y outranks here there is means partition = by_rank partition write present true (by_test (int_lt (rank_of_ref write) present.rank) refl)
  where
    by_test : (b : Bool) → int_lt (rank_of_ref write) present.rank ≡ b → b ≡ true
    by_test true at = refl
    by_test false at = absurd (omega (arith, ints, at, means.0 is, here, there))

pub goes : (write : WriteRef) (present : RowRef) (left : Option RowRef) (z y : ℤ) (outranks : Bool) → z ≡ rank_of_ref write → y ≡ present.rank → outranks ≡ false → IsTrue outranks ↔ (z <ℤ y) → IsLeftBy write None left → IsLeftBy write (Some present) left
goes write present left z y outranks here there is means none partition =
    by_rank partition write present false (by_test (int_lt (rank_of_ref write) present.rank) refl)
    ∙ loses (row_in partition present) (write_in partition write)
    ∙ none partition
  where
    below : int_lt (rank_of_ref write) present.rank ≡ true → z <ℤ y
    below at = omega (arith, ints, at, here, there)

    by_test : (b : Bool) → int_lt (rank_of_ref write) present.rank ≡ b → b ≡ false
    by_test true at = sym (means.1 (below at)) ∙ is
    by_test false at = refl

-- whether keys differ, as the code tests it
pub same_keys : (key other : List ℕ) (differ : Bool) → differ ≡ not (pointwise eqb key other) → differ ≡ false → key ≡ other
same_keys key other differ means is = (bytes_decides key other).0 (both (pointwise eqb key other) (sym means ∙ is))
  where
    both : (b : Bool) → not b ≡ false → b ≡ true
    both true h = refl
    both false h = sym h

pub other_keys : (key other : List ℕ) (differ : Bool) → differ ≡ not (pointwise eqb key other) → differ ≡ true → key ≢ other
other_keys key other differ means is same = apart (pointwise eqb key other) ((bytes_decides key other).1 same) (sym means ∙ is)
  where
    apart : (b : Bool) → b ≡ true → not b ≡ true → ⊥
    apart true h n = cc
    apart false h n = cc

-- the write at an index, among those so far and among those that are left
pub so_far : (ordered : List PrefixedWrite) (next : PrefixedWrite) (i : ℕ) → i < length ordered → next ≡ get_or ordered i next → map write_of (take (i + 1) ordered) ≡ map write_of (take i ordered) ++ write_of next ∷ []
so_far ordered next i lt is =
    ap (map write_of) (take_more ordered i next lt ∙ ap (λ one. take i ordered ++ one ∷ []) (sym is))
    ∙ map-append write_of (take i ordered) (next ∷ [])

pub left_over : (ordered : List PrefixedWrite) (next : PrefixedWrite) (i : ℕ) → i < length ordered → next ≡ get_or ordered i next → map write_of (drop i ordered) ≡ write_of next ∷ map write_of (drop (i + 1) ordered)
left_over ordered next i lt is =
    let step : suc i ≡ i + 1 = omega arith in
    ap (map write_of) (drop-cons ordered i next lt)
    ∙ ap (λ one. write_of one ∷ map write_of (drop (suc i) ordered)) (sym is)
    ∙ ap (λ n. write_of next ∷ map write_of (drop n ordered)) step

pub rises_from : (key other : List ℕ) (writes : List WriteRef) → key ≡ other → KeysRiseFrom other writes → KeysRiseFrom key writes
rises_from key other writes same rise = subst (λ k. KeysRiseFrom k writes) (sym same) rise

-- an equal list of writes
pub folds_alike : (writes others : List WriteRef) (rows : List RowRef) (key : List ℕ) (present : Option RowRef) → writes ≡ others → Folds others rows key present → Folds writes rows key present
folds_alike writes others rows key present same folds = subst (λ xs. Folds xs rows key present) (sym same) folds

-- the next write is to another key, or to the same one, as the code keeps rows, key and what is present
pub to_another : (before : List WriteRef) (rows now : List RowRef) (key kept : List ℕ) (present absent left : Option RowRef) (next : WriteRef) → Folds before rows key present → bytes_cmp (key_of_ref next) key ≢ Less → key_of_ref next ≢ key
    → now ≡ rows ++ listed present → kept ≡ key_of_ref next → absent ≡ None → IsLeftBy next absent left → Folds (before ++ next ∷ []) now kept left
to_another before rows now key kept present absent left next folds rises apart pushed kept_is absent_is leaves =
    let moved = Folds-next before rows key (key_of_ref next) present folds (next_above key (key_of_ref next) rises apart) in
    rw (pushed, kept_is) (Folds-write before (rows ++ listed present) (key_of_ref next) None left next moved refl (subst (λ o. IsLeftBy next o left) absent_is leaves))

pub to_the_same : (before : List WriteRef) (rows now : List RowRef) (key kept : List ℕ) (present again left : Option RowRef) (next : WriteRef) → Folds before rows key present → key_of_ref next ≡ key
    → now ≡ rows → kept ≡ key → again ≡ present → IsLeftBy next again left → Folds (before ++ next ∷ []) now kept left
to_the_same before rows now key kept present again left next folds same now_is kept_is again_is leaves =
    rw (now_is, kept_is) (Folds-write before rows key present left next folds same (subst (λ o. IsLeftBy next o left) again_is leaves))

-- the answer of the fold in order is that of the fold
pub folded_if_ok : {X E : Type 0} (view : X → List RowRef) (writes ordered : List WriteRef) (result : Result X E) → OrdersByKey writes ordered → IfOk result (λ rows. LeaveRows ordered (view rows)) → IfOk result (λ rows. LeaveRows writes (view rows))
folded_if_ok view writes ordered (Ok rows) order folded = folded_again writes ordered (view rows) order folded
folded_if_ok view writes ordered (Err error) order folded = folded
