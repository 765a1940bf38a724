-- The map from keys to the rest of their rows, as the table that it stands for.
use Rattle.std.proofs.Common.{◌≡◌, suc, ℤ, ◌&&◌, T, Bool, true, false, cond, List, [], ◌∷◌, Option, Some, None, map, length, refl, sym, ◌∙◌, ap, subst}
use Rattle.std.specs.Option.{option_map}
use Rattle.std.specs.Map.{lookup, keys_of}
use Rattle.std.specs.BTreeMap.{is_at}
use Rattle.std.specs.List.{AllByRecursion}
use Rattle.std.specs.List.Sorted.{IsStrictlySortedBy}
use Rattle.std.specs.declared.cmp.Ordering.TheVariants.{Less}
use Rattle.std.specs.Ordering.{eq_by_cmp, is_lt}
use Rattle.std.specs.Cmp.{eq_by_cmp_equiv}
use Rattle.std.specs.FinMap.{get, find, entries, from_sorted, get-from_entries, get-from_sorted, entries-from_sorted, is_sorted, len, len-entries}
use Rattle.std.specs.FinMap.Entries.{below_all}
use Rattle.std.proofs.lemmas.Map.Keys.{sorted_head, sorted_tail}
use Rattle.payload_merge.specs.declared.row.Row.{Row}
use Rattle.payload_merge.specs.declared.row.Write.{Write}
use Rattle.payload_merge.specs.declared.row.Write.TheVariants.{Put, Del}
use Rattle.payload_merge.specs.declared.rows_by_key.KeylessRow.{KeylessRow}
use Rattle.payload_merge.specs.Payload.{Key, key_cmp, key_of, key_of_row, rank_of, row_after, winner}
use Rattle.payload_merge.specs.Fold.{with_row, table_after, rows_of}
use Rattle.payload_merge.specs.RowsByKey.{with_key, table_entry, table_of, without_key, is_outranked_by}
use Rattle.payload_merge.proofs.Keys.{keys_total, same_key}
use Rattle.payload_merge.proofs.Tables.{same_table, get-with_row, with_row_same}

-- what the map has at a key
abbrev pub row_at : List (Key × KeylessRow) → Key → Option KeylessRow
row_at es q = lookup (is_at (key_cmp q)) es

find_table_entry : (es : List (Key × KeylessRow)) (q : Key) → find key_cmp q (map table_entry es) ≡ option_map (with_key q) (row_at es q)
find_table_entry [] q = refl
find_table_entry (e ∷ es) q = by_test (find_table_entry es q) (eq_by_cmp key_cmp q e.0) refl
  where
    by_test : find key_cmp q (map table_entry es) ≡ option_map (with_key q) (row_at es q) → (b : Bool) → eq_by_cmp key_cmp q e.0 ≡ b → cond b (Some (with_key e.0 e.1)) (find key_cmp q (map table_entry es)) ≡ option_map (with_key q) (cond b (Some e.1) (row_at es q))
    by_test rest true h = ap (λ k. Some (with_key k e.1)) (sym (same_key q e.0 h))
    by_test rest false h = rest

-- what the table has at a key
pub get-table_of : (es : List (Key × KeylessRow)) (q : Key) → get (table_of es) q ≡ option_map (with_key q) (row_at es q)
get-table_of es q = get-from_entries keys_total (map table_entry es) q ∙ find_table_entry es q

-- where the map has nothing there is no row
pub get-table_of-none : (es : List (Key × KeylessRow)) (q : Key) → row_at es q ≡ None → get (table_of es) q ≡ None
get-table_of-none es q h = get-table_of es q ∙ ap (option_map (with_key q)) h

-- entries that differ at one key stand for tables that differ there
pub table_of-update : (es fs : List (Key × KeylessRow)) (k : Key) (w : Option KeylessRow) → ((q : Key) → row_at fs q ≡ cond (is_at (key_cmp k) q) w (row_at es q)) → table_of fs ≡ with_row (table_of es) k (option_map (with_key k) w)
table_of-update es fs k w h = same_table _ _ (λ q.
    get-table_of fs q ∙ ap (option_map (with_key q)) (h q) ∙ by_test q (is_at (key_cmp k) q) refl
    ∙ ap (λ b. cond b (option_map (with_key k) w) (get (table_of es) q)) ((eq_by_cmp_equiv keys_total).symm k q)
    ∙ sym (get-with_row (table_of es) k (option_map (with_key k) w) q))
  where
    by_test : (q : Key) (b : Bool) → is_at (key_cmp k) q ≡ b → option_map (with_key q) (cond b w (row_at es q)) ≡ cond b (option_map (with_key k) w) (get (table_of es) q)
    by_test q true same = ap (λ x. option_map (with_key x) w) (sym (same_key k q same))
    by_test q false apart = sym (get-table_of es q)

-- In what follows z is the rank of a write, as the code passes it on.

-- a write that what is there outranks changes nothing
pub table_after-outranked : (es : List (Key × KeylessRow)) (w : Write) (z : ℤ) → z ≡ rank_of w → is_outranked_by (row_at es (key_of w)) z ≡ true → table_after (table_of es) w ≡ table_of es
table_after-outranked es w z same h =
    ap (with_row (table_of es) (key_of w)) (ap (λ present. row_after present w) here ∙ stays (row_at es (key_of w)) (ap (is_outranked_by (row_at es (key_of w))) (sym same) ∙ h) ∙ sym here)
    ∙ with_row_same (table_of es) (key_of w)
  where
    here : get (table_of es) (key_of w) ≡ option_map (with_key (key_of w)) (row_at es (key_of w))
    here = get-table_of es (key_of w)

    stays : (o : Option KeylessRow) → is_outranked_by o (rank_of w) ≡ true → row_after (option_map (with_key (key_of w)) o) w ≡ option_map (with_key (key_of w)) o
    stays None h = cc
    stays (Some kept) h = ap (λ b. winner b (with_key (key_of w) kept) w) h

-- else a put's row takes the place of what is there
pub table_after-put : (es fs : List (Key × KeylessRow)) (row : Row) (z : ℤ) → z ≡ row.rank → is_outranked_by (row_at es (key_of_row row)) z ≡ false → ((q : Key) → row_at fs q ≡ cond (is_at (key_cmp (key_of_row row)) q) (Some (without_key (record row { rank = z }))) (row_at es q)) → table_of fs ≡ table_after (table_of es) (Put row)
table_after-put es fs row z same h updated =
    table_of-update es fs (key_of_row row) (Some (without_key (record row { rank = z }))) updated
    ∙ ap (λ r. with_row (table_of es) (key_of_row row) (Some (record row { rank = r }))) same
    ∙ ap (with_row (table_of es) (key_of_row row)) (sym (ap (λ present. row_after present (Put row)) (get-table_of es (key_of_row row)) ∙ goes (row_at es (key_of_row row)) (ap (is_outranked_by (row_at es (key_of_row row))) (sym same) ∙ h)))
  where
    goes : (o : Option KeylessRow) → is_outranked_by o row.rank ≡ false → row_after (option_map (with_key (key_of_row row)) o) (Put row) ≡ Some row
    goes None h = refl
    goes (Some kept) h = ap (λ b. winner b (with_key (key_of_row row) kept) (Put row)) h

-- and a delete takes it out
pub table_after-delete : (es fs : List (Key × KeylessRow)) (k : Key) (rank z : ℤ) → z ≡ rank → is_outranked_by (row_at es k) z ≡ false → ((q : Key) → row_at fs q ≡ cond (is_at (key_cmp k) q) None (row_at es q)) → table_of fs ≡ table_after (table_of es) (Del k.0 k.1 rank)
table_after-delete es fs k rank z same h updated =
    table_of-update es fs k None updated
    ∙ ap (with_row (table_of es) k) (sym (ap (λ present. row_after present (Del k.0 k.1 rank)) (get-table_of es k) ∙ goes (row_at es k) (ap (is_outranked_by (row_at es k)) (sym same) ∙ h)))
  where
    goes : (o : Option KeylessRow) → is_outranked_by o rank ≡ false → row_after (option_map (with_key k) o) (Del k.0 k.1 rank) ≡ None
    goes None h = refl
    goes (Some kept) h = ap (λ b. winner b (with_key k kept) (Del k.0 k.1 rank)) h

-- ---- the rows in order

both : (a b : Bool) → T a → T b → T (a && b)
both true b p q = q
both false b p q = p

below : (k : Key) (es : List (Key × KeylessRow)) → AllByRecursion (λ q. key_cmp k q ≡ Less) (keys_of es) → T (below_all key_cmp k (map table_entry es))
below k [] h = tt
below k (e ∷ es) h = both _ _ (subst (λ o. T (is_lt o)) (sym h.0) tt) (below k es h.1)

sorted_table_entries : (es : List (Key × KeylessRow)) → IsStrictlySortedBy key_cmp (keys_of es) → T (is_sorted key_cmp (map table_entry es))
sorted_table_entries [] h = tt
sorted_table_entries (e ∷ es) h = both _ _ (below e.0 es (sorted_head key_cmp e.0 (keys_of es) h)) (sorted_table_entries es (sorted_tail key_cmp e.0 (keys_of es) h))

-- a map in order stands for a table with its entries
pub entries-table_of : (es : List (Key × KeylessRow)) → IsStrictlySortedBy key_cmp (keys_of es) → entries (table_of es) ≡ map table_entry es
entries-table_of es h =
    ap entries (same_table (table_of es) (from_sorted (map table_entry es)) (λ q.
    get-from_entries keys_total (map table_entry es) q ∙ sym (get-from_sorted key_cmp (map table_entry es) q (sorted_table_entries es h))))
    ∙ entries-from_sorted key_cmp (map table_entry es) (sorted_table_entries es h)

-- the row of an entry
abbrev pub row_of_entry : Key × KeylessRow → Row
row_of_entry e = with_key e.0 e.1

into_rows : (es : List (Key × KeylessRow)) → map (λ (e : Key × Row). e.1) (map table_entry es) ≡ map row_of_entry es
into_rows [] = refl
into_rows (e ∷ es) = ap (λ rows. row_of_entry e ∷ rows) (into_rows es)

pub rows_of-table_of : (es : List (Key × KeylessRow)) → IsStrictlySortedBy key_cmp (keys_of es) → rows_of (table_of es) ≡ map row_of_entry es
rows_of-table_of es h = ap (map (λ (e : Key × Row). e.1)) (entries-table_of es h) ∙ into_rows es

length-table_entries : (es : List (Key × KeylessRow)) → length (map table_entry es) ≡ length es
length-table_entries [] = refl
length-table_entries (e ∷ es) = ap suc (length-table_entries es)

pub len-table_of : (es : List (Key × KeylessRow)) → IsStrictlySortedBy key_cmp (keys_of es) → len (table_of es) ≡ length es
len-table_of es h = len-entries (table_of es) ∙ ap length (entries-table_of es h) ∙ length-table_entries es
