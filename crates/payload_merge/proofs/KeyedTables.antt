-- Tables whose rows stand at their own keys: what folds make, and what their rows make again.
use Rattle.std.proofs.Common.{◌≡◌, ◌&&◌, T, Bool, true, false, cond, List, [], ◌∷◌, Option, Some, None, map, refl, sym, ◌∙◌, ap, subst}
use Rattle.std.specs.Prelude.{int_lt}
use Rattle.std.specs.Option.{option_or}
use Rattle.std.specs.List.{AllByRecursion}
use Rattle.std.specs.List.Sorted.{IsStrictlySortedBy}
use Rattle.std.specs.Ordering.{eq_by_cmp, is_eq, is_lt}
use Rattle.std.specs.declared.cmp.Ordering.{Ordering}
use Rattle.std.specs.declared.cmp.Ordering.TheVariants.{Less, Equal, Greater}
use Rattle.std.specs.FinMap.{empty, get, find, entries, entries_sorted, get-entries, is_sorted}
use Rattle.std.specs.FinMap.Entries.{below_all}
use Rattle.std.proofs.lemmas.Cmp.{tied_itself}
use Rattle.payload_merge.specs.declared.row.Row.{Row}
use Rattle.payload_merge.specs.declared.row.Write.{Write}
use Rattle.payload_merge.specs.declared.row.Write.TheVariants.{Put, Del}
use Rattle.payload_merge.specs.Payload.{Key, key_cmp, key_of, key_of_row, rank_of, row_after, winner}
use Rattle.payload_merge.specs.Fold.{RowTable, table_after, table_after_all, InstantWrites, fold, writes_in_order, rows_of, IsKeyed}
use Rattle.payload_merge.proofs.Keys.{keys_total, same_key}
use Rattle.payload_merge.proofs.Tables.{same_table, get-table_after, get-nothing}

none_some : {A : Type 0} {x : A} → None ≡ Some x → ⊥
none_some h = cc

pub IsKeyed-empty : IsKeyed empty
IsKeyed-empty key row h = absurd (none_some (sym (get-nothing key) ∙ h))

-- what the payload rule leaves is the present row or has the write's key
pub applied_keyed : (present : Option Row) (w : Write) (row : Row) → ((r : Row) → present ≡ Some r → key_of_row r ≡ key_of w) → row_after present w ≡ Some row → key_of_row row ≡ key_of w
applied_keyed None (Put r) row keyed h = let e : r ≡ row = cc in ap key_of_row (sym e)
applied_keyed None (Del partition key rank) row keyed h = absurd (none_some h)
applied_keyed (Some r) w row keyed h = by_test (int_lt (rank_of w) r.rank) w h (keyed r refl)
  where
    by_test : (b : Bool) (v : Write) → winner b r v ≡ Some row → key_of_row r ≡ key_of v → key_of_row row ≡ key_of v
    by_test true v is here = let e : r ≡ row = cc in ap key_of_row (sym e) ∙ here
    by_test false (Put q) is here = let e : q ≡ row = cc in ap key_of_row (sym e)
    by_test false (Del partition key rank) is here = absurd (none_some is)

pub IsKeyed-table_after : (m : RowTable) (w : Write) → IsKeyed m → IsKeyed (table_after m w)
IsKeyed-table_after m w keyed key row h = by_test (eq_by_cmp key_cmp key (key_of w)) refl (sym (get-table_after m w key) ∙ h)
  where
    by_test : (b : Bool) → eq_by_cmp key_cmp key (key_of w) ≡ b → cond b (row_after (get m key) w) (get m key) ≡ Some row → key_of_row row ≡ key
    by_test true same is =
        let e : key ≡ key_of w = same_key key (key_of w) same in
        applied_keyed (get m key) w row (λ r there. keyed key r there ∙ e) is ∙ sym e
    by_test false apart is = keyed key row is

pub IsKeyed-table_after_all : (m : RowTable) (ws : List Write) → IsKeyed m → IsKeyed (table_after_all m ws)
IsKeyed-table_after_all m [] keyed = keyed
IsKeyed-table_after_all m (w ∷ ws) keyed = IsKeyed-table_after_all (table_after m w) ws (IsKeyed-table_after m w keyed)

-- a fold leaves each row at its own key
pub IsKeyed-fold : (instants : List InstantWrites) → IsKeyed (fold instants)
IsKeyed-fold instants = IsKeyed-table_after_all empty (writes_in_order instants) IsKeyed-empty

-- ---- the rows of such a table

not_both : (o : Ordering) → T (is_lt o) → is_eq o ≡ false
not_both Less h = refl
not_both Equal h = absurd h
not_both Greater h = absurd h

first : (a b : Bool) → T (a && b) → T a
first true b h = tt
first false b h = absurd h

second : (a b : Bool) → T (a && b) → T b
second true b h = h
second false b h = absurd h

-- no entry is at a key below all
find_none : (k : Key) (es : List (Key × Row)) → T (below_all key_cmp k es) → find key_cmp k es ≡ None
find_none k [] h = refl
find_none k (e ∷ es) h = ap (λ b. cond b (Some e.1) (find key_cmp k es)) (not_both (key_cmp k e.0) (first _ _ h)) ∙ find_none k es (second _ _ h)

-- each entry is the row's own key and the row
abbrev AreKeyed : List (Key × Row) → Type 0
AreKeyed es = AllByRecursion (λ e. key_of_row e.1 ≡ e.0) es

are_keyed : (es : List (Key × Row)) → T (is_sorted key_cmp es) → ((k : Key) (row : Row) → find key_cmp k es ≡ Some row → key_of_row row ≡ k) → AreKeyed es
are_keyed [] s keyed = tt
are_keyed (e ∷ es) s keyed = (keyed e.0 e.1 (ap (λ o. cond (is_eq o) (Some e.1) (find key_cmp e.0 es)) (tied_itself keys_total e.0)), are_keyed es (second _ _ s) (λ k row h. keyed k row (behind k row h (eq_by_cmp key_cmp k e.0) refl)))
  where
    behind : (k : Key) (row : Row) → find key_cmp k es ≡ Some row → (b : Bool) → eq_by_cmp key_cmp k e.0 ≡ b → cond b (Some e.1) (find key_cmp k es) ≡ Some row
    behind k row h true same = absurd (none_some (sym (ap (λ q. find key_cmp q es) (same_key k e.0 same) ∙ find_none e.0 es (first _ _ s)) ∙ h))
    behind k row h false apart = h

-- the rows of entries in order, put one after another where there is nothing
put_again : (es : List (Key × Row)) → T (is_sorted key_cmp es) → AreKeyed es → (m : RowTable) → ((q : Key) (row : Row) → find key_cmp q es ≡ Some row → get m q ≡ None) → (q : Key) → get (table_after_all m (map Put (map (λ (e : Key × Row). e.1) es))) q ≡ option_or (find key_cmp q es) (get m q)
put_again [] s keyed m free q = refl
put_again (e ∷ es) s keyed m free q =
    put_again es (second _ _ s) keyed.1 (table_after m (Put e.1)) (λ k row h. gets k ∙ still_free k row h (eq_by_cmp key_cmp k e.0) refl) q
    ∙ ap (option_or (find key_cmp q es)) (gets q)
    ∙ by_test (eq_by_cmp key_cmp q e.0) refl (free q)
  where
    gets : (k : Key) → get (table_after m (Put e.1)) k ≡ cond (eq_by_cmp key_cmp k e.0) (row_after (get m k) (Put e.1)) (get m k)
    gets k = get-table_after m (Put e.1) k ∙ ap (λ x. cond (eq_by_cmp key_cmp k x) (row_after (get m k) (Put e.1)) (get m k)) keyed.0

    missing : (k : Key) → eq_by_cmp key_cmp k e.0 ≡ true → find key_cmp k es ≡ None
    missing k same = ap (λ x. find key_cmp x es) (same_key k e.0 same) ∙ find_none e.0 es (first _ _ s)

    still_free : (k : Key) (row : Row) → find key_cmp k es ≡ Some row → (b : Bool) → eq_by_cmp key_cmp k e.0 ≡ b → cond b (row_after (get m k) (Put e.1)) (get m k) ≡ None
    still_free k row h true same = absurd (none_some (sym (missing k same) ∙ h))
    still_free k row h false apart = free k row (ap (λ b. cond b (Some e.1) (find key_cmp k es)) apart ∙ h)

    by_test : (b : Bool) → eq_by_cmp key_cmp q e.0 ≡ b → ((row : Row) → cond b (Some e.1) (find key_cmp q es) ≡ Some row → get m q ≡ None)
        → option_or (find key_cmp q es) (cond b (row_after (get m q) (Put e.1)) (get m q)) ≡ option_or (cond b (Some e.1) (find key_cmp q es)) (get m q)
    by_test true same none =
        ap (λ o. option_or o (row_after (get m q) (Put e.1))) (missing q same) ∙ ap (λ o. row_after o (Put e.1)) (none e.1 refl)
    by_test false apart none = refl

option_or-none : {A : Type 0} (o : Option A) → option_or o None ≡ o
option_or-none None = refl
option_or-none (Some x) = refl

-- a table is what puts of its rows make of an empty one
pub put_rows_of : (m : RowTable) → IsKeyed m → table_after_all empty (map Put (rows_of m)) ≡ m
put_rows_of m keyed = same_table _ m (λ q.
    put_again (entries m) (entries_sorted m) (are_keyed (entries m) (entries_sorted m) (λ k row h. keyed k row (get-entries m k ∙ h))) empty (λ k row h. get-nothing k) q
    ∙ ap (option_or (find key_cmp q (entries m))) (get-nothing q) ∙ option_or-none _ ∙ sym (get-entries m q))

-- so it is known by its rows
pub same_rows_of : (m n : RowTable) → IsKeyed m → IsKeyed n → rows_of m ≡ rows_of n → m ≡ n
same_rows_of m n keyed also same = sym (put_rows_of m keyed) ∙ ap (λ rows. table_after_all empty (map Put rows)) same ∙ put_rows_of n also

below_rows : (k : Key) (es : List (Key × Row)) → T (below_all key_cmp k es) → AreKeyed es → AllByRecursion (λ q. key_cmp k q ≡ Less) (map key_of_row (map (λ (e : Key × Row). e.1) es))
below_rows k [] b keyed = tt
below_rows k (e ∷ es) b keyed = (ap (key_cmp k) keyed.0 ∙ less (key_cmp k e.0) (first _ _ b), below_rows k es (second _ _ b) keyed.1)
  where
    less : (o : Ordering) → T (is_lt o) → o ≡ Less
    less Less h = refl
    less Equal h = absurd h
    less Greater h = absurd h

keys_rise : (es : List (Key × Row)) → T (is_sorted key_cmp es) → AreKeyed es → IsStrictlySortedBy key_cmp (map key_of_row (map (λ (e : Key × Row). e.1) es))
unfolding IsStrictlySortedBy
keys_rise [] s keyed = tt
keys_rise (e ∷ es) s keyed = (
  subst (λ k. AllByRecursion (λ q. key_cmp k q ≡ Less) (map key_of_row (map (λ (e : Key × Row). e.1) es))) (sym keyed.0) (below_rows e.0 es (first _ _ s) keyed.1),
  keys_rise es (second _ _ s) keyed.1,
)

-- the keys of its rows rise
pub rows_of-rise : (m : RowTable) → IsKeyed m → IsStrictlySortedBy key_cmp (map key_of_row (rows_of m))
rows_of-rise m keyed = keys_rise (entries m) (entries_sorted m) (are_keyed (entries m) (entries_sorted m) (λ k row h. keyed k row (get-entries m k ∙ h)))
