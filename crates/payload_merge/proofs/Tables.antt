-- What a table has at a key after writes.
use Rattle.std.proofs.Common.{◌≡◌, ◌↔◌, IsTrue, ◌==◌, ℕ, Bool, true, false, cond, List, [], ◌∷◌, ◌++◌, Option, Some, None, map, length, filter, arith, refl, sym, ◌∙◌, ap}
use Rattle.std.proofs.lemmas.Bool.{eqb-true, eq-eqb}
use Rattle.std.specs.Ordering.{eq_by_cmp}
use Rattle.std.specs.FinMap.{empty, get, get-empty, get-insert, get-remove, same_map, entries, len, len-entries, len-empty, empty_of_len}
use Rattle.payload_merge.specs.declared.row.Row.{Row}
use Rattle.payload_merge.specs.declared.row.Write.{Write}
use Rattle.payload_merge.specs.Payload.{Key, key_cmp, key_of, row_after}
use Rattle.payload_merge.specs.Fold.{RowTable, with_row, table_after, table_after_all, InstantWrites, fold, rows_of, writes_in_order, row_after_all}
use Rattle.payload_merge.specs.Laws.{writes_to}
use Rattle.payload_merge.proofs.Keys.{keys_total, exact_keys, same_key}

-- two tables that have the same row at each key are one
pub same_table : (m n : RowTable) → ((q : Key) → get m q ≡ get n q) → m ≡ n
same_table = same_map keys_total exact_keys

-- what a table has at q once the row of k is given
pub get-with_row : (m : RowTable) (k : Key) (row : Option Row) (q : Key) → get (with_row m k row) q ≡ cond (eq_by_cmp key_cmp q k) row (get m q)
get-with_row m k None q = get-remove keys_total m k q
get-with_row m k (Some row) q = get-insert keys_total m k row q

chosen_self : (b : Bool) {A : Type 0} (x : A) → cond b x x ≡ x
chosen_self true x = refl
chosen_self false x = refl

-- to give a key the row that it has changes nothing
pub with_row_same : (m : RowTable) (k : Key) → with_row m k (get m k) ≡ m
with_row_same m k = same_table _ m (λ q. get-with_row m k (get m k) q ∙ by_test q (eq_by_cmp key_cmp q k) refl)
  where
    by_test : (q : Key) (b : Bool) → eq_by_cmp key_cmp q k ≡ b → cond b (get m k) (get m q) ≡ get m q
    by_test q true h = ap (get m) (sym (same_key q k h))
    by_test q false h = refl

-- the row of a key after one write
pub get-table_after : (m : RowTable) (w : Write) (q : Key) → get (table_after m w) q ≡ cond (eq_by_cmp key_cmp q (key_of w)) (row_after (get m q) w) (get m q)
get-table_after m w q = get-with_row m (key_of w) _ q ∙ by_test (eq_by_cmp key_cmp q (key_of w)) refl
  where
    by_test : (b : Bool) → eq_by_cmp key_cmp q (key_of w) ≡ b → cond b (row_after (get m (key_of w)) w) (get m q) ≡ cond b (row_after (get m q) w) (get m q)
    by_test true h = ap (λ k. row_after (get m k) w) (sym (same_key q (key_of w) h))
    by_test false h = refl

-- what an empty table has
pub get-nothing : (q : Key) → get (empty {X = Row} {R = key_cmp}) q ≡ None
get-nothing q = get-empty key_cmp q

-- the row of a key after all writes
pub get-table_after_all : (m : RowTable) (ws : List Write) (q : Key) → get (table_after_all m ws) q ≡ row_after_all (get m q) (writes_to q ws)
get-table_after_all m [] q = refl
get-table_after_all m (w ∷ ws) q = get-table_after_all (table_after m w) ws q
    ∙ ap (λ present. row_after_all present (writes_to q ws)) (get-table_after m w q)
    ∙ by_test (eq_by_cmp key_cmp q (key_of w))
  where
    by_test : (b : Bool) → row_after_all (cond b (row_after (get m q) w) (get m q)) (writes_to q ws) ≡ row_after_all (get m q) (cond b (w ∷ writes_to q ws) (writes_to q ws))
    by_test true = refl
    by_test false = refl

-- the row of a key after instants
pub get-fold : (instants : List InstantWrites) (q : Key) → get (fold instants) q ≡ row_after_all None (writes_to q (writes_in_order instants))
get-fold instants q = get-table_after_all empty (writes_in_order instants) q ∙ ap (λ present. row_after_all present (writes_to q (writes_in_order instants))) (get-nothing q)

-- writes one list after another
pub table_after_all-append : (m : RowTable) (xs ys : List Write) → table_after_all m (xs ++ ys) ≡ table_after_all (table_after_all m xs) ys
table_after_all-append m [] ys = refl
table_after_all-append m (x ∷ xs) ys = table_after_all-append (table_after m x) xs ys

-- one more write
pub table_after_all-push : (m : RowTable) (xs : List Write) (w : Write) → table_after_all m (xs ++ w ∷ []) ≡ table_after (table_after_all m xs) w
table_after_all-push m xs w = table_after_all-append m xs (w ∷ [])

no_length : {A : Type 0} (xs : List A) → length xs ≡ 0 → xs ≡ []
no_length [] h = refl
no_length (x ∷ xs) h = absurd (omega arith)

pub rows_of-empty : rows_of empty ≡ []
rows_of-empty = ap (map (λ (e : Key × Row). e.1)) (no_length (entries empty) (sym (len-entries empty) ∙ len-empty key_cmp Row))

-- a table is empty if it has no row
pub no_rows : (m : RowTable) (n : ℕ) → n ≡ len m → IsTrue (n == 0) ↔ (m ≡ empty)
no_rows m n is = (λ t. empty_of_len m (sym is ∙ eqb-true n 0 t), λ e. eq-eqb n 0 (is ∙ ap len e ∙ len-empty key_cmp Row))

-- ---- writes to some keys alone

-- of the writes whose keys pass a test, those to a key that passes are all that are to it
writes_among : (p : Key → Bool) (q : Key) (ws : List Write) → writes_to q (filter (λ w. p (key_of w)) ws) ≡ cond (p q) (writes_to q ws) []
writes_among p q [] = sym (chosen_self (p q) [])
writes_among p q (w ∷ ws) = by_tests (eq_by_cmp key_cmp q (key_of w)) (p (key_of w)) refl refl (writes_among p q ws)
  where
    by_tests : (b c : Bool) → eq_by_cmp key_cmp q (key_of w) ≡ b → p (key_of w) ≡ c → writes_to q (filter (λ w. p (key_of w)) ws) ≡ cond (p q) (writes_to q ws) []
        → writes_to q (cond c (w ∷ filter (λ w. p (key_of w)) ws) (filter (λ w. p (key_of w)) ws)) ≡ cond (p q) (cond b (w ∷ writes_to q ws) (writes_to q ws)) []
    by_tests true true same passes rest =
        let here : p q ≡ true = ap p (same_key q (key_of w) same) ∙ passes in
        ap (λ b. cond b (w ∷ writes_to q (filter (λ w. p (key_of w)) ws)) (writes_to q (filter (λ w. p (key_of w)) ws))) same
        ∙ ap (λ us. w ∷ us) (rest ∙ ap (λ c. cond c (writes_to q ws) []) here)
        ∙ ap (λ c. cond c (w ∷ writes_to q ws) []) (sym here)
    by_tests true false same fails rest =
        let here : p q ≡ false = ap p (same_key q (key_of w) same) ∙ fails in
        rest ∙ ap (λ c. cond c (writes_to q ws) []) here ∙ ap (λ c. cond c (w ∷ writes_to q ws) []) (sym here)
    by_tests false true apart passes rest = ap (λ b. cond b (w ∷ writes_to q (filter (λ w. p (key_of w)) ws)) (writes_to q (filter (λ w. p (key_of w)) ws))) apart ∙ rest
    by_tests false false apart fails rest = rest

-- writes whose keys pass a test change what all would at a key that passes, and nothing at one that doesn't
pub get-table_after_all-among : (p : Key → Bool) (m : RowTable) (ws : List Write) (q : Key) → get (table_after_all m (filter (λ w. p (key_of w)) ws)) q ≡ cond (p q) (get (table_after_all m ws) q) (get m q)
get-table_after_all-among p m ws q =
    get-table_after_all m (filter (λ w. p (key_of w)) ws) q
    ∙ ap (row_after_all (get m q)) (writes_among p q ws)
    ∙ by_test (p q)
  where
    by_test : (c : Bool) → row_after_all (get m q) (cond c (writes_to q ws) []) ≡ cond c (get (table_after_all m ws) q) (get m q)
    by_test true = sym (get-table_after_all m ws q)
    by_test false = refl
