-- Keys and tables of them.
use Rattle.std.proofs.Common.{◌≡◌, ℕ, ◌+◌, ◌<◌, ◌≤◌, Bool, true, false, ◌||◌, cond, is_some, List, [], ◌∷◌, ◌++◌, length, take, drop, map, get_or, Option, Some, Bor, refl, sym, ap, ◌∙◌}
use Rattle.std.specs.Prelude.{not, ◌&&◌}
use Rattle.std.proofs.lemmas.List.{take_more, map-append, drop_more, drop_all}
use Rattle.std.proofs.lemmas.List.Folds.{list_any-append}
use Rattle.std.proofs.lemmas.Map.Text.{btree_map_updates_str}
use Rattle.std.specs.BTreeMap.{BTreeMap, UpdatesBy, get_by, is_at}
use Rattle.std.specs.Map.{lookup}
use Rattle.std.specs.Cmp.Lexicographic.{slice_cmp}
use Rattle.std.specs.Ordering.{nat_cmp}
use Rattle.std.specs.Str.{bytes_eq}
use Rattle.payload_merge.specs.declared.row.Row.{Row}
use Rattle.base_file.specs.BaseFiles.{is_among, keys_differ, row_key}
use Rattle.base_file.specs.KeyTables.{IsTableOf}

one_more : {X : Type 0} (same found : Bool) (x : X) (o : Option X) → is_some o ≡ found → is_some (cond same (Some x) o) ≡ (found || (same || false))
one_more true true x o e = refl
one_more true false x o e = refl
one_more false true x o e = e
one_more false false x o e = e

-- the table has one more key
pub table_of_more : {X : Type 0} (keys : List (List ℕ)) (key : List ℕ) (old new : BTreeMap (Bor (List ℕ)) X) (x : X) → IsTableOf keys old
    → UpdatesBy (λ (a b : Bor (List ℕ)). slice_cmp nat_cmp a.now b.now) (λ (k : Bor (List ℕ)). slice_cmp nat_cmp key k.now) old new (Some x) → IsTableOf (keys ++ key ∷ []) new
table_of_more keys key old new x is updates q =
    ap is_some (btree_map_updates_str key old new (Some x) updates q)
    ∙ one_more (bytes_eq key q) (is_among keys q) x (get_by (λ (k : Bor (List ℕ)). slice_cmp nat_cmp q k.now) old) (is q)
    ∙ sym (list_any-append (λ (other : List ℕ). bytes_eq other q) keys (key ∷ []))

-- ---- the loop

-- the key of a row that is next
next_key : (i : ℕ) (rows : List Row) (row : Row) → i < length rows → row ≡ get_or rows i row
    → keys_differ (map row_key (take i rows)) (map row_key (drop i rows)) ≡ (not (is_among (map row_key (take i rows)) row.key) && keys_differ (map row_key (take i rows) ++ row.key ∷ []) (map row_key (drop (i + 1) rows)))
unfolding keys_differ
next_key i rows row lt is =
    ap (λ (xs : List Row). keys_differ (map row_key (take i rows)) (map row_key xs)) (drop_more rows i row lt ∙ ap (λ (x : Row). x ∷ drop (i + 1) rows) (sym is))

pub key_again : (i : ℕ) (rows : List Row) (row : Row) (whole : Bool) → i < length rows → row ≡ get_or rows i row → is_among (map row_key (take i rows)) row.key ≡ true
    → whole ≡ keys_differ (map row_key (take i rows)) (map row_key (drop i rows)) → whole ≡ false
key_again i rows row whole lt is among e =
    e ∙ next_key i rows row lt is ∙ ap (λ (b : Bool). not b && keys_differ (map row_key (take i rows) ++ row.key ∷ []) (map row_key (drop (i + 1) rows))) among

-- the keys of one row more
pub keys_more : (i : ℕ) (rows : List Row) (row : Row) → i < length rows → row ≡ get_or rows i row → map row_key (take (i + 1) rows) ≡ map row_key (take i rows) ++ row.key ∷ []
keys_more i rows row lt is =
    ap (map row_key) (take_more rows i row lt ∙ ap (λ (x : Row). take i rows ++ x ∷ []) (sym is)) ∙ map-append row_key (take i rows) (row ∷ [])

pub key_new : (i : ℕ) (rows : List Row) (row : Row) (whole : Bool) → i < length rows → row ≡ get_or rows i row → is_among (map row_key (take i rows)) row.key ≡ false
    → whole ≡ keys_differ (map row_key (take i rows)) (map row_key (drop i rows)) → whole ≡ keys_differ (map row_key (take (i + 1) rows)) (map row_key (drop (i + 1) rows))
key_new i rows row whole lt is among e =
    e ∙ next_key i rows row lt is ∙ ap (λ (b : Bool). not b && keys_differ (map row_key (take i rows) ++ row.key ∷ []) (map row_key (drop (i + 1) rows))) among
    ∙ ap (λ (keys : List (List ℕ)). keys_differ keys (map row_key (drop (i + 1) rows))) (sym (keys_more i rows row lt is))

pub keys_end : (i : ℕ) (rows : List Row) (whole : Bool) → length rows ≤ i → whole ≡ keys_differ (map row_key (take i rows)) (map row_key (drop i rows)) → whole ≡ true
unfolding keys_differ
keys_end i rows whole le e = e ∙ ap (λ (xs : List Row). keys_differ (map row_key (take i rows)) (map row_key xs)) (drop_all i rows le)

pub no_key : {X : Type 0} (table : BTreeMap (Bor (List ℕ)) X) → table.entries ≡ [] → IsTableOf [] table
no_key {X = X} table none key = ap (λ (entries : List (Bor (List ℕ) × X)). is_some (lookup (is_at (λ (k : Bor (List ℕ)). slice_cmp nat_cmp key k.now)) entries)) none
