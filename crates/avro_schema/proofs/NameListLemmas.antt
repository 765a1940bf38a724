-- Lists of names with their tables.
use Rattle.std.proofs.Common.{◌≡◌, ℕ, Bool, true, false, ◌||◌, cond, is_some, List, [], ◌∷◌, ◌++◌, Option, Some, Bor, refl, sym, ap, ◌∙◌}
use Rattle.std.proofs.lemmas.List.Folds.{list_any-append}
use Rattle.std.proofs.lemmas.Map.Text.{btree_map_updates_str}
use Rattle.std.specs.BTreeMap.{BTreeMap, UpdatesBy, get_by}
use Rattle.std.specs.Cmp.Lexicographic.{slice_cmp}
use Rattle.std.specs.Ordering.{nat_cmp}
use Rattle.std.specs.Str.{bytes_eq}
use Rattle.avro_schema.specs.Names.{is_among}
use Rattle.avro_schema.specs.NameLists.{IsTableOf}

one_more : {X : Type 0} (same found : Bool) (x : X) (o : Option X) → is_some o ≡ found → is_some (cond same (Some x) o) ≡ (found || (same || false))
one_more true true x o e = refl
one_more true false x o e = refl
one_more false true x o e = e
one_more false false x o e = e

-- the table has one more key
pub table_of_more : {X : Type 0} (names : List (List ℕ)) (name : List ℕ) (old new : BTreeMap (Bor (List ℕ)) X) (x : X) → IsTableOf names old
    → UpdatesBy (λ (a b : Bor (List ℕ)). slice_cmp nat_cmp a.now b.now) (λ (k : Bor (List ℕ)). slice_cmp nat_cmp name k.now) old new (Some x) → IsTableOf (names ++ name ∷ []) new
table_of_more names name old new x is updates q =
    ap is_some (btree_map_updates_str name old new (Some x) updates q)
    ∙ one_more (bytes_eq name q) (is_among names q) x (get_by (λ (k : Bor (List ℕ)). slice_cmp nat_cmp q k.now) old) (is q)
    ∙ sym (list_any-append (λ (other : List ℕ). bytes_eq other q) names (name ∷ []))
