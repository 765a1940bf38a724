-- A type that some JSON names is named by its own JSON, which is 3 deep for each schema on a way at most.
use Rattle.std.proofs.Common.{◌≡◌, ℕ, zero, suc, ◌+◌, ◌*◌, ◌≤◌, ◌&&◌, ◌++◌, Bool, true, false, not, List, [], ◌∷◌, map, length, Option, Some, None, Ok, codes, refl, sym, ap, subst, ◌∙◌, append_assoc, arith}
use Rattle.std.specs.Prelude as list
use Rattle.std.proofs.lemmas.List.{append-nil}
use Rattle.serde_json.specs.Data.{Data, Items, no_items, item, depth, items_depth}
use Rattle.serde_json.specs.Find.{get}
use Rattle.serde_json.specs.Written.{has_float, items_have_float}
use Rattle.table_forms.specs.JsonObjects.{json_of, least_unknown}
use Rattle.avro_schema.specs.AvroTypes.{AvroType, null, boolean, int, long, bytes, string, fixed_of, enum_of, array_of, map_of, union_of, record_of, Branches, no_branches, branch, Fields, no_fields, field, branches_of, fields_of}
use Rattle.avro_schema.specs.Names.{is_name, is_among}
use Rattle.avro_schema.specs.Heads.{Head, leaf, array, union, record_head, ◌>>=◌, only_if, only_some, has_only, name_in}
use Rattle.avro_schema.specs.Heads as heads
use Rattle.avro_schema.specs.SchemaTexts.{at_position, kind_of, kind_of_head, field_head_after, inner_type, branch_after, branches_from, field_after, fields_from, type_inside, head_within, type_within, type_in, type_of_json, type_named, texts_json, type_json, branches_json, fields_json, field_json}
use Rattle.avro_schema.proofs.Steps.{bind_Ok, bind_to, only_if_Ok, at_position_Ok, ok_of, and_true}
use Rattle.avro_schema.proofs.HeadsAgain.{IsHead, IsFilled, head_of_is, leaf_again, array_again, map_again, union_again, record_again, name_in_is}

-- ---- depth, and no floats

texts_depth : (texts : List (List ℕ)) → items_depth (texts_json texts) ≡ 0
texts_depth [] = refl
texts_depth (text ∷ texts) = omega (arith, texts_depth texts)

texts_no_float : (texts : List (List ℕ)) → items_have_float (texts_json texts) ≡ false
texts_no_float [] = refl
texts_no_float (text ∷ texts) = texts_no_float texts

mutual
  pub type_no_float : (type : AvroType) → has_float (type_json type) ≡ false
  type_no_float null = refl
  type_no_float boolean = refl
  type_no_float int = refl
  type_no_float long = refl
  type_no_float bytes = refl
  type_no_float string = refl
  type_no_float (fixed_of name size) = refl
  type_no_float (enum_of name symbols) = rw (texts_no_float symbols) refl
  type_no_float (array_of inner) = rw (type_no_float inner) refl
  type_no_float (map_of inner) = rw (type_no_float inner) refl
  type_no_float (union_of types) = branches_no_float types
  type_no_float (record_of name members) = rw (fields_no_float members) refl

  branches_no_float : (types : Branches) → items_have_float (branches_json types) ≡ false
  branches_no_float no_branches = refl
  branches_no_float (branch type more) = rw (type_no_float type) (branches_no_float more)

  fields_no_float : (members : Fields) → items_have_float (fields_json members) ≡ false
  fields_no_float no_fields = refl
  fields_no_float (field name type more) = rw (type_no_float type) (fields_no_float more)

-- ---- by induction over how deep schemas may nest

-- the JSON of a type names it
record IsAgain (n : ℕ) (type : AvroType) : Type 0 where
  head : Head
  read : head_within n (type_json type) ≡ Ok head
  grown : type_within n head ≡ Ok type
  kind : kind_of_head head ≡ kind_of type
  deep : depth (type_json type) ≤ 3 * n

-- the types of branches behind those that were found
record BranchesAgain (n : ℕ) (found : List AvroType) (ds : Items) (types : List AvroType) : Type 0 where
  new : List AvroType
  all : types ≡ found ++ new
  read : branches_from (head_within n) (type_within n) found (branches_json (branches_of new)) ≡ Ok types
  filled : IsFilled ds → IsFilled (branches_json (branches_of new))
  deep : items_depth (branches_json (branches_of new)) ≤ 3 * n

record FieldsAgain (n : ℕ) (found : List (List ℕ × AvroType)) (all_fields : List (List ℕ × AvroType)) : Type 0 where
  new : List (List ℕ × AvroType)
  all : all_fields ≡ found ++ new
  read : fields_from (head_within n) (type_within n) found (fields_json (fields_of new)) ≡ Ok all_fields
  deep : items_depth (fields_json (fields_of new)) ≤ 3 * n + 1

-- what is said of the heads of a level
Again : ℕ → Type 0
Again n = (h : Head) (type : AvroType) → IsHead h → type_within n h ≡ Ok type → IsAgain n type × (kind_of_head h ≡ kind_of type)

head_within_is : (n : ℕ) (d : Data) (h : Head) → head_within n d ≡ Ok h → IsHead h
unfolding head_within
head_within_is zero d h e = absurd cc
head_within_is (suc n) d h e = head_of_is d h e

inner_again : (n : ℕ) → Again n → (d : Data) (type : AvroType) → inner_type (head_within n) (type_within n) d ≡ Ok type → IsAgain n type
unfolding Again
inner_again n again d type e =
    let head = bind_Ok (head_within n d) (type_within n) type e in
    (again head.0 type (head_within_is n d head.0 head.1) head.2).0

inner_read : (n : ℕ) (type : AvroType) → IsAgain n type → inner_type (head_within n) (type_within n) (type_json type) ≡ Ok type
inner_read n type is = bind_to (head_within n (type_json type)) is.head (type_within n) is.read ∙ is.grown

-- a branch, whose JSON passes the same test
branch_again : (n : ℕ) → Again n → (found : List AvroType) (d : Data) (type : AvroType) → branch_after (head_within n) (type_within n) found d ≡ Ok type
    → (branch_after (head_within n) (type_within n) found (type_json type) ≡ Ok type) × IsAgain n type
unfolding branch_after Again
branch_again n again found d type e =
    let head = bind_Ok (head_within n d) (λ head. only_if (not (is_among (codes "union" ∷ list.map kind_of found) (kind_of_head head))) head >>= type_within n) type e in
    let new = bind_Ok (only_if (not (is_among (codes "union" ∷ list.map kind_of found) (kind_of_head head.0))) head.0) (type_within n) type head.2 in
    let passed = only_if_Ok (not (is_among (codes "union" ∷ list.map kind_of found) (kind_of_head head.0))) head.0 new.0 new.1 in
    let told = again head.0 type (head_within_is n d head.0 head.1) (ap (type_within n) passed.1 ∙ new.2) in
    let is = told.0 in
    let kind : kind_of_head head.0 ≡ kind_of_head is.head = told.1 ∙ sym is.kind in
    let passes : not (is_among (codes "union" ∷ list.map kind_of found) (kind_of_head is.head)) ≡ true = subst (λ (k : List ℕ). not (is_among (codes "union" ∷ list.map kind_of found) k) ≡ true) kind passed.0 in (
      bind_to (head_within n (type_json type)) is.head (λ head. only_if (not (is_among (codes "union" ∷ list.map kind_of found) (kind_of_head head))) head >>= type_within n) is.read
          ∙ ap (λ (b : Bool). only_if b is.head >>= type_within n) passes
          ∙ is.grown,
      is,
    )

branches_again : (n : ℕ) → Again n → (found : List AvroType) (ds : Items) (types : List AvroType) → branches_from (head_within n) (type_within n) found ds ≡ Ok types → BranchesAgain n found ds types
unfolding branches_from
branches_again n again found no_items types e =
    record { new = []; all = sym (ok_of found types e) ∙ sym (append-nil found); read = e; filled = λ filled. absurd filled; deep = omega arith }
branches_again n again found (item d ds) types e =
    let first = bind_Ok (at_position (length found) (branch_after (head_within n) (type_within n) found d)) (λ type. branches_from (head_within n) (type_within n) (found ++ type ∷ []) ds) types e in
    let type : AvroType = first.0 in
    let one = branch_again n again found d type (at_position_Ok (length found) (branch_after (head_within n) (type_within n) found d) type first.1) in
    let more = branches_again n again (found ++ type ∷ []) ds types first.2 in
    record {
      new = type ∷ more.new;
      all = more.all ∙ append_assoc found (type ∷ []) more.new;
      read = bind_to (at_position (length found) (branch_after (head_within n) (type_within n) found (type_json type))) type (λ type. branches_from (head_within n) (type_within n) (found ++ type ∷ []) (branches_json (branches_of more.new))) (ap (at_position (length found)) one.0) ∙ more.read;
      filled = λ filled. tt;
      deep = omega (arith, one.1.deep, more.deep);
    }

-- a field, whose JSON says the same
field_again : (n : ℕ) → Again n → (names : List (List ℕ)) (d : Data) (f : List ℕ × AvroType) → field_after (head_within n) (type_within n) names d ≡ Ok f
    → (field_after (head_within n) (type_within n) names (field_json f.0 (type_json f.1)) ≡ Ok f) × IsAgain n f.1
unfolding field_after field_head_after least_unknown
field_again n again names d f e =
    let head = bind_Ok (field_head_after names d) (λ head. inner_type (head_within n) (type_within n) head.1 >>= λ type. Ok (head.0, type)) f e in
    let type = bind_Ok (inner_type (head_within n) (type_within n) head.0.1) (λ type. Ok (head.0.0, type)) f head.2 in
    let same : (head.0.0, type.0) ≡ f = ok_of (head.0.0, type.0) f type.2 in
    let same_name : head.0.0 ≡ f.0 = ap (λ (p : List ℕ × AvroType). p.0) same in
    let types : type.0 ≡ f.1 = ap (λ (p : List ℕ × AvroType). p.1) same in
    let is = subst (IsAgain n) types (inner_again n again head.0.1 type.0 type.1) in
    let known : Bool = has_only (codes "name" ∷ codes "type" ∷ []) d in
    let name = bind_Ok (name_in d) (λ name. only_some (get (codes "type") d) >>= λ inner. only_if (not (is_among names name) && known) (name, inner)) head.0 head.1 in
    let inner = bind_Ok (only_some (get (codes "type") d)) (λ inner. only_if (not (is_among names name.0) && known) (name.0, inner)) head.0 name.2 in
    let passed = only_if_Ok (not (is_among names name.0) && known) (name.0, inner.0) head.0 inner.2 in
    let own : name.0 ≡ f.0 = ap (λ (p : List ℕ × Data). p.0) passed.1 ∙ same_name in
    let is_own_name : is_name f.0 ≡ true = subst (λ (t : List ℕ). is_name t ≡ true) own (name_in_is d name.0 name.1) in
    let is_new : not (is_among names f.0) ≡ true = subst (λ (t : List ℕ). not (is_among names t) ≡ true) own (and_true (not (is_among names name.0)) known passed.0).0 in
    let head_read : field_head_after names (field_json f.0 (type_json f.1)) ≡ Ok (f.0, type_json f.1) = rw (is_own_name, is_new) refl in (
      bind_to (field_head_after names (field_json f.0 (type_json f.1))) (f.0, type_json f.1) (λ head. inner_type (head_within n) (type_within n) head.1 >>= λ type. Ok (head.0, type)) head_read
          ∙ bind_to (inner_type (head_within n) (type_within n) (type_json f.1)) f.1 (λ type. Ok (f.0, type)) (inner_read n f.1 is),
      is,
    )

fields_again : (n : ℕ) → Again n → (found : List (List ℕ × AvroType)) (ds : Items) (fs : List (List ℕ × AvroType)) → fields_from (head_within n) (type_within n) found ds ≡ Ok fs → FieldsAgain n found fs
unfolding fields_from
fields_again n again found no_items fs e =
    record { new = []; all = sym (ok_of found fs e) ∙ sym (append-nil found); read = e; deep = omega arith }
fields_again n again found (item d ds) fs e =
    let first = bind_Ok (at_position (length found) (field_after (head_within n) (type_within n) (list.map (λ f. f.0) found) d)) (λ next. fields_from (head_within n) (type_within n) (found ++ next ∷ []) ds) fs e in
    let f : List ℕ × AvroType = first.0 in
    let one = field_again n again (list.map (λ f. f.0) found) d f (at_position_Ok (length found) (field_after (head_within n) (type_within n) (list.map (λ f. f.0) found) d) f first.1) in
    let more = fields_again n again (found ++ f ∷ []) ds fs first.2 in
    record {
      new = f ∷ more.new;
      all = more.all ∙ append_assoc found (f ∷ []) more.new;
      read = bind_to (at_position (length found) (field_after (head_within n) (type_within n) (list.map (λ f. f.0) found) (field_json f.0 (type_json f.1)))) f (λ next. fields_from (head_within n) (type_within n) (found ++ next ∷ []) (fields_json (fields_of more.new))) (ap (at_position (length found)) one.0) ∙ more.read;
      deep = omega (arith, one.1.deep, more.deep);
    }

leaf_depth : (type : AvroType) → IsHead (leaf type) → depth (type_json type) ≤ 2
leaf_depth null is = omega arith
leaf_depth boolean is = omega arith
leaf_depth int is = omega arith
leaf_depth long is = omega arith
leaf_depth bytes is = omega arith
leaf_depth string is = omega arith
leaf_depth (fixed_of name size) is = omega arith
leaf_depth (enum_of name symbols) is = omega (arith, texts_depth symbols)
leaf_depth (array_of inner) is = absurd is
leaf_depth (map_of inner) is = absurd is
leaf_depth (union_of types) is = absurd is
leaf_depth (record_of name members) is = absurd is

again_at : (n : ℕ) → Again n
unfolding Again type_within head_within type_inside
again_at zero h type is e = absurd cc
again_at (suc n) (leaf own) type is e =
    let same : own ≡ type = ok_of own type e in
    subst (λ (t : AvroType). IsAgain (suc n) t × (kind_of own ≡ kind_of t)) same
    (record { head = leaf own; read = leaf_again own is; grown = refl; kind = refl; deep = omega (arith, leaf_depth own is) }, refl)
again_at (suc n) (array d) type is e =
    let inner = bind_Ok (at_position 0 (inner_type (head_within n) (type_within n) d)) (λ inner. Ok (array_of inner)) type e in
    let own = inner_again n (again_at n) d inner.0 (at_position_Ok 0 (inner_type (head_within n) (type_within n) d) inner.0 inner.1) in
    subst (λ (t : AvroType). IsAgain (suc n) t × (codes "array" ≡ kind_of t)) (ok_of (array_of inner.0) type inner.2) (
      record {
        head = array (type_json inner.0);
        read = array_again inner.0;
        grown = bind_to (at_position 0 (inner_type (head_within n) (type_within n) (type_json inner.0))) inner.0 (λ inner. Ok (array_of inner)) (ap (at_position 0) (inner_read n inner.0 own));
        kind = refl;
        deep = omega (arith, own.deep);
      },
      refl,
    )
again_at (suc n) (heads.map d) type is e =
    let inner = bind_Ok (at_position 0 (inner_type (head_within n) (type_within n) d)) (λ inner. Ok (map_of inner)) type e in
    let own = inner_again n (again_at n) d inner.0 (at_position_Ok 0 (inner_type (head_within n) (type_within n) d) inner.0 inner.1) in
    subst (λ (t : AvroType). IsAgain (suc n) t × (codes "map" ≡ kind_of t)) (ok_of (map_of inner.0) type inner.2) (
      record {
        head = heads.map (type_json inner.0);
        read = map_again inner.0;
        grown = bind_to (at_position 0 (inner_type (head_within n) (type_within n) (type_json inner.0))) inner.0 (λ inner. Ok (map_of inner)) (ap (at_position 0) (inner_read n inner.0 own));
        kind = refl;
        deep = omega (arith, own.deep);
      },
      refl,
    )
again_at (suc n) (union ds) type is e =
    let types = bind_Ok (branches_from (head_within n) (type_within n) [] ds) (λ types. Ok (union_of (branches_of types))) type e in
    let own = branches_again n (again_at n) [] ds types.0 types.1 in
    let read : branches_from (head_within n) (type_within n) [] (branches_json (branches_of types.0)) ≡ Ok types.0 = ap (λ (ts : List AvroType). branches_from (head_within n) (type_within n) [] (branches_json (branches_of ts))) own.all ∙ own.read in
    subst (λ (t : AvroType). IsAgain (suc n) t × (codes "union" ≡ kind_of t)) (ok_of (union_of (branches_of types.0)) type types.2) (
      record {
        head = union (branches_json (branches_of types.0));
        read = union_again (branches_json (branches_of types.0)) (subst (λ (ts : List AvroType). IsFilled (branches_json (branches_of ts))) (sym own.all) (own.filled is));
        grown = bind_to (branches_from (head_within n) (type_within n) [] (branches_json (branches_of types.0))) types.0 (λ types. Ok (union_of (branches_of types))) read;
        kind = refl;
        deep = omega (arith, own.deep, ap (λ (ts : List AvroType). items_depth (branches_json (branches_of ts))) own.all);
      },
      refl,
    )
again_at (suc n) (record_head name ds) type is e =
    let fs = bind_Ok (fields_from (head_within n) (type_within n) [] ds) (λ found. Ok (record_of name (fields_of found))) type e in
    let own = fields_again n (again_at n) [] ds fs.0 fs.1 in
    let read : fields_from (head_within n) (type_within n) [] (fields_json (fields_of fs.0)) ≡ Ok fs.0 = ap (λ (found : List (List ℕ × AvroType)). fields_from (head_within n) (type_within n) [] (fields_json (fields_of found))) own.all ∙ own.read in
    subst (λ (t : AvroType). IsAgain (suc n) t × (codes "record" ≡ kind_of t)) (ok_of (record_of name (fields_of fs.0)) type fs.2) (
      record {
        head = record_head name (fields_json (fields_of fs.0));
        read = record_again name (fields_of fs.0) is;
        grown = bind_to (fields_from (head_within n) (type_within n) [] (fields_json (fields_of fs.0))) fs.0 (λ found. Ok (record_of name (fields_of found))) read;
        kind = refl;
        deep = omega (arith, own.deep, ap (λ (found : List (List ℕ × AvroType)). items_depth (fields_json (fields_of found))) own.all);
      },
      refl,
    )

-- ---- texts

-- a type that JSON names is named by its own
pub type_in_again : (d : Data) (type : AvroType) → type_in d ≡ Ok type → (type_in (type_json type) ≡ Ok type) × (depth (type_json type) ≤ 127)
unfolding type_in Again
type_in_again d type e =
    let head = bind_Ok (head_within 32 d) (type_within 32) type e in
    let is = (again_at 32 head.0 type (head_within_is 32 d head.0 head.1) head.2).0 in
    (bind_to (head_within 32 (type_json type)) is.head (type_within 32) is.read ∙ is.grown, omega (arith, is.deep))

pub named_json : (text : List ℕ) (type : AvroType) → type_named text ≡ Ok type → (d : Data) × (type_in d ≡ Ok type)
unfolding type_named
named_json text type e = from (json_of text) e
  where
    from : (o : Option Data) → (type_of_json o) ≡ Ok type → (d : Data) × (type_in d ≡ Ok type)
    from (Some d) e = (d, e)
    from None e = absurd cc

pub named_by : (text : List ℕ) (d : Data) → json_of text ≡ Some d → type_named text ≡ type_in d
unfolding type_named
named_by text d e = ap type_of_json e
