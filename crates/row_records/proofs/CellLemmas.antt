-- The cells of records: what values hold, and what is read of a written record.
use Rattle.std.proofs.Common.{◌≡◌, inl, inr, ℕ, ◌-◌, ◌≤◌, eqb, Bool, true, false, ℤ, List, [], ◌∷◌, ◌++◌, length, map, take, drop, Result, Ok, Err, refl, sym, ap, subst, ◌∙◌, append-nil, append_assoc, rules, arith}
use Rattle.std.specs.Prelude.{sum_by}
use Rattle.std.specs.List.{flat_map}
use Rattle.std.proofs.lemmas.Grind.{flat_map-append}
use Rattle.std.proofs.lemmas.List.{map-append}
use Rattle.std.proofs.lemmas.List.Sums.{sum_by-cons}
use Rattle.byte_fields.specs.declared.field_error.FieldError.{FieldError}
use Rattle.byte_fields.specs.Reading.{Reading, ◌>>=◌, only_if}
use Rattle.byte_fields.proofs.ReadingLemmas.{bind-Ok, bind_is, only_if-Ok}
use Rattle.hudi_base.specs.declared.value.Value.{Value, Null, Boolean, Int, Long, Bytes, Text, Union, Record, out-Value, the_lemmas}
use Rattle.hudi_base.specs.declared.value.Value.TheOpen.{Value-F}
use Rattle.hudi_base.specs.declared.value.Pair.{Pair}
use Rattle.avro_schema.specs.AvroTypes.{record_of}
use Rattle.avro_schema.specs.Fits.{Fits, FitFields}
use Rattle.avro_schema.specs.Reading.{fields_from, made, value_at}
use Rattle.avro_schema.specs.Written.{item_count, written}
use Rattle.avro_value.proofs.DecodeLemmas.{fits_by, written_again}
use Rattle.avro_value.proofs.Values.{item_count-Null, item_count-Boolean, item_count-Int, item_count-Long, item_count-Bytes, item_count-Text, item_count-Union, item_count-Record, written-Record}
use Rattle.row_values.specs.declared.flat_field.CellType.{CellType}
use Rattle.row_values.specs.declared.flat_field.CellType.TheVariants as types
use Rattle.row_values.specs.declared.flat_field.FlatField.{FlatField}
use Rattle.row_values.specs.Fields.{cell_type, type_if_nullable, typed_fields}
use Rattle.row_values.specs.Cells.{AreCells, IsCellOf, record_of_cells, record_values, union_value, value_if_nullable, value_of}
use Rattle.row_values.proofs.CellLemmas.{plain, have_cells}
use Rattle.row_records.specs.Records.{cell_in, cells_at, record_fields}

-- ---- what values hold

cell_in-Null : cell_in Null ≡ Null
cell_in-Null = search (rules, the_lemmas)

cell_in-Boolean : (b : Bool) → cell_in (Boolean b) ≡ Boolean b
cell_in-Boolean b = search (rules, the_lemmas)

cell_in-Int : (z : ℤ) → cell_in (Int z) ≡ Int z
cell_in-Int z = search (rules, the_lemmas)

cell_in-Long : (z : ℤ) → cell_in (Long z) ≡ Long z
cell_in-Long z = search (rules, the_lemmas)

cell_in-Bytes : (content : List ℕ) → cell_in (Bytes content) ≡ Bytes content
cell_in-Bytes content = search (rules, the_lemmas)

cell_in-Text : (content : List ℕ) → cell_in (Text content) ≡ Text content
cell_in-Text content = search (rules, the_lemmas)

cell_in-Union : (n : ℕ) (v : Value) → cell_in (Union n v) ≡ v
cell_in-Union n v = search (rules, the_lemmas)

plain_held : (c : CellType) (v : Value) → Fits (cell_type c) v → cell_in v ≡ v
plain_held types.Boolean v (b, e) = subst (λ (u : Value). cell_in u ≡ u) (sym e) (cell_in-Boolean b)
plain_held types.Int v (z, e, f) = subst (λ (u : Value). cell_in u ≡ u) (sym e) (cell_in-Int z)
plain_held types.Long v (z, e, f) = subst (λ (u : Value). cell_in u ≡ u) (sym e) (cell_in-Long z)
plain_held types.Bytes v (content, e, f) = subst (λ (u : Value). cell_in u ≡ u) (sym e) (cell_in-Bytes content)
plain_held types.Text v (content, e, f, u) = subst (λ (u : Value). cell_in u ≡ u) (sym e) (cell_in-Text content)

held : (n : Bool) (c : CellType) (v : Value) → IsCellOf n c v → cell_in (value_if_nullable n v) ≡ v
held false c v (inl (e, may)) = subst (λ (u : Value). cell_in u ≡ u) (sym e) cell_in-Null
held false c v (inr fit) = plain_held c v fit
held true c v (inl (e, may)) = subst (λ (u : Value). cell_in (union_value u) ≡ u) (sym e) (cell_in-Union 0 Null)
held true c v (inr fit) = ap cell_in (plain c v fit) ∙ cell_in-Union 1 v

-- the cells of the values that cells have in a record
pub cells_back : (fields : List FlatField) (cells : List Value) → AreCells fields cells → map cell_in (record_values fields cells) ≡ cells
cells_back [] [] fit = refl
cells_back [] (c ∷ cells) fit = absurd fit
cells_back (f ∷ fields) [] fit = absurd fit
cells_back (f ∷ fields) (c ∷ cells) fit =
    ap (λ (v : Value). v ∷ map cell_in (record_values fields cells)) (held f.nullable f.cell c fit.0)
    ∙ ap (λ (vs : List Value). c ∷ vs) (cells_back fields cells fit.1)

-- ---- cells fit

fits_field : (n : Bool) (c : CellType) (v : Value) → IsCellOf n c v → Fits (type_if_nullable n (cell_type c)) (value_if_nullable n v)
fits_field false c v (inl (e, may)) = absurd cc
fits_field false c v (inr fit) = fit
fits_field true c v (inl (e, may)) = subst (λ (u : Value). Fits (type_if_nullable true (cell_type c)) (union_value u)) (sym e) (0, Null, refl, omega arith, refl)
fits_field true c v (inr fit) = (1, v, plain c v fit, omega arith, fit)

pub record_fits : (fields : List FlatField) (cells : List Value) → AreCells fields cells → FitFields (typed_fields fields) (record_values fields cells)
record_fits [] [] fit = refl
record_fits [] (c ∷ cells) fit = absurd fit
record_fits (f ∷ fields) [] fit = absurd fit
record_fits (f ∷ fields) (c ∷ cells) fit =
    (value_of (f, c), record_values fields cells, refl, fits_field f.nullable f.cell c fit.0, record_fits fields cells fit.1)

-- ---- a flat record has no item

no_item : (c : CellType) (v : Value) → Fits (cell_type c) v → item_count v ≡ 0
no_item types.Boolean v (b, e) = ap item_count e ∙ item_count-Boolean b
no_item types.Int v (z, e, f) = ap item_count e ∙ item_count-Int z
no_item types.Long v (z, e, f) = ap item_count e ∙ item_count-Long z
no_item types.Bytes v (content, e, f) = ap item_count e ∙ item_count-Bytes content
no_item types.Text v (content, e, f, u) = ap item_count e ∙ item_count-Text content

no_field_item : (n : Bool) (c : CellType) (v : Value) → IsCellOf n c v → item_count (value_if_nullable n v) ≡ 0
no_field_item false c v (inl (e, may)) = ap item_count e ∙ item_count-Null
no_field_item false c v (inr fit) = no_item c v fit
no_field_item true c v (inl (e, may)) = ap (λ (u : Value). item_count (union_value u)) e ∙ item_count-Union 0 Null ∙ item_count-Null
no_field_item true c v (inr fit) = ap item_count (plain c v fit) ∙ item_count-Union 1 v ∙ no_item c v fit

no_items : (fields : List FlatField) (cells : List Value) → AreCells fields cells → sum_by item_count (record_values fields cells) ≡ 0
no_items [] [] fit = refl
no_items [] (c ∷ cells) fit = absurd fit
no_items (f ∷ fields) [] fit = absurd fit
no_items (f ∷ fields) (c ∷ cells) fit =
    omega (arith, sum_by-cons item_count (value_of (f, c)) (record_values fields cells), no_field_item f.nullable f.cell c fit.0, no_items fields cells fit.1)

-- ---- records

values_in : Value-F Value Pair → List Value
values_in (Value-F.Record vs) = vs
values_in _ = []

values_in-Record : (vs : List Value) → values_in (out-Value (Record vs)) ≡ vs
unfolding values_in
values_in-Record vs = search (rules, the_lemmas)

pub same_record : (vs ws : List Value) → Record vs ≡ Record ws → vs ≡ ws
same_record vs ws e = sym (values_in-Record vs) ∙ ap (λ (v : Value). values_in (out-Value v)) e ∙ values_in-Record ws

abbrev Pairing : (Value × ℕ) × List ℕ → (Value × ℕ) × List ℕ → Type 0
Pairing p q = p ≡ q

from_record : (r : Reading (List Value × ℕ)) (vs : List Value) (k : ℕ) (rest : List ℕ) → made Record r ≡ Ok ((Record vs, k), rest) → r ≡ Ok ((vs, k), rest)
from_record (Ok x) vs k rest e =
    let pair : Pairing ((Record x.0.0, x.0.1), x.1) ((Record vs, k), rest) = cc in
    let whole : Record x.0.0 ≡ Record vs = ap (λ (p : (Value × ℕ) × List ℕ). p.0.0) pair in
    let left : x.0.1 ≡ k = ap (λ (p : (Value × ℕ) × List ℕ). p.0.1) pair in
    let after : x.1 ≡ rest = ap (λ (p : (Value × ℕ) × List ℕ). p.1) pair in
    ap (λ (ws : List Value). let r : Reading (List Value × ℕ) = Ok ((ws, x.0.1), x.1) in r) (same_record x.0.0 vs whole)
    ∙ ap (λ (n : ℕ). let r : Reading (List Value × ℕ) = Ok ((vs, n), x.1) in r) left
    ∙ ap (λ (bs : List ℕ). let r : Reading (List Value × ℕ) = Ok ((vs, k), bs) in r) after
from_record (Err error) vs k rest e = absurd cc

-- what is written of cells is read as these
pub cells_again : (fields : List FlatField) (cells : List Value) → AreCells fields cells → cells_at fields (written (record_of_cells fields cells)) ≡ Ok cells
unfolding cells_at
cells_again fields cells fit =
    let values = record_values fields cells in
    let bytes = written (Record values) in
    let type = record_of [] (typed_fields fields) in
    let count : item_count (Record values) ≡ 0 = item_count-Record values ∙ no_items fields cells fit in
    let again = written_again type (Record values) bytes refl (values, refl, record_fits fields cells fit) [] (omega (arith, count)) in
    let read : fields_from (typed_fields fields) [] 1000000 bytes ≡ Ok ((values, 1000000 - item_count (Record values)), []) =
    from_record (fields_from (typed_fields fields) [] 1000000 bytes) values (1000000 - item_count (Record values)) [] (ap (value_at type 1000000) (sym (append-nil bytes)) ∙ again) in
    bind_is (fields_from (typed_fields fields) [] 1000000 bytes) ((values, 1000000 - item_count (Record values)), []) (λ found. only_if (eqb (length found.1) 0) found.1 (map cell_in found.0.0)) read
    ∙ ap (λ (cs : List Value). let r : Result (List Value) FieldError = Ok cs in r) (cells_back fields cells fit)

pub fit_of : (fields : List FlatField) (bytes : List ℕ) (vs : List Value) (k : ℕ) (rest : List ℕ) → fields_from (typed_fields fields) [] 1000000 bytes ≡ Ok ((vs, k), rest) → FitFields (typed_fields fields) vs
fit_of fields bytes vs k rest e =
    let fits = fits_by (record_of [] (typed_fields fields)) bytes (Record vs) k rest (ap (made Record) e) in
    subst (FitFields (typed_fields fields)) (sym (same_record vs fits.0 fits.1)) fits.2

-- cells that are read fit
pub cells_fit : (fields : List FlatField) (bytes : List ℕ) (cells : List Value) → cells_at fields bytes ≡ Ok cells → AreCells fields cells
unfolding cells_at
cells_fit fields bytes cells e =
    let first = bind-Ok (fields_from (typed_fields fields) [] 1000000 bytes) (λ found. only_if (eqb (length found.1) 0) found.1 (map cell_in found.0.0)) cells e in
    let told = only_if-Ok (eqb (length first.0.1) 0) first.0.1 (map cell_in first.0.0.0) cells first.2 in
    let own = have_cells fields first.0.0.0 (fit_of fields bytes first.0.0.0 first.0.0.1 first.0.1 first.1) in
    let same : own.cells ≡ cells = sym (cells_back fields own.cells own.fit) ∙ ap (map cell_in) own.whole ∙ told.1 in
    subst (AreCells fields) same own.fit

-- cells that were read, with what is behind them
pub cells_found : (fields : List FlatField) (bytes : List ℕ) (cells : List Value) (k : ℕ) (rest : List ℕ) → AreCells fields cells → fields_from (typed_fields fields) [] 1000000 bytes ≡ Ok ((record_values fields cells, k), rest)
    → cells_at fields bytes ≡ only_if (eqb (length rest) 0) rest cells
unfolding cells_at
cells_found fields bytes cells k rest fit e =
    bind_is (fields_from (typed_fields fields) [] 1000000 bytes) ((record_values fields cells, k), rest) (λ found. only_if (eqb (length found.1) 0) found.1 (map cell_in found.0.0)) e
    ∙ ap (λ (cs : List Value). only_if (eqb (length rest) 0) rest cs) (cells_back fields cells fit)

pub cells_not_found : (fields : List FlatField) (bytes : List ℕ) (error : FieldError) → fields_from (typed_fields fields) [] 1000000 bytes ≡ Err error → cells_at fields bytes ≡ Err error
unfolding cells_at
cells_not_found fields bytes error e = ap (λ (r : Reading (List Value × ℕ)). r >>= λ found. only_if (eqb (length found.1) 0) found.1 (map cell_in found.0.0)) e

-- ---- the texts of a record, and its own cells

texts_written : (a b c d e : List ℕ) → written (Record (Text a ∷ Text b ∷ Text c ∷ Text d ∷ Text e ∷ []))
    ≡ written (Text a) ++ (written (Text b) ++ (written (Text c) ++ (written (Text d) ++ (written (Text e) ++ []))))
texts_written a b c d e = written-Record (Text a ∷ Text b ∷ Text c ∷ Text d ∷ Text e ∷ [])

regrouped : (a b c d e : List ℕ) → ((((([] ++ a) ++ b) ++ c) ++ d) ++ e) ≡ a ++ (b ++ (c ++ (d ++ (e ++ []))))
regrouped a b c d e = simp (append_assoc, append-nil)

pub record_written : (a b c d e body v w x y z out : List ℕ) → v ≡ [] ++ written (Text a) → w ≡ v ++ written (Text b) → x ≡ w ++ written (Text c) → y ≡ x ++ written (Text d) → z ≡ y ++ written (Text e) → out ≡ z ++ body
    → out ≡ written (Record (Text a ∷ Text b ∷ Text c ∷ Text d ∷ Text e ∷ [])) ++ body
record_written a b c d e body v w x y z out va wb xc yd ze outb =
    outb
    ∙ ap (λ (bs : List ℕ). bs ++ body)
    (ze
    ∙ ap (λ (bs : List ℕ). bs ++ written (Text e)) (yd ∙ ap (λ (bs : List ℕ). bs ++ written (Text d)) (xc ∙ ap (λ (bs : List ℕ). bs ++ written (Text c)) (wb ∙ ap (λ (bs : List ℕ). bs ++ written (Text b)) va)))
    ∙ regrouped (written (Text a)) (written (Text b)) (written (Text c)) (written (Text d)) (written (Text e))
    ∙ sym (texts_written a b c d e))

-- the parts of the cells of a record
pub record HasParts (fields : List FlatField) (cells : List Value) : Type 0 where
  pub long : 5 ≤ length cells
  pub texts : AreCells (take 5 (record_fields fields)) (take 5 cells)
  pub own : AreCells fields (drop 5 cells)
  pub bytes : written (record_of_cells (record_fields fields) cells) ≡ written (record_of_cells (take 5 (record_fields fields)) (take 5 cells)) ++ written (record_of_cells fields (drop 5 cells))

pub written_joined : (xs ys : List Value) → written (Record (xs ++ ys)) ≡ written (Record xs) ++ written (Record ys)
written_joined xs ys =
    written-Record (xs ++ ys)
    ∙ ap (flat_map (λ (bs : List ℕ). bs)) (map-append written xs ys)
    ∙ flat_map-append (λ (bs : List ℕ). bs) (map written xs) (map written ys)
    ∙ ap (λ (bs : List ℕ). bs ++ flat_map (λ (cs : List ℕ). cs) (map written ys)) (sym (written-Record xs))
    ∙ ap (λ (bs : List ℕ). written (Record xs) ++ bs) (sym (written-Record ys))

pub parts_of : (fields : List FlatField) (cells : List Value) → AreCells (record_fields fields) cells → HasParts fields cells
unfolding record_fields
parts_of fields [] fit = absurd fit
parts_of fields (a ∷ []) fit = absurd fit.1
parts_of fields (a ∷ b ∷ []) fit = absurd fit.1.1
parts_of fields (a ∷ b ∷ c ∷ []) fit = absurd fit.1.1.1
parts_of fields (a ∷ b ∷ c ∷ d ∷ []) fit = absurd fit.1.1.1.1
parts_of fields (a ∷ b ∷ c ∷ d ∷ e ∷ own) fit = record {
  long = omega arith;
  texts = (fit.0, (fit.1.0, (fit.1.1.0, (fit.1.1.1.0, (fit.1.1.1.1.0, tt)))));
  own = fit.1.1.1.1.1;
  bytes = written_joined (a ∷ b ∷ c ∷ d ∷ e ∷ []) (record_values fields own);
}
