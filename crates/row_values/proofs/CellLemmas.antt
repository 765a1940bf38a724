-- Cells, the values of records, and their written forms.
use Rattle.std.proofs.Common.{◌≡◌, inl, inr, ℕ, zero, suc, ◌+◌, ◌<◌, ◌≤◌, Bool, true, false, List, [], ◌∷◌, ◌++◌, length, get_or, take, map, All, refl, sym, ap, subst, ◌∙◌, arith, length-append, append-nil}
use Rattle.std.specs.Prelude.{flat_map}
use Rattle.std.specs.List.{AllZip, zip}
use Rattle.std.proofs.lemmas.Grind.{flat_map-append}
use Rattle.std.proofs.lemmas.List.{map-append, take_more, take_all}
use Rattle.std.proofs.lemmas.List.Elements.{All-nil, All-cons}
use Rattle.std.proofs.lemmas.Slice.Zip.{AllZip-long, all_zipped_more, length-zip, get_or-zip}
use Rattle.hudi_base.specs.declared.value.Value.{Value, Null, Union}
use Rattle.hudi_base.specs.declared.value.Value.TheVariants as variant
use Rattle.byte_fields.specs.Prefixed.{with_length, long_bytes}
use Rattle.avro_schema.specs.AvroTypes.{null, branch, no_branches}
use Rattle.avro_schema.specs.Fits.{Fits, FitsBranch, FitFields}
use Rattle.avro_schema.specs.Written.{written}
use Rattle.avro_value.proofs.Values.{written-Bytes, written-Text, written-Union, written-Record}
use Rattle.row_values.specs.declared.flat_field.CellType.{CellType}
use Rattle.row_values.specs.declared.flat_field.CellType.TheVariants as types
use Rattle.row_values.specs.declared.flat_field.FlatField.{FlatField}
use Rattle.row_values.specs.declared.cell_ref.CellRef.{CellRef}
use Rattle.row_values.specs.declared.cell_ref.CellRef.TheVariants as lent
use Rattle.row_values.specs.Fields.{cell_type, type_if_nullable, field_type, typed_fields}
use Rattle.row_values.specs.Cells.{IsCell, IsCellOf, AreCells, IsShortCell, cell_length, cell_view, record_of_cells, record_values, union_value, value_if_nullable, value_of}

-- ---- values of fields

-- a value of a cell's type is in the second branch of a union
pub plain : (c : CellType) (v : Value) → Fits (cell_type c) v → union_value v ≡ Union 1 v
plain types.Boolean v (b, e) = subst (λ (u : Value). union_value u ≡ Union 1 u) (sym e) refl
plain types.Int v (z, e, f) = subst (λ (u : Value). union_value u ≡ Union 1 u) (sym e) refl
plain types.Long v (z, e, f) = subst (λ (u : Value). union_value u ≡ Union 1 u) (sym e) refl
plain types.Bytes v (content, e, f) = subst (λ (u : Value). union_value u ≡ Union 1 u) (sym e) refl
plain types.Text v (content, e, f, u) = subst (λ (u : Value). union_value u ≡ Union 1 u) (sym e) refl

-- the value of a field has a cell
pub record HasCell (n : Bool) (c : CellType) (v : Value) : Type 0 where
  pub cell : Value
  pub fits : IsCellOf n c cell
  pub whole : value_if_nullable n cell ≡ v

in_union : (c : CellType) (k : ℕ) (w : Value) → FitsBranch (branch null (branch (cell_type c) no_branches)) k w → HasCell true c (Union k w)
in_union c zero w fit = record { cell = Null; fits = inl (refl, refl); whole = ap (Union 0) (sym fit) }
in_union c (suc zero) w fit = record { cell = w; fits = inr fit; whole = plain c w fit }
in_union c (suc (suc k)) w fit = absurd fit

pub has_cell : (n : Bool) (c : CellType) (v : Value) → Fits (type_if_nullable n (cell_type c)) v → HasCell n c v
has_cell true c v (k, w, e, lt, fit) = subst (HasCell true c) (sym e) (in_union c k w fit)
has_cell false c v fit = record { cell = v; fits = inr fit; whole = refl }

-- the values of a record have cells
pub record HaveCells (fields : List FlatField) (values : List Value) : Type 0 where
  pub cells : List Value
  pub fit : AreCells fields cells
  pub whole : record_values fields cells ≡ values

pub have_cells : (fields : List FlatField) (values : List Value) → FitFields (typed_fields fields) values → HaveCells fields values
have_cells [] values none = record { cells = []; fit = tt; whole = sym none }
have_cells (f ∷ fields) values (v, ws, e, fit, more) =
    let first = has_cell f.nullable f.cell v fit in
    let rest = have_cells fields ws more in
    record {
      cells = first.cell ∷ rest.cells;
      fit = (first.fits, rest.fit);
      whole = ap (λ (u : Value). u ∷ record_values fields rest.cells) first.whole ∙ ap (λ (us : List Value). v ∷ us) rest.whole ∙ sym e;
    }

-- the values of a record fit one by one
pub fit_each : (fields : List FlatField) (values : List Value) → FitFields (typed_fields fields) values → AllZip (λ f v. Fits (field_type f) v) fields values
fit_each [] values none = subst (AllZip (λ (f : FlatField) (v : Value). Fits (field_type f) v) []) (sym none) tt
fit_each (f ∷ fields) values (v, ws, e, fit, more) =
    subst (AllZip (λ (g : FlatField) (u : Value). Fits (field_type g) u) (f ∷ fields)) (sym e) (fit, fit_each fields ws more)

-- values of fields one by one are those of a record
pub fields_fit : (fields : List FlatField) (values : List Value) → AllZip (λ f v. Fits (field_type f) v) fields values → FitFields (typed_fields fields) values
fields_fit [] [] each = refl
fields_fit [] (v ∷ values) each = absurd each
fields_fit (f ∷ fields) [] each = absurd each
fields_fit (f ∷ fields) (v ∷ values) each = (v, values, refl, each.0, fields_fit fields values each.1)

-- ---- written forms

-- the written form of a field's value
abbrev pub field_bytes : FlatField × Value → List ℕ
field_bytes p = written (value_of p)

joined : (ps : List (FlatField × Value)) → flat_map (λ (bs : List ℕ). bs) (map written (map value_of ps)) ≡ flat_map field_bytes ps
joined [] = refl
joined (p ∷ ps) = ap (λ (bs : List ℕ). field_bytes p ++ bs) (joined ps)

pub written_record : (fields : List FlatField) (cells : List Value) → written (record_of_cells fields cells) ≡ flat_map field_bytes (zip fields cells)
written_record fields cells = written-Record (record_values fields cells) ∙ joined (zip fields cells)

-- no cell is longer than its written form
bytes_length : (content : List ℕ) → length content ≤ length (with_length long_bytes content)
unfolding with_length
bytes_length content = omega (arith, length-append (long_bytes (length content)) content)

length_in : (c : Value) → cell_length c ≤ length (written c)
length_in (variant.Bytes content) = rw (written-Bytes content) (bytes_length content)
length_in (variant.Text content) = rw (written-Text content) (bytes_length content)
length_in _ = omega arith

field_length : (n : Bool) (c : CellType) (v : Value) → IsCellOf n c v → cell_length v ≤ length (written (value_if_nullable n v))
field_length false c v is = length_in v
field_length true c v (inl (e, may)) = subst (λ (u : Value). cell_length u ≤ length (written (union_value u))) (sym e) (omega arith)
field_length true c v (inr fit) = rw (plain c v fit, written-Union 1 v) (omega (arith, length-append (long_bytes 1) (written v), length_in v))

short_in : (limit : ℕ) (fields : List FlatField) (cells : List Value) → AreCells fields cells → length (flat_map field_bytes (zip fields cells)) ≤ limit → All (λ c. cell_length c ≤ limit) cells
short_in limit [] [] fit short = All-nil (λ c. cell_length c ≤ limit)
short_in limit [] (c ∷ cells) fit short = absurd fit
short_in limit (f ∷ fields) [] fit short = absurd fit
short_in limit (f ∷ fields) (c ∷ cells) fit short =
    let sum = length-append (field_bytes (f, c)) (flat_map field_bytes (zip fields cells)) in
    All-cons (λ u. cell_length u ≤ limit) c cells
    (omega (arith, field_length f.nullable f.cell c fit.0, sum))
    (short_in limit fields cells fit.1 (omega (arith, sum)))

-- a short body has short cells
pub short_cells : (fields : List FlatField) (cells : List Value) → AreCells fields cells → length (written (record_of_cells fields cells)) ≤ 65536 → All IsShortCell cells
short_cells fields cells fit short = short_in 65536 fields cells fit (rw (written_record fields cells) at short)

-- one cell more
zip_push : {A B : Type 0} (xs : List A) (ys : List B) (x : A) (y : B) → length ys ≡ length xs → zip (xs ++ x ∷ []) (ys ++ y ∷ []) ≡ zip xs ys ++ (x, y) ∷ []
zip_push [] [] x y same = refl
zip_push [] (b ∷ ys) x y same = absurd (omega (arith, same))
zip_push (a ∷ xs) [] x y same = absurd (omega (arith, same))
zip_push (a ∷ xs) (b ∷ ys) x y same = ap (λ ps. (a, b) ∷ ps) (zip_push xs ys x y (omega (arith, same)))

pub record_values-push : (fields : List FlatField) (cells : List Value) (f : FlatField) (c : Value) → AreCells fields cells → record_values (fields ++ f ∷ []) (cells ++ c ∷ []) ≡ record_values fields cells ++ value_of (f, c) ∷ []
record_values-push fields cells f c fit =
    ap (map value_of) (zip_push fields cells f c (AllZip-long IsCell fields cells fit)) ∙ map-append value_of (zip fields cells) ((f, c) ∷ [])

-- ---- cells one by one

pub values_length : (fields : List FlatField) (values : List Value) → FitFields (typed_fields fields) values → length values ≡ length fields
values_length fields values fit = AllZip-long (λ f v. Fits (field_type f) v) fields values (fit_each fields values fit)

zip_at : {A B : Type 0} (R : A → B → Type 0) (xs : List A) (ys : List B) (i : ℕ) (d : A) (e : B) → AllZip R xs ys → i < length xs → R (get_or xs i d) (get_or ys i e)
zip_at R [] ys i d e each within = absurd (omega (arith, within))
zip_at R (x ∷ xs) [] i d e each within = absurd each
zip_at R (x ∷ xs) (y ∷ ys) zero d e each within = each.0
zip_at R (x ∷ xs) (y ∷ ys) (suc i) d e each within = zip_at R xs ys i d e each.1 (omega (arith, within))

zip_more : {A B : Type 0} (R : A → B → Type 0) (xs : List A) (ys : List B) (i : ℕ) (x : A) (y : B) → i < length xs → x ≡ get_or xs i x → AllZip R (take i xs) ys → R x y → AllZip R (take (i + 1) xs) (ys ++ y ∷ [])
zip_more R xs ys i x y within is each here =
    subst (λ zs. AllZip R zs (ys ++ y ∷ [])) (sym (take_more xs i x within ∙ ap (λ z. take i xs ++ z ∷ []) (sym is))) (all_zipped_more R (take i xs) ys x y each here)

pub fit_at : (fields : List FlatField) (values : List Value) (i : ℕ) (f : FlatField) (v : Value) → FitFields (typed_fields fields) values → i < length fields
    → f ≡ get_or fields i f → v ≡ get_or values i v → Fits (field_type f) v
fit_at fields values i f v fit within f-is v-is =
    subst (λ (g : FlatField). Fits (field_type g) v) (sym f-is)
    (subst (λ (u : Value). Fits (field_type (get_or fields i f)) u) (sym v-is) (zip_at (λ g u. Fits (field_type g) u) fields values i f v (fit_each fields values fit) within))

-- one cell more
pub record CellsSoFar (fields : List FlatField) (values : List Value) (i : ℕ) (cells : List Value) : Type 0 where
  pub fit : AreCells (take i fields) cells
  pub whole : record_values (take i fields) cells ≡ take i values

pub cells_more : (fields : List FlatField) (values : List Value) (i : ℕ) (cells : List Value) (f : FlatField) (v cell : Value) → length values ≡ length fields → i < length fields
    → f ≡ get_or fields i f → v ≡ get_or values i v → IsCell f cell → value_of (f, cell) ≡ v → CellsSoFar fields values i cells → CellsSoFar fields values (i + 1) (cells ++ cell ∷ [])
cells_more fields values i cells f v cell same within f-is v-is is told so_far =
    let fs : take (i + 1) fields ≡ take i fields ++ f ∷ [] = take_more fields i f within ∙ ap (λ (g : FlatField). take i fields ++ g ∷ []) (sym f-is) in
    let below : i < length values = omega (arith, same) in
    let vs : take (i + 1) values ≡ take i values ++ v ∷ [] = take_more values i v below ∙ ap (λ (u : Value). take i values ++ u ∷ []) (sym v-is) in
    record {
      fit = zip_more IsCell fields cells i f cell within f-is so_far.fit is;
      whole =
          ap (λ (gs : List FlatField). record_values gs (cells ++ cell ∷ [])) fs
          ∙ record_values-push (take i fields) cells f cell so_far.fit
          ∙ ap (λ (us : List Value). us ++ value_of (f, cell) ∷ []) so_far.whole
          ∙ ap (λ (u : Value). take i values ++ u ∷ []) told
          ∙ sym vs;
    }

pub cells_whole : (fields : List FlatField) (values : List Value) (i : ℕ) (cells : List Value) → length values ≡ length fields → length fields ≤ i → CellsSoFar fields values i cells
    → AreCells fields cells × (record_values fields cells ≡ values)
cells_whole fields values i cells same over so_far =
    let all_fields : take i fields ≡ fields = take_all i fields over in
    let all_values : take i values ≡ values = take_all i values (omega (arith, same)) in
    (subst (λ (gs : List FlatField). AreCells gs cells) all_fields so_far.fit, ap (λ (gs : List FlatField). record_values gs cells) (sym all_fields) ∙ so_far.whole ∙ all_values)

-- the written form of one field more
pub bytes_more : (fields : List FlatField) (cells : List Value) (i : ℕ) (f : FlatField) (c : Value) → AreCells fields cells → i < length fields → f ≡ get_or fields i f → c ≡ get_or cells i c
    → flat_map field_bytes (take (i + 1) (zip fields cells)) ≡ flat_map field_bytes (take i (zip fields cells)) ++ field_bytes (f, c)
bytes_more fields cells i f c fit within f-is c-is =
    let same : length cells ≡ length fields = AllZip-long IsCell fields cells fit in
    let below : i < length cells = omega (arith, same) in
    let here : i < length (zip fields cells) = omega (arith, length-zip fields cells, same) in
    let one : get_or (zip fields cells) i (f, c) ≡ (f, c) = get_or-zip fields cells i (f, c) within below ∙ ap (λ (g : FlatField). let p : FlatField × Value = (g, get_or cells i c) in p) (sym f-is) ∙ ap (λ (u : Value). let p : FlatField × Value = (f, u) in p) (sym c-is) in
    ap (flat_map field_bytes) (take_more (zip fields cells) i (f, c) here ∙ ap (λ (p : FlatField × Value). take i (zip fields cells) ++ p ∷ []) one)
    ∙ flat_map-append field_bytes (take i (zip fields cells)) ((f, c) ∷ [])
    ∙ ap (λ (bs : List ℕ). flat_map field_bytes (take i (zip fields cells)) ++ bs) (append-nil (field_bytes (f, c)))

pub bytes_whole : (fields : List FlatField) (cells : List Value) (i : ℕ) → AreCells fields cells → length fields ≤ i → flat_map field_bytes (take i (zip fields cells)) ≡ written (record_of_cells fields cells)
bytes_whole fields cells i fit over =
    let all : take i (zip fields cells) ≡ zip fields cells = take_all i (zip fields cells) (omega (arith, length-zip fields cells)) in
    ap (flat_map field_bytes) all ∙ sym (written_record fields cells)

pub values_more : (fields : List FlatField) (values : List Value) (i : ℕ) (f : FlatField) (v : Value) → i < length fields → f ≡ get_or fields i f → Fits (field_type f) v
    → AllZip (λ g u. Fits (field_type g) u) (take i fields) values → AllZip (λ g u. Fits (field_type g) u) (take (i + 1) fields) (values ++ v ∷ [])
values_more fields values i f v within is fit each = zip_more (λ g u. Fits (field_type g) u) fields values i f v within is each fit

-- a cell that isn't null is in the second branch of a union
pub second : (c : CellRef) → (c ≡ lent.Null → ⊥) → union_value (cell_view c) ≡ Union 1 (cell_view c)
second lent.Null not = absurd (not refl)
second (lent.Boolean truth) not = refl
second (lent.Int number) not = refl
second (lent.Long number) not = refl
second (lent.Bytes content) not = refl
second (lent.Text text) not = refl
