-- A reading is at least as long as the written form of its value, and is that form where it is as long.
use Rattle.std.proofs.Common.{◌≡◌, ℕ, zero, suc, ◌+◌, ◌*◌, ◌/◌, ◌%◌, ◌<◌, ◌≤◌, eqb, Bool, true, false, List, [], ◌∷◌, ◌++◌, length, map, take, drop, Ok, inl, inr, ◌-◌, refl, sym, ap, subst, ◌∙◌, arith}
use Rattle.std.specs.List.{flat_map}
use Rattle.std.proofs.lemmas.Bool.{cases_lt, eqb-true}
use Rattle.std.proofs.lemmas.List.{length-append, take-append-drop, take_all, take_at, drop_at}
use Rattle.std.proofs.lemmas.Grind.{flat_map-append}
use Rattle.byte_fields.specs.Prefixed.{long_bytes, with_length}
use Rattle.byte_fields.specs.Varints.{groups_number, groups_of, varint, zigzag, IsGroupsFrom, IsVarint}
use Rattle.byte_fields.specs.Reading.{only_if}
use Rattle.byte_fields.proofs.ReadingLemmas.{bind-Ok, only_if-Ok, IsBytes, IsBytes-drop, IsBytes-take}
use Rattle.byte_fields.proofs.VarintLemmas.{groups_number-cons, groups_number-one, groups_of-more, groups_of-one, varint-least, varint-one}
use Rattle.hudi_base.specs.declared.value.Value.{Value, Union, Record}
use Rattle.avro_schema.specs.AvroTypes.{record_of}
use Rattle.avro_schema.specs.Grammar.{AreFields, IsReading}
use Rattle.avro_schema.specs.Reading.{fields_from, made}
use Rattle.avro_schema.specs.Written.{written}
use Rattle.avro_value.proofs.DecodeLemmas.{found_by}
use Rattle.avro_value.proofs.Values.{written-Boolean, written-Bytes, written-Int, written-Long, written-Null, written-Record, written-Text, written-Union}
use Rattle.row_values.specs.declared.flat_field.CellType.{CellType}
use Rattle.row_values.specs.declared.flat_field.CellType.TheVariants as types
use Rattle.row_values.specs.declared.flat_field.FlatField.{FlatField}
use Rattle.row_values.specs.Fields.{cell_type, type_if_nullable, typed_fields}
use Rattle.row_values.specs.Cells.{AreCells, record_of_cells, record_values}
use Rattle.row_values.proofs.CellLemmas.{field_bytes, have_cells}
use Rattle.row_records.specs.Records.{cell_in, cells_at, record_fields}
use Rattle.row_records.proofs.CellLemmas.{cells_back, fit_of, parts_of}

-- ---- forms

-- the bytes are no shorter than a form, and are that form where they are no longer
pub record IsExact (bytes form : List ℕ) : Type 0 where
  pub least : length form ≤ length bytes
  pub same : length bytes ≤ length form → bytes ≡ form

exact_itself : (bytes : List ℕ) → IsExact bytes bytes
exact_itself bytes = record { least = omega arith; same = λ _. refl }

exact_joined : (a x b y : List ℕ) → IsExact a x → IsExact b y → IsExact (a ++ b) (x ++ y)
exact_joined a x b y first second = record {
  least = omega (arith, length-append a b, length-append x y, first.least, second.least);
  same = λ few.
      let one : a ≡ x = first.same (omega (arith, length-append a b, length-append x y, second.least, few)) in
      let two : b ≡ y = second.same (omega (arith, length-append a b, length-append x y, first.least, few)) in
      ap (λ (t : List ℕ). t ++ b) one ∙ ap (λ (t : List ℕ). x ++ t) two;
}

exact_as : (bytes same form other : List ℕ) → bytes ≡ same → form ≡ other → IsExact same other → IsExact bytes form
exact_as bytes same form other e f exact = subst (λ (t : List ℕ). IsExact t form) (sym e) (subst (λ (t : List ℕ). IsExact same t) (sym f) exact)

fit_first : (bytes a b : List ℕ) → bytes ≡ a ++ b → IsBytes bytes → IsBytes a
fit_first bytes a b parts fit = subst IsBytes (ap (take (length a)) parts ∙ take_at a b (length a) refl) (IsBytes-take (length a) bytes fit)

fit_rest : (bytes a b : List ℕ) → bytes ≡ a ++ b → IsBytes bytes → IsBytes b
fit_rest bytes a b parts fit = subst IsBytes (ap (drop (length a)) parts ∙ drop_at a b (length a) refl) (IsBytes-drop (length a) bytes fit)

-- ---- numbers

-- groups of a number as many as it needs are its written groups
groups_exact : (x : ℕ) (xs : List ℕ) (k : ℕ) → IsBytes (x ∷ xs) → IsGroupsFrom x xs → length xs ≤ k
    → suc (length xs) ≤ length (groups_of (suc k) (groups_number (x ∷ xs))) → x ∷ xs ≡ groups_of (suc k) (groups_number (x ∷ xs))
groups_exact x [] k fit last room few =
    let n : groups_number (x ∷ []) ≡ x = groups_number-one x last in
    sym (groups_of-one k (groups_number (x ∷ [])) (omega (arith, n)) ∙ ap (λ (m : ℕ). m ∷ []) n)
groups_exact x (y ∷ ys) zero fit groups room few = absurd (omega arith)
groups_exact x (y ∷ ys) (suc k) fit groups room few =
    let n = groups_number (x ∷ y ∷ ys) in
    let m = groups_number (y ∷ ys) in
    let e : n ≡ x % 128 + 128 * m = groups_number-cons x (y ∷ ys) in
    elim (cases_lt n 128) [
      | inl small ↦ absurd (omega (arith, few, ap length (groups_of-one (suc k) n small)))
      | inr large ↦
          let more = groups_of-more (suc k) n large in
          let rest : n / 128 ≡ m = omega arith in
          let byte : x < 256 = fit 0 in
          let first : 128 + n % 128 ≡ x = omega (arith, groups.0) in
          let inner = groups_exact y ys k (IsBytes-drop 1 (x ∷ y ∷ ys) fit) groups.1 (omega arith) (omega (arith, few, ap length more, ap (λ (j : ℕ). length (groups_of (suc k) j)) rest)) in
          ap (λ (t : List ℕ). x ∷ t) (inner ∙ ap (groups_of (suc k)) (sym rest)) ∙ ap (λ (j : ℕ). j ∷ groups_of (suc k) (n / 128)) (sym first) ∙ sym more
    ]

varint_exact : (bytes : List ℕ) (n : ℕ) → IsBytes bytes → IsVarint bytes n → IsExact bytes (varint n)
unfolding varint
varint_exact [] n fit is = absurd is.groups
varint_exact (x ∷ xs) n fit is = record {
  least = varint-least (x ∷ xs) n is;
  same = λ few.
      groups_exact x xs 9 fit is.groups (omega (arith, is.at_most_ten)) (omega (arith, few, ap (λ (k : ℕ). length (groups_of 10 k)) is.number))
      ∙ ap (groups_of 10) is.number;
}

prefixed_exact : (bytes len content : List ℕ) → IsBytes bytes → bytes ≡ len ++ content → IsVarint len (2 * length content) → IsExact bytes (with_length long_bytes content)
unfolding with_length
prefixed_exact bytes len content fit parts is =
    exact_as bytes (len ++ content) _ _ parts refl (exact_joined len (varint (2 * length content)) content content (varint_exact len (2 * length content) (fit_first bytes len content parts fit) is) (exact_itself content))

-- ---- values

cell_exact : (c : CellType) (v : Value) (bytes : List ℕ) → IsBytes bytes → IsReading (cell_type c) v bytes → IsExact bytes (written v)
cell_exact types.Boolean v bytes fit (b, e, parts) = exact_as bytes _ (written v) _ parts (ap written e ∙ written-Boolean b) (exact_itself _)
cell_exact types.Int v bytes fit (z, e, (is, small)) = exact_as bytes bytes (written v) _ refl (ap written e ∙ written-Int z) (varint_exact bytes (zigzag z) fit is)
cell_exact types.Long v bytes fit (z, e, is) = exact_as bytes bytes (written v) _ refl (ap written e ∙ written-Long z) (varint_exact bytes (zigzag z) fit is)
cell_exact types.Bytes v bytes fit (content, e, (len, parts, is)) =
    exact_as bytes bytes (written v) _ refl (ap written e ∙ written-Bytes content) (prefixed_exact bytes len content fit parts is)
cell_exact types.Text v bytes fit (content, e, (utf8, (len, parts, is))) =
    exact_as bytes bytes (written v) _ refl (ap written e ∙ written-Text content) (prefixed_exact bytes len content fit parts is)

branch_exact : (c : CellType) (n : ℕ) (w v : Value) (bytes index rest : List ℕ) → IsBytes bytes → v ≡ Union n w → bytes ≡ index ++ rest → IsVarint index (2 * n) → IsExact rest (written w) → IsExact bytes (written v)
branch_exact c n w v bytes index rest fit e parts is inner =
    exact_as bytes (index ++ rest) (written v) _ parts (ap written e ∙ written-Union n w)
    (exact_joined index (long_bytes n) rest (written w) (varint_exact index (2 * n) (fit_first bytes index rest parts fit) is) inner)

field_exact : (nullable : Bool) (c : CellType) (v : Value) (bytes : List ℕ) → IsBytes bytes → IsReading (type_if_nullable nullable (cell_type c)) v bytes → IsExact bytes (written v)
field_exact false c v bytes fit is = cell_exact c v bytes fit is
field_exact true c v bytes fit (zero, w, index, rest, e, parts, (is, small), (null, none)) =
    branch_exact c 0 w v bytes index rest fit e parts is (exact_as rest [] (written w) [] none (ap written null ∙ written-Null) (exact_itself []))
field_exact true c v bytes fit (suc zero, w, index, rest, e, parts, (is, small), inner) =
    branch_exact c 1 w v bytes index rest fit e parts is (cell_exact c w rest (fit_rest bytes index rest parts fit) inner)
field_exact true c v bytes fit (suc (suc n), w, index, rest, e, parts, is, inner) = absurd inner

fields_exact : (fields : List FlatField) (vs : List Value) (bytes : List ℕ) → IsBytes bytes → AreFields (typed_fields fields) vs bytes → IsExact bytes (flat_map (λ (bs : List ℕ). bs) (map written vs))
fields_exact [] vs bytes fit (none, empty) = exact_as bytes [] _ [] empty (ap (λ (us : List Value). flat_map (λ (bs : List ℕ). bs) (map written us)) none) (exact_itself [])
fields_exact (f ∷ fields) vs bytes fit (v, ws, first, rest, e, parts, is, more) =
    exact_as bytes (first ++ rest) _ _ parts (ap (λ (us : List Value). flat_map (λ (bs : List ℕ). bs) (map written us)) e)
    (exact_joined first (written v) rest (flat_map (λ (bs : List ℕ). bs) (map written ws))
    (field_exact f.nullable f.cell v first (fit_first bytes first rest parts fit) is) (fields_exact fields ws rest (fit_rest bytes first rest parts fit) more))

-- ---- records

record_exact_of : (fields : List FlatField) (vs : List Value) (bytes : List ℕ) → IsBytes bytes → IsReading (record_of [] (typed_fields fields)) (Record vs) bytes → IsExact bytes (written (Record vs))
record_exact_of fields vs bytes fit (us, e, are) =
    exact_as bytes bytes (written (Record vs)) _ refl (ap written e ∙ written-Record us) (fields_exact fields us bytes fit are)

-- a record of cells that is read
pub record_exact : (fields : List FlatField) (bytes : List ℕ) (cells : List Value) → IsBytes bytes → cells_at fields bytes ≡ Ok cells → IsExact bytes (written (record_of_cells fields cells))
unfolding cells_at
record_exact fields bytes cells fit e =
    let first = bind-Ok (fields_from (typed_fields fields) [] 1000000 bytes) (λ found. only_if (eqb (length found.1) 0) found.1 (map cell_in found.0.0)) cells e in
    let told = only_if-Ok (eqb (length first.0.1) 0) first.0.1 (map cell_in first.0.0.0) cells first.2 in
    let values = first.0.0.0 in
    let own = have_cells fields values (fit_of fields bytes values first.0.0.1 first.0.1 first.1) in
    let same : own.cells ≡ cells = sym (cells_back fields own.cells own.fit) ∙ ap (map cell_in) own.whole ∙ told.1 in
    let found = found_by (record_of [] (typed_fields fields)) bytes (Record values) first.0.0.1 first.0.1 (ap (made Record) first.1) in
    let none : length first.0.1 ≡ 0 = eqb-true (length first.0.1) 0 told.0 in
    let all : take (length bytes - length first.0.1) bytes ≡ bytes = take_all (length bytes - length first.0.1) bytes (omega (arith, none)) in
    let exact = record_exact_of fields values bytes fit (subst (IsReading (record_of [] (typed_fields fields)) (Record values)) all found.reading) in
    subst (λ (vs : List Value). IsExact bytes (written (Record vs))) (sym own.whole ∙ ap (record_values fields) same) exact

-- ---- lengths

pub content_form : (content : List ℕ) → length (with_length long_bytes content) ≡ length (varint (2 * length content)) + length content
unfolding with_length
content_form content = length-append (varint (2 * length content)) content

pub branch_form : (n : ℕ) → n < 64 → length (long_bytes n) ≡ 1
branch_form n small = ap length (varint-one (2 * n) (omega arith))

pub fields_upto : (ps : List (FlatField × Value)) (n : ℕ) → length (flat_map field_bytes (take n ps)) ≤ length (flat_map field_bytes ps)
fields_upto ps n =
    omega (
      arith,
      ap (λ (qs : List (FlatField × Value)). length (flat_map field_bytes qs)) (take-append-drop n ps),
      ap length (flat_map-append field_bytes (take n ps) (drop n ps)),
      length-append (flat_map field_bytes (take n ps)) (flat_map field_bytes (drop n ps)),
    )

-- the lengths of the texts of a record and of its own cells
pub record_form : (fields : List FlatField) (cells : List Value) → AreCells (record_fields fields) cells
    → length (written (record_of_cells (take 5 (record_fields fields)) (take 5 cells))) + length (written (record_of_cells fields (drop 5 cells))) ≡ length (written (record_of_cells (record_fields fields) cells))
record_form fields cells fit =
    let parts = parts_of fields cells fit in
    omega (arith, ap length parts.bytes, length-append (written (record_of_cells (take 5 (record_fields fields)) (take 5 cells))) (written (record_of_cells fields (drop 5 cells))))
