-- Cells that are read, one after another.
use Rattle.std.proofs.Common.{◌≡◌, ◌⊎◌, inl, inr, ℕ, ◌+◌, ◌<◌, ◌≤◌, true, false, List, [], ◌∷◌, ◌++◌, length, get_or, take, drop, Result, Ok, Err, refl, sym, ap, subst, ◌∙◌}
use Rattle.std.specs.Borrow.{Bor}
use Rattle.std.proofs.lemmas.List.{drop_more, drop_all, take_more, take_all}
use Rattle.std.proofs.lemmas.Slice.Zip.{all_zipped_more}
use Rattle.byte_fields.specs.declared.field_error.FieldError.{FieldError}
use Rattle.byte_fields.specs.Reading.{Gives, Reading, ◌>>=◌}
use Rattle.hudi_base.specs.declared.value.Value.{Value, Null, Union}
use Rattle.avro_schema.specs.AvroTypes.{null, branch, no_branches}
use Rattle.avro_schema.specs.Reading.{branch_at, fields_from, index_at, made, value_at}
use Rattle.avro_value.proofs.DecodeLemmas.{fits_by}
use Rattle.row_values.specs.declared.cell_ref.CellRef.{CellRef}
use Rattle.row_values.specs.declared.flat_field.CellType.{CellType}
use Rattle.row_values.specs.declared.flat_field.FlatField.{FlatField}
use Rattle.row_values.specs.Fields.{cell_type, field_type, type_if_nullable, typed_fields}
use Rattle.row_values.specs.Cells.{AreCells, IsCell, cell_view, record_values, union_value, value_of}
use Rattle.row_values.proofs.CellLemmas.{plain, record_values-push}
use Rattle.row_bodies.specs.Readers.{ReadsCell}

abbrev pub PlainCell : CellType → List ℕ → Result (CellRef × Bor (List ℕ)) FieldError → Type 0
PlainCell type bytes result = (left : ℕ) → Gives (λ x. ((cell_view x.0, left), x.1.now)) result (value_at (cell_type type) left bytes)

-- a cell of a field that is never null
pub plain_cell : (type : CellType) (bytes : List ℕ) (result : Result (CellRef × Bor (List ℕ)) FieldError) → PlainCell type bytes result
    → (left : ℕ) → ReadsCell false type left result (value_at (cell_type type) left bytes)
plain_cell type bytes (Ok x) told left = (inr (fits_by (cell_type type) bytes (cell_view x.0) 1000000 x.1.now (told 1000000)), told left)
plain_cell type bytes (Err error) told left = told left

abbrev behind_branch : CellType → ℕ → ℕ × List ℕ → Reading (Value × ℕ)
behind_branch type left index = made (Union index.0) (branch_at (branch null (branch (cell_type type) no_branches)) index.0 left index.1)

-- a cell in the second branch
pub second_cell : (type : CellType) (bytes rest : List ℕ) (result : Result (CellRef × Bor (List ℕ)) FieldError) → index_at 2 bytes ≡ Ok (1, rest) → PlainCell type rest result
    → (left : ℕ) → ReadsCell true type left result (value_at (type_if_nullable true (cell_type type)) left bytes)
second_cell type bytes rest (Ok x) branch-is told left =
    let fits = fits_by (cell_type type) rest (cell_view x.0) 1000000 x.1.now (told 1000000) in (
      inr fits,
      ap (λ (r : Reading ℕ). r >>= behind_branch type left) branch-is
          ∙ ap (made (Union 1)) (told left)
          ∙ ap (λ (v : Value). let r : Reading (Value × ℕ) = Ok ((v, left), x.1.now) in r) (sym (plain type (cell_view x.0) fits)),
    )
second_cell type bytes rest (Err error) branch-is told left =
    ap (λ (r : Reading ℕ). r >>= behind_branch type left) branch-is ∙ ap (made (Union 1)) (told left)

-- null, in the first branch
pub first_cell : (type : CellType) (bytes : List ℕ) (rest : Bor (List ℕ)) (cell : CellRef) → cell_view cell ≡ Null → index_at 2 bytes ≡ Ok (0, rest.now)
    → (left : ℕ) → ReadsCell true type left (Ok (cell, rest)) (value_at (type_if_nullable true (cell_type type)) left bytes)
first_cell type bytes rest cell null-is branch-is left = (
  inl (null-is, refl),
  ap (λ (r : Reading ℕ). r >>= behind_branch type left) branch-is
      ∙ ap (λ (v : Value). let r : Reading (Value × ℕ) = Ok ((union_value v, left), rest.now) in r) (sym null-is),
)

pub no_branch : (type : CellType) (bytes : List ℕ) (error : FieldError) → index_at 2 bytes ≡ Err error
    → (left : ℕ) → ReadsCell true type left (Err error) (value_at (type_if_nullable true (cell_type type)) left bytes)
no_branch type bytes error branch-is left = ap (λ (r : Reading ℕ). r >>= behind_branch type left) branch-is

-- ---- cells one after another

module _ (fields : List FlatField) (left : ℕ) (total : Reading (List Value × ℕ)) where
  -- what the fields from this one on give, behind the cells before it, is what all give
  pub record ReadSoFar (i : ℕ) (cells : List Value) (rest : List ℕ) : Type 0 where
    pub fit : AreCells (take i fields) cells
    pub same : fields_from (typed_fields (drop i fields)) (record_values (take i fields) cells) left rest ≡ total

  next_field : (i : ℕ) (found : List Value) (rest : List ℕ) (f : FlatField) → i < length fields → f ≡ get_or fields i f → fields_from (typed_fields (drop i fields)) found left rest ≡ total
      → (value_at (field_type f) left rest >>= λ next. fields_from (typed_fields (drop (i + 1) fields)) (found ++ next.0.0 ∷ []) next.0.1 next.1) ≡ total
  next_field i found rest f within is so_far =
      sym (ap (λ (fs : List FlatField). fields_from (typed_fields fs) found left rest) (drop_more fields i f within ∙ ap (λ (g : FlatField). g ∷ drop (i + 1) fields) (sym is))) ∙ so_far

  pub reads_more : (i : ℕ) (cells : List Value) (rest : List ℕ) (f : FlatField) (cell : Value) (after : List ℕ) → i < length fields → f ≡ get_or fields i f → IsCell f cell
      → value_at (field_type f) left rest ≡ Ok ((value_of (f, cell), left), after) → ReadSoFar i cells rest → ReadSoFar (i + 1) (cells ++ cell ∷ []) after
  reads_more i cells rest f cell after within is fit told so_far =
      let fs : take (i + 1) fields ≡ take i fields ++ f ∷ [] = take_more fields i f within ∙ ap (λ (g : FlatField). take i fields ++ g ∷ []) (sym is) in
      let values : record_values (take (i + 1) fields) (cells ++ cell ∷ []) ≡ record_values (take i fields) cells ++ value_of (f, cell) ∷ [] =
      ap (λ (gs : List FlatField). record_values gs (cells ++ cell ∷ [])) fs ∙ record_values-push (take i fields) cells f cell so_far.fit in
      record {
        fit = subst (λ (gs : List FlatField). AreCells gs (cells ++ cell ∷ [])) (sym fs) (all_zipped_more IsCell (take i fields) cells f cell so_far.fit fit);
        same =
            ap (λ (vs : List Value). fields_from (typed_fields (drop (i + 1) fields)) vs left after) values
            ∙ sym (ap (λ (r : Reading (Value × ℕ)). r >>= λ next. fields_from (typed_fields (drop (i + 1) fields)) (record_values (take i fields) cells ++ next.0.0 ∷ []) next.0.1 next.1) told)
            ∙ next_field i (record_values (take i fields) cells) rest f within is so_far.same;
      }

  pub reads_stop : (i : ℕ) (cells : List Value) (rest : List ℕ) (f : FlatField) (error : FieldError) → i < length fields → f ≡ get_or fields i f → value_at (field_type f) left rest ≡ Err error
      → ReadSoFar i cells rest → total ≡ Err error
  reads_stop i cells rest f error within is told so_far =
      sym (next_field i (record_values (take i fields) cells) rest f within is so_far.same)
      ∙ ap (λ (r : Reading (Value × ℕ)). r >>= λ next. fields_from (typed_fields (drop (i + 1) fields)) (record_values (take i fields) cells ++ next.0.0 ∷ []) next.0.1 next.1) told

  pub reads_end : (i : ℕ) (cells : List Value) (rest : List ℕ) → length fields ≤ i → ReadSoFar i cells rest → AreCells fields cells × (total ≡ Ok ((record_values fields cells, left), rest))
  reads_end i cells rest over so_far =
      let all : take i fields ≡ fields = take_all i fields over in (
        subst (λ (gs : List FlatField). AreCells gs cells) all so_far.fit,
        sym so_far.same
            ∙ ap (λ (gs : List FlatField). fields_from (typed_fields gs) (record_values (take i fields) cells) left rest) (drop_all i fields over)
            ∙ ap (λ (gs : List FlatField). let r : Reading (List Value × ℕ) = Ok ((record_values gs cells, left), rest) in r) all,
      )

  pub reads_start : (bytes : List ℕ) → fields_from (typed_fields fields) [] left bytes ≡ total → ReadSoFar 0 [] bytes
  reads_start bytes same = record { fit = tt; same = same }
