-- The rows that the layout answers are those that values make.
use Rattle.std.proofs.Common.{◌≡◌, ◌≢◌, ◌≤◌, ◌<◌, ℕ, ℤ, true, cond, leb, List, length, Option, Some, None, Result, Ok, Err, refl, sym, ap, subst, ◌∙◌}
use Rattle.std.proofs.lemmas.Bool.{and_from, and_parts, false_from_ne_true, le-leb, leb-true, lt-leb}
use Rattle.hudi_base.specs.InstantTime.{first_time}
use Rattle.hudi_base.specs.declared.value.Value.{Value}
use Rattle.payload_merge.specs.declared.row.Row.{Row}
use Rattle.payload_merge.specs.declared.row_error.RowError.{RowError}
use Rattle.payload_merge.specs.declared.row_error.RowError.TheVariants as error
use Rattle.row_values.specs.Cells.{AreCells, record_of_cells}
use Rattle.row_values.specs.RowCells.{AnswersRow, AreCellsOf, HasKey, HasPartition, IsRecordKey, body_of, rank_in, text_at}
use Rattle.row_values.specs.declared.row_layout.RowLayout.{RowLayout}
use Rattle.table_core.specs.declared.job_reply.RowCause.{RowCause}
use Rattle.table_core.specs.declared.job_reply.RowCause.TheVariants.{NoKey, BadPartition, NoOrdering, TooLarge}
use Rattle.table_forms.specs.NameForms.{IsPartitionPath}
use Rattle.table_jobs.specs.NewRows.{AnswersNewRow, is_path, is_record_key, row_of_parts, with_body, with_key, with_partition, with_rank}
use Rattle.table_jobs.proofs.Paths.{path_from_test, test_from_path}
use Rattle.row_codec.specs.NewRows.{row_in}
use Rattle.row_codec.specs.NewRowLaws.{by_cells, row_of_cells}

-- ---- the tests

key_from_test : (key : List ℕ) → is_record_key key ≡ true → IsRecordKey key
key_from_test key passes = let both = and_parts (leb 1 (length key)) (leb (length key) 1000) passes in (leb-true _ _ both.0, leb-true _ _ both.1)

test_from_key : (key : List ℕ) → IsRecordKey key → is_record_key key ≡ true
test_from_key key is = and_from (leb 1 (length key)) (leb (length key) 1000) (le-leb 1 (length key) is.0) (le-leb (length key) 1000 is.1)

-- ---- parts that are there, or refused

module _ {A : Type 0} where
  key_there : (part : Option (List ℕ)) (key : List ℕ) (next : List ℕ → Result A RowCause) → part ≡ Some key → IsRecordKey key → with_key part next ≡ next key
  key_there part key next is fits = ap (λ (p : Option (List ℕ)). with_key p next) is ∙ ap (λ b. cond b (next key) (Err NoKey)) (test_from_key key fits)

  key_refused : (part : Option (List ℕ)) (next : List ℕ → Result A RowCause) → ((key : List ℕ) → part ≡ Some key → IsRecordKey key → ⊥) → with_key part next ≡ Err NoKey
  key_refused None next lacks = refl
  key_refused (Some key) next lacks = ap (λ b. cond b (next key) (Err NoKey)) (false_from_ne_true (is_record_key key) (λ passes. lacks key refl (key_from_test key passes)))

  path_there : (part : Option (List ℕ)) (path : List ℕ) (next : List ℕ → Result A RowCause) → part ≡ Some path → IsPartitionPath path → with_partition part next ≡ next path
  path_there part path next is fits = ap (λ (p : Option (List ℕ)). with_partition p next) is ∙ ap (λ b. cond b (next path) (Err BadPartition)) (test_from_path path fits)

  path_refused : (part : Option (List ℕ)) (next : List ℕ → Result A RowCause) → ((path : List ℕ) → part ≡ Some path → IsPartitionPath path → ⊥) → with_partition part next ≡ Err BadPartition
  path_refused None next lacks = refl
  path_refused (Some path) next lacks = ap (λ b. cond b (next path) (Err BadPartition)) (false_from_ne_true (is_path path) (λ passes. lacks path refl (path_from_test path passes)))

-- ---- the layout's answer

module _ (layout : RowLayout) (cells : List Value) where
  -- what is made once the key is found, and the partition, and the rank
  abbrev ranked : List ℕ → List ℕ → ℤ → Result Row RowCause
  ranked key partition rank =
      with_body (body_of layout cells) (Ok (record { partition = partition; key = key; rank = rank; commit = first_time; seq = 0; body = body_of layout cells }))

  abbrev placed : List ℕ → List ℕ → Result Row RowCause
  placed key partition = with_rank (rank_in layout.ordering cells) (ranked key partition)

  abbrev keyed : List ℕ → Result Row RowCause
  keyed key = with_partition (text_at layout.partition cells) (placed key)

  no_key : (¬ HasKey layout cells) → row_of_cells layout cells ≡ Err NoKey
  unfolding row_of_parts
  no_key lacks = key_refused (text_at layout.key cells) keyed (λ key is fits. lacks (record { key = key; there = is; fits = fits }))

  has_key : (has : HasKey layout cells) → row_of_cells layout cells ≡ keyed has.key
  unfolding row_of_parts
  has_key has = key_there (text_at layout.key cells) has.key keyed has.there has.fits

  no_partition : HasKey layout cells → (¬ HasPartition layout cells) → row_of_cells layout cells ≡ Err BadPartition
  no_partition has lacks =
      has_key has ∙ path_refused (text_at layout.partition cells) (placed has.key) (λ path is fits. lacks (record { partition = path; there = is; path = fits }))

  has_partition : (has : HasKey layout cells) (lies : HasPartition layout cells) → row_of_cells layout cells ≡ placed has.key lies.partition
  has_partition has lies = has_key has ∙ path_there (text_at layout.partition cells) lies.partition (placed has.key) lies.there lies.path

  no_rank : HasKey layout cells → HasPartition layout cells → rank_in layout.ordering cells ≡ None → row_of_cells layout cells ≡ Err NoOrdering
  no_rank has lies none = has_partition has lies ∙ ap (λ (r : Option ℤ). with_rank r (ranked has.key lies.partition)) none

  large : (key partition : List ℕ) (part : Option ℤ) → part ≢ None → 65536 < length (body_of layout cells) → with_rank part (ranked key partition) ≡ Err TooLarge
  large key partition None some long = absurd (some refl)
  large key partition (Some rank) some long =
      ap (λ b. cond b (Ok (record { partition = partition; key = key; rank = rank; commit = first_time; seq = 0; body = body_of layout cells })) (Err TooLarge)) (lt-leb (length (body_of layout cells)) 65536 long)

  too_large : HasKey layout cells → HasPartition layout cells → rank_in layout.ordering cells ≢ None → 65536 < length (body_of layout cells) → row_of_cells layout cells ≡ Err TooLarge
  too_large has lies some long = has_partition has lies ∙ large has.key lies.partition (rank_in layout.ordering cells) some long

  abbrev row_at : List ℕ → List ℕ → ℤ → ℕ → ℕ → List ℕ → Row
  row_at partition key rank commit seq body = record { partition = partition; key = key; rank = rank; commit = commit; seq = seq; body = body }

  taken : (row : Row) → AreCellsOf layout row cells → IsRecordKey row.key → IsPartitionPath row.partition → length row.body ≤ 65536 → row.commit ≡ first_time → row.seq ≡ 0
      → row_of_cells layout cells ≡ Ok row
  taken row are is_key is_path short first at =
      let small : length (body_of layout cells) ≤ 65536 = subst (λ (body : List ℕ). length body ≤ 65536) are.body short in
      has_partition (record { key = row.key; there = are.key; fits = is_key }) (record { partition = row.partition; there = are.partition; path = is_path })
      ∙ ap (λ (r : Option ℤ). with_rank r (ranked row.key row.partition)) are.rank
      ∙ ap (λ b. cond b (Ok (row_at row.partition row.key row.rank first_time 0 (body_of layout cells))) (Err TooLarge)) (le-leb (length (body_of layout cells)) 65536 small)
      ∙ ap (λ (body : List ℕ). Ok (row_at row.partition row.key row.rank first_time 0 body)) (sym are.body)
      ∙ ap (λ (commit : ℕ). Ok (row_at row.partition row.key row.rank commit 0 row.body)) (sym first)
      ∙ ap (λ (seq : ℕ). Ok (row_at row.partition row.key row.rank row.commit seq row.body)) (sym at)

by_answer : (layout : RowLayout) (cells : List Value) (answer : Result Row RowError) → AnswersRow layout cells first_time 0 answer → AnswersNewRow (row_of_cells layout cells) answer
by_answer layout cells (Ok row) is = taken layout cells row is.0 is.1 is.2 is.3 is.4 is.5
by_answer layout cells (Err error.NoKey) is = no_key layout cells is
by_answer layout cells (Err error.BadPartition) is = no_partition layout cells is.0 is.1
by_answer layout cells (Err error.NoOrdering) is = no_rank layout cells is.0 is.1 is.2
by_answer layout cells (Err error.TooLarge) is = too_large layout cells is.0 is.1 is.2 is.3
by_answer layout cells (Err error.Memory) is = is
by_answer layout cells (Err (error.NotFlat place)) is = is
by_answer layout cells (Err (error.Mismatch place)) is = is
by_answer layout cells (Err (error.BadContent offset)) is = is

-- the row that a layout answers is the one that the value makes
pub answered : (layout : RowLayout) (v : Value) (answer : Result Row RowError)
    → (cells : List Value) × AreCells layout.fields cells × (v ≡ record_of_cells layout.fields cells) × AnswersRow layout cells first_time 0 answer → AnswersNewRow (row_in layout v) answer
answered layout v answer (cells, fit, is, told) =
    let same : row_in layout v ≡ row_of_cells layout cells = ap (row_in layout) is ∙ by_cells layout cells fit in
    subst (λ (made : Result Row RowCause). AnswersNewRow made answer) (sym same) (by_answer layout cells answer told)
