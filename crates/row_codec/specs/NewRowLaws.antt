-- The laws of new rows: a value's row is that of its cells, and is one of the table's own.
use Rattle.std.proofs.Common.{◌≡◌, ℕ, ℤ, Bool, true, false, cond, leb, List, length, map, Option, Some, None, Result, Ok, Err, refl, sym, ap, subst, ◌∙◌, rules}
use Rattle.std.specs.Prelude.{IfOk}
use Rattle.std.proofs.lemmas.Bool.{leb-true}
use Rattle.avro_schema.specs.Fits.{Fits}
use Rattle.hudi_base.specs.InstantTime.{first_time}
use Rattle.hudi_base.specs.declared.value.Value.{Value, Record, the_lemmas}
use Rattle.payload_merge.specs.declared.row.Row.{Row}
use Rattle.row_values.specs.Cells.{AreCells, record_of_cells, record_values}
use Rattle.row_values.specs.Layouts.{own_type}
use Rattle.row_values.specs.RowCells.{IsOwnRow, body_of, rank_in, text_at}
use Rattle.row_values.specs.declared.row_layout.RowLayout.{RowLayout}
use Rattle.row_values.proofs.CellLemmas.{have_cells, short_cells}
use Rattle.row_records.specs.Records.{cell_in}
use Rattle.row_records.proofs.CellLemmas.{cells_back}
use Rattle.table_core.specs.declared.job_reply.RowCause.{RowCause}
use Rattle.table_core.specs.declared.job_reply.RowCause.TheVariants.{NoKey, BadPartition, TooLarge}
use Rattle.table_jobs.specs.NewRows.{IsNewRow, is_path, is_record_key, row_of_parts, with_body, with_partition, with_rank}
use Rattle.table_jobs.proofs.Paths.{path_from_test}
use Rattle.row_codec.specs.NewRows.{cells_in, row_in}

-- ---- rows by their cells

record_back : (vs : List Value) → cells_in (Record vs) ≡ map cell_in vs
record_back vs = search (rules, the_lemmas)

-- the row of a record, by its cells
abbrev pub row_of_cells : RowLayout → List Value → Result Row RowCause
row_of_cells layout cells = row_of_parts (text_at layout.key cells) (text_at layout.partition cells) (rank_in layout.ordering cells) (body_of layout cells)

pub by_cells : (layout : RowLayout) (cells : List Value) → AreCells layout.fields cells → row_in layout (record_of_cells layout.fields cells) ≡ row_of_cells layout cells
by_cells layout cells fit =
    let same : cells_in (record_of_cells layout.fields cells) ≡ cells = record_back (record_values layout.fields cells) ∙ cells_back layout.fields cells fit in
    ap (λ (cs : List Value). row_of_parts (text_at layout.key cs) (text_at layout.partition cs) (rank_in layout.ordering cs) (body_of layout cells)) same

-- ---- own rows

module _ (layout : RowLayout) (cells : List Value) (fit : AreCells layout.fields cells) where
  body_own : (key partition : List ℕ) (rank : ℤ) (short : Bool) → leb (length (body_of layout cells)) 65536 ≡ short → text_at layout.key cells ≡ Some key → text_at layout.partition cells ≡ Some partition
      → rank_in layout.ordering cells ≡ Some rank → is_path partition ≡ true
      → IfOk {E = RowCause} (cond short (Ok (record { partition = partition; key = key; rank = rank; commit = first_time; seq = 0; body = body_of layout cells })) (Err TooLarge)) (IsNewRow (IsOwnRow layout))
  body_own key partition rank true short key_is partition_is rank_is path =
      record {
        placed = path_from_test partition path;
        own = λ t seq. (cells, record { fit = fit; short = short_cells layout.fields cells fit (leb-true _ _ short); body = refl; key = key_is; partition = partition_is; rank = rank_is });
      }
  body_own key partition rank false short key_is partition_is rank_is path = tt

  rank_own : (key partition : List ℕ) (part : Option ℤ) → rank_in layout.ordering cells ≡ part → text_at layout.key cells ≡ Some key → text_at layout.partition cells ≡ Some partition → is_path partition ≡ true
      → IfOk (with_rank part (λ rank. with_body (body_of layout cells) (Ok (record { partition = partition; key = key; rank = rank; commit = first_time; seq = 0; body = body_of layout cells })))) (IsNewRow (IsOwnRow layout))
  rank_own key partition None rank_is key_is partition_is path = tt
  rank_own key partition (Some rank) rank_is key_is partition_is path = body_own key partition rank (leb (length (body_of layout cells)) 65536) refl key_is partition_is rank_is path

  path_own : (key partition : List ℕ) (path : Bool) → is_path partition ≡ path → text_at layout.key cells ≡ Some key → text_at layout.partition cells ≡ Some partition
      → IfOk (cond path (with_rank (rank_in layout.ordering cells) (λ rank. with_body (body_of layout cells) (Ok (record { partition = partition; key = key; rank = rank; commit = first_time; seq = 0; body = body_of layout cells })))) (Err BadPartition)) (IsNewRow (IsOwnRow layout))
  path_own key partition true path key_is partition_is = rank_own key partition (rank_in layout.ordering cells) refl key_is partition_is path
  path_own key partition false path key_is partition_is = tt

  partition_own : (key : List ℕ) (part : Option (List ℕ)) → text_at layout.partition cells ≡ part → text_at layout.key cells ≡ Some key
      → IfOk (with_partition part (λ partition. with_rank (rank_in layout.ordering cells) (λ rank. with_body (body_of layout cells) (Ok (record { partition = partition; key = key; rank = rank; commit = first_time; seq = 0; body = body_of layout cells }))))) (IsNewRow (IsOwnRow layout))
  partition_own key None partition_is key_is = tt
  partition_own key (Some partition) partition_is key_is = path_own key partition (is_path partition) refl key_is partition_is

  key_own : (key : List ℕ) (keyed : Bool) → text_at layout.key cells ≡ Some key
      → IfOk (cond keyed (with_partition (text_at layout.partition cells) (λ partition. with_rank (rank_in layout.ordering cells) (λ rank. with_body (body_of layout cells) (Ok (record { partition = partition; key = key; rank = rank; commit = first_time; seq = 0; body = body_of layout cells }))))) (Err NoKey)) (IsNewRow (IsOwnRow layout))
  key_own key true key_is = partition_own key (text_at layout.partition cells) refl key_is
  key_own key false key_is = tt

  parts_own : (part : Option (List ℕ)) → text_at layout.key cells ≡ part
      → IfOk (row_of_parts part (text_at layout.partition cells) (rank_in layout.ordering cells) (body_of layout cells)) (IsNewRow (IsOwnRow layout))
  unfolding row_of_parts
  parts_own None key_is = tt
  parts_own (Some key) key_is = key_own key (is_record_key key) key_is

pub made_own : (layout : RowLayout) (v : Value) → Fits (own_type layout) v → IfOk (row_in layout v) (IsNewRow (IsOwnRow layout))
made_own layout v (values, is, fits) =
    let have = have_cells layout.fields values fits in
    let whole : v ≡ record_of_cells layout.fields have.cells = is ∙ ap Record (sym have.whole) in
    let same : row_in layout v ≡ row_of_cells layout have.cells = ap (row_in layout) whole ∙ by_cells layout have.cells have.fit in
    subst (λ (made : Result Row RowCause). IfOk made (IsNewRow (IsOwnRow layout))) (sym same) (parts_own layout have.cells have.fit (text_at layout.key have.cells) refl)
