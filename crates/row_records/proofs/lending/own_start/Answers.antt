use Rattle.std.proofs.Common.{List, ℕ, length, drop, take, refl, ap, ◌∙◌, arith}
use Rattle.std.proofs.lemmas.List.{drop_at, length-map}
use Rattle.avro_schema.specs.Written.{written}
use Rattle.row_values.specs.Cells.{cell_view, cells_view, record_of_cells}
use Rattle.row_records.specs.Records.{record_fields}
use Rattle.row_records.proofs.CellLemmas.{parts_of}
use Rattle.row_records.proofs.LengthLemmas.{record_exact, record_form}
use Rattle.row_records.proofs.lending.own_start.Goals as goal

pub split_cells-requires : goal.split_cells-requires
split_cells-requires c =
    let parts = parts_of c.args.records.now.own.fields (cells_view c.args.cells.now) c.requires.fit in omega (arith, parts.long, length-map c.args.cells.now cell_view)

pub fields_length-start-requires-clause-few : goal.fields_length-start-requires-clause-few
fields_length-start-requires-clause-few c =
    let fields = c.args.records.now.own.fields in
    let cells = cells_view c.args.cells.now in
    let exact = record_exact (record_fields fields) c.args.bytes.now cells (λ i. omega (arith, c.type_inv.bytes i)) c.requires.read in
    rw (c.text_fields.ensures, c.split_cells.ensures.before) (omega (arith, record_form fields cells c.requires.fit, exact.least))

pub fields_length-requires-clause-fit : goal.fields_length-requires-clause-fit
fields_length-requires-clause-fit c =
    let parts = parts_of c.args.records.now.own.fields (cells_view c.args.cells.now) c.requires.fit in rw (c.as_slice.ensures, c.split_cells.ensures.own) parts.own

pub fields_length-requires-clause-few : goal.fields_length-requires-clause-few
fields_length-requires-clause-few c =
    let fields = c.args.records.now.own.fields in
    let cells = cells_view c.args.cells.now in
    let exact = record_exact (record_fields fields) c.args.bytes.now cells (λ i. omega (arith, c.type_inv.bytes i)) c.requires.read in
    rw (c.as_slice.ensures, c.split_cells.ensures.own) (omega (arith, record_form fields cells c.requires.fit, exact.least))

pub overflow_add-start : goal.overflow_add-start
overflow_add-start c =
    let fields = c.args.records.now.own.fields in
    let cells = cells_view c.args.cells.now in
    let exact = record_exact (record_fields fields) c.args.bytes.now cells (λ i. omega (arith, c.type_inv.bytes i)) c.requires.read in
    let texts = rw (c.text_fields.ensures, c.split_cells.ensures.before) at c.fields_length-start.ensures in
    let own = rw (c.as_slice.ensures, c.split_cells.ensures.own) at c.fields_length.ensures in
    omega (arith, record_form fields cells c.requires.fit, exact.least, texts, own)

pub returns-then-start-fields_length : goal.returns-then-start-fields_length
returns-then-start-fields_length c =
    λ form.
    let fields = c.args.records.now.own.fields in
    let cells = cells_view c.args.cells.now in
    let texts = rw (c.text_fields.ensures, c.split_cells.ensures.before) at c.fields_length-start.ensures in
    let own = rw (c.as_slice.ensures, c.split_cells.ensures.own) at c.fields_length.ensures in
    absurd (omega (arith, record_form fields cells c.requires.fit, ap length form, texts, own, c.if-start-fields_length.true))

pub returns : goal.returns
returns c =
    let fields = c.args.records.now.own.fields in
    let cells = cells_view c.args.cells.now in
    let bytes = c.args.bytes.now in
    let parts = parts_of fields cells c.requires.fit in
    let exact = record_exact (record_fields fields) bytes cells (λ i. omega (arith, c.type_inv.bytes i)) c.requires.read in
    let texts = rw (c.text_fields.ensures, c.split_cells.ensures.before) at c.fields_length-start.ensures in
    let own = rw (c.as_slice.ensures, c.split_cells.ensures.own) at c.fields_length.ensures in
    let whole = exact.same (omega (arith, record_form fields cells c.requires.fit, texts, own, c.if-start-fields_length.false)) in
    let first : List ℕ = written (record_of_cells (take 5 (record_fields fields)) (take 5 cells)) in
    let rest : List ℕ = written (record_of_cells fields (drop 5 cells)) in
    record {
      whole = whole;
      within = omega (arith, record_form fields cells c.requires.fit, exact.least, texts);
      body = ap (λ (n : ℕ). drop n bytes) texts ∙ ap (drop (length first)) (whole ∙ parts.bytes) ∙ drop_at first rest (length first) refl;
    }
