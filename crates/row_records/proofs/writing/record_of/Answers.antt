use Rattle.std.proofs.Common.{◌≡◌, ◌++◌, List, ℕ, ap, ◌∙◌}
use Rattle.hudi_base.specs.InstantTime.{time_text}
use Rattle.hudi_base.specs.declared.value.Value.{Text}
use Rattle.avro_schema.specs.Written.{written}
use Rattle.row_values.specs.RowCells.{seqno_text}
use Rattle.row_records.proofs.CellLemmas.{record_written}
use Rattle.row_records.proofs.writing.record_of.Goals as goal

put : (out before text wanted : List ℕ) → out ≡ before ++ written (Text text) → text ≡ wanted → out ≡ before ++ written (Text wanted)
put out before text wanted told is = told ∙ ap (λ (t : List ℕ). before ++ written (Text t)) is

pub returns-clause-bytes : goal.returns-clause-bytes
returns-clause-bytes c =
    let row = c.args.row.now in
    let seqno-is = c.as_bytes.ensures.value ∙ c.as_str.ensures.value ∙ c.in_ok-seqno.ensures.text in
    let first = put _ _ _ (time_text row.commit) c.in_ok-put_text.ensures c.text.ensures.value in
    record_written (time_text row.commit) (seqno_text row.commit row.seq) row.key row.partition c.args.file_id.now row.body _ _ _ _ _ c.extend_from_slice.new.self.items
    (first ∙ ap (λ (before : List ℕ). before ++ written (Text (time_text row.commit))) c.new-out.ensures.items)
    (put _ _ _ (seqno_text row.commit row.seq) c.in_ok-put_text-2.ensures seqno-is)
    (put _ _ _ row.key c.in_ok-put_text-3.ensures c.as_slice.ensures)
    (put _ _ _ row.partition c.in_ok-put_text-4.ensures c.as_slice-2.ensures.bytes)
    (put _ _ _ c.args.file_id.now c.in_ok-put_text-5.ensures c.as_slice-3.ensures.bytes)
    (c.in_ok-extend_from_slice.ensures.items ∙ ap (λ (body : List ℕ). c.put_text-5.new.out.items ++ body) c.as_slice-4.ensures)
