use Rattle.row_records.proofs.RecordLemmas.{record_again, record_told}
use Rattle.row_records.proofs.laws.records_have_rows.Goals as goal

pub returns : goal.returns
returns c layout place row cells fit = (record_told layout place row cells fit, record_again layout place row cells)
