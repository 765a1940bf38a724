use Rattle.std.proofs.Common.{length}
use Rattle.std.proofs.lemmas.Result.{err_from_is_err_and}
use Rattle.parquet_meta.specs.Footers.{footer_of}
use Rattle.parquet_meta.proofs.ReadingLemmas.{AnswersFooter-Err}
use Rattle.parquet_meta.proofs.file_meta.read_meta.Goals as goal

pub returns-in_err-meta : goal.returns-in_err-meta
returns-in_err-meta c =
    let p = err_from_is_err_and c.from_residual.result c.from_residual.ensures.1 in
    rw (p.1, p.2) (AnswersFooter-Err (length c.args.bytes.now) c.in_err-meta.field-0.0 (footer_of c.args.bytes.now) c.in_err-meta.ensures)
