use Rattle.table_history.specs.JobLaw.{Work}
use Rattle.upsert_writer.specs.Batches.{batch_writes}
use Rattle.table_answers.proofs.Batches.{batch_written, given_written, whole_batch}
use Rattle.table_answers.proofs.laws.committed_batches.Goals as goal

pub returns : goal.returns
returns g c =
    let work : Work = record { Asks = g.W.Work.asks; Holds = g.W.Work.holds } in
    record {
      groups = λ form props batch before after job mine t made legal wrote answer. (batch_written work form props batch before after job mine t made legal wrote answer).wrote;
      wrote = whole_batch work;
      completed = λ form props batch before after job mine t made legal wrote answer. (batch_written work form props batch before after job mine t made legal wrote answer).completed;
      given = λ form props new batch. given_written work form props (batch_writes new batch);
    }
