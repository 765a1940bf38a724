use Rattle.table_history.specs.JobLaw.{Work}
use Rattle.table_images.proofs.Keeps.{keeps}
use Rattle.table_images.proofs.Opened.{kept_of, stands_of}
use Rattle.table_images.proofs.laws.steps_keep_images.Goals as goal

pub returns : goal.returns
returns g c =
    let work : Work = record { Asks = g.W.Work.asks; Holds = g.W.Work.holds } in
    record { opened = kept_of; keeps = λ A files opened blocks. keeps work A opened.opened opened.last blocks; stands = stands_of }
