use Rattle.table_history.specs.JobLaw.{Work}
use Rattle.table_images.specs.Runs.{files_after, history_of}
use Rattle.table_images.proofs.Images.{front_of, legal_of}
use Rattle.table_images.proofs.Opened.{every_image, kept_after, stands_of}
use Rattle.table_images.proofs.laws.every_image_stands.Goals as goal

pub returns : goal.returns
returns g c =
    let work : Work = record { Asks = g.W.Work.asks; Holds = g.W.Work.holds } in
    record {
      images = λ A first before R k image blocks. every_image work A blocks first before R k image;
      end = λ A files R blocks stands opened run. stands_of A (files_after files R) (history_of R) (kept_after work A blocks files R stands opened run);
      fronts = front_of work;
      legal = legal_of work;
    }
