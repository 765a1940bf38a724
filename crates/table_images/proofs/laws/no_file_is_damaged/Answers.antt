use Rattle.table_history.specs.JobLaw.{Work}
use Rattle.table_images.specs.Runs.{files_after, history_of}
use Rattle.table_images.proofs.Images.{legal_of}
use Rattle.table_images.proofs.Measured.{ends_at_known}
use Rattle.table_images.proofs.NewNames.{name_is_new}
use Rattle.table_images.proofs.Opened.{kept_after}
use Rattle.table_images.proofs.Pieces.{piece_is_there}
use Rattle.table_images.proofs.ViewSteps.{views_known}
use Rattle.table_images.proofs.laws.no_file_is_damaged.Goals as goal

pub returns : goal.returns
returns g c =
    let work : Work = record { Asks = g.W.Work.asks; Holds = g.W.Work.holds } in
    record {
      name_is_new = λ A files R blocks stands opened run e name bytes next names is.
          name_is_new A (history_of R) (files_after files R) opened.opened (kept_after work A blocks files R stands opened run) e.job e.step e.reply name bytes next.may next.answers names is;
      piece_is_there = λ A files R blocks stands opened run job step reply name offset len may is.
          piece_is_there A (history_of R) (files_after files R) (kept_after work A blocks files R stands opened run)
          (views_known work A (history_of R) opened.once (legal_of work A files R run)) job step reply name offset len may is;
      ends_at_known = λ A files R blocks stands opened run. ends_at_known work A blocks files R stands opened run;
    }
