use Rattle.table_images.proofs.Reopened.{opened_again, stands_again}
use Rattle.table_images.proofs.laws.images_can_be_opened.Goals as goal

pub returns : goal.returns
returns c = record { stands = stands_again; opened = opened_again }
