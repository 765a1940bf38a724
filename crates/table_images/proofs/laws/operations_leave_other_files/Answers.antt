use Rattle.table_images.proofs.Frame.{elsewhere}
use Rattle.table_images.proofs.OneChain.{other_groups}
use Rattle.table_images.proofs.laws.operations_leave_other_files.Goals as goal

pub returns : goal.returns
returns c = record { files = elsewhere; groups = other_groups }
