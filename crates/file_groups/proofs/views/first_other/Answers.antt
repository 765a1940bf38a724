use Rattle.std.proofs.Common.{sym, ◌∙◌}
use Rattle.file_groups.specs.Views.{file_partitions, base_partitions}
use Rattle.file_groups.proofs.FindLemmas.{found_front, found_back}
use Rattle.file_groups.proofs.views.first_other.Goals as goal

pub returns-in-Some : goal.returns-in-Some
returns-in-Some c = sym (found_front _ (file_partitions c.args.files.now) (base_partitions c.args.named.now) _ (sym c.in-Some.ensures))

pub returns-in-None : goal.returns-in-None
returns-in-None c = c.first_other_base.ensures ∙ sym (found_back _ (file_partitions c.args.files.now) (base_partitions c.args.named.now) (sym c.in-None.ensures))
