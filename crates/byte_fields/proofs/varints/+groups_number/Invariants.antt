use Rattle.std.proofs.Common.{length}
use Rattle.byte_fields.proofs.varints.+groups_number.Given as goal

abbrev pub decreases-groups_number : goal.decreases-groups_number
decreases-groups_number l = length l.groups.now
