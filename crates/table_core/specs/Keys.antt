-- How the keys of the tables are ordered.
use Rattle.std.specs.Prelude.{Bool, ◌==◌, ◌&&◌}
use Rattle.std.specs.Ordering.{nat_cmp, ordering_then}
use Rattle.std.specs.declared.cmp.Ordering.{Ordering}
use Rattle.hudi_base.specs.declared.file_group.Target.{Target}
use Rattle.table_core.specs.declared.written.TargetNumber.{TargetNumber}
use Rattle.table_history.specs.Targets.{group_cmp}

-- slices by their groups, and then by their times
abbrev pub target_cmp : Target → Target → Ordering
target_cmp a b = ordering_then (group_cmp a.group b.group) (nat_cmp a.slice b.slice)

-- targets of instants, by the instants' times and then by the targets' numbers
abbrev pub number_cmp : TargetNumber → TargetNumber → Ordering
number_cmp a b = ordering_then (nat_cmp a.t b.t) (nat_cmp a.number b.number)

abbrev pub is_number : TargetNumber → TargetNumber → Bool
is_number a b = (a.t == b.t) && (a.number == b.number)
