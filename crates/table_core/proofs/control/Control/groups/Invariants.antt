use Rattle.std.proofs.Common.{◌≡◌, ◌++◌}
use Rattle.table_core.specs.ViewTables.{groups_among}
use Rattle.table_core.proofs.control.Control.groups.Given as goal

abbrev pub invariant-loop-slice : goal.invariant-loop-slice
invariant-loop-slice l =
    l.groups ++ groups_among l.self.props.name l.self.buckets l.slice-iterator ≡ groups_among l.self.props.name l.self.buckets l.self.slices.slots.entries
