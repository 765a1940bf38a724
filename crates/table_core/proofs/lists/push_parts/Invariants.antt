use Rattle.std.proofs.Common.{◌≡◌, take, ◌++◌}
use Rattle.table_core.proofs.lists.push_parts.Given as goal

abbrev pub invariant-loop-part : goal.invariant-loop-part
invariant-loop-part l = l.parts ≡ l.fn.parts ++ take l.part-index l.from
