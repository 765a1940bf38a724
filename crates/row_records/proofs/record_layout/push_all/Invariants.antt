use Rattle.std.proofs.Common.{◌≡◌, ◌++◌, take}
use Rattle.row_records.proofs.record_layout.push_all.Given as goal

-- the fields so far
abbrev pub invariant-loop-field : goal.invariant-loop-field
invariant-loop-field l = l.fields ≡ l.fn.fields ++ take l.field-index l.more
