-- Parts in the order of their groups' slots: only private clauses speak of these definitions.
use Rattle.std.specs.Prelude.{ℕ, ◌+◌, ◌*◌, ◌^◌}
use Rattle.hudi_base.specs.declared.file_group.GroupRef.{GroupRef}

-- by first slot, last slot and birth: times are below 2 ^ 48
abbrev pub group_number : GroupRef → ℕ
group_number group = (group.lo * 65_536 + group.hi) * 2 ^ 48 + group.born
