use Rattle.std.proofs.Common.{◌≡◌, map}
use Rattle.std.specs.List.{range_with_len}
use Rattle.key_index.specs.Tiling.{first_group}
use Rattle.key_index.proofs.tiles.first_groups.Given as goal

abbrev pub invariant-loop-i : goal.invariant-loop-i
invariant-loop-i l = l.groups.items ≡ map (first_group l.partition l.buckets) (range_with_len 0 l.i)
