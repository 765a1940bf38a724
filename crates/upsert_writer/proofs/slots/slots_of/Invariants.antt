use Rattle.std.proofs.Common.{◌≡◌, ◌++◌, length, map, All}
use Rattle.std.specs.List.{flat_map}
use Rattle.table_forms.specs.NameForms.{IsPartitionPath}
use Rattle.upsert_writer.specs.BatchWrites.{partition_of}
use Rattle.upsert_writer.specs.Slots.{each_slot, write_slot}
use Rattle.upsert_writer.proofs.slots.slots_of.Given as goal

abbrev pub invariant-loop-first : goal.invariant-loop-first
invariant-loop-first l = record {
  slots : flat_map each_slot l.asked ++ map write_slot l.rest ≡ map write_slot l.writes;
  paths : All (λ asked. IsPartitionPath asked.partition) l.asked;
  rest : All (λ w. IsPartitionPath (partition_of w)) l.rest;
}

abbrev pub decreases-loop-first : goal.decreases-loop-first
decreases-loop-first l = length l.rest
