-- The slots that a writer asks for.
use Rattle.std.specs.Prelude.{◌≡◌, ℕ, List, map}
use Rattle.std.specs.List.{flat_map}
use Rattle.payload_merge.specs.declared.row.Write.{Write}
use Rattle.table_history.specs.declared.step.PartitionSlots.{PartitionSlots}
use Rattle.upsert_writer.specs.BatchWrites.{partition_of, slot_in}

-- slots one by one, each with its partition
abbrev pub each_slot : PartitionSlots → List (List ℕ × ℕ)
each_slot asked = map (λ slot. (asked.partition, slot)) asked.slots

-- the slot of a write, with its partition
abbrev pub write_slot : Write → List ℕ × ℕ
write_slot w = (partition_of w, slot_in w)

-- the slots are those of the writes, one by one and in their order
abbrev pub AreSlotsOf : List Write → List PartitionSlots → Type 0
AreSlotsOf batch slots = flat_map each_slot slots ≡ map write_slot batch
