-- The writes of a batch, as an instant makes them.
use Rattle.std.specs.Prelude.{◌&&◌, nat_le, ℕ, Bool, List, filter}
use Rattle.std.specs.Str.{bytes_eq}
use Rattle.hudi_base.specs.declared.file_group.GroupRef.{GroupRef}
use Rattle.key_index.specs.Slots.{slot_of}
use Rattle.payload_merge.specs.Fold.{writes_from}
use Rattle.payload_merge.specs.Payload.{key_of}
use Rattle.payload_merge.specs.declared.row.Write.{Write}

abbrev pub partition_of : Write → List ℕ
partition_of w = (key_of w).0

-- the slot of a write's record key
abbrev pub slot_in : Write → ℕ
slot_in w = slot_of (key_of w).1

-- the write's slot is the group's
abbrev pub is_in_group : GroupRef → Write → Bool
is_in_group group w = bytes_eq (partition_of w) group.partition && nat_le group.lo (slot_in w) && nat_le (slot_in w) group.hi

-- what an instant writes to a file group: the writes of the batch that lie in it, in batch order
abbrev pub batch_in : ℕ → GroupRef → List Write → List Write
batch_in t group batch = filter (is_in_group group) (writes_from t 0 batch)
