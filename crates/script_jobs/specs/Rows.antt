-- The rows of an `upsert` line, which are JSON still. This project's own.
use Rattle.std.specs.Prelude.{ℕ, ◌&&◌, nat_le, Bool, true, is_some, unwrap_or, codes}
use Rattle.serde_json.specs.Data.{Data, Items, no_items, item}
use Rattle.serde_json.specs.Events.{items_len}
use Rattle.serde_json.specs.Find.{as_object}
use Rattle.table_forms.specs.JsonObjects.{items_at}

-- as many as a line may have
abbrev pub most_items : ℕ
most_items = 100_000

abbrev pub is_item_count : ℕ → Bool
is_item_count n = nat_le 1 n && nat_le n most_items

abbrev pub is_object : Data → Bool
is_object d = is_some (as_object d)

abbrev pub are_objects : Items → Bool
are_objects no_items = true
are_objects (item d ds) = is_object d && are_objects ds

-- 1 to 100,000 objects
abbrev pub are_rows : Items → Bool
are_rows rows = is_item_count (items_len rows) && are_objects rows

-- the items of the member `rows`, of which there are none where it is no array
abbrev pub rows_in : Data → Items
rows_in line = unwrap_or (items_at (codes "rows") line) no_items
