-- What the writers of this crate do to a writer of items. This project's own; no clause of a public call speaks of it.
use Rattle.std.specs.Prelude.{ℕ, List, [], ◌∷◌, ◌++◌}
use Rattle.thrift_compact.specs.Heads.{field_head}
use Rattle.thrift_compact.specs.Writing.{Written, difference_of, after_field, after_item}
use Rattle.parquet_meta.specs.Written.{Field}

-- with a field of the innermost struct
abbrev pub with_field : Field → Written → Written
with_field field w = record {
  bytes = w.bytes ++ field_head (difference_of field.id w.levels) field.kind ++ field.value;
  levels = after_field field.id w.levels;
}

abbrev pub with_fields : List Field → Written → Written
with_fields [] w = w
with_fields (field ∷ fields) w = with_fields fields (with_field field w)

-- with an item of the innermost list
abbrev pub with_item : List ℕ → Written → Written
with_item item w = record { bytes = w.bytes ++ item; levels = after_item w.levels }
