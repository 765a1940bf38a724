-- Rows as JSON. The form is this project's own.
use Rattle.std.specs.Prelude.{ℕ, List, ◌∷◌, codes}
use Rattle.hex.specs.Hex.{encode_lower}
use Rattle.hudi_base.specs.InstantTime.{time_text}
use Rattle.hudi_base.specs.declared.value.Value.{Value}
use Rattle.hudi_base.specs.declared.value.Value.TheVariants as value
use Rattle.serde_json.specs.Data.{Data, null, boolean, number, string, object, Members, no_members, put}
use Rattle.serde_json.specs.Find.{of_integer}
use Rattle.serde_json.specs.Written.{compact_text}
use Rattle.payload_merge.specs.declared.row.Row.{Row}
use Rattle.row_values.specs.declared.flat_field.FlatField.{FlatField}
use Rattle.row_values.specs.declared.row_layout.RowLayout.{RowLayout}
use Rattle.row_values.specs.RowCells.{seqno_text}

-- a cell: bytes are pairs of hexadecimal digits
abbrev pub cell_data : Value → Data
cell_data (value.Boolean truth) = boolean truth
cell_data (value.Int z) = number (of_integer z)
cell_data (value.Long z) = number (of_integer z)
cell_data (value.Bytes content) = string (encode_lower content)
cell_data (value.Text text) = string text
cell_data _ = null

-- members and those of more fields; an object's members are in byte order
unfoldable pub members_with : List FlatField → List Value → Members → Members
members_with (field ∷ fields) (cell ∷ cells) members = members_with fields cells (put field.name (cell_data cell) members)
members_with _ _ members = members

-- a row with these cells: its seqno, its commit and its fields
abbrev pub row_data : RowLayout → Row → List Value → Data
row_data layout row cells =
    object (members_with layout.fields cells
    (put (codes "_hoodie_commit_time") (string (time_text row.commit))
    (put (codes "_hoodie_commit_seqno") (string (seqno_text row.commit row.seq)) no_members)))

-- the same as text, without a space
unfoldable pub row_text : RowLayout → Row → List Value → List ℕ
row_text layout row cells = compact_text (row_data layout row cells)
