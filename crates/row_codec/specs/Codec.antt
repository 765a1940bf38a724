-- What the codec of a table's properties is.
use Rattle.std.specs.Prelude.{◌≡◌, Result, Ok, Err}
use Rattle.table_props.specs.PropsTexts.{Told as Properties}
use Rattle.table_props.specs.declared.props.Props.{Props}
use Rattle.payload_merge.specs.declared.row_error.RowError.{RowError}
use Rattle.row_values.specs.Layouts.{AnswersLayout, IsLayoutOf, own_type}
use Rattle.row_values.specs.declared.row_layout.RowLayout.{RowLayout}
use Rattle.row_codec.specs.declared.flat_codec.FlatCodec.{FlatCodec}

-- The answer: a codec of the layout of the properties, or why they have none.
abbrev pub AnswersCodec : Props → Result FlatCodec RowError → Type 0
AnswersCodec props (Ok codec) = IsLayoutOf props codec.records.own
AnswersCodec props (Err error) = AnswersLayout props (Err error)

-- the layout is that of a table with these properties, by what they tell
pub record IsOfTable (layout : RowLayout) (props : Properties) : Type 0 where
  pub table : layout.table ≡ props.name
  pub type : own_type layout ≡ props.schema
  pub key : layout.key ≡ props.key
  pub partition : layout.partition ≡ props.partition
  pub ordering : layout.ordering ≡ props.ordering
