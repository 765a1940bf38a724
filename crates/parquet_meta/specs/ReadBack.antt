-- What is read of a written form: the same, but that an element doesn't keep whether it is a text. In a law the numbers have
-- to be said to have 32 or 64 bits, which the types of the code say.
use Rattle.std.specs.Prelude.{ℤ, FitsSigned, false, map, Option, Some, None}
use Rattle.std.specs.Int.{w32, w64}
use Rattle.std.specs.List.{AllByRecursion}
use Rattle.parquet_meta.specs.declared.element.Element.{Element}
use Rattle.parquet_meta.specs.declared.chunk.Chunk.{Chunk}
use Rattle.parquet_meta.specs.declared.row_group.RowGroup.{RowGroup}
use Rattle.parquet_meta.specs.declared.file_meta.FileMeta.{FileMeta}
use Rattle.parquet_meta.specs.declared.page_header.PageHeader.{PageHeader}

-- ---- numbers within their types

abbrev pub Is32 : ℤ → Type 0
Is32 n = FitsSigned w32 n

abbrev pub Is64 : ℤ → Type 0
Is64 n = FitsSigned w64 n

abbrev pub IsOptional32 : Option ℤ → Type 0
IsOptional32 (Some n) = Is32 n
IsOptional32 None = Unit {0}

pub record IsTypedHeader (h : PageHeader) : Type 0 where
  pub kind : Is32 h.kind
  pub uncompressed : Is32 h.uncompressed
  pub compressed : Is32 h.compressed
  pub values : Is32 h.values
  pub encoding : Is32 h.encoding
  pub def_encoding : Is32 h.def_encoding
  pub rep_encoding : Is32 h.rep_encoding

pub record IsTypedElement (e : Element) : Type 0 where
  pub physical : IsOptional32 e.physical
  pub repetition : IsOptional32 e.repetition
  pub children : IsOptional32 e.children

pub record IsTypedChunk (c : Chunk) : Type 0 where
  pub file_offset : Is64 c.file_offset
  pub physical : Is32 c.physical
  pub encodings : AllByRecursion Is32 c.encodings
  pub codec : Is32 c.codec
  pub num_values : Is64 c.num_values
  pub uncompressed : Is64 c.uncompressed
  pub compressed : Is64 c.compressed
  pub data_offset : Is64 c.data_offset

pub record IsTypedRowGroup (g : RowGroup) : Type 0 where
  pub columns : AllByRecursion IsTypedChunk g.columns
  pub total_size : Is64 g.total_size
  pub num_rows : Is64 g.num_rows

pub record IsTypedFileMeta (m : FileMeta) : Type 0 where
  pub version : Is32 m.version
  pub schema : AllByRecursion IsTypedElement m.schema
  pub num_rows : Is64 m.num_rows
  pub groups : AllByRecursion IsTypedRowGroup m.groups

-- ---- what isn't read

-- an element as it is read
abbrev pub element_read : Element → Element
element_read e = record e { utf8 = false }

-- a footer as it is read
abbrev pub meta_read : FileMeta → FileMeta
meta_read m = record m { schema = map element_read m.schema }
