-- A footer that has a written form and whose numbers are of their types, part by part.
use Rattle.std.proofs.Common.{suc, List, [], ◌∷◌, arith}
use Rattle.std.specs.Prelude.{All}
use Rattle.std.specs.List.{AllByRecursion}
use Rattle.parquet_meta.specs.declared.element.Element.{Element}
use Rattle.parquet_meta.specs.declared.chunk.Chunk.{Chunk}
use Rattle.parquet_meta.specs.declared.row_group.RowGroup.{RowGroup}
use Rattle.parquet_meta.specs.declared.file_meta.FileMeta.{FileMeta}
use Rattle.parquet_meta.specs.Written.{IsShort, FitsElement, FitsChunk, FitsRowGroup, FitsFileMeta}
use Rattle.parquet_meta.specs.ReadBack.{Is32, Is64, IsOptional32, IsTypedElement, IsTypedChunk, IsTypedRowGroup, IsTypedFileMeta}

pub record IsElement (e : Element) : Type 0 where
  pub physical : IsOptional32 e.physical
  pub repetition : IsOptional32 e.repetition
  pub name : IsShort e.name
  pub children : IsOptional32 e.children

pub record IsChunk (c : Chunk) : Type 0 where
  pub file_offset : Is64 c.file_offset
  pub physical : Is32 c.physical
  pub encodings : IsShort c.encodings
  pub each_encoding : AllByRecursion Is32 c.encodings
  pub path : IsShort c.path
  pub each_name : AllByRecursion IsShort c.path
  pub codec : Is32 c.codec
  pub num_values : Is64 c.num_values
  pub uncompressed : Is64 c.uncompressed
  pub compressed : Is64 c.compressed
  pub data_offset : Is64 c.data_offset

pub record IsRowGroup (g : RowGroup) : Type 0 where
  pub columns : IsShort g.columns
  pub each : AllByRecursion IsChunk g.columns
  pub total_size : Is64 g.total_size
  pub num_rows : Is64 g.num_rows

pub record IsFileMeta (m : FileMeta) : Type 0 where
  pub version : Is32 m.version
  pub schema : IsShort m.schema
  pub each_element : AllByRecursion IsElement m.schema
  pub num_rows : Is64 m.num_rows
  pub groups : IsShort m.groups
  pub each_group : AllByRecursion IsRowGroup m.groups

-- what holds of each element in two ways
both : {A : Type 0} (P Q R : A → Type 0) → ((x : A) → P x → Q x → R x) → (xs : List A) → All P xs → AllByRecursion Q xs → AllByRecursion R xs
both P Q R joined [] fits typed = tt
both P Q R joined (x ∷ xs) fits typed =
    (joined x (fits 0 x (omega arith)) typed.0, both P Q R joined xs (λ k d lt. fits (suc k) d (omega arith)) typed.1)

alone : {A : Type 0} (P : A → Type 0) (xs : List A) → All P xs → AllByRecursion P xs
alone P [] fits = tt
alone P (x ∷ xs) fits = (fits 0 x (omega arith), alone P xs (λ k d lt. fits (suc k) d (omega arith)))

element_fits : (e : Element) → FitsElement e → IsTypedElement e → IsElement e
element_fits e fits typed = record { physical = typed.physical; repetition = typed.repetition; name = fits; children = typed.children }

chunk_fits : (c : Chunk) → FitsChunk c → IsTypedChunk c → IsChunk c
chunk_fits c fits typed = record {
  file_offset = typed.file_offset;
  physical = typed.physical;
  encodings = fits.encodings;
  each_encoding = typed.encodings;
  path = fits.path;
  each_name = alone IsShort c.path fits.names;
  codec = typed.codec;
  num_values = typed.num_values;
  uncompressed = typed.uncompressed;
  compressed = typed.compressed;
  data_offset = typed.data_offset;
}

row_group_fits : (g : RowGroup) → FitsRowGroup g → IsTypedRowGroup g → IsRowGroup g
row_group_fits g fits typed = record {
  columns = fits.columns;
  each = both FitsChunk IsTypedChunk IsChunk chunk_fits g.columns fits.each typed.columns;
  total_size = typed.total_size;
  num_rows = typed.num_rows;
}

pub file_meta_fits : (m : FileMeta) → FitsFileMeta m → IsTypedFileMeta m → IsFileMeta m
file_meta_fits m fits typed = record {
  version = typed.version;
  schema = fits.schema;
  each_element = both FitsElement IsTypedElement IsElement element_fits m.schema fits.elements typed.schema;
  num_rows = typed.num_rows;
  groups = fits.groups;
  each_group = both FitsRowGroup IsTypedRowGroup IsRowGroup row_group_fits m.groups fits.each typed.groups;
}
