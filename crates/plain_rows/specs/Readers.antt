-- What readers that take memory give; for private clauses.
use Rattle.std.specs.Prelude.{◌<◌, ◌^◌, ℕ, List, ◌++◌, map, FitsSigned, Result, Ok}
use Rattle.std.specs.Int.{w64}
use Rattle.byte_fields.specs.Reading.{Reading, ◌>>=◌}
use Rattle.byte_fields.specs.declared.field_error.FieldError.{FieldError}
use Rattle.payload_merge.specs.declared.row.Row.{Row}
use Rattle.payload_merge.specs.declared.row.Write.{Write}
use Rattle.payload_merge.specs.declared.row.Write.TheVariants.{Put}
use Rattle.plain_rows.specs.declared.reading.ContentRow.{ContentRow}

-- a row of a content as a row of an instant and a partition
abbrev pub row_of : ℕ → List ℕ → ContentRow → Row
row_of instant partition row = record {
  partition = partition;
  key = row.key.now;
  rank = row.rank;
  commit = instant;
  seq = row.seq;
  body = row.body.now;
}

-- writes that were read before rows that are still to be read
abbrev pub with_before : List Write → Reading (List Row) → Reading (List Write)
with_before before read = read >>= λ rows. Ok (before ++ map Put rows.0, rows.1)

-- the puts of rows that are read
abbrev pub puts_if_read : Result (List Row) FieldError → Result (List Write) FieldError
puts_if_read read = read >>= λ rows. Ok (map Put rows)

-- the rank and the place of a row have the bits that the program holds
pub record IsInRange (row : Row) : Type 0 where
  pub rank : FitsSigned w64 row.rank
  pub seq : row.seq < 2 ^ 32
