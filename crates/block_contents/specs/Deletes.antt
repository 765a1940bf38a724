-- The contents of delete blocks. The form is this project's own.
use Rattle.std.specs.Prelude.{◌≡◌, ℕ, ℤ, ◌<◌, ◌^◌, List, [], ◌++◌, length, Ok}
use Rattle.std.specs.Int.{w64, cast_unsigned}
use Rattle.byteorder.specs.Endian.{big_bytes, big_number}
use Rattle.byte_fields.specs.Reading.{Reading, ◌>>=◌, as_item}
use Rattle.byte_fields.specs.Numbers.{number_at, signed_at}
use Rattle.byte_fields.specs.Prefixed.{with_length, prefixed_at}
use Rattle.payload_merge.specs.declared.row.Write.{Write}
use Rattle.payload_merge.specs.declared.row.Write.TheVariants.{Put, Del}
use Rattle.payload_merge.specs.Contents.{DeleteReading}
use Rattle.block_contents.specs.Contents.{content_at, content_bytes, with_offset}

-- a key behind its length, and a rank in two's complement
abbrev pub key_and_rank_bytes : List ℕ → ℤ → List ℕ
key_and_rank_bytes key rank = with_length (big_bytes 4) key ++ big_bytes 8 (cast_unsigned w64 rank)

-- the bytes of a delete; a put has none
abbrev pub delete_bytes : Write → List ℕ
delete_bytes (Del partition key rank) = key_and_rank_bytes key rank
delete_bytes (Put row) = []

-- the content of deletes
abbrev pub deletes_bytes : List Write → List ℕ
deletes_bytes deletes = content_bytes delete_bytes deletes

-- a delete in a partition
unfoldable pub key_and_rank_at : List ℕ → List ℕ → Reading Write
key_and_rank_at partition bytes = do
  key ← prefixed_at (number_at big_number 4) bytes
  rank ← signed_at big_number w64 8 key.1
  Ok (Del partition key.0 rank.0, rank.1)

-- the same as one item of the reading
unfoldable pub delete_at : List ℕ → List ℕ → Reading Write
delete_at partition bytes = as_item bytes (key_and_rank_at partition bytes)

-- the deletes of a content in a partition, or the offset at which it has no reading
abbrev pub deletes_in : DeleteReading
deletes_in partition content = with_offset (length content) (content_at (delete_at partition) content)

-- a delete whose key's length fits four bytes
abbrev pub IsDelete : Write → Type 0
IsDelete (Del partition key rank) = length key < 2 ^ 32
IsDelete (Put row) = ⊥

-- deletes of one partition
abbrev pub IsDeleteIn : List ℕ → Write → Type 0
IsDeleteIn partition (Del own key rank) = own ≡ partition
IsDeleteIn partition (Put row) = ⊥
