-- The rows that a table of keys, ranks and bodies has. This project's own.
use Rattle.std.specs.Prelude.{ℕ, ◌≤◌, ◌&&◌, nat_le, Bool, List, IsUtf8, length}
use Rattle.std.specs.Str.{is_utf8}
use Rattle.payload_merge.specs.declared.row.Row.{Row}

abbrev pub most_key_bytes : ℕ
most_key_bytes = 1000

abbrev pub most_body_bytes : ℕ
most_body_bytes = 65_536

-- a text of at least and at most so many bytes
abbrev pub is_sized_text : ℕ → ℕ → List ℕ → Bool
is_sized_text least most bytes = nat_le least (length bytes) && nat_le (length bytes) most && is_utf8 bytes

-- a row with a key of 1 to 1,000 bytes and a body of at most 65,536, both of them texts
pub record IsOwn (row : Row) : Type 0 where
  pub key_from : 1 ≤ length row.key
  pub key_to : length row.key ≤ most_key_bytes
  pub body_to : length row.body ≤ most_body_bytes
  pub key_text : IsUtf8 row.key
  pub body_text : IsUtf8 row.body
