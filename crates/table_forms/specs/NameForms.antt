-- The names of tables and of partitions. The rules are this project's own.
use Rattle.std.specs.Prelude.{◌≢◌, ℕ, Bool, IsTrue, ◌||◌, ◌==◌, ◌≤◌, List, length, slice_index}
use Rattle.std.specs.Char.{is_ascii_alphanumeric}
use Rattle.std.specs.List.{list_all}

-- a letter, a digit, `_` or `-`
abbrev pub is_table_name_byte : ℕ → Bool
is_table_name_byte b = is_ascii_alphanumeric b || (b == 95) || (b == 45)

-- the same, or `=` or `.`
abbrev pub is_partition_byte : ℕ → Bool
is_partition_byte b = is_table_name_byte b || (b == 61) || (b == 46)

-- a table's name
pub record IsTableName (text : List ℕ) : Type 0 where
  pub filled : 1 ≤ length text
  pub short : length text ≤ 64
  pub bytes : IsTrue (list_all is_table_name_byte text)

-- a partition's path, which is one folder
pub record IsPartitionPath (text : List ℕ) : Type 0 where
  pub filled : 1 ≤ length text
  pub short : length text ≤ 200
  pub seen : slice_index text 0 ≢ 46
  pub bytes : IsTrue (list_all is_partition_byte text)
