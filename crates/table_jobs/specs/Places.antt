-- Where contents stand.
use Rattle.std.specs.Prelude.{ℕ, List}
use Rattle.file_names.specs.FileId.{file_id}
use Rattle.hudi_base.specs.declared.file_group.GroupRef.{GroupRef}
use Rattle.payload_merge.specs.Contents.{DataPlace}

-- the place of an instant's content for a file group of a table
abbrev pub place_in : List ℕ → ℕ → GroupRef → DataPlace
place_in table t group = record { instant = t; partition = group.partition; file_id = file_id table group }
