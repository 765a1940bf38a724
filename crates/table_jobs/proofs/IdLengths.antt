-- File ids are short: two times four digits, a tail of 27 bytes, a time at most, and two hyphens.
use Rattle.std.proofs.Common.{◌≤◌, ◌==◌, ℕ, Bool, true, false, List, [], ◌∷◌, length, length-append, length-drop, arith, lit≤, if◌then◌else◌, ◌++◌}
use Rattle.hudi_base.specs.InstantTime.{first_time, time_text}
use Rattle.hudi_base.proofs.Times.{length-time_text}
use Rattle.hudi_base.specs.declared.file_group.GroupRef.{GroupRef}
use Rattle.file_names.specs.FileId.{url_uuid, tail_of, born_text, file_id}
use Rattle.file_names.proofs.FileIdLemmas.{hyphenated_length}

tail_length : (table partition : List ℕ) → length (tail_of table partition) ≤ 27
unfolding tail_of
tail_length table partition = omega (arith, length-drop {A = ℕ}, hyphenated_length (url_uuid (table ++ 47 ∷ partition)))

born_length : (born : ℕ) → length (born_text born) ≤ 17
born_length born = by (born == first_time)
  where
    by : (b : Bool) → length (if b then 48 ∷ [] else time_text born) ≤ 17
    by true = lit≤ tt
    by false = omega (arith, length-time_text born)

pub file_id_is_short : (table : List ℕ) (group : GroupRef) → length (file_id table group) ≤ 65536
unfolding file_id
file_id_is_short table group = omega (arith, length-append {A = ℕ}, tail_length table group.partition, born_length group.born)
