-- New rows and deletes as a writer makes them, or why there is none. The limits are this project's own.
use Rattle.std.specs.Prelude.{◌≡◌, ℕ, ◌&&◌, ◌==◌, not, nat_le, Bool, true, false, if◌then◌else◌, ℤ, pos, List, length, slice_index, Option, Some, None, unwrap_or, Result, Ok, Err}
use Rattle.std.specs.List.{list_all}
use Rattle.hudi_base.specs.InstantTime.{first_time}
use Rattle.payload_merge.specs.declared.row.Row.{Row}
use Rattle.payload_merge.specs.declared.row.Write.{Write}
use Rattle.payload_merge.specs.declared.row.Write.TheVariants.{Del}
use Rattle.payload_merge.specs.declared.row_error.RowError.{RowError}
use Rattle.payload_merge.specs.declared.row_error.RowError.TheVariants as error
use Rattle.table_core.specs.declared.job_reply.RowCause.{RowCause}
use Rattle.table_core.specs.declared.job_reply.RowCause.TheVariants.{NoKey, BadPartition, NoOrdering, TooLarge}
use Rattle.table_forms.specs.NameForms.{IsPartitionPath, is_partition_byte}
use Rattle.table_jobs.specs.declared.del_key.DelKey.{DelKey}

-- ---- the parts

-- a record key: 1 to 1,000 bytes
abbrev pub is_record_key : List ℕ → Bool
is_record_key key = nat_le 1 (length key) && nat_le (length key) 1000

-- a partition's path, as a test
abbrev pub is_path : List ℕ → Bool
is_path text =
    nat_le 1 (length text) && nat_le (length text) 200 && not (slice_index text 0 == 46) && list_all is_partition_byte text

abbrev pub with_key : {A : Type 0} → Option (List ℕ) → (List ℕ → Result A RowCause) → Result A RowCause
with_key None next = Err NoKey
with_key (Some key) next = if is_record_key key then next key else Err NoKey

abbrev pub with_partition : {A : Type 0} → Option (List ℕ) → (List ℕ → Result A RowCause) → Result A RowCause
with_partition None next = Err BadPartition
with_partition (Some path) next = if is_path path then next path else Err BadPartition

abbrev pub with_rank : {A : Type 0} → Option ℤ → (ℤ → Result A RowCause) → Result A RowCause
with_rank None next = Err NoOrdering
with_rank (Some rank) next = next rank

abbrev pub with_body : {A : Type 0} → List ℕ → Result A RowCause → Result A RowCause
with_body body made = if nat_le (length body) 65536 then made else Err TooLarge

-- ---- rows

-- The row of these parts, or the first refusal. No instant has written it yet: its commit is the first time, and its
-- place 0.
unfoldable pub row_of_parts : Option (List ℕ) → Option (List ℕ) → Option ℤ → List ℕ → Result Row RowCause
row_of_parts key_part partition_part rank_part body =
    with_key key_part (λ key. with_partition partition_part (λ partition. with_rank rank_part (λ rank. with_body body
    (Ok (record { partition = partition; key = key; rank = rank; commit = first_time; seq = 0; body = body })))))

-- the answer for a row that can be made or is refused; memory may be wanting at any time, and nothing else comes
abbrev pub AnswersNewRow : Result Row RowCause → Result Row RowError → Type 0
AnswersNewRow made (Ok row) = made ≡ Ok row
AnswersNewRow made (Err error.NoKey) = made ≡ Err NoKey
AnswersNewRow made (Err error.BadPartition) = made ≡ Err BadPartition
AnswersNewRow made (Err error.NoOrdering) = made ≡ Err NoOrdering
AnswersNewRow made (Err error.TooLarge) = made ≡ Err TooLarge
AnswersNewRow made (Err other) = other ≡ error.Memory

-- a row that lies in a partition, and is a codec's own whichever instant writes it at whichever place
pub record IsNewRow (Own : Row → Type 0) (row : Row) : Type 0 where
  pub placed : IsPartitionPath row.partition
  pub own : (t seq : ℕ) → Own (record row { commit = t; seq = seq })

-- ---- deletes

-- The rank of a delete. Where rows have ranks it is the given one, or the greatest where none is given; else it is that
-- of all writes, 0.
abbrev pub delete_rank : Bool → Option ℤ → ℤ
delete_rank true given = unwrap_or given (pos 9223372036854775807)
delete_rank false given = pos 0

-- the delete of a key, or the first refusal
unfoldable pub delete_of : Bool → DelKey → Result Write RowCause
delete_of is_ordered deleted =
    with_key (Some deleted.key) (λ key. with_partition (Some deleted.partition) (λ partition.
    Ok (Del partition key (delete_rank is_ordered deleted.rank))))
