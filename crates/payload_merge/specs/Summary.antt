-- The whole effect of writes to one key: their greatest rank and what they leave where there was no row. The rank is
-- kept beside the row, since writes that leave none, or a row of a small rank, may not outrank a row from before them.
use Rattle.std.specs.Prelude.{◌≡◌, ◌≤ℤ◌, int_lt, List, map, Option, Some, None, All, Contains, if◌then◌else◌}
use Rattle.std.specs.Int.{int_max}
use Rattle.std.specs.Option.{ForSome}
use Rattle.payload_merge.specs.declared.row.Row.{Row}
use Rattle.payload_merge.specs.declared.row.Write.{Write}
use Rattle.payload_merge.specs.declared.summary.Summary.{Summary}
use Rattle.payload_merge.specs.Payload.{Key, key_of_row, rank_of, row_after}
use Rattle.payload_merge.specs.Fold.{row_after_all}

-- the summary of writes, of which there is one at least, in their order
pub record IsSummaryOf (writes : List Write) (summary : Summary) : Type 0 where
  pub reached : Contains (map rank_of writes) summary.most
  pub greatest : All (λ write. rank_of write ≤ℤ summary.most) writes
  pub value : summary.value ≡ row_after_all None writes

-- a row, if there is one, has this key
abbrev pub IsOfKey : Key → Option Row → Type 0
IsOfKey key present = ForSome present (λ row. key_of_row row ≡ key)

-- two rows, if there are two, have one key
abbrev pub HaveOneKey : Option Row → Option Row → Type 0
HaveOneKey one other = ForSome one (λ row. ForSome other (λ also. key_of_row row ≡ key_of_row also))

-- the summary of one write
abbrev pub summary_of_write : Write → Summary
summary_of_write write = record { most = rank_of write; value = row_after None write }

-- the row of a key after summed writes: a present row stays where it outranks all of them
abbrev pub row_onto : Summary → Option Row → Option Row
row_onto summary None = summary.value
row_onto summary (Some present) = if int_lt summary.most present.rank then Some present else summary.value

-- the summary of writes and then of later ones
abbrev pub summary_then : Summary → Summary → Summary
summary_then earlier later = record { most = int_max earlier.most later.most; value = row_onto later earlier.value }
