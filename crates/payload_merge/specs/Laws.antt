-- What holds of the payload rule and of the fold, as statements that public functions ensure.
use Rattle.std.specs.Prelude.{◌≡◌, ℕ, Bool, ◌<◌, ◌<ℤ◌, ◌≤ℤ◌, ◌==◌, List, [], ◌∷◌, ◌++◌, Option, Some, None, MatchOption, All, filter, map, flat_map, if◌then◌else◌}
use Rattle.std.specs.List.Sorted.{IsPermutation, IsNonDecreasingBy, IsStrictlySortedBy}
use Rattle.std.specs.Ordering.{eq_by_cmp}
use Rattle.std.specs.Option.{option_and_then}
use Rattle.std.specs.FinMap.{get, empty}
use Rattle.payload_merge.specs.declared.row.Row.{Row}
use Rattle.payload_merge.specs.declared.row.Write.{Write}
use Rattle.payload_merge.specs.declared.row.Write.TheVariants.{Put}
use Rattle.payload_merge.specs.Payload.{Key, key_cmp, key_of, key_of_row}
use Rattle.payload_merge.specs.Fold.{RowTable, row_after_all, table_after_all, InstantWrites, in_time_order, writes_in_order, writes_of, fold, rows_of, IsKeyed}
use Rattle.payload_merge.specs.declared.summary.Summary.{Summary}
use Rattle.payload_merge.specs.Summary.{HaveOneKey, IsOfKey, IsSummaryOf, row_onto, summary_of_write, summary_then}
use Rattle.payload_merge.specs.Contents.{BaseReading, ContentReading, DataPlace, PlacedContent, ReadAs, data_content, table_of_base, table_of_contents}

-- the writes that are about a key
abbrev pub writes_to : Key → List Write → List Write
writes_to key writes = filter (λ write. eq_by_cmp key_cmp key (key_of write)) writes

-- the rows that have a key
abbrev pub rows_at : Key → List Row → List Row
rows_at key rows = filter (λ row. eq_by_cmp key_cmp key (key_of_row row)) rows

-- What a table has at a key after writes is what the writes to that key alone make of what it had there.
abbrev pub WritesActKeyByKey : Type 0
WritesActKeyByKey = (table : RowTable) (writes : List Write) (key : Key) → get (table_after_all table writes) key ≡ row_after_all (get table key) (writes_to key writes)

-- So it is for instants, whose writes take effect in the order of time.
abbrev pub InstantsFoldKeyByKey : Type 0
InstantsFoldKeyByKey = (instants : List InstantWrites) (key : Key) → get (fold instants) key ≡ row_after_all None (writes_to key (writes_in_order instants))

-- instants in the order of time: the same ones, whose times don't fall, and those of one time as they came
pub record OrdersByTime (instants ordered : List InstantWrites) : Type 0 where
  pub same : IsPermutation instants ordered
  pub rising : IsNonDecreasingBy (λ each. each.instant) ordered
  pub stable : (instant : ℕ) → filter (λ each. each.instant == instant) ordered ≡ filter (λ each. each.instant == instant) instants

-- the times strictly rise
abbrev pub RisesStrictly : List InstantWrites → Type 0
RisesStrictly [] = Unit {0}
RisesStrictly (each ∷ instants) = All (λ later. each.instant < later.instant) instants × RisesStrictly instants

-- `in_time_order` does that, and leaves what already rises as it is.
abbrev pub InstantsFoldInTimeOrder : Type 0
InstantsFoldInTimeOrder = ((instants : List InstantWrites) → OrdersByTime instants (in_time_order instants)) × ((instants : List InstantWrites) → RisesStrictly instants → in_time_order instants ≡ instants)

-- the row is one of these, none before it has a greater rank, and each after it has a smaller one: the last of
-- those of the greatest rank
abbrev pub IsLatestOfGreatest : List Row → Row → Type 0
IsLatestOfGreatest rows row = (before : List Row) × (later : List Row) × (rows ≡ before ++ row ∷ later) × All (λ other. other.rank ≤ℤ row.rank) before × All (λ other. other.rank <ℤ row.rank) later

-- After puts alone, a key has the last of the rows of the greatest rank that were put at it, and no row only if
-- none was.
abbrev pub LatestOfGreatestRankStays : Type 0
LatestOfGreatestRankStays = (rows : List Row) (key : Key) → MatchOption (get (table_after_all empty (map Put rows)) key) (rows_at key rows ≡ []) (IsLatestOfGreatest (rows_at key rows))

-- A table whose rows stand at their own keys has them in the order of these, each key once, and puts of them make
-- the table again: so a base file of the rows stands for the table.
pub record IsMadeByItsRows (table : RowTable) : Type 0 where
  pub rising : IsStrictlySortedBy key_cmp (map key_of_row (rows_of table))
  pub again : table_after_all empty (map Put (rows_of table)) ≡ table

-- So it is with each table that a fold leaves, and with what writes leave of a table of that kind.
abbrev pub RowsMakeTheirTable : Type 0
RowsMakeTheirTable = ((instants : List InstantWrites) → IsKeyed (fold instants)) × ((table : RowTable) (writes : List Write) → IsKeyed table → IsKeyed (table_after_all table writes)) × ((table : RowTable) → IsKeyed table → IsMadeByItsRows table)

-- Later instants are taken after what the earlier ones left.
abbrev pub LaterInstantsFoldLast : Type 0
LaterInstantsFoldLast = (earlier later : List InstantWrites) → RisesStrictly (earlier ++ later) → fold (earlier ++ later) ≡ table_after_all (fold earlier) (flat_map writes_of later)

-- Writes whose keys pass a test make of the keys that pass what all the writes make of them, and leave the others.
abbrev pub WritesToSomeKeysSuffice : Type 0
WritesToSomeKeysSuffice = (passes : Key → Bool) (table : RowTable) (writes : List Write) (key : Key) →
    get (table_after_all table (filter (λ write. passes (key_of write)) writes)) key ≡ (if passes key then get (table_after_all table writes) key else get table key)

-- A base file of a table's rows makes the table again.
abbrev pub BaseOfATableMakesIt : Type 0
BaseOfATableMakesIt = (reading : BaseReading) (partition bytes : List ℕ) (table : RowTable) → IsKeyed table → reading partition bytes ≡ Some (rows_of table) → table_of_base reading partition bytes ≡ Some table

-- The fold of data contents is that of the puts of their rows.
abbrev pub DataContentsFoldAsTheirRows : Type 0
DataContentsFoldAsTheirRows = (reading : ContentReading) (table : RowTable) (contents : List (DataPlace × List ℕ)) (rows : List (List Row)) → ReadAs reading.rows contents rows
    → table_of_contents reading table (map data_content contents) ≡ Some (table_after_all table (map Put (flat_map (λ some. some) rows)))

-- Contents are taken after what the earlier ones left, if all have a reading.
abbrev pub LaterContentsFoldLast : Type 0
LaterContentsFoldLast = (reading : ContentReading) (table : RowTable) (earlier later : List PlacedContent)
    → table_of_contents reading table (earlier ++ later) ≡ option_and_then (λ between. table_of_contents reading between later) (table_of_contents reading table earlier)

-- Each write has a summary, and a summary of writes and one of later ones make that of all.
pub record SummariesJoin : Type 0 where
  pub one : (write : Write) → IsSummaryOf (write ∷ []) (summary_of_write write)
  pub both : (writes more : List Write) (earlier later : Summary) → IsSummaryOf writes earlier → IsSummaryOf more later → IsSummaryOf (writes ++ more) (summary_then earlier later)

-- What writes make of any row of their key, or of none, is what their summary makes of it.
abbrev pub SummaryIsTheWholeEffect : Type 0
SummaryIsTheWholeEffect = (writes : List Write) (summary : Summary) (present : Option Row) → IsSummaryOf writes summary → row_after_all present writes ≡ row_onto summary present

-- Summaries of writes to one key have rows of that key alone, so they may be joined and laid onto its row.
pub record SummariesKeepTheirKey : Type 0 where
  pub one : (write : Write) → IsOfKey (key_of write) (summary_of_write write).value
  pub pairs : (key : Key) (row other : Option Row) → IsOfKey key row → IsOfKey key other → HaveOneKey row other
  pub onto : (key : Key) (summary : Summary) (present : Option Row) → IsOfKey key summary.value → IsOfKey key present → IsOfKey key (row_onto summary present)
