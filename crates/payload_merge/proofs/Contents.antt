-- The writes of contents, one after another.
use Rattle.std.proofs.Common.{◌≡◌, ℕ, List, [], ◌∷◌, ◌++◌, Option, Some, None, map, refl, sym, ap, ◌∙◌, append_assoc}
use Rattle.std.specs.Prelude.{Result, flat_map}
use Rattle.std.specs.Option.{option_and_then, option_map}
use Rattle.std.specs.FinMap.{empty}
use Rattle.std.proofs.lemmas.List.{map-append}
use Rattle.payload_merge.specs.declared.row.Row.{Row}
use Rattle.payload_merge.specs.declared.row.Write.{Write}
use Rattle.payload_merge.specs.declared.row.Write.TheVariants.{Put}
use Rattle.payload_merge.specs.Fold.{IsKeyed, RowTable, rows_of, table_after_all}
use Rattle.payload_merge.specs.Contents.{BaseReading, ContentReading, DataPlace, PlacedContent, ReadAs, content_writes, contents_writes, data_content, puts_of, table_of_base, table_of_contents, writes_if_read}
use Rattle.payload_merge.proofs.KeyedTables.{put_rows_of}
use Rattle.payload_merge.proofs.Tables.{table_after_all-append}

-- a base file of a table's rows makes it again
pub base_of_table : (reading : BaseReading) (partition bytes : List ℕ) (table : RowTable) → IsKeyed table → reading partition bytes ≡ Some (rows_of table) → table_of_base reading partition bytes ≡ Some table
base_of_table reading partition bytes table keyed read = ap (option_map (λ rows. table_after_all empty (map Put rows))) read ∙ ap Some (put_rows_of table keyed)

-- writes that were read, and then those of later contents
abbrev followed_by : Option (List Write) → Option (List Write) → Option (List Write)
followed_by now more = option_and_then (λ writes. option_map (λ later. writes ++ later) more) now

-- data contents hold the puts of their rows
pub contents_writes-data : (reading : ContentReading) (contents : List (DataPlace × List ℕ)) (rows : List (List Row)) → ReadAs reading.rows contents rows → contents_writes reading (map data_content contents) ≡ Some (map Put (flat_map (λ some. some) rows))
contents_writes-data reading [] [] read = refl
contents_writes-data reading [] (some ∷ more) read = absurd read
contents_writes-data reading (first ∷ rest) [] read = absurd read
contents_writes-data reading (first ∷ rest) (some ∷ more) read =
    ap (λ (r : Result (List Row) ℕ). followed_by (writes_if_read (puts_of r)) (contents_writes reading (map data_content rest))) read.0
    ∙ ap (followed_by (Some (map Put some))) (contents_writes-data reading rest more read.1)
    ∙ ap Some (sym (map-append Put some (flat_map (λ some. some) more)))

pub data_contents_fold : (reading : ContentReading) (table : RowTable) (contents : List (DataPlace × List ℕ)) (rows : List (List Row)) → ReadAs reading.rows contents rows → table_of_contents reading table (map data_content contents) ≡ Some (table_after_all table (map Put (flat_map (λ some. some) rows)))
data_contents_fold reading table contents rows read = ap (option_map (table_after_all table)) (contents_writes-data reading contents rows read)

followed_by-assoc : (a b c : Option (List Write)) → followed_by a (followed_by b c) ≡ followed_by (followed_by a b) c
followed_by-assoc None b c = refl
followed_by-assoc (Some xs) None c = refl
followed_by-assoc (Some xs) (Some ys) None = refl
followed_by-assoc (Some xs) (Some ys) (Some zs) = ap Some (sym (append_assoc xs ys zs))

followed_by-nothing : (a : Option (List Write)) → followed_by (Some []) a ≡ a
followed_by-nothing None = refl
followed_by-nothing (Some ws) = refl

-- contents one list after another
pub contents_writes-append : (reading : ContentReading) (xs ys : List PlacedContent) → contents_writes reading (xs ++ ys) ≡ followed_by (contents_writes reading xs) (contents_writes reading ys)
contents_writes-append reading [] ys = sym (followed_by-nothing (contents_writes reading ys))
contents_writes-append reading (x ∷ xs) ys =
    ap (followed_by (writes_if_read (content_writes reading x.place x.content))) (contents_writes-append reading xs ys)
    ∙ followed_by-assoc (writes_if_read (content_writes reading x.place x.content)) (contents_writes reading xs) (contents_writes reading ys)

pub table_of_contents-append : (reading : ContentReading) (table : RowTable) (xs ys : List PlacedContent) → table_of_contents reading table (xs ++ ys) ≡ option_and_then (λ between. table_of_contents reading between ys) (table_of_contents reading table xs)
table_of_contents-append reading table xs ys = ap (option_map (table_after_all table)) (contents_writes-append reading xs ys) ∙ by_reading (contents_writes reading xs) (contents_writes reading ys)
  where
    by_reading : (a b : Option (List Write)) → option_map (table_after_all table) (followed_by a b) ≡ option_and_then (λ between. option_map (table_after_all between) b) (option_map (table_after_all table) a)
    by_reading None b = refl
    by_reading (Some ws) None = refl
    by_reading (Some ws) (Some us) = ap Some (table_after_all-append table ws us)
