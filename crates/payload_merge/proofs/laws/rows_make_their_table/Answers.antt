use Rattle.payload_merge.proofs.KeyedTables.{IsKeyed-fold, IsKeyed-table_after_all, put_rows_of, rows_of-rise}
use Rattle.payload_merge.proofs.laws.rows_make_their_table.Goals as goal

pub returns : goal.returns
returns c = (IsKeyed-fold, IsKeyed-table_after_all, λ table keyed. record { rising = rows_of-rise table keyed; again = put_rows_of table keyed })
