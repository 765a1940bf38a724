use Rattle.std.proofs.Common.{◌<◌, ◌^◌, Bool, List, All, inl, inr, length, sym, subst}
use Rattle.hudi_base.specs.declared.value.Value.{Value}
use Rattle.payload_merge.specs.declared.row.Row.{Row}
use Rattle.table_jobs.specs.NewRows.{delete_of}
use Rattle.table_jobs.specs.declared.del_key.DelKey.{DelKey}
use Rattle.upsert_writer.specs.BatchFits.{BatchFits, IsFit}
use Rattle.upsert_writer.specs.Batches.{NewWrites, batch_writes, made_from, put_of}
use Rattle.upsert_writer.specs.Making.{IsNewDelete, IsNewPut, MakesAll}
use Rattle.upsert_writer.specs.declared.batch.Batch.{Batch}
use Rattle.upsert_writer.specs.declared.batch.PutRow.{PutRow}
use Rattle.upsert_writer.proofs.MadeWrites.{all_made, delete_new, put_new, ready}
use Rattle.upsert_writer.proofs.making.writes_of.Goals as goal

pub returns-in-Puts-clause-made : goal.returns-in-Puts-clause-made
returns-in-Puts-clause-made g c =
    let new : NewWrites = record { row = g.K.TableCodec.row_made c.args.codec.now; is_ordered = g.K.TableCodec.is_ordered c.args.codec.now } in
    let P : Batch → Type 0 = λ batch. MakesAll (batch_writes new batch) c.puts_of.result in
    subst P (sym c.in-Puts.is) c.puts_of.ensures

pub returns-in-Puts-clause-ready : goal.returns-in-Puts-clause-ready
returns-in-Puts-clause-ready g c =
    let new : NewWrites = record { row = g.K.TableCodec.row_made c.args.codec.now; is_ordered = g.K.TableCodec.is_ordered c.args.codec.now } in
    let Own : Row → Type 0 = g.K.RowCodec.own_row c.args.codec.now in
    let fits : Value → Type 0 = g.K.TableCodec.fits c.args.codec.now in
    let rows : List PutRow = c.in-Puts.rows in
    let may : (length rows < 2 ^ 32) × All (IsFit fits) rows = subst (BatchFits fits) c.in-Puts.is c.requires in
    ready Own (IsNewPut Own) (λ ws all. inl all) (length rows) may.0 (made_from (put_of new) 0 rows)
    (all_made (put_of new) (IsFit fits) (IsNewPut Own) (put_new fits Own new (g.met.K.TableCodec.new_rows_are_own c.args.codec.now)) rows may.1) c.puts_of.result c.puts_of.ensures

pub returns-in-Dels-clause-made : goal.returns-in-Dels-clause-made
returns-in-Dels-clause-made g c =
    let new : NewWrites = record { row = g.K.TableCodec.row_made c.args.codec.now; is_ordered = g.K.TableCodec.is_ordered c.args.codec.now } in
    let P : Batch → Type 0 = λ batch. MakesAll (batch_writes new batch) c.deletes_of.result in
    let Q : Bool → Type 0 = λ b. MakesAll (made_from (delete_of b) 0 c.in-Dels.keys) c.deletes_of.result in
    subst P (sym c.in-Dels.is) (subst Q c.is_ordered.ensures c.deletes_of.ensures)

pub returns-in-Dels-clause-ready : goal.returns-in-Dels-clause-ready
returns-in-Dels-clause-ready g c =
    let Own : Row → Type 0 = g.K.RowCodec.own_row c.args.codec.now in
    let fits : Value → Type 0 = g.K.TableCodec.fits c.args.codec.now in
    let keys : List DelKey = c.in-Dels.keys in
    let few : length keys < 2 ^ 32 = subst (BatchFits fits) c.in-Dels.is c.requires in
    let any : All (λ (key : DelKey). Unit {0}) keys = λ k d h. tt in
    ready Own IsNewDelete (λ ws all. inr all) (length keys) few (made_from (delete_of c.is_ordered.result) 0 keys)
    (all_made (delete_of c.is_ordered.result) (λ (key : DelKey). Unit {0}) IsNewDelete (delete_new c.is_ordered.result) keys any) c.deletes_of.result c.deletes_of.ensures
