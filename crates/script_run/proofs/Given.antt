-- The rows and keys of a line as a writer is given them.
use Rattle.std.proofs.Common.{◌≡◌, ℕ, ◌<◌, ◌^◌, ◌&&◌, Bool, true, false, List, [], ◌∷◌, length, suc, map, Option, Some, None, Result, Ok, Err, inl, inr, refl, ap, ◌∙◌, sym, subst, arith}
use Rattle.std.specs.Prelude.{All, IfSome, IsTrue, nat_le}
use Rattle.std.proofs.lemmas.Bool.Decides.{nat_tests}
use Rattle.std.proofs.lemmas.List.{length-map}
use Rattle.avro_schema.specs.Fits.{Fits}
use Rattle.row_values.specs.Layouts.{own_type}
use Rattle.row_values.specs.declared.row_layout.RowLayout.{RowLayout}
use Rattle.script_jobs.specs.Rows.{are_objects, are_rows, is_item_count}
use Rattle.serde_json.specs.Data.{Items}
use Rattle.serde_json.specs.Events.{items_len}
use Rattle.serde_json.specs.View.{items_view, view}
use Rattle.serde_json.specs.declared.value.Value.{Value}
use Rattle.upsert_writer.specs.BatchFits.{BatchFits, IsFit}
use Rattle.upsert_writer.specs.declared.batch.Batch.TheVariants.{Puts}
use Rattle.upsert_writer.specs.declared.batch.PutRow.{PutRow}
use Rattle.script_run.specs.Lines.{given_row, given_rows}
use Rattle.table_jobs.specs.declared.del_key.DelKey.{DelKey}
use Rattle.row_values.specs.RowCells.{IsOwnRow}
use Rattle.script_texts.specs.Texts.{HasOwnRows}
use Rattle.table_core.specs.declared.job_reply.JobReply.{JobReply}
use Rattle.table_core.specs.declared.job_reply.JobReply.TheVariants as job
use Rattle.payload_merge.specs.declared.row.Row.{Row}
use Rattle.payload_merge.specs.declared.row.Write.{Write}
use Rattle.table_history.specs.declared.entry.Entry.{Entry}
use Rattle.table_jobs.specs.Replies.{IsTold, told}
use Rattle.table_query.specs.Answers.{RowsHave}
use Rattle.table_query.proofs.OwnRows.{told_has}
use Rattle.upsert_writer.specs.Answers.{AnswersBatch}
use Rattle.upsert_writer.specs.Batches.{Refusal}
use Rattle.upsert_writer.specs.Blocks.{BlockForm}

-- one after another
pub given_each : (layout : RowLayout) (rows : List Value) → given_rows layout (items_view rows) ≡ map (λ row. given_row layout (view row)) rows
given_each layout [] = refl
given_each layout (row ∷ rows) = ap (λ (given : List PutRow). given_row layout (view row) ∷ given) (given_each layout rows)

pub given_are : (layout : RowLayout) (given : List PutRow) (rows : List Value) (items : Items) → given ≡ map (λ row. given_row layout (view row)) rows → items_view rows ≡ items → given ≡ given_rows layout items
given_are layout given rows items are same = are ∙ sym (given_each layout rows) ∙ ap (given_rows layout) same

-- ---- how many they are

both : (a b : Bool) → IsTrue (a && b) → IsTrue a × IsTrue b
both true b h = (refl, h)
both false b h = absurd cc

few : (count : ℕ) → IsTrue (is_item_count count) → count < 2 ^ 32
few count is = let most : nat_le count 100000 ≡ true = (both (nat_le 1 count) (nat_le count 100000) is).1 in grind (arith, nat_tests)

as_many : (rows : List Value) → items_len (items_view rows) ≡ length rows
as_many [] = refl
as_many (row ∷ rows) = ap suc (as_many rows)

pub rows_fit : (layout : RowLayout) (given : List PutRow) (rows : List Value) (items : Items) → given ≡ map (λ row. given_row layout (view row)) rows → items_view rows ≡ items → IsTrue (are_rows items)
    → All (IsFit (Fits (own_type layout))) given → BatchFits (Fits (own_type layout)) (Puts given)
rows_fit layout given rows items are same counted fit =
    let long : items_len items ≡ length given = ap items_len (sym same) ∙ as_many rows ∙ sym (ap length are ∙ length-map rows (λ row. given_row layout (view row))) in
    let count : IsTrue (is_item_count (items_len items)) = (both (is_item_count (items_len items)) (are_objects items) counted).0 in
    (subst (λ (n : ℕ). n < 2 ^ 32) long (few (items_len items) count), fit)

pub few_keys : (given keys : List DelKey) → given ≡ keys → IsTrue (is_item_count (length keys)) → length given < 2 ^ 32
few_keys given keys same counted = subst (λ (ks : List DelKey). length ks < 2 ^ 32) (sym same) (few (length keys) counted)

-- ---- the rows of an answer

-- a writer answers no rows
pub batch_has : (P : Row → Type 0) (form : BlockForm) (made : Result (List Write) Refusal) (mine : List Entry) (given : JobReply) → AnswersBatch form made mine given → RowsHave P given
batch_has P form (Ok batch) mine given written = by (told mine) (told_has P mine) written.answers.told
  where
    by : (o : Option JobReply) → IfSome o (RowsHave P) → IsTold o given → RowsHave P given
    by (Some answer) has same = subst (RowsHave P) (sym same) has
    by None has same = subst (RowsHave P) (sym same) tt
batch_has P form (Err refusal) mine given (none, inl bad) = subst (RowsHave P) (sym bad) tt
batch_has P form (Err refusal) mine given (none, inr memory) = subst (RowsHave P) (sym memory) tt

pub rows_are_own : (layout : RowLayout) (reply : JobReply) → RowsHave (IsOwnRow layout) reply → HasOwnRows layout reply
rows_are_own layout (job.Rows t rows) own = own
rows_are_own layout reply own = tt
