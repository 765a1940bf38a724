-- Writes that are lent from a block.
use Rattle.std.proofs.Common.{◌≡◌, ◌++◌, ℕ, List, Option, Some, None, Ok, map, OnSome, sym, ap, ◌∙◌}
use Rattle.file_names.specs.FileId.{file_id}
use Rattle.hudi_base.specs.declared.file_group.GroupRef.{GroupRef}
use Rattle.log_block.specs.declared.block.Block.{Block}
use Rattle.log_block.specs.declared.block.Block.TheVariants.{Data}
use Rattle.payload_merge.specs.Contents.{DataPlace, data_writes}
use Rattle.payload_merge.specs.RowRefs.{write_in}
use Rattle.payload_merge.specs.declared.row_refs.WriteRef.{WriteRef}
use Rattle.table_query.specs.GroupReading.{TableReading, block_writes}
use Rattle.table_query.specs.Parts.{Folds, lent_table}
use Rattle.table_query.proofs.Following.{folded_as, lent_more}

pub lends_data : (reading : TableReading) (group : GroupRef) (t : ℕ) (schema content text id : List ℕ) (block : Block) (old new more : List WriteRef)
    → block ≡ Data t schema content → text ≡ content → id ≡ file_id reading.table group
    → data_writes reading.rows (record { instant = t; partition = group.partition; file_id = id }) text ≡ Ok (map (write_in group.partition) more) → new ≡ old ++ more
    → Folds (block_writes reading group block) (lent_table group.partition old) (lent_table group.partition new)
lends_data reading group t schema content text id block old new more is text_is id_is holds added =
    let place : List ℕ → DataPlace = λ i. record { instant = t; partition = group.partition; file_id = i } in
    folded_as (block_writes reading group block) (Ok (map (write_in group.partition) more)) (lent_table group.partition old) (lent_table group.partition new)
    (ap (block_writes reading group) is ∙ ap (λ (i : List ℕ). data_writes reading.rows (place i) content) (sym id_is) ∙ ap (data_writes reading.rows (place id)) (sym text_is) ∙ holds)
    (ap (lent_table group.partition) added ∙ lent_more group.partition old more)

pub on_some : {A : Type 0} (P Q : Type 0) (o : Option A) → (P → Q) → OnSome o P → OnSome o Q
on_some P Q None f h = h
on_some P Q (Some x) f h = f h
