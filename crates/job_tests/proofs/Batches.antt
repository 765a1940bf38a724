-- The rows of a script are a batch that a writer may be given.
use Rattle.std.proofs.Common.{List, [], ◌∷◌, All, refl, arith}
use Rattle.std.proofs.lemmas.List.{length-map}
use Rattle.std.proofs.lemmas.List.Elements.{All-nil, All-cons, All-head, All-tail}
use Rattle.job_script.specs.Rows.{AreSized, IsSized, value_of_input}
use Rattle.job_script.specs.declared.script.InputRow.{InputRow}
use Rattle.plain_rows.specs.PlainValues.{IsPlainValue}
use Rattle.upsert_writer.specs.BatchFits.{BatchFits, IsFit}
use Rattle.upsert_writer.specs.declared.batch.Batch.TheVariants.{Puts}
use Rattle.upsert_writer.specs.declared.batch.PutRow.TheVariants.{Fits}
use Rattle.job_tests.specs.NewJobs.{are_given}

all_fit : (rows : List InputRow) → All IsSized rows → All (IsFit IsPlainValue) (are_given rows)
all_fit [] sized = All-nil (IsFit IsPlainValue)
all_fit (row ∷ rows) sized =
    let first = All-head IsSized row rows sized in
    All-cons (IsFit IsPlainValue) (Fits (value_of_input row)) (are_given rows)
    (record { key = row.key; rank = row.rank; body = row.body; is = refl; key_text = first.key_text; body_text = first.body_text })
    (all_fit rows (All-tail IsSized row rows sized))

pub batch_of_sized : (rows : List InputRow) → AreSized rows → BatchFits IsPlainValue (Puts (are_given rows))
batch_of_sized rows sized = let few = sized.few in (omega (arith, length-map rows (λ (row : InputRow). Fits (value_of_input row)), few), all_fit rows sized.each)
