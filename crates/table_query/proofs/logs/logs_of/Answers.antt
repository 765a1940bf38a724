use Rattle.std.proofs.Common.{◌≡◌, ◌∷◌, [], ◌∙◌, sym, ap, Ok, ℕ, List, arith, zero-add}
use Rattle.table_query.specs.GroupReading.{log_of, logs_of, part_gives}
use Rattle.table_query.specs.Parts.{text_at}
use Rattle.table_query.proofs.Following.{gives_more, same_at, stops_after}
use Rattle.table_query.proofs.Stops.{error_on}
use Rattle.table_query.proofs.logs.logs_of.Goals as goal

pub returns-in-Err : goal.returns-in-Err
returns-in-Err c =
    let at : ℕ = c.loop-i.i in
    let bytes : ℕ → List ℕ = text_at c.args.texts.now in
    let text : bytes at ≡ c.index-texts-i.result = same_at c.args.texts.now at [] c.index-texts-i.result (omega (arith, c.requires, c.loop-i-test.true)) ∙ sym c.index-texts-i.is in
    error_on c.in-Err.reply (log_of c.index-parts-i.result c.index-texts-i.result) (logs_of bytes 0 c.args.parts.now)
    (λ d wrong. stops_after (part_gives bytes) 0 at c.args.parts.now c.index-parts-i.result c.loop-i.logs d c.loop-i-test.true c.index-parts-i.is c.loop-i.invariant
    (ap (log_of c.index-parts-i.result) (ap bytes (zero-add at) ∙ text) ∙ wrong))
    c.in-Err.ensures

pub loop-i-preserved : goal.loop-i-preserved
loop-i-preserved c =
    let at : ℕ = c.loop-i.i in
    let bytes : ℕ → List ℕ = text_at c.args.texts.now in
    let text : bytes at ≡ c.index-texts-i.result = same_at c.args.texts.now at [] c.index-texts-i.result (omega (arith, c.requires, c.loop-i-test.true)) ∙ sym c.index-texts-i.is in
    gives_more (part_gives bytes) 0 at c.args.parts.now c.index-parts-i.result c.loop-i.logs (c.in-Ok.log ∷ []) c.loop-i-test.true c.index-parts-i.is c.loop-i.invariant
    (ap (log_of c.index-parts-i.result) (ap bytes (zero-add at) ∙ text) ∙ c.in-Ok.ensures)
    ∙ ap Ok (sym c.in-Ok-push.ensures.ok)
