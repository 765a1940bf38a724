use Rattle.std.proofs.Common.{◌≡◌, ◌≤◌, length, sym, ◌∙◌, arith}
use Rattle.std.proofs.lemmas.Bool.{eqb-false}
use Rattle.job_script.proofs.ScriptParts.{sized_texts}
use Rattle.job_script.proofs.values.is_sized.Goals as goal

pub returns-then-key-le-MOST_KEY_BYTES : goal.returns-then-key-le-MOST_KEY_BYTES
returns-then-key-le-MOST_KEY_BYTES c =
    let key = c.args.key.now in
    let some : 1 ≤ length key = omega (arith, eqb-false (length key) 0 (sym c.is_empty.ensures ∙ c.if-key-le-MOST_KEY_BYTES.true.0)) in
    sized_texts key c.args.body.now some c.if-key-le-MOST_KEY_BYTES.true.1 c.utf8.key c.utf8.body
