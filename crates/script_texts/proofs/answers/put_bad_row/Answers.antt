use Rattle.std.proofs.Common.{◌++◌, append_assoc, codes, decimal, subst}
use Rattle.script_texts.specs.Putting.{Puts}
use Rattle.script_texts.specs.Texts.{row_cause_text}
use Rattle.script_texts.proofs.PutParts.{puts_then}
use Rattle.script_texts.proofs.answers.put_bad_row.Goals as goal

pub returns : goal.returns
returns c =
    let r = c.put_row_cause.result in
    let old = c.args.out.now.items in
    let middle = c.put_refused.new.out.items in
    let new = c.put_row_cause.new.out.items in
    let cause = row_cause_text c.args.cause in
    subst (Puts r old new) (simp append_assoc)
    (puts_then r old middle new (codes "bad_row " ++ decimal c.args.place ++ codes " ") cause c.in_ok-put_refused.ensures c.put_row_cause.ensures)
