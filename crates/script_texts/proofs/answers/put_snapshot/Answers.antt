use Rattle.std.proofs.Common.{◌++◌, append_assoc, codes, subst}
use Rattle.script_texts.specs.Putting.{Puts}
use Rattle.script_texts.specs.Texts.{rows_text, time_or_none}
use Rattle.script_texts.proofs.PutParts.{puts_then}
use Rattle.script_texts.proofs.answers.put_snapshot.Goals as goal

pub returns : goal.returns
returns c =
    let r = c.put_rows.result in
    let old = c.args.out.now.items in
    let named = c.put_text.new.out.items in
    let timed = c.put_time_or_none.new.out.items in
    let new = c.put_rows.new.out.items in
    let time = time_or_none c.args.time in
    let rows = rows_text c.args.codec.now.records.own c.args.rows.now in
    let listed = puts_then r timed c.put_text-2.new.out.items new (codes " ") rows c.in_ok-put_text-2.ensures c.put_rows.ensures in
    let shown = puts_then r named timed new time (codes " " ++ rows) c.in_ok-put_time_or_none.ensures listed in
    subst (Puts r old new) (simp append_assoc) (puts_then r old named new (codes "rows ") (time ++ (codes " " ++ rows)) c.in_ok-put_text.ensures shown)
