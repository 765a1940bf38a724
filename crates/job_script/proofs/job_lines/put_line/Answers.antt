use Rattle.std.proofs.Common.{◌++◌, append_assoc, codes, decimal, subst}
use Rattle.job_script.specs.Marks.{line_end}
use Rattle.job_script.specs.Putting.{Puts}
use Rattle.job_script.specs.Texts.{answer_text, job_text, name_of_line}
use Rattle.job_script.proofs.PutParts.{puts_then}
use Rattle.job_script.proofs.job_lines.put_line.Goals as goal

pub returns : goal.returns
unfolding job_text
returns c =
    let job = c.args.job.now in
    let answer = answer_text c.args.reply.now in
    let old = c.args.out.now.items in
    let new = c.put_text.new.out.items in
    let ended = puts_then c.put_text.result c.put_name.new.out.items c.put_answer.new.out.items new answer line_end c.in_ok-put_answer.ensures c.put_text.ensures in
    subst (Puts c.put_text.result old new) (simp append_assoc)
    (puts_then c.put_text.result old c.put_name.new.out.items new (decimal job.number ++ codes " " ++ name_of_line job.line ++ codes " ") (answer ++ line_end) c.in_ok-put_name.ensures ended)
