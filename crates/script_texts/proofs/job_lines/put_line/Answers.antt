use Rattle.std.proofs.Common.{◌++◌, append_assoc, codes, decimal, subst}
use Rattle.script_jobs.specs.Scripts.{said}
use Rattle.script_texts.specs.Marks.{line_end}
use Rattle.script_texts.specs.Putting.{Puts}
use Rattle.script_texts.specs.Texts.{answer_text, job_name, job_text}
use Rattle.script_texts.proofs.PutParts.{puts_then}
use Rattle.script_texts.proofs.job_lines.put_line.Goals as goal

pub returns : goal.returns
unfolding job_text
returns c =
    let job = c.args.job.now in
    let answer = answer_text c.args.codec.now.records.own c.args.reply.now in
    let old = c.args.out.now.items in
    let new = c.put_text.new.out.items in
    let ended = puts_then c.put_text.result c.put_name.new.out.items c.put_answer.new.out.items new answer line_end c.in_ok-put_answer.ensures c.put_text.ensures in
    subst (Puts c.put_text.result old new) (simp append_assoc)
    (puts_then c.put_text.result old c.put_name.new.out.items new (decimal job.line ++ codes " " ++ job_name (said job.what) ++ codes " ") (answer ++ line_end) c.in_ok-put_name.ensures ended)
