use Rattle.std.proofs.Common.{◌++◌, take, get_or, ℕ, ◌<◌, List, length, ap, sym, ◌∙◌, append_assoc, arith}
use Rattle.table_history.specs.declared.entry.Mark.{Mark}
use Rattle.script_texts.specs.Marks.{marks_text, mark_text}
use Rattle.script_run.proofs.Journals.{journal_begun, marks_text-next, on_err}
use Rattle.script_run.proofs.printing.put_journal.Goals as goal

pub returns-in_err-put_mark_text-clause-err : goal.returns-in_err-put_mark_text-clause-err
returns-in_err-put_mark_text-clause-err c =
    on_err c.from_residual.result
    (journal_begun c.args.text.now.items c.put_mark_text.new.out.items c.args.marks.now c.loop-mark.mark-index (c.in_err-put_mark_text.ensures.err ∙ c.loop-mark.invariant))

pub loop-mark-preserved : goal.loop-mark-preserved
loop-mark-preserved c =
    let marks = c.args.marks.now in
    let count = c.loop-mark.mark-index in
    let none : Mark = record { lane = 0; line = 0; step = 0; reply = 0; a = 0; b = 0 } in
    let within : count < length marks = omega arith in
    c.in_ok-put_mark_text.ensures.ok
    ∙ ap (λ (text : List ℕ). text ++ mark_text (get_or marks count none)) c.loop-mark.invariant
    ∙ append_assoc c.args.text.now.items (marks_text (take count marks)) (mark_text (get_or marks count none))
    ∙ ap (λ (text : List ℕ). c.args.text.now.items ++ text) (sym (marks_text-next marks count none within))
