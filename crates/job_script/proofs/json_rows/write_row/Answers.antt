use Rattle.std.proofs.Common.{◌∙◌, ap}
use Rattle.std.proofs.lemmas.Result.{on_ok_weaker}
use Rattle.job_script.specs.Texts.{shown}
use Rattle.job_script.proofs.RowTokens.{row_written}
use Rattle.job_script.proofs.json_rows.write_row.Goals as goal

pub returns-clause-tokens : goal.returns-clause-tokens
returns-clause-tokens c =
    let seqno_is = c.as_str.ensures.value ∙ c.in_ok-seqno.ensures in
    let time_is = c.text_of.ensures ∙ c.text.ensures.value in
    let body_is = c.shown.ensures ∙ ap shown c.as_slice.ensures in
    let key_is = c.shown-2.ensures ∙ ap shown c.as_slice-2.ensures in
    on_ok_weaker c.end_object.result
    (row_written c.args.row.now c.args.out.now.tokens seqno_is time_is body_is key_is c.in_ok-begin_object.ensures.ok c.in_ok-write_text.ensures.tokens
    c.in_ok-write_text-2.ensures.tokens c.in_ok-write_text-3.ensures.tokens c.in_ok-write_text-4.ensures.tokens c.in_ok-write_rank.ensures.tokens)
    c.end_object.ensures.ok
