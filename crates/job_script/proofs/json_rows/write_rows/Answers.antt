use Rattle.std.proofs.Common.{◌+◌, ◌++◌, drop, sym, ap, ◌∙◌, append_assoc}
use Rattle.json.specs.Tree.{json_tokens}
use Rattle.serde_json.specs.Written.{outline}
use Rattle.job_script.specs.Texts.{row_data}
use Rattle.job_script.proofs.RowTokens.{rest_tokens, rest_tokens-more}
use Rattle.job_script.proofs.json_rows.write_rows.Goals as goal

pub loop-row-preserved : goal.loop-row-preserved
loop-row-preserved c =
    let l = c.loop-row in
    let row = c.row-item.result in
    let after = rest_tokens (drop (l.row-index + 1) c.args.rows.now) in (
      ap (λ tokens. tokens ++ after) c.in_ok-write_row.ensures.tokens ∙ append_assoc l.out.tokens (json_tokens (outline (row_data row))) after
          ∙ ap (λ more. l.out.tokens ++ more) (sym (rest_tokens-more c.args.rows.now l.row-index row c.loop-row-test.true c.row-item.is)) ∙ l.invariant.0,
      c.in_ok-write_row.ensures.before ∙ l.invariant.1,
    )
