use Rattle.std.proofs.Common.{◌≡◌, ◌++◌, ◌∙◌, ap}
use Rattle.json.specs.Print.{print}
use Rattle.job_script.proofs.RowTokens.{rows_put}
use Rattle.job_script.proofs.json_rows.put_rows.Goals as goal

pub returns : goal.returns
returns c =
    let tokens = c.write_rows-written.new.out.tokens in
    let before : c.write_rows-written.new.out.before ≡ c.args.out.now.items = cc in
    rows_put c.write_rows-written.result c.args.out.now.items c.into_inner.result.items tokens c.args.rows.now
    (c.into_inner.ensures.items ∙ ap (λ front. front ++ print tokens) before) (rw c.new-writer.ensures.tokens at c.write_rows-written.ensures.tokens)
