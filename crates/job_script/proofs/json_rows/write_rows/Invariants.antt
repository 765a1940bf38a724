use Rattle.std.proofs.Common.{◌≡◌, ◌∷◌, ◌++◌, drop}
use Rattle.json.specs.Token.{begin_array}
use Rattle.job_script.proofs.RowTokens.{rest_tokens}
use Rattle.job_script.proofs.json_rows.write_rows.Given as goal

-- the tokens so far, and those of the rest
abbrev pub invariant-loop-row : goal.invariant-loop-row
invariant-loop-row l = (l.out.tokens ++ rest_tokens (drop l.row-index l.rows) ≡ l.fn.out.tokens ++ begin_array ∷ rest_tokens l.rows) × (l.out.before ≡ l.fn.out.before)
