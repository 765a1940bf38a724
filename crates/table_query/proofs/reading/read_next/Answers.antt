use Rattle.std.proofs.Common.{◌≡◌, ◌∙◌, get_or, refl, arith}
use Rattle.std.proofs.lemmas.Result.{MatchResult-weaker}
use Rattle.table_history.specs.JobLaw.{entries_of}
use Rattle.table_query.proofs.NextFiles.{empty_next, file_next}
use Rattle.table_query.proofs.reading.read_next.Goals as goal

pub returns-then-size-eq0-clause-read : goal.returns-then-size-eq0-clause-read
returns-then-size-eq0-clause-read g c =
    let empty : get_or c.args.sizes.now c.args.number 0 ≡ 0 = omega (arith, c.if-size-eq0.true) in
    empty_next c.args.pin c.args.number c.args.sizes.now (entries_of (g.T.Steps.mine c.args.steps.now)) c.from_vec.result c.requires.within empty (c.from_vec.ensures ∙ c.new.ensures.items) c.requires.so_far

pub returns-clause-read : goal.returns-clause-read
returns-clause-read g c =
    let file_is : c.in-Ok.file ≡ c.args.number = omega (arith, c.in-Ok.ensures.1) in
    MatchResult-weaker c.read_file.result c.read_file.ensures.read
    (λ bytes read. file_next c.args.pin c.args.number c.in-Ok.file (get_or c.args.sizes.now c.args.number 0) c.args.sizes.now (entries_of (g.T.Steps.mine c.args.steps.now)) (entries_of (g.T.Steps.mine c.read_file.new.steps)) bytes
    c.requires.within file_is refl (omega (arith, c.if-size-eq0.false)) c.requires.so_far c.read_file.ensures.leaves read)
    (λ reply failed. failed)
