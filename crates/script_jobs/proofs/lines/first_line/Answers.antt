use Rattle.std.proofs.Common.{◌≡◌, ◌+◌, ◌-◌, ◌<◌, length, take, drop, [], ◌∷◌, arith, ap, ◌∙◌, sym}
use Rattle.std.proofs.lemmas.Grind.{common_steps}
use Rattle.std.specs.Str.Lines.{lines}
use Rattle.script_jobs.proofs.LineParts.{lines-at_feed, lines-last}
use Rattle.script_jobs.proofs.lines.first_line.Goals as goal

pub returns-in-Some-clause-line : goal.returns-in-Some-clause-line
returns-in-Some-clause-line c =
    let bs = c.args.bytes.now in
    let found = c.in-Some.ensures in
    let rest : take (length bs - (c.in-Some.end + 1)) (drop (c.in-Some.end + 1) bs) ≡ drop (c.in-Some.end + 1) bs = grind (arith, common_steps) in
    rw rest (lines-at_feed bs c.in-Some.end found.0.high found.0.before found.1 ∙ ap (λ line. line ∷ lines (drop (c.in-Some.end + 1) bs)) (sym c.without_return.ensures))

pub returns-in-None-2-clause-line : goal.returns-in-None-2-clause-line
returns-in-None-2-clause-line c =
    let bs = c.args.bytes.now in
    let rest : take (length bs - length bs) (drop (length bs) bs) ≡ [] = grind (arith, common_steps) in
    let some : 0 < length bs = grind arith in
    rw rest (lines-last bs some c.in-None-2.ensures)
