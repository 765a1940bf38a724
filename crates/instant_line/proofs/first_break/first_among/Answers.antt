use Rattle.std.proofs.Common.{◌≡◌, ◌+◌, length, subst, sym, arith}
use Rattle.instant_line.specs.FirstBreak.{IsFirst}
use Rattle.instant_line.proofs.FirstBreaks.{first-step}
use Rattle.instant_line.proofs.first_break.first_among.Goals as goal

pub loop-i-preserved : goal.loop-i-preserved
loop-i-preserved c =
    subst (IsFirst c.args.entries.now c.args.names.now (c.loop-i.i + 1)) (sym c.earlier-first.ensures)
    (first-step c.args.entries.now c.args.names.now c.loop-i.i c.index-names-i.result c.loop-i.first c.break_number.result c.loop-i-test.true c.index-names-i.is
    c.loop-i.invariant c.break_number.ensures)

pub returns : goal.returns
returns c =
    let all : c.loop-i.i ≡ length c.args.names.now = omega arith in
    subst (λ n. IsFirst c.args.entries.now c.args.names.now n c.loop-i.first) all c.loop-i.invariant
