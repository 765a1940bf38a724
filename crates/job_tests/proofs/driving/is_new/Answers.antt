use Rattle.std.proofs.Common.{◌≡◌, List, take, map, subst, ◌∙◌, All}
use Rattle.std.specs.Prelude.{reverse}
use Rattle.std.proofs.lemmas.List.{take_all}
use Rattle.std.proofs.lemmas.List.Elements.{All-more}
use Rattle.table_core.specs.Marks.{mark_of}
use Rattle.table_history.specs.declared.entry.Mark.{Mark}
use Rattle.job_tests.proofs.Marks.{IsOther, new_job}
use Rattle.job_tests.proofs.driving.is_new.Goals as goal

pub loop-mark-preserved : goal.loop-mark-preserved
loop-mark-preserved c =
    let l = c.loop-mark in
    All-more (IsOther c.args.line) c.journal-marks.result.now l.mark-index _ c.loop-mark-test.true l.invariant c.if-mark-line.false

pub returns : goal.returns
returns c =
    let l = c.loop-mark in
    let marks = c.journal-marks.result.now in
    let H = c.args.board.now.entries in
    let all : take l.mark-index marks ≡ map mark_of (reverse H) = take_all l.mark-index marks c.loop-mark-test.false ∙ c.journal-marks.ensures.marks in
    λ yes. new_job H c.args.line (subst (λ (ms : List Mark). All (IsOther c.args.line) ms) all l.invariant)
