use Rattle.std.proofs.Common.{◌≡◌, ◌+◌, length, subst, sym, arith}
use Rattle.instant_line.specs.Building.{IsBuilt}
use Rattle.instant_line.specs.Line.{Held}
use Rattle.instant_line.proofs.Builds.{built-behind, built-push, built-skip, not-new, built-files}
use Rattle.instant_line.proofs.reading.line_of_entries.Goals as goal
use Rattle.instant_line.proofs.reading.line_of_entries.Goals.{then-is_new_time+in_ok-push, else-is_new_time}

pub push-requires : goal.push-requires
push-requires c =
    built-behind c.args.entries.now c.loop-i.i c.loop-i.line.line c.index-entries-i.result c.requires.order c.loop-i.invariant c.loop-i-test.true c.index-entries-i.is
    (c.is_new_time.ensures.0 c.if-is_new_time.true)

pub loop-i-preserved : goal.loop-i-preserved
loop-i-preserved c = elim c.if-is_new_time.branch [
  | then-is_new_time+in_ok-push w ↦
      subst (λ (h : Held). IsBuilt c.args.entries.now (c.loop-i.i + 1) h.line) (sym w.line-is)
      (built-push c.args.entries.now c.loop-i.i c.loop-i.line.line w.push.new.self.line c.index-entries-i.result c.loop-i.invariant c.loop-i-test.true c.index-entries-i.is
      w.in_ok-push.ensures)
  | else-is_new_time w ↦
      let old = not-new c.args.entries.now c.loop-i.i c.loop-i-test.true (λ new. let test = c.is_new_time.ensures.1 new in let no = w.if-is_new_time.false in cc) in
      subst (λ (h : Held). IsBuilt c.args.entries.now (c.loop-i.i + 1) h.line) (sym w.line-is)
      (built-skip c.args.entries.now c.loop-i.i c.loop-i.line.line c.requires.order c.loop-i.invariant c.loop-i-test.true old.0 old.1)
]

pub returns : goal.returns
returns c =
    let all : c.loop-i.i ≡ length c.args.entries.now = omega arith in
    built-files c.args.entries.now c.loop-i.line.line c.requires.sound
    (subst (λ n. IsBuilt c.args.entries.now n c.loop-i.line.line) all c.loop-i.invariant)
