use Rattle.std.proofs.Common.{◌≡◌, ◌+◌, ◌∙◌, refl, arith, subst, ℕ}
use Rattle.table_history.specs.JobLaw.{entries_of}
use Rattle.table_jobs.proofs.Seen.{goes_on, stays}
use Rattle.table_query.specs.Reading.{LeavesEarlier}
use Rattle.table_query.proofs.NextFiles.{files_more, leaves_itself, leaves_more, no_files}
use Rattle.table_query.proofs.reading.read_files.Goals as goal

pub loop-i-init : goal.loop-i-init
loop-i-init g c = record {
  job = refl;
  seen = stays _;
  later = g.met.T.Steps.later_itself _;
  leaves = leaves_itself _ _ _;
  read = no_files c.args.pin c.args.first c.args.sizes.now (entries_of (g.T.Steps.mine c.args.steps.now)) c.new-texts.result.items c.new-texts.ensures.items c.requires.so_far;
}

pub loop-i-preserved : goal.loop-i-preserved
loop-i-preserved g c =
    let before = c.loop-i.invariant in
    let first : ℕ = c.args.first in
    let i : ℕ = c.loop-i.i in
    let old = entries_of (g.T.Steps.mine c.loop-i.steps) in
    let new = entries_of (g.T.Steps.mine c.read_next.new.steps) in
    record {
      job = c.read_next.ensures.job ∙ before.job;
      seen = goes_on _ _ _ before.seen c.read_next.ensures.seen;
      later = g.met.T.Steps.later_on _ _ _ before.later c.read_next.ensures.later;
      leaves = leaves_more first i (first + (i + 1)) (entries_of (g.T.Steps.mine c.args.steps.now)) old new (omega arith) before.leaves c.read_next.ensures.leaves;
      read = files_more c.args.pin first i c.args.sizes.now old new c.loop-i.texts.items c.in-Ok.text c.push.new.self.items c.in-Ok-push.ensures.items before.read c.read_next.ensures.leaves c.in-Ok.ensures.read;
    }

pub returns-in-Err-clause-seen : goal.returns-in-Err-clause-seen
returns-in-Err-clause-seen g c = goes_on _ _ _ c.loop-i.invariant.seen c.read_next.ensures.seen

pub returns-in_default-clause-seen : goal.returns-in_default-clause-seen
returns-in_default-clause-seen g c = goes_on _ _ _ c.loop-i.invariant.seen c.read_next.ensures.seen

pub returns-in-Err-clause-leaves : goal.returns-in-Err-clause-leaves
returns-in-Err-clause-leaves g c =
    leaves_more c.args.first c.loop-i.i (c.args.first + c.args.count) _ _ _ (omega (arith, c.loop-i-test.true)) c.loop-i.invariant.leaves c.read_next.ensures.leaves

pub returns-in_default-clause-leaves : goal.returns-in_default-clause-leaves
returns-in_default-clause-leaves g c =
    leaves_more c.args.first c.loop-i.i (c.args.first + c.args.count) _ _ _ (omega (arith, c.loop-i-test.true)) c.loop-i.invariant.leaves c.read_next.ensures.leaves

pub returns-clause-leaves : goal.returns-clause-leaves
returns-clause-leaves g c =
    let all : c.loop-i.i ≡ c.args.count = omega (arith, c.loop-i-test.false, c.loop-i.auto.i-end) in
    let P : ℕ → Type 0 = λ n. LeavesEarlier c.args.first (c.args.first + n) (entries_of (g.T.Steps.mine c.args.steps.now)) (entries_of (g.T.Steps.mine c.loop-i.steps)) in
    subst P all c.loop-i.invariant.leaves
