use Rattle.std.proofs.Common.{List, [], ◌∷◌, ◌++◌, ◌||◌, Bool, Ok, Err, map, sym, subst}
use Rattle.std.specs.Vec.Iter.{into_iter_items}
use Rattle.std.specs.declared.alloc.AllocError.{AllocError}
use Rattle.row_codec.specs.Codec.{IsOfTable}
use Rattle.script_jobs.specs.Scripts.{SaidJob, said_job}
use Rattle.table_board.specs.Boards.{Origin}
use Rattle.script_run.specs.Parts.{AreNext, RanNext, RanSoFar, StoppedAt}
use Rattle.script_run.specs.Runs.{RunTable}
use Rattle.script_run.proofs.LaterBoards.{Seen, later_board}
use Rattle.script_run.proofs.Runs.{next_below, next_more, on_err, or_other, or_true, ran_next, said_more, stopped, taken, taken_jobs}
use Rattle.script_run.proofs.jobs.run_jobs.Goals as goal

pub run_line-requires-clause-below : goal.run_line-requires-clause-below
run_line-requires-clause-below g c =
    let next : AreNext (said_job c.in-Some.job ∷ map said_job (into_iter_items c.next.new.self)) c.loop-job.solo.board.entries =
    subst (λ jobs. AreNext (map said_job jobs) c.loop-job.solo.board.entries) c.in-Some.ensures.steps.0 c.loop-job.invariant.next in
    next_below (said_job c.in-Some.job) (map said_job (into_iter_items c.next.new.self)) c.loop-job.solo.board.entries next

pub run_line-requires-clause-within : goal.run_line-requires-clause-within
run_line-requires-clause-within g c =
    let next : AreNext (said_job c.in-Some.job ∷ map said_job (into_iter_items c.next.new.self)) c.loop-job.solo.board.entries =
    subst (λ jobs. AreNext (map said_job jobs) c.loop-job.solo.board.entries) c.in-Some.ensures.steps.0 c.loop-job.invariant.next in
    next.from.1

pub run_line-requires-clause-of_the_table : goal.run_line-requires-clause-of_the_table
run_line-requires-clause-of_the_table g c =
    subst (λ (origin : Origin). IsOfTable c.args.codec.now.records.own origin.props) (sym c.loop-job.invariant.later.origin) c.requires.of_the_table

pub returns-in_err-fails-clause-ran : goal.returns-in_err-fails-clause-ran
returns-in_err-fails-clause-ran g c =
    let layout = c.args.codec.now.records.own in
    let table : Origin → RunTable = λ origin. record { props = origin.props; layout = layout } in
    let first : RunTable = table c.args.solo.now.board.origin in
    let so_far = c.loop-job.invariant in
    let rest = into_iter_items c.next.new.self in
    let H = c.loop-job.solo.board.entries in
    let K = c.run_line.new.solo.board.entries in
    let made = c.args.text.now.items in
    let text = c.run_line.new.text.items in
    let jobs = map said_job c.args.jobs in
    let ran : RanNext first (said_job c.in-Some.job) H K (Err c.in_err-fails.field-0.0) c.loop-job.text.items text =
    subst (λ (origin : Origin). RanNext (table origin) (said_job c.in-Some.job) H K (Err c.in_err-fails.field-0.0) c.loop-job.text.items text) so_far.later.origin c.in_err-fails.ensures.ran in
    let whole = taken_jobs c.loop-job.yielded c.in-Some.job rest (into_iter_items c.loop-job.job-iterator) c.args.jobs so_far.all c.in-Some.ensures.steps.0 in
    on_err (λ (failed : Bool). RanSoFar first made jobs K text failed) (λ (error : AllocError). StoppedAt first made jobs K text) c.from_residual.result c.from_residual.ensures.0
    (λ error.
    stopped first made (map said_job c.loop-job.yielded) (said_job c.in-Some.job) (map said_job rest) jobs H K c.loop-job.text.items text c.loop-job.failed c.in_err-fails.field-0.0
    so_far.ran ran whole)

pub returns-in_err-fails-clause-later : goal.returns-in_err-fails-clause-later
returns-in_err-fails-clause-later g c =
    let seen : Seen g.row.S.Denot g.row.C.Denot = record { is_honest = g.S.Store.is_honest; state = g.S.Store.state; clock = g.C.Clock.state } in
    later_board seen c.args.solo.now.board c.loop-job.solo.board c.run_line.new.solo.board c.loop-job.invariant.later c.in_err-fails.ensures.later

pub loop-job-preserved-then-failed : goal.loop-job-preserved-then-failed
loop-job-preserved-then-failed g c =
    let layout = c.args.codec.now.records.own in
    let table : Origin → RunTable = λ origin. record { props = origin.props; layout = layout } in
    let first : RunTable = table c.args.solo.now.board.origin in
    let seen : Seen g.row.S.Denot g.row.C.Denot = record { is_honest = g.S.Store.is_honest; state = g.S.Store.state; clock = g.C.Clock.state } in
    let so_far = c.loop-job.invariant in
    let rest = into_iter_items c.next.new.self in
    let H = c.loop-job.solo.board.entries in
    let K = c.run_line.new.solo.board.entries in
    let made = c.args.text.now.items in
    let text = c.run_line.new.text.items in
    let job = said_job c.in-Some.job in
    let fails = c.in_ok-fails.fails in
    let jobs = c.loop-job.yielded ++ c.in-Some.job ∷ [] in
    let next : AreNext (job ∷ map said_job rest) H = subst (λ jobs. AreNext (map said_job jobs) H) c.in-Some.ensures.steps.0 so_far.next in
    let more : RanNext first job H K (Ok fails) c.loop-job.text.items text =
    subst (λ (origin : Origin). RanNext (table origin) job H K (Ok fails) c.loop-job.text.items text) so_far.later.origin c.in_ok-fails.ensures.ran in
    let ran : RanSoFar first made (map said_job jobs) K text (c.loop-job.failed || fails) =
    subst (λ (said : List SaidJob). RanSoFar first made said K text (c.loop-job.failed || fails)) (said_more c.loop-job.yielded c.in-Some.job)
    (ran_next first made (map said_job c.loop-job.yielded) job H K c.loop-job.text.items text c.loop-job.failed fails so_far.ran more) in
    record {
      can_next = tt;
      is_finite = tt;
      all = taken c.loop-job.yielded c.in-Some.job rest (into_iter_items c.loop-job.job-iterator) c.args.jobs so_far.all c.in-Some.ensures.steps.0;
      ran = subst (λ (failed : Bool). RanSoFar first made (map said_job jobs) K text failed) (or_true c.loop-job.failed fails c.if-failed.true) ran;
      next = next_more first job (map said_job rest) H K (Ok fails) c.loop-job.text.items text next more;
      later = later_board seen c.args.solo.now.board c.loop-job.solo.board c.run_line.new.solo.board so_far.later c.in_ok-fails.ensures.later;
    }

pub loop-job-preserved : goal.loop-job-preserved
loop-job-preserved g c =
    let layout = c.args.codec.now.records.own in
    let table : Origin → RunTable = λ origin. record { props = origin.props; layout = layout } in
    let first : RunTable = table c.args.solo.now.board.origin in
    let seen : Seen g.row.S.Denot g.row.C.Denot = record { is_honest = g.S.Store.is_honest; state = g.S.Store.state; clock = g.C.Clock.state } in
    let so_far = c.loop-job.invariant in
    let rest = into_iter_items c.next.new.self in
    let H = c.loop-job.solo.board.entries in
    let K = c.run_line.new.solo.board.entries in
    let made = c.args.text.now.items in
    let text = c.run_line.new.text.items in
    let job = said_job c.in-Some.job in
    let fails = c.in_ok-fails.fails in
    let jobs = c.loop-job.yielded ++ c.in-Some.job ∷ [] in
    let next : AreNext (job ∷ map said_job rest) H = subst (λ jobs. AreNext (map said_job jobs) H) c.in-Some.ensures.steps.0 so_far.next in
    let more : RanNext first job H K (Ok fails) c.loop-job.text.items text =
    subst (λ (origin : Origin). RanNext (table origin) job H K (Ok fails) c.loop-job.text.items text) so_far.later.origin c.in_ok-fails.ensures.ran in
    let ran : RanSoFar first made (map said_job jobs) K text (c.loop-job.failed || fails) =
    subst (λ (said : List SaidJob). RanSoFar first made said K text (c.loop-job.failed || fails)) (said_more c.loop-job.yielded c.in-Some.job)
    (ran_next first made (map said_job c.loop-job.yielded) job H K c.loop-job.text.items text c.loop-job.failed fails so_far.ran more) in
    record {
      can_next = tt;
      is_finite = tt;
      all = taken c.loop-job.yielded c.in-Some.job rest (into_iter_items c.loop-job.job-iterator) c.args.jobs so_far.all c.in-Some.ensures.steps.0;
      ran = subst (λ (failed : Bool). RanSoFar first made (map said_job jobs) K text failed) (or_other c.loop-job.failed fails c.if-failed.false) ran;
      next = next_more first job (map said_job rest) H K (Ok fails) c.loop-job.text.items text next more;
      later = later_board seen c.args.solo.now.board c.loop-job.solo.board c.run_line.new.solo.board so_far.later c.in_ok-fails.ensures.later;
    }
