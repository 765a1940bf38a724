use Rattle.std.proofs.Common.{◌∙◌, rules}
use Rattle.std.specs.Vec.Iter.{into_iter_items}
use Rattle.payload_merge.specs.Fold.{writes_from}
use Rattle.table_jobs.proofs.Seen.{goes_on}
use Rattle.upsert_writer.proofs.TargetWrites.{may_here, number_within, one_number_more, part_is, parts_next, parts_taken, taken_one}
use Rattle.upsert_writer.proofs.writer.append_all.Goals as goal

pub append-requires-clause-number : goal.append-requires-clause-number
append-requires-clause-number g c =
    let at = c.loop-own in
    let rest = into_iter_items c.next.new.self in
    number_within at.yielded c.in-Some.own rest c.args.parts.items at.number _
    (parts_taken at.yielded c.in-Some.own rest (into_iter_items at.own-iterator) c.args.parts.items at.invariant.all c.in-Some.ensures.steps.0) at.invariant.number c.requires.as_many

pub append-requires-clause-may : goal.append-requires-clause-may
append-requires-clause-may g c =
    let at = c.loop-own in
    let rest = into_iter_items c.next.new.self in
    may_here (g.K.RowCodec.own_row c.args.codec.now) g.T.Work.holds (g.T.Steps.job c.args.steps.now) (g.T.Steps.job at.steps) _ c.args.t c.args.targets.now at.yielded c.in-Some.own rest c.args.parts.items at.number
    at.invariant.job (parts_taken at.yielded c.in-Some.own rest (into_iter_items at.own-iterator) c.args.parts.items at.invariant.all c.in-Some.ensures.steps.0) at.invariant.number c.requires.may

pub returns-in-Err-clause-wrote : goal.returns-in-Err-clause-wrote
returns-in-Err-clause-wrote g c = λ batch is before.
    let at = c.loop-own in
    let rest = into_iter_items c.next.new.self in
    let whole = parts_taken at.yielded c.in-Some.own rest (into_iter_items at.own-iterator) c.args.parts.items at.invariant.all c.in-Some.ensures.steps.0 in
    c.append.ensures.wrote batch (λ s found. part_is c.args.targets.now (writes_from c.args.t 0 batch) at.yielded c.in-Some.own rest c.args.parts.items at.number s whole at.invariant.number is found)
    (at.invariant.wrote batch is before)

pub loop-own-preserved : goal.loop-own-preserved
loop-own-preserved g c =
    let at = c.loop-own in
    let rest = into_iter_items c.next.new.self in
    let whole = parts_taken at.yielded c.in-Some.own rest (into_iter_items at.own-iterator) c.args.parts.items at.invariant.all c.in-Some.ensures.steps.0 in
    record {
      can_next = tt;
      is_finite = tt;
      left = taken_one _ _ c.in-Some.own rest (into_iter_items at.own-iterator) c.in-Some.ensures.steps.0 c.in-Some.ensures.steps.1 at.invariant.left;
      all = parts_next at.yielded c.in-Some.own rest c.args.parts.items whole;
      number = one_number_more at.yielded c.in-Some.own at.number at.invariant.number;
      job = c.append.ensures.job ∙ at.invariant.job;
      seen = goes_on _ _ _ at.invariant.seen c.append.ensures.seen;
      later = g.met.T.Steps.later_on _ _ _ at.invariant.later c.append.ensures.later;
      so_far = search rules;
      wrote = λ batch is before.
          c.append.ensures.wrote batch (λ s found. part_is c.args.targets.now (writes_from c.args.t 0 batch) at.yielded c.in-Some.own rest c.args.parts.items at.number s whole at.invariant.number is found)
          (at.invariant.wrote batch is before);
    }
