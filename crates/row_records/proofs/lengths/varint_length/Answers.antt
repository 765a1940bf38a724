use Rattle.std.proofs.Common.{length, ap, arith}
use Rattle.byte_fields.proofs.VarintLemmas.{length-varint, varint-more, varint-one}
use Rattle.row_records.proofs.lengths.varint_length.Goals as goal

pub loop-left-init : goal.loop-left-init
loop-left-init c = (omega arith, omega (arith, c.ranges.number.fits))

pub overflow_add-count : goal.overflow_add-count
overflow_add-count c = omega (arith, c.loop-left.invariant.0, length-varint c.args.number)

pub loop-left-preserved : goal.loop-left-preserved
loop-left-preserved c =
    let left = c.loop-left.left in
    (omega (arith, c.loop-left.invariant.0, ap length (varint-more left c.loop-left-test.true c.loop-left.invariant.1)), omega (arith, c.loop-left.invariant.1))

pub returns-clause-exact : goal.returns-clause-exact
returns-clause-exact c = omega (arith, c.loop-left.invariant.0, ap length (varint-one c.loop-left.left c.loop-left-test.false))

pub returns-clause-few : goal.returns-clause-few
returns-clause-few c = omega (arith, c.loop-left.invariant.0, length-varint c.args.number, ap length (varint-one c.loop-left.left c.loop-left-test.false))
