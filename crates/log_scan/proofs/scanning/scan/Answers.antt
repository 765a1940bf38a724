use Rattle.std.proofs.Common.{◌≡◌, subst, arith, List, ℕ}
use Rattle.log_block.specs.Answers.{IsWritten}
use Rattle.log_block.specs.Reading.{block_at}
use Rattle.log_block.specs.declared.block.BlockRead.TheVariants.{Whole, Torn, Bad}
use Rattle.log_scan.proofs.Steps.{goes_on, ends_torn, ends_bad, ends, begins, not_empty, rest_is, whole_length}
use Rattle.log_scan.proofs.scanning.scan.Goals as goal

pub loop-offset-init : goal.loop-offset-init
loop-offset-init c = rw c.new-blocks.ensures (begins c.args.bytes.now)

pub loop-offset-smaller : goal.loop-offset-smaller
loop-offset-smaller c =
    let some = not_empty c.in-Whole.block in
    let long = whole_length _ _ _ c.in-Whole.ensures.whole in
    omega (arith, some, long)

pub loop-offset-preserved : goal.loop-offset-preserved
loop-offset-preserved c =
    let e = rest_is c.args.bytes.now c.loop-offset.offset in
    let P : List ℕ → Type 0 = λ rest. block_at rest ≡ Whole c.in-Whole.block c.in-Whole.len in
    let Q : List ℕ → Type 0 = λ rest. IsWritten rest c.in-Whole.block c.in-Whole.len in
    rw c.in_ok-push-in-Whole.ensures.ok (goes_on c.args.bytes.now c.loop-offset.blocks c.loop-offset.offset c.loop-offset.invariant c.loop-offset-test.true c.in-Whole.block c.in-Whole.len
    (subst P e c.in-Whole.ensures.there) (subst Q e c.in-Whole.ensures.whole))

pub returns-in-Torn : goal.returns-in-Torn
returns-in-Torn c =
    let P : List ℕ → Type 0 = λ rest. block_at rest ≡ Torn in
    ends_torn c.args.bytes.now c.loop-offset.blocks c.loop-offset.offset c.loop-offset.invariant c.loop-offset-test.true (subst P (rest_is c.args.bytes.now c.loop-offset.offset) c.in-Torn.ensures.there)

pub returns-in-Bad : goal.returns-in-Bad
returns-in-Bad c =
    let P : List ℕ → Type 0 = λ rest. block_at rest ≡ Bad c.in-Bad.at in
    ends_bad c.args.bytes.now c.loop-offset.blocks c.loop-offset.offset c.loop-offset.invariant c.loop-offset-test.true c.in-Bad.at (subst P (rest_is c.args.bytes.now c.loop-offset.offset) c.in-Bad.ensures.there)

pub returns : goal.returns
returns c = ends c.args.bytes.now c.loop-offset.blocks c.loop-offset.offset c.loop-offset.invariant c.loop-offset-test.false
