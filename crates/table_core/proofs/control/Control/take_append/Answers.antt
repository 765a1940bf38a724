use Rattle.std.proofs.Common.{◌≡◌, ◌+◌, ℕ, cond, sym, subst}
use Rattle.table_core.specs.ControlTables.{slice_at, slice_in, writes_at}
use Rattle.table_core.specs.Keys.{is_number}
use Rattle.table_core.specs.declared.written.TargetNumber.{TargetNumber}
use Rattle.table_core.specs.SliceStates.{TakesBlock}
use Rattle.table_core.proofs.AppendLemmas.{placed_taken, failed_taken, no_target}
use Rattle.table_core.proofs.control.Control.take_append.Goals as goal

pub returns-in-Placed : goal.returns-in-Placed
returns-in-Placed c = rw c.in-Placed.is (λ A H job bytes long is may answers.
    let control = c.args.self.now in
    let s = c.in-Some.slice.now in
    let slices = c.place-tried.new.slices in
    let P : ℕ → Type 0 = λ block. TakesBlock (slice_in control s) (slice_at slices s) control.session control.attempts block in
    let counts = c.add_writes.new.writes in
    let Adds : TargetNumber → Type 0 = λ at. (q : TargetNumber) → writes_at counts q ≡ cond (is_number at q) (writes_at control.writes at + c.args.writes) (writes_at control.writes q) in
    placed_taken A H control job c.args.t c.args.target c.args.writes bytes c.in-Placed.field-0 c.in-Placed.field-1 c.place-tried.result s slices counts
    is c.in-Some.ensures answers (subst P (sym long) c.place-tried.ensures.placed) c.place-tried.ensures.others c.place-tried.ensures.tried (subst Adds c.new.ensures c.add_writes.ensures))

pub returns-in-Fault : goal.returns-in-Fault
returns-in-Fault c = rw c.in-Fault.is (λ A H job bytes long is may answers.
    failed_taken A H c.args.self.now job c.args.t c.args.target c.args.writes bytes c.give_up-tried.result c.in-Some.slice.now c.give_up-tried.new.slices
    is c.in-Some.ensures c.give_up-tried.ensures.given_up c.give_up-tried.ensures.others c.give_up-tried.ensures.tried)
