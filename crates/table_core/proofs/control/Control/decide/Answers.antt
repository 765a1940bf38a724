use Rattle.std.proofs.Common.{Result, Ok, Err}
use Rattle.std.specs.Prelude.{IfOk}
use Rattle.table_core.proofs.control.Control.decide.Goals as goal

ok_then : {T E : Type 0} (P Q : T → Type 0) → ((x : T) → P x → Q x) → (r : Result T E) → IfOk r P → IfOk r Q
ok_then P Q leads (Ok x) holds = leads x holds
ok_then P Q leads (Err e) holds = tt

pub returns-in-Enter-clause-decision : goal.returns-in-Enter-clause-decision
returns-in-Enter-clause-decision c = rw (c.in-Enter.is, ← c.as_slice.ensures) (ok_then _ _ (λ d decided A H is. decided A H _ is) c.decide_enter.result c.decide_enter.ensures)

pub returns-in-Append-clause-decision : goal.returns-in-Append-clause-decision
returns-in-Append-clause-decision c = rw c.in-Append.is (ok_then _ _ (λ d decided A H is. decided A H _ is) c.decide_append.result c.decide_append.ensures)

pub returns-in-Finish-clause-decision : goal.returns-in-Finish-clause-decision
returns-in-Finish-clause-decision c = rw c.in-Finish.is (ok_then _ _ (λ d decided A H is. decided A H _ is) c.decide_finish.result c.decide_finish.ensures)

pub returns-in-Pin-clause-decision : goal.returns-in-Pin-clause-decision
returns-in-Pin-clause-decision c = rw c.in-Pin.is (ok_then _ _ (λ d decided A H is. decided A H _ is) c.decide_pin.result c.decide_pin.ensures)

pub returns-in-Read-clause-decision : goal.returns-in-Read-clause-decision
returns-in-Read-clause-decision c = rw c.in-Read.is (ok_then _ _ (λ d decided A H is. decided A H _ is) c.decide_read.result c.decide_read.ensures)
