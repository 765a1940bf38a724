use Rattle.table_core.proofs.control.Control.decide_pin.Goals as goal

pub returns-in-Some : goal.returns-in-Some
returns-in-Some c = rw c.in-Some.is c.decide_pin_at.ensures

pub returns-in-None : goal.returns-in-None
returns-in-None c = rw c.in-None.is c.decide_pin_of_latest.ensures
