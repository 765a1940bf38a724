use Rattle.instant_line.proofs.first_break.break_number.Goals as goal

pub returns : goal.returns
returns c = record {
  t = c.in-Instant.t;
  action = c.in-Instant.action;
  state = c.in-Instant.state;
  is = c.in-Instant.is;
  time = c.name_number.ensures.time;
  breaks = c.breaks.ensures.0 c.if-not-breaks.false;
  numbered = c.name_number.ensures.value;
}
