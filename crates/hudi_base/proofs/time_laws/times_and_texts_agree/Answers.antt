use Rattle.hudi_base.proofs.TimeOrder as order
use Rattle.hudi_base.proofs.Times as times
use Rattle.hudi_base.proofs.time_laws.times_and_texts_agree.Goals as goal

pub returns : goal.returns
returns c = record {
  long = times.length-time_text;
  digits = times.All-time_text;
  utf8 = times.IsUtf8-time_text;
  injective = times.time_text_injective;
  ordered = order.time_text_ordered;
  right = times.goes_wrong-time_text;
  times_alone = times.IsTime-goes_wrong;
  texts_alone = times.time_text-civil_at;
  shown_time = λ civil h. (times.IsTime-civil_ms civil h, times.civil_of-civil_ms civil h);
  time_shown = λ t h. (times.IsCivil-civil_of t h, times.civil_ms-civil_of t h);
}
