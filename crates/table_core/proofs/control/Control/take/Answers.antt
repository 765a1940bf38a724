use Rattle.std.proofs.Common.{◌≡◌, ◌∷◌, length, refl, sym, ap, subst}
use Rattle.table_core.specs.ControlTables.{IsControl}
use Rattle.table_history.specs.Answers.{Answers, May, DoneAnswers}
use Rattle.table_history.specs.declared.reply.Reply.{Reply}
use Rattle.table_history.specs.declared.reply.Reply.TheVariants.{Done}
use Rattle.table_history.specs.declared.step.Step.{Step}
use Rattle.table_history.specs.declared.step.Step.TheVariants.{Unpin}
use Rattle.table_core.proofs.control.Control.take.Goals as goal

done_is : (r : Reply) → DoneAnswers r → r ≡ Done
done_is Done answers = refl
done_is _ answers = absurd answers

pub returns-in-Begin : goal.returns-in-Begin
returns-in-Begin c = λ A H is next.
    let e = c.args.entry.now in
    let P : Step → Type 0 = λ s. Answers A H s e.reply → IsControl A (record { job = e.job; step = s; reply = e.reply } ∷ H) c.take_begin.new.self in
    subst P (sym c.in-Begin.is) (c.take_begin.ensures A H e.job is) next.answers

pub returns-in-Enter : goal.returns-in-Enter
returns-in-Enter c = λ A H is next.
    let e = c.args.entry.now in
    let P : Step → Type 0 = λ s. May A H e.job s → Answers A H s e.reply → IsControl A (record { job = e.job; step = s; reply = e.reply } ∷ H) c.take_enter.new.self in
    subst P (sym c.in-Enter.is) (c.take_enter.ensures A H e.job c.in-Enter.slots is) next.may next.answers

pub returns-in-Append : goal.returns-in-Append
returns-in-Append c = λ A H is next.
    let e = c.args.entry.now in
    let P : Step → Type 0 = λ s. May A H e.job s → Answers A H s e.reply → IsControl A (record { job = e.job; step = s; reply = e.reply } ∷ H) c.take_append.new.self in
    subst P (sym c.in-Append.is) (c.take_append.ensures A H e.job c.in-Append.bytes (ap length (sym c.as_slice.ensures)) is) next.may next.answers

pub returns-in-Finish : goal.returns-in-Finish
returns-in-Finish c = λ A H is next.
    let e = c.args.entry.now in
    let P : Step → Type 0 = λ s. Answers A H s e.reply → IsControl A (record { job = e.job; step = s; reply = e.reply } ∷ H) c.take_finish.new.self in
    subst P (sym c.in-Finish.is) (c.take_finish.ensures A H e.job c.in-Finish.t c.in-Finish.checkpoint is) next.answers

pub returns-in-Pin : goal.returns-in-Pin
returns-in-Pin c = λ A H is next.
    let e = c.args.entry.now in
    let P : Step → Type 0 = λ s. Answers A H s e.reply → IsControl A (record { job = e.job; step = s; reply = e.reply } ∷ H) c.take_pin.new.self in
    subst P (sym c.in-Pin.is) (c.take_pin.ensures A H e.job c.in-Pin.at c.in-Pin.bases_only is) next.answers

pub returns-in-Unpin : goal.returns-in-Unpin
returns-in-Unpin c = λ A H is next.
    let e = c.args.entry.now in
    let P : Step → Type 0 = λ s. Answers A H s e.reply → IsControl A (record { job = e.job; step = s; reply = e.reply } ∷ H) c.take_unpin.new.self in
    let Q : Reply → Type 0 = λ r. IsControl A (record { job = e.job; step = Unpin c.in-Unpin.pin; reply = r } ∷ H) c.take_unpin.new.self in
    subst P (sym c.in-Unpin.is) (λ answers. subst Q (sym (done_is e.reply answers)) (c.take_unpin.ensures A H e.job is)) next.answers
