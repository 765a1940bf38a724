-- A list that goes on from a list goes on from what that one goes on from.
use Rattle.std.proofs.Common.{List, [], ◌++◌, ◌∙◌, sym, ap, append_assoc, refl}
use Rattle.table_history.specs.declared.entry.Entry.{Entry}
use Rattle.table_history.specs.JobLaw.{GoesOn}

pub goes_on : (a b c : List Entry) → GoesOn a b → GoesOn b c → GoesOn a c
goes_on a b c p q = record { more = q.more ++ p.more; is = q.is ∙ ap (λ xs. q.more ++ xs) p.is ∙ sym (append_assoc q.more p.more a) }

pub stays : (a : List Entry) → GoesOn a a
stays a = record { more = []; is = refl }
