use Rattle.std.proofs.Common.{arith, rules, subst}
use Rattle.std.specs.Str.{IsUtf8}
use Rattle.row_records.proofs.HeadLemmas.{IsUtf8-seqno}
use Rattle.row_records.proofs.writing.seqno.Goals as goal

pub returns-clause-known : goal.returns-clause-known
returns-clause-known c =
    let time = subst IsUtf8 c.text.ensures.value c.text.ensures.utf8 in
    record { drawn = search rules; time = time; text = IsUtf8-seqno c.args.commit c.args.seq time (omega arith); fits = omega arith }
