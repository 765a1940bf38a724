use Rattle.std.proofs.Common.{◌≡◌, ◌∷◌, ℕ, ℤ, ap, ◌∙◌, subst, sym, w64}
use Rattle.std.proofs.lemmas.Int.{to_z-of_z}
use Rattle.table_history.specs.Histories.{History, own}
use Rattle.table_history.specs.JobLaw.{Work, Allows, IsReplyOf, phase}
use Rattle.table_history.specs.Operations.{DrawsAt}
use Rattle.table_history.specs.Tables.{Table, fresh}
use Rattle.table_history.specs.declared.operation.Decision.{Decision}
use Rattle.table_history.specs.declared.reply.Reply.{Reply}
use Rattle.table_board.specs.Boards.{Keeps, Shows}
use Rattle.table_board.specs.KnownEntries.{known_entries}
use Rattle.table_board.proofs.Changing.{counts, draws_after, unchanged}
use Rattle.table_board.proofs.Counting.{board_more}
use Rattle.table_board.proofs.Drawing.{draws_shown, time_drawn_at}
use Rattle.table_board.specs.Outcomes.{reply_after}
use Rattle.hudi_base.specs.Faults.{CountsFault}
use Rattle.table_history.specs.declared.reply.Reply.TheVariants as reply
use Rattle.table_board.proofs.Running.{acted_on, replies_more, still_holds}
use Rattle.table_board.proofs.Keeping.{asked_of, acted, origin_of, reply_of, changes_of}
use Rattle.table_board.proofs.board.Board.act.Goals as goal
use Rattle.table_props.specs.PropsTexts.{told_of}

pub prepare-requires : goal.prepare-requires
prepare-requires g c =
    let work : Work = record { Asks = g.W.Work.asks; Holds = g.W.Work.holds } in
    let i = c.self.inside in
    let P : History → Type 0 = λ H. Allows work c.args.job (phase (own c.args.job H)) c.args.step in
    let law : Allows work c.args.job (phase (own c.args.job i.journal.entries)) c.args.step = subst P (sym (ap (λ v. v.entries) c.self.view_is)) c.requires.allowed in
    asked_of work i.control i.journal c.args.job c.args.step c.self.invariant.always.keeps law

pub invariant_of-self-2 : goal.invariant_of-self-2
invariant_of-self-2 g c =
    let work : Work = record { Asks = g.W.Work.asks; Holds = g.W.Work.holds } in
    let i = c.self.inside in
    let A : Table = fresh (told_of i.control.props) in
    let P : History → Type 0 = λ H. Allows work c.args.job (phase (own c.args.job H)) c.args.step in
    let law : Allows work c.args.job (phase (own c.args.job i.journal.entries)) c.args.step = subst P (sym (ap (λ v. v.entries) c.self.view_is)) c.requires.allowed in
    let d : Decision = record { reply = c.in-Ok.prepared.replies.kept; op = c.in-Ok.prepared.op } in
    let m : ℕ = (g.S.Store.state i.store).faults in
    let n : ℕ = (g.S.Store.state c.perform-outcome.new.store).faults in
    let decides = c.in-Ok.ensures.decided A (known_entries A i.journal.entries) c.self.invariant.always.keeps.tables in
    let Q : Reply → Type 0 = λ r. CountsFault m n (r ≡ reply.Fault) in
    let counted : Q c.in-Ok-settle.replies.kept =
    subst Q (sym c.in-Ok-settle.ensures.kept) (counts m n d.reply d.op c.perform-outcome.result decides.succeeds c.perform-outcome.ensures.done.counts) in
    let keeps : Keeps work A c.take_entry.new.control c.push.new.self =
    acted work A i.control c.prepare.new.control c.take_entry.new.control i.journal c.prepare.new.journal c.push.new.self
    c.args.job c.args.step _ d c.perform-outcome.result c.in-Ok-settle.replies.kept
    c.self.invariant.always.keeps law (c.in-Ok.ensures.decided A (known_entries A i.journal.entries) c.self.invariant.always.keeps.tables)
    c.perform-outcome.ensures.done.ends c.in-Ok-settle.ensures.known c.in-Ok-settle.ensures.kept
    c.prepare.ensures.tables c.prepare.ensures.entries c.prepare.ensures.owed c.prepare.ensures.for_owed c.in-Ok.ensures.for_entry
    c.take_entry.ensures c.push.ensures.entries c.push.ensures.owed c.push.ensures.room in
    let fits : IsReplyOf c.args.step c.in-Ok-settle.replies.kept =
    rw c.in-Ok-settle.ensures.kept (reply_of work A i.control i.journal c.args.job c.args.step _ d c.perform-outcome.result
    c.self.invariant.always.keeps law decides c.perform-outcome.ensures.done.ends c.in-Ok-settle.ensures.known) in
    let T : ℤ → Type 0 = λ z. DrawsAt A (known_entries A i.journal.entries) z d.reply in
    let draws : DrawsAt A i.journal.entries c.args.now c.in-Ok-settle.replies.kept =
    rw c.in-Ok-settle.ensures.kept (draws_after A i.journal.entries c.args.now d.reply d.op c.perform-outcome.result
    (subst T (to_z-of_z w64 c.args.now c.ranges.now) decides.draws)) in
    let shows : Shows c.args.step c.args.now (g.C.Clock.state i.clock) = rw (← c.self.view_is) at c.requires.shown in
    let entries = c.push.ensures.entries ∙ ap (λ (H : History). record { job = c.args.job; step = c.args.step; reply = c.in-Ok-settle.replies.kept } ∷ H) c.prepare.ensures.entries in
    record {
      always =
          board_more work (told_of i.control.props) c.take_entry.new.control i.journal.entries c.push.new.self i.first_faults m n (g.C.Clock.state i.clock).most
          (record { job = c.args.job; step = c.args.step; reply = c.in-Ok-settle.replies.kept })
          keeps c.self.invariant.always.faults c.self.invariant.always.drawn entries counted
          (time_drawn_at (told_of i.control.props) i.journal.entries c.args.step c.in-Ok-settle.replies.kept c.args.now (g.C.Clock.state i.clock) fits shows draws);
      replies = replies_more (record { job = c.args.job; step = c.args.step; reply = c.in-Ok-settle.replies.kept }) i.journal.entries c.push.new.self.entries entries fits c.self.invariant.replies;
      on_honest =
          acted_on work (told_of i.control.props) i.control c.prepare.new.control c.take_entry.new.control i.journal c.push.new.self c.args.job c.args.step _ d c.perform-outcome.result
          c.in-Ok-settle.replies.kept i.first_done (g.S.Store.is_honest i.store) (g.S.Store.is_honest c.perform-outcome.new.store) (g.S.Store.state i.store) (g.S.Store.state c.perform-outcome.new.store)
          c.self.invariant.always.keeps keeps law decides c.perform-outcome.ensures.done c.in-Ok-settle.ensures.known c.in-Ok-settle.ensures.kept c.prepare.ensures.tables c.in-Ok.ensures.room
          c.in-Ok.ensures.time c.perform-outcome.ensures.honest.1 c.self.invariant.on_honest entries;
    }

pub returns-clause-origin : goal.returns-clause-origin
returns-clause-origin g c =
    let work : Work = record { Asks = g.W.Work.asks; Holds = g.W.Work.holds } in
    let i = c.self.inside in
    let A : Table = fresh (told_of i.control.props) in
    let P : History → Type 0 = λ H. Allows work c.args.job (phase (own c.args.job H)) c.args.step in
    let law : Allows work c.args.job (phase (own c.args.job i.journal.entries)) c.args.step = subst P (sym (ap (λ v. v.entries) c.self.view_is)) c.requires.allowed in
    let d : Decision = record { reply = c.in-Ok.prepared.replies.kept; op = c.in-Ok.prepared.op } in
    let keeps : Keeps work A c.take_entry.new.control c.push.new.self =
    acted work A i.control c.prepare.new.control c.take_entry.new.control i.journal c.prepare.new.journal c.push.new.self
    c.args.job c.args.step _ d c.perform-outcome.result c.in-Ok-settle.replies.kept
    c.self.invariant.always.keeps law (c.in-Ok.ensures.decided A (known_entries A i.journal.entries) c.self.invariant.always.keeps.tables)
    c.perform-outcome.ensures.done.ends c.in-Ok-settle.ensures.known c.in-Ok-settle.ensures.kept
    c.prepare.ensures.tables c.prepare.ensures.entries c.prepare.ensures.owed c.prepare.ensures.for_owed c.in-Ok.ensures.for_entry
    c.take_entry.ensures c.push.ensures.entries c.push.ensures.owed c.push.ensures.room in
    let same : origin_of (told_of c.take_entry.new.control.props) i.first_faults i.first_done ≡ origin_of (told_of i.control.props) i.first_faults i.first_done =
    λ j. origin_of (keeps.tables.props j) i.first_faults i.first_done in
    same ∙ ap (λ v. v.origin) c.self.view_is

pub returns-clause-reply : goal.returns-clause-reply
returns-clause-reply g c =
    let work : Work = record { Asks = g.W.Work.asks; Holds = g.W.Work.holds } in
    let i = c.self.inside in
    let A : Table = fresh (told_of i.control.props) in
    let P : History → Type 0 = λ H. Allows work c.args.job (phase (own c.args.job H)) c.args.step in
    let law : Allows work c.args.job (phase (own c.args.job i.journal.entries)) c.args.step = subst P (sym (ap (λ v. v.entries) c.self.view_is)) c.requires.allowed in
    let d : Decision = record { reply = c.in-Ok.prepared.replies.kept; op = c.in-Ok.prepared.op } in
    rw (c.in-Ok-settle.ensures.given, c.in-Ok-settle.ensures.kept)
    (reply_of work A i.control i.journal c.args.job c.args.step _ d c.perform-outcome.result
    c.self.invariant.always.keeps law (c.in-Ok.ensures.decided A (known_entries A i.journal.entries) c.self.invariant.always.keeps.tables)
    c.perform-outcome.ensures.done.ends c.in-Ok-settle.ensures.known)

pub returns-clause-store : goal.returns-clause-store
returns-clause-store g c =
    let i = c.self.inside in
    let A : Table = fresh (told_of i.control.props) in
    let K : History = known_entries A i.journal.entries in
    let d : Decision = record { reply = c.in-Ok.prepared.replies.kept; op = c.in-Ok.prepared.op } in
    rw (c.in-Ok-settle.ensures.given, c.in-Ok-settle.ensures.kept, ← c.self.view_is)
    (changes_of (g.S.Store.is_honest i.store) A K c.args.step _ d c.perform-outcome.result (g.S.Store.state i.store) (g.S.Store.state c.perform-outcome.new.store)
    (c.in-Ok.ensures.decided A K c.self.invariant.always.keeps.tables) c.perform-outcome.ensures.done)

pub returns-clause-draws : goal.returns-clause-draws
returns-clause-draws g c =
    let work : Work = record { Asks = g.W.Work.asks; Holds = g.W.Work.holds } in
    let i = c.self.inside in
    let A : Table = fresh (told_of i.control.props) in
    let K : History = known_entries A i.journal.entries in
    let P : History → Type 0 = λ H. Allows work c.args.job (phase (own c.args.job H)) c.args.step in
    let law : Allows work c.args.job (phase (own c.args.job i.journal.entries)) c.args.step = subst P (sym (ap (λ v. v.entries) c.self.view_is)) c.requires.allowed in
    let d : Decision = record { reply = c.in-Ok.prepared.replies.kept; op = c.in-Ok.prepared.op } in
    let o = c.perform-outcome.result in
    let decides = c.in-Ok.ensures.decided A K c.self.invariant.always.keeps.tables in
    let T : ℤ → Type 0 = λ z. DrawsAt A K z d.reply in
    let fits : IsReplyOf c.args.step (reply_after o d.op d.reply) =
    reply_of work A i.control i.journal c.args.job c.args.step _ d o
    c.self.invariant.always.keeps law decides c.perform-outcome.ensures.done.ends c.in-Ok-settle.ensures.known in
    let shows : Shows c.args.step c.args.now (g.C.Clock.state i.clock) = rw (← c.self.view_is) at c.requires.shown in
    rw (c.in-Ok-settle.ensures.given, c.in-Ok-settle.ensures.kept, ← c.self.view_is)
    (draws_shown A i.journal.entries c.args.step (reply_after o d.op d.reply) c.args.now (g.C.Clock.state i.clock) fits shows
    (draws_after A i.journal.entries c.args.now d.reply d.op o
    (subst T (to_z-of_z w64 c.args.now c.ranges.now) decides.draws)))

pub invariant_of-self-in_default-settle : goal.invariant_of-self-in_default-settle
invariant_of-self-in_default-settle g c =
    let work : Work = record { Asks = g.W.Work.asks; Holds = g.W.Work.holds } in
    let i = c.self.inside in
    let old = g.S.Store.state i.store in
    let new = g.S.Store.state c.perform-outcome.new.store in
    still_holds work i.control c.prepare.new.control i.journal c.prepare.new.journal i.first_faults i.first_done (g.S.Store.is_honest i.store) (g.S.Store.is_honest c.perform-outcome.new.store)
    old new (g.C.Clock.state i.clock).most c.self.invariant c.prepare.ensures.tables c.prepare.ensures.entries c.prepare.ensures.owed c.prepare.ensures.for_owed
    c.perform-outcome.ensures.done.counts.never_falls
    (unchanged (g.S.Store.is_honest i.store) c.in-Ok.prepared.op old.told new.told c.perform-outcome.result c.in_default-settle.ensures.unchanged c.perform-outcome.ensures.done.leaves)
    c.perform-outcome.ensures.honest.1
