use Rattle.std.proofs.Common.{◌≡◌, ℕ, ap, ◌∙◌, subst, sym}
use Rattle.table_history.specs.Histories.{History, own}
use Rattle.table_history.specs.JobLaw.{Work, Allows, phase}
use Rattle.table_history.specs.Tables.{Table, fresh}
use Rattle.table_history.specs.declared.entry.Entry.{Entry}
use Rattle.table_history.specs.declared.reply.Reply.TheVariants as reply
use Rattle.table_board.specs.Boards.{Keeps}
use Rattle.table_board.proofs.Counting.{board_more, same_count}
use Rattle.table_board.proofs.Running.{done_fits, left_on, replies_more}
use Rattle.table_board.proofs.Keeping.{kept_more, left_of, left_room, origin_of}
use Rattle.table_board.proofs.board.Board.leave.Goals as goal
use Rattle.table_props.specs.PropsTexts.{told_of}

pub push-requires-clause-room : goal.push-requires-clause-room
push-requires-clause-room g c =
    let work : Work = record { Asks = g.W.Work.asks; Holds = g.W.Work.holds } in
    let i = c.self.inside in
    let P : History → Type 0 = λ H. Allows work c.args.job (phase (own c.args.job H)) c.args.step in
    let law : Allows work c.args.job (phase (own c.args.job i.journal.entries)) c.args.step = subst P (sym (ap (λ v. v.entries) c.self.view_is)) c.requires.allowed in
    left_room work (fresh (told_of i.control.props)) i.control i.journal c.args.job c.args.step c.self.invariant.always.keeps law c.requires.leaving

pub invariant_of-self : goal.invariant_of-self
invariant_of-self g c =
    let work : Work = record { Asks = g.W.Work.asks; Holds = g.W.Work.holds } in
    let i = c.self.inside in
    let A : Table = fresh (told_of i.control.props) in
    let e : Entry = record { job = c.args.job; step = c.args.step; reply = reply.Done } in
    let P : History → Type 0 = λ H. Allows work c.args.job (phase (own c.args.job H)) c.args.step in
    let law : Allows work c.args.job (phase (own c.args.job i.journal.entries)) c.args.step = subst P (sym (ap (λ v. v.entries) c.self.view_is)) c.requires.allowed in
    let m : ℕ = (g.S.Store.state i.store).faults in
    let keeps : Keeps work A c.take_entry.new.control c.push.new.self =
    kept_more work A i.control c.take_entry.new.control i.journal c.push.new.self e c.self.invariant.always.keeps law
    (left_of work A i.control i.journal c.args.job c.args.step c.self.invariant.always.keeps law c.requires.leaving)
    c.take_entry.ensures c.push.ensures.entries c.push.ensures.owed c.push.ensures.room
    (left_room work A i.control i.journal c.args.job c.args.step c.self.invariant.always.keeps law c.requires.leaving) in
    record {
      always = board_more work (told_of i.control.props) c.take_entry.new.control i.journal.entries c.push.new.self i.first_faults m m (g.C.Clock.state i.clock).most e keeps
          c.self.invariant.always.faults c.self.invariant.always.drawn c.push.ensures.entries (same_count m) tt;
      replies = replies_more e i.journal.entries c.push.new.self.entries c.push.ensures.entries (done_fits c.args.step c.requires.leaving) c.self.invariant.replies;
      on_honest =
          left_on work (told_of i.control.props) i.control c.take_entry.new.control i.journal c.push.new.self c.args.job c.args.step i.first_done (g.S.Store.is_honest i.store)
          (g.S.Store.state i.store).told c.self.invariant.always.keeps keeps law c.requires.leaving c.self.invariant.on_honest c.push.ensures.entries;
    }

pub returns-clause-origin : goal.returns-clause-origin
returns-clause-origin g c =
    let work : Work = record { Asks = g.W.Work.asks; Holds = g.W.Work.holds } in
    let i = c.self.inside in
    let A : Table = fresh (told_of i.control.props) in
    let e : Entry = record { job = c.args.job; step = c.args.step; reply = reply.Done } in
    let P : History → Type 0 = λ H. Allows work c.args.job (phase (own c.args.job H)) c.args.step in
    let law : Allows work c.args.job (phase (own c.args.job i.journal.entries)) c.args.step = subst P (sym (ap (λ v. v.entries) c.self.view_is)) c.requires.allowed in
    let keeps : Keeps work A c.take_entry.new.control c.push.new.self =
    kept_more work A i.control c.take_entry.new.control i.journal c.push.new.self e c.self.invariant.always.keeps law
    (left_of work A i.control i.journal c.args.job c.args.step c.self.invariant.always.keeps law c.requires.leaving)
    c.take_entry.ensures c.push.ensures.entries c.push.ensures.owed c.push.ensures.room
    (left_room work A i.control i.journal c.args.job c.args.step c.self.invariant.always.keeps law c.requires.leaving) in
    let same : origin_of (told_of c.take_entry.new.control.props) i.first_faults i.first_done ≡ origin_of (told_of i.control.props) i.first_faults i.first_done =
    λ j. origin_of (keeps.tables.props j) i.first_faults i.first_done in
    same ∙ ap (λ v. v.origin) c.self.view_is
