use Rattle.std.proofs.Common.{map, refl, sym, ap, subst, ◌∙◌}
use Rattle.script_jobs.specs.Scripts.{SaidScript, said_job, said_phase}
use Rattle.script_texts.specs.Texts.{init_text}
use Rattle.table_board.specs.Boards.{BoardState}
use Rattle.table_open.proofs.Made.{told_buckets}
use Rattle.table_props.specs.PropsTexts.{Told as Properties, told_of}
use Rattle.script_run.specs.Outcome.{IsMadeBy, jobs_of}
use Rattle.script_run.specs.Parts.{CameTo, script_with}
use Rattle.script_run.specs.Runs.{RunTable}
use Rattle.script_run.proofs.Blocks.{holds_blocks}
use Rattle.script_run.proofs.Closing.{JournalOf, RanOn, closed}
use Rattle.script_run.proofs.Endings.{not_made}
use Rattle.script_run.proofs.LaterBoards.{LaterBoard, Seen}
use Rattle.script_run.proofs.Ready.{ran_on_same}
use Rattle.script_run.proofs.WholeRuns.{IsMadeOver}
use Rattle.script_run.proofs.solo.run_fresh.Goals as goal

pub returns-in-Err : goal.returns-in-Err
returns-in-Err g c = λ lane.
    let script : SaidScript = script_with c.args.line lane (told_of c.args.props) (map said_phase c.args.phases) in
    subst (λ k. CameTo c.not_made.result script (g.S.Store.is_honest c.args.store) (g.S.Store.state c.args.store) (g.S.Store.state c.in-Err.store) (g.C.Clock.state c.args.clock) (g.C.Clock.state k))
    (sym c.in-Err.ensures.clock)
    (subst (λ v. CameTo v script (g.S.Store.is_honest c.args.store) (g.S.Store.state c.args.store) (g.S.Store.state c.in-Err.store) (g.C.Clock.state c.args.clock) (g.C.Clock.state c.args.clock))
    (sym c.not_made.ensures)
    (not_made script (told_of c.args.props) c.in-Err.error (g.S.Store.is_honest c.args.store) (g.S.Store.state c.args.store) (g.S.Store.state c.in-Err.store) (g.C.Clock.state c.args.clock) refl
    c.in-Err.ensures.makes c.in-Err.ensures.faults))

pub returns : goal.returns
returns g c = λ lane.
    let props : Properties = told_of c.args.props in
    let script : SaidScript = script_with c.args.line lane props (map said_phase c.args.phases) in
    let ready = c.in-Ok in
    let table : RunTable = record { props = props; layout = ready.ready.codec.records.own } in
    let of_script : IsMadeBy script table = record { props = refl; layout = ready.ensures.layout } in
    let seen : Seen g.row.S.Denot g.row.C.Denot = record { is_honest = g.S.Store.is_honest; state = g.S.Store.state; clock = g.C.Clock.state } in
    let new = c.in-Ok-create_table.board in
    let board = c.into_board-board.result in
    let made : IsMadeOver new.origin table (g.S.Store.is_honest c.args.store) (g.S.Store.is_honest new.store) (g.S.Store.state c.args.store) (g.S.Store.state new.store) = record {
      props = c.in-Ok-create_table.ensures.props;
      buckets = told_buckets props c.requires.told;
      faults = c.in-Ok-create_table.ensures.counted;
      no_fewer = c.in-Ok-create_table.ensures.faults.never_falls;
      done = c.in-Ok-create_table.ensures.done;
      replay = g.met.S.Store.replayed c.args.store;
      first_images = c.in-Ok-create_table.ensures.images;
      stood = c.in-Ok-create_table.ensures.stood;
    } in
    let later : LaterBoard seen new board =
    subst (λ (b : BoardState g.row.S.Denot g.row.C.Denot). LaterBoard seen new b) (sym c.into_board-board.ensures)
    (subst (λ (b : BoardState g.row.S.Denot g.row.C.Denot). LaterBoard seen b c.run_jobs-ran.new.solo.board) c.new-solo.ensures.board c.run_jobs-ran.ensures.later) in
    let journal : JournalOf seen board = record {
      legal = c.journal.ensures.legal;
      faults = c.journal.ensures.faults;
      drawn = c.journal.ensures.drawn;
      undamaged = c.journal.ensures.undamaged holds_blocks;
      legal_as_read = c.journal.ensures.legal_as_read holds_blocks;
      images = c.journal.ensures.images holds_blocks;
    } in
    let of_board : BoardState g.row.S.Denot g.row.C.Denot → RunTable = λ b. record { props = b.origin.props; layout = table.layout } in
    let with_props : Properties → RunTable = λ p. record { props = p; layout = table.layout } in
    let ran : RanOn table (init_text script.init) (jobs_of script) board.entries c.run_jobs-ran.new.text.items c.run_jobs-ran.result =
    ran_on_same (of_board c.new-solo.result.board) table ready.ready.text.items (init_text script.init) (map said_job ready.ready.jobs) (jobs_of script) c.run_jobs-ran.new.solo.board.entries board.entries
    c.run_jobs-ran.new.text.items c.run_jobs-ran.result (ap of_board c.new-solo.ensures.board ∙ ap with_props c.in-Ok-create_table.ensures.props) ready.ensures.text ready.ensures.jobs
    (ap (λ (b : BoardState g.row.S.Denot g.row.C.Denot). b.entries) (sym c.into_board-board.ensures)) c.run_jobs-ran.ensures.ran in
    let came = closed seen script table of_script c.run_jobs-ran.result c.run_jobs-ran.new.text.items c.journal.result.now c.ending-verdict.result new board c.args.store c.args.clock
    made later journal c.journal.ensures.marks ran c.ending-verdict.ensures c.requires.fresh in
    subst (λ s. CameTo c.ending-verdict.result script (g.S.Store.is_honest c.args.store) (g.S.Store.state c.args.store) (g.S.Store.state s) (g.C.Clock.state c.args.clock) (g.C.Clock.state c.close-store.result.1))
    (sym c.close-store.ensures.store)
    (subst (λ t. CameTo c.ending-verdict.result script (g.S.Store.is_honest c.args.store) (g.S.Store.state c.args.store) (g.S.Store.state board.store) (g.C.Clock.state c.args.clock) (g.C.Clock.state t))
    (sym c.close-store.ensures.clock) came)
