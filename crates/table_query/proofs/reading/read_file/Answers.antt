use Rattle.std.proofs.Common.{◌≡◌, ◌++◌, ◌∙◌, sym, ap, length, arith, append_assoc, length-append, List, ℕ}
use Rattle.table_history.specs.JobLaw.{entries_of, phase}
use Rattle.table_jobs.proofs.Seen.{goes_on}
use Rattle.table_query.specs.ReadBytes.{bytes_read}
use Rattle.table_query.proofs.Pieces as pieces
use Rattle.table_query.proofs.reading.read_file.Goals as goal

pub loop-at-preserved : goal.loop-at-preserved
loop-at-preserved g c =
    let before = c.loop-at.invariant in
    let piece = c.in-Ok.ensures.piece in
    let bytes : List ℕ = c.loop-at.bytes.items in
    let some : List ℕ = c.in-Ok.piece in
    let added : c.add.new.bytes.items ≡ bytes ++ some = c.in-Ok-add.ensures in
    let len = c.min-len.ensures in
    let left = c.loop-at-test.true in
    let so_long = before.long in
    let piece_long = piece.long in
    record {
      job = c.read_piece.ensures.job ∙ before.job;
      seen = goes_on _ _ _ before.seen c.read_piece.ensures.seen;
      later = g.met.T.Steps.later_on _ _ _ before.later c.read_piece.ensures.later;
      leaves = record {
        pins = λ at pinned. c.read_piece.ensures.leaves.pins at (before.leaves.pins at pinned);
        view = c.read_piece.ensures.leaves.view ∙ before.leaves.view;
        others = λ k other. c.read_piece.ensures.leaves.others k other ∙ before.leaves.others k other;
        front = λ n below old. c.read_piece.ensures.leaves.front n below (before.leaves.front n below old);
      };
      phase = piece.phase ∙ pieces.goes_on c.args.pin c.args.file c.args.size c.loop-at.at c.min-len.result some (phase (entries_of (g.T.Steps.mine c.args.steps.now))) (phase (entries_of (g.T.Steps.mine c.loop-at.steps))) c.requires.next before.phase left;
      untold = piece.untold;
      read = piece.read ∙ ap (λ (xs : List ℕ). xs ++ some) before.read ∙ append_assoc (bytes_read (entries_of (g.T.Steps.mine c.args.steps.now)) c.args.file) bytes some
          ∙ ap (λ (xs : List ℕ). bytes_read (entries_of (g.T.Steps.mine c.args.steps.now)) c.args.file ++ xs) (sym added);
      long = ap length added ∙ length-append bytes some ∙ (omega (arith, so_long, piece_long));
      within = omega (arith, len, left);
    }

pub returns-in-Err-clause-leaves : goal.returns-in-Err-clause-leaves
returns-in-Err-clause-leaves g c =
    let before = c.loop-at.invariant.leaves in
    let piece = c.read_piece.ensures.leaves in
    record {
      pins = λ at pinned. piece.pins at (before.pins at pinned);
      view = piece.view ∙ before.view;
      others = λ k other. piece.others k other ∙ before.others k other;
      front = λ n below old. piece.front n below (before.front n below old);
    }

pub returns-in_default-clause-leaves : goal.returns-in_default-clause-leaves
returns-in_default-clause-leaves g c =
    let before = c.loop-at.invariant.leaves in
    let piece = c.read_piece.ensures.leaves in
    record {
      pins = λ at pinned. piece.pins at (before.pins at pinned);
      view = piece.view ∙ before.view;
      others = λ k other. piece.others k other ∙ before.others k other;
      front = λ n below old. piece.front n below (before.front n below old);
    }
