use Rattle.std.proofs.Common.{◌≡◌, ◌<◌, ◌+◌, ◌∙◌, sym, ap, subst, take, length, get_or, refl, List, ℕ, arith}
use Rattle.std.proofs.lemmas.List.{take_all}
use Rattle.std.specs.FinMap.{empty}
use Rattle.table_history.specs.JobLaw.{entries_of}
use Rattle.table_history.specs.declared.view.GroupParts.{GroupParts}
use Rattle.table_jobs.proofs.Seen.{goes_on, stays}
use Rattle.table_query.specs.GroupReading.{TableReading, all_from, files_in, group_writes}
use Rattle.table_query.specs.Parts.{Folds}
use Rattle.table_query.specs.ReadBytes.{bytes_read}
use Rattle.table_query.specs.Reading.{HasReadUpTo}
use Rattle.table_query.proofs.Ends.{all_files, all_folded, begins_reading, folds_ok, stopped_at}
use Rattle.table_query.proofs.Following.{folded_as, folds_more, sizes, sizes_front, sizes_more}
use Rattle.table_query.proofs.InTurn.{groups_alike}
use Rattle.table_query.proofs.NextFiles.{reads_more}
use Rattle.table_query.proofs.groups.fold_groups.Goals as goal

pub loop-group-init : goal.loop-group-init
loop-group-init g c = record {
  job = refl;
  seen = stays _;
  later = g.met.T.Steps.later_itself _;
  pins = λ at pins. pins;
  view_is = c.requires.pinned.view_is;
  first = refl;
  so_far = begins_reading c.args.view.now c.args.sizes.now (entries_of (g.T.Steps.mine c.args.steps.now)) c.requires.sized c.requires.pinned;
  rows = c.new-rows.ensures;
}

pub fold_next-requires : goal.fold_next-requires
fold_next-requires g c =
    let items = c.as_slice-group-items.ensures in
    let within : c.loop-group.group-index < length c.args.view.now.groups = omega (arith, ap length items, c.loop-group-test.true) in
    let P : List GroupParts → Type 0 = λ gs. c.group-item.result ≡ get_or gs c.loop-group.group-index c.group-item.result in
    let here = subst P items c.group-item.is in
    let front = sizes_front files_in c.loop-group.group-index c.args.view.now.groups c.group-item.result within here in
    let first = c.loop-group.invariant.first in
    let every = all_files c.args.view.now c.args.sizes.now c.requires.sized in
    record { within = omega (arith, front, first, every); so_far = c.loop-group.invariant.so_far }

pub overflow_add-first : goal.overflow_add-first
overflow_add-first g c =
    let items = c.as_slice-group-items.ensures in
    let within : c.loop-group.group-index < length c.args.view.now.groups = omega (arith, ap length items, c.loop-group-test.true) in
    let P : List GroupParts → Type 0 = λ gs. c.group-item.result ≡ get_or gs c.loop-group.group-index c.group-item.result in
    let here = subst P items c.group-item.is in
    let front = sizes_front files_in c.loop-group.group-index c.args.view.now.groups c.group-item.result within here in
    let first = c.loop-group.invariant.first in
    let every = all_files c.args.view.now c.args.sizes.now c.requires.sized in
    omega (arith, front, first, every, c.len-first.ensures)

pub loop-group-preserved : goal.loop-group-preserved
loop-group-preserved g c =
    let reading : TableReading = record { rows = g.K.RowCodec.block_rows c.args.codec.now; table = g.K.TableCodec.table_name c.args.codec.now } in
    let keys : List ℕ = c.args.completed.now.keys in
    let before = c.loop-group.invariant in
    let groups : List GroupParts = c.args.view.now.groups in
    let i : ℕ = c.loop-group.group-index in
    let old : ℕ → List ℕ = bytes_read (entries_of (g.T.Steps.mine c.loop-group.steps)) in
    let new : ℕ → List ℕ = bytes_read (entries_of (g.T.Steps.mine c.fold_next.new.steps)) in
    let items = c.as_slice-group-items.ensures in
    let within : i < length groups = omega (arith, ap length items, c.loop-group-test.true) in
    let P : List GroupParts → Type 0 = λ gs. c.group-item.result ≡ get_or gs i c.group-item.result in
    let here = subst P items c.group-item.is in
    let leaves = c.fold_next.ensures.leaves in
    let next = c.in-Ok.ensures.read in
    let gives = group_writes reading keys new in
    let first = before.first in
    let kept : all_from files_in gives 0 (take i groups) ≡ all_from files_in (group_writes reading keys old) 0 (take i groups) =
    groups_alike reading keys new old 0 (take i groups) (λ k below. leaves.earlier k (omega (arith, below, first))) in
    let more = sizes_more files_in gives i groups c.group-item.result within here in
    let len : length c.group-item.result.parts ≡ c.len-first.result = sym c.len-first.ensures in
    let Q : ℕ → Type 0 = λ n. HasReadUpTo c.args.view.now.pin (c.loop-group.first + n) c.args.sizes.now (entries_of (g.T.Steps.mine c.fold_next.new.steps)) in
    record {
      job = c.fold_next.ensures.job ∙ before.job;
      seen = goes_on _ _ _ before.seen c.fold_next.ensures.seen;
      later = g.met.T.Steps.later_on _ _ _ before.later c.fold_next.ensures.later;
      pins = λ at pins. leaves.pins at (before.pins at pins);
      view_is = leaves.view ∙ before.view_is;
      first = omega (arith, first, more, c.len-first.ensures);
      so_far = subst Q len next.0;
      rows = folds_more files_in gives i c.loop-group.first groups c.group-item.result empty c.loop-group.rows c.fold_next.new.rows within here first (folded_as _ _ empty c.loop-group.rows kept before.rows) next.1;
    }

pub returns-in-Err-clause-seen : goal.returns-in-Err-clause-seen
returns-in-Err-clause-seen g c = goes_on _ _ _ c.loop-group.invariant.seen c.fold_next.ensures.seen

pub returns-in-Err-clause-pins : goal.returns-in-Err-clause-pins
returns-in-Err-clause-pins g c = λ at pins. c.fold_next.ensures.leaves.pins at (c.loop-group.invariant.pins at pins)

pub returns-in-Err-clause-read : goal.returns-in-Err-clause-read
returns-in-Err-clause-read g c =
    let reading : TableReading = record { rows = g.K.RowCodec.block_rows c.args.codec.now; table = g.K.TableCodec.table_name c.args.codec.now } in
    let keys : List ℕ = c.args.completed.now.keys in
    let before = c.loop-group.invariant in
    let groups : List GroupParts = c.args.view.now.groups in
    let i : ℕ = c.loop-group.group-index in
    let mine = entries_of (g.T.Steps.mine c.fold_next.new.steps) in
    let old : ℕ → List ℕ = bytes_read (entries_of (g.T.Steps.mine c.loop-group.steps)) in
    let items = c.as_slice-group-items.ensures in
    let within : i < length groups = omega (arith, ap length items, c.loop-group-test.true) in
    let P : List GroupParts → Type 0 = λ gs. c.group-item.result ≡ get_or gs i c.group-item.result in
    let here = subst P items c.group-item.is in
    let leaves = c.fold_next.ensures.leaves in
    let gives = group_writes reading keys (bytes_read mine) in
    let first = before.first in
    let kept : all_from files_in gives 0 (take i groups) ≡ all_from files_in (group_writes reading keys old) 0 (take i groups) =
    groups_alike reading keys (bytes_read mine) old 0 (take i groups) (λ k below. leaves.earlier k (omega (arith, below, first))) in
    let writes = folds_ok (all_from files_in gives 0 (take i groups)) empty c.loop-group.rows (folded_as _ _ empty c.loop-group.rows kept before.rows) in
    let last : ℕ = c.loop-group.first + files_in c.group-item.result in
    stopped_at reading c.args.view.now mine keys c.requires.completed c.args.sizes.now c.requires.sized (leaves.view ∙ before.view_is) i c.loop-group.first c.group-item.result within here first writes.0 writes.1
    c.in-Err.reply (leaves.front last (omega arith) (reads_more c.loop-group.first last (entries_of (g.T.Steps.mine c.loop-group.steps)) (omega arith) before.so_far.front)) c.in-Err.ensures.read

pub returns-clause-read : goal.returns-clause-read
returns-clause-read g c =
    let reading : TableReading = record { rows = g.K.RowCodec.block_rows c.args.codec.now; table = g.K.TableCodec.table_name c.args.codec.now } in
    let before = c.loop-group.invariant in
    let groups : List GroupParts = c.args.view.now.groups in
    let mine = entries_of (g.T.Steps.mine c.loop-group.steps) in
    let all : take c.loop-group.group-index groups ≡ groups = take_all c.loop-group.group-index groups (omega (arith, ap length c.as_slice-group-items.ensures, c.loop-group-test.false)) in
    let P : List GroupParts → Type 0 = λ gs. Folds (all_from files_in (group_writes reading c.args.completed.now.keys (bytes_read mine)) 0 gs) empty c.loop-group.rows in
    all_folded reading c.args.view.now mine c.args.completed.now.keys c.requires.completed c.args.sizes.now c.requires.sized before.view_is c.loop-group.first c.loop-group.rows (before.first ∙ ap (sizes files_in) all) before.so_far
    (subst P all before.rows)
