use Rattle.std.proofs.Common.{◌+◌, inl, ap, subst, length, arith, List, ℕ}
use Rattle.table_history.specs.JobLaw.{entries_of}
use Rattle.table_query.specs.GroupReading.{TableReading, group_writes}
use Rattle.table_query.specs.Parts.{GivesFold, text_at}
use Rattle.table_query.specs.Reading.{LeavesEarlier}
use Rattle.table_query.proofs.Ends.{folded_next}
use Rattle.table_query.proofs.groups.fold_next.Goals as goal

pub read_files-requires : goal.read_files-requires
read_files-requires g c = record { within = omega (arith, c.len.ensures, c.requires.within); so_far = c.requires.so_far }

pub fold_texts-requires : goal.fold_texts-requires
fold_texts-requires g c = omega (arith, ap length c.deref.ensures.value, c.in-Ok.ensures.read.many, c.len.ensures)

pub returns-in-Err-clause-leaves : goal.returns-in-Err-clause-leaves
returns-in-Err-clause-leaves g c =
    let P : ℕ → Type 0 = λ n. LeavesEarlier c.args.first (c.args.first + n) (entries_of (g.T.Steps.mine c.args.steps.now)) (entries_of (g.T.Steps.mine c.read_files.new.steps)) in
    subst P c.len.ensures c.read_files.ensures.leaves

pub returns-in-Err-clause-read : goal.returns-in-Err-clause-read
returns-in-Err-clause-read g c = inl c.in-Err.ensures.read

pub returns-clause-leaves : goal.returns-clause-leaves
returns-clause-leaves g c =
    let P : ℕ → Type 0 = λ n. LeavesEarlier c.args.first (c.args.first + n) (entries_of (g.T.Steps.mine c.args.steps.now)) (entries_of (g.T.Steps.mine c.read_files.new.steps)) in
    subst P c.len.ensures c.read_files.ensures.leaves

pub returns-clause-read : goal.returns-clause-read
returns-clause-read g c =
    let reading : TableReading = record { rows = g.K.RowCodec.block_rows c.args.codec.now; table = g.K.TableCodec.table_name c.args.codec.now } in
    let keys : List ℕ = c.args.completed.now.keys in
    let texts : List (List ℕ) = c.in-Ok.texts.items in
    let P : List (List ℕ) → Type 0 = λ xs. GivesFold c.fold_texts.result (group_writes reading keys (text_at xs) 0 c.args.group.now) c.args.rows.now c.fold_texts.new.rows in
    folded_next reading keys c.args.pin c.args.first c.len.result c.args.sizes.now (entries_of (g.T.Steps.mine c.read_files.new.steps)) texts c.args.group.now c.fold_texts.result c.args.rows.now c.fold_texts.new.rows
    c.len.ensures c.in-Ok.ensures.read (subst P c.deref.ensures.value c.fold_texts.ensures)
