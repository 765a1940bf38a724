use Rattle.std.proofs.Common.{◌≡◌, ◌<◌, ◌+◌, ◌∙◌, [], sym, ap, subst, length, get_or, refl, zero-add, arith, List, ℕ}
use Rattle.table_history.specs.JobLaw.{entries_of}
use Rattle.table_history.specs.declared.view.GroupParts.{GroupParts}
use Rattle.table_query.specs.GroupReading.{TableReading, all_from, files_in, group_writes, view_writes}
use Rattle.table_query.specs.Parts.{text_at}
use Rattle.table_query.specs.ReadBytes.{bytes_read}
use Rattle.table_query.specs.Reading.{HasReadUpTo}
use Rattle.table_query.proofs.Ends.{all_files, begins_reading, failed_at, found_in_texts, gives_same, group_read, only_read, rows_answer}
use Rattle.table_query.proofs.Following.{none_after, sizes}
use Rattle.table_query.proofs.NextFiles.{reads_more}
use Rattle.table_query.proofs.Same.{view_same}
use Rattle.table_query.proofs.groups.rows_of_only.Goals as goal

pub read_files-requires : goal.read_files-requires
read_files-requires g c =
    let every = all_files c.args.view.now c.args.sizes.now c.requires.sized in
    let one : sizes files_in c.args.view.now.groups ≡ length c.args.group.now.parts + 0 = ap (sizes files_in) c.requires.only in
    record {
      within = omega (arith, every, one, c.len.ensures);
      so_far = begins_reading c.args.view.now c.args.sizes.now (entries_of (g.T.Steps.mine c.args.steps.now)) c.requires.sized c.requires.pinned;
    }

pub rows_of_group-requires : goal.rows_of_group-requires
rows_of_group-requires g c = omega (arith, ap length c.deref.ensures.value, c.in-Ok.ensures.read.many, c.len.ensures)

pub returns-in-Err-clause-read : goal.returns-in-Err-clause-read
returns-in-Err-clause-read g c =
    let reading : TableReading = record { rows = g.K.RowCodec.block_rows c.args.codec.now; table = g.K.TableCodec.table_name c.args.codec.now } in
    let only = c.requires.only in
    let group : GroupParts = c.args.group.now in
    let within : 0 < length c.args.view.now.groups = omega (arith, ap length only) in
    let here : group ≡ get_or c.args.view.now.groups 0 group = sym (ap (λ (gs : List GroupParts). get_or gs 0 group) only) in
    let leaves = c.read_files.ensures.leaves in
    failed_at reading c.args.view.now (entries_of (g.T.Steps.mine c.read_files.new.steps)) c.args.completed.now.keys c.requires.completed c.args.sizes.now c.requires.sized (leaves.view ∙ c.requires.pinned.view_is)
    0 0 group within here refl [] refl c.in-Err.reply
    (leaves.front (0 + files_in group) (omega (arith, c.len.ensures)) (reads_more 0 (0 + files_in group) (entries_of (g.T.Steps.mine c.args.steps.now)) (omega arith) c.requires.pinned.front))
    c.in-Err.ensures.read

pub returns-clause-read : goal.returns-clause-read
returns-clause-read g c =
    let reading : TableReading = record { rows = g.K.RowCodec.block_rows c.args.codec.now; table = g.K.TableCodec.table_name c.args.codec.now } in
    let view = c.args.view.now in
    let keys : List ℕ = c.args.completed.now.keys in
    let group : GroupParts = c.args.group.now in
    let mine = entries_of (g.T.Steps.mine c.read_files.new.steps) in
    let bytes : ℕ → List ℕ = bytes_read mine in
    let texts : List (List ℕ) = c.in-Ok.texts.items in
    let read = c.in-Ok.ensures.read in
    let same : group_writes reading keys (text_at c.deref.result.now) 0 group ≡ view_writes reading view.completed bytes view.groups =
    ap (λ (xs : List (List ℕ)). group_writes reading keys (text_at xs) 0 group) c.deref.ensures.value
    ∙ found_in_texts reading keys view.pin 0 c.len.result c.args.sizes.now mine texts group c.len.ensures read
    ∙ sym (none_after (group_writes reading keys bytes 0 group)) ∙ ap (all_from files_in (group_writes reading keys bytes) 0) (sym c.requires.only)
    ∙ view_same reading keys view.completed bytes bytes view.groups c.requires.completed (λ k. refl) in
    let P : ℕ → Type 0 = λ n. HasReadUpTo view.pin n c.args.sizes.now mine in
    let up_to : HasReadUpTo view.pin (files_in group) c.args.sizes.now mine = subst P (zero-add (files_in group)) (group_read view.pin 0 c.len.result c.args.sizes.now mine texts group c.len.ensures read) in
    rows_answer reading view mine c.rows_of_group.result
    (only_read reading view mine keys c.requires.completed c.args.sizes.now c.requires.sized (c.read_files.ensures.leaves.view ∙ c.requires.pinned.view_is) group c.requires.only up_to)
    (gives_same c.rows_of_group.result _ _ same c.rows_of_group.ensures)
