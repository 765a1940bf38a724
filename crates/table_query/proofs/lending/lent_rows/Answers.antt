use Rattle.std.proofs.Common.{◌≡◌, ◌∙◌, sym, ap, subst, refl, List, ℕ, Result, Ok, IfOk, IfSome, OnSome}
use Rattle.payload_merge.specs.declared.row.Write.{Write}
use Rattle.table_history.specs.declared.view.Part.{Part}
use Rattle.table_query.specs.GroupReading.{Damage, TableReading, counts, group_writes, is_among, logs_of, logs_writes, voided, writes_in}
use Rattle.table_query.specs.Parts.{ArePuts, LeavesRows, text_at}
use Rattle.table_query.specs.declared.logs.PartLog.{PartLog}
use Rattle.table_query.proofs.Same.{logs_same}
use Rattle.table_query.proofs.lending.lent_rows.Goals as goal

pub returns-clause-rows : goal.returns-clause-rows
returns-clause-rows g c =
    let reading : TableReading = record { rows = g.K.RowCodec.block_rows c.args.codec.now; table = g.K.TableCodec.table_name c.args.codec.now } in
    let group = c.args.parts.now.group in
    let keys : List ℕ = c.args.completed.now.keys in
    let void : List ℕ = c.in-Ok-set_of.void.keys in
    let logs : List PartLog = c.in-Ok.logs in
    let found : logs_of (text_at c.args.texts.now) 0 c.args.parts.now.parts ≡ Ok logs =
    ap (λ (ps : List Part). logs_of (text_at c.args.texts.now) 0 ps) (sym c.as_slice.ensures) ∙ c.in-Ok.ensures in
    let targets : c.deref.result.now ≡ voided logs = c.deref.ensures.value ∙ c.in-Ok-voided.ensures ∙ ap voided c.as_slice-2.ensures in
    let same : logs_writes reading group (counts keys void) c.as_slice-3.result.now ≡ group_writes reading keys (text_at c.args.texts.now) 0 c.args.parts.now =
    ap (λ (ls : List PartLog). logs_writes reading group (counts keys void) ls) c.as_slice-3.ensures
    ∙ sym (logs_same reading group keys keys (voided logs) void (λ t. refl) (λ t. sym (c.in-Ok-set_of.ensures t ∙ ap (λ (xs : List ℕ). is_among xs t) targets)) logs)
    ∙ sym (ap (λ (r : Result (List PartLog) Damage). writes_in reading keys group r) found) in
    let P : Result (List Write) Damage → Type 0 = λ r. IfSome c.rows_of_logs.result (LeavesRows r) in
    subst P same c.rows_of_logs.ensures.rows

pub returns-clause-puts : goal.returns-clause-puts
returns-clause-puts g c =
    let reading : TableReading = record { rows = g.K.RowCodec.block_rows c.args.codec.now; table = g.K.TableCodec.table_name c.args.codec.now } in
    let group = c.args.parts.now.group in
    let keys : List ℕ = c.args.completed.now.keys in
    let void : List ℕ = c.in-Ok-set_of.void.keys in
    let logs : List PartLog = c.in-Ok.logs in
    let found : logs_of (text_at c.args.texts.now) 0 c.args.parts.now.parts ≡ Ok logs =
    ap (λ (ps : List Part). logs_of (text_at c.args.texts.now) 0 ps) (sym c.as_slice.ensures) ∙ c.in-Ok.ensures in
    let targets : c.deref.result.now ≡ voided logs = c.deref.ensures.value ∙ c.in-Ok-voided.ensures ∙ ap voided c.as_slice-2.ensures in
    let same : logs_writes reading group (counts keys void) c.as_slice-3.result.now ≡ group_writes reading keys (text_at c.args.texts.now) 0 c.args.parts.now =
    ap (λ (ls : List PartLog). logs_writes reading group (counts keys void) ls) c.as_slice-3.ensures
    ∙ sym (logs_same reading group keys keys (voided logs) void (λ t. refl) (λ t. sym (c.in-Ok-set_of.ensures t ∙ ap (λ (xs : List ℕ). is_among xs t) targets)) logs)
    ∙ sym (ap (λ (r : Result (List PartLog) Damage). writes_in reading keys group r) found) in
    let P : Result (List Write) Damage → Type 0 = λ r. OnSome c.rows_of_logs.result (IfOk r ArePuts) in
    subst P same c.rows_of_logs.ensures.puts
