use Rattle.std.proofs.Common.{◌≡◌, ◌++◌, ◌/◌, ◌∙◌, sym, ap, subst, append_assoc, List, length, get_or, take, take-append-drop, OnOk}
use Rattle.hudi_base.specs.declared.file_group.GroupRef.{GroupRef}
use Rattle.hudi_base.specs.declared.file_group.Target.{Target}
use Rattle.payload_merge.specs.declared.row.Write.{Write}
use Rattle.upsert_writer.specs.TargetWrites.{writes_of_each}
use Rattle.upsert_writer.proofs.TargetWrites.{shared}
use Rattle.upsert_writer.proofs.sharing.+share.Goals as goal

pub returns : goal.returns
returns t c =
    let lower : List Target = c.split_at.result.0.now in
    let upper : List Target = c.split_at.result.1.now in
    let targets : List Target = c.args.targets.now in
    let g : GroupRef = (get_or upper 0 c.index-upper-0.result).group in
    let before : List Write = c.in_ok-before.before.items in
    let behind : List Write = c.in_ok-before.behind.items in
    let old : List (List Write) = c.args.parts.now.items in
    let whole : lower ++ upper ≡ targets = ap (λ (xs : List Target). xs ++ upper) c.split_at.ensures.front ∙ ap (λ (xs : List Target). take (length targets / 2) targets ++ xs) c.split_at.ensures.back ∙ take-append-drop (length targets / 2) targets in
    let all : writes_of_each lower before ++ writes_of_each upper behind ≡ writes_of_each targets c.args.writes.items =
    shared g lower upper targets c.args.writes.items before behind whole (sym c.end_before.ensures ∙ c.if-not-end_before.false) (sym c.begin_behind.ensures ∙ c.if-not-begin_behind.false) c.in_ok-before.ensures.before c.in_ok-before.ensures.behind in
    let P : List (List Write) → Type 0 = λ xs. OnOk c.share-2.result (c.share-2.new.parts.items ≡ xs) in
    subst P (ap (λ (xs : List (List Write)). xs ++ writes_of_each upper behind) c.in_ok-share.ensures ∙ append_assoc old (writes_of_each lower before) (writes_of_each upper behind) ∙ ap (λ (xs : List (List Write)). old ++ xs) all) c.share-2.ensures
