use Rattle.std.proofs.Common.{map, sym, ap, subst, ◌∙◌, arith}
use Rattle.std.specs.Option.{option_map}
use Rattle.std.proofs.lemmas.List.{take_all}
use Rattle.payload_merge.specs.KeyOrder.{KeysRiseFrom, write_of}
use Rattle.payload_merge.specs.RowRefs.{key_of_ref}
use Rattle.payload_merge.proofs.WritesInOrder.{Folds-none, LeaveRows-end, folds_alike, left_over, other_keys, rises_from, same_keys, so_far, to_another, to_the_same}
use Rattle.payload_merge.proofs.lent_fold.fold_in_order.Goals as goal
use Rattle.payload_merge.proofs.lent_fold.fold_in_order.Goals.{then-ne+in_ok-push_present, else-ne}

pub loop-prefixed-init : goal.loop-prefixed-init
loop-prefixed-init c = rw c.new-rows.ensures.items (record { folds = Folds-none; rise = c.requires })

pub loop-prefixed-preserved : goal.loop-prefixed-preserved
loop-prefixed-preserved c =
    let ordered = c.args.ordered.now in
    let i = c.loop-prefixed.prefixed-index in
    let next = write_of c.prefixed-item.result in
    let key = c.loop-prefixed.key.now in
    let rows = c.loop-prefixed.rows.items in
    let before = option_map (λ row. row.now) c.loop-prefixed.present in
    let left = option_map (λ row. row.now) c.row_left-present.result in
    let writes = so_far ordered c.prefixed-item.result i c.loop-prefixed-test.true c.prefixed-item.is in
    let rise = subst (KeysRiseFrom key) (left_over ordered c.prefixed-item.result i c.loop-prefixed-test.true c.prefixed-item.is) c.loop-prefixed.invariant.rise in
    elim c.if-ne.branch [
      | then-ne+in_ok-push_present w ↦ (
          let apart = other_keys c.key.result.now key c.ne.result c.ne.ensures w.if-ne.true in
          let kept = ap (λ k. k.now) w.key-is ∙ w.key-key.ensures in
          record {
            folds = folds_alike _ _ c.if-ne.rows.items c.if-ne.key.now left writes (to_another _ rows c.if-ne.rows.items key c.if-ne.key.now before _ left next c.loop-prefixed.invariant.folds rise.0
                (λ same. apart (c.key.ensures ∙ same)) (ap (λ v. v.items) w.rows-is ∙ w.in_ok-push_present.ensures) kept (ap (option_map (λ row. row.now)) w.present-is) c.row_left-present.ensures);
            rise = rises_from c.if-ne.key.now (key_of_ref next) _ kept rise.1;
          })
      | else-ne w ↦ (
          let same = sym c.key.ensures ∙ same_keys c.key.result.now key c.ne.result c.ne.ensures w.if-ne.false in
          let kept = ap (λ k. k.now) w.key-is in
          record {
            folds = folds_alike _ _ c.if-ne.rows.items c.if-ne.key.now left writes (to_the_same _ rows c.if-ne.rows.items key c.if-ne.key.now before _ left next c.loop-prefixed.invariant.folds same
                (ap (λ v. v.items) w.rows-is) kept (ap (option_map (λ row. row.now)) w.present-is) c.row_left-present.ensures);
            rise = rises_from c.if-ne.key.now (key_of_ref next) _ (kept ∙ sym same) rise.1;
          })
    ]

pub returns : goal.returns
returns c =
    let ordered = c.args.ordered.now in
    let all = take_all c.loop-prefixed.prefixed-index ordered (omega (arith, c.loop-prefixed-test.false)) in
    let folds = folds_alike _ _ c.loop-prefixed.rows.items c.loop-prefixed.key.now _ (ap (map write_of) (sym all)) c.loop-prefixed.invariant.folds in
    rw c.in_ok-push_present-2.ensures (LeaveRows-end (map write_of ordered) c.loop-prefixed.rows.items c.loop-prefixed.key.now _ folds)
