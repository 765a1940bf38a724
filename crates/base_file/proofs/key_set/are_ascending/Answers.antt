use Rattle.std.proofs.Common.{◌<◌, ◌++◌, ◌∷◌, [], List, ℕ, map, take, Some, sym, ap, subst, refl, ◌∙◌}
use Rattle.base_file.specs.BaseFiles.{row_key, is_among, keys_differ}
use Rattle.base_file.specs.KeyTables.{AreUpTo}
use Rattle.base_file.proofs.KeyLemmas.{key_new, keys_more, keys_end}
use Rattle.base_file.proofs.key_set.are_ascending.Goals as goal

pub loop-row-init : goal.loop-row-init
loop-row-init c = (refl, refl)

pub loop-row-preserved : goal.loop-row-preserved
loop-row-preserved c =
    let i = c.loop-row.row-index in
    let rows = c.args.rows.now in
    let row = c.row-item.result in
    let key = c.as_slice-key.result.now in
    let lt = c.loop-row-test.true in
    let above = c.if-not-is_above.ensures (map row_key (take i rows)) c.loop-row.invariant.0 in
    let keys = ap (λ (one : List ℕ). map row_key (take i rows) ++ one ∷ []) c.as_slice-key.ensures ∙ sym (keys_more i rows row lt c.row-item.is) in (
      subst (λ (ks : List (List ℕ)). AreUpTo ks (Some key)) keys above.1,
      key_new i rows row (keys_differ [] (map row_key rows)) lt c.row-item.is (ap (is_among (map row_key (take i rows))) (sym c.as_slice-key.ensures) ∙ above.0) c.loop-row.invariant.1,
    )

pub returns : goal.returns
returns c = keys_end c.loop-row.row-index c.args.rows.now (keys_differ [] (map row_key c.args.rows.now)) c.loop-row-test.false c.loop-row.invariant.1
