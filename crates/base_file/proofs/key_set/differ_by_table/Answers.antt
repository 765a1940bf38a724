use Rattle.std.proofs.Common.{◌∙◌, ◌<◌, ◌++◌, ◌∷◌, [], List, ℕ, length, map, take, sym, ap, subst, refl, arith}
use Rattle.base_file.specs.BaseFiles.{row_key, is_among, keys_differ}
use Rattle.base_file.specs.KeyTables.{IsTableOf}
use Rattle.base_file.proofs.KeyLemmas.{key_again, key_new, keys_more, keys_end, no_key}
use Rattle.base_file.proofs.key_set.differ_by_table.Goals as goal

pub loop-row-init : goal.loop-row-init
loop-row-init c = (no_key c.new-table.result c.new-table.ensures.empty, refl)

pub returns-then-has_key : goal.returns-then-has_key
returns-then-has_key c =
    let i = c.loop-row.row-index in
    let rows = c.args.rows.now in
    let row = c.row-item.result in
    let lt : i < length rows = omega arith in
    let among = sym (c.if-has_key.ensures (map row_key (take i rows)) c.loop-row.invariant.0) in
    sym (key_again i rows row (keys_differ [] (map row_key rows)) lt c.row-item.is (ap (is_among (map row_key (take i rows))) (sym c.as_slice-key.ensures) ∙ among) c.loop-row.invariant.1)

pub loop-row-preserved : goal.loop-row-preserved
loop-row-preserved c =
    let i = c.loop-row.row-index in
    let rows = c.args.rows.now in
    let row = c.row-item.result in
    let lt : i < length rows = omega arith in
    let among = sym (c.if-has_key.ensures (map row_key (take i rows)) c.loop-row.invariant.0) in
    let added = c.in_ok-add_key.ensures (map row_key (take i rows)) c.loop-row.invariant.0 in
    let keys = ap (λ (key : List ℕ). map row_key (take i rows) ++ key ∷ []) c.as_slice-key.ensures ∙ sym (keys_more i rows row lt c.row-item.is) in (
      subst (λ (ks : List (List ℕ)). IsTableOf ks c.add_key.new.table) keys added,
      key_new i rows row (keys_differ [] (map row_key rows)) lt c.row-item.is (ap (is_among (map row_key (take i rows))) (sym c.as_slice-key.ensures) ∙ among) c.loop-row.invariant.1,
    )

pub returns : goal.returns
returns c =
    let rows = c.args.rows.now in
    sym (keys_end c.loop-row.row-index rows (keys_differ [] (map row_key rows)) (omega arith) c.loop-row.invariant.1)
