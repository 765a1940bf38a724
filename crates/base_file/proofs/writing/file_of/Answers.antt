use Rattle.std.proofs.Common.{◌≡◌, ◌+◌, ◌<◌, ◌≤◌, ◌++◌, ◌*◌, [], List, ℕ, length, min, refl, sym, subst, arith}
use Rattle.std.specs.List.{All}
use Rattle.std.proofs.lemmas.Bool.{eqb-true, eqb-false}
use Rattle.std.proofs.lemmas.List.Elements.{All-take, All-drop}
use Rattle.std.proofs.lemmas.Result.{IfOk-weaker}
use Rattle.parquet_meta.specs.declared.row_group.RowGroup.{RowGroup}
use Rattle.payload_merge.specs.declared.row.Row.{Row}
use Rattle.base_cells.specs.Written.{group_len}
use Rattle.base_writer.specs.Fitting.{HasForm, end_bytes, meta_with}
use Rattle.base_file.specs.WrittenRows.{meaning, IsFileOf}
use Rattle.base_file.proofs.WriteLemmas.{nothing_yet, group_more, file_ended, full_more, all_done, parts_again, ok_both}
use Rattle.base_file.proofs.writing.file_of.Goals as goal

pub loop-rest-init : goal.loop-rest-init
loop-rest-init g c = (
  [],
  refl,
  nothing_yet (meaning (g.K.RowCodec.columns c.args.codec.now) (g.K.RowCodec.base_row c.args.codec.now) (g.K.RowCodec.file_column c.args.codec.now) c.args.file.now) c.in_ok-bytes.bytes.items c.new-groups.result.items c.in_ok-bytes.ensures c.new-groups.ensures.items,
  λ some. (0, omega arith),
  c.requires.own,
)

pub put_rows-requires : goal.put_rows-requires
put_rows-requires g c = record {
  own = subst (λ (xs : List Row). All (g.K.RowCodec.own_row c.args.codec.now) xs) (sym c.split_at.ensures.front) (All-take (g.K.RowCodec.own_row c.args.codec.now) c.min.result c.loop-rest.rest.now c.loop-rest.invariant.4);
  short_id = c.requires.short_id;
  few = omega (arith, c.split_at.ensures.front_len, c.min.ensures);
}

pub loop-rest-preserved : goal.loop-rest-preserved
loop-rest-preserved g c =
    let m = meaning (g.K.RowCodec.columns c.args.codec.now) (g.K.RowCodec.base_row c.args.codec.now) (g.K.RowCodec.file_column c.args.codec.now) c.args.file.now in
    let inv = c.loop-rest.invariant in
    let front = c.split_at.result.0.now in
    let back = c.split_at.result.1.now in
    let ne = eqb-false _ _ (sym c.loop-rest-test.ensures) in
    let some : 0 < length c.loop-rest.rest.now = omega (arith, ne) in
    let size : length front ≡ c.min.result = c.split_at.ensures.front_len in
    let rest : length back + c.min.result ≡ length c.loop-rest.rest.now = c.split_at.ensures.back_len in
    let least : c.min.result ≡ min (length c.loop-rest.rest.now) 10000 = c.min.ensures in
    let few : length front ≤ group_len = omega arith in
    let front_some : 0 < length front = omega arith in (
      inv.0 ++ front,
      parts_again c.min.result inv.0 front back c.loop-rest.rest.now c.args.rows.now c.split_at.ensures.front c.split_at.ensures.back inv.1,
      group_more m inv.0 front c.loop-rest.bytes.items c.put_rows.new.bytes.items c.loop-rest.groups.items c.put_rows.new.groups.items (inv.3 some) front_some few inv.2 c.in_ok-put_rows.ensures,
      λ more. (let whole : length front ≡ group_len = omega arith in full_more inv.0 front (inv.3 some) whole),
      subst (λ (xs : List Row). All (g.K.RowCodec.own_row c.args.codec.now) xs) (sym c.split_at.ensures.back) (All-drop (g.K.RowCodec.own_row c.args.codec.now) c.min.result c.loop-rest.rest.now inv.4),
    )

pub returns : goal.returns
returns g c =
    let m = meaning (g.K.RowCodec.columns c.args.codec.now) (g.K.RowCodec.base_row c.args.codec.now) (g.K.RowCodec.file_column c.args.codec.now) c.args.file.now in
    let inv = c.loop-rest.invariant in
    let none : length c.loop-rest.rest.now ≡ 0 = eqb-true _ _ (sym c.loop-rest-test.ensures) in
    let groups = c.from_vec.result in
    IfOk-weaker c.finish.result
    (λ (file : List ℕ). (file ≡ c.loop-rest.bytes.items ++ end_bytes c.columns.result.now (length c.args.rows.now) groups) × HasForm (meta_with c.columns.result.now (length c.args.rows.now) groups))
    (λ (file : List ℕ). IsFileOf m c.args.rows.now file)
    (λ file is. file_ended m c.columns.result.now c.args.rows.now inv.0 c.loop-rest.bytes.items file c.loop-rest.groups.items (length c.args.rows.now) c.columns.ensures (all_done inv.0 c.loop-rest.rest.now c.args.rows.now inv.1 none) refl inv.2
    (subst (λ (groups : List RowGroup). file ≡ c.loop-rest.bytes.items ++ end_bytes c.columns.result.now (length c.args.rows.now) groups) c.from_vec.ensures is.0)
    (subst (λ (groups : List RowGroup). HasForm (meta_with c.columns.result.now (length c.args.rows.now) groups)) c.from_vec.ensures is.1))
    (ok_both c.finish.result (λ (file : List ℕ). file ≡ c.loop-rest.bytes.items ++ end_bytes c.columns.result.now (length c.args.rows.now) groups) (λ (file : List ℕ). HasForm (meta_with c.columns.result.now (length c.args.rows.now) groups)) c.finish.ensures.bytes c.finish.ensures.form)
