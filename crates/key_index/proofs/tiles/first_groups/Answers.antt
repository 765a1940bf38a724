use Rattle.std.proofs.Common.{◌≡◌, ◌∙◌, ◌++◌, ◌∷◌, [], sym, ap, arith, map}
use Rattle.std.specs.List.{range_with_len}
use Rattle.std.proofs.lemmas.List.FromFn.{map-range_with_len_more}
use Rattle.key_index.specs.Tiling.{first_group, first_groups}
use Rattle.key_index.proofs.tiles.first_groups.Goals as goal

pub loop-i-preserved : goal.loop-i-preserved
loop-i-preserved c =
    c.in_ok-push_first_group.ensures
    ∙ ap (λ groups. groups ++ first_group c.args.partition.now c.args.buckets c.loop-i.i ∷ []) c.loop-i.invariant
    ∙ sym (map-range_with_len_more (first_group c.args.partition.now c.args.buckets) 0 c.loop-i.i c.loop-i.i (omega arith))

pub returns : goal.returns
unfolding first_groups
returns c =
    let whole : c.loop-i.i ≡ c.args.buckets = omega arith in
    c.loop-i.invariant ∙ ap (λ n. map (first_group c.args.partition.now c.args.buckets) (range_with_len 0 n)) whole
