use Rattle.std.proofs.Common.{◌≡◌, ◌<◌, ◌++◌, ◌∷◌, [], List, length, take, get_or, set, sym, ap, ◌∙◌, arith}
use Rattle.std.proofs.lemmas.List.Edits.{map_over_more}
use Rattle.hudi_base.specs.declared.value.Value.{Value}
use Rattle.hudi_base.specs.declared.value.Value.TheVariants.{Null}
use Rattle.base_cells.specs.Turned.{cells_at}
use Rattle.base_cells.proofs.TurnedLemmas.{not_yet_taken, cells_at-more}
use Rattle.base_cells.proofs.turning.last_cells.Goals as goal

pub loop-list-preserved : goal.loop-list-preserved
loop-list-preserved c =
    let xs = c.args.lists.now.items in
    let ys = c.loop-list.list-items in
    let i = c.loop-list.list-index in
    let last = c.args.last in
    let item : List Value = c.list-item.result in
    let lt : i < length xs = omega arith in
    let same : get_or ys i item ≡ get_or xs i item = not_yet_taken last i xs ys item lt c.loop-list.invariant.0 in
    let now : c.move_last.new.list ≡ take last item = c.move_last.ensures.list ∙ ap (take last) (sym c.list-item.is) in (
      ap (set ys i) now ∙ map_over_more (take last) xs ys i item lt c.loop-list.invariant.0 c.list-item.is,
      c.in_ok-move_last.ensures.cells
          ∙ ap (λ (cells : List Value). cells ++ get_or (get_or ys i item) last Null ∷ []) c.loop-list.invariant.1
          ∙ ap (λ (cells : List Value). cells_at (take i xs) last ++ get_or cells last Null ∷ []) same
          ∙ sym (cells_at-more i last xs item lt),
    )
