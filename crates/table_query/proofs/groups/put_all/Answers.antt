use Rattle.std.proofs.Common.{◌∷◌, [], ◌∙◌, sym, ap, map}
use Rattle.std.proofs.lemmas.List.{map-append}
use Rattle.payload_merge.specs.Fold.{RowTable, table_after, table_after_all}
use Rattle.payload_merge.specs.declared.row.Write.TheVariants.{Put}
use Rattle.table_query.proofs.Following.{one_write}
use Rattle.table_query.proofs.groups.put_all.Goals as goal

pub loop-row-preserved : goal.loop-row-preserved
loop-row-preserved c =
    c.in-Ok.ensures.ok ∙ ap (λ (table : RowTable). table_after table (Put c.in-Some.row)) c.loop-row.invariant
    ∙ sym (one_write (map Put c.loop-row.yielded) (Put c.in-Some.row) c.args.rows.now)
    ∙ ap (table_after_all c.args.rows.now) (sym (map-append Put c.loop-row.yielded (c.in-Some.row ∷ [])))
