use Rattle.std.proofs.Common.{◌≡◌, ◌∙◌, ◌<◌, ◌^◌, ◌++◌, List, ℕ, length, subst, sym, ap}
use Rattle.std.specs.List.{flat_map}
use Rattle.hudi_base.specs.declared.value.Value.{Value}
use Rattle.parquet_pages.specs.Plain.{value_bytes}
use Rattle.parquet_pages.specs.Parts.{Parts, parts_of, parts_body, parts_page}
use Rattle.parquet_pages.proofs.PartsLemmas.{plain_short, body_short, same_page}
use Rattle.parquet_pages.proofs.page.write_page.Goals as goal

pub cells_of-requires : goal.cells_of-requires
cells_of-requires c = subst (λ (cells : List Value). length (flat_map value_bytes cells) < 2 ^ 31) (sym c.as_slice.ensures) (plain_short c.args.column.now c.args.cells.now c.requires)

pub put_page-requires-clause-size : goal.put_page-requires-clause-size
put_page-requires-clause-size c =
    let are : c.in_ok-parts.parts ≡ parts_of c.args.column.now c.args.cells.now = c.in_ok-parts.ensures ∙ ap (parts_of c.args.column.now) c.as_slice.ensures in
    subst (λ (parts : Parts). length (parts_body c.args.column.now parts) < 2 ^ 31) (sym are) (body_short c.args.column.now c.args.cells.now c.requires)

pub returns-clause-written : goal.returns-clause-written
returns-clause-written c =
    let are : c.in_ok-parts.parts ≡ parts_of c.args.column.now c.args.cells.now = c.in_ok-parts.ensures ∙ ap (parts_of c.args.column.now) c.as_slice.ensures in
    c.from_vec.ensures ∙ c.in_ok-put_page.ensures
    ∙ ap (λ (old : List ℕ). old ++ parts_page c.args.column.now c.len.result c.in_ok-parts.parts) c.new-page.ensures.items
    ∙ ap (λ (n : ℕ). parts_page c.args.column.now n c.in_ok-parts.parts) c.len.ensures
    ∙ ap (parts_page c.args.column.now (length c.args.cells.now)) are
    ∙ same_page c.args.column.now c.args.cells.now
