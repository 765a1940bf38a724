use Rattle.std.proofs.Common.{◌∙◌, List, sym, ap, subst, refl, arith}
use Rattle.hudi_base.specs.declared.column.Column.{Column}
use Rattle.base_writer.specs.Fitting.{AreGroupOf}
use Rattle.base_writer.specs.GroupParts.{group_parts}
use Rattle.base_cases.specs.Sample.{the_columns, the_rows}
use Rattle.base_cases.proofs.written.written_file.Goals as goal

sample_fits : AreGroupOf the_columns the_rows
sample_fits = record { each = ((refl, refl, (refl, refl, tt)), ((refl, refl, (refl, refl, tt)), tt)); few = omega arith }

pub put-requires : goal.put-requires
put-requires c = (
  the_rows,
  record { are = c.in_ok-pages.ensures ∙ ap (λ (columns : List Column). group_parts columns the_rows) (sym c.requires); counted = refl },
  subst (λ (columns : List Column). AreGroupOf columns the_rows) (sym c.requires) sample_fits,
)
