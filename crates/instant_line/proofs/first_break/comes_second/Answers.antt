use Rattle.std.proofs.Common.{sym, subst}
use Rattle.instant_line.specs.NameOrder.{name_number, HasBetween}
use Rattle.file_names.specs.declared.file_name.Action.TheVariants.{Clean}
use Rattle.file_names.specs.declared.file_name.State.TheVariants.{Completed}
use Rattle.instant_line.proofs.NameNumbers.{has-second}
use Rattle.instant_line.proofs.first_break.comes_second.Goals as goal

pub returns : goal.returns
returns c =
    let second = has-second c.args.entries.now c.args.t c.args.action c.args.state in (
      λ test. second.0
          (subst (λ n. HasBetween c.args.entries.now (name_number c.args.t Clean Completed) n) c.name_number-own.ensures.value
          (subst (λ n. HasBetween c.args.entries.now n c.name_number-own.result) c.name_number-first.ensures.value (c.has_between.ensures.0 test))),
      λ has. c.has_between.ensures.1
          (subst (λ n. HasBetween c.args.entries.now n c.name_number-own.result) (sym c.name_number-first.ensures.value)
          (subst (λ n. HasBetween c.args.entries.now (name_number c.args.t Clean Completed) n) (sym c.name_number-own.ensures.value) (second.1 has))),
    )
