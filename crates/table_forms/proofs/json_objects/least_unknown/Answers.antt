use Rattle.std.proofs.Common.{sym, ◌∙◌}
use Rattle.table_forms.proofs.JsonObjectLemmas.{least_unknown-object, least_unknown-none, least_of_map}
use Rattle.table_forms.proofs.json_objects.least_unknown.Goals as goal

pub returns-in-Some-clause-value : goal.returns-in-Some-clause-value
returns-in-Some-clause-value c = c.first_unknown.ensures.value ∙ sym (least_unknown-object c.args.known.now _ _ (sym c.in-Some.ensures))

pub returns-in-Some-clause-least : goal.returns-in-Some-clause-least
returns-in-Some-clause-least c =
    least_of_map c.args.known.now _ c.in-Some.members.now.entries c.first_unknown.result (sym c.in-Some.ensures) c.first_unknown.ensures.ordered c.first_unknown.ensures.value

pub returns-in-None-clause-value : goal.returns-in-None-clause-value
returns-in-None-clause-value c = sym (least_unknown-none _ _ (sym c.in-None.ensures))
