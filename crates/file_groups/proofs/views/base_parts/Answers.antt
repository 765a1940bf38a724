use Rattle.std.proofs.Common.{ap, ◌∙◌, List, ℕ}
use Rattle.std.proofs.lemmas.Result.{IfOk-weaker}
use Rattle.std.proofs.lemmas.List.Elements.{filter_agree}
use Rattle.file_groups.specs.declared.parts.BasePart.{BasePart}
use Rattle.file_groups.specs.Names.{has_name}
use Rattle.file_groups.specs.Views.{is_among}
use Rattle.file_groups.proofs.NameLemmas.{table_tells}
use Rattle.file_groups.proofs.views.base_parts.Goals as goal

pub returns : goal.returns
returns c =
    IfOk-weaker c.bases_among.result _ _
    (λ bases e. e ∙ filter_agree (λ (base : BasePart). has_name c.deref.result.now base.name) (λ (base : BasePart). is_among c.args.table.now c.args.files.now base.name)
    (λ base. ap (λ (ns : List (List ℕ)). has_name ns base.name) c.deref.ensures.value ∙ table_tells c.args.table.now c.args.files.now _ c.in_ok-names.ensures base.name) c.args.named.now)
    c.bases_among.ensures
