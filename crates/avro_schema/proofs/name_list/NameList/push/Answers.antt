use Rattle.std.proofs.Common.{◌≡◌, ℕ, List, [], ◌∷◌, ◌++◌, map, Bor, sym, ap, subst, ◌∙◌}
use Rattle.std.proofs.lemmas.List.{map_push}
use Rattle.avro_schema.specs.NameLists.{IsTableOf}
use Rattle.avro_schema.proofs.NameListLemmas.{table_of_more}
use Rattle.avro_schema.proofs.name_list.NameList.push.Goals as goal

pub invariant_of-self-in-Ok : goal.invariant_of-self-in-Ok
invariant_of-self-in-Ok c =
    let texts = map (λ (text : Bor (List ℕ)). text.now) in
    let names : texts c.push.new.self.items ≡ texts c.self.inside.names.items ++ c.args.name.now ∷ [] =
    ap texts (c.in-Ok-push.ensures.items ∙ ap (λ (names : List (Bor (List ℕ))). names ++ c.args.name ∷ []) c.reserve.ensures.items) ∙ map_push (λ (text : Bor (List ℕ)). text.now) c.self.inside.names.items c.args.name in
    subst (λ (ns : List (List ℕ)). IsTableOf ns c.insert.new.self) (sym names)
    (table_of_more (texts c.self.inside.names.items) c.args.name.now c.self.inside.table c.insert.new.self _ c.self.invariant c.in-Ok.ensures.updates)
