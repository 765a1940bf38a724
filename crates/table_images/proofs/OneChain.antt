-- The chain of a group rests on the group's logs alone, and is one.
use Rattle.std.proofs.Common.{◌≡◌, ℕ, List, Option, Some, None, refl, sym, ap, ◌∙◌}
use Rattle.std.specs.FinMap.{get, same_map}
use Rattle.std.proofs.lemmas.Cmp.{nat_list_cmp_total}
use Rattle.std.proofs.lemmas.Map.Lookups.{exact_bytes}
use Rattle.hudi_base.specs.Files.{FileMap, changed}
use Rattle.hudi_base.specs.declared.file_group.GroupRef.{GroupRef}
use Rattle.hudi_base.specs.declared.operation.Operation.{Operation}
use Rattle.file_names.specs.FileName.{name_of, group_of_file, IsNamed, IsLog}
use Rattle.file_names.specs.declared.file_name.FileName.{FileName}
use Rattle.file_names.specs.declared.file_name.FileName.TheVariants as file
use Rattle.file_names.specs.declared.file_name.Token.{Token}
use Rattle.file_names.proofs.NameTexts.{name_of_injective}
use Rattle.table_history.specs.Tables.{Table}
use Rattle.table_images.specs.Chains.{Chain, IsChain}
use Rattle.table_images.specs.Frames.{name_of_operation}
use Rattle.table_images.proofs.Frame.{elsewhere}

pub other_groups : (A : Table) (image : FileMap) (operation : Operation) (of : FileName) (group : GroupRef) (chain : Chain) → IsNamed of → name_of_operation operation ≡ name_of A.props.name of
    → (group_of_file of ≡ Some group → ⊥) → IsChain image A group chain → IsChain (changed image operation) A group chain
other_groups A image operation of group chain named about apart is = record {
  logs = λ slice version token log. is.logs slice version token log
      ∙ sym (elsewhere image operation (name_of A.props.name (file.Log group slice version token)) (λ same. apart (group_of slice version token log (same ∙ about))));
  alone = is.alone;
}
  where
    group_of : (slice version : ℕ) (token : Token) → IsLog group slice version token → name_of A.props.name (file.Log group slice version token) ≡ name_of A.props.name of → group_of_file of ≡ Some group
    group_of slice version token log same = sym (ap group_of_file (name_of_injective A.props.name (file.Log group slice version token) of log named same))

pub one_chain : (image : FileMap) (A : Table) (group : GroupRef) (chain other : Chain) → IsChain image A group chain → IsChain image A group other → chain ≡ other
one_chain image A group chain other is also = same_map nat_list_cmp_total exact_bytes chain other (λ key. by_found key (get chain key) (get other key) refl refl)
  where
    both : (key bytes : List ℕ) (a b : Chain) → IsChain image A group a → IsChain image A group b → get a key ≡ Some bytes → get a key ≡ get b key
    both key bytes a b of_a of_b found =
        let at = of_a.alone key bytes found in
        ap (get a) at.is ∙ of_a.logs at.slice at.version at.token at.named ∙ sym (of_b.logs at.slice at.version at.token at.named) ∙ ap (get b) (sym at.is)

    by_found : (key : List ℕ) (o p : Option (List ℕ)) → get chain key ≡ o → get other key ≡ p → get chain key ≡ get other key
    by_found key (Some bytes) p here there = both key bytes chain other is also here
    by_found key None (Some bytes) here there = sym (both key bytes other chain also is there)
    by_found key None None here there = here ∙ sym there
