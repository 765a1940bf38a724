-- What an append changes: the log in use, and no other file.
use Rattle.std.proofs.Common.{◌≡◌, inl, inr, ℕ, Bool, true, false, List, ◌++◌, Some, refl, sym, ap, ◌∙◌, ◌⊎◌}
use Rattle.std.specs.FinMap.{get, insert}
use Rattle.hudi_base.specs.Files.{FileMap, content}
use Rattle.hudi_base.specs.declared.file_group.Target.{Target}
use Rattle.file_names.specs.FileName.{name_of, IsNamed}
use Rattle.file_names.specs.declared.file_name.FileName.{FileName}
use Rattle.table_history.specs.Histories.{History}
use Rattle.table_history.specs.Tables.{Table}
use Rattle.table_images.specs.Runs.{log_in_use}
use Rattle.table_images.proofs.Frame.{get_here, get_apart}
use Rattle.table_images.proofs.WhereTo.{one_file, one_target, itself_target}
use Rattle.table_images.proofs.Lines.{some_same}
use Rattle.table_history.specs.Targets.{is_target}

abbrev pub name_in_use : Table → History → Target → List ℕ
name_in_use A H s = name_of A.props.name (log_in_use A H s)

-- the files after so many bytes more in the log in use
abbrev pub with_more : Table → History → FileMap → Target → List ℕ → FileMap
with_more A H image s more = insert image (name_in_use A H s) (content image (name_in_use A H s) ++ more)

-- which bytes a log has then: the one in use, or another
pub record IsAnother (A : Table) (H : History) (image : FileMap) (of : FileName) (s : Target) (more bytes : List ℕ) : Type 0 where
  pub by : ((of ≡ log_in_use A H s) × (bytes ≡ content image (name_in_use A H s) ++ more)) ⊎ ((name_of A.props.name of ≡ name_in_use A H s → ⊥) × (get image (name_of A.props.name of) ≡ Some bytes))

pub another : (A : Table) (H : History) (image : FileMap) (of : FileName) (s : Target) (more bytes : List ℕ) → IsNamed (log_in_use A H s) → IsNamed of
    → get (with_more A H image s more) (name_of A.props.name of) ≡ Some bytes → IsAnother A H image of s more bytes
another A H image of s more bytes named also there = record { by = by_file (one_file A of (log_in_use A H s) also named) }
  where
    by_file : (of ≡ log_in_use A H s) ⊎ (name_of A.props.name of ≡ name_in_use A H s → ⊥)
        → ((of ≡ log_in_use A H s) × (bytes ≡ content image (name_in_use A H s) ++ more)) ⊎ ((name_of A.props.name of ≡ name_in_use A H s → ⊥) × (get image (name_of A.props.name of) ≡ Some bytes))
    by_file (inl same) =
        inl (same, some_same (sym there ∙ ap (λ (f : FileName). get (with_more A H image s more) (name_of A.props.name f)) same ∙ get_here image (name_in_use A H s) (content image (name_in_use A H s) ++ more)))
    by_file (inr apart) = inr (apart, sym (get_apart image (name_in_use A H s) (content image (name_in_use A H s) ++ more) (name_of A.props.name of) apart) ∙ there)

-- two slices are one, or they are not
pub slice_cases : (s r : Target) → (s ≡ r) ⊎ (s ≡ r → ⊥)
slice_cases s r = by_test (is_target s r) refl
  where
    by_test : (b : Bool) → is_target s r ≡ b → (s ≡ r) ⊎ (s ≡ r → ⊥)
    by_test true same = inl (one_target s r same)
    by_test false other = inr (λ same. let yes : is_target s r ≡ true = ap (is_target s) (sym same) ∙ itself_target s in let wrong : true ≡ false = sym yes ∙ other in cc)
