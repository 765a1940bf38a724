-- The file of the properties, which no step changes.
use Rattle.std.proofs.Common.{◌≡◌, ◌++◌, Bool, true, false, ℕ, Option, Some, None, Ok, IsSomeAnd, refl, sym, ap, ◌∙◌, subst, List}
use Rattle.std.specs.FinMap.{empty, get, insert, get-empty}
use Rattle.std.specs.Ordering.{nat_cmp}
use Rattle.std.specs.Cmp.Lexicographic.{slice_cmp}
use Rattle.hudi_base.specs.Files.{FileMap, content}
use Rattle.hudi_base.specs.InstantTime.{IsTime}
use Rattle.hudi_base.specs.declared.file_group.Target.{Target}
use Rattle.file_names.specs.FileName.{name_of, IsNamed, Kind, kind_of, properties}
use Rattle.file_names.specs.declared.file_name.Action.TheVariants.{Delta}
use Rattle.file_names.specs.declared.file_name.FileName.{FileName}
use Rattle.file_names.specs.declared.file_name.FileName.TheVariants as file
use Rattle.file_names.specs.declared.file_name.State.{State}
use Rattle.file_names.proofs.NameTexts.{name_of_injective}
use Rattle.table_props.specs.PropsTexts.{read_props, Told as Properties}
use Rattle.table_history.specs.After.{after_history}
use Rattle.table_history.specs.Histories.{History}
use Rattle.table_history.specs.Tables.{Table}
use Rattle.table_images.specs.Properties.{PropertiesFile, properties_name}
use Rattle.table_images.specs.Runs.{log_in_use}
use Rattle.table_images.specs.Timeline.{timeline_name}
use Rattle.table_images.proofs.Appended.{name_in_use, with_more}
use Rattle.table_images.proofs.Frame.{get_apart}

abbrev pub is_properties : Kind → Bool
is_properties properties = true
is_properties _ = false

-- the name of another kind of file is another one
pub no_properties : (table : List ℕ) (of : FileName) → IsNamed of → is_properties (kind_of of) ≡ false → name_of table of ≡ name_of table file.Properties → ⊥
no_properties table of named apart one =
    let wrong : true ≡ false = ap (λ (f : FileName). is_properties (kind_of f)) (sym (name_of_injective table of file.Properties named tt one)) ∙ apart in cc

pub properties_still : (A : Table) (H K : History) (image new : FileMap) → get new (properties_name A) ≡ get image (properties_name A) → PropertiesFile image (after_history A H) → PropertiesFile new (after_history A K)
properties_still A H K image new same was = subst (λ (c : Option (List ℕ)). IsSomeAnd c (λ bytes. read_props bytes ≡ Ok A.props)) (sym same) was

pub properties_marked : (A : Table) (image : FileMap) (t : ℕ) (s : State) (bytes : List ℕ) → IsTime t
    → get (insert image (timeline_name A t Delta s) bytes) (properties_name A) ≡ get image (properties_name A)
properties_marked A image t s bytes time =
    get_apart image (timeline_name A t Delta s) bytes (properties_name A) (λ one. no_properties A.props.name (file.Instant t Delta s) time refl (sym one))

pub properties_apart : (A : Table) (H : History) (image : FileMap) (s : Target) (more : List ℕ) → IsNamed (log_in_use A H s)
    → get (with_more A H image s more) (properties_name A) ≡ get image (properties_name A)
properties_apart A H image s more named =
    get_apart image (name_in_use A H s) (content image (name_in_use A H s) ++ more) (properties_name A) (λ one. no_properties A.props.name (log_in_use A H s) named refl (sym one))

-- ---- the properties alone

-- the only file is that of the properties
abbrev pub first_files : Properties → List ℕ → FileMap
first_files props bytes = insert empty (name_of props.name file.Properties) bytes

-- no file of another kind is beside it
pub beside_properties : (props : Properties) (bytes : List ℕ) (of : FileName) → IsNamed of → is_properties (kind_of of) ≡ false
    → get (first_files props bytes) (name_of props.name of) ≡ None
beside_properties props bytes of named apart =
    get_apart empty (name_of props.name file.Properties) bytes (name_of props.name of) (no_properties props.name of named apart) ∙ get-empty (slice_cmp nat_cmp) _
