-- How a table is made: by one file, that of its properties, in a store that has none.
use Rattle.std.specs.Prelude.{◌≡◌, ◌⊎◌, List, [], ◌∷◌, ◌++◌, length, Option, Some, None, Result, Ok, Err}
use Rattle.std.specs.FinMap.{empty}
use Rattle.hudi_base.specs.Files.{FileMap, IsImage, Told, changed_all}
use Rattle.hudi_base.specs.Store.{Creates}
use Rattle.hudi_base.specs.declared.operation.Operation.{Operation}
use Rattle.hudi_base.specs.declared.operation.Operation.TheVariants.{Create}
use Rattle.hudi_base.specs.declared.store.Made.{Made}
use Rattle.hudi_base.specs.declared.store.Made.TheVariants.{Created, Exists, Failed}
use Rattle.hudi_base.specs.declared.store.Made.TheVariants as made
use Rattle.table_history.specs.Tables.{fresh}
use Rattle.table_images.specs.Properties.{properties_name}
use Rattle.table_images.specs.Stands.{IsJustOpened, StandsFor}
use Rattle.table_props.specs.PropsTexts.{Told as Properties, props_text}
use Rattle.table_open.specs.declared.making.OpenError.{OpenError}
use Rattle.table_open.specs.declared.making.OpenError.TheVariants.{TableExists, StoreFault}
use Rattle.table_open.specs.declared.making.OpenError.TheVariants as refused

-- ---- the file

-- the one operation that makes a table: the file of its properties, with the written text of these
abbrev pub making : Properties → Operation
making props = Create (properties_name (fresh props)) (props_text props)

-- what the creation of the file came to, by what refused the table
abbrev pub made_when : Option OpenError → Made
made_when (Some TableExists) = Exists
made_when (Some StoreFault) = Failed
made_when (Some refused.Memory) = made.Memory
made_when _ = Created

abbrev pub refusal : {A : Type 0} → Result A OpenError → Option OpenError
refusal (Ok x) = None
refusal (Err error) = Some error

-- what a store tells before and after: what making that file leaves, and nothing else
abbrev pub Makes : Type 0 → Told → Told → Properties → Option OpenError → Type 0
Makes honest old new props error = Creates honest old new (properties_name (fresh props)) (props_text props) (made_when error)

-- ---- images

-- the files stand for a table without instants that has these properties and was just opened
pub record IsFreshTable (image : FileMap) (props : Properties) : Type 0 where
  pub stands : StandsFor image (fresh props) 0
  pub opened : IsJustOpened image (fresh props)

-- Where the operations before it leave no file, every image that a stop leaves before the making of a table is done or
-- when it is has no file either, or stands for the table. What comes later doesn't count.
abbrev pub IsNoneOrTable : Properties → Type 0
IsNoneOrTable props = (start : FileMap) (before more : List Operation) (image : FileMap)
    → changed_all start before ≡ empty → IsImage start (before ++ making props ∷ more) (length before) image
    → (image ≡ empty) ⊎ IsFreshTable image props

-- ---- stores without files

-- The store is honest, and tells that it has no file, which operations it has done, and what it had at first.
pub record IsHonestFresh (is_honest : Type 0) (told : Told) (start : FileMap) (before : List Operation) : Type 0 where
  pub honest : is_honest
  pub files : told.files ≡ Some empty
  pub operations : told.operations ≡ Some before
  pub first : told.first ≡ Some start
