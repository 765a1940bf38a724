-- The file of the table's properties, `.hoodie/hoodie.properties`.
use Rattle.std.specs.Prelude.{◌≡◌, List, ℕ, Ok, IsSomeAnd}
use Rattle.std.specs.FinMap.{get}
use Rattle.hudi_base.specs.Files.{FileMap}
use Rattle.file_names.specs.FileName.{name_of}
use Rattle.file_names.specs.declared.file_name.FileName.TheVariants as file
use Rattle.table_props.specs.PropsTexts.{read_props}
use Rattle.table_history.specs.Tables.{Table}

abbrev pub properties_name : Table → List ℕ
properties_name A = name_of A.props.name file.Properties

-- it is there, and reads as the properties of the table
abbrev pub PropertiesFile : FileMap → Table → Type 0
PropertiesFile image A = IsSomeAnd (get image (properties_name A)) (λ bytes. read_props bytes ≡ Ok A.props)
