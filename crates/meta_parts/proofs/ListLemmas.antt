-- Reading the items of an array one after another, as a loop does.
use Rattle.std.proofs.Common.{List, ◌++◌, Option, option_map}
use Rattle.serde_json.specs.Data.{Data, Items}
use Rattle.meta_parts.specs.Members.{all_of}

-- the values that were found, and those of the items that are left
abbrev pub all_from : {A : Type 0} → (Data → Option A) → List A → Items → Option (List A)
all_from reads found ds = option_map (λ xs. found ++ xs) (all_of reads ds)
