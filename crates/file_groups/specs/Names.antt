-- How the names of files are looked up: only private clauses speak of these definitions.
use Rattle.std.specs.Prelude.{ℕ, Bool, List, Option, Some, None}
use Rattle.std.specs.List.{filter_map, list_any}
use Rattle.std.specs.Str.{bytes_eq}
use Rattle.std.specs.List.Sorted.{IsPermutation, IsSorted}
use Rattle.std.specs.Ordering.{nat_cmp}
use Rattle.std.specs.Cmp.Lexicographic.{slice_cmp}
use Rattle.file_names.specs.FileName.{name_of}
use Rattle.file_names.specs.declared.file_name.FileName.{FileName}
use Rattle.file_names.specs.declared.file_name.FileName.TheVariants.{Other}

-- the name of a file that has one
abbrev pub name_if_named : List ℕ → FileName → Option (List ℕ)
name_if_named table Other = None
name_if_named table file = Some (name_of table file)

abbrev pub names_of : List ℕ → List (FileName × ℕ) → List (List ℕ)
names_of table files = filter_map (λ f. name_if_named table f.0) files

-- one of the names is this one
abbrev pub has_name : List (List ℕ) → List ℕ → Bool
has_name names name = list_any (λ other. bytes_eq other name) names

-- the names of the files, in order
pub record IsNameTable (table : List ℕ) (files : List (FileName × ℕ)) (names : List (List ℕ)) : Type 0 where
  pub all : IsPermutation (names_of table files) names
  pub order : IsSorted (slice_cmp nat_cmp) names
