-- Lists of files, one more at a time.
use Rattle.std.proofs.Common.{◌≡◌, ℕ, ◌+◌, ◌<◌, List, [], ◌∷◌, ◌++◌, length, get_or, take, sym, ap, ◌∙◌}
use Rattle.std.specs.List.{filter_map}
use Rattle.std.proofs.lemmas.List.{take_more}
use Rattle.std.proofs.lemmas.List.Elements.{filter_map-append}
use Rattle.file_names.specs.declared.file_name.FileName.{FileName}
use Rattle.file_groups.specs.Names.{name_if_named, names_of}
use Rattle.file_groups.specs.Views.{log_part, log_parts}

pub names_more : (table : List ℕ) (files : List (FileName × ℕ)) (i : ℕ) (f : FileName × ℕ) → i < length files → f ≡ get_or files i f
    → names_of table (take (i + 1) files) ≡ names_of table (take i files) ++ filter_map (name_if_named table) (f.0 ∷ [])
names_more table files i f below is =
    ap (names_of table) (take_more files i f below)
    ∙ filter_map-append (λ (e : FileName × ℕ). name_if_named table e.0) (take i files) (get_or files i f ∷ [])
    ∙ ap (λ (e : FileName × ℕ). names_of table (take i files) ++ filter_map (name_if_named table) (e.0 ∷ [])) (sym is)

pub logs_more : (table : List ℕ) (files : List (FileName × ℕ)) (i : ℕ) (f : FileName × ℕ) → i < length files → f ≡ get_or files i f
    → log_parts table (take (i + 1) files) ≡ log_parts table (take i files) ++ log_parts table (f ∷ [])
logs_more table files i f below is =
    ap (log_parts table) (take_more files i f below)
    ∙ filter_map-append (λ (e : FileName × ℕ). log_part table e.0 e.1) (take i files) (get_or files i f ∷ [])
    ∙ ap (λ (e : FileName × ℕ). log_parts table (take i files) ++ log_parts table (e ∷ [])) (sym is)
