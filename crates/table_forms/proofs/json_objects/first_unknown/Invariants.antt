use Rattle.std.proofs.Common.{◌≡◌, map, not, string_bytes}
use Rattle.std.specs.List.{list_any, find}
use Rattle.std.specs.Str.{bytes_eq}
use Rattle.std.specs.BTreeMap.{keys}
use Rattle.table_forms.proofs.json_objects.first_unknown.Given as goal

-- none of the names so far is the one
abbrev pub invariant-loop-name : goal.invariant-loop-name
invariant-loop-name l =
    find (λ name. not (list_any (λ k. bytes_eq k.now name) l.known)) (map string_bytes l.name-iterator)
    ≡ find (λ name. not (list_any (λ k. bytes_eq k.now name) l.known)) (map string_bytes (keys l.members))
