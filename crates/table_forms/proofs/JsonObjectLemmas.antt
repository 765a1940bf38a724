-- JSON objects: reading them, and their members.
use Rattle.std.proofs.Common.{◌≡◌, ℕ, Bool, true, false, List, [], ◌∷◌, map, Some, None, String, Global, Bor, not, string_bytes, refl, ap, ◌∙◌, IsUtf8, cond, ◌||◌, Option, string_cmp, Less, Equal, Greater, true≢false, sym, subst, inl, inr}
use Rattle.std.specs.Prelude.{◌⊎◌, IfSome, option_map}
use Rattle.std.specs.Ordering.{nat_cmp, ordering_reverse}
use Rattle.std.specs.Cmp.Lexicographic.{slice_cmp}
use Rattle.std.specs.List.Sorted.{IsStrictlySortedBy}
use Rattle.std.proofs.lemmas.Cmp.{nat_list_cmp_total, tied_itself}
use Rattle.std.proofs.lemmas.Slice.Eq.{bytes_eq-Decides}
use Rattle.std.proofs.lemmas.Bool.{false_from_ne_true}
use Rattle.std.proofs.lemmas.Str.{IsUtf8-from_is_utf8, is_utf8-from_IsUtf8}
use Rattle.std.specs.List.{find, list_any, AllByRecursion}
use Rattle.std.specs.Map.{keys_of}
use Rattle.std.specs.Str.{is_utf8, bytes_eq}
use Rattle.serde_json.specs.Data.{Data, null, boolean, number, string, array, object, Members}
use Rattle.serde_json.specs.Find.{as_object}
use Rattle.serde_json.specs.View.{members_view}
use Rattle.serde_json.specs.declared.value.Value.{Value}
use Rattle.serde_json.specs.Read.{read}
use Rattle.table_forms.proofs.Lists.{list_any-map, find-by}
use Rattle.table_forms.specs.JsonObjects.{json_of, member_names, names_of_members, least_unknown, IsLeastUnknown}

pub json_of_text : (bytes : List ℕ) → IsUtf8 bytes → json_of bytes ≡ read bytes
unfolding json_of
json_of_text bytes utf8 = rw (is_utf8-from_IsUtf8 bytes utf8) refl

pub json_of_none : (bytes : List ℕ) → ¬ (IsUtf8 bytes) → json_of bytes ≡ None
unfolding json_of
json_of_none bytes none = rw (false_from_ne_true (is_utf8 bytes) (λ passes. none (IsUtf8-from_is_utf8 bytes passes))) refl

pub ruleset reading = (json_of_text, json_of_none)

-- the first of the texts that passes: it stands first, or later
pub find_first : (test : List ℕ → Bool) (names rest : List (String Global)) (name : String Global) → names ≡ name ∷ rest → test (string_bytes name) ≡ true
    → find test (map string_bytes names) ≡ Some (string_bytes name)
find_first test names rest name is passes = rw (is, passes) refl

pub find_later : (test : List ℕ → Bool) (names rest : List (String Global)) (name : String Global) → names ≡ name ∷ rest → test (string_bytes name) ≡ false
    → find test (map string_bytes names) ≡ find test (map string_bytes rest)
find_later test names rest name is fails = rw (is, fails) refl

pub names_of_members-members_view : (entries : List (String Global × Value)) → names_of_members (members_view entries) ≡ map string_bytes (keys_of entries)
names_of_members-members_view [] = refl
names_of_members-members_view (e ∷ entries) = ap (λ names. string_bytes e.0 ∷ names) (names_of_members-members_view entries)

pub member_names-as_object : (value : Data) (members : Members) → as_object value ≡ Some members → member_names value ≡ names_of_members members
member_names-as_object null ms is = cc
member_names-as_object (boolean b) ms is = cc
member_names-as_object (number x) ms is = cc
member_names-as_object (string s) ms is = cc
member_names-as_object (array items) ms is = cc
member_names-as_object (object own) ms is = let same : own ≡ ms = cc in ap names_of_members same

pub member_names-none : (value : Data) → as_object value ≡ None → member_names value ≡ []
member_names-none null is = refl
member_names-none (boolean b) is = refl
member_names-none (number x) is = refl
member_names-none (string s) is = refl
member_names-none (array items) is = refl
member_names-none (object own) is = absurd cc

pub least_unknown-object : (known : List (Bor (List ℕ))) (value : Data) (entries : List (String Global × Value)) → as_object value ≡ Some (members_view entries)
    → least_unknown (map (λ k. k.now) known) value ≡ find (λ name. not (list_any (λ k. bytes_eq k.now name) known)) (map string_bytes (keys_of entries))
unfolding least_unknown
least_unknown-object known value entries is =
    ap (find _) (member_names-as_object value _ is ∙ names_of_members-members_view entries)
    ∙ find-by _ _ _ (λ name. ap not (list_any-map (λ k. bytes_eq k name) (λ k. k.now) known))

pub least_unknown-none : (known : List (List ℕ)) (value : Data) → as_object value ≡ None → least_unknown known value ≡ None
unfolding least_unknown
least_unknown-none known value is = rw (member_names-none value is) refl

-- ---- the first that passes is the least

or_parts : (a b : Bool) → (a || b) ≡ true → (a ≡ true) ⊎ (b ≡ true)
or_parts true b e = inl refl
or_parts false b e = inr e

same_text : (xs : List ℕ) → slice_cmp nat_cmp xs xs ≡ Equal
same_text xs = tied_itself nat_list_cmp_total xs

above_all : (k : String Global) (more : List (String Global)) (other : List ℕ) → AllByRecursion (λ y. string_cmp k y ≡ Less) more → list_any (λ name. bytes_eq name other) (map string_bytes more) ≡ true
    → slice_cmp nat_cmp (string_bytes k) other ≡ Less
above_all k [] other h among = absurd (true≢false (sym among))
above_all k (y ∷ more) other h among = elim (or_parts (bytes_eq (string_bytes y) other) (list_any (λ name. bytes_eq name other) (map string_bytes more)) among) [
  | inl here ↦ subst (λ (bs : List ℕ). slice_cmp nat_cmp (string_bytes k) bs ≡ Less) ((bytes_eq-Decides (string_bytes y) other).0 here) h.0
  | inr later ↦ above_all k more other h.1 later
]

not_less : (a b : List ℕ) → slice_cmp nat_cmp a b ≡ Less → slice_cmp nat_cmp b a ≡ Less → ⊥
not_less a b up down =
    let turned : slice_cmp nat_cmp b a ≡ Greater = nat_list_cmp_total.antisymm b a ∙ ap ordering_reverse up in cc

least_at : (test : List ℕ → Bool) (k : String Global) (more : List (String Global)) (name other : List ℕ) (b : Bool) → test (string_bytes k) ≡ b
    → AllByRecursion (λ y. string_cmp k y ≡ Less) more → cond b (Some (string_bytes k)) (find test (map string_bytes more)) ≡ Some name
    → list_any (λ n. bytes_eq n other) (map string_bytes (k ∷ more)) ≡ true → test other ≡ true
    → (find test (map string_bytes more) ≡ Some name → list_any (λ n. bytes_eq n other) (map string_bytes more) ≡ true → slice_cmp nat_cmp other name ≡ Less → ⊥)
    → slice_cmp nat_cmp other name ≡ Less → ⊥
least_at test k more name other true passes above is among right rest less =
    let first : string_bytes k ≡ name = cc in
    elim (or_parts (bytes_eq (string_bytes k) other) (list_any (λ n. bytes_eq n other) (map string_bytes more)) among) [
      | inl here ↦ let same : string_bytes k ≡ other = (bytes_eq-Decides (string_bytes k) other).0 here in let equal = same_text (string_bytes k) in absurd (cc)
      | inr later ↦ not_less (string_bytes k) other (above_all k more other above later) (subst (λ (bs : List ℕ). slice_cmp nat_cmp other bs ≡ Less) (sym first) less)
    ]
least_at test k more name other false fails above is among right rest less =
    elim (or_parts (bytes_eq (string_bytes k) other) (list_any (λ n. bytes_eq n other) (map string_bytes more)) among) [
      | inl here ↦ absurd (true≢false (sym right ∙ ap test (sym ((bytes_eq-Decides (string_bytes k) other).0 here)) ∙ fails))
      | inr later ↦ rest is later less
    ]

pub find_least : (test : List ℕ → Bool) (ks : List (String Global)) (name other : List ℕ) → IsStrictlySortedBy string_cmp ks → find test (map string_bytes ks) ≡ Some name
    → list_any (λ n. bytes_eq n other) (map string_bytes ks) ≡ true → test other ≡ true → slice_cmp nat_cmp other name ≡ Less → ⊥
unfolding IsStrictlySortedBy
find_least test [] name other sorted is among right less = absurd (true≢false (sym among))
find_least test (k ∷ more) name other sorted is among right less =
    least_at test k more name other (test (string_bytes k)) refl sorted.0 is among right
    (λ is_later among_later. find_least test more name other sorted.1 is_later among_later right) less

pub least_of_map : (known : List (Bor (List ℕ))) (value : Data) (entries : List (String Global × Value)) (found : Option (Bor (List ℕ))) → as_object value ≡ Some (members_view entries)
    → IsStrictlySortedBy string_cmp (keys_of entries)
    → option_map (λ name. name.now) found ≡ find (λ name. not (list_any (λ k. bytes_eq k.now name) known)) (map string_bytes (keys_of entries))
    → IfSome found (λ name. IsLeastUnknown (map (λ k. k.now) known) value name.now)
least_of_map known value entries None is sorted found = tt
least_of_map known value entries (Some name) is sorted found = λ other unknown less.
    let names : member_names value ≡ map string_bytes (keys_of entries) = member_names-as_object value (members_view entries) is ∙ names_of_members-members_view entries in
    let among = sym (ap (list_any (λ n. bytes_eq n other)) names) ∙ unknown.0 in
    let right = sym (ap not (list_any-map (λ k. bytes_eq k other) (λ (k : Bor (List ℕ)). k.now) known)) ∙ unknown.1 in
    find_least (λ n. not (list_any (λ (k : Bor (List ℕ)). bytes_eq k.now n) known)) (keys_of entries) name.now other sorted (sym found) among right less
