-- Files that are made of entries, as a tree has them, and files that operations make.
use Rattle.std.proofs.Common.{◌≡◌, ℕ, zero, suc, ◌<◌, Bool, true, false, T, cond, ◌&&◌, List, [], ◌∷◌, ◌++◌, length, map, slice_index_or, Option, Some, None, unwrap_or, refl, sym, ◌∙◌, ap, subst, arith, add-one}
use Rattle.std.specs.declared.cmp.Ordering.{Ordering}
use Rattle.std.specs.declared.cmp.Ordering.TheVariants.{Less, Equal, Greater}
use Rattle.std.specs.Ordering.{nat_cmp, is_lt, ordering_reverse}
use Rattle.std.specs.Cmp.{eq_by_cmp_equiv}
use Rattle.std.specs.Cmp.Lexicographic.{slice_cmp, nat_list_cmp_total}
use Rattle.std.specs.BTreeMap.{is_at}
use Rattle.std.specs.List.{AllByRecursion}
use Rattle.std.specs.List.Sorted.{IsStrictlySortedBy, IsSortedByKey}
use Rattle.std.specs.Map.{lookup, keys_of}
use Rattle.std.specs.FinMap.{get, find, insert, remove, entries, entries_sorted, len, from_sorted, same_map, get-insert, get-remove, get-from_entries, get-from_sorted, entries-from_sorted, len-entries}
use Rattle.std.specs.FinMap.Entries.{is_sorted, below_all}
use Rattle.std.proofs.lemmas.Map.Lookups.{exact_bytes}
use Rattle.hudi_base.specs.Files.{FileMap, content, changed, changed_all, sizes}
use Rattle.hudi_base.specs.declared.operation.Operation.{Operation}
use Rattle.hudi_base.specs.declared.store.FileSize.{FileSize}
use Rattle.store_mem.specs.Entries.{files_in}

-- the order of names
abbrev pub by_bytes : List ℕ → List ℕ → Ordering
by_bytes = slice_cmp nat_cmp

-- what a tree's entries have at a name
abbrev pub found_at : List ℕ → List (List ℕ × List ℕ) → Option (List ℕ)
found_at name es = lookup (is_at (by_bytes name)) es

find_found : (es : List (List ℕ × List ℕ)) (name : List ℕ) → find by_bytes name es ≡ found_at name es
find_found [] name = refl
find_found (e ∷ es) name = ap (cond (is_at (by_bytes name) e.0) (Some e.1)) (find_found es name)

pub get_found : (es : List (List ℕ × List ℕ)) (name : List ℕ) → get (files_in es) name ≡ found_at name es
get_found es name = get-from_entries nat_list_cmp_total es name ∙ find_found es name

-- files that differ at one name, where the second has these bytes
one_given : (es fs : List (List ℕ × List ℕ)) (name bytes : List ℕ) → ((q : List ℕ) → found_at q fs ≡ cond (is_at (by_bytes name) q) (Some bytes) (found_at q es)) → files_in fs ≡ insert (files_in es) name bytes
one_given es fs name bytes h = same_map nat_list_cmp_total exact_bytes _ _ (λ q.
    get_found fs q ∙ h q ∙ ap (λ b. cond b (Some bytes) (found_at q es)) ((eq_by_cmp_equiv nat_list_cmp_total).symm name q)
    ∙ sym (get-insert nat_list_cmp_total (files_in es) name bytes q ∙ ap (cond (is_at (by_bytes q) name) (Some bytes)) (get_found es q)))

-- the same, by copies of the name and the bytes
pub copy_given : (es fs : List (List ℕ × List ℕ)) (name bytes : List ℕ) (name' bytes' : List ℕ) → name' ≡ name → bytes' ≡ bytes
    → ((q : List ℕ) → found_at q fs ≡ cond (is_at (by_bytes name') q) (Some bytes') (found_at q es)) → files_in fs ≡ insert (files_in es) name bytes
copy_given es fs name bytes name' bytes' same_name same_bytes h =
    one_given es fs name' bytes' h ∙ (λ i. insert (files_in es) (same_name i) (same_bytes i))

content_found : (es : List (List ℕ × List ℕ)) (name : List ℕ) (o : Option (List ℕ)) → found_at name es ≡ o → content (files_in es) name ≡ unwrap_or o []
content_found es name o h = ap (λ p. unwrap_or p []) (get_found es name ∙ h)

-- a file that had bytes and has more
pub extended : (es fs : List (List ℕ × List ℕ)) (name old more new : List ℕ) → found_at name es ≡ Some old → new ≡ old ++ more
    → ((q : List ℕ) → found_at q fs ≡ cond (is_at (by_bytes name) q) (Some new) (found_at q es)) → files_in fs ≡ insert (files_in es) name (content (files_in es) name ++ more)
extended es fs name old more new had grown h =
    one_given es fs name new h
    ∙ ap (insert (files_in es) name) (grown ∙ ap (λ bytes. bytes ++ more) (sym (content_found es name (Some old) had)))

-- a file that was absent has no bytes
pub absent_content : (es : List (List ℕ × List ℕ)) (name more : List ℕ) → found_at name es ≡ None → content (files_in es) name ++ more ≡ more
absent_content es name more h = ap (λ bytes. bytes ++ more) (content_found es name None h)

-- the same, where the second has none
pub one_taken : (es fs : List (List ℕ × List ℕ)) (name : List ℕ) → ((q : List ℕ) → found_at q fs ≡ cond (is_at (by_bytes name) q) None (found_at q es)) → files_in fs ≡ remove (files_in es) name
one_taken es fs name h = same_map nat_list_cmp_total exact_bytes _ _ (λ q.
    get_found fs q ∙ h q ∙ ap (λ b. cond b None (found_at q es)) ((eq_by_cmp_equiv nat_list_cmp_total).symm name q)
    ∙ sym (get-remove nat_list_cmp_total (files_in es) name q ∙ ap (cond (is_at (by_bytes q) name) None) (get_found es q)))

both : (a b : Bool) → T a → T b → T (a && b)
both true b p q = q
both false b p q = absurd p

below : (x : List ℕ) (es : List (List ℕ × List ℕ)) → AllByRecursion (λ y. by_bytes x y ≡ Less) (keys_of es) → T (below_all by_bytes x es)
below x [] h = tt
below x (e ∷ es) h = both _ _ (subst (λ o. T (is_lt o)) (sym h.0) tt) (below x es h.1)

sorted : (es : List (List ℕ × List ℕ)) → IsStrictlySortedBy by_bytes (keys_of es) → T (is_sorted by_bytes es)
unfolding IsStrictlySortedBy
sorted [] h = tt
sorted (e ∷ es) h = both _ _ (below e.0 es h.0) (sorted es h.1)

-- a tree's entries are those of the files
pub in_order : (es : List (List ℕ × List ℕ)) → IsStrictlySortedBy by_bytes (keys_of es) → entries (files_in es) ≡ es
in_order es h =
    ap entries (same_map nat_list_cmp_total exact_bytes (files_in es) (from_sorted es) (λ q. get-from_entries nat_list_cmp_total es q ∙ sym (get-from_sorted by_bytes es q (sorted es h))))
    ∙ entries-from_sorted by_bytes es (sorted es h)

pub len_in_order : (es : List (List ℕ × List ℕ)) → IsStrictlySortedBy by_bytes (keys_of es) → len (files_in es) ≡ length es
len_in_order es h = len-entries (files_in es) ∙ ap length (in_order es h)

-- one more operation changes what those before it made
pub changed_all-push : (files : FileMap) (operations : List Operation) (operation : Operation) → changed_all files (operations ++ operation ∷ []) ≡ changed (changed_all files operations) operation
changed_all-push files [] operation = refl
changed_all-push files (o ∷ operations) operation = changed_all-push (changed files o) operations operation

-- a file's name and size
abbrev pub size_of : List ℕ × List ℕ → FileSize
size_of file = record { name = file.0; size = length file.1 }

first : (a b : Bool) → T (a && b) → T a
first true b p = tt
first false b p = absurd p

second : (a b : Bool) → T (a && b) → T b
second true b p = p
second false b p = absurd p

less : (o : Ordering) → T (is_lt o) → o ≡ Less
less Less p = refl
less Equal p = absurd p
less Greater p = absurd p

-- of two names the greater isn't also the lesser
never_after : (x y : List ℕ) → T (is_lt (by_bytes x y)) → is_lt (by_bytes y x) ≡ false
never_after x y h = ap is_lt (nat_list_cmp_total.antisymm y x ∙ ap ordering_reverse (less _ h))

-- each size comes after the one before it, by the names
next_rises : (es : List (List ℕ × List ℕ)) → T (is_sorted by_bytes es) → (k : ℕ) (d : FileSize) → suc k < length (map size_of es)
    → is_lt (by_bytes (slice_index_or (map size_of es) (suc k) d).name (slice_index_or (map size_of es) k d).name) ≡ false
next_rises [] h k d b = absurd (omega arith)
next_rises (e ∷ []) h k d b = absurd (omega arith)
next_rises (e ∷ f ∷ es) h zero d b = never_after e.0 f.0 (first _ _ (first _ _ h))
next_rises (e ∷ f ∷ es) h (suc k) d b = next_rises (f ∷ es) (second _ _ h) k d (omega arith)

-- the sizes of files stand in the order of the names
pub sizes_rise : (files : FileMap) → IsSortedByKey (λ file. file.name) by_bytes (sizes files)
sizes_rise files k d low high = rw add-one (next_rises (entries files) (entries_sorted files) k d (omega arith))
