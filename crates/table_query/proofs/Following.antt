-- What some things give, one behind another, and what it makes of a table.
use Rattle.std.proofs.Common.{◌≡◌, ◌<◌, ◌≤◌, ◌+◌, ℕ, List, [], ◌∷◌, ◌++◌, length, map, take, drop, get_or, Result, Ok, Err, refl, sym, ap, ◌∙◌, subst, arith, append_assoc, append-nil, take-append-drop, length-take, length-append, zero, suc}
use Rattle.std.specs.List.{flat_map}
use Rattle.table_history.specs.declared.view.GroupParts.{GroupParts}
use Rattle.std.proofs.lemmas.List.{map-append, take_more}
use Rattle.std.specs.FinMap.{empty}
use Rattle.payload_merge.specs.Fold.{RowTable, table_after, table_after_all}
use Rattle.payload_merge.specs.RowRefs.{write_in}
use Rattle.payload_merge.specs.declared.row.Write.{Write}
use Rattle.payload_merge.specs.declared.row_refs.WriteRef.{WriteRef}
use Rattle.table_query.specs.GroupReading.{followed_by, all_from, one_each, files_in}
use Rattle.table_query.specs.Parts.{Folds, lent_table}

pub none_after : {B E : Type 0} (a : Result (List B) E) → followed_by a (Ok []) ≡ a
none_after (Ok xs) = ap Ok (append-nil xs)
none_after (Err e) = refl

following : {B E : Type 0} (a b c : Result (List B) E) → followed_by (followed_by a b) c ≡ followed_by a (followed_by b c)
following (Err e) b c = refl
following (Ok xs) (Err e) c = refl
following (Ok xs) (Ok ys) (Err e) = refl
following (Ok xs) (Ok ys) (Ok zs) = ap Ok (append_assoc xs ys zs)

-- how far the numbers go
abbrev pub sizes : {A : Type 0} → (A → ℕ) → List A → ℕ
sizes size [] = 0
sizes size (x ∷ xs) = size x + sizes size xs

module _ {A B E : Type 0} (size : A → ℕ) (gives : ℕ → A → Result (List B) E) where
  one_by_one : (n : ℕ) (xs ys : List A) → all_from size gives n (xs ++ ys) ≡ followed_by (all_from size gives n xs) (all_from size gives (n + sizes size xs) ys)
  one_by_one n [] ys =
      let e : n ≡ n + 0 = omega arith in
      ap (λ (k : ℕ). all_from size gives k ys) e ∙ sym (start (all_from size gives (n + 0) ys))
    where
      start : (r : Result (List B) E) → followed_by (Ok []) r ≡ r
      start (Ok xs) = refl
      start (Err e) = refl
  one_by_one n (x ∷ xs) ys =
      let e : (n + size x) + sizes size xs ≡ n + (size x + sizes size xs) = omega arith in
      ap (followed_by (gives n x)) (one_by_one (n + size x) xs ys)
      ∙ sym (following (gives n x) (all_from size gives (n + size x) xs) (all_from size gives ((n + size x) + sizes size xs) ys))
      ∙ ap (λ (k : ℕ). followed_by (followed_by (gives n x) (all_from size gives (n + size x) xs)) (all_from size gives k ys)) e

  -- one more
  pub one_more : (n i : ℕ) (xs : List A) (x : A) → i < length xs → x ≡ get_or xs i x
      → all_from size gives n (take (i + 1) xs) ≡ followed_by (all_from size gives n (take i xs)) (gives (n + sizes size (take i xs)) x)
  one_more n i xs x within is =
      let more : take (i + 1) xs ≡ take i xs ++ x ∷ [] = take_more xs i x within ∙ ap (λ (y : A). take i xs ++ y ∷ []) (sym is) in
      ap (all_from size gives n) more ∙ one_by_one n (take i xs) (x ∷ [])
      ∙ ap (followed_by (all_from size gives n (take i xs))) (none_after (gives (n + sizes size (take i xs)) x))

  -- an error in the first ones is that of all
  pub error_in_front : (n i : ℕ) (xs : List A) (e : E) → all_from size gives n (take i xs) ≡ Err e → all_from size gives n xs ≡ Err e
  error_in_front n i xs e wrong =
      ap (all_from size gives n) (sym (take-append-drop i xs)) ∙ one_by_one n (take i xs) (drop i xs)
      ∙ ap (λ (r : Result (List B) E). followed_by r (all_from size gives (n + sizes size (take i xs)) (drop i xs))) wrong

pub sizes-one : {A : Type 0} (size : A → ℕ) (one : (x : A) → size x ≡ 1) (xs : List A) → sizes size xs ≡ length xs
sizes-one size one [] = refl
sizes-one size one (x ∷ xs) = let first = one x in let rest = sizes-one size one xs in omega (arith, first, rest)

-- ---- tables

pub after_two : (xs ys : List Write) (table : RowTable) → table_after_all table (xs ++ ys) ≡ table_after_all (table_after_all table xs) ys
after_two [] ys table = refl
after_two (x ∷ xs) ys table = after_two xs ys (table_after table x)

-- one write more
pub one_write : (xs : List Write) (x : Write) (table : RowTable) → table_after_all table (xs ++ x ∷ []) ≡ table_after (table_after_all table xs) x
one_write xs x table = after_two xs (x ∷ []) table

-- borrowed writes behind others
pub lent_more : (partition : List ℕ) (xs ys : List WriteRef) → lent_table partition (xs ++ ys) ≡ table_after_all (lent_table partition xs) (map (write_in partition) ys)
lent_more partition xs ys =
    ap (table_after_all empty) (map-append (write_in partition) xs ys) ∙ after_two (map (write_in partition) xs) (map (write_in partition) ys) empty

pub folded_on : {E : Type 0} (a b : Result (List Write) E) (old middle new : RowTable) → Folds a old middle → Folds b middle new → Folds (followed_by a b) old new
folded_on (Err e) b old middle new first then = absurd first
folded_on (Ok xs) (Err e) old middle new first then = absurd then
folded_on (Ok xs) (Ok ys) old middle new first then =
    then ∙ ap (λ (table : RowTable). table_after_all table ys) first ∙ sym (after_two xs ys old)

-- a fold of the first ones says that they have no error
pub error_behind : {E : Type 0} (a b : Result (List Write) E) (old new : RowTable) (e : E) → Folds a old new → b ≡ Err e → followed_by a b ≡ Err e
error_behind (Err d) b old new e first wrong = absurd first
error_behind (Ok xs) b old new e first wrong = ap (followed_by (Ok xs)) wrong

pub folded_as : {E : Type 0} (a b : Result (List Write) E) (old new : RowTable) → a ≡ b → Folds b old new → Folds a old new
folded_as {E = E} a b old new same folds = let P : Result (List Write) E → Type 0 = λ r. Folds r old new in subst P (sym same) folds

-- what one more gives
module _ {A E : Type 0} (size : A → ℕ) (gives : ℕ → A → Result (List Write) E) where
  pub folds_more : (i number : ℕ) (xs : List A) (x : A) (old middle new : RowTable) → i < length xs → x ≡ get_or xs i x → number ≡ sizes size (take i xs)
      → Folds (all_from size gives 0 (take i xs)) old middle → Folds (gives number x) middle new → Folds (all_from size gives 0 (take (i + 1) xs)) old new
  folds_more i number xs x old middle new within is so_far before one =
      let P : ℕ → Type 0 = λ n. Folds (gives n x) middle new in
      let e : number ≡ 0 + sizes size (take i xs) = omega (arith, so_far) in
      folded_as _ _ old new (one_more size gives 0 i xs x within is) (folded_on _ _ old middle new before (subst P e one))

  pub stops : (i number : ℕ) (xs : List A) (x : A) (old middle : RowTable) (e : E) → i < length xs → x ≡ get_or xs i x → number ≡ sizes size (take i xs)
      → Folds (all_from size gives 0 (take i xs)) old middle → gives number x ≡ Err e → all_from size gives 0 xs ≡ Err e
  stops i number xs x old middle e within is so_far before wrong =
      let at : number ≡ 0 + sizes size (take i xs) = omega (arith, so_far) in
      error_in_front size gives 0 (i + 1) xs e
      (one_more size gives 0 i xs x within is ∙ error_behind _ _ old middle e before (ap (λ (n : ℕ). gives n x) (sym at) ∙ wrong))

  pub sizes_more : (i : ℕ) (xs : List A) (x : A) → i < length xs → x ≡ get_or xs i x → sizes size (take (i + 1) xs) ≡ sizes size (take i xs) + size x
  sizes_more i xs x within is =
      let more : take (i + 1) xs ≡ take i xs ++ x ∷ [] = take_more xs i x within ∙ ap (λ (y : A). take i xs ++ y ∷ []) (sym is) in
      ap (sizes size) more ∙ joined (take i xs)
    where
      joined : (ys : List A) → sizes size (ys ++ x ∷ []) ≡ sizes size ys + size x
      joined [] = omega arith
      joined (y ∷ ys) = let rest = joined ys in omega (arith, rest)

-- what is folded of the first ones, where each has the number of those before it
pub numbers : {A : Type 0} (i : ℕ) (xs : List A) → i ≤ length xs → i ≡ sizes one_each (take i xs)
numbers {A = A} i xs within =
    let long : length (take i xs) ≡ i = omega (arith, length-take i xs, within) in
    sym (sizes-one (one_each {A = A}) (λ x. refl) (take i xs) ∙ long)

-- ---- lists of one kind

module _ {A B E : Type 0} (gives : ℕ → A → Result (List B) E) where
  pub stops_after : (first i : ℕ) (xs : List A) (x : A) (ys : List B) (e : E) → i < length xs → x ≡ get_or xs i x → all_from one_each gives first (take i xs) ≡ Ok ys → gives (first + i) x ≡ Err e
      → all_from one_each gives first xs ≡ Err e
  stops_after first i xs x ys e within is before wrong =
      let at : first + sizes one_each (take i xs) ≡ first + i = ap (λ (n : ℕ). first + n) (sym (numbers i xs (omega arith))) in
      error_in_front one_each gives first (i + 1) xs e
      (one_more one_each gives first i xs x within is
      ∙ ap (λ (r : Result (List B) E). followed_by r (gives (first + sizes one_each (take i xs)) x)) before
      ∙ ap (followed_by (Ok ys)) (ap (λ (n : ℕ). gives n x) at ∙ wrong))

  pub gives_more : (first i : ℕ) (xs : List A) (x : A) (ys zs : List B) → i < length xs → x ≡ get_or xs i x → all_from one_each gives first (take i xs) ≡ Ok ys → gives (first + i) x ≡ Ok zs
      → all_from one_each gives first (take (i + 1) xs) ≡ Ok (ys ++ zs)
  gives_more first i xs x ys zs within is before one =
      let at : first + sizes one_each (take i xs) ≡ first + i = ap (λ (n : ℕ). first + n) (sym (numbers i xs (omega arith))) in
      one_more one_each gives first i xs x within is
      ∙ ap (λ (r : Result (List B) E). followed_by r (gives (first + sizes one_each (take i xs)) x)) before
      ∙ ap (followed_by (Ok ys)) (ap (λ (n : ℕ). gives n x) at ∙ one)

-- an element doesn't depend on what would stand behind the end
pub same_at : {A : Type 0} (xs : List A) (i : ℕ) (d e : A) → i < length xs → get_or xs i d ≡ get_or xs i e
same_at [] i d e within = absurd (omega arith)
same_at (x ∷ xs) zero d e within = refl
same_at (x ∷ xs) (suc i) d e within = same_at xs i d e (omega arith)

-- ---- files

pub files_count : (groups : List GroupParts) → sizes files_in groups ≡ length (flat_map (λ g. g.parts) groups)
files_count [] = refl
files_count (g ∷ groups) = let rest = files_count groups in omega (arith, rest, length-append g.parts (flat_map (λ h. h.parts) groups))

sizes_take : {A : Type 0} (size : A → ℕ) (n : ℕ) (xs : List A) → sizes size (take n xs) ≤ sizes size xs
sizes_take size zero xs = omega arith
sizes_take size (suc n) [] = omega arith
sizes_take size (suc n) (x ∷ xs) = let rest = sizes_take size n xs in omega (arith, rest)

pub sizes_front : {A : Type 0} (size : A → ℕ) (i : ℕ) (xs : List A) (x : A) → i < length xs → x ≡ get_or xs i x → sizes size (take i xs) + size x ≤ sizes size xs
sizes_front {A = A} size i xs x within is =
    let all = sizes_take size (i + 1) xs in
    let more = sizes_more {A = A} {E = ℕ} size (λ n y. Ok []) i xs x within is in
    omega (arith, all, more)
