-- Varints: groups of seven bits, and what is written and read of them.
use Rattle.std.proofs.Common.{◌≡◌, ℕ, zero, suc, ◌+◌, ◌-◌, ◌*◌, ◌/◌, ◌%◌, ◌^◌, ◌<◌, ◌≤◌, ℤ, pos, negsuc, Bool, true, false, cond, ltb, inl, inr, List, [], ◌∷◌, ◌++◌, get_or, length, take, drop, Option, Some, None, Result, Ok, Err, refl, sym, ap, subst, ◌∙◌, arith}
use Rattle.std.specs.Prelude.{◌↔◌, FitsSigned}
use Rattle.std.specs.Int.{w16, w32, w64}
use Rattle.std.proofs.lemmas.Int.{ints}
use Rattle.std.specs.List.{position, position_or_len}
use Rattle.std.proofs.Math.Nat.{pow-suc, pow-le-pow_right}
use Rattle.std.proofs.lemmas.List.{length-append, length-take, take_at, take_all, drop_at, take-append-drop, take-append-le, drop-append-le}
use Rattle.std.proofs.lemmas.Bool.{cases_lt, lt-ltb, le-ltb, ltb-true, eq-eqb, ne_eqb, cond-true, cond-false}
use Rattle.std.proofs.lemmas.Option.{cond_some}
use Rattle.byte_fields.specs.declared.field_error.FieldError.{FieldError}
use Rattle.byte_fields.specs.declared.field_error.FieldError.TheVariants.{Short, Bad}
use Rattle.byte_fields.specs.Reading.{Reading, ◌>>=◌, only_if, IsSettled, with_more, Settles}
use Rattle.byte_fields.specs.Varints.{groups_of, varint, groups_number, is_last, IsGroups, IsGroupsFrom, IsVarint, EndsInside, groups_to, groups_at, varint_at, zigzag, unzigzag, zigzag_at}
use Rattle.byte_fields.proofs.ReadingLemmas.{bind_is, only_if_is, bind-Ok, only_if-Ok, read_once, Settles-only_if, Settles-map}

-- ---- written groups

-- the bound of one more group
pow-128 : (k : ℕ) → 128 ^ suc k ≡ 128 * 128 ^ k
pow-128 k = omega (arith, pow-suc 128 k)

-- one group
pub groups_of-one : (k n : ℕ) → n < 128 → groups_of (suc k) n ≡ n ∷ []
unfolding groups_of
groups_of-one k n small = cond-true (ltb n 128) (n ∷ []) _ (lt-ltb n 128 small)

-- a group and others
pub groups_of-more : (k n : ℕ) → 128 ≤ n → groups_of (suc k) n ≡ (128 + n % 128) ∷ groups_of k (n / 128)
unfolding groups_of
groups_of-more k n large = cond-false (ltb n 128) (n ∷ []) _ (le-ltb n 128 large)

-- room for more groups changes nothing
pub groups_of-suc : (k n : ℕ) → n < 128 ^ suc k → groups_of (suc (suc k)) n ≡ groups_of (suc k) n
groups_of-suc zero n below = let small : n < 128 = omega arith in groups_of-one 1 n small ∙ sym (groups_of-one 0 n small)
groups_of-suc (suc k) n below =
    elim (cases_lt n 128) [
      | inl small ↦ groups_of-one (suc (suc k)) n small ∙ sym (groups_of-one (suc k) n small)
      | inr large ↦
          let rest : groups_of (suc (suc k)) (n / 128) ≡ groups_of (suc k) (n / 128) = groups_of-suc k (n / 128) (omega (arith, pow-128 (suc k))) in
          groups_of-more (suc (suc k)) n large ∙ ap (λ (t : List ℕ). (128 + n % 128) ∷ t) rest ∙ sym (groups_of-more (suc k) n large)
    ]

-- a group before others
pub IsGroups-cons : (x : ℕ) (xs : List ℕ) → 128 ≤ x → IsGroups xs → IsGroups (x ∷ xs)
IsGroups-cons x [] more groups = absurd groups
IsGroups-cons x (y ∷ ys) more groups = (more, groups)

pub IsGroups-groups_of : (k n : ℕ) → n < 128 ^ suc k → IsGroups (groups_of (suc k) n)
IsGroups-groups_of zero n below = let small : n < 128 = omega arith in subst IsGroups (sym (groups_of-one 0 n small)) small
IsGroups-groups_of (suc k) n below =
    elim (cases_lt n 128) [
      | inl small ↦ subst IsGroups (sym (groups_of-one (suc k) n small)) small
      | inr large ↦ subst IsGroups (sym (groups_of-more (suc k) n large)) (IsGroups-cons (128 + n % 128) (groups_of (suc k) (n / 128)) (omega arith) (IsGroups-groups_of k (n / 128) (omega (arith, pow-128 (suc k)))))
    ]

pub groups_number-one : (n : ℕ) → n < 128 → groups_number (n ∷ []) ≡ n
unfolding groups_number
groups_number-one n small = omega arith

pub groups_number-cons : (x : ℕ) (xs : List ℕ) → groups_number (x ∷ xs) ≡ x % 128 + 128 * groups_number xs
unfolding groups_number
groups_number-cons x xs = refl

pub groups_number-groups_of : (k n : ℕ) → n < 128 ^ suc k → groups_number (groups_of (suc k) n) ≡ n
groups_number-groups_of zero n below = let small : n < 128 = omega arith in ap groups_number (groups_of-one 0 n small) ∙ groups_number-one n small
groups_number-groups_of (suc k) n below =
    elim (cases_lt n 128) [
      | inl small ↦ ap groups_number (groups_of-one (suc k) n small) ∙ groups_number-one n small
      | inr large ↦
          let rest : groups_number (groups_of (suc k) (n / 128)) ≡ n / 128 = groups_number-groups_of k (n / 128) (omega (arith, pow-128 (suc k))) in
          let first : (128 + n % 128) % 128 ≡ n % 128 = omega arith in
          ap groups_number (groups_of-more (suc k) n large) ∙ groups_number-cons (128 + n % 128) (groups_of (suc k) (n / 128)) ∙ omega arith
    ]

pub length-groups_of : (k n : ℕ) → length (groups_of k n) ≤ k
unfolding groups_of
length-groups_of zero n = omega arith
length-groups_of (suc k) n =
    elim (cases_lt n 128) [
      | inl small ↦ omega (arith, ap length (groups_of-one k n small))
      | inr large ↦ omega (arith, ap length (groups_of-more k n large), length-groups_of k (n / 128))
    ]

-- no groups of the number are fewer
pub groups_of-least : (x : ℕ) (xs : List ℕ) (k : ℕ) → IsGroupsFrom x xs → length xs ≤ k → length (groups_of (suc k) (groups_number (x ∷ xs))) ≤ suc (length xs)
groups_of-least x [] k last room = omega (arith, ap length (groups_of-one k (groups_number (x ∷ [])) (omega (arith, groups_number-one x last))), groups_number-one x last)
groups_of-least x (y ∷ ys) zero groups room = absurd (omega arith)
groups_of-least x (y ∷ ys) (suc k) groups room =
    let n = groups_number (x ∷ y ∷ ys) in
    let m = groups_number (y ∷ ys) in
    let e : n ≡ x % 128 + 128 * m = groups_number-cons x (y ∷ ys) in
    elim (cases_lt n 128) [
      | inl small ↦ omega (arith, ap length (groups_of-one (suc k) n small))
      | inr large ↦
          let rest : n / 128 ≡ m = omega arith in
          omega (arith, ap length (groups_of-more (suc k) n large), ap (λ (j : ℕ). length (groups_of (suc k) j)) rest, groups_of-least y ys k groups.1 (omega arith))
    ]

-- ---- where a varint ends

pub position_or_len-groups : (x : ℕ) (xs rest : List ℕ) (k : ℕ) → IsGroupsFrom x xs → length xs < k → position_or_len is_last (take k (x ∷ (xs ++ rest))) ≡ length xs
position_or_len-groups x xs rest zero groups room = absurd (omega arith)
position_or_len-groups x [] rest (suc k) last room = rw (lt-ltb x 128 last) refl
position_or_len-groups x (y ∷ ys) rest (suc k) groups room =
    rw (le-ltb x 128 groups.0, position_or_len-groups y ys rest k groups.1 (omega arith)) (omega arith)

pub IsGroups-position : (x : ℕ) (xs : List ℕ) (k : ℕ) → position_or_len is_last (take k (x ∷ xs)) < length (take k (x ∷ xs)) → IsGroupsFrom x (take (position_or_len is_last (take k (x ∷ xs))) xs)
IsGroups-position x xs zero within = absurd (omega arith)
IsGroups-position x [] (suc k) within =
    elim (cases_lt x 128) [
      | inl small ↦ rw (lt-ltb x 128 small) small
      | inr large ↦ absurd (omega (arith, length-take {A = ℕ} k [], rw (le-ltb x 128 large) at within))
    ]
IsGroups-position x (y ∷ ys) (suc k) within =
    elim (cases_lt x 128) [
      | inl small ↦ rw (lt-ltb x 128 small) small
      | inr large ↦
          let rest = position_or_len is_last (take k (y ∷ ys)) in
          let inner : rest < length (take k (y ∷ ys)) = omega (arith, rw (le-ltb x 128 large) at within) in
          let next : 1 + rest ≡ suc rest = omega arith in
          rw (le-ltb x 128 large) (subst (λ (j : ℕ). IsGroupsFrom x (take j (y ∷ ys))) (sym next) (large, IsGroups-position y ys k inner))
    ]

-- the offset of the last byte of groups
pub position-groups : (x : ℕ) (xs rest : List ℕ) → IsGroupsFrom x xs → length xs < 10 → position is_last (take 10 (x ∷ (xs ++ rest))) ≡ Some (length xs)
position-groups x xs rest groups room =
    let bytes : List ℕ = x ∷ (xs ++ rest) in
    let first : List ℕ = take 10 bytes in
    let at : position_or_len is_last first ≡ length xs = position_or_len-groups x xs rest 10 groups room in
    let within : length xs < length first = omega (arith, length-take 10 bytes, length-append xs rest) in
    cond-true (ltb (position_or_len is_last first) (length first)) (Some (position_or_len is_last first)) None (lt-ltb _ _ (omega arith)) ∙ ap Some at

-- ---- reading groups

pub groups_at_again : (groups rest : List ℕ) → IsGroups groups → length groups ≤ 10 → groups_at (groups ++ rest) ≡ Ok (groups, rest)
unfolding groups_at
groups_at_again [] rest groups room = absurd groups
groups_at_again (x ∷ xs) rest groups room =
    let bytes : List ℕ = (x ∷ xs) ++ rest in
    let len : length (x ∷ xs) ≡ length xs + 1 = omega arith in
    let front : take (length xs + 1) bytes ≡ x ∷ xs = take_at (x ∷ xs) rest (length xs + 1) len in
    let back : drop (length xs + 1) bytes ≡ rest = drop_at (x ∷ xs) rest (length xs + 1) len in
    ap (λ (o : Option ℕ). groups_to o bytes) (position-groups x xs rest groups (omega arith)) ∙ rw (front, back) refl

-- one of two errors is no value
not_read : {A : Type 0} (b : Bool) (x y : FieldError) (p : A) → cond b (Err x) (Err y) ≡ Ok p → ⊥
not_read true x y p e = cc
not_read false x y p e = cc

-- what was taken where groups were read
pub record TakesGroups (bytes groups rest : List ℕ) : Type 0 where
  pub parts : bytes ≡ groups ++ rest
  pub is_groups : IsGroups groups
  pub at_most_ten : length groups ≤ 10

pub groups_at_took : (bytes groups rest : List ℕ) → groups_at bytes ≡ Ok (groups, rest) → TakesGroups bytes groups rest
unfolding groups_at
groups_at_took bytes groups rest e = from (position is_last (take 10 bytes)) refl e
  where
    is_prefix : (bytes : List ℕ) → position_or_len is_last (take 10 bytes) < length (take 10 bytes) → IsGroups (take (position_or_len is_last (take 10 bytes) + 1) bytes)
    is_prefix [] within = absurd (omega arith)
    is_prefix (x ∷ xs) within =
        let last = position_or_len is_last (take 10 (x ∷ xs)) in
        let next : last + 1 ≡ suc last = omega arith in
        subst (λ (j : ℕ). IsGroups (take j (x ∷ xs))) (sym next) (IsGroups-position x xs 10 within)

    from : (o : Option ℕ) → position is_last (take 10 bytes) ≡ o → groups_to o bytes ≡ Ok (groups, rest) → TakesGroups bytes groups rest
    from (Some last) at told =
        let first : List ℕ = take 10 bytes in
        let parts = cond_some (ltb (position_or_len is_last first) (length first)) (position_or_len is_last first) last at in
        let within : position_or_len is_last first < length first = ltb-true _ _ parts.0 in
        let same = read_once (take (last + 1) bytes, drop (last + 1) bytes) (groups, rest) (groups_to (Some last) bytes) refl told in
        let front : take (last + 1) bytes ≡ groups = ap (λ (p : List ℕ × List ℕ). p.0) same in
        let back : drop (last + 1) bytes ≡ rest = ap (λ (p : List ℕ × List ℕ). p.1) same in
        record {
          parts = sym (take-append-drop (last + 1) bytes) ∙ ap (λ (t : List ℕ). t ++ drop (last + 1) bytes) front ∙ ap (λ (t : List ℕ). groups ++ t) back;
          is_groups = subst IsGroups front (subst (λ (j : ℕ). IsGroups (take (j + 1) bytes)) parts.1 (is_prefix bytes within));
          at_most_ten = omega (arith, length-take (last + 1) bytes, length-take 10 bytes, ap length front, parts.1);
        }
    from None at told = absurd (not_read (ltb (length bytes) 10) (Short (length bytes)) (Bad (length bytes)) (groups, rest) told)

-- ---- reading varints

pub varint_at_again : (w : ℕ) (groups rest : List ℕ) (n : ℕ) → IsVarint groups n → n < 2 ^ w → varint_at w (groups ++ rest) ≡ Ok (n, rest)
unfolding varint_at
varint_at_again w groups rest n is small =
    let bytes : List ℕ = groups ++ rest in
    bind_is (groups_at bytes) (groups, rest) (λ found. only_if (ltb (groups_number found.0) (2 ^ w)) bytes (groups_number found.0, found.1)) (groups_at_again groups rest is.groups is.at_most_ten)
    ∙ only_if_is (ltb (groups_number groups) (2 ^ w)) bytes (groups_number groups, rest) (lt-ltb _ _ (rw is.number small))
    ∙ ap (λ (k : ℕ). Ok (k, rest)) is.number

-- what was taken where a varint was read
pub record TakesVarint (w : ℕ) (bytes : List ℕ) (n : ℕ) (rest : List ℕ) : Type 0 where
  pub groups : List ℕ
  pub parts : bytes ≡ groups ++ rest
  pub is_groups : IsGroups groups
  pub at_most_ten : length groups ≤ 10
  pub number : groups_number groups ≡ n
  pub below : n < 2 ^ w

pub varint_at_took : (w : ℕ) (bytes : List ℕ) (n : ℕ) (rest : List ℕ) → varint_at w bytes ≡ Ok (n, rest) → TakesVarint w bytes n rest
unfolding varint_at
varint_at_took w bytes n rest e =
    let first = bind-Ok (groups_at bytes) (λ found. only_if (ltb (groups_number found.0) (2 ^ w)) bytes (groups_number found.0, found.1)) (n, rest) e in
    let groups : List ℕ = first.0.0 in
    let after : List ℕ = first.0.1 in
    let taken = groups_at_took bytes groups after first.1 in
    let passed = only_if-Ok (ltb (groups_number groups) (2 ^ w)) bytes (groups_number groups, after) (n, rest) first.2 in
    let number : groups_number groups ≡ n = ap (λ (p : ℕ × List ℕ). p.0) passed.1 in
    let same : after ≡ rest = ap (λ (p : ℕ × List ℕ). p.1) passed.1 in
    record {
      groups = groups;
      parts = taken.parts ∙ ap (λ (t : List ℕ). groups ++ t) same;
      is_groups = taken.is_groups;
      at_most_ten = taken.at_most_ten;
      number = number;
      below = subst (λ (k : ℕ). k < 2 ^ w) number (ltb-true _ _ passed.0);
    }

-- ---- the written form

pub IsVarint-varint : (n : ℕ) → n < 2 ^ 64 → IsVarint (varint n) n
unfolding varint
IsVarint-varint n below = record {
  groups = IsGroups-groups_of 9 n (omega arith);
  at_most_ten = length-groups_of 10 n;
  number = groups_number-groups_of 9 n (omega arith);
  below = below;
}

pub varint_again : (w n : ℕ) (rest : List ℕ) → n < 2 ^ 64 → n < 2 ^ w → varint_at w (varint n ++ rest) ≡ Ok (n, rest)
varint_again w n rest below small = varint_at_again w (varint n) rest n (IsVarint-varint n below) small

-- two written forms at the beginning of the same bytes are one
pub varint-append : (m n : ℕ) (x y : List ℕ) → m < 2 ^ 64 → n < 2 ^ 64 → varint m ++ x ≡ varint n ++ y → (m ≡ n) × (x ≡ y)
varint-append m n x y m_below n_below e =
    let same = read_once (m, x) (n, y) (varint_at 64 (varint m ++ x)) (varint_again 64 m x m_below m_below) (ap (varint_at 64) e ∙ varint_again 64 n y n_below n_below) in
    (ap (λ (p : ℕ × List ℕ). p.0) same, ap (λ (p : ℕ × List ℕ). p.1) same)

-- the written form is the shortest
pub varint-least : (groups : List ℕ) (n : ℕ) → IsVarint groups n → length (varint n) ≤ length groups
unfolding varint
varint-least [] n is = absurd is.groups
varint-least (x ∷ xs) n is =
    omega (arith, ap (λ (k : ℕ). length (groups_of 10 k)) is.number, groups_of-least x xs 9 is.groups (omega (arith, is.at_most_ten)))

-- the steps in which it is written
pub varint-one : (n : ℕ) → n < 128 → varint n ≡ n ∷ []
unfolding varint
varint-one n small = groups_of-one 9 n small

pub varint-more : (n : ℕ) → 128 ≤ n → n < 2 ^ 64 → varint n ≡ (128 + n % 128) ∷ varint (n / 128)
unfolding varint
varint-more n large below =
    groups_of-more 9 n large ∙ ap (λ (t : List ℕ). (128 + n % 128) ∷ t) (sym (groups_of-suc 8 (n / 128) (omega arith)))

pub length-varint : (n : ℕ) → length (varint n) ≤ 10
unfolding varint
length-varint n = length-groups_of 10 n

pub length-varint_pos : (n : ℕ) → 0 < length (varint n)
unfolding varint
length-varint_pos n =
    elim (cases_lt n 128) [
      | inl small ↦ omega (arith, ap length (groups_of-one 9 n small))
      | inr large ↦ omega (arith, ap length (groups_of-more 9 n large))
    ]

-- ---- narrower varints

-- the last step of reading a varint
abbrev number_in : ℕ → List ℕ → List ℕ × List ℕ → Reading ℕ
number_in w bytes g = only_if (ltb (groups_number g.0) (2 ^ w)) bytes (groups_number g.0, g.1)

-- a varint of fewer bits is one of 64 bits whose number fits
pub varint_at-narrow : (w : ℕ) (bytes : List ℕ) → 2 ^ w ≤ 2 ^ 64 → varint_at w bytes ≡ (varint_at 64 bytes >>= λ found. only_if (ltb found.0 (2 ^ w)) bytes found)
unfolding varint_at
varint_at-narrow w bytes le = step (groups_at bytes)
  where
    step : (r : Reading (List ℕ)) → (r >>= number_in w bytes) ≡ ((r >>= number_in 64 bytes) >>= λ found. only_if (ltb found.0 (2 ^ w)) bytes found)
    step (Ok g) =
        let n = groups_number g.0 in
        elim (cases_lt n (2 ^ w)) [
          | inl small ↦ rw (lt-ltb n (2 ^ 64) (omega arith)) refl
          | inr large ↦ elim (cases_lt n (2 ^ 64)) [
            | inl fits ↦ rw (lt-ltb n (2 ^ 64) fits) refl
            | inr over ↦ rw (le-ltb n (2 ^ 64) over, le-ltb n (2 ^ w) large) refl
          ]
        ]
    step (Err error) = refl

-- where a varint of 64 bits was read, or not
pub varint_at-Ok : (w : ℕ) (bytes : List ℕ) (n : ℕ) (rest : List ℕ) → 2 ^ w ≤ 2 ^ 64 → varint_at 64 bytes ≡ Ok (n, rest) → n < 2 ^ w → varint_at w bytes ≡ Ok (n, rest)
varint_at-Ok w bytes n rest le e small = varint_at-narrow w bytes le ∙ rw (e, lt-ltb n (2 ^ w) small) refl

pub varint_at-Bad : (w : ℕ) (bytes : List ℕ) (n : ℕ) (rest : List ℕ) → 2 ^ w ≤ 2 ^ 64 → varint_at 64 bytes ≡ Ok (n, rest) → 2 ^ w ≤ n → varint_at w bytes ≡ Err (Bad (length bytes))
varint_at-Bad w bytes n rest le e large = varint_at-narrow w bytes le ∙ rw (e, le-ltb n (2 ^ w) large) refl

pub varint_at-Err : (w : ℕ) (bytes : List ℕ) (error : FieldError) → 2 ^ w ≤ 2 ^ 64 → varint_at 64 bytes ≡ Err error → varint_at w bytes ≡ Err error
varint_at-Err w bytes error le e = varint_at-narrow w bytes le ∙ rw e refl

-- ---- bytes that come later

position-append : (k : ℕ) (bytes more : List ℕ) → position_or_len is_last (take k bytes) < length (take k bytes) → position_or_len is_last (take k (bytes ++ more)) ≡ position_or_len is_last (take k bytes)
position-append zero bytes more within = refl
position-append (suc k) [] more within = absurd (omega arith)
position-append (suc k) (x ∷ xs) more within =
    elim (cases_lt x 128) [
      | inl small ↦ rw (lt-ltb x 128 small) refl
      | inr large ↦
          let inner : position_or_len is_last (take k xs) < length (take k xs) = omega (arith, rw (le-ltb x 128 large) at within) in
          rw (le-ltb x 128 large, position-append k xs more inner) refl
    ]

-- the cases of the groups at the beginning of bytes
pub groups_at_settles : Settles groups_at
unfolding groups_at
groups_at_settles bytes more settled =
    let first : List ℕ = take 10 bytes in
    let last : ℕ = position_or_len is_last first in
    elim (cases_lt last (length first)) [
      | inl within ↦
          let e : position is_last first ≡ Some last = cond-true (ltb last (length first)) (Some last) None (lt-ltb _ _ within) in
          let more_first : List ℕ = take 10 (bytes ++ more) in
          let same : position_or_len is_last more_first ≡ last = position-append 10 bytes more within in
          let longer : length first ≤ length more_first = omega (arith, length-take 10 bytes, length-take 10 (bytes ++ more), length-append bytes more) in
          let f : position is_last more_first ≡ Some last = cond-true (ltb (position_or_len is_last more_first) (length more_first)) (Some (position_or_len is_last more_first)) None (lt-ltb _ _ (omega arith)) ∙ ap Some same in
          let room : last + 1 ≤ length bytes = omega (arith, length-take 10 bytes) in
          ap (λ (o : Option ℕ). groups_to o (bytes ++ more)) f
          ∙ rw (take-append-le (last + 1) bytes more room, drop-append-le (last + 1) bytes more room) refl
          ∙ sym (ap (λ (o : Option ℕ). with_more more (groups_to o bytes)) e)
      | inr none ↦
          let e : position is_last first ≡ None = cond-false (ltb last (length first)) (Some last) None (le-ltb _ _ none) in
          elim (cases_lt (length bytes) 10) [
            | inl short ↦
                let cut : groups_to (position is_last first) bytes ≡ Err (Short (length bytes)) = ap (λ (o : Option ℕ). groups_to o bytes) e ∙ rw (lt-ltb (length bytes) 10 short) refl in
                absurd (subst IsSettled cut settled)
            | inr long ↦
                let bad : groups_to (position is_last first) bytes ≡ Err (Bad (length bytes)) = ap (λ (o : Option ℕ). groups_to o bytes) e ∙ rw (le-ltb (length bytes) 10 long) refl in
                let same : take 10 (bytes ++ more) ≡ first = take-append-le 10 bytes more long in
                ap (λ (t : List ℕ). groups_to (position is_last t) (bytes ++ more)) same
                ∙ ap (λ (o : Option ℕ). groups_to o (bytes ++ more)) e
                ∙ rw (le-ltb (length (bytes ++ more)) 10 (omega (arith, length-append bytes more)), length-append bytes more) refl
                ∙ sym (ap (with_more more) bad)
          ]
    ]

pub varint_at_settles : (w : ℕ) → Settles (varint_at w)
unfolding varint_at
varint_at_settles w = Settles-only_if groups_at (λ groups. ltb (groups_number groups) (2 ^ w)) groups_number groups_at_settles

pub zigzag_at_settles : (w : ℕ) → Settles (zigzag_at w)
unfolding zigzag_at
zigzag_at_settles w = Settles-map (varint_at w) unzigzag (varint_at_settles w)

-- ---- zigzag

pub unzigzag-zigzag : (z : ℤ) → unzigzag (zigzag z) ≡ z
unzigzag-zigzag (pos n) = rw (eq-eqb (2 * n % 2) 0 (omega arith)) (ap pos (omega arith))
unzigzag-zigzag (negsuc n) = rw (ne_eqb ((2 * n + 1) % 2) 0 (λ e. omega arith)) (ap negsuc (omega arith))

pub zigzag-unzigzag : (n : ℕ) → zigzag (unzigzag n) ≡ n
zigzag-unzigzag n =
    elim (cases_lt (n % 2) 1) [
      | inl even ↦ rw (eq-eqb (n % 2) 0 (omega arith)) (omega arith)
      | inr odd ↦ rw (ne_eqb (n % 2) 0 (λ e. omega arith)) (omega arith)
    ]

pub zigzag_again : (w : ℕ) (z : ℤ) (rest : List ℕ) → zigzag z < 2 ^ 64 → zigzag z < 2 ^ w → zigzag_at w (varint (zigzag z) ++ rest) ≡ Ok (z, rest)
unfolding zigzag_at
zigzag_again w z rest below small =
    bind_is (varint_at w (varint (zigzag z) ++ rest)) (zigzag z, rest) (λ found. Ok (unzigzag found.0, found.1)) (varint_again w (zigzag z) rest below small)
    ∙ ap (λ (y : ℤ). Ok (y, rest)) (unzigzag-zigzag z)

pub zigzag_at_took : (w : ℕ) (bytes : List ℕ) (z : ℤ) (rest : List ℕ) → zigzag_at w bytes ≡ Ok (z, rest) → TakesVarint w bytes (zigzag z) rest
unfolding zigzag_at
zigzag_at_took w bytes z rest e =
    let first = bind-Ok (varint_at w bytes) (λ found. Ok (unzigzag found.0, found.1)) (z, rest) e in
    let n : ℕ = first.0.0 in
    let after : List ℕ = first.0.1 in
    let same = read_once (unzigzag n, after) (z, rest) (Ok (unzigzag n, after)) refl first.2 in
    let number : n ≡ zigzag z = sym (zigzag-unzigzag n) ∙ ap (λ (p : ℤ × List ℕ). zigzag p.0) same in
    subst (λ (k : ℕ). TakesVarint w bytes k rest) number (subst (λ (r : List ℕ). TakesVarint w bytes n r) (ap (λ (p : ℤ × List ℕ). p.1) same) (varint_at_took w bytes n after first.1))

-- ---- the laws

pub varint_at_found : (w n : ℕ) (bytes rest : List ℕ) → w ≤ 64 → varint_at w bytes ≡ Ok (n, rest) → (groups : List ℕ) × (bytes ≡ groups ++ rest) × IsVarint groups n × (n < 2 ^ w)
varint_at_found w n bytes rest le e =
    let taken = varint_at_took w bytes n rest e in
    let wide : 2 ^ w ≤ 2 ^ 64 = pow-le-pow_right (omega arith) le in
    (taken.groups, taken.parts, record { groups = taken.is_groups; at_most_ten = taken.at_most_ten; number = taken.number; below = omega (arith, taken.below) }, taken.below)

-- a signed number fits sixteen bits where its zigzag form does
pub zigzag_fits-16 : (z : ℤ) → FitsSigned w16 z ↔ (zigzag z < 2 ^ 16)
zigzag_fits-16 (pos n) = (λ fits. omega (arith, ints), λ small. omega (arith, ints))
zigzag_fits-16 (negsuc n) = (λ fits. omega (arith, ints), λ small. omega (arith, ints))

pub zigzag_fits-32 : (z : ℤ) → FitsSigned w32 z ↔ (zigzag z < 2 ^ 32)
zigzag_fits-32 (pos n) = (λ fits. omega (arith, ints), λ small. omega (arith, ints))
zigzag_fits-32 (negsuc n) = (λ fits. omega (arith, ints), λ small. omega (arith, ints))

pub zigzag_fits-64 : (z : ℤ) → FitsSigned w64 z ↔ (zigzag z < 2 ^ 64)
zigzag_fits-64 (pos n) = (λ fits. omega (arith, ints), λ small. omega (arith, ints))
zigzag_fits-64 (negsuc n) = (λ fits. omega (arith, ints), λ small. omega (arith, ints))

-- ---- where varints are short

-- no byte is the last
none_is_last : (bytes : List ℕ) → length bytes ≤ position_or_len is_last bytes → (i : ℕ) → i < length bytes → 128 ≤ get_or bytes i 0
none_is_last [] le i within = absurd (omega arith)
none_is_last (x ∷ xs) le zero within =
    elim (cases_lt x 128) [
      | inl small ↦ absurd (omega (arith, rw (lt-ltb x 128 small) at le))
      | inr large ↦ large
    ]
none_is_last (x ∷ xs) le (suc i) within =
    elim (cases_lt x 128) [
      | inl small ↦ absurd (omega (arith, rw (lt-ltb x 128 small) at le))
      | inr large ↦ none_is_last xs (omega (arith, rw (le-ltb x 128 large) at le)) i (omega arith)
    ]

position_or_len-none : (bytes : List ℕ) → ((i : ℕ) → i < length bytes → 128 ≤ get_or bytes i 0) → position_or_len is_last bytes ≡ length bytes
position_or_len-none [] none = refl
position_or_len-none (x ∷ xs) none =
    let rest = position_or_len-none xs (λ i within. none (suc i) (omega arith)) in
    rw (le-ltb x 128 (none zero (omega arith)), rest) (omega arith)

-- a test never says that bytes are short
only_if-not_short : {A : Type 0} (b : Bool) (item : List ℕ) (x : A) (left : ℕ) → only_if b item x ≡ Err (Short left) → ⊥
only_if-not_short true item x left e = cc
only_if-not_short false item x left e = cc

one_short : {A : Type 0} (r : Result A FieldError) (m n : ℕ) → r ≡ Err (Short m) → r ≡ Err (Short n) → m ≡ n
one_short r m n e f = cc

bad_or_short : {A : Type 0} (r : Result A FieldError) (m n : ℕ) → r ≡ Err (Bad m) → r ≡ Err (Short n) → ⊥
bad_or_short r m n e f = cc

pub varint_at-short : (w left : ℕ) (bytes : List ℕ) → varint_at w bytes ≡ Err (Short left) → EndsInside bytes × (left ≡ length bytes)
unfolding varint_at groups_at
varint_at-short w left bytes e = from (position is_last (take 10 bytes)) refl e
  where
    none : position is_last (take 10 bytes) ≡ None → length (take 10 bytes) ≤ position_or_len is_last (take 10 bytes)
    none at =
        let first : List ℕ = take 10 bytes in
        elim (cases_lt (position_or_len is_last first) (length first)) [
          | inl within ↦
              let other : position is_last first ≡ Some (position_or_len is_last first) = cond-true (ltb (position_or_len is_last first) (length first)) (Some (position_or_len is_last first)) None (lt-ltb _ _ within) in
              absurd cc
          | inr past ↦ past
        ]

    from : (o : Option ℕ) → position is_last (take 10 bytes) ≡ o → (groups_to o bytes >>= number_in w bytes) ≡ Err (Short left) → EndsInside bytes × (left ≡ length bytes)
    from (Some last) at told = absurd (only_if-not_short (ltb (groups_number (take (last + 1) bytes)) (2 ^ w)) bytes (groups_number (take (last + 1) bytes), drop (last + 1) bytes) left told)
    from None at told =
        elim (cases_lt (length bytes) 10) [
          | inl few ↦
              let said : (groups_to None bytes >>= number_in w bytes) ≡ Err (Short (length bytes)) = rw (lt-ltb (length bytes) 10 few) refl in
              let all : take 10 bytes ≡ bytes = take_all 10 bytes (omega arith) in
              let past : length bytes ≤ position_or_len is_last bytes = subst (λ (t : List ℕ). length t ≤ position_or_len is_last t) all (none at) in
              (record { few = few; none_is_last = none_is_last bytes past }, one_short (groups_to None bytes >>= number_in w bytes) left (length bytes) told said)
          | inr many ↦
              let said : (groups_to None bytes >>= number_in w bytes) ≡ Err (Bad (length bytes)) = rw (le-ltb (length bytes) 10 many) refl in
              absurd (bad_or_short (groups_to None bytes >>= number_in w bytes) (length bytes) left said told)
        ]

pub short-varint_at : (w left : ℕ) (bytes : List ℕ) → EndsInside bytes → left ≡ length bytes → varint_at w bytes ≡ Err (Short left)
unfolding varint_at groups_at
short-varint_at w left bytes ends e =
    let first : List ℕ = take 10 bytes in
    let all : first ≡ bytes = take_all 10 bytes (omega (arith, ends.few)) in
    let past : length first ≤ position_or_len is_last first = subst (λ (t : List ℕ). length t ≤ position_or_len is_last t) (sym all) (omega (arith, position_or_len-none bytes ends.none_is_last)) in
    let at : position is_last first ≡ None = cond-false (ltb (position_or_len is_last first) (length first)) (Some (position_or_len is_last first)) None (le-ltb _ _ past) in
    ap (λ (o : Option ℕ). groups_to o bytes >>= number_in w bytes) at
    ∙ rw (lt-ltb (length bytes) 10 ends.few) refl
    ∙ ap (λ (k : ℕ). Err (Short k)) (sym e)

-- a first byte that is the last one
pub one_group : (bytes : List ℕ) → 1 ≤ length bytes → get_or bytes 0 0 < 128 → varint_at 64 bytes ≡ Ok (get_or bytes 0 0, take (length bytes - 1) (drop 1 bytes))
one_group [] some small = absurd (omega arith)
one_group (x ∷ xs) some small =
    let number : groups_number (x ∷ []) ≡ x = groups_number-one x small in
    let below : x < 2 ^ 64 = omega arith in
    let rest : take (length (x ∷ xs) - 1) xs ≡ xs = take_all (length (x ∷ xs) - 1) xs (omega arith) in
    varint_at_again 64 (x ∷ []) xs x (record { groups = small; at_most_ten = omega arith; number = number; below = below }) below
    ∙ ap (λ (t : List ℕ). Ok (x, t)) (sym rest)
