-- Lists of the files of a timeline.
use Rattle.std.proofs.Common.{◌≡◌, inl, inr, ℕ, ◌+◌, ◌<◌, ◌≤◌, List, [], ◌∷◌, ◌++◌, length, get_or, take, sym, ◌∙◌, ap, subst, arith}
use Rattle.std.specs.Prelude.{◌↔◌, IsTrue, nat_lt}
use Rattle.std.specs.List.{Contains}
use Rattle.std.specs.List.Sorted.{IsPermutation, IsNonDecreasingBy}
use Rattle.std.proofs.lemmas.Bool.{cases_lt}
use Rattle.std.proofs.lemmas.Bool.Decides.{nat_tests}
use Rattle.std.proofs.lemmas.List.{get_or_default, take_more}
use Rattle.std.proofs.lemmas.List.Elements.{Contains-get_or, Contains-append_left, Contains-append_right, Contains-append_cases}
use Rattle.std.proofs.lemmas.List.Sorted.{Contains-permutation, IsPermutation-sym}
use Rattle.file_names.specs.declared.file_name.Action.{Action}
use Rattle.file_names.specs.declared.file_name.FileName.{FileName}
use Rattle.file_names.specs.declared.file_name.FileName.TheVariants.{Instant}
use Rattle.file_names.specs.declared.file_name.State.{State}
use Rattle.instant_line.specs.NameOrder.{entry_number, HaveEntries, HasBetween}
use Rattle.instant_line.specs.PendingList.{IsPlace}
use Rattle.instant_line.proofs.Moves.{Begun}

-- ---- between two numbers

below-test : (a b : ℕ) → a < b → IsTrue (nat_lt a b)
below-test a b h = grind (arith, nat_tests)

test-below : (a b : ℕ) → IsTrue (nat_lt a b) → a < b
test-below a b h = grind (arith, nat_tests)

pub at_place : (es : List Begun) (low high i n : ℕ) (d : Begun) → IsNonDecreasingBy entry_number es → IsPlace entry_number low es i → i < length es → n ≡ entry_number (get_or es i d)
    → IsTrue (nat_lt n high) ↔ HasBetween es low high
at_place es low high i n d order place within is = (
  λ test. record {
    entry = get_or es i d;
    among = Contains-get_or es i d within;
    from = place.1 i d (omega arith) within;
    below = let h = test-below n high test in omega arith;
  },
  λ found.
      let has = found.among in
      let short : has.0 < length es = has.1 in
      let e : entry_number (get_or es has.0 d) ≡ entry_number found.entry = ap entry_number (get_or_default es has.0 d found.entry short ∙ has.2) in
      elim (cases_lt has.0 i) [
        | inl low-place ↦ let low-number = place.0 has.0 d (omega arith) low-place in let from = found.from in absurd (omega arith)
        | inr from-place ↦ let more = order i has.0 d from-place short in let below = found.below in below-test n high (omega arith)
      ],
)

pub past_end : (es : List Begun) (low high i : ℕ) → IsPlace entry_number low es i → length es ≤ i → IsTrue (nat_lt i (length es)) ↔ HasBetween es low high
past_end es low high i place past = (
  λ test. (let h = test-below i (length es) test in absurd (omega arith)),
  λ found.
      let has = found.among in
      let short : has.0 < length es = has.1 in
      let e : entry_number (get_or es has.0 found.entry) ≡ entry_number found.entry = ap entry_number has.2 in
      let low-number = place.0 has.0 found.entry (omega arith) (omega arith) in
      let from = found.from in
      absurd (omega arith),
)

-- ---- the entries of names

pub entries-none : (es : List Begun) → HaveEntries [] es es
entries-none es = record { old = λ e has. has; new = λ t a s has. absurd (let short = has.1 in omega arith); none_else = λ t a s has. inl has }

pub entries-join : (ns ms : List FileName) (es fs gs : List Begun) → HaveEntries ns es fs → HaveEntries ms fs gs → HaveEntries (ns ++ ms) es gs
entries-join ns ms es fs gs first second = record {
  old = λ e has. second.old e (first.old e has);
  new = λ t a s has. elim (Contains-append_cases ns ms (Instant t a s) has) [
    | inl one ↦ second.old (t, a, s) (first.new t a s one)
    | inr two ↦ second.new t a s two
  ];
  none_else = λ t a s has. elim (second.none_else t a s has) [
    | inl before ↦ elim (first.none_else t a s before) [ inl old ↦ inl old | inr one ↦ inr (Contains-append_left ns ms (Instant t a s) one) ]
    | inr two ↦ inr (Contains-append_right ns ms (Instant t a s) two)
  ];
}

pub entries-more : (names : List FileName) (i : ℕ) (name : FileName) (es fs gs : List Begun) → i < length names → name ≡ get_or names i name
    → HaveEntries (take i names) es fs → HaveEntries (name ∷ []) fs gs → HaveEntries (take (i + 1) names) es gs
entries-more names i name es fs gs within is first second =
    subst (λ (l : List FileName). HaveEntries l es gs) (ap (λ (n : FileName). take i names ++ n ∷ []) is ∙ sym (take_more names i name within))
    (entries-join (take i names) (name ∷ []) es fs gs first second)

pub entries-all : (names : List FileName) (es sorted : List Begun) → HaveEntries names [] es → IsPermutation es sorted → (t : ℕ) (a : Action) (s : State)
    → Contains sorted (t, a, s) ↔ Contains names (Instant t a s)
entries-all names es sorted have moved t a s = (
  λ has. elim (have.none_else t a s (Contains-permutation sorted es (t, a, s) (IsPermutation-sym es sorted moved) has)) [
    | inl none ↦ absurd (let short = none.1 in omega arith)
    | inr named ↦ named
  ],
  λ named. Contains-permutation es sorted (t, a, s) moved (have.new t a s named),
)
