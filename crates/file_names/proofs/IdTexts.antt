-- File ids, taken apart.
use Rattle.std.proofs.Common.{◌≡◌, ◌≢◌, ℕ, ◌+◌, ◌-◌, ◌*◌, ◌/◌, ◌%◌, ◌^◌, ◌<◌, Bool, true, false, cond, nat_eq, List, [], ◌∷◌, ◌++◌, length, drop, if◌then◌else◌, Some, refl, sym, ap, subst, ◌∙◌, arith}
use Rattle.std.proofs.Math.Seq.{drop-append-add}
use Rattle.std.proofs.lemmas.Bool.{false_from_ne_true}
use Rattle.std.proofs.lemmas.Bool.Decides.{nat_tests}
use Rattle.std.proofs.lemmas.Fmt.{decimal_is_IsNumeral}
use Rattle.std.proofs.lemmas.List.{get_or-drop, length-drop}
use Rattle.std.proofs.lemmas.Slice.Eq.{bytes_eq-Decides}
use Rattle.std.proofs.lemmas.Str.Parse.{digit_at}
use Rattle.std.specs.Fmt.{decimal}
use Rattle.std.specs.Str.{bytes_eq}
use Rattle.hudi_base.specs.InstantTime.{IsTime, first_time, time_of, time_text}
use Rattle.hudi_base.specs.declared.file_group.GroupRef.{GroupRef}
use Rattle.hudi_base.proofs.Times.{length-time_text, All-time_text}
use Rattle.table_forms.proofs.PieceLemmas.{lacks, lacks-append, lacks-cons, lacks-by_place}
use Rattle.uuid.specs.Text.{hyphenated_text, lower, is_hyphen_place, nibble, digit_place}
use Rattle.uuid.specs.Text as uuid
use Rattle.uuid.proofs.TextLemmas.{by_index_length, by_index_at}
use Rattle.file_names.specs.Candidate.{hex_value, hex_number, born_of, group_of}
use Rattle.file_names.specs.FileId.{hex_digit, four_digits, url_uuid, tail_of, born_text, file_id}
use Rattle.file_names.specs.FileName.{IsGroup}
use Rattle.hudi_base.proofs.TimeTexts.{time_of-time_text}

-- ---- bytes that don't occur

-- a byte that is no digit
pub lacks-decimal : (s n : ℕ) → n < 2 ^ 64 → (s < 48) → lacks s (decimal n) ≡ true
lacks-decimal s n fits low = lacks-by_place s (decimal n) (λ i h is.
    let digit = digit_at (decimal n) i (decimal_is_IsNumeral n fits).0.1 h in
    omega (arith, digit.0))

pub lacks_underscore-decimal : (n : ℕ) → n < 2 ^ 64 → lacks 95 (decimal n) ≡ true
lacks_underscore-decimal n fits = lacks-by_place 95 (decimal n) (λ i h is.
    let digit = digit_at (decimal n) i (decimal_is_IsNumeral n fits).0.1 h in
    omega (arith, digit.1))

pub lacks-time_text : (t : ℕ) → IsTime t → lacks 95 (time_text t) ≡ true
lacks-time_text t is_time = lacks-by_place 95 (time_text t) (λ i h is.
    let digit = All-time_text t is_time i 0 h in
    omega (arith, digit.1))

hex_digit_other : (n : ℕ) → hex_digit n ≢ 95
hex_digit_other n = λ is. grind (arith, nat_tests)

pub hex_digit_seen : (n : ℕ) → nat_eq (hex_digit n) 46 ≡ false
hex_digit_seen n = grind (arith, nat_tests)

lacks-four_digits : (n : ℕ) → lacks 95 (four_digits n) ≡ true
lacks-four_digits n =
    let b : ℕ = hex_digit (n / 256 % 16) in
    let c : ℕ = hex_digit (n / 16 % 16) in
    let d : ℕ = hex_digit (n % 16) in
    lacks-cons 95 _ (b ∷ c ∷ d ∷ []) (hex_digit_other (n / 4096 % 16)) (lacks-cons 95 b (c ∷ d ∷ []) (hex_digit_other (n / 256 % 16))
    (lacks-cons 95 c (d ∷ []) (hex_digit_other (n / 16 % 16)) (lacks-cons 95 d [] (hex_digit_other (n % 16)) refl)))

uuid_byte : (b : Bool) (d : ℕ) → cond b 45 (uuid.hex_digit lower d) ≢ 95
uuid_byte true d = λ is. omega arith
uuid_byte false d = λ is. grind (arith, nat_tests)

length-behind : (xs : List ℕ) → length (drop 9 (hyphenated_text lower xs)) ≡ 27
length-behind xs = length-drop 9 (hyphenated_text lower xs) ∙ ap (λ n. n - 9) (by_index_length 36 _)

lacks-behind : (xs : List ℕ) → lacks 95 (drop 9 (hyphenated_text lower xs)) ≡ true
lacks-behind xs = lacks-by_place 95 (drop 9 (hyphenated_text lower xs)) (λ i h is.
    let within : i < 27 = omega (arith, length-behind xs) in
    let byte = get_or-drop 9 (hyphenated_text lower xs) i 0 ∙ by_index_at 36 (λ k. if is_hyphen_place k then 45 else uuid.hex_digit lower (nibble xs (digit_place k))) (9 + i) 0 (omega arith) in
    uuid_byte (is_hyphen_place (9 + i)) (nibble xs (digit_place (9 + i))) (sym byte ∙ is))

lacks-tail_of : (table partition : List ℕ) → lacks 95 (tail_of table partition) ≡ true
unfolding tail_of
lacks-tail_of table partition = lacks-behind (url_uuid (table ++ 47 ∷ partition))

length-tail_of : (table partition : List ℕ) → length (tail_of table partition) ≡ 27
unfolding tail_of
length-tail_of table partition = length-behind (url_uuid (table ++ 47 ∷ partition))

lacks-born_text : (born : ℕ) → IsTime born → lacks 95 (born_text born) ≡ true
lacks-born_text born is_time = by (nat_eq born first_time)
  where
    by : (b : Bool) → lacks 95 (cond b (48 ∷ []) (time_text born)) ≡ true
    by true = refl
    by false = lacks-time_text born is_time

pub lacks-file_id : (table : List ℕ) (group : GroupRef) → IsTime group.born → lacks 95 (file_id table group) ≡ true
unfolding file_id
lacks-file_id table group born =
    let end : List ℕ = 45 ∷ born_text group.born in
    let last : lacks 95 end ≡ true = lacks-cons 95 45 (born_text group.born) (omega arith) (lacks-born_text group.born born) in
    let tail : List ℕ = tail_of table group.partition ++ end in
    let behind : lacks 95 tail ≡ true = lacks-append 95 (tail_of table group.partition) end (lacks-tail_of table group.partition) last in
    let high : lacks 95 (four_digits group.hi ++ (45 ∷ tail)) ≡ true =
    lacks-append 95 (four_digits group.hi) (45 ∷ tail) (lacks-four_digits group.hi) (lacks-cons 95 45 tail (omega arith) behind) in
    lacks-append 95 (four_digits group.lo) (four_digits group.hi ++ (45 ∷ tail)) (lacks-four_digits group.lo) high

-- ---- a group from its id

hex_value-hex_digit : (n : ℕ) → hex_value (hex_digit (n % 16)) ≡ n % 16
hex_value-hex_digit n = grind (arith, nat_tests)

four_values : (n : ℕ) → n < 2 ^ 16 → n / 4096 % 16 * 4096 + n / 256 % 16 * 256 + n / 16 % 16 * 16 + n % 16 ≡ n
four_values n small = omega arith

pub hex_number-lo : (table : List ℕ) (group : GroupRef) → group.lo < 2 ^ 16 → hex_number 0 (file_id table group) ≡ group.lo
unfolding file_id hex_number
hex_number-lo table group small =
    rw (hex_value-hex_digit (group.lo / 4096), hex_value-hex_digit (group.lo / 256), hex_value-hex_digit (group.lo / 16), hex_value-hex_digit group.lo) (four_values group.lo small)

pub hex_number-hi : (table : List ℕ) (group : GroupRef) → group.hi < 2 ^ 16 → hex_number 4 (file_id table group) ≡ group.hi
unfolding file_id hex_number
hex_number-hi table group small =
    rw (hex_value-hex_digit (group.hi / 4096), hex_value-hex_digit (group.hi / 256), hex_value-hex_digit (group.hi / 16), hex_value-hex_digit group.hi) (four_values group.hi small)

born_behind : (table : List ℕ) (group : GroupRef) → drop 37 (file_id table group) ≡ born_text group.born
unfolding file_id
born_behind table group =
    let whole : drop (27 + 1) (tail_of table group.partition ++ (45 ∷ born_text group.born)) ≡ born_text group.born =
    subst (λ (n : ℕ). drop (n + 1) (tail_of table group.partition ++ (45 ∷ born_text group.born)) ≡ born_text group.born)
    (length-tail_of table group.partition) (drop-append-add (tail_of table group.partition) (45 ∷ born_text group.born) 1) in
    whole

pub bytes_differ : (xs ys : List ℕ) → (xs ≡ ys → ⊥) → bytes_eq xs ys ≡ false
bytes_differ xs ys other = false_from_ne_true (bytes_eq xs ys) (λ same. other ((bytes_eq-Decides xs ys).0 same))

born_of-born_text : (born : ℕ) → IsTime born → born_of (born_text born) ≡ Some born
unfolding born_of
born_of-born_text born is_time = by (nat_eq born first_time) refl
  where
    by : (b : Bool) → nat_eq born first_time ≡ b → cond (bytes_eq (cond b (48 ∷ []) (time_text born)) (48 ∷ [])) (Some first_time) (time_of (cond b (48 ∷ []) (time_text born))) ≡ Some born
    by true e = let same : first_time ≡ born = grind (arith, nat_tests) in ap Some same
    by false e =
        let long = length-time_text born in
        let other = bytes_differ (time_text born) (48 ∷ []) (λ same. let short = ap length same in omega (arith, long, short)) in
        rw other (time_of-time_text born is_time)

-- the id of a group gives the group
pub group_of-file_id : (table : List ℕ) (group : GroupRef) → IsGroup group → group_of group.partition (file_id table group) ≡ Some group
unfolding group_of
group_of-file_id table group h =
    rw (born_behind table group, born_of-born_text group.born h.born, hex_number-lo table group h.lo, hex_number-hi table group h.hi) refl
