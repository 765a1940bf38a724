-- The footer between its ends is found.
use Rattle.std.proofs.Common.{◌≡◌, ℕ, ◌+◌, ◌-◌, ◌<◌, ◌^◌, Bool, true, false, List, ◌++◌, length, take, drop, Result, Ok, Err, refl, ap, ◌∙◌, append_assoc, arith}
use Rattle.std.specs.Prelude.{◌||◌, not, if◌then◌else◌, nat_lt, nat_eq}
use Rattle.std.specs.List.{starts_with, ends_with}
use Rattle.std.specs.Cmp.Lexicographic.{pointwise}
use Rattle.std.proofs.lemmas.Bool.{le-ltb}
use Rattle.std.proofs.lemmas.List.{length-append}
use Rattle.std.proofs.Math.Seq.{take-append_seam, drop-append_seam}
use Rattle.byteorder.specs.Endian.{little_bytes, little_number}
use Rattle.byte_fields.proofs.NumberLemmas.{little4}
use Rattle.base_cells.specs.declared.base_error.BaseError.{BaseError}
use Rattle.base_cells.specs.declared.base_error.BaseError.TheVariants.{BadBase}
use Rattle.base_cells.specs.declared.base_error.BaseCause.TheVariants as cause
use Rattle.base_cells.specs.Ends.{magic, footer_len, footer_start, footer_bytes_at}
use Rattle.base_cells.specs.Written.{with_ends}

pub drop_front : (k : ℕ) (a b : List ℕ) → k ≡ length a → drop k (a ++ b) ≡ b
drop_front k a b e = ap (λ (n : ℕ). drop n (a ++ b)) e ∙ drop-append_seam a b

take_front : (k : ℕ) (a b : List ℕ) → k ≡ length a → take k (a ++ b) ≡ a
take_front k a b e = ap (λ (n : ℕ). take n (a ++ b)) e ∙ take-append_seam a b

-- what stands behind the footer
abbrev pub tail_of : ℕ → List ℕ
tail_of n = little_bytes 4 n ++ magic

tail_long : (n : ℕ) → length (tail_of n) ≡ 8
tail_long n = omega (arith, length-append (little_bytes 4 n) magic, little4.length_bytes n)

before_tail : (pages footer : List ℕ) → with_ends pages footer ≡ ((magic ++ pages) ++ footer) ++ tail_of (length footer)
before_tail pages footer = append_assoc ((magic ++ pages) ++ footer) (little_bytes 4 (length footer)) magic

-- the pages with their beginning, and the rest
in_two : (pages footer : List ℕ) → with_ends pages footer ≡ (magic ++ pages) ++ (footer ++ tail_of (length footer))
in_two pages footer = before_tail pages footer ∙ append_assoc (magic ++ pages) footer (tail_of (length footer))

pub in_three : (pages footer : List ℕ) → with_ends pages footer ≡ magic ++ (pages ++ (footer ++ tail_of (length footer)))
in_three pages footer = in_two pages footer ∙ append_assoc magic pages (footer ++ tail_of (length footer))

front_long : (pages footer : List ℕ) → length ((magic ++ pages) ++ footer) ≡ 4 + length pages + length footer
front_long pages footer = omega (arith, length-append (magic ++ pages) footer, length-append magic pages)

whole_long : (pages footer : List ℕ) → length (with_ends pages footer) ≡ 4 + length pages + length footer + 8
whole_long pages footer =
    ap (length {A = ℕ}) (before_tail pages footer) ∙ length-append ((magic ++ pages) ++ footer) (tail_of (length footer)) ∙ ap (λ (k : ℕ). length ((magic ++ pages) ++ footer) + k) (tail_long (length footer)) ∙ ap (λ (k : ℕ). k + 8) (front_long pages footer)

len_told : (pages footer : List ℕ) → length footer < 2 ^ 32 → footer_len (with_ends pages footer) ≡ length footer
len_told pages footer short =
    let bytes = with_ends pages footer in
    let front : length bytes - 8 ≡ length ((magic ++ pages) ++ footer) = omega (arith, whole_long pages footer, front_long pages footer) in
    ap (little_number 4) (ap (drop (length bytes - 8)) (before_tail pages footer) ∙ drop_front (length bytes - 8) ((magic ++ pages) ++ footer) (tail_of (length footer)) front)
    ∙ little4.reads_back (length footer) magic short

start_told : (pages footer : List ℕ) → length footer < 2 ^ 32 → footer_start (with_ends pages footer) ≡ length (magic ++ pages)
start_told pages footer short =
    ap (λ (k : ℕ). length (with_ends pages footer) - 8 - k) (len_told pages footer short) ∙ omega (arith, whole_long pages footer, length-append magic pages)

starts : (pages footer : List ℕ) → starts_with nat_eq (with_ends pages footer) magic ≡ true
starts pages footer = ap (pointwise nat_eq magic) (ap (take 4) (in_three pages footer) ∙ take_front 4 magic (pages ++ (footer ++ tail_of (length footer))) refl)

ends : (pages footer : List ℕ) → ends_with nat_eq (with_ends pages footer) magic ≡ true
ends pages footer =
    let bytes = with_ends pages footer in
    let front : length bytes - 4 ≡ length (((magic ++ pages) ++ footer) ++ little_bytes 4 (length footer)) = omega (arith, whole_long pages footer, length-append ((magic ++ pages) ++ footer) (little_bytes 4 (length footer)), little4.length_bytes (length footer), front_long pages footer) in
    ap (pointwise nat_eq magic) (drop_front (length bytes - 4) (((magic ++ pages) ++ footer) ++ little_bytes 4 (length footer)) magic front)

chosen : (few starts ends long : Bool) (a b c : BaseError) (footer : List ℕ) → few ≡ false → starts ≡ true → ends ≡ true → long ≡ false
    → (let r : Result (List ℕ) BaseError = if few || not starts then Err a else if not ends then Err b else if long then Err c else Ok footer in r) ≡ Ok footer
chosen true starts ends long a b c footer p q r s = absurd cc
chosen false false ends long a b c footer p q r s = absurd cc
chosen false true false long a b c footer p q r s = absurd cc
chosen false true true true a b c footer p q r s = absurd cc
chosen false true true false a b c footer p q r s = refl

pub footer_found : (pages footer : List ℕ) → length footer < 2 ^ 32 → footer_bytes_at (with_ends pages footer) ≡ Ok footer
unfolding footer_bytes_at
footer_found pages footer short =
    let bytes = with_ends pages footer in
    let long = whole_long pages footer in
    let len = len_told pages footer short in
    let start = start_told pages footer short in
    let tail = tail_of (length footer) in
    let found : take (footer_len bytes) (drop (footer_start bytes) bytes) ≡ footer =
    ap (λ (xs : List ℕ). take (footer_len bytes) xs) (ap (drop (footer_start bytes)) (in_two pages footer) ∙ drop_front (footer_start bytes) (magic ++ pages) (footer ++ tail) start)
    ∙ take_front (footer_len bytes) footer tail len in
    chosen (nat_lt (length bytes) 12) (starts_with nat_eq bytes magic) (ends_with nat_eq bytes magic) (nat_lt (length bytes - 12) (footer_len bytes)) (BadBase cause.Magic 0) (BadBase cause.Magic (length bytes - 4)) (BadBase cause.Footer (length bytes - 8)) (take (footer_len bytes) (drop (footer_start bytes) bytes))
    (le-ltb (length bytes) 12 (omega arith)) (starts pages footer) (ends pages footer) (le-ltb (length bytes - 12) (footer_len bytes) (omega arith))
    ∙ ap (λ (xs : List ℕ). Ok xs) found
