-- The prefix of a key: it never contradicts the order of the keys.
use Rattle.std.proofs.Common.{◌≡◌, ℕ, zero, suc, ◌+◌, ◌*◌, ◌^◌, ◌<◌, List, [], ◌∷◌, length, get_or, refl, sym, ap, subst, ◌∙◌, arith}
use Rattle.std.proofs.Math.Nat.{mul-le-mul_right}
use Rattle.std.specs.Int.{from_be_bytes, w64}
use Rattle.std.specs.Ordering.{nat_cmp, ordering_then, ordering_reverse}
use Rattle.std.specs.declared.cmp.Ordering.{Ordering}
use Rattle.std.specs.declared.cmp.Ordering.TheVariants.{Less, Equal, Greater}
use Rattle.std.proofs.lemmas.Cmp.{nat_list_cmp_total, by_ranked, ranked}
use Rattle.payload_merge.specs.KeyOrder.{IsKeyPrefix, bytes_cmp, zero_extended_prefix}

-- the number that bytes are, the first of which weighs the most
abbrev number : List ℕ → ℕ
number [] = 0
number (byte ∷ bytes) = byte * 256 ^ length bytes + number bytes

abbrev AreBytes : List ℕ → Type 0
AreBytes key = (i : ℕ) → get_or key i 0 < 256

rest_bytes : (byte : ℕ) (key : List ℕ) → AreBytes (byte ∷ key) → AreBytes key
rest_bytes byte key are i = are (suc i)

length-zero_extended_prefix : (n : ℕ) (key : List ℕ) → length (zero_extended_prefix n key) ≡ n
length-zero_extended_prefix zero key = refl
length-zero_extended_prefix (suc n) [] = ap suc (length-zero_extended_prefix n [])
length-zero_extended_prefix (suc n) (byte ∷ key) = ap suc (length-zero_extended_prefix n key)

-- a byte above another outweighs all that follows
outweighs : (a b p x y : ℕ) → a < b → x < p → a * p + x < b * p + y
outweighs a b p x y lt small = omega (arith, mul-le-mul_right {m = a + 1} {n = b} p (omega arith))

power_some : (n : ℕ) → 0 < 256 ^ n
power_some zero = omega arith
power_some (suc n) = omega (arith, power_some n)

one_small : 0 < 256 ^ 0
one_small = omega arith

-- a number and one byte before it
longer_small : (n byte x : ℕ) → byte < 256 → x < 256 ^ n → byte * 256 ^ n + x < 256 ^ suc n
longer_small n byte x le small = omega (arith, outweighs byte 256 (256 ^ n) x 0 le small)

number_small : (n : ℕ) (key : List ℕ) → AreBytes key → number (zero_extended_prefix n key) < 256 ^ n
number_small zero key are = one_small
number_small (suc n) [] are =
    subst (λ (m : ℕ). 0 * 256 ^ m + number (zero_extended_prefix n []) < 256 ^ suc n) (sym (length-zero_extended_prefix n [])) (longer_small n 0 (number (zero_extended_prefix n [])) (omega arith) (number_small n [] are))
number_small (suc n) (byte ∷ key) are =
    subst (λ (m : ℕ). byte * 256 ^ m + number (zero_extended_prefix n key) < 256 ^ suc n) (sym (length-zero_extended_prefix n key)) (longer_small n byte (number (zero_extended_prefix n key)) (are 0) (number_small n key (rest_bytes byte key are)))

-- the number of a longer key, with the length that its rest is padded to
number_longer : (n byte : ℕ) (key : List ℕ) → number (zero_extended_prefix (suc n) (byte ∷ key)) ≡ byte * 256 ^ n + number (zero_extended_prefix n key)
number_longer n byte key = ap (λ (m : ℕ). byte * 256 ^ m + number (zero_extended_prefix n key)) (length-zero_extended_prefix n key)

number_none : (n : ℕ) → number (zero_extended_prefix n []) ≡ 0
number_none zero = refl
number_none (suc n) = ap (λ (x : ℕ). 0 * 256 ^ length (zero_extended_prefix n []) + x) (number_none n) ∙ omega arith

-- ---- the order

by_cases : {A : Type 0} (x y : ℕ) → (x < y → nat_cmp x y ≡ Less → A) → (x ≡ y → nat_cmp x y ≡ Equal → A) → (y < x → nat_cmp x y ≡ Greater → A) → A
by_cases x y less equal greater = by_ranked (x < y) (x ≡ y) (y < x) (nat_cmp x y) (ranked x y (nat_cmp x y) refl) (λ h lt. less lt h) (λ h eq. equal eq h) (λ h gt. greater gt h)

-- where the prefix of one key is below another's, so is the key
below_by_number : (n : ℕ) (key other : List ℕ) → AreBytes key → AreBytes other → number (zero_extended_prefix n key) < number (zero_extended_prefix n other) → bytes_cmp key other ≡ Less
below_by_number zero key other are also lt = absurd (nothing lt)
  where
    nothing : 0 < 0 → ⊥
    nothing h = omega arith
below_by_number (suc n) key [] are also lt = absurd (nothing (number (zero_extended_prefix (suc n) key)) (subst (λ (x : ℕ). number (zero_extended_prefix (suc n) key) < x) (number_none (suc n)) lt))
  where
    nothing : (x : ℕ) → x < 0 → ⊥
    nothing x h = omega arith
below_by_number (suc n) [] (b ∷ other) are also lt = refl
below_by_number (suc n) (a ∷ key) (b ∷ other) are also lt =
    by_cases a b
    (λ less is. ap (λ (o : Ordering). ordering_then o (bytes_cmp key other)) is)
    (λ same is. ap (λ (o : Ordering). ordering_then o (bytes_cmp key other)) is
    ∙ below_by_number n key other (rest_bytes a key are) (rest_bytes b other also) (omega (arith, lt, number_longer n a key, number_longer n b other, ap (λ (x : ℕ). x * 256 ^ n) same)))
    (λ greater is. absurd (omega (arith, lt, number_longer n a key, number_longer n b other, outweighs b a (256 ^ n) (number (zero_extended_prefix n other)) (number (zero_extended_prefix n key)) greater (number_small n other (rest_bytes b other also)))))

-- what the prefix is of, as such a number
eight : (bytes : List ℕ) → length bytes ≡ 8 → from_be_bytes w64 bytes ≡ number bytes
eight [] is = absurd (omega (arith, is))
eight (b0 ∷ []) is = absurd (omega (arith, is))
eight (b0 ∷ b1 ∷ []) is = absurd (omega (arith, is))
eight (b0 ∷ b1 ∷ b2 ∷ []) is = absurd (omega (arith, is))
eight (b0 ∷ b1 ∷ b2 ∷ b3 ∷ []) is = absurd (omega (arith, is))
eight (b0 ∷ b1 ∷ b2 ∷ b3 ∷ b4 ∷ []) is = absurd (omega (arith, is))
eight (b0 ∷ b1 ∷ b2 ∷ b3 ∷ b4 ∷ b5 ∷ []) is = absurd (omega (arith, is))
eight (b0 ∷ b1 ∷ b2 ∷ b3 ∷ b4 ∷ b5 ∷ b6 ∷ []) is = absurd (omega (arith, is))
eight (b0 ∷ b1 ∷ b2 ∷ b3 ∷ b4 ∷ b5 ∷ b6 ∷ b7 ∷ []) is = omega arith
eight (b0 ∷ b1 ∷ b2 ∷ b3 ∷ b4 ∷ b5 ∷ b6 ∷ b7 ∷ b8 ∷ more) is = absurd (omega (arith, is))

below_by_prefix : (prefix other : ℕ) (key q : List ℕ) → IsKeyPrefix prefix key → IsKeyPrefix other q → prefix < other → bytes_cmp key q ≡ Less
below_by_prefix prefix other key q is also lt =
    below_by_number 8 key q is.bytes also.bytes (omega (arith, lt, is.number, also.number, eight (zero_extended_prefix 8 key) (length-zero_extended_prefix 8 key), eight (zero_extended_prefix 8 q) (length-zero_extended_prefix 8 q)))

turned : (o : Ordering) → o ≡ Less → ordering_reverse o ≡ Greater
turned Less is = refl
turned Equal is = absurd cc
turned Greater is = absurd cc

-- to compare the prefixes first changes nothing
pub prefix_order : (prefix other : ℕ) (key q : List ℕ) → IsKeyPrefix prefix key → IsKeyPrefix other q → ordering_then (nat_cmp prefix other) (bytes_cmp key q) ≡ bytes_cmp key q
prefix_order prefix other key q is also =
    by_cases prefix other
    (λ less o. ap (λ (r : Ordering). ordering_then r (bytes_cmp key q)) o ∙ sym (below_by_prefix prefix other key q is also less))
    (λ same o. ap (λ (r : Ordering). ordering_then r (bytes_cmp key q)) o)
    (λ greater o. ap (λ (r : Ordering). ordering_then r (bytes_cmp key q)) o
    ∙ sym (nat_list_cmp_total.antisymm key q ∙ turned (bytes_cmp q key) (below_by_prefix other prefix q key also is greater)))
