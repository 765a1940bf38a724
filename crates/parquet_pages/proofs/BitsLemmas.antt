-- Lists of which the first so many are wanted, and bits in bytes.
use Rattle.std.proofs.Common.{◌≡◌, ℕ, zero, suc, ◌+◌, ◌-◌, ◌<◌, ◌≤◌, Bool, List, [], ◌∷◌, ◌++◌, length, get_or, take, drop, min, replicate, refl, sym, ap, ◌∙◌, append_assoc, add-one, arith, inl, inr}
use Rattle.std.proofs.Math.Seq.{take-append-add, take-length, drop-cons, drop-length}
use Rattle.std.proofs.Math.ListN.{drop_of_length-le}
use Rattle.std.proofs.lemmas.Bool.{cases_lt}
use Rattle.std.proofs.lemmas.List.{append-nil, length-drop, length-replicate, take-replicate}
use Rattle.parquet_pages.specs.Levels.{byte_bits, bits_of}
use Rattle.parquet_pages.specs.Plain.{bits_number, bit_bytes, bytes_for}

-- ---- the first so many

pub take_all : {A : Type 0} (n : ℕ) (xs : List A) → length xs ≤ n → take n xs ≡ xs
take_all zero [] le = refl
take_all zero (x ∷ xs) le = absurd (omega arith)
take_all (suc n) [] le = refl
take_all (suc n) (x ∷ xs) le = ap (λ ys. x ∷ ys) (take_all n xs (omega arith))

-- what there is room for
pub take_room : {A : Type 0} (most : ℕ) (xs ys : List A) → length xs ≤ most → take most (xs ++ ys) ≡ xs ++ take (most - length xs) ys
take_room most xs ys le =
    let e : most ≡ length xs + (most - length xs) = omega arith in
    ap (λ (n : ℕ). take n (xs ++ ys)) e ∙ take-append-add xs ys (most - length xs)

pub take_min : {A : Type 0} (n : ℕ) (xs : List A) → take (min n (length xs)) xs ≡ take n xs
take_min n xs =
    elim (cases_lt n (length xs)) [
      | inl lt ↦ (let e : min n (length xs) ≡ n = omega arith in ap (λ (k : ℕ). take k xs) e)
      | inr le ↦ (let e : min n (length xs) ≡ length xs = omega arith in ap (λ (k : ℕ). take k xs) e ∙ take-length xs ∙ sym (take_all n xs le))
    ]

-- taking in two steps
pub take_take : {A : Type 0} (n : ℕ) (xs ys : List A) → take n (take n xs ++ ys) ≡ take n (xs ++ ys)
take_take zero xs ys = refl
take_take (suc n) [] ys = refl
take_take (suc n) (x ∷ xs) ys = ap (λ zs. x ∷ zs) (take_take n xs ys)

pub take_times : {A : Type 0} (room times : ℕ) (x : A) → take room (replicate times x) ≡ replicate (min room times) x
take_times room times x =
    elim (cases_lt room times) [
      | inl lt ↦ (let e : min room times ≡ room = omega arith in take-replicate room times x (omega arith) ∙ ap (λ (k : ℕ). replicate k x) (sym e))
      | inr le ↦ (let e : min room times ≡ times = omega arith in take_all room (replicate times x) (omega (arith, length-replicate times x)) ∙ ap (λ (k : ℕ). replicate k x) (sym e))
    ]

-- ---- bits added to a vector

pub byte_added : {A : Type 0} (most n len : ℕ) (xs ys eight new : List A) → length xs ≤ most → len ≡ length xs → n ≡ min (most - len) 8 → length ys ≡ 8 → eight ≡ ys → new ≡ xs ++ take n eight → new ≡ take most (xs ++ ys)
byte_added most n len xs ys eight new le at least eight_long same added =
    let fits : n ≡ min (most - length xs) (length ys) = omega (arith, at, least, eight_long) in
    added
    ∙ ap (λ (t : List _). xs ++ take n t) same
    ∙ ap (λ (k : ℕ). xs ++ take k ys) fits
    ∙ ap (λ (t : List _). xs ++ t) (take_min (most - length xs) ys)
    ∙ sym (take_room most xs ys le)

pub times_added : {A : Type 0} (most len vec_len added times : ℕ) (x : A) (xs new : List A) → length xs ≤ most → len ≡ length xs → vec_len ≡ length xs → added ≡ min (most - len) times → new ≡ take (len + added) xs ++ replicate (len + added - vec_len) x → new ≡ take most (xs ++ replicate times x)
times_added most len vec_len added times x xs new le at also least made =
    let count : len + added - vec_len ≡ min (most - length xs) times = omega (arith, at, least) in
    made
    ∙ ap (λ (t : List _). t ++ replicate (len + added - vec_len) x) (take_all (len + added) xs (omega arith))
    ∙ ap (λ (k : ℕ). xs ++ replicate k x) count
    ∙ ap (λ (t : List _). xs ++ t) (sym (take_times (most - length xs) times x))
    ∙ sym (take_room most xs (replicate times x) le)

-- ---- bits of bytes

bits_of-step : (i : ℕ) (bytes : List ℕ) → i < length bytes → bits_of (drop i bytes) ≡ byte_bits (get_or bytes i 0) ++ bits_of (drop (i + 1) bytes)
unfolding bits_of
bits_of-step i bytes lt = ap bits_of (drop-cons bytes i 0 lt) ∙ ap (λ (k : ℕ). byte_bits (get_or bytes i 0) ++ bits_of (drop k bytes)) (sym (add-one i))

pub bytes_step : (most i : ℕ) (bytes : List ℕ) (old new whole : List Bool) → i < length bytes → new ≡ take most (old ++ byte_bits (get_or bytes i 0)) → take most (old ++ bits_of (drop i bytes)) ≡ whole → take most (new ++ bits_of (drop (i + 1) bytes)) ≡ whole
bytes_step most i bytes old new whole lt added kept =
    let more : List Bool = bits_of (drop (i + 1) bytes) in
    let byte : List Bool = byte_bits (get_or bytes i 0) in
    ap (λ (t : List Bool). take most (t ++ more)) added
    ∙ take_take most (old ++ byte) more
    ∙ ap (take most) (append_assoc old byte more)
    ∙ ap (λ (t : List Bool). take most (old ++ t)) (sym (bits_of-step i bytes lt))
    ∙ kept

pub bytes_end : (most i : ℕ) (bytes : List ℕ) (old whole : List Bool) → length bytes ≤ i → length old ≤ most → take most (old ++ bits_of (drop i bytes)) ≡ whole → old ≡ whole
unfolding bits_of
bytes_end most i bytes old whole past le kept =
    sym (ap (take most) (append-nil old) ∙ take_all most old le)
    ∙ ap (λ (t : List ℕ). take most (old ++ bits_of t)) (sym (drop_of_length-le bytes past))
    ∙ kept

-- ---- bytes of bits

drop_min : {A : Type 0} (n : ℕ) (xs : List A) → drop (min n (length xs)) xs ≡ drop n xs
drop_min n xs =
    elim (cases_lt n (length xs)) [
      | inl lt ↦ (let e : min n (length xs) ≡ n = omega arith in ap (λ (k : ℕ). drop k xs) e)
      | inr le ↦ (let e : min n (length xs) ≡ length xs = omega arith in ap (λ (k : ℕ). drop k xs) e ∙ drop-length xs ∙ sym (drop_of_length-le xs le))
    ]

pub bit_bytes-step : (k : ℕ) (bits : List Bool) → 0 < length bits → k ≡ min 8 (length bits) → bit_bytes (bytes_for (length bits)) bits ≡ bits_number (take k bits) ∷ bit_bytes (bytes_for (length (drop k bits))) (drop k bits)
unfolding bit_bytes
bit_bytes-step k bits some is =
    let left : length (drop k bits) ≡ length bits - k = length-drop k bits in
    let one : bytes_for (length bits) ≡ suc (bytes_for (length bits - k)) = omega (arith, is) in
    ap (λ (n : ℕ). bit_bytes n bits) one
    ∙ ap (λ (t : List Bool). bits_number t ∷ bit_bytes (bytes_for (length bits - k)) (drop 8 bits)) (sym (take_min 8 bits) ∙ ap (λ (n : ℕ). take n bits) (sym is))
    ∙ ap (λ (t : List Bool). bits_number (take k bits) ∷ bit_bytes (bytes_for (length bits - k)) t) (sym (drop_min 8 bits) ∙ ap (λ (n : ℕ). drop n bits) (sym is))
    ∙ ap (λ (n : ℕ). bits_number (take k bits) ∷ bit_bytes (bytes_for n) (drop k bits)) (sym left)

pub bit_bytes-none : (bits : List Bool) → length bits ≡ 0 → bit_bytes (bytes_for (length bits)) bits ≡ []
unfolding bit_bytes
bit_bytes-none bits none = (let e : bytes_for (length bits) ≡ 0 = omega (arith, none) in ap (λ (n : ℕ). bit_bytes n bits) e)

pub bits_step : (k : ℕ) (out new whole : List ℕ) (rest front after : List Bool) (byte : ℕ) → 0 < length rest → k ≡ min (length rest) 8 → front ≡ take k rest → after ≡ drop k rest → byte ≡ bits_number front → new ≡ out ++ byte ∷ [] → out ++ bit_bytes (bytes_for (length rest)) rest ≡ whole → new ++ bit_bytes (bytes_for (length after)) after ≡ whole
bits_step k out new whole rest front after byte some is first then number added kept =
    let least : k ≡ min 8 (length rest) = omega (arith, is) in
    let tail : List ℕ = bit_bytes (bytes_for (length (drop k rest))) (drop k rest) in
    ap (λ (t : List ℕ). t ++ bit_bytes (bytes_for (length after)) after) added
    ∙ ap (λ (t : List Bool). (out ++ byte ∷ []) ++ bit_bytes (bytes_for (length t)) t) then
    ∙ append_assoc out (byte ∷ []) tail
    ∙ ap (λ (b : ℕ). out ++ b ∷ tail) (number ∙ ap bits_number first)
    ∙ ap (λ (t : List ℕ). out ++ t) (sym (bit_bytes-step k rest some least))
    ∙ kept
