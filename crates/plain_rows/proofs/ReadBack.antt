-- What is written of rows is read back.
use Rattle.std.proofs.Common.{◌≡◌, ℕ, suc, ◌+◌, ◌<◌, ◌≤◌, ◌^◌, Bool, true, false, ◌&&◌, not, leb, eqb, List, [], ◌∷◌, ◌++◌, length, Result, Ok, All, refl, sym, ap, subst, ◌∙◌, append_assoc, arith}
use Rattle.std.specs.Prelude.{ℤ, pos, negsuc, FitsSigned}
use Rattle.std.specs.Int.{cast_unsigned, w64}
use Rattle.std.specs.List.{flat_map}
use Rattle.std.proofs.lemmas.Bool.{and_from, and_parts, eqb-true, le-leb}
use Rattle.std.proofs.lemmas.Int.{to_z-of_z}
use Rattle.std.proofs.lemmas.List.{append-nil}
use Rattle.std.proofs.lemmas.Str.{is_utf8-from_IsUtf8}
use Rattle.std.specs.Str.{IsUtf8, is_utf8}
use Rattle.std.proofs.lemmas.List.Elements.{All-head, All-tail}
use Rattle.byteorder.specs.Endian.{big_bytes, big_number}
use Rattle.byte_fields.specs.Numbers.{number_at, signed_at}
use Rattle.byte_fields.specs.Prefixed.{prefixed_at, with_length}
use Rattle.byte_fields.specs.Reading.{Reading, ◌>>=◌, only_if}
use Rattle.byte_fields.specs.declared.field_error.FieldError.{FieldError}
use Rattle.byte_fields.proofs.NumberLemmas.{big4, big8, number_at_again}
use Rattle.byte_fields.proofs.PrefixedLemmas.{prefixed_at_again, number_length}
use Rattle.byte_fields.proofs.ReadingLemmas.{bind_is, only_if_is}
use Rattle.block_contents.specs.Contents.{with_offset}
use Rattle.payload_merge.specs.Contents.{AreRowsOf, DataPlace}
use Rattle.payload_merge.specs.declared.row.Row.{Row}
use Rattle.plain_rows.specs.Contents.{are_in_order, content_at, content_bytes, place_at, place_bytes, row_at, row_bytes, rows_at, rows_in, sized_at, told_at, told_bytes, version}
use Rattle.plain_rows.specs.OwnRows.{IsOwn, is_sized_text, most_body_bytes, most_key_bytes}
use Rattle.plain_rows.specs.Readers.{IsInRange}

-- ---- fields

cast_unsigned-below : (rank : ℤ) → FitsSigned w64 rank → cast_unsigned w64 rank < 2 ^ 64
cast_unsigned-below (pos n) fits = omega (arith, fits.sfits)
cast_unsigned-below (negsuc n) fits = omega arith

rank_again : (rank : ℤ) (rest : List ℕ) → FitsSigned w64 rank → signed_at big_number w64 8 (big_bytes 8 (cast_unsigned w64 rank) ++ rest) ≡ Ok (rank, rest)
unfolding signed_at
rank_again rank rest fits =
    bind_is (number_at big_number 8 (big_bytes 8 (cast_unsigned w64 rank) ++ rest)) (cast_unsigned w64 rank, rest) _ (number_at_again big_number big_bytes 8 (cast_unsigned w64 rank) rest big8 (cast_unsigned-below rank fits))
    ∙ ap (λ (z : ℤ). let found : Reading ℤ = Ok (z, rest) in found) (to_z-of_z w64 rank fits)

pub sized_is : (least most : ℕ) (text : List ℕ) → least ≤ length text → length text ≤ most → IsUtf8 text → is_sized_text least most text ≡ true
sized_is least most text from to is =
    and_from (leb least (length text) && leb (length text) most) (is_utf8 text) (and_from (leb least (length text)) (leb (length text) most) (le-leb _ _ from) (le-leb _ _ to)) (is_utf8-from_IsUtf8 text is)

sized_again : (least most : ℕ) (text rest : List ℕ) → least ≤ length text → length text ≤ most → IsUtf8 text → most < 2 ^ 32 → sized_at least most (with_length (big_bytes 4) text ++ rest) ≡ Ok (text, rest)
unfolding sized_at
sized_again least most text rest from to is small =
    let bytes = with_length (big_bytes 4) text ++ rest in
    bind_is (prefixed_at (number_at big_number 4) bytes) (text, rest) (λ found. only_if (is_sized_text least most found.0) bytes found)
    (prefixed_at_again (number_at big_number 4) (big_bytes 4) text rest (number_length big_number big_bytes 4 (length text) big4 (omega arith)))
    ∙ only_if_is (is_sized_text least most text) bytes (text, rest) (sized_is least most text from to is)

place_again : (told : Bool) (place seq : ℕ) (rest : List ℕ) → seq < 2 ^ 32 → (told ≡ false → seq ≡ place) → place_at told place (place_bytes told seq ++ rest) ≡ Ok (seq, rest)
unfolding place_at
place_again true place seq rest small stands = number_at_again big_number big_bytes 4 seq rest big4 small
place_again false place seq rest small stands = ap (λ (n : ℕ). let found : Reading ℕ = Ok (n, rest) in found) (sym (stands refl))

-- ---- rows

row_again : (told : Bool) (place : ℕ) (row : Row) (rest : List ℕ) → IsOwn row → IsInRange row → (told ≡ false → row.seq ≡ place)
    → row_at row.commit row.partition told place (row_bytes told row ++ rest) ≡ Ok (row, rest)
unfolding row_at row_bytes
row_again told place row rest own range stands =
    let key = with_length (big_bytes 4) row.key in
    let rank = big_bytes 8 (cast_unsigned w64 row.rank) in
    let body = with_length (big_bytes 4) row.body in
    let after2 = body ++ rest in
    let after1 = rank ++ after2 in
    let after0 = key ++ after1 in
    let grouped : (place_bytes told row.seq ++ (key ++ (rank ++ body))) ++ rest ≡ place_bytes told row.seq ++ after0 =
    append_assoc (place_bytes told row.seq) (key ++ (rank ++ body)) rest
    ∙ ap (λ (t : List ℕ). place_bytes told row.seq ++ t) (append_assoc key (rank ++ body) rest ∙ ap (λ (t : List ℕ). key ++ t) (append_assoc rank body rest)) in
    ap (row_at row.commit row.partition told place) grouped
    ∙ bind_is (place_at told place (place_bytes told row.seq ++ after0)) (row.seq, after0) _ (place_again told place row.seq after0 range.seq stands)
    ∙ bind_is (sized_at 1 most_key_bytes after0) (row.key, after1) _ (sized_again 1 most_key_bytes row.key after1 own.key_from own.key_to own.key_text (omega arith))
    ∙ bind_is (signed_at big_number w64 8 after1) (row.rank, after2) _ (rank_again row.rank after2 range.rank)
    ∙ bind_is (sized_at 0 most_body_bytes after2) (row.body, rest) _ (sized_again 0 most_body_bytes row.body rest (omega arith) own.body_to own.body_text (omega arith))

-- where places aren't told, the rows stand in order
abbrev Stand : Bool → ℕ → List Row → Type 0
Stand told place rows = told ≡ false → are_in_order place rows ≡ true

rows_again : (instant : ℕ) (partition : List ℕ) (told : Bool) (place : ℕ) (rows : List Row) (rest : List ℕ) → All IsOwn rows → All IsInRange rows → AreRowsOf instant partition rows → Stand told place rows
    → rows_at instant partition told place (length rows) (flat_map (row_bytes told) rows ++ rest) ≡ Ok (rows, rest)
unfolding rows_at
rows_again instant partition told place [] rest own range placed stand = refl
rows_again instant partition told place (row ∷ rows) rest own range placed stand =
    let Placed : Row → Type 0 = λ one. (one.commit ≡ instant) × (one.partition ≡ partition) in
    let at = All-head Placed row rows placed in
    let after = flat_map (row_bytes told) rows ++ rest in
    let parts = λ (untold : told ≡ false). and_parts (eqb row.seq place) (are_in_order (place + 1) rows) (stand untold) in
    let here : row_at row.commit row.partition told place (row_bytes told row ++ after) ≡ Ok (row, after) =
    row_again told place row after (All-head IsOwn row rows own) (All-head IsInRange row rows range) (λ untold. eqb-true row.seq place (parts untold).0) in
    let first : row_at instant partition told place (row_bytes told row ++ after) ≡ Ok (row, after) =
    subst (λ (t : ℕ). row_at t partition told place (row_bytes told row ++ after) ≡ Ok (row, after)) at.0
    (subst (λ (p : List ℕ). row_at row.commit p told place (row_bytes told row ++ after) ≡ Ok (row, after)) at.1 here) in
    let last : Row × List ℕ → List Row × List ℕ → Reading (List Row) = λ one others. Ok (one.0 ∷ others.0, others.1) in
    ap (rows_at instant partition told place (suc (length rows))) (append_assoc (row_bytes told row) (flat_map (row_bytes told) rows) rest)
    ∙ bind_is (row_at instant partition told place (row_bytes told row ++ after)) (row, after) (λ one. rows_at instant partition told (place + 1) (length rows) one.1 >>= last one) first
    ∙ bind_is (rows_at instant partition told (place + 1) (length rows) after) (rows, rest) (last (row, after))
    (rows_again instant partition told (place + 1) rows rest (All-tail IsOwn row rows own) (All-tail IsInRange row rows range) (All-tail Placed row rows placed) (λ untold. (parts untold).1))

-- ---- contents

told_again : (told : Bool) (rest : List ℕ) → told_at (big_bytes 4 (version told) ++ rest) ≡ Ok (told, rest)
unfolding told_at
told_again true rest = bind_is (number_at big_number 4 (big_bytes 4 4 ++ rest)) (4, rest) _ (number_at_again big_number big_bytes 4 4 rest big4 (omega arith))
told_again false rest = bind_is (number_at big_number 4 (big_bytes 4 3 ++ rest)) (3, rest) _ (number_at_again big_number big_bytes 4 3 rest big4 (omega arith))

told_content_again : (instant : ℕ) (partition : List ℕ) (told : Bool) (rows : List Row) → length rows < 2 ^ 32 → All IsOwn rows → All IsInRange rows → AreRowsOf instant partition rows → Stand told 0 rows
    → content_at instant partition (told_bytes told rows) ≡ Ok rows
unfolding content_at told_bytes
told_content_again instant partition told rows few own range placed stand =
    let items = flat_map (row_bytes told) rows in
    let after = big_bytes 4 (length rows) ++ items in
    let last : List Row × List ℕ → Result (List Row) FieldError = λ found. only_if (eqb (length found.1) 0) found.1 found.0 in
    bind_is (told_at (big_bytes 4 (version told) ++ after)) (told, after) _ (told_again told after)
    ∙ bind_is (number_at big_number 4 after) (length rows, items) _ (number_at_again big_number big_bytes 4 (length rows) items big4 few)
    ∙ bind_is (rows_at instant partition told 0 (length rows) items) (rows, []) last
    (ap (rows_at instant partition told 0 (length rows)) (sym (append-nil items)) ∙ rows_again instant partition told 0 rows [] own range placed stand)

not-false : (b : Bool) → not b ≡ false → b ≡ true
not-false true e = refl
not-false false e = absurd cc

pub content_again : (place : DataPlace) (rows : List Row) (content : List ℕ) → content ≡ content_bytes rows → length rows < 2 ^ 32 → All IsOwn rows → All IsInRange rows
    → AreRowsOf place.instant place.partition rows → rows_in place content ≡ Ok rows
content_again place rows content same few own range placed =
    ap (with_offset (length content))
    (ap (content_at place.instant place.partition) same
    ∙ told_content_again place.instant place.partition (not (are_in_order 0 rows)) rows few own range placed (not-false (are_in_order 0 rows)))
