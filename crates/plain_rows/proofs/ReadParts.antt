-- The rows of a content, one read after another.
use Rattle.std.proofs.Common.{◌≡◌, ℕ, suc, ◌+◌, ◌-◌, ◌<◌, ◌≤◌, Bool, List, [], ◌∷◌, ◌++◌, map, Ok, Err, refl, sym, ap, ◌∙◌, append_assoc, append-nil, arith}
use Rattle.byte_fields.specs.Reading.{Reading, ◌>>=◌}
use Rattle.payload_merge.specs.declared.row.Row.{Row}
use Rattle.payload_merge.specs.declared.row.Write.{Write}
use Rattle.payload_merge.specs.declared.row.Write.TheVariants.{Put}
use Rattle.plain_rows.specs.Contents.{row_at, rows_at}
use Rattle.block_contents.specs.Readers.{Fails}
use Rattle.plain_rows.specs.Readers.{with_before}
use Rattle.block_contents.specs.declared.read_error.ReadError.{ReadError}
use Rattle.block_contents.specs.declared.read_error.ReadError.TheVariants.{Memory, Field}

regrouped : (before : List Write) (row : Row) (read : Reading (List Row))
    → with_before before (read >>= λ x. Ok (row ∷ x.0, x.1)) ≡ with_before (before ++ Put row ∷ []) read
regrouped before row (Ok x) = ap (λ (writes : List Write). Ok (writes, x.1)) (sym (append_assoc before (Put row ∷ []) (map Put x.0)))
regrouped before row (Err error) = refl

-- one row more
pub rows_more : (instant : ℕ) (partition : List ℕ) (told : Bool) (before : List Write) (count i : ℕ) (bytes : List ℕ) (row : Row) (after : List ℕ)
    (all : Reading (List Write)) → i < count → row_at instant partition told i bytes ≡ Ok (row, after)
    → with_before before (rows_at instant partition told i (count - i) bytes) ≡ all
    → with_before (before ++ Put row ∷ []) (rows_at instant partition told (i + 1) (count - (i + 1)) after) ≡ all
unfolding rows_at
rows_more instant partition told before count i bytes row after all lt found so_far =
    let k : count - i ≡ suc (count - (i + 1)) = omega arith in
    let one : with_before before (rows_at instant partition told i (count - i) bytes)
    ≡ with_before (before ++ Put row ∷ []) (rows_at instant partition told (i + 1) (count - (i + 1)) after) =
    rw (k, found) (regrouped before row (rows_at instant partition told (i + 1) (count - (i + 1)) after)) in
    sym one ∙ so_far

-- a row that isn't read
pub rows_stop : (instant : ℕ) (partition : List ℕ) (told : Bool) (error : ReadError) (before : List Write) (count i : ℕ) (bytes : List ℕ)
    (all : Reading (List Write)) → i < count → Fails error (row_at instant partition told i bytes)
    → with_before before (rows_at instant partition told i (count - i) bytes) ≡ all → Fails error all
unfolding rows_at
rows_stop instant partition told Memory before count i bytes all lt fails so_far = tt
rows_stop instant partition told (Field error) before count i bytes all lt fails so_far =
    let k : count - i ≡ suc (count - (i + 1)) = omega arith in
    let none : with_before before (rows_at instant partition told i (count - i) bytes) ≡ Err error = rw (k, fails) refl in
    sym so_far ∙ none

-- all of them
pub rows_end : (instant : ℕ) (partition : List ℕ) (told : Bool) (before : List Write) (count i : ℕ) (bytes : List ℕ) (all : Reading (List Write))
    → count ≤ i → with_before before (rows_at instant partition told i (count - i) bytes) ≡ all → all ≡ Ok (before, bytes)
unfolding rows_at
rows_end instant partition told before count i bytes all le so_far =
    let k : count - i ≡ 0 = omega arith in
    let one : with_before before (rows_at instant partition told i (count - i) bytes) ≡ Ok (before, bytes) =
    rw k (ap (λ (writes : List Write). Ok (writes, bytes)) (append-nil before)) in
    sym so_far ∙ one
