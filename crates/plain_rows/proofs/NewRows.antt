-- Which fields make rows, and why the others make none.
use Rattle.std.proofs.Common.{◌≡◌, ◌≤◌, ◌<◌, ◌⊎◌, inl, inr, ℕ, ℤ, true, false, ◌&&◌, leb, List, length, Ok, Err, ap, ◌∙◌}
use Rattle.std.proofs.lemmas.Bool.{and_from, and_right, le-leb, lt-leb}
use Rattle.table_core.specs.declared.job_reply.RowCause.TheVariants.{NoKey, TooLarge}
use Rattle.table_jobs.specs.NewRows.{is_record_key}
use Rattle.plain_rows.specs.PlainValues.{row_of_fields}
use Rattle.plain_rows.specs.NewRowLaws.{by_tests, row_by_tests, the_row}

is_key : (key : List ℕ) → 1 ≤ length key → length key ≤ 1000 → is_record_key key ≡ true
is_key key filled short = and_from (leb 1 (length key)) (leb (length key) 1000) (le-leb 1 (length key) filled) (le-leb (length key) 1000 short)

is_no_key : (key : List ℕ) → (length key ≡ 0) ⊎ (1000 < length key) → is_record_key key ≡ false
is_no_key key (inl empty) = ap (λ n. leb 1 n && leb n 1000) empty
is_no_key key (inr long) = and_right (leb 1 (length key)) (leb (length key) 1000) (lt-leb (length key) 1000 long)

-- fields that are as long as they may be make the row
pub fields_row : (key : List ℕ) (rank : ℤ) (body : List ℕ) → 1 ≤ length key → length key ≤ 1000 → length body ≤ 65_536 → row_of_fields key rank body ≡ Ok (the_row key rank body)
fields_row key rank body filled short small =
    by_tests key rank body
    ∙ ap (λ b. row_by_tests key rank body b (leb (length body) 65536)) (is_key key filled short)
    ∙ ap (row_by_tests key rank body true) (le-leb (length body) 65536 small)

pub fields_keyless : (key : List ℕ) (rank : ℤ) (body : List ℕ) → (length key ≡ 0) ⊎ (1000 < length key) → row_of_fields key rank body ≡ Err NoKey
fields_keyless key rank body bad =
    by_tests key rank body ∙ ap (λ b. row_by_tests key rank body b (leb (length body) 65536)) (is_no_key key bad)

pub fields_large : (key : List ℕ) (rank : ℤ) (body : List ℕ) → 1 ≤ length key → length key ≤ 1000 → 65_536 < length body → row_of_fields key rank body ≡ Err TooLarge
fields_large key rank body filled short large =
    by_tests key rank body
    ∙ ap (λ b. row_by_tests key rank body b (leb (length body) 65536)) (is_key key filled short)
    ∙ ap (row_by_tests key rank body true) (lt-leb (length body) 65536 large)
