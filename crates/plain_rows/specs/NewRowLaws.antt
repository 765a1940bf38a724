-- The law of new rows: those that values make are the table's own.
use Rattle.std.proofs.Common.{◌≡◌, ℕ, ℤ, Bool, true, false, cond, leb, List, [], ◌∷◌, codes, length, Result, Ok, Err, refl, sym, subst, rules}
use Rattle.std.specs.Prelude.{IfOk, IsUtf8}
use Rattle.std.proofs.lemmas.Bool.{and_parts, leb-true}
use Rattle.hudi_base.specs.InstantTime.{first_time}
use Rattle.hudi_base.specs.declared.value.Value.{Value, Text, Long, Record, the_lemmas}
use Rattle.payload_merge.specs.declared.row.Row.{Row}
use Rattle.table_core.specs.declared.job_reply.RowCause.{RowCause}
use Rattle.table_core.specs.declared.job_reply.RowCause.TheVariants.{NoKey, TooLarge}
use Rattle.table_jobs.specs.NewRows.{IsNewRow, is_record_key, row_of_parts}
use Rattle.table_jobs.proofs.Paths.{path_from_test}
use Rattle.plain_rows.specs.OwnRows.{IsOwn}
use Rattle.plain_rows.specs.PlainValues.{IsPlainValue, row_of_fields, row_of_value}

abbrev pub the_row : List ℕ → ℤ → List ℕ → Row
the_row key rank body = record { partition = codes "x"; key = key; rank = rank; commit = first_time; seq = 0; body = body }

-- the row of such fields, by what their tests tell
abbrev pub row_by_tests : List ℕ → ℤ → List ℕ → Bool → Bool → Result Row RowCause
row_by_tests key rank body keyed sized = cond keyed (cond sized (Ok (the_row key rank body)) (Err TooLarge)) (Err NoKey)

pub by_tests : (key : List ℕ) (rank : ℤ) (body : List ℕ) → row_of_fields key rank body ≡ row_by_tests key rank body (is_record_key key) (leb (length body) 65536)
unfolding row_of_parts
by_tests key rank body = refl

own_by_tests : (key : List ℕ) (rank : ℤ) (body : List ℕ) (keyed sized : Bool) → is_record_key key ≡ keyed → leb (length body) 65536 ≡ sized → IsUtf8 key → IsUtf8 body
    → IfOk (row_by_tests key rank body keyed sized) (IsNewRow IsOwn)
own_by_tests key rank body true true is_key is_short key_text body_text =
    let both = and_parts (leb 1 (length key)) (leb (length key) 1000) is_key in
    record {
      placed = path_from_test (codes "x") refl;
      own = λ t seq. record { key_from = leb-true _ _ both.0; key_to = leb-true _ _ both.1; body_to = leb-true _ _ is_short; key_text = key_text; body_text = body_text };
    }
own_by_tests key rank body true false is_key is_short key_text body_text = tt
own_by_tests key rank body false sized is_key is_short key_text body_text = tt

fields_own : (key : List ℕ) (rank : ℤ) (body : List ℕ) → IsUtf8 key → IsUtf8 body → IfOk (row_of_fields key rank body) (IsNewRow IsOwn)
fields_own key rank body key_text body_text =
    subst (λ (made : Result Row RowCause). IfOk made (IsNewRow IsOwn)) (sym (by_tests key rank body))
    (own_by_tests key rank body (is_record_key key) (leb (length body) 65536) refl refl key_text body_text)

-- the row of a record of these fields
pub value_row : (key : List ℕ) (rank : ℤ) (body : List ℕ) → row_of_value (Record (Text key ∷ Long rank ∷ Text body ∷ [])) ≡ row_of_fields key rank body
value_row key rank body = search (rules, the_lemmas)

pub made_own : (v : Value) → IsPlainValue v → IfOk (row_of_value v) (IsNewRow IsOwn)
made_own v plain =
    subst (λ (u : Value). IfOk (row_of_value u) (IsNewRow IsOwn)) (sym plain.is)
    (subst (λ (made : Result Row RowCause). IfOk made (IsNewRow IsOwn)) (sym (value_row plain.key plain.rank plain.body)) (fields_own plain.key plain.rank plain.body plain.key_text plain.body_text))
