-- Readings of fields stay within them.
use Rattle.std.proofs.Common.{◌≡◌, ℕ, ◌≤◌, Bool, true, false, List, length, Option, Some, None, Ok, Err, ℤ, pos, refl, arith, zero, suc, ◌<◌, ◌∷◌, subst}
use Rattle.std.specs.Prelude.{◌==◌, if◌then◌else◌}
use Rattle.byte_fields.specs.declared.field_error.FieldError.TheVariants.{Bad}
use Rattle.byte_fields.specs.Reading.{Reading, ◌>>=◌, only_some, only_if}
use Rattle.byte_fields.specs.Varints.{zigzag_at}
use Rattle.thrift_compact.specs.Within.{Within, Stays, TakeStays}
use Rattle.thrift_compact.specs.Values.{value_at, struct_at}
use Rattle.thrift_compact.specs.Heads.{list_at}
use Rattle.thrift_compact.proofs.FieldsLemmas.{fields_at-shorter}
use Rattle.thrift_compact.proofs.WithinLemmas.{Within-weaken, Within-then, Within-if, zigzag_at_stays, value_at_stays, Within-only_if, binary_stays, list_at_stays, fields_at_stays}
use Rattle.parquet_meta.specs.Reading.{is_number, binary_at, typed_at, i32_field_at, i64_field_at, binary_field_at, list_field_at, list_of_at, items_at, with_value, other_field_at, whole_at}
use Rattle.parquet_meta.specs.PageHeaders.{data_page_field_at, no_data_page_fields, data_page_of, page_header_field_at}
use Rattle.parquet_meta.specs.Footers.{element_field_at, no_element_fields, element_of, element_at, column_meta_field_at, no_column_meta_fields, column_meta_of, chunk_field_at, no_chunk_fields, chunk_of, chunk_at, row_group_field_at, no_row_group_fields, row_group_of, row_group_at, file_meta_field_at}

pub typed_stays : {A : Type 0} (wanted : ℕ) (read : List ℕ → Reading A) → Stays read → (kind left : ℕ) (bytes : List ℕ) → length bytes ≤ left → Within left (length bytes) (typed_at wanted read kind left bytes)
typed_stays {A} wanted read stays kind left bytes le = Within-if {A = A} left (length bytes) (kind == wanted) (read bytes) (Err (Bad left)) (Within-weaken (length bytes) (length bytes) left (length bytes) (read bytes) le (omega arith) (stays bytes)) (omega arith)

pub with_value_stays : {A S : Type 0} (l m : ℕ) (set : A → S) (r : Reading A) → Within l m r → Within l m (with_value set r)
with_value_stays l m set (Ok x) h = h
with_value_stays l m set (Err error) h = h

pub other_stays : {S : Type 0} (so_far : S) (kind left : ℕ) (bytes : List ℕ) → length bytes ≤ left → Within left (length bytes) (other_field_at so_far kind bytes)
other_stays so_far kind left bytes le = Within-then left (length bytes) (length bytes) (value_at 32 kind bytes) (λ found. Ok (so_far, found.1)) (Within-weaken (length bytes) (length bytes) left (length bytes) (value_at 32 kind bytes) le (omega arith) (value_at_stays 32 kind bytes)) (λ found h. h)

-- a field of a known id, or the rest
pub one_of_stays : {A S : Type 0} (test : Bool) (left : ℕ) (bytes : List ℕ) (set : A → S) (r : Reading A) (others : Reading S) → Within left (length bytes) r → Within left (length bytes) others → Within left (length bytes) (if test then with_value set r else others)
one_of_stays true left bytes set r others h k = with_value_stays left (length bytes) set r h
one_of_stays false left bytes set r others h k = k

pub i32_stays : (kind left : ℕ) (bytes : List ℕ) → length bytes ≤ left → Within left (length bytes) (i32_field_at kind left bytes)
i32_stays kind left bytes le = typed_stays 5 (zigzag_at 32) (zigzag_at_stays 32) kind left bytes le

pub i64_stays : (kind left : ℕ) (bytes : List ℕ) → length bytes ≤ left → Within left (length bytes) (i64_field_at kind left bytes)
i64_stays kind left bytes le = typed_stays 6 (zigzag_at 64) (zigzag_at_stays 64) kind left bytes le

pub binary_field_stays : (kind left : ℕ) (bytes : List ℕ) → length bytes ≤ left → Within left (length bytes) (binary_field_at kind left bytes)
binary_field_stays kind left bytes le = typed_stays 8 binary_at binary_stays kind left bytes le

-- ---- structs and lists

pub whole_stays : {S A : Type 0} (take : S → ℤ → ℕ → ℕ → List ℕ → Reading S) (nothing : S) (whole : S → Option A) → TakeStays take → Stays (whole_at take nothing whole)
whole_stays {S} {A} take nothing whole stays bytes = from (struct_at take nothing bytes) refl
  where
    ended : (o : Option A) (rest : List ℕ) → length rest < length bytes → Within (length bytes) (length bytes) (only_some o (0 ∷ rest) >>= λ x. Ok (x, rest))
    ended (Some x) rest less = omega arith
    ended None rest less = omega arith

    from : (r : Reading S) → struct_at take nothing bytes ≡ r → Within (length bytes) (length bytes) (r >>= λ found. only_some (whole found.0) (0 ∷ found.1) >>= λ x. Ok (x, found.1))
    from (Ok found) e = ended (whole found.0) found.1 (fields_at-shorter take stays (length bytes) (pos 0) nothing found.0 bytes found.1 e)
    from (Err error) e = subst (Within {A = S} (length bytes) (length bytes)) e (fields_at_stays take stays (length bytes) (pos 0) nothing bytes)

items_stays : {A : Type 0} (read : List ℕ → Reading A) → Stays read → (count : ℕ) → Stays (items_at read count)
unfolding items_at
items_stays read stays zero bytes = omega arith
items_stays read stays (suc count) bytes =
    Within-then (length bytes) (length bytes) (length bytes) (read bytes) (λ first. items_at read count first.1 >>= λ more. Ok (first.0 ∷ more.0, more.1)) (stays bytes)
    (λ first le. Within-then (length bytes) (length bytes) (length bytes) (items_at read count first.1) (λ more. Ok (first.0 ∷ more.0, more.1)) (Within-weaken (length first.1) (length first.1) (length bytes) (length bytes) (items_at read count first.1) le le (items_stays read stays count first.1)) (λ more le'. le'))

list_of_stays : {A : Type 0} (wanted : ℕ) (read : List ℕ → Reading A) → Stays read → Stays (list_of_at wanted read)
unfolding list_of_at
list_of_stays wanted read stays bytes =
    Within-then (length bytes) (length bytes) (length bytes) (list_at bytes) (λ head. only_if (head.0.0 == wanted) bytes head >>= λ head. items_at read head.0.1 head.1) (list_at_stays bytes)
    (λ head le. Within-then (length bytes) (length bytes) (length bytes) (only_if (head.0.0 == wanted) bytes head) (λ head. items_at read head.0.1 head.1) (Within-only_if (length bytes) (length bytes) (head.0.0 == wanted) bytes head (omega arith) le)
    (λ head le'. Within-weaken (length head.1) (length head.1) (length bytes) (length bytes) (items_at read head.0.1 head.1) le' le' (items_stays read stays head.0.1 head.1)))

pub list_stays : {A : Type 0} (wanted : ℕ) (read : List ℕ → Reading A) → Stays read → (kind left : ℕ) (bytes : List ℕ) → length bytes ≤ left → Within left (length bytes) (list_field_at wanted read kind left bytes)
list_stays wanted read stays kind left bytes le = typed_stays 9 (list_of_at wanted read) (list_of_stays wanted read stays) kind left bytes le

-- ---- each struct

pub data_page_field_stays : TakeStays data_page_field_at
unfolding data_page_field_at
data_page_field_stays so_far id kind left bytes le =
    one_of_stays (is_number 1 id) left bytes _ _ _ (i32_stays kind left bytes le)
    (one_of_stays (is_number 2 id) left bytes _ _ _ (i32_stays kind left bytes le)
    (one_of_stays (is_number 3 id) left bytes _ _ _ (i32_stays kind left bytes le)
    (one_of_stays (is_number 4 id) left bytes _ _ _ (i32_stays kind left bytes le)
    (other_stays so_far kind left bytes le))))

pub page_header_field_stays : TakeStays page_header_field_at
unfolding page_header_field_at
page_header_field_stays so_far id kind left bytes le =
    one_of_stays (is_number 1 id) left bytes _ _ _ (i32_stays kind left bytes le)
    (one_of_stays (is_number 2 id) left bytes _ _ _ (i32_stays kind left bytes le)
    (one_of_stays (is_number 3 id) left bytes _ _ _ (i32_stays kind left bytes le)
    (one_of_stays (is_number 5 id) left bytes _ _ _ (typed_stays 12 (whole_at data_page_field_at no_data_page_fields data_page_of) (whole_stays data_page_field_at no_data_page_fields data_page_of data_page_field_stays) kind left bytes le)
    (other_stays so_far kind left bytes le))))

pub element_field_stays : TakeStays element_field_at
unfolding element_field_at
element_field_stays so_far id kind left bytes le =
    one_of_stays (is_number 1 id) left bytes _ _ _ (i32_stays kind left bytes le)
    (one_of_stays (is_number 3 id) left bytes _ _ _ (i32_stays kind left bytes le)
    (one_of_stays (is_number 4 id) left bytes _ _ _ (binary_field_stays kind left bytes le)
    (one_of_stays (is_number 5 id) left bytes _ _ _ (i32_stays kind left bytes le)
    (other_stays so_far kind left bytes le))))

pub column_meta_field_stays : TakeStays column_meta_field_at
unfolding column_meta_field_at
column_meta_field_stays so_far id kind left bytes le =
    one_of_stays (is_number 1 id) left bytes _ _ _ (i32_stays kind left bytes le)
    (one_of_stays (is_number 2 id) left bytes _ _ _ (list_stays 5 (zigzag_at 32) (zigzag_at_stays 32) kind left bytes le)
    (one_of_stays (is_number 3 id) left bytes _ _ _ (list_stays 8 binary_at binary_stays kind left bytes le)
    (one_of_stays (is_number 4 id) left bytes _ _ _ (i32_stays kind left bytes le)
    (one_of_stays (is_number 5 id) left bytes _ _ _ (i64_stays kind left bytes le)
    (one_of_stays (is_number 6 id) left bytes _ _ _ (i64_stays kind left bytes le)
    (one_of_stays (is_number 7 id) left bytes _ _ _ (i64_stays kind left bytes le)
    (one_of_stays (is_number 9 id) left bytes _ _ _ (i64_stays kind left bytes le)
    (other_stays so_far kind left bytes le))))))))

pub chunk_field_stays : TakeStays chunk_field_at
unfolding chunk_field_at
chunk_field_stays so_far id kind left bytes le =
    one_of_stays (is_number 2 id) left bytes _ _ _ (i64_stays kind left bytes le)
    (one_of_stays (is_number 3 id) left bytes _ _ _ (typed_stays 12 (whole_at column_meta_field_at no_column_meta_fields column_meta_of) (whole_stays column_meta_field_at no_column_meta_fields column_meta_of column_meta_field_stays) kind left bytes le)
    (other_stays so_far kind left bytes le))

pub row_group_field_stays : TakeStays row_group_field_at
unfolding row_group_field_at
row_group_field_stays so_far id kind left bytes le =
    one_of_stays (is_number 1 id) left bytes _ _ _ (list_stays 12 chunk_at (whole_stays chunk_field_at no_chunk_fields chunk_of chunk_field_stays) kind left bytes le)
    (one_of_stays (is_number 2 id) left bytes _ _ _ (i64_stays kind left bytes le)
    (one_of_stays (is_number 3 id) left bytes _ _ _ (i64_stays kind left bytes le)
    (other_stays so_far kind left bytes le)))

pub file_meta_field_stays : TakeStays file_meta_field_at
unfolding file_meta_field_at
file_meta_field_stays so_far id kind left bytes le =
    one_of_stays (is_number 1 id) left bytes _ _ _ (i32_stays kind left bytes le)
    (one_of_stays (is_number 2 id) left bytes _ _ _ (list_stays 12 element_at (whole_stays element_field_at no_element_fields element_of element_field_stays) kind left bytes le)
    (one_of_stays (is_number 3 id) left bytes _ _ _ (i64_stays kind left bytes le)
    (one_of_stays (is_number 4 id) left bytes _ _ _ (list_stays 12 row_group_at (whole_stays row_group_field_at no_row_group_fields row_group_of row_group_field_stays) kind left bytes le)
    (other_stays so_far kind left bytes le))))
