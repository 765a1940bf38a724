-- Headers: what is read is so written, and what is so written is read.
use Rattle.std.proofs.Common.{◌≡◌, ℕ, ◌^◌, ◌<◌, List, ◌++◌, length, Some, Result, Ok, sym, ap, subst, ◌∙◌, append_assoc, arith}
use Rattle.std.specs.Prelude.{codes, IsUtf8}
use Rattle.std.specs.Str.{is_utf8, bytes_eq}
use Rattle.std.proofs.lemmas.Slice.Eq.{bytes_eq-Decides}
use Rattle.std.proofs.lemmas.Str.{IsUtf8-from_is_utf8, is_utf8-from_IsUtf8}
use Rattle.byteorder.specs.Endian.{big_bytes, big_number}
use Rattle.byte_fields.specs.declared.field_error.FieldError.{FieldError}
use Rattle.byte_fields.specs.Reading.{◌>>=◌, only_if, only_some}
use Rattle.byte_fields.specs.Numbers.{number_at, after_number}
use Rattle.byte_fields.specs.Prefixed.{with_length, prefixed_at}
use Rattle.hudi_base.specs.InstantTime.{IsTime, time_of, time_text}
use Rattle.hudi_base.proofs.Times.{length-time_text}
use Rattle.log_block.specs.declared.block.Block.TheVariants.{Data, Delete, Rollback}
use Rattle.log_block.specs.Form.{entry, header, key_number, entry_count}
use Rattle.log_block.specs.declared.format.BlockType.{BlockType}
use Rattle.log_block.specs.declared.format.BlockType.TheVariants as types
use Rattle.log_block.specs.declared.format.HeaderKey.{HeaderKey}
use Rattle.log_block.specs.declared.format.HeaderKey.TheVariants as keys
use Rattle.log_block.specs.Reading.{entry_at, time_at, after_count, data_header_at, delete_header_at, rollback_header_at}
use Rattle.byte_fields.proofs.ReadingLemmas.{IsBytes, Takes, Takes-then, Takes-le, Reads, Reads-then, Reads-within, Reads-next, Reads-as_item, Reads-only_if, Reads-only_some, bind_is, as_item_is, only_if_is, only_some_is}
use Rattle.byte_fields.proofs.NumberLemmas.{big4, after_number_reads, after_number_again}
use Rattle.byte_fields.proofs.PrefixedLemmas.{TakesPrefixed, prefixed_at_reads, prefixed_at_again, number_length, number_length_reads}
use Rattle.hudi_base.proofs.TimeTexts.{time_of-time_text, time_text-time_of}

-- ---- entries

-- what an entry took, behind a prefix
pub record TakesEntry (bytes front : List ℕ) (key : HeaderKey) (text rest : List ℕ) : Type 0 where
  pub takes : Takes bytes (front ++ entry key text) rest
  pub below : length text < 2 ^ 32

-- what a text took
text_reads : (bytes : List ℕ) → IsBytes bytes → Reads (length bytes) (λ x. TakesPrefixed (big_bytes 4) (λ len. len < 2 ^ 32) bytes x.0 x.1) (prefixed_at (number_at big_number 4) bytes)
text_reads bytes fits =
    prefixed_at_reads (number_at big_number 4) (big_bytes 4) (λ len. len < 2 ^ 32) bytes (number_length_reads big_number big_bytes 4 bytes big4 fits)

pub entry_reads : (key : HeaderKey) (bytes front rest : List ℕ) → Takes bytes front rest → Reads (length bytes) (λ x. TakesEntry bytes front key x.0 x.1) (entry_at key rest)
unfolding entry_at entry
entry_reads key bytes front rest taken =
    let Q : List ℕ × List ℕ → Type 0 = λ x. TakesEntry bytes front key x.0 x.1 in
    let number : List ℕ = big_bytes 4 (key_number key) in
    Reads-then (length bytes) (λ after. Takes bytes (front ++ number) after) Q (after_number big_number 4 (key_number key) rest) (λ after. prefixed_at (number_at big_number 4) after)
    (Reads-next bytes front rest (λ after. Takes rest number after) (λ after. Takes bytes (front ++ number) after) (after_number big_number 4 (key_number key) rest) taken (after_number_reads big_number big_bytes 4 (key_number key) rest big4 taken.rest_fits)
    (λ after found. Takes-then bytes front rest number after taken found))
    (λ after keyed. Reads-next bytes (front ++ number) after (λ x. TakesPrefixed (big_bytes 4) (λ len. len < 2 ^ 32) after x.0 x.1) Q (prefixed_at (number_at big_number 4) after) keyed (text_reads after keyed.rest_fits)
    (λ x found. record {
      takes = subst (λ (t : List ℕ). Takes bytes t x.1) (append_assoc front number (with_length (big_bytes 4) x.0)) (Takes-then bytes (front ++ number) after (with_length (big_bytes 4) x.0) x.1 keyed found.takes);
      below = found.below;
    }))

key_below : (key : HeaderKey) → key_number key < 2 ^ 32
key_below keys.InstantTime = omega arith
key_below keys.TargetInstantTime = omega arith
key_below keys.Schema = omega arith
key_below keys.CommandBlockType = omega arith

pub entry_again : (key : HeaderKey) (text rest : List ℕ) → length text < 2 ^ 32 → entry_at key (entry key text ++ rest) ≡ Ok (text, rest)
unfolding entry_at entry
entry_again key text rest short =
    let number : List ℕ = big_bytes 4 (key_number key) in
    let item : List ℕ = with_length (big_bytes 4) text in
    ap (entry_at key) (append_assoc number item rest)
    ∙ bind_is (after_number big_number 4 (key_number key) (number ++ (item ++ rest))) (item ++ rest) (λ after. prefixed_at (number_at big_number 4) after) (after_number_again big_number big_bytes 4 (key_number key) (item ++ rest) big4 (key_below key))
    ∙ prefixed_at_again (number_at big_number 4) (big_bytes 4) text rest (number_length big_number big_bytes 4 (length text) big4 short)

-- ---- the number of entries

pub after_count_reads : (of : BlockType) (bytes : List ℕ) → IsBytes bytes → Reads (length bytes) (λ rest. Takes bytes (big_bytes 4 (entry_count of)) rest) (after_count of bytes)
unfolding after_count
after_count_reads of bytes fits = after_number_reads big_number big_bytes 4 (entry_count of) bytes big4 fits

count_below : (of : BlockType) → entry_count of < 2 ^ 32
count_below types.Command = omega arith
count_below types.Delete = omega arith
count_below types.Data = omega arith

pub after_count_again : (of : BlockType) (rest : List ℕ) → after_count of (big_bytes 4 (entry_count of) ++ rest) ≡ Ok rest
unfolding after_count
after_count_again of rest = after_number_again big_number big_bytes 4 (entry_count of) rest big4 (count_below of)

-- ---- times

-- what the entry of a time took, behind a front
pub record TakesTime (bytes front : List ℕ) (key : HeaderKey) (time : ℕ) (rest : List ℕ) : Type 0 where
  pub takes : Takes bytes (front ++ entry key (time_text time)) rest
  pub is_time : IsTime time

pub time_reads : (key : HeaderKey) (bytes front rest : List ℕ) → Takes bytes front rest → Reads (length bytes) (λ x. TakesTime bytes front key x.0 x.1) (time_at key rest)
unfolding time_at
time_reads key bytes front rest taken =
    let Q : ℕ × List ℕ → Type 0 = λ x. TakesTime bytes front key x.0 x.1 in
    Reads-then (length bytes) (λ text. TakesEntry bytes front key text.0 text.1) Q (entry_at key rest) (λ text. only_some (time_of text.0) rest >>= λ time. Ok (time, text.1))
    (entry_reads key bytes front rest taken)
    (λ text found. Reads-then (length bytes) (λ time. time_of text.0 ≡ Some time) Q (only_some (time_of text.0) rest) (λ time. Ok (time, text.1))
    (Reads-only_some (length bytes) (λ time. time_of text.0 ≡ Some time) (time_of text.0) rest (Takes-le bytes front rest taken) (λ time e. e))
    (λ time e.
    let told = time_text-time_of text.0 time e in
    record { takes = subst (λ (t : List ℕ). Takes bytes (front ++ entry key t) text.1) (sym told.1) found.takes; is_time = told.0 }))

pub time_again : (key : HeaderKey) (time : ℕ) (rest : List ℕ) → IsTime time → time_at key (entry key (time_text time) ++ rest) ≡ Ok (time, rest)
unfolding time_at
time_again key time rest is_time =
    let bytes = entry key (time_text time) ++ rest in
    bind_is (entry_at key bytes) (time_text time, rest) (λ text. only_some (time_of text.0) bytes >>= λ t. Ok (t, text.1)) (entry_again key (time_text time) rest (omega (arith, length-time_text time)))
    ∙ bind_is (only_some (time_of (time_text time)) bytes) time (λ t. Ok (t, rest)) (only_some_is (time_of (time_text time)) bytes time (time_of-time_text time is_time))

-- ---- the header of a data block

pub record TakesData (bytes : List ℕ) (instant : ℕ) (schema rest : List ℕ) : Type 0 where
  pub takes : (content : List ℕ) → Takes bytes (header (Data instant schema content)) rest
  pub is_time : IsTime instant
  pub is_text : IsUtf8 schema
  pub below : length schema < 2 ^ 32

pub data_header_reads : (bytes : List ℕ) → IsBytes bytes → Reads (length bytes) (λ x. TakesData bytes x.0 x.1 x.2) (data_header_at bytes)
unfolding data_header_at header
data_header_reads bytes fits =
    let Q : ℕ × List ℕ × List ℕ → Type 0 = λ x. TakesData bytes x.0 x.1 x.2 in
    let last : ℕ × List ℕ → List ℕ × List ℕ → Result (ℕ × List ℕ × List ℕ) FieldError = λ instant schema. only_if (is_utf8 schema.0) bytes (instant.0, schema.0, schema.1) in
    let second : ℕ × List ℕ → Result (ℕ × List ℕ × List ℕ) FieldError = λ instant. entry_at keys.Schema instant.1 >>= last instant in
    let first : List ℕ → Result (ℕ × List ℕ × List ℕ) FieldError = λ entries. time_at keys.InstantTime entries >>= second in
    let count = big_bytes 4 (entry_count types.Data) in
    Reads-as_item bytes Q (after_count types.Data bytes >>= first)
    (Reads-then (length bytes) (λ entries. Takes bytes count entries) Q (after_count types.Data bytes) first (after_count_reads types.Data bytes fits)
    (λ entries counted. Reads-then (length bytes) (λ x. TakesTime bytes count keys.InstantTime x.0 x.1) Q (time_at keys.InstantTime entries) second (time_reads keys.InstantTime bytes count entries counted)
    (λ instant timed. Reads-then (length bytes) (λ x. TakesEntry bytes (count ++ entry keys.InstantTime (time_text instant.0)) keys.Schema x.0 x.1) Q (entry_at keys.Schema instant.1) (last instant) (entry_reads keys.Schema bytes (count ++ entry keys.InstantTime (time_text instant.0)) instant.1 timed.takes)
    (λ schema found. Reads-only_if (length bytes) Q (is_utf8 schema.0) bytes (instant.0, schema.0, schema.1) (omega arith)
    (λ passes. record { takes = λ content. found.takes; is_time = timed.is_time; is_text = IsUtf8-from_is_utf8 schema.0 passes; below = found.below })))))

pub data_header_again : (instant : ℕ) (schema content rest : List ℕ) → IsTime instant → IsUtf8 schema → length schema < 2 ^ 32 → data_header_at (header (Data instant schema content) ++ rest) ≡ Ok (instant, schema, rest)
unfolding data_header_at header
data_header_again instant schema content rest is_time is_text short =
    let bytes = header (Data instant schema content) ++ rest in
    let last : ℕ × List ℕ → List ℕ × List ℕ → Result (ℕ × List ℕ × List ℕ) FieldError = λ i s. only_if (is_utf8 s.0) bytes (i.0, s.0, s.1) in
    let second : ℕ × List ℕ → Result (ℕ × List ℕ × List ℕ) FieldError = λ i. entry_at keys.Schema i.1 >>= last i in
    let first : List ℕ → Result (ℕ × List ℕ × List ℕ) FieldError = λ entries. time_at keys.InstantTime entries >>= second in
    let after = entry keys.Schema schema ++ rest in
    let regrouped : bytes ≡ big_bytes 4 (entry_count types.Data) ++ (entry keys.InstantTime (time_text instant) ++ after) = simp append_assoc in
    as_item_is bytes (after_count types.Data bytes >>= first) (instant, schema, rest)
    (bind_is (after_count types.Data bytes) (entry keys.InstantTime (time_text instant) ++ after) first (ap (after_count types.Data) regrouped ∙ after_count_again types.Data (entry keys.InstantTime (time_text instant) ++ after))
    ∙ bind_is (time_at keys.InstantTime (entry keys.InstantTime (time_text instant) ++ after)) (instant, after) second (time_again keys.InstantTime instant after is_time)
    ∙ bind_is (entry_at keys.Schema after) (schema, rest) (last (instant, after)) (entry_again keys.Schema schema rest short)
    ∙ only_if_is (is_utf8 schema) bytes (instant, schema, rest) (is_utf8-from_IsUtf8 schema is_text))

-- ---- the header of a delete block

pub record TakesDelete (bytes : List ℕ) (instant : ℕ) (rest : List ℕ) : Type 0 where
  pub takes : (content : List ℕ) → Takes bytes (header (Delete instant content)) rest
  pub is_time : IsTime instant

pub delete_header_reads : (bytes : List ℕ) → IsBytes bytes → Reads (length bytes) (λ x. TakesDelete bytes x.0 x.1) (delete_header_at bytes)
unfolding delete_header_at header
delete_header_reads bytes fits =
    let Q : ℕ × List ℕ → Type 0 = λ x. TakesDelete bytes x.0 x.1 in
    let first : List ℕ → Result (ℕ × List ℕ) FieldError = λ entries. time_at keys.InstantTime entries in
    let count = big_bytes 4 (entry_count types.Delete) in
    Reads-as_item bytes Q (after_count types.Delete bytes >>= first)
    (Reads-then (length bytes) (λ entries. Takes bytes count entries) Q (after_count types.Delete bytes) first (after_count_reads types.Delete bytes fits)
    (λ entries counted. Reads-within (length bytes) (length bytes) (λ x. TakesTime bytes count keys.InstantTime x.0 x.1) Q (time_at keys.InstantTime entries) (omega arith) (time_reads keys.InstantTime bytes count entries counted)
    (λ instant timed. record { takes = λ content. timed.takes; is_time = timed.is_time })))

pub delete_header_again : (instant : ℕ) (content rest : List ℕ) → IsTime instant → delete_header_at (header (Delete instant content) ++ rest) ≡ Ok (instant, rest)
unfolding delete_header_at header
delete_header_again instant content rest is_time =
    let bytes = header (Delete instant content) ++ rest in
    let first : List ℕ → Result (ℕ × List ℕ) FieldError = λ entries. time_at keys.InstantTime entries in
    let regrouped : bytes ≡ big_bytes 4 (entry_count types.Delete) ++ (entry keys.InstantTime (time_text instant) ++ rest) = simp append_assoc in
    as_item_is bytes (after_count types.Delete bytes >>= first) (instant, rest)
    (bind_is (after_count types.Delete bytes) (entry keys.InstantTime (time_text instant) ++ rest) first (ap (after_count types.Delete) regrouped ∙ after_count_again types.Delete (entry keys.InstantTime (time_text instant) ++ rest))
    ∙ time_again keys.InstantTime instant rest is_time)

-- ---- the header of a rollback block

pub record TakesRollback (bytes : List ℕ) (instant target : ℕ) (rest : List ℕ) : Type 0 where
  pub takes : Takes bytes (header (Rollback instant target)) rest
  pub is_time : IsTime instant
  pub is_target : IsTime target

pub rollback_header_reads : (bytes : List ℕ) → IsBytes bytes → Reads (length bytes) (λ x. TakesRollback bytes x.0 x.1 x.2) (rollback_header_at bytes)
unfolding rollback_header_at header
rollback_header_reads bytes fits =
    let Q : ℕ × ℕ × List ℕ → Type 0 = λ x. TakesRollback bytes x.0 x.1 x.2 in
    let last : ℕ × List ℕ → ℕ × List ℕ → List ℕ × List ℕ → Result (ℕ × ℕ × List ℕ) FieldError = λ instant target command. only_if (bytes_eq command.0 (codes "0")) bytes (instant.0, target.0, command.1) in
    let third : ℕ × List ℕ → ℕ × List ℕ → Result (ℕ × ℕ × List ℕ) FieldError = λ instant target. entry_at keys.CommandBlockType target.1 >>= last instant target in
    let second : ℕ × List ℕ → Result (ℕ × ℕ × List ℕ) FieldError = λ instant. time_at keys.TargetInstantTime instant.1 >>= third instant in
    let first : List ℕ → Result (ℕ × ℕ × List ℕ) FieldError = λ entries. time_at keys.InstantTime entries >>= second in
    let count = big_bytes 4 (entry_count types.Command) in
    Reads-as_item bytes Q (after_count types.Command bytes >>= first)
    (Reads-then (length bytes) (λ entries. Takes bytes count entries) Q (after_count types.Command bytes) first (after_count_reads types.Command bytes fits)
    (λ entries counted. Reads-then (length bytes) (λ x. TakesTime bytes count keys.InstantTime x.0 x.1) Q (time_at keys.InstantTime entries) second (time_reads keys.InstantTime bytes count entries counted)
    (λ instant timed.
    let front = count ++ entry keys.InstantTime (time_text instant.0) in
    Reads-then (length bytes) (λ x. TakesTime bytes front keys.TargetInstantTime x.0 x.1) Q (time_at keys.TargetInstantTime instant.1) (third instant) (time_reads keys.TargetInstantTime bytes front instant.1 timed.takes)
    (λ target aimed.
    let behind = front ++ entry keys.TargetInstantTime (time_text target.0) in
    Reads-then (length bytes) (λ x. TakesEntry bytes behind keys.CommandBlockType x.0 x.1) Q (entry_at keys.CommandBlockType target.1) (last instant target) (entry_reads keys.CommandBlockType bytes behind target.1 aimed.takes)
    (λ command found. Reads-only_if (length bytes) Q (bytes_eq command.0 (codes "0")) bytes (instant.0, target.0, command.1) (omega arith)
    (λ passes. record {
      takes = subst (λ (t : List ℕ). Takes bytes (behind ++ entry keys.CommandBlockType t) command.1) ((bytes_eq-Decides command.0 (codes "0")).0 passes) found.takes;
      is_time = timed.is_time;
      is_target = aimed.is_time;
    }))))))

pub rollback_header_again : (instant target : ℕ) (rest : List ℕ) → IsTime instant → IsTime target → rollback_header_at (header (Rollback instant target) ++ rest) ≡ Ok (instant, target, rest)
unfolding rollback_header_at header
rollback_header_again instant target rest is_time is_target =
    let bytes = header (Rollback instant target) ++ rest in
    let last : ℕ × List ℕ → ℕ × List ℕ → List ℕ × List ℕ → Result (ℕ × ℕ × List ℕ) FieldError = λ i t c. only_if (bytes_eq c.0 (codes "0")) bytes (i.0, t.0, c.1) in
    let third : ℕ × List ℕ → ℕ × List ℕ → Result (ℕ × ℕ × List ℕ) FieldError = λ i t. entry_at keys.CommandBlockType t.1 >>= last i t in
    let second : ℕ × List ℕ → Result (ℕ × ℕ × List ℕ) FieldError = λ i. time_at keys.TargetInstantTime i.1 >>= third i in
    let first : List ℕ → Result (ℕ × ℕ × List ℕ) FieldError = λ entries. time_at keys.InstantTime entries >>= second in
    let after2 = entry keys.CommandBlockType (codes "0") ++ rest in
    let after1 = entry keys.TargetInstantTime (time_text target) ++ after2 in
    let after0 = entry keys.InstantTime (time_text instant) ++ after1 in
    let regrouped : bytes ≡ big_bytes 4 (entry_count types.Command) ++ after0 = simp append_assoc in
    as_item_is bytes (after_count types.Command bytes >>= first) (instant, target, rest)
    (bind_is (after_count types.Command bytes) after0 first (ap (after_count types.Command) regrouped ∙ after_count_again types.Command after0)
    ∙ bind_is (time_at keys.InstantTime after0) (instant, after1) second (time_again keys.InstantTime instant after1 is_time)
    ∙ bind_is (time_at keys.TargetInstantTime after1) (target, after2) (third (instant, after1)) (time_again keys.TargetInstantTime target after2 is_target)
    ∙ bind_is (entry_at keys.CommandBlockType after2) (codes "0", rest) (last (instant, after1) (target, after2)) (entry_again keys.CommandBlockType (codes "0") rest (omega arith)))
