-- Reading a struct field by field, and a list item by item.
use Rattle.std.proofs.Common.{◌≡◌, ℕ, zero, suc, ◌+◌, ◌-◌, ◌<◌, ◌≤◌, List, [], ◌∷◌, ◌++◌, length, Option, Some, None, Result, Ok, Err, ℤ, refl, sym, ap, ◌∙◌, append_assoc, arith}
use Rattle.std.specs.Prelude.{ok_or}
use Rattle.std.proofs.lemmas.List.{append-nil}
use Rattle.byte_fields.specs.declared.field_error.FieldError.{FieldError}
use Rattle.byte_fields.specs.declared.field_error.FieldError.TheVariants.{Bad}
use Rattle.byte_fields.specs.Reading.{Reading, ◌>>=◌, only_some}
use Rattle.byte_fields.proofs.ReadingLemmas.{read_once}
use Rattle.thrift_compact.specs.Cursor.{Cursor, error_of}
use Rattle.thrift_compact.specs.declared.thrift_error.ThriftError.TheVariants.{BadThrift}
use Rattle.thrift_compact.specs.Values.{struct_at}
use Rattle.parquet_meta.specs.declared.read_error.ReadError.{ReadError}
use Rattle.parquet_meta.specs.declared.read_error.ReadError.TheVariants.{Memory, Item}
use Rattle.parquet_meta.specs.declared.read_error.MetaError.{MetaError}
use Rattle.parquet_meta.specs.declared.read_error.MetaError.TheVariants.{Memory as NoMemory, BadMeta, Unsupported}
use Rattle.parquet_meta.specs.declared.file_meta.FileMeta.{FileMeta}
use Rattle.parquet_meta.specs.Results.{AnswersFooter}
use Rattle.parquet_meta.specs.Answers.{Fails, ReadsHere, AnswersWhole}
use Rattle.parquet_meta.specs.Reading.{with_value, whole_at, items_at}

-- An error that one step has, the whole has.
pub passes_on : {Y Z : Type 0} (inner total : ℕ) (e : ReadError) (r : Reading Y) (whole : Reading Z) → inner ≡ total → ((error : FieldError) → r ≡ Err error → whole ≡ Err error) → Fails inner e r → Fails total e whole
passes_on inner total Memory r whole same pass h = tt
passes_on inner total (Item error) r whole same pass h =
    let place : error_of inner error ≡ error_of total error = ap (λ (n : ℕ). error_of n error) same in
    (pass (error_of total error) (h.0 ∙ ap (λ (e : FieldError). Err e) place), omega arith)

-- ---- structs

pub whole_at-Err : {S A : Type 0} (take : S → ℤ → ℕ → ℕ → List ℕ → Reading S) (nothing : S) (whole : S → Option A) (bytes : List ℕ) (error : FieldError) → struct_at take nothing bytes ≡ Err error → whole_at take nothing whole bytes ≡ Err error
whole_at-Err {S} take nothing whole bytes error e = ap (λ (r : Reading S). r >>= λ found. only_some (whole found.0) (0 ∷ found.1) >>= λ x. Ok (x, found.1)) e

-- the end of a struct, whose stop byte is at the offset
pub whole_at-stop : {S A : Type 0} (take : S → ℤ → ℕ → ℕ → List ℕ → Reading S) (nothing : S) (whole : S → Option A) (fields : S) (old new : Cursor) (offset : ℕ) → struct_at take nothing old.rest ≡ Ok (fields, new.rest) → new.total ≡ old.total → offset ≤ old.total → old.total - offset ≡ 1 + length new.rest → ReadsHere (λ x. x) old new (ok_or (whole fields) (Item (BadThrift offset))) (whole_at take nothing whole old.rest)
whole_at-stop {S} {A} take nothing whole fields old new offset e same within stop = by_case (whole fields) refl
  where
    read : whole_at take nothing whole old.rest ≡ (only_some (whole fields) (0 ∷ new.rest) >>= λ x. Ok (x, new.rest))
    read = ap (λ (r : Reading S). r >>= λ found. only_some (whole found.0) (0 ∷ found.1) >>= λ x. Ok (x, found.1)) e

    by_case : (o : Option A) → whole fields ≡ o → ReadsHere (λ x. x) old new (ok_or o (Item (BadThrift offset))) (whole_at take nothing whole old.rest)
    by_case (Some x) is = (read ∙ ap (λ (o : Option A). only_some o (0 ∷ new.rest) >>= λ x. Ok (x, new.rest)) is, same)
    by_case None is =
        let left : length (0 ∷ new.rest) ≡ old.total - offset = omega arith in
        (read ∙ ap (λ (o : Option A). only_some o (0 ∷ new.rest) >>= λ x. Ok (x, new.rest)) is ∙ ap (λ (n : ℕ). Err (Bad n)) left, within)

-- ---- lists

pub items_at-none : {A : Type 0} (read : List ℕ → Reading A) (count : ℕ) (front : List A) (rest : List ℕ) → count ≤ 0 → with_value (λ more. front ++ more) (items_at read count rest) ≡ Ok (front, rest)
unfolding items_at
items_at-none read zero front rest none = ap (λ x. Ok (x, rest)) (append-nil front)
items_at-none read (suc count) front rest none = absurd (omega arith)

pub items_at-Err : {A : Type 0} (read : List ℕ → Reading A) (count : ℕ) (front : List A) (bytes : List ℕ) (error : FieldError) → 0 < count → with_value (λ x. front ++ x ∷ []) (read bytes) ≡ Err error → with_value (λ more. front ++ more) (items_at read count bytes) ≡ Err error
unfolding items_at
items_at-Err read zero front bytes error some e = absurd (omega arith)
items_at-Err {A} read (suc count) front bytes error some e = by_case (read bytes) e
  where
    by_case : (r : Reading A) → with_value (λ x. front ++ x ∷ []) r ≡ Err error → with_value (λ more. front ++ more) (r >>= λ first. items_at read count first.1 >>= λ more. Ok (first.0 ∷ more.0, more.1)) ≡ Err error
    by_case (Ok x) e = absurd cc
    by_case (Err error') e = cc

pub items_at-next : {A : Type 0} (read : List ℕ → Reading A) (count left : ℕ) (front longer : List A) (bytes rest : List ℕ) → count ≡ 1 + left → with_value (λ x. front ++ x ∷ []) (read bytes) ≡ Ok (longer, rest) → with_value (λ more. front ++ more) (items_at read count bytes) ≡ with_value (λ more. longer ++ more) (items_at read left rest)
unfolding items_at
items_at-next read zero left front longer bytes rest one e = absurd (omega arith)
items_at-next {A} read (suc count) left front longer bytes rest one e = by_case (read bytes) e
  where
    same : count ≡ left
    same = omega arith

    regroup : (x : A) (r : Reading (List A)) → with_value (λ more. front ++ more) (r >>= λ more. Ok (x ∷ more.0, more.1)) ≡ with_value (λ more. (front ++ x ∷ []) ++ more) r
    regroup x (Ok more) = ap (λ t. Ok (t, more.1)) (sym (append_assoc front (x ∷ []) more.0))
    regroup x (Err error) = refl

    by_case : (r : Reading A) → with_value (λ x. front ++ x ∷ []) r ≡ Ok (longer, rest) → with_value (λ more. front ++ more) (r >>= λ first. items_at read count first.1 >>= λ more. Ok (first.0 ∷ more.0, more.1)) ≡ with_value (λ more. longer ++ more) (items_at read left rest)
    by_case (Ok x) e =
        let both = read_once (front ++ x.0 ∷ [], x.1) (longer, rest) (Ok (front ++ x.0 ∷ [], x.1)) refl e in
        let parts : front ++ x.0 ∷ [] ≡ longer = ap (λ (p : List A × List ℕ). p.0) both in
        let after : x.1 ≡ rest = ap (λ (p : List A × List ℕ). p.1) both in
        regroup x.0 (items_at read count x.1)
        ∙ ap (λ (t : List A). with_value (λ more. t ++ more) (items_at read count x.1)) parts
        ∙ ap (λ (t : List ℕ). with_value (λ more. longer ++ more) (items_at read count t)) after
        ∙ ap (λ (n : ℕ). with_value (λ more. longer ++ more) (items_at read n rest)) same
    by_case (Err error) e = absurd cc

-- ---- the footer

pub AnswersFooter-Err : (total : ℕ) (e : MetaError) (read : Result FileMeta FieldError) → AnswersWhole {A = FileMeta} total (Err e) read → AnswersFooter total (Err e) read
AnswersFooter-Err total NoMemory read h = tt
AnswersFooter-Err total (BadMeta offset) read h = h
AnswersFooter-Err total (Unsupported index) read h = absurd h
