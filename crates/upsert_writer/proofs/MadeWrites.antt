-- Writes of a batch that are made one by one.
use Rattle.std.proofs.Common.{◌≡◌, ◌≤◌, ◌<◌, ◌+◌, ◌^◌, ◌⊎◌, ℕ, Bool, true, false, cond, leb, List, [], ◌∷◌, ◌++◌, length, Result, Ok, Err, IfOk, All, refl, sym, ap, subst, ◌∙◌, arith, length-append}
use Rattle.std.proofs.lemmas.Bool.{and_parts, leb-true}
use Rattle.std.proofs.lemmas.List.Elements.{All-nil, All-cons, All-head, All-tail}
use Rattle.hudi_base.specs.declared.value.Value.{Value}
use Rattle.payload_merge.specs.declared.row.Row.{Row}
use Rattle.payload_merge.specs.declared.row.Write.{Write}
use Rattle.payload_merge.specs.declared.row.Write.TheVariants.{Put, Del}
use Rattle.payload_merge.specs.declared.row_error.RowError.{RowError}
use Rattle.payload_merge.specs.declared.row_error.RowError.TheVariants as error
use Rattle.table_core.specs.declared.job_reply.JobReply.{JobReply}
use Rattle.table_core.specs.declared.job_reply.RowCause.{RowCause}
use Rattle.table_core.specs.declared.job_reply.RowCause.TheVariants.{NoKey, BadPartition}
use Rattle.table_jobs.specs.NewRows.{AnswersNewRow, IsNewRow, delete_of, delete_rank, is_path, is_record_key}
use Rattle.table_jobs.specs.declared.del_key.DelKey.{DelKey}
use Rattle.table_jobs.proofs.Paths.{path_from_test}
use Rattle.upsert_writer.specs.BatchFits.{IsFit}
use Rattle.upsert_writer.specs.Batches.{NewWrites, Refusal, as_put, in_front, made_from, put_of}
use Rattle.upsert_writer.specs.Making.{CanBeWritten, IsNewDelete, IsNewPut, Makes, MakesAll, reply_of, stop_of}
use Rattle.upsert_writer.specs.declared.batch.PutRow.{PutRow}
use Rattle.upsert_writer.specs.declared.batch.PutRow.TheVariants.{Fits, Mismatch}
use Rattle.upsert_writer.specs.declared.making.Stop.{Stop}
use Rattle.upsert_writer.specs.declared.making.Stop.TheVariants.{Memory, Refused}

-- ---- one row

pub row_put : (made : Result Row RowCause) (row : Row) → made ≡ Ok row → as_put made ≡ Ok (Put row)
row_put made row is = ap as_put is

-- a codec that makes no row says why
pub row_stopped : (made : Result Row RowCause) (e : RowError) → AnswersNewRow made (Err e) → Makes (as_put made) (Err (stop_of e))
row_stopped made error.NoKey is = ap as_put is
row_stopped made error.BadPartition is = ap as_put is
row_stopped made error.NoOrdering is = ap as_put is
row_stopped made error.TooLarge is = ap as_put is
row_stopped made error.Memory is = tt
row_stopped made (error.NotFlat place) is = tt
row_stopped made (error.Mismatch place) is = tt
row_stopped made (error.BadContent offset) is = tt

-- ---- one by one

-- one that was made before others
abbrev more : {A : Type 0} → A → Result (List A) Refusal → Result (List A) Refusal
more x (Ok later) = Ok (x ∷ later)
more x (Err refusal) = Err refusal

-- those that were made before others
abbrev pub behind : {A : Type 0} → List A → Result (List A) Refusal → Result (List A) Refusal
behind [] later = later
behind (x ∷ front) later = more x (behind front later)

module _ {A B : Type 0} (make : A → Result B RowCause) where
  one_in_front : (x : B) (place : ℕ) (later : Result (List B) Refusal) → in_front (Ok x) place later ≡ more x later
  one_in_front x place (Ok later) = refl
  one_in_front x place (Err refusal) = refl

  behind_one : (front : List B) (x : B) (place : ℕ) (later : Result (List B) Refusal) → behind front (in_front (Ok x) place later) ≡ behind (front ++ x ∷ []) later
  behind_one [] x place later = one_in_front x place later
  behind_one (y ∷ front) x place later = ap (more y) (behind_one front x place later)

  behind_refused : (front : List B) (refusal : Refusal) → behind front (Err refusal) ≡ Err refusal
  behind_refused [] refusal = refl
  behind_refused (y ∷ front) refusal = ap (more y) (behind_refused front refusal)

  longer : (front : List B) (y : B) → length (front ++ y ∷ []) ≡ length front + 1
  longer [] y = refl
  longer (z ∷ front) y = let rest = longer front y in omega (arith, rest)

  -- one more
  pub made_more : (front : List B) (x : A) (y : B) (xs : List A) → make x ≡ Ok y
      → behind (front ++ y ∷ []) (made_from make (length (front ++ y ∷ [])) xs) ≡ behind front (made_from make (length front) (x ∷ xs))
  made_more front x y xs is =
      ap (λ n. behind (front ++ y ∷ []) (made_from make n xs)) (longer front y)
      ∙ sym (behind_one front y (length front) (made_from make (length front + 1) xs))
      ∙ sym (ap (λ one. behind front (in_front one (length front) (made_from make (length front + 1) xs))) is)

  -- the first that is refused
  pub made_stop : (front : List B) (x : A) (cause : RowCause) (xs : List A) → make x ≡ Err cause
      → behind front (made_from make (length front) (x ∷ xs)) ≡ Err (record { place = length front; cause = cause })
  made_stop front x cause xs is =
      ap (λ one. behind front (in_front one (length front) (made_from make (length front + 1) xs))) is ∙ behind_refused front (record { place = length front; cause = cause })

  pub made_end : (front : List B) → behind front (made_from make (length front) []) ≡ Ok front
  made_end front = ended front
    where
      ended : (ys : List B) → behind ys (Ok []) ≡ Ok ys
      ended [] = refl
      ended (y ∷ ys) = ap (more y) (ended ys)

  -- what is made of all has as many writes, and each is one that is made of one
  none_made : (P : A → Type 0) (Q : B → Type 0) → ((x : A) → P x → IfOk (make x) Q) → (place : ℕ) (xs : List A) → All P xs → IfOk (made_from make place xs) (λ ys. All Q ys × (length ys ≡ length xs))
  none_made P Q each place [] all = (All-nil Q, refl)
  none_made P Q each place (x ∷ xs) all = joined (make x) (made_from make (place + 1) xs) (each x (All-head P x xs all)) (none_made P Q each (place + 1) xs (All-tail P x xs all))
    where
      joined : (one : Result B RowCause) (later : Result (List B) Refusal) → IfOk one Q → IfOk later (λ ys. All Q ys × (length ys ≡ length xs)) → IfOk (in_front one place later) (λ ys. All Q ys × (length ys ≡ length (x ∷ xs)))
      joined (Err cause) later first rest = tt
      joined (Ok y) (Err refusal) first rest = tt
      joined (Ok y) (Ok ys) first rest = (All-cons Q y ys first rest.0, let long = rest.1 in omega (arith, long))

  pub all_made : (P : A → Type 0) (Q : B → Type 0) → ((x : A) → P x → IfOk (make x) Q) → (xs : List A) → All P xs → IfOk (made_from make 0 xs) (λ ys. All Q ys × (length ys ≡ length xs))
  all_made P Q each xs all = none_made P Q each 0 xs all

-- ---- what may be written

pub put_new : (FitsSchema : Value → Type 0) (Own : Row → Type 0) (new : NewWrites) → ((v : Value) → FitsSchema v → IfOk (new.row v) (IsNewRow Own)) → (row : PutRow) → IsFit FitsSchema row → IfOk (put_of new row) (IsNewPut Own)
put_new FitsSchema Own new law (Mismatch field) fits = tt
put_new FitsSchema Own new law (Fits v) fits = by (new.row v) (law v fits)
  where
    by : (made : Result Row RowCause) → IfOk made (IsNewRow Own) → IfOk (as_put made) (IsNewPut Own)
    by (Ok row) is = is
    by (Err cause) is = tt

pub delete_new : (is_ordered : Bool) (key : DelKey) → Unit {0} → IfOk (delete_of is_ordered key) IsNewDelete
unfolding delete_of
delete_new is_ordered key any = by (is_record_key key.key) (is_path key.partition) refl refl
  where
    by : (keyed placed : Bool) → is_record_key key.key ≡ keyed → is_path key.partition ≡ placed
        → IfOk {E = RowCause} (cond keyed (cond placed (Ok (Del key.partition key.key (delete_rank is_ordered key.rank))) (Err BadPartition)) (Err NoKey)) IsNewDelete
    by true true is_key lies =
        let short : length key.key ≤ 1000 = leb-true _ _ (and_parts (leb 1 (length key.key)) (leb (length key.key) 1000) is_key).1 in
        (path_from_test key.partition lies, omega arith)
    by true false is_key lies = tt
    by false placed is_key lies = tt

-- so the whole batch can be written
pub ready : (Own : Row → Type 0) (Q : Write → Type 0) → ((ws : List Write) → All Q ws → All (IsNewPut Own) ws ⊎ All IsNewDelete ws) → (n : ℕ) → n < 2 ^ 32 → (made : Result (List Write) Refusal)
    → IfOk made (λ ws. All Q ws × (length ws ≡ n)) → (answer : Result (List Write) JobReply) → MakesAll made answer → IfOk answer (CanBeWritten Own)
ready Own Q kind n few made all (Err reply) is = tt
ready Own Q kind n few made all (Ok ws) is =
    let R : Result (List Write) Refusal → Type 0 = λ r. IfOk r (λ ws. All Q ws × (length ws ≡ n)) in
    let here : R (Ok ws) = subst R is all in
    let long : length ws ≡ n = here.1 in
    record { counted = omega (arith, long, few); one_kind = kind ws here.0 }

-- ---- the loop over what is still to be made

pub one_less : {A : Type 0} (before after : ℕ) (x : A) (rest items : List A) → items ≡ x ∷ rest → after + 1 ≡ before → before ≡ length items → after ≡ length rest
one_less before after x rest items is fewer left = omega (arith, ap length is, fewer, left)

pub still_counted : {A : Type 0} (front grown : List Write) (w : Write) (x : A) (rest items : List A) (n : ℕ) → grown ≡ front ++ w ∷ [] → items ≡ x ∷ rest → length front + length items ≡ n → length grown + length rest ≡ n
still_counted front grown w x rest items n grows is counted = omega (arith, ap length grows, length-append front (w ∷ []), ap length is, counted)

module _ {A : Type 0} (make : A → Result Write RowCause) (all : Result (List Write) Refusal) (front : List Write) (items : List A) (was : behind front (made_from make (length front) items) ≡ all) where
  abbrev rest_made : List A → Result (List Write) Refusal
  rest_made ys = behind front (made_from make (length front) ys)

  pub next_made : (x : A) (xs : List A) (w : Write) → items ≡ x ∷ xs → make x ≡ Ok w → behind (front ++ w ∷ []) (made_from make (length (front ++ w ∷ [])) xs) ≡ all
  next_made x xs w is made = made_more make front x w xs made ∙ sym (ap rest_made is) ∙ was

  pub stopped : (x : A) (xs : List A) (stop : Stop) → items ≡ x ∷ xs → Makes (make x) (Err stop) → MakesAll all (Err (reply_of (length front) stop))
  stopped x xs Memory is stops = tt
  stopped x xs (Refused cause) is stops = sym was ∙ ap rest_made is ∙ made_stop make front x cause xs stops

  -- the same of what the loop has then
  pub next_told : (x : A) (xs : List A) (w : Write) (grown : List Write) → items ≡ x ∷ xs → make x ≡ Ok w → grown ≡ front ++ w ∷ [] → behind grown (made_from make (length grown) xs) ≡ all
  next_told x xs w grown is made grows =
      let P : List Write → Type 0 = λ ws. behind ws (made_from make (length ws) xs) ≡ all in
      subst P (sym grows) (next_made x xs w is made)

  pub stop_told : (x : A) (xs : List A) (stop : Stop) (place : ℕ) (reply : JobReply) → items ≡ x ∷ xs → Makes (make x) (Err stop) → place ≡ length front → reply ≡ reply_of place stop → MakesAll all (Err reply)
  stop_told x xs stop place reply is stops at told =
      let P : JobReply → Type 0 = λ r. MakesAll all (Err r) in
      let Q : ℕ → Type 0 = λ n. MakesAll all (Err (reply_of n stop)) in
      subst P (sym told) (subst Q (sym at) (stopped x xs stop is stops))

  pub all_are_made : length items ≡ 0 → all ≡ Ok front
  all_are_made none = sym was ∙ ap rest_made (empty items none) ∙ made_end make front
    where
      empty : (ys : List A) → length ys ≡ 0 → ys ≡ []
      empty [] h = refl
      empty (y ∷ ys) h = absurd (omega arith)
