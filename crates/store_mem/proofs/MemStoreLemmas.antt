-- What a store in memory answers and leaves is what a store may answer and leave.
use Rattle.std.proofs.Common.{◌≡◌, min, ℕ, ◌<◌, List, [], ◌∷◌, ◌++◌, take, length, Option, Some, None, IsSome, refl, sym, ◌∙◌, ap, inl, inr, arith, append-nil, length-take}
use Rattle.std.specs.FinMap.{get}
use Rattle.std.proofs.lemmas.List.{take_min}
use Rattle.hudi_base.specs.Files.{after}
use Rattle.hudi_base.specs.Store.{Has, Fails, IsLeftBy, Creates, Appends, Removes}
use Rattle.hudi_base.specs.declared.operation.Operation.{Operation}
use Rattle.hudi_base.specs.declared.operation.Operation.TheVariants.{Create, Append, Remove}
use Rattle.hudi_base.specs.declared.store.Made.{Made}
use Rattle.hudi_base.specs.declared.store.Made.TheVariants as made
use Rattle.hudi_base.specs.declared.store.Added.{Added}
use Rattle.hudi_base.specs.declared.store.Added.TheVariants as added
use Rattle.hudi_base.specs.declared.store.Gone.{Gone}
use Rattle.hudi_base.specs.declared.store.Gone.TheVariants as gone
use Rattle.store_mem.specs.Files.{FileHistory, files_given, after_operations, told_of}
use Rattle.store_mem.specs.MemStore.{MemoryStore, files_of, after_change, after_failure, left_by, MemoryCreates, MemoryAppends, MemoryRemoves}
use Rattle.store_mem.proofs.FilesLemmas.{changed_all-push}

-- one more operation, and what is told then
told_of-push : (history : FileHistory) (operation : Operation) → told_of (after_operations history (operation ∷ [])) ≡ after (told_of history) operation
told_of-push history operation = λ i. record {
  files = Some (changed_all-push (files_given history.given) history.operations operation i);
  operations = Some (history.operations ++ operation ∷ []);
  first = Some (files_given history.given);
}

-- a store that did nothing more tells the same
told_same : (old new : MemoryStore) → new.history ≡ after_operations old.history [] → told_of new.history ≡ told_of old.history
told_same old new h = ap told_of h ∙ ap (λ operations. told_of (record { given = old.history.given; operations = operations })) (append-nil old.history.operations)

-- one that did an operation tells what comes after it
told_more : (old new : MemoryStore) (operation : Operation) → new.history ≡ after_operations old.history (operation ∷ []) → told_of new.history ≡ after (told_of old.history) operation
told_more old new operation h = ap told_of h ∙ told_of-push old.history operation

is_there : (old : MemoryStore) (name : List ℕ) (found : Option (List ℕ)) → get (files_of old) name ≡ found → IsSome found → Has (told_of old.history) name (λ _. Unit {0})
is_there old name None e h = absurd (cc)
is_there old name (Some bytes) e h = (bytes, e, tt)

-- an operation that failed, from what it left; the files that were given stay
fails_as : (operation : Operation) (old new : MemoryStore) → new.history.given ≡ old.history.given → IsLeftBy operation (told_of old.history) (told_of new.history) → Fails (Unit {0}) operation (told_of old.history) (told_of new.history)
fails_as operation old new given left = record { files = refl; operations = refl; first = ap (λ files. Some (files_given files)) given; leaves = λ _. left }

-- a changing call that did nothing leaves what is told
untold : (old new : MemoryStore) → new ≡ after_change old [] → told_of new.history ≡ told_of old.history
untold old new h = told_same old new (ap (λ store. store.history) h)

unchanged_by_failure : (old new : MemoryStore) → new ≡ after_failure old [] → told_of new.history ≡ told_of old.history
unchanged_by_failure old new h = told_same old new (ap (λ store. store.history) h)

pub answers_create : (old new : MemoryStore) (name bytes : List ℕ) (answer : Made) → MemoryCreates old new name bytes answer → Creates (Unit {0}) (told_of old.history) (told_of new.history) name bytes answer
answers_create old new name bytes made.Created h = (h.1, told_more old new (Create name bytes) (ap (λ s. s.history) h.2))
answers_create old new name bytes made.Exists h = (is_there old name _ refl h.1, untold old new h.2)
answers_create old new name bytes made.Failed h = fails_as (Create name bytes) old new (ap (λ s. s.history.given) h.1) (unchanged_by_failure old new h.1)
answers_create old new name bytes made.Memory h = untold old new h.2

pub answers_remove : (old new : MemoryStore) (name : List ℕ) (answer : Gone) → MemoryRemoves old new name answer → Removes (Unit {0}) (told_of old.history) (told_of new.history) name answer
answers_remove old new name gone.Removed h = (is_there old name _ refl h.1, told_more old new (Remove name) (ap (λ s. s.history) h.2))
answers_remove old new name gone.Absent h = (h.1, untold old new h.2)
answers_remove old new name gone.Failed h = fails_as (Remove name) old new (ap (λ s. s.history.given) h.1) (unchanged_by_failure old new h.1)
answers_remove old new name gone.Memory h = untold old new h.2

-- what a failing append leaves
append_leaves : (old new : MemoryStore) (name bytes left : List ℕ) → take old.prefix bytes ≡ left → new.history ≡ after_operations old.history (left_by name left) → IsLeftBy (Append name bytes) (told_of old.history) (told_of new.history)
append_leaves old new name bytes [] e h = inl (told_same old new h)
append_leaves old new name bytes (byte ∷ left) e h =
    let n : ℕ = min old.prefix (length bytes) in
    let taken : byte ∷ left ≡ take n bytes = sym e ∙ sym (take_min old.prefix bytes) in
    let some : 0 < n = omega (arith, ap length taken, length-take n bytes) in
    inr (
      n,
      record {
        within = omega arith;
        some = omega arith;
        made = λ none. absurd (omega arith);
        appended = told_more old new (Append name (take n bytes)) (h ∙ ap (λ piece. after_operations old.history (Append name piece ∷ [])) taken);
      },
    )

pub answers_append : (old new : MemoryStore) (name bytes : List ℕ) (answer : Added) → MemoryAppends old new name bytes answer → Appends (Unit {0}) (told_of old.history) (told_of new.history) name bytes answer
answers_append old new name bytes added.Added h = told_more old new (Append name bytes) (ap (λ s. s.history) h.1)
answers_append old new name bytes added.Failed h = fails_as (Append name bytes) old new (ap (λ s. s.history.given) h.1) (append_leaves old new name bytes _ refl (ap (λ s. s.history) h.1))
answers_append old new name bytes added.Memory h = untold old new h
