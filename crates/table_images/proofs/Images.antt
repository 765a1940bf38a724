-- From the law of one entry to every image of a run.
use Rattle.std.proofs.Common.{◌≡◌, ◌⊎◌, inl, inr, ℕ, zero, suc, ◌+◌, ◌<◌, ◌≤◌, Bool, true, false, ◌==◌, List, [], ◌∷◌, ◌++◌, length, take, slice_get, Option, Some, None, MatchOption, append-nil, refl, sym, ap, ◌∙◌, subst, arith}
use Rattle.std.specs.Prelude.{nat_lt}
use Rattle.std.proofs.lemmas.Bool.Decides.{nat_tests}
use Rattle.std.proofs.lemmas.List.{take_all}
use Rattle.hudi_base.specs.Files.{FileMap, IsImage, changed, changed_all}
use Rattle.hudi_base.specs.Files as files_of_stores
use Rattle.hudi_base.specs.declared.operation.Operation.{Operation}
use Rattle.hudi_base.specs.declared.operation.Operation.TheVariants.{Create, Append, Remove}
use Rattle.table_history.specs.Histories.{History}
use Rattle.table_history.specs.JobLaw.{Work, IsLegal}
use Rattle.table_history.specs.Tables.{Table}
use Rattle.table_history.specs.declared.entry.Entry.{Entry}
use Rattle.table_images.specs.Runs.{Happened, Run, MayHappen, IsPossible, IsRun, history_of, operations_of, done, files_after, changed_by, failing}
use Rattle.table_images.specs.Stops.{KeepsAll, IsAtStop}

-- ---- lists of operations

changed_more : (files : FileMap) (operations more : List Operation) → changed_all files (operations ++ more) ≡ changed_all (changed_all files operations) more
changed_more files [] more = refl
changed_more files (o ∷ operations) more = changed_more (changed files o) operations more

pub files_are : (files : FileMap) (R : Run) → files_after files R ≡ changed_all files (operations_of R)
files_are files [] = refl
files_are files (h ∷ R) = ap (λ (fs : FileMap). changed_by fs h.did) (files_are files R) ∙ by_did h.did ∙ sym (changed_more files (operations_of R) (done h.did))
  where
    by_did : (did : Option Operation) → changed_by (changed_all files (operations_of R)) did ≡ changed_all (changed_all files (operations_of R)) (done did)
    by_did None = refl
    by_did (Some operation) = refl

take_front : (k : ℕ) (xs ys : List Operation) → k ≤ length xs → take k (xs ++ ys) ≡ take k xs
take_front zero xs ys le = refl
take_front (suc k) [] ys le = absurd (omega arith)
take_front (suc k) (x ∷ xs) ys le = ap (λ zs. x ∷ zs) (take_front k xs ys (omega arith))

next_front : (k : ℕ) (xs ys : List Operation) → k < length xs → slice_get (xs ++ ys) k ≡ slice_get xs k
next_front k [] ys lt = absurd (omega arith)
next_front zero (x ∷ xs) ys lt = refl
next_front (suc k) (x ∷ xs) ys lt = next_front k xs ys (omega arith)

next_at : (xs : List Operation) (y : Operation) → slice_get (xs ++ y ∷ []) (length xs) ≡ Some y
next_at [] y = refl
next_at (x ∷ xs) y = next_at xs y

next_beyond : (xs : List Operation) → slice_get xs (length xs) ≡ None
next_beyond [] = refl
next_beyond (x ∷ xs) = next_beyond xs

-- ---- what an image is, by the operations done and the next one

abbrev ImageOf : FileMap → List Operation → Option Operation → FileMap → Type 0
ImageOf files did next image =
    (image ≡ changed_all files did) ⊎ MatchOption next ⊥ (λ operation. files_of_stores.IsWithin (changed_all files did) operation image)

abbrev image_of : (files : FileMap) (operations : List Operation) (k : ℕ) (image : FileMap) → IsImage files operations k image → ImageOf files (take k operations) (slice_get operations k) image
image_of files operations k image is = is

abbrev as_image : (files : FileMap) (operations : List Operation) (k : ℕ) (image : FileMap) → ImageOf files (take k operations) (slice_get operations k) image → IsImage files operations k image
as_image files operations k image is = is

moved : (files : FileMap) (did others : List Operation) (next other : Option Operation) (image : FileMap) → did ≡ others → next ≡ other → ImageOf files did next image → ImageOf files others other image
moved files did others next other image same also is = subst (λ (o : Option Operation). ImageOf files others o image) also (subst (λ (ds : List Operation). ImageOf files ds next image) same is)

-- operations before the run's
pub image_behind : (first : FileMap) (before operations : List Operation) (k : ℕ) (image : FileMap)
    → IsImage first (before ++ operations) (length before + k) image → IsImage (changed_all first before) operations k image
image_behind first [] operations k image is = subst (λ n. IsImage first operations n image) none is
  where
    none : 0 + k ≡ k
    none = omega arith
image_behind first (operation ∷ before) operations k image is =
    image_behind (changed first operation) before operations k image (behind (subst (λ n. IsImage first (operation ∷ (before ++ operations)) n image) one is))
  where
    behind : IsImage first (operation ∷ (before ++ operations)) (suc (length before + k)) image → IsImage (changed first operation) (before ++ operations) (length before + k) image
    behind is = is

    one : length (operation ∷ before) + k ≡ suc (length before + k)
    one = omega arith

-- where the front of a run leaves an image, so does the run
module _ {Related : FileMap → History → Type 0} where
  later : (h : Happened) (R : Run) (k : ℕ) (image : FileMap) → IsAtStop Related R k image → IsAtStop Related (h ∷ R) k image
  later h R k image (inl at) = inl (record { later = h ∷ at.later; so_far = at.so_far; split = ap (λ rest. h ∷ rest) at.split; counts = at.counts; related = at.related })
  later h R k image (inr at) =
      inr (record { later = h ∷ at.later; next = at.next; so_far = at.so_far; split = ap (λ rest. h ∷ rest) at.split; counts = at.counts; operation = at.operation; does = at.does; related = at.related })

pub legal_of : (work : Work) (A : Table) (files : FileMap) (R : Run) → IsRun work A files R → IsLegal work A (history_of R)
legal_of work A files [] run = tt
legal_of work A files (h ∷ R) run = (legal_of work A files R run.0, run.1.comes.next, run.1.comes.allowed)

-- what a run began with is a run
pub front_of : (work : Work) (A : Table) (files : FileMap) (later so_far : Run) → IsRun work A files (later ++ so_far) → IsRun work A files so_far
front_of work A files [] so_far run = run
front_of work A files (h ∷ later) so_far run = front_of work A files later so_far run.0

abbrev pub FailsAlso : Work → Table → Type 0
FailsAlso work A =
    (H : History) (entry : Entry) (name bytes : List ℕ) (n : ℕ) → MayHappen work A H (record { entry = entry; did = Some (Append name bytes) })
    → MayHappen work A H (record { entry = failing entry; did = Some (Append name (take n bytes)) })

module _ (work : Work) (A : Table) (Related : FileMap → History → Type 0) (law : KeepsAll work A Related) (fails : FailsAlso work A) where
  pub between : (files : FileMap) (R : Run) → Related files [] → IsRun work A files R → Related (files_after files R) (history_of R)
  between files [] related run = related
  between files (h ∷ R) related run =
      law (files_after files R) (history_of R) h (between files R related run.0) (legal_of work A files R run.0) run.1 run.2

  -- within an operation: as before it, as after its failure, or as after it
  within : (files image : FileMap) (R : Run) (entry : Entry) (operation : Operation) → Related files (history_of R) → IsLegal work A (history_of R)
      → MayHappen work A (history_of R) (record { entry = entry; did = Some operation }) → IsPossible files (Some operation) → files_of_stores.IsWithin files operation image
      → Related image (history_of R) ⊎ (Related image (failing entry ∷ history_of R) ⊎ Related image (entry ∷ history_of R))
  within files image R entry (Create name bytes) related legal may possible (inl is) = inl (subst (λ (i : FileMap). Related i (history_of R)) (sym is) related)
  within files image R entry (Create name bytes) related legal may possible (inr is) =
      inr (inr (subst (λ (i : FileMap). Related i (entry ∷ history_of R)) (sym is) (law files (history_of R) (record { entry = entry; did = Some (Create name bytes) }) related legal may possible)))
  within files image R entry (Append name bytes) related legal may possible (inl is) = inl (subst (λ (i : FileMap). Related i (history_of R)) (sym is) related)
  within files image R entry (Append name bytes) related legal may possible (inr (n, is)) =
      inr (inl (subst (λ (i : FileMap). Related i (failing entry ∷ history_of R)) (sym is)
      (law files (history_of R) (record { entry = failing entry; did = Some (Append name (take n bytes)) }) related legal (fails (history_of R) entry name bytes n may) tt)))
  within files image R entry (Remove name) related legal may possible (inl is) = inl (subst (λ (i : FileMap). Related i (history_of R)) (sym is) related)
  within files image R entry (Remove name) related legal may possible (inr is) =
      inr (inr (subst (λ (i : FileMap). Related i (entry ∷ history_of R)) (sym is) (law files (history_of R) (record { entry = entry; did = Some (Remove name) }) related legal may possible)))

  at_stop : (R : Run) (entry : Entry) (operation : Operation) (image : FileMap)
      → Related image (history_of R) ⊎ (Related image (failing entry ∷ history_of R) ⊎ Related image (entry ∷ history_of R))
      → IsAtStop Related (record { entry = entry; did = Some operation } ∷ R) (length (operations_of R)) image
  at_stop R entry operation image (inl related) =
      inl (record { later = record { entry = entry; did = Some operation } ∷ []; so_far = R; split = refl; counts = refl; related = related })
  at_stop R entry operation image (inr related) =
      inr (record { later = []; next = record { entry = entry; did = Some operation }; so_far = R; split = refl; counts = refl; operation = operation; does = refl; related = related })

  pub images : (files : FileMap) (R : Run) (k : ℕ) (image : FileMap) → Related files [] → IsRun work A files R → k ≤ length (operations_of R)
      → IsImage files (operations_of R) k image → IsAtStop Related R k image
  images files [] zero image related run le (inl is) =
      inl (record { later = []; so_far = []; split = refl; counts = refl; related = subst (λ (i : FileMap). Related i []) (sym is) related })
  images files [] zero image related run le (inr wrong) = absurd wrong
  images files [] (suc k) image related run le is = absurd (omega arith)
  images files (h ∷ R) k image related run le is =
      by_did h.entry h.did (λ n less at. images files R n image related run.0 less at) run.1 run.2 le is
    where
      earlier : FileMap
      earlier = changed_all files (operations_of R)

      reached : Related earlier (history_of R)
      reached = subst (λ (fs : FileMap). Related fs (history_of R)) (files_are files R) (between files R related run.0)

      by_did : (entry : Entry) (did : Option Operation) → ((n : ℕ) → n ≤ length (operations_of R) → IsImage files (operations_of R) n image → IsAtStop Related R n image)
          → MayHappen work A (history_of R) (record { entry = entry; did = did }) → IsPossible (files_after files R) did → k ≤ length (operations_of R ++ done did)
          → IsImage files (operations_of R ++ done did) k image → IsAtStop Related (record { entry = entry; did = did } ∷ R) k image
      by_did entry None more may possible le is =
          let same : operations_of R ++ [] ≡ operations_of R = append-nil (operations_of R) in
          later (record { entry = entry; did = None }) R k image
          (more k (subst (λ (os : List Operation). k ≤ length os) same le) (subst (λ (os : List Operation). IsImage files os k image) same is))
      by_did entry (Some operation) more may possible le is = by_place (nat_lt k (length (operations_of R))) refl (k == length (operations_of R)) refl
        where
          legal : IsLegal work A (history_of R)
          legal = legal_of work A files R run.0

          possible_there : IsPossible earlier (Some operation)
          possible_there = subst (λ (fs : FileMap). IsPossible fs (Some operation)) (files_are files R) possible

          at_end : ImageOf files (operations_of R) (Some operation) image → IsAtStop Related (record { entry = entry; did = Some operation } ∷ R) (length (operations_of R)) image
          at_end (inl at) = at_stop R entry operation image (inl (subst (λ (i : FileMap). Related i (history_of R)) (sym at) reached))
          at_end (inr inside) = at_stop R entry operation image (within earlier image R entry operation reached legal may possible_there inside)

          whole : ImageOf files (operations_of R ++ operation ∷ []) None image → IsAtStop Related (record { entry = entry; did = Some operation } ∷ R) (length (operations_of R ++ operation ∷ [])) image
          whole (inl at) = inl (record {
            later = [];
            so_far = record { entry = entry; did = Some operation } ∷ R;
            split = refl;
            counts = refl;
            related = subst (λ (i : FileMap). Related i (entry ∷ history_of R)) (sym (at ∙ changed_more files (operations_of R) (operation ∷ [])))
                (law earlier (history_of R) (record { entry = entry; did = Some operation }) reached legal may possible_there);
          })
          whole (inr wrong) = absurd wrong

          by_place : (below : Bool) → nat_lt k (length (operations_of R)) ≡ below → (here : Bool) → (k == length (operations_of R)) ≡ here
              → IsAtStop Related (record { entry = entry; did = Some operation } ∷ R) k image
          by_place true is_below here e =
              let lt : k < length (operations_of R) = grind (arith, nat_tests) in
              later (record { entry = entry; did = Some operation }) R k image (more k (omega (arith, lt))
              (as_image files (operations_of R) k image (moved files _ _ _ _ image (take_front k (operations_of R) (operation ∷ []) (omega (arith, lt))) (next_front k (operations_of R) (operation ∷ []) lt)
              (image_of files (operations_of R ++ operation ∷ []) k image is))))
          by_place false isnt true e =
              let at : k ≡ length (operations_of R) = grind (arith, nat_tests) in
              subst (λ (n : ℕ). IsAtStop Related (record { entry = entry; did = Some operation } ∷ R) n image) (sym at)
              (at_end (moved files _ _ _ _ image (take_front (length (operations_of R)) (operations_of R) (operation ∷ []) (omega arith) ∙ take_all (length (operations_of R)) (operations_of R) (omega arith)) (next_at (operations_of R) operation)
              (subst (λ (n : ℕ). ImageOf files (take n (operations_of R ++ operation ∷ [])) (slice_get (operations_of R ++ operation ∷ []) n) image) at (image_of files (operations_of R ++ operation ∷ []) k image is))))
          by_place false isnt false other =
              let more_by_one : length (operations_of R ++ operation ∷ []) ≡ length (operations_of R) + 1 = length_one (operations_of R) operation in
              let at : k ≡ length (operations_of R ++ operation ∷ []) = grind (arith, nat_tests, more_by_one) in
              subst (λ (n : ℕ). IsAtStop Related (record { entry = entry; did = Some operation } ∷ R) n image) (sym at)
              (whole (moved files _ _ _ _ image (take_all (length (operations_of R ++ operation ∷ [])) (operations_of R ++ operation ∷ []) (omega arith)) (next_beyond (operations_of R ++ operation ∷ []))
              (subst (λ (n : ℕ). ImageOf files (take n (operations_of R ++ operation ∷ [])) (slice_get (operations_of R ++ operation ∷ []) n) image) at (image_of files (operations_of R ++ operation ∷ []) k image is))))
            where
              length_one : (xs : List Operation) (y : Operation) → length (xs ++ y ∷ []) ≡ length xs + 1
              length_one [] y = omega arith
              length_one (x ∷ xs) y = let rest = length_one xs y in omega (arith, rest)
