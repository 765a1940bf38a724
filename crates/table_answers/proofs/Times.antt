-- The fold of instants whose times fall, and their times the other way round.
use Rattle.std.proofs.Common.{◌≡◌, ◌<◌, ℕ, Bool, true, false, cond, List, [], ◌∷◌, ◌++◌, map, refl, sym, ap, subst, ◌∙◌, arith}
use Rattle.std.specs.Prelude.{filter, nat_le, reverse}
use Rattle.std.specs.FinMap.{empty}
use Rattle.std.specs.List.{AllByRecursion, flat_map}
use Rattle.std.proofs.lemmas.Bool.Decides.{nat_tests}
use Rattle.std.proofs.lemmas.List.{map-append, reverse-append}
use Rattle.std.proofs.lemmas.List.Folds.{flat_map-map}
use Rattle.payload_merge.specs.Fold.{InstantWrites, fold, in_time_order, insert_by_instant, table_after_all}
use Rattle.payload_merge.specs.Fold as merge
use Rattle.payload_merge.specs.declared.row.Write.{Write}
use Rattle.table_images.proofs.Texts.{fit_more}
use Rattle.table_answers.proofs.Turns.{Falls}
use Rattle.table_answers.proofs.Writes.{Rises}

-- ---- some of them

all_filtered : (P : ℕ → Type 0) (p : ℕ → Bool) (us : List ℕ) → AllByRecursion P us → AllByRecursion P (filter p us)
all_filtered P p [] all = tt
all_filtered P p (u ∷ us) all = by (p u) (all_filtered P p us all.1)
  where
    by : (b : Bool) → AllByRecursion P (filter p us) → AllByRecursion P (cond b (u ∷ filter p us) (filter p us))
    by true rest = (all.0, rest)
    by false rest = rest

pub falls_filtered : (p : ℕ → Bool) (us : List ℕ) → Falls us → Falls (filter p us)
falls_filtered p [] falls = tt
falls_filtered p (u ∷ us) falls = by (p u) (falls_filtered p us falls.1)
  where
    by : (b : Bool) → Falls (filter p us) → Falls (cond b (u ∷ filter p us) (filter p us))
    by true rest = (all_filtered (λ v. v < u) p us falls.0, rest)
    by false rest = rest

-- ---- the other way round

all_reversed : (P : ℕ → Type 0) (us : List ℕ) → AllByRecursion P us → AllByRecursion P (reverse us)
all_reversed P [] all = tt
all_reversed P (u ∷ us) all = subst (AllByRecursion P) (sym (reverse-append (u ∷ []) us)) (fit_more P (reverse us) (u ∷ []) (all_reversed P us all.1) (all.0, tt))

rises_more : (us : List ℕ) (u : ℕ) → Rises us → AllByRecursion (λ v. v < u) us → Rises (us ++ u ∷ [])
rises_more [] u rises below = (tt, tt)
rises_more (v ∷ us) u rises below = (fit_more (λ w. v < w) us (u ∷ []) rises.0 (below.0, tt), rises_more us u rises.1 below.1)

pub rises_reversed : (us : List ℕ) → Falls us → Rises (reverse us)
rises_reversed [] falls = tt
rises_reversed (u ∷ us) falls =
    subst Rises (sym (reverse-append (u ∷ []) us)) (rises_more (reverse us) u (rises_reversed us falls.1) (all_reversed (λ v. v < u) us falls.0))

-- ---- their fold

module _ (w : ℕ → List Write) where
  abbrev with_writes : ℕ → InstantWrites
  with_writes u = record { instant = u; writes = w u }

  above : (u v : ℕ) → v < u → nat_le u v ≡ false
  above u v h = grind (arith, nat_tests)

  insert_last : (u : ℕ) (vs : List ℕ) → AllByRecursion (λ v. v < u) vs → insert_by_instant (with_writes u) (map with_writes vs) ≡ map with_writes vs ++ with_writes u ∷ []
  insert_last u [] below = refl
  insert_last u (v ∷ vs) below =
      ap (λ b. cond b (with_writes u ∷ with_writes v ∷ map with_writes vs) (with_writes v ∷ insert_by_instant (with_writes u) (map with_writes vs))) (above u v below.0)
      ∙ ap (λ rest. with_writes v ∷ rest) (insert_last u vs below.1)

  ordered : (us : List ℕ) → Falls us → in_time_order (map with_writes us) ≡ map with_writes (reverse us)
  ordered [] falls = refl
  ordered (u ∷ us) falls =
      ap (insert_by_instant (with_writes u)) (ordered us falls.1) ∙ insert_last u (reverse us) (all_reversed (λ v. v < u) us falls.0)
      ∙ sym (ap (map with_writes) (reverse-append (u ∷ []) us) ∙ map-append with_writes (reverse us) (u ∷ []))

  pub fold_is : (us : List ℕ) → Falls us → fold (map with_writes us) ≡ table_after_all empty (flat_map w (reverse us))
  fold_is us falls = ap (λ instants. table_after_all empty (flat_map merge.writes_of instants)) (ordered us falls) ∙ ap (table_after_all empty) (flat_map-map merge.writes_of with_writes (reverse us))
