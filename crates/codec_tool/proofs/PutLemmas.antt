-- What holds of the rows of puts that were read.
use Rattle.std.proofs.Common.{◌≡◌, ℕ, List, [], ◌∷◌, map, All, Result, Ok, Err, IfOk, subst}
use Rattle.std.proofs.lemmas.List.Elements.{All-nil, All-cons, All-head, All-tail, All-map}
use Rattle.payload_merge.specs.declared.row.Row.{Row}
use Rattle.payload_merge.specs.declared.row.Write.{Write}
use Rattle.payload_merge.specs.declared.row.Write.TheVariants.{Put, Del}
use Rattle.payload_merge.specs.Contents.{puts_of}

module _ (P : Row → Type 0) where
  abbrev OfPut : Write → Type 0
  OfPut (Put row) = P row
  OfPut (Del partition key rank) = ⊥

  of_rows : (rows : List Row) → All OfPut (map Put rows) → All P rows
  of_rows [] all = All-nil P
  of_rows (row ∷ rows) all =
      All-cons P row rows (All-head OfPut (Put row) (map Put rows) all) (of_rows rows (All-tail OfPut (Put row) (map Put rows) all))

  pub of_puts : (r : Result (List Row) ℕ) (rows : List Row) → IfOk r (All P) → puts_of r ≡ Ok (map Put rows) → All P rows
  of_puts (Ok told) rows all e =
      let puts : Result (List Write) ℕ = Ok (map Put told) in
      let read : puts ≡ Ok (map Put rows) = e in
      let same : map Put told ≡ map Put rows = cc in
      of_rows rows (subst (All OfPut) same (All-map OfPut Put told all))
  of_puts (Err place) rows all e = absurd cc
