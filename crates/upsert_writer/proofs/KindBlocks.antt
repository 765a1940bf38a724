-- Writes of one kind, and the block that they have.
use Rattle.std.proofs.Common.{◌≡◌, ◌≤◌, inl, inr, ℕ, true, false, List, [], ◌∷◌, ◌++◌, length, map, Result, Ok, All, refl, ap, ◌∙◌, arith}
use Rattle.std.proofs.lemmas.List.Elements.{All-nil, All-cons, All-head, All-tail, All-weaker}
use Rattle.block_contents.specs.Deletes.{IsDelete, IsDeleteIn}
use Rattle.payload_merge.specs.Contents.{AreRowsOf, puts_of}
use Rattle.payload_merge.specs.declared.row.Row.{Row}
use Rattle.payload_merge.specs.declared.row.Write.{Write}
use Rattle.payload_merge.specs.declared.row.Write.TheVariants.{Put, Del}
use Rattle.upsert_writer.specs.TargetWrites.{AreOfKind, IsDeleteAt, IsPutAt, are_deletes, rows_among}

-- ---- puts

pub rows_put : (Own : Row → Type 0) (t : ℕ) (p : List ℕ) (ws : List Write) → All (IsPutAt Own t p) ws → map Put (rows_among ws) ≡ ws
rows_put Own t p [] puts = refl
rows_put Own t p (Put row ∷ ws) puts = ap (λ (rest : List Write). Put row ∷ rest) (rows_put Own t p ws (All-tail (IsPutAt Own t p) (Put row) ws puts))
rows_put Own t p (Del partition key rank ∷ ws) puts = absurd (All-head (IsPutAt Own t p) (Del partition key rank) ws puts)

-- a content that reads as their rows reads as these puts
pub puts_read : (Own : Row → Type 0) (t : ℕ) (p : List ℕ) (ws : List Write) (found : Result (List Row) ℕ) → All (IsPutAt Own t p) ws → found ≡ Ok (rows_among ws) → puts_of found ≡ Ok ws
puts_read Own t p ws found puts is = ap puts_of is ∙ ap Ok (rows_put Own t p ws puts)

pub rows_own : (Own : Row → Type 0) (t : ℕ) (p : List ℕ) (ws : List Write) → All (IsPutAt Own t p) ws → All Own (rows_among ws)
rows_own Own t p [] puts = All-nil Own
rows_own Own t p (Put row ∷ ws) puts =
    All-cons Own row (rows_among ws) (All-head (IsPutAt Own t p) (Put row) ws puts).0 (rows_own Own t p ws (All-tail (IsPutAt Own t p) (Put row) ws puts))
rows_own Own t p (Del partition key rank ∷ ws) puts = absurd (All-head (IsPutAt Own t p) (Del partition key rank) ws puts)

pub rows_at : (Own : Row → Type 0) (t : ℕ) (p : List ℕ) (ws : List Write) → All (IsPutAt Own t p) ws → AreRowsOf t p (rows_among ws)
rows_at Own t p [] puts = All-nil (λ (row : Row). (row.commit ≡ t) × (row.partition ≡ p))
rows_at Own t p (Put row ∷ ws) puts =
    let here = All-head (IsPutAt Own t p) (Put row) ws puts in
    All-cons (λ (row : Row). (row.commit ≡ t) × (row.partition ≡ p)) row (rows_among ws) (here.1, here.2) (rows_at Own t p ws (All-tail (IsPutAt Own t p) (Put row) ws puts))
rows_at Own t p (Del partition key rank ∷ ws) puts = absurd (All-head (IsPutAt Own t p) (Del partition key rank) ws puts)

pub rows_few : (ws : List Write) → length (rows_among ws) ≤ length ws
rows_few [] = omega arith
rows_few (Put row ∷ ws) = let rest = rows_few ws in omega arith
rows_few (Del partition key rank ∷ ws) = let rest = rows_few ws in omega arith

-- one more
pub rows_among-push : (ws : List Write) (w : Write) → rows_among (ws ++ w ∷ []) ≡ rows_among ws ++ rows_among (w ∷ [])
rows_among-push [] w = refl
rows_among-push (Put row ∷ ws) w = ap (λ (rest : List Row). row ∷ rest) (rows_among-push ws w)
rows_among-push (Del partition key rank ∷ ws) w = rows_among-push ws w

-- ---- which kind

pub are_puts : (Own : Row → Type 0) (t : ℕ) (p : List ℕ) (ws : List Write) → AreOfKind Own t p ws → are_deletes ws ≡ false → All (IsPutAt Own t p) ws
are_puts Own t p ws (inl puts) kind = puts
are_puts Own t p [] (inr deletes) kind = All-nil (IsPutAt Own t p)
are_puts Own t p (Put row ∷ ws) (inr deletes) kind = absurd (All-head (IsDeleteAt p) (Put row) ws deletes)
are_puts Own t p (Del partition key rank ∷ ws) (inr deletes) kind = cc

pub are_all_deletes : (Own : Row → Type 0) (t : ℕ) (p : List ℕ) (ws : List Write) → AreOfKind Own t p ws → are_deletes ws ≡ true → All (IsDeleteAt p) ws
are_all_deletes Own t p ws (inr deletes) kind = deletes
are_all_deletes Own t p [] (inl puts) kind = cc
are_all_deletes Own t p (Put row ∷ ws) (inl puts) kind = cc
are_all_deletes Own t p (Del partition key rank ∷ ws) (inl puts) kind = absurd (All-head (IsPutAt Own t p) (Del partition key rank) ws puts)

-- ---- deletes

short : (p : List ℕ) (w : Write) → IsDeleteAt p w → IsDelete w
short p (Put row) is = is
short p (Del partition key rank) is = is.1

lies : (p : List ℕ) (w : Write) → IsDeleteAt p w → IsDeleteIn p w
lies p (Put row) is = is
lies p (Del partition key rank) is = is.0

pub all_short : (p : List ℕ) (ws : List Write) → All (IsDeleteAt p) ws → All IsDelete ws
all_short p ws all = All-weaker (IsDeleteAt p) IsDelete (short p) ws all

pub all_lie : (p : List ℕ) (ws : List Write) → All (IsDeleteAt p) ws → All (IsDeleteIn p) ws
all_lie p ws all = All-weaker (IsDeleteAt p) (IsDeleteIn p) (lies p) ws all
