-- What puts leave may be put onto a table in place of them.
use Rattle.std.proofs.Common.{◌≡◌, ◌<◌, ℕ, ℤ, Bool, true, false, cond, List, [], ◌∷◌, ◌++◌, length, map, take, get_or, Option, Some, None, Result, Ok, Err, refl, sym, ap, subst, ◌∙◌, arith}
use Rattle.std.specs.Prelude.{◌+◌, IfOk, MatchResult, OnSome, int_lt}
use Rattle.std.specs.FinMap.{empty, get}
use Rattle.std.specs.Ordering.{eq_by_cmp}
use Rattle.std.proofs.lemmas.Int.{ints}
use Rattle.payload_merge.specs.Contents.{puts_of}
use Rattle.payload_merge.specs.Fold.{RowTable, row_after_all, rows_of, table_after_all}
use Rattle.payload_merge.specs.Laws.{writes_to}
use Rattle.payload_merge.specs.Payload.{Key, key_cmp, key_of, row_after, winner}
use Rattle.payload_merge.specs.declared.row.Row.{Row}
use Rattle.payload_merge.specs.declared.row.Write.{Write}
use Rattle.payload_merge.specs.declared.row.Write.TheVariants.{Put, Del}
use Rattle.payload_merge.proofs.KeyedTables.{IsKeyed-empty, IsKeyed-table_after_all, put_rows_of}
use Rattle.payload_merge.proofs.Tables.{get-nothing, get-table_after_all, same_table}
use Rattle.table_core.specs.declared.job_reply.JobReply.{JobReply}
use Rattle.table_core.specs.declared.job_reply.JobReply.TheVariants as job
use Rattle.table_query.specs.GroupReading.{Damage, all_from, followed_by, in_part, numbered}
use Rattle.table_query.specs.Parts.{ArePuts, GivesFold, IsErrorOf, LeavesRows}
use Rattle.table_query.proofs.Following.{one_more, sizes}

-- ---- puts alone

pub any_some : {A : Type 0} (o : Option A) (P : Type 0) → P → OnSome o P
any_some None P holds = tt
any_some (Some x) P holds = holds

pub all_puts : (rows : List Row) → ArePuts (map Put rows)
all_puts [] = tt
all_puts (row ∷ rows) = all_puts rows

two_puts : (xs ys : List Write) → ArePuts xs → ArePuts ys → ArePuts (xs ++ ys)
two_puts [] ys first second = second
two_puts (Put row ∷ xs) ys first second = two_puts xs ys first second
two_puts (Del partition key rank ∷ xs) ys first second = absurd first

puts_followed : {E : Type 0} (a b : Result (List Write) E) → IfOk a ArePuts → IfOk b ArePuts → IfOk (followed_by a b) ArePuts
puts_followed (Err e) b first second = tt
puts_followed (Ok xs) (Err e) first second = tt
puts_followed (Ok xs) (Ok ys) first second = two_puts xs ys first second

pub puts_more : {A E : Type 0} (size : A → ℕ) (gives : ℕ → A → Result (List Write) E) (i number : ℕ) (xs : List A) (x : A) → i < length xs → x ≡ get_or xs i x → number ≡ sizes size (take i xs)
    → IfOk (all_from size gives 0 (take i xs)) ArePuts → IfOk (gives number x) ArePuts → IfOk (all_from size gives 0 (take (i + 1) xs)) ArePuts
puts_more {E = E} size gives i number xs x within is so_far before one =
    let P : ℕ → Type 0 = λ n. IfOk (gives n x) ArePuts in
    let Q : Result (List Write) E → Type 0 = λ r. IfOk r ArePuts in
    let e : number ≡ 0 + sizes size (take i xs) = omega (arith, so_far) in
    subst Q (sym (one_more size gives 0 i xs x within is)) (puts_followed {E = E} (all_from size gives 0 (take i xs)) (gives (0 + sizes size (take i xs)) x) before (subst P e one))

pub data_puts : (r : Result (List Row) ℕ) → IfOk (puts_of r) ArePuts
data_puts (Ok rows) = all_puts rows
data_puts (Err at) = tt

pub part_puts : (name : List ℕ) (r : Result (List Write) ℕ) → IfOk r ArePuts → IfOk (in_part name r) ArePuts
part_puts name (Ok writes) puts = puts
part_puts name (Err at) puts = tt

pub numbered_puts : (number : ℕ) (r : Result (List Write) ℕ) → IfOk r ArePuts → IfOk (numbered number r) ArePuts
numbered_puts number (Ok writes) puts = puts
numbered_puts number (Err at) puts = tt

-- ---- onto a row

less : (a b c : ℤ) → int_lt a b ≡ true → int_lt b c ≡ true → int_lt a c ≡ true
less a b c first second = by (int_lt a c) refl
  where
    by : (t : Bool) → int_lt a c ≡ t → t ≡ true
    by true is = refl
    by false is = absurd (omega (arith, ints))

not_less : (a b c : ℤ) → int_lt a b ≡ false → int_lt b c ≡ false → int_lt a c ≡ false
not_less a b c first second = by (int_lt a c) refl
  where
    by : (t : Bool) → int_lt a c ≡ t → t ≡ false
    by true is = absurd (omega (arith, ints))
    by false is = refl

-- the row that puts left, put onto what a key has
abbrev onto : Option Row → Option Row → Option Row
onto present None = present
onto present (Some row) = row_after present (Put row)

one_onto : (present : Option Row) (row : Row) (later : Option Row) → onto (row_after present (Put row)) later ≡ onto present (onto (Some row) later)
one_onto present row None = refl
one_onto None row (Some other) = by (int_lt other.rank row.rank)
  where
    by : (t : Bool) → winner t row (Put other) ≡ onto None (winner t row (Put other))
    by true = refl
    by false = refl
one_onto (Some first) row (Some other) = by (int_lt row.rank first.rank) (int_lt other.rank row.rank) refl refl
  where
    by : (t u : Bool) → int_lt row.rank first.rank ≡ t → int_lt other.rank row.rank ≡ u → onto (winner t first (Put row)) (Some other) ≡ onto (Some first) (winner u row (Put other))
    by true true t_is u_is =
        ap (λ (b : Bool). winner b first (Put other)) (less other.rank row.rank first.rank u_is t_is) ∙ sym (ap (λ (b : Bool). winner b first (Put row)) t_is)
    by true false t_is u_is = refl
    by false true t_is u_is = ap (λ (b : Bool). winner b row (Put other)) u_is ∙ sym (ap (λ (b : Bool). winner b first (Put row)) t_is)
    by false false t_is u_is =
        ap (λ (b : Bool). winner b row (Put other)) u_is ∙ sym (ap (λ (b : Bool). winner b first (Put other)) (not_less other.rank row.rank first.rank u_is t_is))

puts_onto : (present : Option Row) (ws : List Write) → ArePuts ws → row_after_all present ws ≡ onto present (row_after_all None ws)
puts_onto present [] puts = refl
puts_onto present (Put row ∷ ws) puts =
    puts_onto (row_after present (Put row)) ws puts ∙ one_onto present row (row_after_all None ws) ∙ sym (ap (onto present) (puts_onto (Some row) ws puts))
puts_onto present (Del partition key rank ∷ ws) puts = absurd puts

-- ---- onto a table

puts_to : (key : Key) (ws : List Write) → ArePuts ws → ArePuts (writes_to key ws)
puts_to key [] puts = tt
puts_to key (Put row ∷ ws) puts = by (eq_by_cmp key_cmp key (key_of (Put row))) (puts_to key ws puts)
  where
    by : (t : Bool) → ArePuts (writes_to key ws) → ArePuts (cond t (Put row ∷ writes_to key ws) (writes_to key ws))
    by true rest = rest
    by false rest = rest
puts_to key (Del partition other rank ∷ ws) puts = absurd puts

left_at : (table : RowTable) (ws : List Write) → ArePuts ws → (key : Key) → get (table_after_all table ws) key ≡ onto (get table key) (get (table_after_all empty ws) key)
left_at table ws puts key =
    get-table_after_all table ws key ∙ puts_onto (get table key) (writes_to key ws) (puts_to key ws puts)
    ∙ ap (onto (get table key)) (ap (λ (o : Option Row). row_after_all o (writes_to key ws)) (sym (get-nothing key)) ∙ sym (get-table_after_all empty ws key))

rows_onto : (table : RowTable) (ws : List Write) (rows : List Row) → ArePuts ws → rows ≡ rows_of (table_after_all empty ws) → table_after_all table (map Put rows) ≡ table_after_all table ws
rows_onto table ws rows puts is =
    let again : table_after_all empty (map Put rows) ≡ table_after_all empty ws =
    ap (λ (some : List Row). table_after_all empty (map Put some)) is ∙ put_rows_of (table_after_all empty ws) (IsKeyed-table_after_all empty ws IsKeyed-empty) in
    same_table _ _ (λ key. left_at table (map Put rows) (all_puts rows) key ∙ ap (λ (t : RowTable). onto (get table key) (get t key)) again ∙ sym (left_at table ws puts key))

-- the rows that puts leave make of a table what the puts make of it
pub put_gives : (found : Result (List Write) Damage) (rows : List Row) (result : Result (Unit {0}) JobReply) (old new : RowTable) → IfOk found ArePuts → LeavesRows found rows
    → MatchResult result (λ done. new ≡ table_after_all old (map Put rows)) (λ reply. reply ≡ job.Memory) → GivesFold result found old new
put_gives found rows (Err reply) old new puts leaves wanting = let P : JobReply → Type 0 = λ r. IsErrorOf r found in subst P (sym wanting) tt
put_gives (Ok writes) rows (Ok done) old new puts leaves is = is ∙ rows_onto old writes rows puts leaves
put_gives (Err damage) rows (Ok done) old new puts leaves is = absurd leaves
