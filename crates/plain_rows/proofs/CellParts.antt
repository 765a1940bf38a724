-- The cells of a row stand for it.
use Rattle.std.proofs.Common.{◌≡◌, ◌≢◌, ℕ, ◌<◌, ◌≤◌, ◌^◌, Bool, true, ◌&&◌, leb, ltb, List, [], ◌∷◌, length, get_or, Some, None, Ok, Err, refl, arith}
use Rattle.std.specs.Prelude.{pos, if◌then◌else◌}
use Rattle.std.proofs.lemmas.Bool.{and_from, le-leb}
use Rattle.std.proofs.lemmas.Grind.{common_steps}
use Rattle.hudi_base.specs.InstantTime.{IsTime, first_time, last_time}
use Rattle.hudi_base.specs.declared.value.Value.{Value}
use Rattle.hudi_base.specs.declared.value.Value.TheVariants as value
use Rattle.payload_merge.specs.declared.row.Row.{Row}
use Rattle.plain_rows.specs.Cells.{place_of, rank_of, row_in, row_of_cells, sized_of, time_of}
use Rattle.plain_rows.specs.OwnRows.{IsOwn, is_sized_text, most_body_bytes, most_key_bytes}
use Rattle.plain_rows.proofs.ReadBack.{sized_is}
use Rattle.std.specs.Str.{IsUtf8}

passes : {A : Type 0} (test : Bool) (x : A) → test ≡ true → (if test then Some x else None) ≡ Some x
passes test x is = rw is refl

time_again : (t : ℕ) → IsTime t → time_of (value.Long (pos t)) ≡ Some t
unfolding time_of
time_again t is_time = passes (leb first_time t && leb t last_time) t (and_from (leb first_time t) (leb t last_time) (le-leb _ _ is_time.0) (le-leb _ _ is_time.1))

place_again : (seq : ℕ) → seq < 2 ^ 32 → place_of (value.Long (pos seq)) ≡ Some seq
unfolding place_of
place_again seq small = let test : ltb seq (2 ^ 32) ≡ true = grind (arith, common_steps) in passes (ltb seq (2 ^ 32)) seq test

sized_again : (least most : ℕ) (bytes : List ℕ) → least ≤ length bytes → length bytes ≤ most → IsUtf8 bytes → sized_of least most (value.Bytes bytes) ≡ Some bytes
unfolding sized_of
sized_again least most bytes from to is = passes (is_sized_text least most bytes) bytes (sized_is least most bytes from to is)

pub cells_again : (row : Row) (file : List ℕ) → IsOwn row → IsTime row.commit → row.seq < 2 ^ 32
    → row_in row.partition (value.Text file ∷ value.Long (pos row.commit) ∷ value.Long (pos row.seq) ∷ value.Bytes row.key ∷ value.Long row.rank ∷ value.Bytes row.body ∷ []) ≡ Ok row
unfolding row_in row_of_cells rank_of
cells_again row file own is_time small =
    rw (time_again row.commit is_time, place_again row.seq small, sized_again 1 most_key_bytes row.key own.key_from own.key_to own.key_text, sized_again 0 most_body_bytes row.body (omega arith) own.body_to own.body_text) refl

-- six cells, by their places
pub six_cells : (partition : List ℕ) (cells : List Value) (commit seq key rank body : Value) → length cells ≡ 6
    → commit ≡ get_or cells 1 commit → seq ≡ get_or cells 2 seq → key ≡ get_or cells 3 key → rank ≡ get_or cells 4 rank → body ≡ get_or cells 5 body
    → row_of_cells partition (time_of commit) (place_of seq) (sized_of 1 most_key_bytes key) (rank_of rank) (sized_of 0 most_body_bytes body) ≡ row_in partition cells
unfolding row_in
six_cells partition (file ∷ a ∷ b ∷ c ∷ d ∷ e ∷ []) commit seq key rank body six first second third fourth fifth =
    let p : commit ≡ a = first in
    let q : seq ≡ b = second in
    let r : key ≡ c = third in
    let s : rank ≡ d = fourth in
    let t : body ≡ e = fifth in
    rw (p, q, r, s, t) refl
six_cells partition [] commit seq key rank body six first second third fourth fifth = absurd (omega arith)
six_cells partition (a ∷ []) commit seq key rank body six first second third fourth fifth = absurd (omega arith)
six_cells partition (a ∷ b ∷ []) commit seq key rank body six first second third fourth fifth = absurd (omega arith)
six_cells partition (a ∷ b ∷ c ∷ []) commit seq key rank body six first second third fourth fifth = absurd (omega arith)
six_cells partition (a ∷ b ∷ c ∷ d ∷ []) commit seq key rank body six first second third fourth fifth = absurd (omega arith)
six_cells partition (a ∷ b ∷ c ∷ d ∷ e ∷ []) commit seq key rank body six first second third fourth fifth = absurd (omega arith)
six_cells partition (a ∷ b ∷ c ∷ d ∷ e ∷ f ∷ g ∷ more) commit seq key rank body six first second third fourth fifth = absurd (omega arith)

-- any other number of cells
pub not_six_cells : (partition : List ℕ) (cells : List Value) → length cells ≢ 6 → row_in partition cells ≡ Err 0
unfolding row_in
not_six_cells partition (file ∷ a ∷ b ∷ c ∷ d ∷ e ∷ []) other = absurd (other refl)
not_six_cells partition [] other = refl
not_six_cells partition (a ∷ []) other = refl
not_six_cells partition (a ∷ b ∷ []) other = refl
not_six_cells partition (a ∷ b ∷ c ∷ []) other = refl
not_six_cells partition (a ∷ b ∷ c ∷ d ∷ []) other = refl
not_six_cells partition (a ∷ b ∷ c ∷ d ∷ e ∷ []) other = refl
not_six_cells partition (a ∷ b ∷ c ∷ d ∷ e ∷ f ∷ g ∷ more) other = refl
