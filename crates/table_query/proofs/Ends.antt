-- How a query ends that reads a view's groups one after another.
use Rattle.std.proofs.Common.{◌≡◌, inl, inr, ◌<◌, ◌+◌, ℕ, zero, suc, List, [], ◌∷◌, length, map, take, get_or, Option, Some, None, Result, Ok, Err, refl, sym, ap, subst, ◌∙◌, arith, add-one, zero-add}
use Rattle.std.specs.Prelude.{MatchResult, slice_get}
use Rattle.std.specs.FinMap.{empty}
use Rattle.std.proofs.lemmas.List.{length-map, take_all}
use Rattle.payload_merge.specs.Fold.{RowTable, rows_of}
use Rattle.payload_merge.specs.declared.row.Row.{Row}
use Rattle.payload_merge.specs.declared.row.Write.{Write}
use Rattle.table_core.specs.declared.job_reply.JobReply.{JobReply}
use Rattle.table_core.specs.declared.job_reply.JobReply.TheVariants as job
use Rattle.table_history.specs.JobLaw.{Phase, Reads}
use Rattle.table_history.specs.Pins.{files_of_view}
use Rattle.table_history.specs.declared.entry.Entry.{Entry}
use Rattle.table_history.specs.declared.view.GroupParts.{GroupParts}
use Rattle.table_history.specs.declared.view.Part.{Part}
use Rattle.table_history.specs.declared.view.View.{View}
use Rattle.table_jobs.specs.Replies.{IsTold, told}
use Rattle.table_query.specs.Answers.{IsAnswer, StopsAtDamage, reply_with}
use Rattle.table_query.specs.GroupReading.{Damage, TableReading, all_from, files_in, followed_by, group_writes, is_among, view_writes}
use Rattle.table_query.specs.Parts.{Folds, GivesFold, GivesRows, IsErrorOf, LeavesRows, text_at}
use Rattle.table_query.specs.ReadBytes.{ReadsBefore, bytes_read, pinned}
use Rattle.table_query.specs.Reading.{HasFailed, HasReadFiles, HasReadUpTo, HasStopped, MayLeave, still_to_read}
use Rattle.table_query.specs.Snapshots.{HasAnswer, HasPinned, HasReadView, answer_of}
use Rattle.table_query.proofs.Following.{error_in_front, files_count, one_more, sizes, sizes_more}
use Rattle.table_query.proofs.InTurn.{all_behind, all_in_turn, damage_in_turn, group_alike, parts_of, stops_at, whole_files}
use Rattle.table_query.proofs.Replies.{same_files, told_answer}
use Rattle.table_query.proofs.Same.{view_same}

-- ---- what folds and rows say

pub folds_ok : {E : Type 0} (r : Result (List Write) E) (old new : RowTable) → Folds r old new → (ws : List Write) × (r ≡ Ok ws)
folds_ok (Ok ws) old new is = (ws, refl)
folds_ok (Err e) old new is = absurd is

pub ordered_rows : (found : Result (List Write) Damage) (table : RowTable) (result : Result (List Row) JobReply) → Folds found empty table
    → MatchResult result (λ rows. rows ≡ rows_of table) (λ reply. reply ≡ job.Memory) → GivesRows result found
ordered_rows (Ok ws) table (Ok rows) folds ordered = ordered ∙ ap rows_of folds
ordered_rows found table (Err reply) folds wanting = let P : JobReply → Type 0 = λ r. IsErrorOf r found in subst P (sym wanting) tt
ordered_rows (Err e) table (Ok rows) folds ordered = absurd folds

pub gives_same : (result : Result (List Row) JobReply) (found other : Result (List Write) Damage) → found ≡ other → GivesRows result found → GivesRows result other
gives_same result found other same gives = let P : Result (List Write) Damage → Type 0 = GivesRows result in subst P same gives

pub only_one : {A : Type 0} (xs : List A) (x : A) → length xs ≡ 1 → x ≡ get_or xs 0 x → xs ≡ x ∷ []
only_one {A = A} [] x long is = absurd (omega (arith, long))
only_one {A = A} (y ∷ []) x long is = ap (λ (z : A). z ∷ []) (sym is)
only_one {A = A} (y ∷ (z ∷ xs)) x long is = absurd (omega (arith, long))

-- ---- the files of the next group

-- what was found in texts was found in the bytes that were read
pub found_in_texts : (reading : TableReading) (completed : List ℕ) (pin first count : ℕ) (all : List ℕ) (mine : List Entry) (texts : List (List ℕ)) (g : GroupParts) → count ≡ files_in g
    → HasReadFiles pin first count all mine texts → group_writes reading completed (text_at texts) 0 g ≡ group_writes reading completed (bytes_read mine) first g
found_in_texts reading completed pin first count all mine texts g long read =
    group_alike reading completed (text_at texts) (bytes_read mine) 0 first g (λ k below. ap (text_at texts) (zero-add k) ∙ sym (read.texts_are k (omega (arith, below, long))))

pub group_read : (pin first count : ℕ) (all : List ℕ) (mine : List Entry) (texts : List (List ℕ)) (g : GroupParts) → count ≡ files_in g → HasReadFiles pin first count all mine texts
    → HasReadUpTo pin (first + files_in g) all mine
group_read pin first count all mine texts g long read = let P : ℕ → Type 0 = λ n. HasReadUpTo pin (first + n) all mine in subst P long read.so_far

-- its writes are folded, or it stops the query
pub folded_next : (reading : TableReading) (completed : List ℕ) (pin first count : ℕ) (all : List ℕ) (mine : List Entry) (texts : List (List ℕ)) (g : GroupParts) (result : Result (Unit {0}) JobReply) (old new : RowTable)
    → count ≡ files_in g → HasReadFiles pin first count all mine texts → GivesFold result (group_writes reading completed (text_at texts) 0 g) old new
    → MatchResult result (λ done. HasReadUpTo pin (first + files_in g) all mine × Folds (group_writes reading completed (bytes_read mine) first g) old new)
    (λ reply. HasStopped pin (first + files_in g) all (group_writes reading completed (bytes_read mine) first g) mine reply)
folded_next reading completed pin first count all mine texts g result old new long read gives = by result gives
  where
    up_to : HasReadUpTo pin (first + files_in g) all mine
    up_to = group_read pin first count all mine texts g long read

    same : group_writes reading completed (text_at texts) 0 g ≡ group_writes reading completed (bytes_read mine) first g
    same = found_in_texts reading completed pin first count all mine texts g long read

    by : (r : Result (Unit {0}) JobReply) → GivesFold r (group_writes reading completed (text_at texts) 0 g) old new
        → MatchResult r (λ done. HasReadUpTo pin (first + files_in g) all mine × Folds (group_writes reading completed (bytes_read mine) first g) old new)
        (λ reply. HasStopped pin (first + files_in g) all (group_writes reading completed (bytes_read mine) first g) mine reply)
    by (Ok done) folds = let P : Result (List Write) Damage → Type 0 = λ f. Folds f old new in (up_to, subst P same folds)
    by (Err reply) error = let P : Result (List Write) Damage → Type 0 = IsErrorOf reply in inr (up_to, subst P same error)

-- ---- the view

pub begins_reading : (view : View) (all : List ℕ) (mine : List Entry) → all ≡ map (λ part. part.length) (files_of_view view) → HasPinned view mine → HasReadUpTo view.pin 0 all mine
begins_reading view all mine sized begun = record {
  phase = begun.phase ∙ ap (λ (files : List (ℕ × ℕ)). Reads view.pin files 0) (same_files 0 (files_of_view view) ∙ sym (ap (still_to_read 0) sized));
  untold = begun.untold;
  whole = λ k below. absurd (omega (arith, below));
  unread = λ k le. begun.unread k;
  front = begun.front;
}

-- the sizes of all files are as many as the groups have files
pub all_files : (view : View) (all : List ℕ) → all ≡ map (λ part. part.length) (files_of_view view) → length all ≡ sizes files_in view.groups
all_files view all sized = ap length sized ∙ length-map (files_of_view view) (λ part. part.length) ∙ sym (files_count view.groups)

leaves_pin : (pin : ℕ) (files : List (ℕ × ℕ)) (p : Phase) → p ≡ Reads pin files 0 → MayLeave pin p
leaves_pin pin files p is = let P : Phase → Type 0 = MayLeave pin in subst P (sym is) refl

-- memory was wanting before anything was read
pub wanting_at_once : (reading : TableReading) (view : View) (mine : List Entry) → HasPinned view mine → HasAnswer reading view mine job.Memory
wanting_at_once reading view mine begun = record {
  left = leaves_pin _ _ _ begun.phase;
  view_is = begun.view_is;
  stops = all_behind reading view.completed mine 0 0 view.groups (omega arith) begun.front;
  answer = told_answer reading (told mine) (Some view) (bytes_read mine) job.Memory (let P : Option JobReply → Type 0 = λ o. IsTold o job.Memory in subst P (sym begun.untold) refl);
}

module _ (reading : TableReading) (view : View) (mine : List Entry) where
  -- an answer that the bytes make
  pub stop_answer : (given : JobReply) → HasReadView reading view mine → IsErrorOf given (view_writes reading view.completed (bytes_read mine) view.groups) → HasAnswer reading view mine given
  stop_answer given read error = record {
    left = read.left;
    view_is = read.view_is;
    stops = read.stops;
    answer = let P : Option JobReply → Type 0 = λ o. IsAnswer reading o (Some view) (bytes_read mine) given in subst P (sym read.untold) (by given error);
  }
    where
      by : (r : JobReply) → IsErrorOf r (view_writes reading view.completed (bytes_read mine) view.groups) → IsAnswer reading None (Some view) (bytes_read mine) r
      by (job.Damaged name cause place) is = (read.read, sym (ap (reply_with view.t) is))
      by job.Memory is = tt
      by (job.Committed t) is = absurd is
      by (job.BadRow number why) is = absurd is
      by (job.Rows t rows) is = absurd is
      by (job.NotCompleted t) is = absurd is
      by job.TimeOver is = absurd is
      by job.Fault is = absurd is

  pub rows_answer : (result : Result (List Row) JobReply) → HasReadView reading view mine → GivesRows result (view_writes reading view.completed (bytes_read mine) view.groups)
      → HasAnswer reading view mine (answer_of view.t result)
  rows_answer (Err given) read error = stop_answer given read error
  rows_answer (Ok rows) read leaves = record {
    left = read.left;
    view_is = read.view_is;
    stops = read.stops;
    answer = let P : Option JobReply → Type 0 = λ o. IsAnswer reading o (Some view) (bytes_read mine) (job.Rows view.t rows) in
        subst P (sym read.untold) (read.read, by (view_writes reading view.completed (bytes_read mine) view.groups) leaves);
  }
    where
      by : (found : Result (List Write) Damage) → LeavesRows found rows → job.Rows view.t rows ≡ reply_with view.t found
      by (Ok writes) is = ap (job.Rows view.t) is
      by (Err damage) is = absurd is

  module _ (keys : List ℕ) (among : (t : ℕ) → is_among keys t ≡ is_among view.completed t) (all : List ℕ) (sized : all ≡ map (λ part. part.length) (files_of_view view)) (view_is : pinned mine ≡ Some view) where
    abbrev gives : ℕ → GroupParts → Result (List Write) Damage
    gives = group_writes reading keys (bytes_read mine)

    alike : (gs : List GroupParts) → all_from files_in gives 0 gs ≡ view_writes reading view.completed (bytes_read mine) gs
    alike gs = view_same reading keys view.completed (bytes_read mine) (bytes_read mine) gs among (λ k. refl)

    whole_up_to : (m : ℕ) → HasReadUpTo view.pin m all mine → (k : ℕ) (part : Part) → slice_get (parts_of view.groups) k ≡ Some part → 0 + k < m → length (bytes_read mine (0 + k)) ≡ part.length
    whole_up_to m read k part there below =
        ap (λ (n : ℕ). length (bytes_read mine n)) (zero-add k) ∙ whole_files (bytes_read mine) m all (files_of_view view) sized read.whole k part there (omega (arith, below))

    -- all groups were read
    pub all_read : HasReadUpTo view.pin (length all) all mine → (ws : List Write) → all_from files_in gives 0 view.groups ≡ Ok ws → HasReadView reading view mine
    all_read read ws ok =
        let every = all_files view all sized in
        let n : ℕ = length view.groups in
        let front : take n view.groups ≡ view.groups = take_all n view.groups (omega arith) in
        let more : take (suc n) view.groups ≡ view.groups = take_all (suc n) view.groups (omega arith) in
        let last = ap (sizes files_in) more in
        record {
          left = leaves_pin _ _ _ read.phase;
          untold = read.untold;
          view_is = view_is;
          stops = stops_at reading view.completed mine n (length all) 0 view.groups ws (omega (arith, every, last)) read.front
              (ap (all_from files_in (group_writes reading view.completed (bytes_read mine)) 0) front ∙ sym (alike view.groups) ∙ ok);
          read = all_in_turn reading view.completed (bytes_read mine) (length all) 0 view.groups (whole_up_to (length all) read) (omega (arith, every));
        }

    -- the last one was read, and the writes of all are folded
    pub all_folded : (first : ℕ) (table : RowTable) → first ≡ sizes files_in view.groups → HasReadUpTo view.pin first all mine → Folds (all_from files_in gives 0 view.groups) empty table
        → HasReadView reading view mine × Folds (view_writes reading view.completed (bytes_read mine) view.groups) empty table
    all_folded first table first_is read folds =
        let P : ℕ → Type 0 = λ n. HasReadUpTo view.pin n all mine in
        let Q : Result (List Write) Damage → Type 0 = λ r. Folds r empty table in
        let writes = folds_ok (all_from files_in gives 0 view.groups) empty table folds in
        (all_read (subst P (first_is ∙ sym (all_files view all sized)) read) writes.0 writes.1, subst Q (alike view.groups) folds)

    -- the only one was read
    pub only_read : (g : GroupParts) → view.groups ≡ g ∷ [] → HasReadUpTo view.pin (files_in g) all mine → HasReadView reading view mine
    only_read g only read =
        let one : sizes files_in view.groups ≡ files_in g + 0 = ap (sizes files_in) only in
        let more : take (suc zero) view.groups ≡ view.groups = ap (take (suc zero)) only ∙ sym only in
        let last = ap (sizes files_in) more in
        record {
          left = leaves_pin _ _ _ read.phase;
          untold = read.untold;
          view_is = view_is;
          stops = stops_at reading view.completed mine zero (files_in g) 0 view.groups [] (omega (arith, one, last)) read.front refl;
          read = all_in_turn reading view.completed (bytes_read mine) (files_in g) 0 view.groups (whole_up_to (files_in g) read) (omega (arith, one));
        }

    module _ (i first : ℕ) (g : GroupParts) (within : i < length view.groups) (here : g ≡ get_or view.groups i g) (first_is : first ≡ sizes files_in (take i view.groups))
        (ws : List Write) (ok : all_from files_in gives 0 (take i view.groups) ≡ Ok ws) where
      behind : sizes files_in (take (suc i) view.groups) ≡ first + files_in g
      behind = ap (λ (n : ℕ). sizes files_in (take n view.groups)) (sym (add-one i)) ∙ sizes_more files_in gives i view.groups g within here ∙ ap (λ (n : ℕ). n + files_in g) (sym first_is)

      before_ok : all_from files_in (group_writes reading view.completed (bytes_read mine)) 0 (take i view.groups) ≡ Ok ws
      before_ok = sym (alike (take i view.groups)) ∙ ok

      -- a step failed while this group was read, or memory was wanting
      pub failed_at : (given : JobReply) → ReadsBefore (first + files_in g) mine → HasFailed view.pin mine given → HasAnswer reading view mine given
      failed_at given before failed = record {
        left = failed.left;
        view_is = view_is;
        stops = stops_at reading view.completed mine i (first + files_in g) 0 view.groups ws (omega (arith, behind)) before before_ok;
        answer = told_answer reading (told mine) (Some view) (bytes_read mine) given failed.told;
      }

      damaged_front : (d : Damage) → gives first g ≡ Err d → all_from files_in (group_writes reading view.completed (bytes_read mine)) 0 (take (suc i) view.groups) ≡ Err d
      damaged_front d wrong =
          let number : 0 + sizes files_in (take i view.groups) ≡ first = zero-add _ ∙ sym first_is in
          sym (alike (take (suc i) view.groups)) ∙ ap (λ (n : ℕ). all_from files_in gives 0 (take n view.groups)) (sym (add-one i)) ∙ one_more files_in gives 0 i view.groups g within here
          ∙ ap (λ (r : Result (List Write) Damage). followed_by r (gives (0 + sizes files_in (take i view.groups)) g)) ok
          ∙ ap (λ (n : ℕ). followed_by (Ok ws) (gives n g)) number ∙ ap (followed_by (Ok ws)) wrong

      -- its bytes have no reading
      pub damaged_at : (given : JobReply) → HasReadUpTo view.pin (first + files_in g) all mine → IsErrorOf given (gives first g) → HasAnswer reading view mine given
      damaged_at given read error = by given error
        where
          stops : StopsAtDamage reading view.completed mine 0 view.groups
          stops = stops_at reading view.completed mine i (first + files_in g) 0 view.groups ws (omega (arith, behind)) read.front before_ok

          wanting : HasAnswer reading view mine job.Memory
          wanting = record {
            left = leaves_pin _ _ _ read.phase;
            view_is = view_is;
            stops = stops;
            answer = let P : Option JobReply → Type 0 = λ o. IsAnswer reading o (Some view) (bytes_read mine) job.Memory in subst P (sym read.untold) tt;
          }

          damaged : (d : Damage) → gives first g ≡ Err d → HasReadView reading view mine × (view_writes reading view.completed (bytes_read mine) view.groups ≡ Err d)
          damaged d wrong = (
            record {
              left = leaves_pin _ _ _ read.phase;
              untold = read.untold;
              view_is = view_is;
              stops = stops;
              read = damage_in_turn reading view.completed (bytes_read mine) (suc i) (first + files_in g) 0 view.groups d (whole_up_to (first + files_in g) read) (omega (arith, behind)) (damaged_front d wrong);
            },
            error_in_front files_in (group_writes reading view.completed (bytes_read mine)) 0 (suc i) view.groups d (damaged_front d wrong),
          )

          by : (r : JobReply) → IsErrorOf r (gives first g) → HasAnswer reading view mine r
          by (job.Damaged name cause place) is = let both = damaged _ is in stop_answer (job.Damaged name cause place) both.0 both.1
          by job.Memory is = wanting
          by (job.Committed t) is = absurd is
          by (job.BadRow number why) is = absurd is
          by (job.Rows t rows) is = absurd is
          by (job.NotCompleted t) is = absurd is
          by job.TimeOver is = absurd is
          by job.Fault is = absurd is

      pub stopped_at : (given : JobReply) → ReadsBefore (first + files_in g) mine → HasStopped view.pin (first + files_in g) all (gives first g) mine given → HasAnswer reading view mine given
      stopped_at given before (inl failed) = failed_at given before failed
      stopped_at given before (inr stopped) = damaged_at given stopped.0 stopped.1
