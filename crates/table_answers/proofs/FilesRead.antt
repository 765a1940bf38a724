-- What a query read is the beginning of each file as it was when the query began.
use Rattle.std.proofs.Common.{◌≡◌, ◌<◌, ◌≤◌, ◌+◌, ℕ, zero, suc, Bool, true, false, cond, List, [], ◌∷◌, ◌++◌, length, take, drop, Option, Some, None, IfSome, refl, sym, ap, subst, ◌∙◌, arith, append_assoc, append-nil, length-append, length-drop}
use Rattle.std.specs.Prelude.{◌==◌, IsSomeAnd}
use Rattle.std.proofs.Math.Seq.{drop-append_seam}
use Rattle.std.proofs.lemmas.Bool.Decides.{nat_tests}
use Rattle.table_history.specs.Answers.{Answers, IsPieceOf, May}
use Rattle.table_history.specs.Histories.{History, own}
use Rattle.table_history.specs.JobLaw.{Work, IsLegal, Phase, Fresh, Reads, Leaves, Ended, Allows, after_piece, files_to_read, next_phase, phase}
use Rattle.table_history.specs.Logs.{bytes_in, files_of}
use Rattle.table_history.specs.Pins.{IsView, files_of_view, part_at, pin_of}
use Rattle.table_history.specs.Tables.{KnownFile, Table}
use Rattle.table_history.specs.declared.entry.Entry.{Entry}
use Rattle.table_history.specs.declared.job.Job.{Job}
use Rattle.table_history.specs.declared.reply.Reply.{Reply}
use Rattle.table_history.specs.declared.reply.Reply.TheVariants as reply
use Rattle.table_history.specs.declared.step.Reader.TheVariants as reader
use Rattle.table_history.specs.declared.step.Step.{Step}
use Rattle.table_history.specs.declared.step.Step.TheVariants.{Begin, Enter, Append, Finish, Pin, Unpin, Read, Abandon}
use Rattle.table_history.specs.declared.view.LivePin.{LivePin}
use Rattle.table_history.specs.declared.view.Part.{Part}
use Rattle.table_history.specs.declared.view.View.{View}
use Rattle.table_history.proofs.Bounds.{number}
use Rattle.table_images.proofs.SameLogs.{entry}
use Rattle.table_query.specs.ReadBytes.{IsQueryStep, PinsAt, bytes_read, piece_of, pinned}
use Rattle.table_answers.proofs.Made.{AllBy, own_made}

-- ---- files stay

files_stay : (A : Table) (H : History) (j : Job) (at : Option ℕ) (s : Step) (r : Reply) → IsQueryStep at s → files_of A (entry j s r ∷ H) ≡ files_of A H
files_stay A H j at (Pin asked bases_only) r asks = refl
files_stay A H j at (Read from file offset len) r asks = refl
files_stay A H j at (Unpin pin) r asks = refl
files_stay A H j at Begin r asks = absurd asks
files_stay A H j at (Enter t slots) r asks = absurd asks
files_stay A H j at (Append t target writes bytes) r asks = absurd asks
files_stay A H j at (Finish t checkpoint) r asks = absurd asks
files_stay A H j at (Abandon t) r asks = absurd asks

pub all_stay : (A : Table) (before : History) (at : Option ℕ) (es : List Entry) → PinsAt at es → files_of A (es ++ before) ≡ files_of A before
all_stay A before at [] asks = refl
all_stay A before at (e ∷ es) asks = files_stay A (es ++ before) e.job at e.step e.reply asks.0 ∙ all_stay A before at es asks.1

-- ---- beginnings

pub record IsBeginning (xs ys : List ℕ) : Type 0 where
  pub rest : List ℕ
  pub is : ys ≡ xs ++ rest

pub whole_beginning : (xs ys : List ℕ) → IsBeginning xs ys → length xs ≡ length ys → xs ≡ ys
whole_beginning xs ys front long = sym (front.is ∙ ap (λ rest. xs ++ rest) (none front.rest (let all = ap length front.is in omega (arith, all, long, length-append xs front.rest))) ∙ append-nil xs)
  where
    none : (rest : List ℕ) → length rest ≡ 0 → rest ≡ []
    none [] e = refl
    none (x ∷ rest) e = absurd (omega (arith, e))

take_drop : (n : ℕ) (xs : List ℕ) → xs ≡ take n xs ++ drop n xs
take_drop zero xs = refl
take_drop (suc n) [] = refl
take_drop (suc n) (x ∷ xs) = ap (λ rest. x ∷ rest) (take_drop n xs)

take_long : (n : ℕ) (xs : List ℕ) → n ≤ length xs → length (take n xs) ≡ n
take_long zero xs le = refl
take_long (suc n) [] le = absurd (omega (arith, le))
take_long (suc n) (x ∷ xs) le = let rest = take_long n xs (omega (arith, le)) in omega (arith, rest)

-- the next piece, behind a beginning
one_more : (xs ys : List ℕ) (at len : ℕ) → length xs ≡ at → IsBeginning xs ys → IsBeginning (xs ++ take len (drop at ys)) ys
one_more xs ys at len long front =
    let behind : drop at ys ≡ front.rest = ap (λ n. drop n ys) (sym long) ∙ ap (drop (length xs)) front.is ∙ drop-append_seam xs front.rest in
    record {
      rest = drop len front.rest;
      is = front.is ∙ ap (λ zs. xs ++ zs) (take_drop len front.rest) ∙ sym (append_assoc xs (take len front.rest) (drop len front.rest))
          ∙ ap (λ zs. (xs ++ take len zs) ++ drop len front.rest) (sym behind);
    }

piece_long : (ys : List ℕ) (at len : ℕ) → at + len ≤ length ys → length (take len (drop at ys)) ≡ len
piece_long ys at len within = take_long len (drop at ys) (omega (arith, within, length-drop at ys))

-- ---- how far a query is

-- the numbers of files rise
abbrev AheadOf : ℕ → List (ℕ × ℕ) → Type 0
AheadOf n [] = Unit {0}
AheadOf n (file ∷ more) = (n < file.0) × AheadOf file.0 more

-- so much of the first file was read, and nothing of those behind it
abbrev IsReadTo : List Entry → List (ℕ × ℕ) → ℕ → Type 0
IsReadTo es [] n = Unit {0}
IsReadTo es (file ∷ more) n = (length (bytes_read es file.0) ≡ n) × ((k : ℕ) → file.0 < k → bytes_read es k ≡ []) × AheadOf file.0 more

-- the pin is live, with the view that was pinned
pub record HasView (H : History) (es : List Entry) (pin : ℕ) : Type 0 where
  pub live : LivePin
  pub pinned : pinned es ≡ Some live.view
  pub is : pin_of H pin ≡ Some live

abbrev Reading : History → List Entry → Phase → Type 0
Reading H es Fresh = es ≡ []
Reading H es (Reads pin files n) = HasView H es pin × IsReadTo es files n
Reading H es _ = Unit {0}

-- each part's bytes begin with what was read of it
abbrev pub BeginsParts : List KnownFile → List Entry → View → Type 0
BeginsParts fs es view = (k : ℕ) (part : Part) → part_at view k ≡ Some part → IsBeginning (bytes_read es k) (bytes_in fs part.name)

pub record IsSoFar (A : Table) (before : History) (at : Option ℕ) (es : List Entry) (p : Phase) : Type 0 where
  pub reading : Reading (es ++ before) es p
  pub views : (view : View) → pinned es ≡ Some view → IsView A before at false view × BeginsParts (files_of A before) es view

-- ---- a piece

pub record GotPiece (view : View) (fs : List KnownFile) (number offset len : ℕ) (bytes : List ℕ) : Type 0 where
  pub part : Part
  pub there : part_at view number ≡ Some part
  pub piece : IsPieceOf part offset len
  pub is : bytes ≡ take len (drop offset (bytes_in fs part.name))

got_of : (view : View) (fs : List KnownFile) (number offset len : ℕ) (bytes : List ℕ) (o : Option Part) → part_at view number ≡ o → IsSomeAnd o (λ part. IsPieceOf part offset len)
    → IfSome o (λ part. bytes ≡ take len (drop offset (bytes_in fs part.name))) → GotPiece view fs number offset len bytes
got_of view fs number offset len bytes None is may answers = absurd may
got_of view fs number offset len bytes (Some part) is may answers = record { part = part; there = is; piece = may; is = answers }

got : (A : Table) (H : History) (j : Job) (q number offset len : ℕ) (bytes : List ℕ) (live : LivePin) → pin_of H q ≡ Some live → May A H j (Read (reader.Pin q) number offset len)
    → Answers A H (Read (reader.Pin q) number offset len) (reply.Piece bytes) → GotPiece live.view (files_of A H) number offset len bytes
got A H j q number offset len bytes live is may answers =
    let may_live : (live.job ≡ j) × IsSomeAnd (part_at live.view number) (λ part. IsPieceOf part offset len) =
    subst (λ (o : Option LivePin). IsSomeAnd o (λ live. (live.job ≡ j) × IsSomeAnd (part_at live.view number) (λ part. IsPieceOf part offset len))) is may in
    let answers_live : IfSome (part_at live.view number) (λ part. bytes ≡ take len (drop offset (bytes_in (files_of A H) part.name))) =
    subst (λ (o : Option LivePin). IfSome o (λ live. IfSome (part_at live.view number) (λ part. bytes ≡ take len (drop offset (bytes_in (files_of A H) part.name))))) is answers in
    got_of live.view (files_of A H) number offset len bytes (part_at live.view number) refl may_live.1 answers_live

one_view : (view other : View) → Some view ≡ Some other → view ≡ other
one_view view other e = cc

one_part : (part other : Part) → Some part ≡ Some other → part ≡ other
one_part part other e = cc

itself : (n : ℕ) → (n == n) ≡ true
itself n = grind (arith, nat_tests)

apart : (n k : ℕ) → n < k → (n == k) ≡ false
apart n k h = grind (arith, nat_tests)

-- ---- one entry

module _ (A : Table) (before : History) (at : Option ℕ) (es : List Entry) (j : Job) where
  -- nothing was pinned or read
  still : (s : Step) (r : Reply) (p q : Phase) → pinned (entry j s r ∷ es) ≡ pinned es → ((k : ℕ) → piece_of s r k ≡ []) → Reading (entry j s r ∷ es ++ before) (entry j s r ∷ es) q
      → IsSoFar A before at es p → IsSoFar A before at (entry j s r ∷ es) q
  still s r p q same none reading was = record {
    reading = reading;
    views = λ view is. let old = was.views view (sym same ∙ is) in
        (old.0, λ k part there. subst (λ xs. IsBeginning xs (bytes_in (files_of A before) part.name)) (sym (ap (λ xs. bytes_read es k ++ xs) (none k) ∙ append-nil (bytes_read es k))) (old.1 k part there));
  }

  module _ (pin : ℕ) (file : ℕ × ℕ) (more : List (ℕ × ℕ)) (n : ℕ) (was : IsSoFar A before at es (Reads pin (file ∷ more) n)) (number_of len : ℕ) (bytes : List ℕ) (first : number_of ≡ file.0)
      (piece : GotPiece was.reading.0.live.view (files_of A before) number_of n len bytes) (long : length bytes ≡ len) where
    abbrev s : Step
    s = Read (reader.Pin pin) number_of n len

    abbrev new : List Entry
    new = entry j s (reply.Piece bytes) ∷ es

    of_first : bytes_read new file.0 ≡ bytes_read es file.0 ++ bytes
    of_first = ap (λ b. bytes_read es file.0 ++ cond b bytes []) (ap (λ k. k == file.0) first ∙ itself file.0)

    behind : (k : ℕ) → file.0 < k → bytes_read new k ≡ []
    behind k above = ap (λ xs. xs ++ cond (number_of == k) bytes []) (was.reading.1.1 k above) ∙ ap (λ b. cond b bytes []) (ap (λ m. m == k) first ∙ apart file.0 k above)

    further : length (bytes_read new file.0) ≡ n + len
    further = let all = ap length of_first in let old = was.reading.1.0 in omega (arith, all, old, long, length-append (bytes_read es file.0) bytes)

    next_file : (files : List (ℕ × ℕ)) → AheadOf file.0 files → IsReadTo new files 0
    next_file [] ahead = tt
    next_file (g ∷ rest) ahead = (ap length (behind g.0 ahead.0), λ k above. behind k (let up = ahead.0 in omega (arith, up, above)), ahead.1)

    has_view : HasView (new ++ before) new pin
    has_view = record { live = was.reading.0.live; pinned = was.reading.0.pinned; is = was.reading.0.is }

    begins : (view : View) → pinned es ≡ Some view → BeginsParts (files_of A before) es view → BeginsParts (files_of A before) new view
    begins view is old k part there = by (number_of == k) refl
      where
        by : (b : Bool) → (number_of == k) ≡ b → IsBeginning (bytes_read es k ++ cond b bytes []) (bytes_in (files_of A before) part.name)
        by false other = subst (λ xs. IsBeginning xs (bytes_in (files_of A before) part.name)) (sym (append-nil (bytes_read es k))) (old k part there)
        by true here =
            let k_is : k ≡ file.0 = sym (number number_of k here) ∙ first in
            let view_is : was.reading.0.live.view ≡ view = one_view was.reading.0.live.view view (sym was.reading.0.pinned ∙ is) in
            let part_is : piece.part ≡ part = one_part piece.part part (sym piece.there ∙ ap (λ v. part_at v number_of) view_is ∙ ap (part_at view) (number number_of k here) ∙ there) in
            let bytes_are : bytes ≡ take len (drop n (bytes_in (files_of A before) part.name)) = piece.is ∙ ap (λ (x : Part). take len (drop n (bytes_in (files_of A before) x.name))) part_is in
            subst (λ xs. IsBeginning (bytes_read es k ++ xs) (bytes_in (files_of A before) part.name)) (sym bytes_are)
            (one_more (bytes_read es k) (bytes_in (files_of A before) part.name) n len (ap (λ m. length (bytes_read es m)) k_is ∙ was.reading.1.0) (old k part there))

    piece_read : IsSoFar A before at new (after_piece pin (file ∷ more) (n + len))
    piece_read = record {
      reading = by (n + len == file.1);
      views = λ view is. let old = was.views view is in (old.0, begins view is old.1);
    }
      where
        by : (b : Bool) → Reading (new ++ before) new (cond b (Reads pin more 0) (Reads pin (file ∷ more) (n + len)))
        by true = (has_view, next_file more was.reading.1.2)
        by false = (has_view, (further, behind, was.reading.1.2))

-- ---- the pin

ahead_to_read : (m n : ℕ) (parts : List Part) → m < n → AheadOf m (files_to_read n parts)
ahead_to_read m n [] less = tt
ahead_to_read m n (part ∷ more) less = by (part.length == 0) (ahead_to_read m (n + 1) more (omega (arith, less))) (ahead_to_read n (n + 1) more (omega arith))
  where
    by : (b : Bool) → AheadOf m (files_to_read (n + 1) more) → AheadOf n (files_to_read (n + 1) more) → AheadOf m (cond b (files_to_read (n + 1) more) ((n, part.length) ∷ files_to_read (n + 1) more))
    by true skipped rest = skipped
    by false skipped rest = (less, rest)

none_read : (es : List Entry) → ((k : ℕ) → bytes_read es k ≡ []) → (n : ℕ) (parts : List Part) → IsReadTo es (files_to_read n parts) 0
none_read es none n [] = tt
none_read es none n (part ∷ more) = by (part.length == 0) (none_read es none (n + 1) more)
  where
    by : (b : Bool) → IsReadTo es (files_to_read (n + 1) more) 0 → IsReadTo es (cond b (files_to_read (n + 1) more) ((n, part.length) ∷ files_to_read (n + 1) more)) 0
    by true skipped = skipped
    by false skipped = (ap length (none n), λ k above. none k, ahead_to_read n (n + 1) more (omega arith))

view_of : (A : Table) (H : History) (at : Option ℕ) (bases_only : Bool) (view : View) → Answers A H (Pin at bases_only) (reply.Pinned view) → IsView A H at bases_only view
view_of A H None bases_only view answers = answers
view_of A H (Some t) bases_only view answers = answers.0

pinned_first : (A : Table) (before : History) (at : Option ℕ) (j : Job) (asked : Option ℕ) (bases_only : Bool) (view : View) → IsQueryStep at (Pin asked bases_only)
    → Answers A before (Pin asked bases_only) (reply.Pinned view)
    → IsSoFar A before at (entry j (Pin asked bases_only) (reply.Pinned view) ∷ []) (Reads view.pin (files_to_read 0 (files_of_view view)) 0)
pinned_first A before at j asked bases_only view asks answers = record {
  reading = (
    record { live = record { job = j; view = view }; pinned = refl; is = ap (λ b. cond b (Some (record { job = j; view = view })) (pin_of before view.pin)) (itself view.pin) },
    none_read (entry j (Pin asked bases_only) (reply.Pinned view) ∷ []) (λ k. refl) 0 (files_of_view view),
  );
  views = λ other is. (
    subst (IsView A before at false) (one_view view other is)
        (subst (λ b. IsView A before at b view) asks.1 (subst (λ a. IsView A before a bases_only view) asks.0 (view_of A before asked bases_only view answers))),
    λ k part there. record { rest = bytes_in (files_of A before) part.name; is = refl },
  );
}

-- ---- a query's entries

module _ (A : Table) (before : History) (at : Option ℕ) (es : List Entry) (j : Job) (work : Work) (files : files_of A (es ++ before) ≡ files_of A before)
    (long : (view : View) → IsView A before at false view → (k : ℕ) (part : Part) → part_at view k ≡ Some part → length (bytes_in (files_of A before) part.name) ≡ part.length) where
  piece_long_enough : (view : View) (number_of offset len : ℕ) (bytes : List ℕ) → IsView A before at false view → GotPiece view (files_of A before) number_of offset len bytes → length bytes ≡ len
  piece_long_enough view number_of offset len bytes is piece =
      let within = piece.piece.within in
      ap length piece.is ∙ piece_long (bytes_in (files_of A before) piece.part.name) offset len (let all = long view is number_of piece.part piece.there in omega (arith, within, all))

  piece_then : (pin : ℕ) (file : ℕ × ℕ) (more : List (ℕ × ℕ)) (n q number_of offset len : ℕ) (bytes : List ℕ) → reader.Pin q ≡ reader.Pin pin → number_of ≡ file.0 → offset ≡ n
      → May A (es ++ before) j (Read (reader.Pin q) number_of offset len) → Answers A (es ++ before) (Read (reader.Pin q) number_of offset len) (reply.Piece bytes)
      → IsSoFar A before at es (Reads pin (file ∷ more) n) → IsSoFar A before at (entry j (Read (reader.Pin q) number_of offset len) (reply.Piece bytes) ∷ es) (after_piece pin (file ∷ more) (n + len))
  piece_then pin file more n q number_of offset len bytes from first at_is may answers was =
      let live = was.reading.0.live in
      let q_is : q ≡ pin = cc in
      let piece : GotPiece live.view (files_of A before) number_of offset len bytes =
      subst (λ fs. GotPiece live.view fs number_of offset len bytes) files
      (got A (es ++ before) j q number_of offset len bytes live (ap (pin_of (es ++ before)) q_is ∙ was.reading.0.is) may answers) in
      let view_is : IsView A before at false live.view = (was.views live.view was.reading.0.pinned).0 in
      subst (λ (x : ℕ). IsSoFar A before at (entry j (Read (reader.Pin x) number_of offset len) (reply.Piece bytes) ∷ es) (after_piece pin (file ∷ more) (n + len))) (sym q_is)
      (subst (λ (x : ℕ). IsSoFar A before at (entry j (Read (reader.Pin pin) number_of x len) (reply.Piece bytes) ∷ es) (after_piece pin (file ∷ more) (n + len))) (sym at_is)
      (piece_read A before at es j pin file more n was number_of len bytes first (subst (λ x. GotPiece live.view (files_of A before) number_of x len bytes) at_is piece)
      (piece_long_enough live.view number_of offset len bytes view_is piece)))

  so_far_then : (s : Step) (r : Reply) (p : Phase) → IsQueryStep at s → May A (es ++ before) j s → Answers A (es ++ before) s r → Allows work j p s → IsSoFar A before at es p
      → IsSoFar A before at (entry j s r ∷ es) (next_phase p s r)
  so_far_then (Pin asked bases_only) (reply.Pinned view) Fresh asks may answers allowed was =
      subst (λ xs. IsSoFar A before at (entry j (Pin asked bases_only) (reply.Pinned view) ∷ xs) (Reads view.pin (files_to_read 0 (files_of_view view)) 0)) (sym was.reading)
      (pinned_first A before at j asked bases_only view asks (subst (λ xs. Answers A (xs ++ before) (Pin asked bases_only) (reply.Pinned view)) was.reading answers))
  so_far_then (Pin asked bases_only) r Fresh asks may answers allowed was = still A before at es j (Pin asked bases_only) r Fresh Ended refl (λ k. refl) tt was
  so_far_then (Read (reader.Pin q) number_of offset len) r (Reads pin [] n) asks may answers allowed was = absurd allowed
  so_far_then (Read (reader.Pin q) number_of offset len) (reply.Piece bytes) (Reads pin (file ∷ more) n) asks may answers allowed was =
      piece_then pin file more n q number_of offset len bytes allowed.0 allowed.1 allowed.2 may answers was
  so_far_then (Read (reader.Pin q) number_of offset len) (reply.Pinned view) (Reads pin (file ∷ more) n) asks may answers allowed was = absurd answers
  so_far_then (Read (reader.Pin q) number_of offset len) r (Reads pin (file ∷ more) n) asks may answers allowed was =
      still A before at es j (Read (reader.Pin q) number_of offset len) r (Reads pin (file ∷ more) n) (Leaves pin) refl (λ k. refl) tt was
  so_far_then (Unpin q) reply.Done (Reads pin files n) asks may answers allowed was = still A before at es j (Unpin q) reply.Done (Reads pin files n) Ended refl (λ k. refl) tt was
  so_far_then (Unpin q) _ (Reads pin files n) asks may answers allowed was = absurd answers
  so_far_then (Unpin q) reply.Done (Leaves pin) asks may answers allowed was = still A before at es j (Unpin q) reply.Done (Leaves pin) Ended refl (λ k. refl) tt was
  so_far_then (Unpin q) _ (Leaves pin) asks may answers allowed was = absurd answers
  so_far_then Begin r p asks may answers allowed was = absurd asks
  so_far_then (Enter t slots) r p asks may answers allowed was = absurd asks
  so_far_then (Append t target writes bytes) r p asks may answers allowed was = absurd asks
  so_far_then (Finish t checkpoint) r p asks may answers allowed was = absurd asks
  so_far_then (Abandon t) r p asks may answers allowed was = absurd asks
  so_far_then s r p asks may answers allowed was = absurd allowed

pub files_read : (work : Work) (A : Table) (before : History) (at : Option ℕ) (job : Job)
    → ((view : View) → IsView A before at false view → (k : ℕ) (part : Part) → part_at view k ≡ Some part → length (bytes_in (files_of A before) part.name) ≡ part.length)
    → own job before ≡ [] → (es : List Entry) → AllBy job es → PinsAt at es → IsLegal work A (es ++ before) → IsSoFar A before at es (phase es)
files_read work A before at job long first [] all asks legal = record { reading = refl; views = λ view is. let wrong : None ≡ Some view = is in absurd (no_some view wrong) }
  where
    no_some : (view : View) → None ≡ Some view → ⊥
    no_some view e = cc
files_read work A before at job long first (e ∷ es) all asks legal =
    let mine : own e.job (es ++ before) ≡ es = ap (λ j. own j (es ++ before)) all.0 ∙ own_made job before es all.1 first in
    so_far_then A before at es e.job work (all_stay A before at es asks.1) long e.step e.reply (phase es) asks.0 legal.1.may legal.1.answers
    (subst (λ xs. Allows work e.job (phase xs) e.step) mine legal.2) (files_read work A before at job long first es all.1 asks.1 legal.0)
