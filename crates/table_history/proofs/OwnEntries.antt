-- A job's own entries tell how its instant and its pin stand, whatever others do between.
use Rattle.std.proofs.Common.{◌≡◌, ◌≢◌, ◌<◌, ◌≤◌, ◌+◌, ◌-◌, ◌==◌, ◌||◌, ℕ, zero, suc, Bool, true, false, cond, List, [], ◌∷◌, ◌++◌, length, slice_get, min, Option, Some, None, option_map, refl, sym, ap, subst, ◌∙◌, append_assoc, length-append, arith}
use Rattle.std.specs.Prelude.{IsSomeAnd}
use Rattle.std.specs.List.{list_any}
use Rattle.std.proofs.lemmas.Bool.Decides.{nat_tests}
use Rattle.file_names.specs.declared.file_name.State.TheVariants as state
use Rattle.table_history.specs.Answers.{IsNext, Answers, May, Owns, AllPlaced, IsPieceOf, max_piece}
use Rattle.table_history.specs.Concerns.{concerns, concerns_pin, IsOpened, AreFiles, IsWithinFirst, HasPlaced, Stands}
use Rattle.table_history.specs.Histories.{History, is_job, own}
use Rattle.table_history.specs.Instants.{instant_of, owner_of, completions, begun, entered, with_block, failed}
use Rattle.table_history.specs.JobLaw.{Work, Phase, Fresh, Drawn, Writes, Committed, Owes, Reads, Leaves, Ended, files_to_read, after_piece, next_phase, phase, Allows, IsLegal}
use Rattle.table_history.specs.Pins.{pin_of, pins_made, part_at, files_of_view}
use Rattle.table_history.specs.declared.view.LivePin.{LivePin}
use Rattle.table_history.specs.Tables.{Table, Instant, Block}
use Rattle.table_history.specs.Times.{greatest_time}
use Rattle.table_history.specs.declared.job.Job.{Job}
use Rattle.table_history.specs.declared.reply.Reply.{Reply}
use Rattle.table_history.specs.declared.reply.Reply.TheVariants as reply
use Rattle.table_history.specs.declared.step.Reader.TheVariants as reader
use Rattle.table_history.specs.declared.step.Step.{Step}
use Rattle.table_history.specs.declared.step.Step.TheVariants.{Begin, Enter, Append, Finish, Pin, Unpin, Read, Abandon}
use Rattle.table_history.specs.declared.view.Part.{Part}
use Rattle.table_history.specs.declared.view.View.{View}
use Rattle.table_history.proofs.Apart.{instant_of-apart, pin_of-apart}
use Rattle.table_history.proofs.Bounds.{number, same_number, owner_in, owned_bound, pin_bound}

-- ---- another job's entry is about another instant and another pin

never : (b : Bool) → (b ≡ true → ⊥) → b ≡ false
never true h = absurd (h refl)
never false h = refl

-- who owns an instant
owner : (o : Option Instant) (j : Job) (P : Instant → Type 0) → IsSomeAnd o (λ i. (i.owner ≡ Some j) × P i) → owner_in o ≡ Some j
owner None j P h = absurd h
owner (Some i) j P h = h.0

other_job : (j k : Job) → is_job j k ≡ false → Some k ≡ Some j → ⊥
other_job j k h e = grind (arith, nat_tests)

which_job : (j k : Job) → is_job j k ≡ true → k ≡ j
which_job j k h = grind (arith, nat_tests)

-- an instant of k is none of j's
owned_twice : (A : Table) (H : History) (j k : Job) (t u : ℕ) (P : Instant → Type 0) → is_job j k ≡ false → owner_of A H t ≡ Some j → Owns A H k u P → (u == t) ≡ false
owned_twice A H j k t u P other mine theirs = never _ (λ h.
    other_job j k other (sym (owner (instant_of A H u) k P theirs) ∙ ap (owner_of A H) (number u t h) ∙ mine))

not_mine : (A : Table) (H : History) (j k : Job) (s : Step) (r : Reply) (t : ℕ) → May A H k s → Answers A H s r → is_job j k ≡ false → owner_of A H t ≡ Some j
    → t ≤ greatest_time A H → concerns s r t ≡ false
not_mine A H j k Begin (reply.Began u) t may a other mine bound = never _ (λ h. let same = number u t h in let above : greatest_time A H < u = a in omega arith)
not_mine A H j k (Enter u slots) r t may a other mine bound = owned_twice A H j k t u (λ i. i.state ≡ state.Requested) other mine may.0
not_mine A H j k (Append u target writes bytes) r t may a other mine bound = owned_twice A H j k t u (λ i. (i.state ≡ state.Inflight) × (target < length i.targets)) other mine may
not_mine A H j k (Finish u checkpoint) r t may a other mine bound = owned_twice A H j k t u (λ i. (i.state ≡ state.Inflight) × AllPlaced i) other mine may
not_mine A H j k (Abandon u) r t may a other mine bound = owned_twice A H j k t u (λ i. Unit {0}) other mine may
not_mine A H j k _ r t may a other mine bound = refl

-- whose a pin is
pin_job : (o : Option LivePin) (j : Job) (live : LivePin) → IsSomeAnd o (λ l. l.job ≡ j) → o ≡ Some live → live.job ≡ j
pin_job None j live h is = absurd h
pin_job (Some l) j live h is = let same : l ≡ live = cc in ap (λ (x : LivePin). x.job) (sym same) ∙ h

made_before : (m p n : ℕ) → p ≤ m → n ≡ m + 1 → (n == p) ≡ false
made_before m p n le is = grind (arith, nat_tests)

not_my_pin : (A : Table) (H : History) (j k : Job) (s : Step) (r : Reply) (p : ℕ) (live : LivePin) → May A H k s → Answers A H s r → is_job j k ≡ false
    → pin_of H p ≡ Some live → live.job ≡ j → p ≤ pins_made H → concerns_pin s r p ≡ false
not_my_pin A H j k (Pin None bases_only) (reply.Pinned view) p live may a other now mine bound = made_before (pins_made H) p view.pin bound a.pin
not_my_pin A H j k (Pin (Some t) bases_only) (reply.Pinned view) p live may a other now mine bound = made_before (pins_made H) p view.pin bound a.0.pin
not_my_pin A H j k (Unpin q) r p live may a other now mine bound = never _ (λ h.
    let theirs : live.job ≡ k = pin_job (pin_of H q) k live may (ap (pin_of H) (number q p h) ∙ now) in
    other_job j k other (ap Some (sym theirs ∙ mine)))
not_my_pin A H j k s r p live may a other now mine bound = refl

-- ---- files of a view

-- the part behind so many others
part_behind : (front : List Part) (part : Part) (more : List Part) → slice_get (front ++ part ∷ more) (length front) ≡ Some part
part_behind [] part more = refl
part_behind (first ∷ front) part more = part_behind front part more

some_and : {X : Type 0} (o : Option X) (x : X) (P : X → Type 0) → o ≡ Some x → P x → IsSomeAnd o P
some_and {X = X} o x P is h = subst (λ (q : Option X). IsSomeAnd q P) (sym is) h

positive : (n : ℕ) → (n == 0) ≡ false → 0 < n
positive n h = grind (arith, nat_tests)

one_file : (view : View) (part : Part) (n : ℕ) (files : List (ℕ × ℕ)) (b : Bool) → (part.length == 0) ≡ b → part_at view n ≡ Some part → AreFiles view files
    → AreFiles view (cond b files ((n, part.length) ∷ files))
one_file view part n files true e here next = next
one_file view part n files false e here next = (some_and (part_at view n) part (λ p. p.length ≡ part.length) here refl, positive part.length e, next)

are_files : (view : View) (front rest : List Part) (n : ℕ) → files_of_view view ≡ front ++ rest → n ≡ length front → AreFiles view (files_to_read n rest)
are_files view front [] n is count = tt
are_files view front (part ∷ more) n is count =
    let here : part_at view n ≡ Some part = ap (λ parts. slice_get parts n) is ∙ ap (slice_get (front ++ part ∷ more)) count ∙ part_behind front part more in
    let again : files_of_view view ≡ (front ++ part ∷ []) ++ more = is ∙ sym (append_assoc front (part ∷ []) more) in
    let one_more : n + 1 ≡ length (front ++ part ∷ []) = omega (arith, length-append front (part ∷ []), count) in
    one_file view part n (files_to_read (n + 1) more) (part.length == 0) refl here (are_files view (front ++ part ∷ []) more (n + 1) again one_more)

first_file : (view : View) (files : List (ℕ × ℕ)) → AreFiles view files → IsWithinFirst files 0
first_file view [] are = tt
first_file view (file ∷ more) are = are.1

-- ---- a job's own entry

-- what an own change makes of an own instant
changed : (o : Option Instant) (j : Job) (b : Bool) (f : Instant → Instant) (P Q : Instant → Type 0) → b ≡ true → ((i : Instant) → (i.owner ≡ Some j) × P i → ((f i).owner ≡ Some j) × Q (f i))
    → IsSomeAnd o (λ i. (i.owner ≡ Some j) × P i) → IsSomeAnd (cond b (option_map f o) o) (λ i. (i.owner ≡ Some j) × Q i)
changed None j b f P Q is step h = absurd h
changed (Some i) j true f P Q is step h = step i h
changed (Some i) j false f P Q is step h = absurd cc

weaker : (o : Option Instant) (j : Job) (P Q : Instant → Type 0) → ((i : Instant) → P i → Q i) → IsSomeAnd o (λ i. (i.owner ≡ Some j) × P i) → IsSomeAnd o (λ i. (i.owner ≡ Some j) × Q i)
weaker None j P Q step h = absurd h
weaker (Some i) j P Q step h = (h.0, step i h.1)

begun_owns : (o : Option Instant) (j : Job) (t start : ℕ) → IsSomeAnd (cond (t == t) (Some (begun j start)) o) (λ i. (i.owner ≡ Some j) × (i.state ≡ state.Requested))
begun_owns o j t start = let same = same_number t t refl in rw same (refl, refl)

test_or : (b c : Bool) → c ≡ true → (b || c) ≡ true
test_or true c h = refl
test_or false c h = h

true_not_false : true ≡ false → ⊥
true_not_false is = cc

placed_more : (placed writes : ℕ) (bytes : List ℕ) (i : Instant) → HasPlaced placed i → HasPlaced (placed + 1) (with_block placed writes bytes i)
placed_more placed writes bytes i before k h = by (placed == k) refl
  where
    by : (b : Bool) → (placed == k) ≡ b → (b || list_any (λ (x : Block). x.target == k) i.blocks) ≡ true
    by true e = refl
    by false e = before k (let other : placed ≢ k = (λ is. absurd (true_not_false (sym (same_number placed k is) ∙ e))) in omega (arith, other))

-- a query that has to leave
leaving : (o : Option LivePin) (j : Job) (files : List (ℕ × ℕ)) (at : ℕ) → IsSomeAnd o (λ live. (live.job ≡ j) × AreFiles live.view files × IsWithinFirst files at)
    → IsSomeAnd o (λ live. live.job ≡ j)
leaving None j files at h = absurd h
leaving (Some live) j files at h = h.0

-- a query that read a piece of its first file
further : (o : Option LivePin) (j : Job) (file : ℕ × ℕ) (more : List (ℕ × ℕ)) (at next : ℕ) → next < file.1
    → IsSomeAnd o (λ live. (live.job ≡ j) × AreFiles live.view (file ∷ more) × IsWithinFirst (file ∷ more) at)
    → IsSomeAnd o (λ live. (live.job ≡ j) × AreFiles live.view (file ∷ more) × IsWithinFirst (file ∷ more) next)
further None j file more at next below h = absurd h
further (Some live) j file more at next below h = (h.0, h.1, below)

next_file : (o : Option LivePin) (j : Job) (file : ℕ × ℕ) (more : List (ℕ × ℕ)) (at : ℕ)
    → IsSomeAnd o (λ live. (live.job ≡ j) × AreFiles live.view (file ∷ more) × IsWithinFirst (file ∷ more) at)
    → IsSomeAnd o (λ live. (live.job ≡ j) × AreFiles live.view more × IsWithinFirst more 0)
next_file None j file more at h = absurd h
next_file (Some live) j file more at h = (h.0, h.1.2, first_file live.view more h.1.2)

within_first : (o : Option LivePin) (j : Job) (file : ℕ × ℕ) (more : List (ℕ × ℕ)) (at : ℕ)
    → IsSomeAnd o (λ live. (live.job ≡ j) × AreFiles live.view (file ∷ more) × IsWithinFirst (file ∷ more) at) → at < file.1
within_first None j file more at h = absurd h
within_first (Some live) j file more at h = h.2

not_all : (at most length_of : ℕ) → at < length_of → (at + min most (length_of - at) == length_of) ≡ false → at + min most (length_of - at) < length_of
not_all at most length_of below other = grind (arith, nat_tests)

piece_on : (A : Table) (K : History) (j : Job) (pin : ℕ) (file : ℕ × ℕ) (more : List (ℕ × ℕ)) (at : ℕ) (b : Bool) → (at + min max_piece (file.1 - at) == file.1) ≡ b
    → IsSomeAnd (pin_of K pin) (λ live. (live.job ≡ j) × AreFiles live.view (file ∷ more) × IsWithinFirst (file ∷ more) at)
    → Stands A K j (cond b (Reads pin more 0) (Reads pin (file ∷ more) (at + min max_piece (file.1 - at))))
piece_on A K j pin file more at true e l = next_file (pin_of K pin) j file more at l
piece_on A K j pin file more at false e l =
    further (pin_of K pin) j file more at (at + min max_piece (file.1 - at)) (not_all at max_piece file.1 (within_first (pin_of K pin) j file more at l) e) l

own_next : (work : Work) (A : Table) (H : History) (j : Job) (s : Step) (r : Reply) (p : Phase) → Answers A H s r → Allows work j p s → Stands A H j p
    → Stands A (record { job = j; step = s; reply = r } ∷ H) j (next_phase p s r)
own_next work A H j Begin (reply.Began t) Fresh a w l = begun_owns (instant_of A H t) j t (completions A H)
own_next work A H j Begin _ Fresh a w l = tt
own_next work A H j (Pin at bases_only) (reply.Pinned view) Fresh a w l =
    rw (same_number view.pin view.pin refl) (refl, are_files view [] (files_of_view view) 0 refl refl, first_file view _ (are_files view [] (files_of_view view) 0 refl refl))
own_next work A H j (Pin at bases_only) _ Fresh a w l = tt
own_next work A H j _ r Fresh a w l = absurd w
own_next work A H j (Enter u slots) (reply.Entered targets) (Drawn t) a w l =
    changed (instant_of A H t) j (u == t) (entered targets) (λ i. i.state ≡ state.Requested) (λ i. (i.state ≡ state.Inflight) × (i.targets ≡ targets) × HasPlaced 0 i)
    (same_number u t w.0) (λ i h. (h.0, (refl, refl, λ k below. absurd (omega (arith, below))))) l
own_next work A H j (Enter u slots) reply.Fault (Drawn t) a w l =
    changed (instant_of A H t) j (u == t) failed (λ i. i.state ≡ state.Requested) (λ i. Unit {0}) (same_number u t w.0) (λ i h. (h.0, tt)) l
own_next work A H j (Enter u slots) (reply.Damaged name cause) (Drawn t) a w l =
    changed (instant_of A H t) j (u == t) failed (λ i. i.state ≡ state.Requested) (λ i. Unit {0}) (same_number u t w.0) (λ i h. (h.0, tt)) l
own_next work A H j (Enter u slots) _ (Drawn t) a w l = absurd a
own_next work A H j (Abandon u) r (Drawn t) a w l = tt
own_next work A H j _ r (Drawn t) a w l = absurd w
own_next work A H j (Append u target writes bytes) (reply.Placed version at) (Writes t targets placed) a w l =
    changed (instant_of A H t) j (u == t) (with_block target writes bytes) (λ i. (i.state ≡ state.Inflight) × (i.targets ≡ targets) × HasPlaced placed i)
    (λ i. (i.state ≡ state.Inflight) × (i.targets ≡ targets) × HasPlaced (placed + 1) i) (same_number u t w.0)
    (λ i h. (h.0, (h.1.0, h.1.1, subst (λ (n : ℕ). HasPlaced (placed + 1) (with_block n writes bytes i)) (sym w.1) (placed_more placed writes bytes i h.1.2)))) l
own_next work A H j (Append u target writes bytes) reply.Fault (Writes t targets placed) a w l =
    changed (instant_of A H t) j (u == t) failed (λ i. (i.state ≡ state.Inflight) × (i.targets ≡ targets) × HasPlaced placed i) (λ i. Unit {0}) (same_number u t w.0) (λ i h. (h.0, tt)) l
own_next work A H j (Append u target writes bytes) _ (Writes t targets placed) a w l = absurd a
own_next work A H j (Finish u checkpoint) (reply.Completed v) (Writes t targets placed) a w l = tt
own_next work A H j (Finish u checkpoint) reply.Fault (Writes t targets placed) a w l =
    changed (instant_of A H t) j (u == t) failed (λ i. (i.state ≡ state.Inflight) × (i.targets ≡ targets) × HasPlaced placed i) (λ i. Unit {0}) (same_number u t w.0) (λ i h. (h.0, tt)) l
own_next work A H j (Finish u checkpoint) (reply.Damaged name cause) (Writes t targets placed) a w l =
    changed (instant_of A H t) j (u == t) failed (λ i. (i.state ≡ state.Inflight) × (i.targets ≡ targets) × HasPlaced placed i) (λ i. Unit {0}) (same_number u t w.0) (λ i h. (h.0, tt)) l
own_next work A H j (Finish u checkpoint) _ (Writes t targets placed) a w l = absurd a
own_next work A H j (Abandon u) r (Writes t targets placed) a w l = tt
own_next work A H j _ r (Writes t targets placed) a w l = absurd w
own_next work A H j s r (Committed t) a w l = absurd w
own_next work A H j (Abandon u) r (Owes t) a w l = tt
own_next work A H j _ r (Owes t) a w l = absurd w
own_next work A H j (Read from file_number offset len) r (Reads pin [] at) a w l = absurd w
own_next work A H j (Read from file_number offset len) (reply.Piece bytes) (Reads pin (file ∷ more) at) a w l =
    subst (λ (n : ℕ). Stands A (record { job = j; step = Read from file_number offset len; reply = reply.Piece bytes } ∷ H) j (after_piece pin (file ∷ more) (at + n))) (sym w.3)
    (piece_on A (record { job = j; step = Read from file_number offset len; reply = reply.Piece bytes } ∷ H) j pin file more at (at + min max_piece (file.1 - at) == file.1) refl l)
own_next work A H j (Read from file_number offset len) _ (Reads pin (file ∷ more) at) a w l = leaving (pin_of H pin) j (file ∷ more) at l
own_next work A H j (Unpin q) r (Reads pin files at) a w l = tt
own_next work A H j _ r (Reads pin files at) a w l = absurd w
own_next work A H j (Unpin q) r (Leaves pin) a w l = tt
own_next work A H j _ r (Leaves pin) a w l = absurd w
own_next work A H j s r Ended a w l = absurd w

-- ---- another job's entry

whose_alone : (o : Option LivePin) (j : Job) → IsSomeAnd o (λ live. live.job ≡ j) → (live : LivePin) × (o ≡ Some live) × (live.job ≡ j)
whose_alone None j h = absurd h
whose_alone (Some live) j h = (live, refl, h)

moved : (A : Table) (H K : History) (j : Job) (p : Phase) → ((t : ℕ) → owner_of A H t ≡ Some j → instant_of A K t ≡ instant_of A H t)
    → ((q : ℕ) (live : LivePin) → pin_of H q ≡ Some live → live.job ≡ j → pin_of K q ≡ pin_of H q) → Stands A H j p → Stands A K j p
moved A H K j Fresh same pins l = tt
moved A H K j (Drawn t) same pins l =
    subst (λ (o : Option Instant). IsSomeAnd o (λ i. (i.owner ≡ Some j) × (i.state ≡ state.Requested)))
    (sym (same t (owner (instant_of A H t) j (λ i. i.state ≡ state.Requested) l))) l
moved A H K j (Writes t targets placed) same pins l =
    subst (λ (o : Option Instant). IsSomeAnd o (λ i. (i.owner ≡ Some j) × ((i.state ≡ state.Inflight) × (i.targets ≡ targets) × HasPlaced placed i)))
    (sym (same t (owner (instant_of A H t) j (λ i. (i.state ≡ state.Inflight) × (i.targets ≡ targets) × HasPlaced placed i) l))) l
moved A H K j (Committed t) same pins l = tt
moved A H K j (Owes t) same pins l =
    subst (λ (o : Option Instant). IsSomeAnd o (λ i. (i.owner ≡ Some j) × Unit {0})) (sym (same t (owner (instant_of A H t) j (λ i. Unit {0}) l))) l
moved A H K j (Reads pin files at) same pins l =
    let mine = whose_alone (pin_of H pin) j (leaving (pin_of H pin) j files at l) in
    subst (λ (o : Option LivePin). IsSomeAnd o (λ live. (live.job ≡ j) × AreFiles live.view files × IsWithinFirst files at)) (sym (pins pin mine.0 mine.1 mine.2)) l
moved A H K j (Leaves pin) same pins l =
    let mine = whose_alone (pin_of H pin) j l in
    subst (λ (o : Option LivePin). IsSomeAnd o (λ live. live.job ≡ j)) (sym (pins pin mine.0 mine.1 mine.2)) l
moved A H K j Ended same pins l = tt

one_linked : (work : Work) (A : Table) (H : History) (k j : Job) (s : Step) (r : Reply) (b : Bool) → IsOpened A → is_job j k ≡ b → IsLegal work A H
    → IsNext A H (record { job = k; step = s; reply = r }) → Allows work k (phase (own k H)) s → Stands A H j (phase (own j H))
    → Stands A (record { job = k; step = s; reply = r } ∷ H) j (phase (cond b (record { job = k; step = s; reply = r } ∷ own j H) (own j H)))
one_linked work A H k j s r true opened h legal next w l =
    let P : Job → Type 0 = λ i. Stands A (record { job = i; step = s; reply = r } ∷ H) j (next_phase (phase (own j H)) s r) in
    subst P (sym (which_job j k h))
    (own_next work A H j s r (phase (own j H)) next.answers (subst (λ (i : Job). Allows work i (phase (own i H)) s) (which_job j k h) w) l)
one_linked work A H k j s r false opened h legal next w l =
    moved A H (record { job = k; step = s; reply = r } ∷ H) j (phase (own j H))
    (λ t mine. instant_of-apart A H (record { job = k; step = s; reply = r }) t (not_mine A H j k s r t next.may next.answers h mine (owned_bound A H opened t j mine)))
    (λ q live now mine. pin_of-apart H (record { job = k; step = s; reply = r }) q (not_my_pin A H j k s r q live next.may next.answers h now mine (pin_bound work A H legal q live now))) l

pub linked : (work : Work) (A : Table) (H : History) → IsOpened A → IsLegal work A H → (j : Job) → Stands A H j (phase (own j H))
linked work A [] opened legal j = tt
linked work A (e ∷ H) opened legal j =
    one_linked work A H e.job j e.step e.reply (is_job j e.job) opened refl legal.0 legal.1 legal.2 (linked work A H opened legal.0 j)

-- ---- so a job that keeps its own law may ask the machine

some_within : {X : Type 0} (xs : List X) (n : ℕ) (P : X → Type 0) → IsSomeAnd (slice_get xs n) P → n < length xs
some_within [] n P h = absurd h
some_within (x ∷ xs) zero P h = omega arith
some_within (x ∷ xs) (suc n) P h = let rest = some_within xs n P h in omega (arith, rest)

piece_of : (part : Part) (file : ℕ × ℕ) (at : ℕ) → part.length ≡ file.1 → at < file.1 → IsPieceOf part at (min max_piece (file.1 - at))
piece_of part file at long below = record { some = grind (arith, nat_tests); few = grind (arith, nat_tests); within = grind (arith, nat_tests) }

read_of : (o : Option Part) (file : ℕ × ℕ) (at : ℕ) → IsSomeAnd o (λ part. part.length ≡ file.1) → at < file.1 → IsSomeAnd o (λ part. IsPieceOf part at (min max_piece (file.1 - at)))
read_of None file at h below = absurd h
read_of (Some part) file at h below = piece_of part file at h below

may_read : (o : Option LivePin) (j : Job) (file : ℕ × ℕ) (more : List (ℕ × ℕ)) (at : ℕ)
    → IsSomeAnd o (λ live. (live.job ≡ j) × AreFiles live.view (file ∷ more) × IsWithinFirst (file ∷ more) at)
    → IsSomeAnd o (λ live. (live.job ≡ j) × IsSomeAnd (part_at live.view file.0) (λ part. IsPieceOf part at (min max_piece (file.1 - at))))
may_read None j file more at h = absurd h
may_read (Some live) j file more at h = (h.0, read_of (part_at live.view file.0) file at h.1.0 h.2)

same_pin_number : (q pin : ℕ) → reader.Pin q ≡ reader.Pin pin → q ≡ pin
same_pin_number q pin is = cc

pub may_ask : (work : Work) (A : Table) (H : History) (j : Job) (p : Phase) (s : Step) → Stands A H j p → Allows work j p s → May A H j s
may_ask work A H j Fresh Begin l w = tt
may_ask work A H j Fresh (Pin at bases_only) l w = tt
may_ask work A H j (Drawn t) (Enter u slots) l w = (subst (λ (x : ℕ). Owns A H j x (λ i. i.state ≡ state.Requested)) (sym w.0) l, w.1)
may_ask work A H j (Drawn t) (Abandon u) l w =
    subst (λ (x : ℕ). Owns A H j x (λ i. Unit {0})) (sym w) (weaker (instant_of A H t) j (λ i. i.state ≡ state.Requested) (λ i. Unit {0}) (λ i h. tt) l)
may_ask work A H j (Writes t targets placed) (Append u target writes bytes) l w =
    let below = some_within targets placed (λ s. work.Holds j t s writes bytes) w.2 in
    subst (λ (x : ℕ). Owns A H j x (λ i. (i.state ≡ state.Inflight) × (target < length i.targets))) (sym w.0)
    (weaker (instant_of A H t) j (λ i. (i.state ≡ state.Inflight) × (i.targets ≡ targets) × HasPlaced placed i) (λ i. (i.state ≡ state.Inflight) × (target < length i.targets))
    (λ i h. (h.0, let long = ap length h.1 in omega (arith, long, w.1, below))) l)
may_ask work A H j (Writes t targets placed) (Finish u checkpoint) l w =
    subst (λ (x : ℕ). Owns A H j x (λ i. (i.state ≡ state.Inflight) × AllPlaced i)) (sym w.0)
    (weaker (instant_of A H t) j (λ i. (i.state ≡ state.Inflight) × (i.targets ≡ targets) × HasPlaced placed i) (λ i. (i.state ≡ state.Inflight) × AllPlaced i)
    (λ i h. (h.0, λ k below. h.2 k (let long = ap length h.1 in omega (arith, long, w.1, below)))) l)
may_ask work A H j (Writes t targets placed) (Abandon u) l w =
    subst (λ (x : ℕ). Owns A H j x (λ i. Unit {0})) (sym w)
    (weaker (instant_of A H t) j (λ i. (i.state ≡ state.Inflight) × (i.targets ≡ targets) × HasPlaced placed i) (λ i. Unit {0}) (λ i h. tt) l)
may_ask work A H j (Owes t) (Abandon u) l w = subst (λ (x : ℕ). Owns A H j x (λ i. Unit {0})) (sym w) l
may_ask work A H j (Reads pin [] at) (Read from file_number offset len) l w = absurd w
may_ask work A H j (Reads pin (file ∷ more) at) (Read (reader.Pin q) file_number offset len) l w =
    rw (same_pin_number q pin w.0, w.1, w.2, w.3) (may_read (pin_of H pin) j file more at l)
may_ask work A H j (Reads pin files at) (Unpin q) l w = subst (λ (x : ℕ). IsSomeAnd (pin_of H x) (λ live. live.job ≡ j)) (sym w) (leaving (pin_of H pin) j files at l)
may_ask work A H j (Leaves pin) (Unpin q) l w = subst (λ (x : ℕ). IsSomeAnd (pin_of H x) (λ live. live.job ≡ j)) (sym w) l
may_ask work A H j _ s l w = absurd w
