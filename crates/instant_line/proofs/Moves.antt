-- What a move leaves of a timeline.
use Rattle.std.proofs.Common.{◌≡◌, ◌≢◌, inl, inr, ℕ, ◌<◌, ◌≤◌, List, length, get_or, set, refl, sym, ◌∙◌, ap, subst, arith}
use Rattle.std.specs.Prelude.{◌↔◌}
use Rattle.std.specs.List.{Contains, insert, remove}
use Rattle.std.proofs.lemmas.List.{get_or_default}
use Rattle.std.proofs.lemmas.List.Elements.{All-contains, Contains-get_or, All-set}
use Rattle.std.proofs.lemmas.List.Quantifiers.{all_pairs_remove}
use Rattle.file_names.specs.declared.file_name.Action.{Action}
use Rattle.file_names.specs.declared.file_name.State.{State}
use Rattle.file_names.specs.declared.file_name.State.TheVariants.{Requested, Inflight, Completed}
use Rattle.instant_line.specs.Line.{line_of, IsLine, IsAt, IsAbsent, AreSameBeside, IsMoved, IsTakenBack}
use Rattle.instant_line.specs.PendingList.{StandsAt}
use Rattle.instant_line.proofs.InTime.{stands_at, same-place, rises-insert, rises-set, All-insert, All-remove, insert-here, insert-cases, insert-other, remove-some, remove-other, remove-gone, set-here, set-other, set-cases}
use Rattle.instant_line.specs.Line.{AreInTime}
use Rattle.instant_line.specs.PendingList.{IsPlace}

abbrev pub Done : Type 0
Done = ℕ × Action

abbrev pub Begun : Type 0
Begun = ℕ × Action × State

abbrev pub done_time : Done → ℕ
done_time x = x.0

abbrev pub begun_time : Begun → ℕ
begun_time x = x.0

unfinished-at : (cs : List Done) (ps : List Begun) (t : ℕ) (a : Action) (s : State) → s ≢ Completed → Contains ps (t, a, s) → IsAt (line_of cs ps) t a s
unfinished-at cs ps t a Requested un has = has
unfinished-at cs ps t a Inflight un has = has
unfinished-at cs ps t a Completed un has = absurd (un refl)

-- what is pending is an instant
pub pending-at : (cs : List Done) (ps : List Begun) → IsLine (line_of cs ps) → (x : Begun) → Contains ps x → IsAt (line_of cs ps) x.0 x.1 x.2
pending-at cs ps is x has = unfinished-at cs ps x.0 x.1 x.2 (All-contains (λ (y : Begun). y.2 ≢ Completed) ps x is.unfinished has) has

absent-done : (cs : List Done) (ps : List Begun) (t : ℕ) → IsAbsent (line_of cs ps) t → (x : Done) → Contains cs x → x.0 ≢ t
absent-done cs ps t absent x has same = absent x.1 Completed (subst (λ u. Contains cs (u, x.1)) same has)

absent-begun : (cs : List Done) (ps : List Begun) (t : ℕ) → IsLine (line_of cs ps) → IsAbsent (line_of cs ps) t → (x : Begun) → Contains ps x → x.0 ≢ t
absent-begun cs ps t is absent x has same = absent x.1 x.2 (subst (λ u. IsAt (line_of cs ps) u x.1 x.2) same (pending-at cs ps is x has))

pub absent-from : (cs : List Done) (ps : List Begun) (t : ℕ) → ((a : Action) (s : State) → Contains ps (t, a, s) → ⊥) → ((a : Action) → Contains cs (t, a) → ⊥) → IsAbsent (line_of cs ps) t
absent-from cs ps t begun done a Requested at = begun a Requested at
absent-from cs ps t begun done a Inflight at = begun a Inflight at
absent-from cs ps t begun done a Completed at = done a at

same-beside : (cs after-cs : List Done) (ps after-ps : List Begun) (t : ℕ)
    → ((z : Done) → z.0 ≢ t → Contains after-cs z ↔ Contains cs z) → ((z : Begun) → z.0 ≢ t → Contains after-ps z ↔ Contains ps z)
    → AreSameBeside t (line_of cs ps) (line_of after-cs after-ps)
same-beside cs after-cs ps after-ps t done begun u a Requested other = begun (u, a, Requested) other
same-beside cs after-cs ps after-ps t done begun u a Inflight other = begun (u, a, Inflight) other
same-beside cs after-cs ps after-ps t done begun u a Completed other = done (u, a) other

same-done : (cs : List Done) (z : Done) → Contains cs z ↔ Contains cs z
same-done cs z = (λ has. has, λ has. has)

strictly : (t n : ℕ) → t ≤ n → n ≢ t → t < n
strictly t n le ne = omega arith

-- ---- a new instant

pub request-line : (cs : List Done) (ps : List Begun) (t : ℕ) (a : Action) (i : ℕ) → IsLine (line_of cs ps) → IsAbsent (line_of cs ps) t → IsPlace begun_time t ps i → i ≤ length ps
    → IsLine (line_of cs (insert ps i (t, a, Requested)))
request-line cs ps t a i is absent place within = record {
  completed = is.completed;
  pending = rises-insert begun_time ps i (t, a, Requested) is.pending within
      (λ k d low. place.0 k d (omega arith) low)
      (λ k d high short. strictly t _ (place.1 k d high short) (absent-begun cs ps t is absent (get_or ps k d) (Contains-get_or ps k d short)));
  unfinished = All-insert (λ (y : Begun). y.2 ≢ Completed) ps i (t, a, Requested) (λ e. cc) is.unfinished;
  apart = λ x y has-x has-y same. elim (insert-cases ps i (t, a, Requested) y has-y) [
    | inl here ↦ absent-done cs ps t absent x has-x (same ∙ sym (ap begun_time here))
    | inr old ↦ is.apart x y has-x old same
  ];
}

pub request-moved : (cs : List Done) (ps : List Begun) (t : ℕ) (a : Action) (i : ℕ) → IsMoved (line_of cs ps) (line_of cs (insert ps i (t, a, Requested))) t a Requested
request-moved cs ps t a i = record {
  here = insert-here ps i (t, a, Requested);
  others = same-beside cs cs ps (insert ps i (t, a, Requested)) t (λ z other. same-done cs z)
      (λ z other. insert-other ps i (t, a, Requested) z (λ e. other (sym (ap begun_time e))));
}

-- ---- an instant that stays pending

pub stands-found : (ps : List Begun) (t : ℕ) (a : Action) (r : State) (i : ℕ) → AreInTime begun_time ps → Contains ps (t, a, r) → IsPlace begun_time t ps i → StandsAt ps t i (t, a, r)
stands-found ps t a r i rises has place =
    let here = stands_at begun_time t ps i (t, a, r) rises place has refl in
    record { within = here.0; at = here.1; time = refl }

-- what is read there
pub stands-read : (ps : List Begun) (t i : ℕ) (x d e : Begun) → StandsAt ps t i x → StandsAt ps t i (t, (get_or ps i d).1, (get_or ps i e).2)
stands-read ps t i x d e here =
    let first : x ≡ get_or ps i d = here.at ∙ get_or_default ps i x d here.within in
    let second : x ≡ get_or ps i e = here.at ∙ get_or_default ps i x e here.within in
    subst (λ a. StandsAt ps t i (t, a, (get_or ps i e).2)) (ap (λ (y : Begun). y.1) first)
    (subst (λ s. StandsAt ps t i (t, x.1, s)) (ap (λ (y : Begun). y.2) second)
    (subst (λ u. StandsAt ps t i (u, x.1, x.2)) here.time here))

-- it is the only one of its time
pub only : (cs : List Done) (ps : List Begun) (t : ℕ) (i : ℕ) (x : Begun) → IsLine (line_of cs ps) → StandsAt ps t i x → (y : Begun) → Contains ps y → y.0 ≡ t → y ≡ x
only cs ps t i x is here y has time =
    let e : begun_time (get_or ps i y) ≡ begun_time (get_or ps has.0 y) =
    ap begun_time (get_or_default ps i y x here.within ∙ sym here.at) ∙ here.time ∙ sym time ∙ sym (ap begun_time has.2) in
    let same : i ≡ has.0 = same-place begun_time ps i has.0 y is.pending here.within has.1 e in
    sym has.2 ∙ ap (λ k. get_or ps k y) (sym same) ∙ get_or_default ps i y x here.within ∙ sym here.at

not-here : (ps : List Begun) (t : ℕ) (i : ℕ) (x z : Begun) → StandsAt ps t i x → z.0 ≢ t → x ≢ z
not-here ps t i x z here other e = other (sym (ap begun_time e) ∙ here.time)

has-here : (ps : List Begun) (t : ℕ) (i : ℕ) (x : Begun) → StandsAt ps t i x → Contains ps x
has-here ps t i x here = subst (Contains ps) (sym here.at) (Contains-get_or ps i x here.within)

pub replace-line : (cs : List Done) (ps : List Begun) (t : ℕ) (a : Action) (s : State) (i : ℕ) (x : Begun) → IsLine (line_of cs ps) → StandsAt ps t i x → s ≢ Completed
    → IsLine (line_of cs (set ps i (t, a, s)))
replace-line cs ps t a s i x is here un = record {
  completed = is.completed;
  pending = rises-set begun_time ps i (t, a, s) is.pending here.within
      (λ d. ap begun_time (get_or_default ps i d x here.within ∙ sym here.at) ∙ here.time);
  unfinished = All-set (λ (y : Begun). y.2 ≢ Completed) ps i (t, a, s) un is.unfinished;
  apart = λ y z has-y has-z same. elim (set-cases ps i x (t, a, s) z here.within here.at has-z) [
    | inl new ↦ is.apart y x has-y (has-here ps t i x here) (same ∙ sym (ap begun_time new) ∙ sym here.time)
    | inr old ↦ is.apart y z has-y old same
  ];
}

replace-beside : (cs : List Done) (ps : List Begun) (t : ℕ) (a : Action) (s : State) (i : ℕ) (x : Begun) → StandsAt ps t i x → AreSameBeside t (line_of cs ps) (line_of cs (set ps i (t, a, s)))
replace-beside cs ps t a s i x here =
    same-beside cs cs ps (set ps i (t, a, s)) t (λ z other. same-done cs z)
    (λ z other. set-other ps i x (t, a, s) z here.within here.at (not-here ps t i x z here other) (λ e. other (sym (ap begun_time e))))

pub start-moved : (cs : List Done) (ps : List Begun) (t : ℕ) (a : Action) (i : ℕ) (x : Begun) → StandsAt ps t i x → IsMoved (line_of cs ps) (line_of cs (set ps i (t, a, Inflight))) t a Inflight
start-moved cs ps t a i x here = record {
  here = set-here ps i (t, a, Inflight) here.within;
  others = replace-beside cs ps t a Inflight i x here;
}

-- ---- an instant that is completed

done-other : (cs : List Done) (ps : List Begun) (t : ℕ) (i : ℕ) (x : Begun) → IsLine (line_of cs ps) → StandsAt ps t i x → (y : Done) → Contains cs y → y.0 ≢ t
done-other cs ps t i x is here y has same = is.apart y x has (has-here ps t i x here) (same ∙ sym here.time)

gone : (ps : List Begun) (t : ℕ) (i : ℕ) (x z : Begun) → AreInTime begun_time ps → StandsAt ps t i x → Contains (remove ps i) z → z.0 ≢ t
gone ps t i x z rises here has same = remove-gone begun_time ps i x z rises here.within here.at has (same ∙ sym here.time)

remove-beside : (cs after-cs : List Done) (ps : List Begun) (t : ℕ) (i : ℕ) (x : Begun) → StandsAt ps t i x → ((z : Done) → z.0 ≢ t → Contains after-cs z ↔ Contains cs z)
    → AreSameBeside t (line_of cs ps) (line_of after-cs (remove ps i))
remove-beside cs after-cs ps t i x here done =
    same-beside cs after-cs ps (remove ps i) t done
    (λ z other. remove-other ps i x z here.within here.at (not-here ps t i x z here other))

pub complete-line : (cs : List Done) (ps : List Begun) (t : ℕ) (a : Action) (i j : ℕ) (x : Begun) → IsLine (line_of cs ps) → StandsAt ps t i x → IsPlace done_time t cs j → j ≤ length cs
    → IsLine (line_of (insert cs j (t, a)) (remove ps i))
complete-line cs ps t a i j x is here place within = record {
  completed = rises-insert done_time cs j (t, a) is.completed within
      (λ k d low. place.0 k d (omega arith) low)
      (λ k d high short. strictly t _ (place.1 k d high short) (done-other cs ps t i x is here (get_or cs k d) (Contains-get_or cs k d short)));
  pending = all_pairs_remove (λ (y z : Begun). y.0 < z.0) ps i here.within is.pending;
  unfinished = All-remove (λ (y : Begun). y.2 ≢ Completed) ps i is.unfinished;
  apart = λ y z has-y has-z same. elim (insert-cases cs j (t, a) y has-y) [
    | inl new ↦ gone ps t i x z is.pending here has-z (sym same ∙ sym (ap done_time new))
    | inr old ↦ is.apart y z old (remove-some ps i x z here.within here.at has-z) same
  ];
}

pub complete-moved : (cs : List Done) (ps : List Begun) (t : ℕ) (a : Action) (i j : ℕ) (x : Begun) → StandsAt ps t i x → IsMoved (line_of cs ps) (line_of (insert cs j (t, a)) (remove ps i)) t a Completed
complete-moved cs ps t a i j x here = record {
  here = insert-here cs j (t, a);
  others = remove-beside cs (insert cs j (t, a)) ps t i x here (λ z other. insert-other cs j (t, a) z (λ e. other (sym (ap done_time e))));
}

-- ---- a move back

pub pending-has : (cs : List Done) (ps : List Begun) (t : ℕ) (a : Action) (s : State) → s ≢ Completed → IsAt (line_of cs ps) t a s → Contains ps (t, a, s)
pending-has cs ps t a Requested un at = at
pending-has cs ps t a Inflight un at = at
pending-has cs ps t a Completed un at = absurd (un refl)

pub back-moved : (cs : List Done) (ps : List Begun) (t : ℕ) (i : ℕ) (x : Begun) → IsLine (line_of cs ps) → StandsAt ps t i x → x.2 ≡ Inflight
    → IsTakenBack (line_of cs ps) (line_of cs (set ps i (t, x.1, Requested))) t
back-moved cs ps t i x is here inflight = record {
  inflight = λ a at.
      let same : (t, a, Inflight) ≡ x = only cs ps t i x is here (t, a, Inflight) at refl in
      subst (λ b. Contains (set ps i (t, x.1, Requested)) (t, b, Requested)) (sym (ap (λ (y : Begun). y.1) same)) (set-here ps i (t, x.1, Requested) here.within);
  requested = λ a at.
      let same : (t, a, Requested) ≡ x = only cs ps t i x is here (t, a, Requested) at refl in
      let e : Requested ≡ Inflight = ap (λ (y : Begun). y.2) same ∙ inflight in
      cc;
  others = replace-beside cs ps t x.1 Requested i x here;
}

absent-after : (cs : List Done) (ps : List Begun) (t : ℕ) (i : ℕ) (x : Begun) → IsLine (line_of cs ps) → StandsAt ps t i x → IsAbsent (line_of cs (remove ps i)) t
absent-after cs ps t i x is here a Requested at = gone ps t i x (t, a, Requested) is.pending here at refl
absent-after cs ps t i x is here a Inflight at = gone ps t i x (t, a, Inflight) is.pending here at refl
absent-after cs ps t i x is here a Completed at = done-other cs ps t i x is here (t, a) at refl

pub withdraw-line : (cs : List Done) (ps : List Begun) (t : ℕ) (i : ℕ) (x : Begun) → IsLine (line_of cs ps) → StandsAt ps t i x → IsLine (line_of cs (remove ps i))
withdraw-line cs ps t i x is here = record {
  completed = is.completed;
  pending = all_pairs_remove (λ (y z : Begun). y.0 < z.0) ps i here.within is.pending;
  unfinished = All-remove (λ (y : Begun). y.2 ≢ Completed) ps i is.unfinished;
  apart = λ y z has-y has-z same. is.apart y z has-y (remove-some ps i x z here.within here.at has-z) same;
}

pub withdraw-moved : (cs : List Done) (ps : List Begun) (t : ℕ) (i : ℕ) (x : Begun) → IsLine (line_of cs ps) → StandsAt ps t i x → x.2 ≢ Inflight
    → IsTakenBack (line_of cs ps) (line_of cs (remove ps i)) t
withdraw-moved cs ps t i x is here other = record {
  inflight = λ a at.
      let same : (t, a, Inflight) ≡ x = only cs ps t i x is here (t, a, Inflight) at refl in
      absurd (other (sym (ap (λ (y : Begun). y.2) same)));
  requested = λ a at. absent-after cs ps t i x is here;
  others = remove-beside cs cs ps t i x here (λ z ne. same-done cs z);
}
