-- The line that the files of a timeline make.
use Rattle.std.proofs.Common.{◌≡◌, ◌≢◌, ◌⊎◌, inl, inr, ℕ, ◌+◌, ◌-◌, ◌*◌, ◌<◌, ◌≤◌, List, [], ◌∷◌, ◌++◌, length, get_or, refl, sym, ◌∙◌, ap, subst, arith}
use Rattle.std.specs.Prelude.{◌↔◌}
use Rattle.std.specs.List.{Contains}
use Rattle.std.specs.List.Sorted.{IsNonDecreasingBy}
use Rattle.std.proofs.lemmas.Bool.{cases_order, cases_eq, cases_lt}
use Rattle.std.proofs.lemmas.List.{get_or_default}
use Rattle.std.proofs.lemmas.List.Elements.{All-push, Contains-push, Contains-push_cases, Contains-append_left, Contains-append_right, Contains-get_or}
use Rattle.std.proofs.lemmas.List.Quantifiers.{all_pairs_push}
use Rattle.std.proofs.lemmas.Option.{slice_get_read}
use Rattle.file_names.specs.declared.file_name.Action.{Action}
use Rattle.file_names.specs.declared.file_name.FileName.{FileName}
use Rattle.file_names.specs.declared.file_name.FileName.TheVariants.{Instant}
use Rattle.file_names.specs.declared.file_name.State.{State}
use Rattle.file_names.specs.declared.file_name.State.TheVariants.{Requested, Inflight, Completed}
use Rattle.instant_line.specs.Building.{IsBehind, IsAdded, IsNewTime, IsBelow, IsCovered, IsBuilt, AreSound, AreItsFiles}
use Rattle.instant_line.specs.Line.{Line, line_of, IsLine, IsAt}
use Rattle.instant_line.specs.LineFiles.{HasFile, AreFilesOf, BreaksAt}
use Rattle.instant_line.specs.NameOrder.{action_rank, state_rank, name_number, entry_number}
use Rattle.instant_line.proofs.FirstBreaks.{breaks-same}
use Rattle.instant_line.specs.NameOrder.{AreEntries}
use Rattle.instant_line.proofs.InTime.{cons-cases, cons-here}
use Rattle.instant_line.proofs.Moves.{Done, Begun, pending-at}
use Rattle.instant_line.proofs.NameNumbers.{rank, rank-before, entry-same, action_rank-injective, action_rank-range, state_rank-range}

-- ---- one instant more

pub push-completed-line : (cs : List Done) (ps : List Begun) (t : ℕ) (a : Action) → IsLine (line_of cs ps) → IsBehind (line_of cs ps) t → IsLine (line_of (cs ++ (t, a) ∷ []) ps)
push-completed-line cs ps t a is behind = record {
  completed = all_pairs_push (λ (x y : Done). x.0 < y.0) cs (t, a) is.completed
      (λ k d short. behind (get_or cs k d).0 (get_or cs k d).1 Completed (Contains-get_or cs k d short));
  pending = is.pending;
  unfinished = is.unfinished;
  apart = λ x y has-x has-y same. elim (Contains-push_cases cs (t, a) x has-x) [
    | inl old ↦ is.apart x y old has-y same
    | inr new ↦
        let low : y.0 < t = behind y.0 y.1 y.2 (pending-at cs ps is y has-y) in
        let e : t ≡ x.0 = ap (λ (z : Done). z.0) new in
        omega arith
  ];
}

pub push-completed-added : (cs : List Done) (ps : List Begun) (t : ℕ) (a : Action) → IsAdded (line_of cs ps) (line_of (cs ++ (t, a) ∷ []) ps) t a Completed
push-completed-added cs ps t a u b Requested = (λ has. inr has, λ either. elim either [ inl same ↦ (let no : Requested ≡ Completed = same.2 in cc) | inr old ↦ old ])
push-completed-added cs ps t a u b Inflight = (λ has. inr has, λ either. elim either [ inl same ↦ (let no : Inflight ≡ Completed = same.2 in cc) | inr old ↦ old ])
push-completed-added cs ps t a u b Completed = (
  λ has. elim (Contains-push_cases cs (t, a) (u, b) has) [
    | inl old ↦ inr old
    | inr new ↦ inl (sym (ap (λ (z : Done). z.0) new), sym (ap (λ (z : Done). z.1) new), refl)
  ],
  λ either. elim either [
    | inl same ↦
        let e : (t, a) ≡ (u, b) = λ i. (sym same.0 i, sym same.1 i) in
        subst (Contains (cs ++ (t, a) ∷ [])) e (Contains-push cs (t, a))
    | inr old ↦ Contains-append_left cs ((t, a) ∷ []) (u, b) old
  ],
)

pub push-pending-line : (cs : List Done) (ps : List Begun) (t : ℕ) (a : Action) (s : State) → IsLine (line_of cs ps) → IsBehind (line_of cs ps) t → s ≢ Completed → IsLine (line_of cs (ps ++ (t, a, s) ∷ []))
push-pending-line cs ps t a s is behind un = record {
  completed = is.completed;
  pending = all_pairs_push (λ (x y : Begun). x.0 < y.0) ps (t, a, s) is.pending
      (λ k d short. behind (get_or ps k d).0 (get_or ps k d).1 (get_or ps k d).2 (pending-at cs ps is (get_or ps k d) (Contains-get_or ps k d short)));
  unfinished = All-push (λ (x : Begun). x.2 ≢ Completed) ps (t, a, s) is.unfinished un;
  apart = λ x y has-x has-y same. elim (Contains-push_cases ps (t, a, s) y has-y) [
    | inl old ↦ is.apart x y has-x old same
    | inr new ↦
        let low : x.0 < t = behind x.0 x.1 Completed has-x in
        let e : t ≡ y.0 = ap (λ (z : Begun). z.0) new in
        omega arith
  ];
}

pending-added : (ps : List Begun) (t u : ℕ) (a b : Action) (s r : State) → Contains (ps ++ (t, a, s) ∷ []) (u, b, r) ↔ (((u ≡ t) × (b ≡ a) × (r ≡ s)) ⊎ Contains ps (u, b, r))
pending-added ps t u a b s r = (
  λ has. elim (Contains-push_cases ps (t, a, s) (u, b, r) has) [
    | inl old ↦ inr old
    | inr new ↦ inl (sym (ap (λ (z : Begun). z.0) new), sym (ap (λ (z : Begun). z.1) new), sym (ap (λ (z : Begun). z.2) new))
  ],
  λ either. elim either [
    | inl same ↦
        let e : (t, a, s) ≡ (u, b, r) = λ i. (sym same.0 i, sym same.1 i, sym same.2 i) in
        subst (Contains (ps ++ (t, a, s) ∷ [])) e (Contains-push ps (t, a, s))
    | inr old ↦ Contains-append_left ps ((t, a, s) ∷ []) (u, b, r) old
  ],
)

pub push-pending-added : (cs : List Done) (ps : List Begun) (t : ℕ) (a : Action) (s : State) → s ≢ Completed → IsAdded (line_of cs ps) (line_of cs (ps ++ (t, a, s) ∷ [])) t a s
push-pending-added cs ps t a s un u b Requested = pending-added ps t u a b s Requested
push-pending-added cs ps t a s un u b Inflight = pending-added ps t u a b s Inflight
push-pending-added cs ps t a s un u b Completed = (λ has. inr has, λ either. elim either [ inl same ↦ absurd (un (sym same.2)) | inr old ↦ old ])

-- ---- one entry more

time-order : (t u x y v w : ℕ) → x ≤ 4 → y ≤ 4 → v ≤ 2 → w ≤ 2 → t * 15 + (x * 3 + v) ≤ u * 15 + (y * 3 + w) → t ≤ u
time-order t u x y v w hx hy hv hw le = omega arith

entry-time : (x y : Begun) → entry_number x ≤ entry_number y → x.0 ≤ y.0
unfolding name_number
entry-time x y le =
    time-order x.0 y.0 (action_rank x.1) (action_rank y.1) (state_rank x.2) (state_rank y.2)
    (action_rank-range x.1) (action_rank-range y.1) (state_rank-range x.2) (state_rank-range y.2) le

pub built-none : (es : List Begun) → IsBuilt es 0 (line_of [] [])
built-none es = record {
  sound = λ t a s at. none t a s at;
  covers = λ k d short. absurd (omega arith);
}
  where
    none : (t : ℕ) (a : Action) (s : State) → IsAt (line_of [] []) t a s → IsBelow es 0 (t, a, s)
    none t a Requested at = absurd (let short = at.1 in omega arith)
    none t a Inflight at = absurd (let short = at.1 in omega arith)
    none t a Completed at = absurd (let short = at.1 in omega arith)

-- what stands in the line is before a new time
pub built-behind : (es : List Begun) (i : ℕ) (line : Line) (e : Begun) → IsNonDecreasingBy entry_number es → IsBuilt es i line → i < length es → e ≡ get_or es i e → IsNewTime es i → IsBehind line e.0
built-behind es i line e order built within read new u b s at =
    let under = built.sound u b s at in
    let low = under.below in
    let first : entry_number (get_or es under.place e) ≤ entry_number (get_or es (i - 1) e) = order under.place (i - 1) e (omega arith) (omega arith) in
    let second : entry_number (get_or es (i - 1) e) ≤ entry_number (get_or es i e) = order (i - 1) i e (omega arith) within in
    let own : (get_or es under.place e).0 ≡ u = ap (λ (z : Begun). z.0) (under.is e) in
    let here : e.0 ≡ (get_or es i e).0 = ap (λ (z : Begun). z.0) read in
    let one = entry-time (get_or es under.place e) (get_or es (i - 1) e) first in
    let two = entry-time (get_or es (i - 1) e) (get_or es i e) second in
    let other : (get_or es (i - 1) e).0 ≢ (get_or es i e).0 = new e (omega arith) in
    omega arith

below-or-at : (k i : ℕ) → k < i + 1 → (k < i) ⊎ (k ≡ i)
below-or-at k i h = elim (cases_order k i) [
  | inl at ↦ inr at
  | inr side ↦ elim side [ inl low ↦ inl low | inr high ↦ absurd (omega arith) ]
]

more-below : (es : List Begun) (i : ℕ) (x : Begun) → IsBelow es i x → IsBelow es (i + 1) x
more-below es i x b = record { place = b.place; below = let low = b.below in omega arith; is = b.is }

pub built-push : (es : List Begun) (i : ℕ) (line after : Line) (e : Begun) → IsBuilt es i line → i < length es → e ≡ get_or es i e → IsAdded line after e.0 e.1 e.2 → IsBuilt es (i + 1) after
built-push es i line after e built within read added = record {
  sound = λ t a s at. elim ((added t a s).0 at) [
    | inl same ↦ record {
      place = i;
      below = omega arith;
      is = λ d. get_or_default es i d e within ∙ sym read ∙ (let whole : e ≡ (t, a, s) = λ k. (sym same.0 k, sym same.1 k, sym same.2 k) in whole);
    }
    | inr old ↦ more-below es i (t, a, s) (built.sound t a s old)
  ];
  covers = λ k d short. elim (below-or-at k i short) [
    | inl low ↦
        let old = built.covers k d low in
        record { action = old.action; state = old.state; at = (added (get_or es k d).0 old.action old.state).1 (inr old.at); no_later = old.no_later }
    | inr same ↦
        let whole : e ≡ get_or es k d = read ∙ get_or_default es i e d within ∙ ap (λ j. get_or es j d) (sym same) in
        subst (IsCovered after) whole (record { action = e.1; state = e.2; at = (added e.0 e.1 e.2).1 (inl (refl, refl, refl)); no_later = omega arith })
  ];
}

pub built-skip : (es : List Begun) (i : ℕ) (line : Line) → IsNonDecreasingBy entry_number es → IsBuilt es i line → i < length es → 0 < i
    → ((d : Begun) → (get_or es (i - 1) d).0 ≡ (get_or es i d).0) → IsBuilt es (i + 1) line
built-skip es i line order built within some same = record {
  sound = λ t a s at. more-below es i (t, a, s) (built.sound t a s at);
  covers = λ k d short. elim (below-or-at k i short) [
    | inl low ↦ built.covers k d low
    | inr at ↦
        let old = built.covers (i - 1) d (omega arith) in
        let le : entry_number (get_or es (i - 1) d) ≤ entry_number (get_or es i d) = order (i - 1) i d (omega arith) within in
        subst (λ j. IsCovered line (get_or es j d)) (sym at) (record {
          action = old.action;
          state = old.state;
          at = subst (λ u. IsAt line u old.action old.state) (same d) old.at;
          no_later = subst (λ u. name_number u old.action old.state ≤ entry_number (get_or es i d)) (same d) (let early = old.no_later in omega arith);
        })
  ];
}

-- a time that isn't new is that of the entry before
pub not-new : (es : List Begun) (i : ℕ) → i < length es → (IsNewTime es i → ⊥) → (0 < i) × ((d : Begun) → (get_or es (i - 1) d).0 ≡ (get_or es i d).0)
not-new es i within old = elim (cases_lt 0 i) [
  | inl some ↦ (
    some,
    λ d. elim (cases_eq (get_or es (i - 1) d).0 (get_or es i d).0) [
      | inl same ↦ same
      | inr other ↦ absurd (old (λ e _ same.
          other (ap (λ (z : Begun). z.0) (get_or_default es (i - 1) d e (omega arith)) ∙ same ∙ ap (λ (z : Begun). z.0) (get_or_default es i e d within))))
    ],
  )
  | inr none ↦ absurd (old (λ e some. absurd (omega arith)))
]

-- ---- the whole line

decided : (es : List Begun) (x : Begun) → Contains es x ⊎ (Contains es x → ⊥)
decided [] x = inr (λ has. let short = has.1 in omega arith)
decided (y ∷ es) x = elim (cases_eq (entry_number y) (entry_number x)) [
  | inl same ↦ inl (subst (Contains (y ∷ es)) (entry-same y x same) (cons-here y es))
  | inr other ↦ elim (decided es x) [
    | inl rest ↦ inl (Contains-append_right (y ∷ []) es x rest)
    | inr none ↦ inr (λ has. elim (cons-cases y es x has) [ inl here ↦ other (ap entry_number here) | inr rest ↦ none rest ])
  ]
]

completed-inflight : (es : List Begun) (t : ℕ) (a : Action) → AreSound es → Contains es (t, a, Completed) → Contains es (t, a, Inflight)
completed-inflight es t a sound has = elim (decided es (t, a, Inflight)) [ inl there ↦ there | inr none ↦ absurd (sound t a Completed has (inl none)) ]

inflight-requested : (es : List Begun) (t : ℕ) (a : Action) → AreSound es → Contains es (t, a, Inflight) → Contains es (t, a, Requested)
inflight-requested es t a sound has = elim (decided es (t, a, Requested)) [ inl there ↦ there | inr none ↦ absurd (sound t a Inflight has (inl none)) ]

below-has : (es : List Begun) (x : Begun) → IsBelow es (length es) x → Contains es x
below-has es x b = (b.place, b.below, b.is x)

at-has : (es : List Begun) (line : Line) (t : ℕ) (a : Action) (s : State) → IsBuilt es (length es) line → IsAt line t a s → Contains es (t, a, s)
at-has es line t a s built at = below-has es (t, a, s) (built.sound t a s at)

-- a file that the line has is among the entries
file-entry : (es : List Begun) (line : Line) → AreSound es → IsBuilt es (length es) line → (t : ℕ) (a : Action) (s : State) → HasFile line t a s → Contains es (t, a, s)
file-entry es line sound built t a Completed file = at-has es line t a Completed built file
file-entry es line sound built t a Inflight file = elim file [
  | inl here ↦ at-has es line t a Inflight built here
  | inr done ↦ completed-inflight es t a sound (at-has es line t a Completed built done)
]
file-entry es line sound built t a Requested file = elim file [
  | inl here ↦ at-has es line t a Requested built here
  | inr later ↦ inflight-requested es t a sound (elim later [
    | inl here ↦ at-has es line t a Inflight built here
    | inr done ↦ completed-inflight es t a sound (at-has es line t a Completed built done)
  ])
]

file-from : (line : Line) (t : ℕ) (a : Action) (s r : State) → state_rank r ≤ state_rank s → IsAt line t a r → HasFile line t a s
file-from line t a Requested Requested le at = inl at
file-from line t a Requested Inflight le at = inr (inl at)
file-from line t a Requested Completed le at = inr (inr at)
file-from line t a Inflight Requested le at = absurd (omega arith)
file-from line t a Inflight Inflight le at = inl at
file-from line t a Inflight Completed le at = inr at
file-from line t a Completed Requested le at = absurd (omega arith)
file-from line t a Completed Inflight le at = absurd (omega arith)
file-from line t a Completed Completed le at = at

smaller : (t x y v w : ℕ) → v ≤ 2 → w ≤ 2 → t * 15 + (x * 3 + v) ≤ t * 15 + (y * 3 + w) → x ≢ y → x * 3 + v < y * 3 + w
smaller t x y v w hv hw le ne = omega arith

smaller-state : (t x v w : ℕ) → t * 15 + (x * 3 + v) ≤ t * 15 + (x * 3 + w) → v ≤ w
smaller-state t x v w le = omega arith

number-rank : (t : ℕ) (a b : Action) (s r : State) → name_number t b r ≤ name_number t a s → action_rank b ≢ action_rank a → rank b r < rank a s
unfolding name_number rank
number-rank t a b s r le ne = smaller t (action_rank b) (action_rank a) (state_rank r) (state_rank s) (state_rank-range r) (state_rank-range s) le ne

number-state : (t : ℕ) (a : Action) (s r : State) → name_number t a r ≤ name_number t a s → state_rank r ≤ state_rank s
unfolding name_number
number-state t a s r le = smaller-state t (action_rank a) (state_rank r) (state_rank s) le

entry-file : (es : List Begun) (line : Line) → AreSound es → IsBuilt es (length es) line → (t : ℕ) (a : Action) (s : State) → Contains es (t, a, s) → HasFile line t a s
entry-file es line sound built t a s has =
    let cov : IsCovered line (t, a, s) = subst (IsCovered line) has.2 (built.covers has.0 (t, a, s) has.1) in
    elim (cases_eq (action_rank cov.action) (action_rank a)) [
      | inl same ↦
          let e = action_rank-injective cov.action a same in
          let le = subst (λ b. name_number t b cov.state ≤ name_number t a s) e cov.no_later in
          file-from line t a s cov.state (number-state t a s cov.state le) (subst (λ b. IsAt line t b cov.state) e cov.at)
      | inr other ↦
          let before = rank-before t cov.action a cov.state s (number-rank t a cov.action s cov.state cov.no_later other) in
          absurd (sound t a s has
          (inr (cov.action, cov.state, (λ same. other (ap action_rank same)), at-has es line t cov.action cov.state built cov.at, before)))
    ]

pub built-files : (es : List Begun) (line : Line) → AreSound es → IsBuilt es (length es) line → AreItsFiles es line
built-files es line sound built t a s = (entry-file es line sound built t a s, file-entry es line sound built t a s)

-- ---- names

pub names-sound : (es : List Begun) (names : List FileName) → AreEntries es names → ((i t : ℕ) (a : Action) (s : State) → BreaksAt names i t a s → ⊥) → AreSound es
names-sound es names same none t a s has breaks =
    let named = (same t a s).0 has in
    none named.0 t a s (record {
      is = slice_get_read names (length names) named.0 (Instant t a s) refl named.1 (sym named.2);
      breaks = breaks-same (λ u b r. Contains es (u, b, r)) (λ u b r. Contains names (Instant u b r)) same t a s breaks;
    })

pub names-files : (es : List Begun) (names : List FileName) (line : Line) → AreEntries es names → AreItsFiles es line → AreFilesOf line names
names-files es names line same files t a s = (
  λ named. (files t a s).0 ((same t a s).1 named),
  λ file. (same t a s).0 ((files t a s).1 file),
)
