-- Where jobs came in turn, the blocks that count stand in the order of their instants.
use Rattle.std.proofs.Common.{◌≡◌, ◌<◌, ℕ, Bool, true, false, cond, ◌||◌, List, [], ◌∷◌, ◌++◌, Option, Some, None, option_map, slice_get, refl, sym, ap, subst, ◌∙◌, arith, append_assoc, append-nil}
use Rattle.std.specs.Prelude.{◌==◌, IsSomeAnd}
use Rattle.std.specs.List.{AllByRecursion, flat_map}
use Rattle.std.proofs.lemmas.Grind.{flat_map-append}
use Rattle.std.proofs.lemmas.Bool.Decides.{nat_tests}
use Rattle.hudi_base.specs.declared.file_group.Target.{Target}
use Rattle.file_names.specs.declared.file_name.State.TheVariants as state
use Rattle.payload_merge.specs.declared.row.Write.{Write}
use Rattle.table_history.specs.Answers.{Answers, May}
use Rattle.table_history.specs.Concerns.{IsOpened}
use Rattle.table_history.specs.Histories.{History, own}
use Rattle.table_history.specs.Instants.{instant_after, instant_of, completions, begun, entered, with_block, completed, failed, abandoned}
use Rattle.table_history.specs.JobLaw.{Work, IsLegal, Allows, phase}
use Rattle.table_history.specs.Tables.{Table, Instant, fresh}
use Rattle.table_history.specs.Times.{greatest_time}
use Rattle.table_history.specs.declared.job.Job.{Job}
use Rattle.table_history.specs.declared.reply.Reply.{Reply}
use Rattle.table_history.specs.declared.reply.Reply.TheVariants as reply
use Rattle.table_history.specs.declared.step.Step.{Step}
use Rattle.table_history.specs.declared.step.Step.TheVariants.{Begin, Enter, Append, Finish, Pin, Unpin, Read, Abandon}
use Rattle.table_history.proofs.Bounds.{number, undrawn}
use Rattle.table_images.proofs.SameLogs.{IsNoAppend, entry}
use Rattle.table_query.specs.GroupReading.{is_among}
use Rattle.upsert_writer.specs.Blocks.{BlockForm}
use Rattle.table_answers.specs.InTurn.{IsInTurn, IsItsTurn}
use Rattle.table_answers.specs.InstantWrites.{block_writes, instant_writes, placed_writes, writes_of}
use Rattle.table_answers.proofs.LiveSlices.{ArePlain, IsAppending, appending, goes_there, instants_plain}
use Rattle.table_answers.proofs.Placed.{PlacedBlock, placed, placed_at, placed_by}
use Rattle.table_answers.proofs.Turns.{appends_last}
use Rattle.table_props.specs.PropsTexts.{Told as Properties}

-- the writes of a placed block, where its instant is one of these
abbrev pub counted : BlockForm → List ℕ → PlacedBlock → List Write
counted form times b = cond (is_among times b.t) (block_writes form (Some b.to) b.bytes) []

-- times that strictly rise
abbrev pub Rises : List ℕ → Type 0
Rises [] = Unit {0}
Rises (u ∷ us) = AllByRecursion (λ v. u < v) us × Rises us

-- ---- one more block of the last instant

pub same_each : {X Y : Type 0} (f g : X → List Y) (xs : List X) → ((x : X) → f x ≡ g x) → flat_map f xs ≡ flat_map g xs
same_each f g [] same = refl
same_each f g (x ∷ xs) same = ap (λ ys. ys ++ flat_map f xs) (same x) ∙ ap (λ ys. g x ++ ys) (same_each f g xs same)

module _ (w : ℕ → List Write) (t : ℕ) (x : List Write) (none : (u : ℕ) → t < u → w u ≡ []) where
  abbrev more : ℕ → List Write
  more u = w u ++ cond (t == u) x []

  not_that : (u : ℕ) → t < u → (t == u) ≡ false
  not_that u h = grind (arith, nat_tests)

  none_more : (us : List ℕ) → AllByRecursion (λ u. t < u) us → flat_map more us ≡ []
  none_more [] above = refl
  none_more (u ∷ us) above =
      ap (λ ys. (ys ++ cond (t == u) x []) ++ flat_map more us) (none u above.0) ∙ ap (λ b. cond b x [] ++ flat_map more us) (not_that u above.0) ∙ none_more us above.1

  none_above : (us : List ℕ) → AllByRecursion (λ u. t < u) us → flat_map w us ≡ []
  none_above [] above = refl
  none_above (u ∷ us) above = ap (λ ys. ys ++ flat_map w us) (none u above.0) ∙ none_above us above.1

  last_more : (us : List ℕ) → Rises us → flat_map more us ≡ flat_map w us ++ cond (is_among us t) x []
  last_more [] rises = refl
  last_more (u ∷ us) rises = by (t == u) refl (last_more us rises.1)
    where
      later : t ≡ u → AllByRecursion (λ v. t < v) us
      later same = subst (λ n. AllByRecursion (λ v. n < v) us) (sym same) rises.0

      by : (b : Bool) → (t == u) ≡ b → flat_map more us ≡ flat_map w us ++ cond (is_among us t) x [] → (w u ++ cond b x []) ++ flat_map more us ≡ (w u ++ flat_map w us) ++ cond (b || is_among us t) x []
      by true is rest =
          let above = later (number t u is) in
          ap (λ ys. (w u ++ x) ++ ys) (none_more us above) ∙ append-nil (w u ++ x) ∙ ap (λ ys. ys ++ x) (sym (append-nil (w u)) ∙ ap (λ ys. w u ++ ys) (sym (none_above us above)))
      by false is rest =
          ap (λ ys. ys ++ flat_map more us) (append-nil (w u)) ∙ ap (λ ys. w u ++ ys) rest ∙ sym (append_assoc (w u) (flat_map w us) (cond (is_among us t) x []))

-- ---- what an entry makes of the writes of an instant

module _ (form : BlockForm) where
  changed : (f : Instant → Instant) (b : Bool) (o : Option Instant) → ((i : Instant) → b ≡ true → o ≡ Some i → placed_writes form (f i).targets (f i).blocks ≡ placed_writes form i.targets i.blocks)
      → instant_writes form (cond b (option_map f o) o) ≡ instant_writes form o
  changed f true None same = refl
  changed f false None same = refl
  changed f true (Some i) same = same i refl refl
  changed f false (Some i) same = refl

  -- an instant that was only requested has no blocks
  had_none : (i : Instant) (targets : List Target) → i.blocks ≡ [] → placed_writes form targets i.blocks ≡ placed_writes form i.targets i.blocks
  had_none i targets none = ap (placed_writes form targets) none ∙ sym (ap (placed_writes form i.targets) none)

  requested_none : (A : Table) (o : Option Instant) (j : Job) (i : Instant) → IsSomeAnd o (λ i. (i.owner ≡ Some j) × (i.state ≡ state.Requested)) → ArePlain A o → o ≡ Some i → i.blocks ≡ []
  requested_none A None j i owns plain is = absurd owns
  requested_none A (Some k) j i owns plain is = let same : k ≡ i = cc in subst (λ (x : Instant). x.blocks ≡ []) same (plain.blocks owns.1)

  begun_now : (job : Job) (n : ℕ) (b : Bool) (o : Option Instant) → (b ≡ true → o ≡ None) → instant_writes form (cond b (Some (begun job n)) o) ≡ instant_writes form o
  begun_now job n true o new = sym (ap (instant_writes form) (new refl))
  begun_now job n false o new = refl

  more_writes : (s : Target) (target writes : ℕ) (bytes : List ℕ) (b : Bool) (o : Option Instant) → ((i : Instant) → b ≡ true → o ≡ Some i → slice_get i.targets target ≡ Some s) → (b ≡ true → o ≡ None → ⊥)
      → instant_writes form (cond b (option_map (with_block target writes bytes) o) o) ≡ instant_writes form o ++ cond b (block_writes form (Some s) bytes) []
  more_writes s target writes bytes true None to some = absurd (some refl refl)
  more_writes s target writes bytes false None to some = refl
  more_writes s target writes bytes true (Some i) to some = ap (λ r. placed_writes form i.targets i.blocks ++ block_writes form r bytes) (to i refl refl)
  more_writes s target writes bytes false (Some i) to some = sym (append-nil (placed_writes form i.targets i.blocks))

module _ (form : BlockForm) (A : Table) (H : History) (opened : IsOpened A) (j : Job) (u n : ℕ) (plain : (t : ℕ) → ArePlain A (instant_of A H t)) where
  abbrev o : Option Instant
  o = instant_of A H u

  abbrev Same : Step → Reply → Type 0
  Same s r = instant_writes form (instant_after u n j s r o) ≡ instant_writes form o

  failed_at : (t : ℕ) → instant_writes form (cond (t == u) (option_map failed o) o) ≡ instant_writes form o
  failed_at t = changed form failed (t == u) o (λ i here is. refl)

  at_other : (t : ℕ) → (t == u) ≡ true → instant_of A H t ≡ instant_of A H u
  at_other t same = ap (instant_of A H) (number t u same)

  pub same_writes : (s : Step) (r : Reply) → IsNoAppend s → May A H j s → Answers A H s r → Same s r
  same_writes (Append t target writes bytes) r other may answers = absurd other
  same_writes Begin (reply.Began t) other may answers =
      begun_now form j n (t == u) o (λ here. sym (at_other t here) ∙ undrawn A H opened t answers)
  same_writes (Enter t slots) (reply.Entered targets) other may answers =
      changed form (entered targets) (t == u) o
      (λ i here is. had_none form i targets (requested_none form A (instant_of A H t) j i may.0 (plain t) (at_other t here ∙ is)))
  same_writes (Finish t checkpoint) (reply.Completed v) other may answers = changed form (completed n checkpoint) (t == u) o (λ i here is. refl)
  same_writes (Abandon t) reply.Done other may answers = changed form abandoned (t == u) o (λ i here is. refl)
  same_writes (Enter t slots) reply.Fault other may answers = failed_at t
  same_writes (Enter t slots) (reply.Damaged name cause) other may answers = failed_at t
  same_writes (Finish t checkpoint) reply.Fault other may answers = failed_at t
  same_writes (Finish t checkpoint) (reply.Damaged name cause) other may answers = failed_at t
  same_writes s r other may answers = refl

  failed_writes : (t target writes : ℕ) (bytes : List ℕ) → Same (Append t target writes bytes) reply.Fault
  failed_writes t target writes bytes = failed_at t

-- ---- a history

-- the counted blocks in their order, and the instants in theirs
abbrev pub InOrder : BlockForm → Table → History → Type 0
InOrder form A H = (times : List ℕ) → Rises times → flat_map (counted form times) (placed A H) ≡ flat_map (writes_of form A H) times

none_some : (o : Option Instant) (i : Instant) → o ≡ Some i → o ≡ None → ⊥
none_some o i is none = let wrong : None ≡ Some i = sym none ∙ is in cc

some_same : (i k : Instant) → Some i ≡ Some k → i ≡ k
some_same i k e = cc

order_quiet : (form : BlockForm) (A : Table) (H : History) (j : Job) (s : Step) (r : Reply) → placed_by A H s r ≡ [] → ((u : ℕ) → writes_of form A (entry j s r ∷ H) u ≡ writes_of form A H u)
    → InOrder form A H → InOrder form A (entry j s r ∷ H)
order_quiet form A H j s r none same was times rises =
    ap (λ bs. flat_map (counted form times) (placed A H ++ bs)) none ∙ ap (flat_map (counted form times)) (append-nil (placed A H)) ∙ was times rises
    ∙ sym (same_each (writes_of form A (entry j s r ∷ H)) (writes_of form A H) times same)

pub fresh_opened : (props : Properties) → IsOpened (fresh props)
fresh_opened props t i is = let wrong : None ≡ Some i = is in cc

-- a block more in an instant
pub one_block_more : (form : BlockForm) (A : Table) (H : History) (j : Job) (t target writes version at : ℕ) (bytes : List ℕ) (s : Target) → IsAppending A H t target s → (u : ℕ)
    → writes_of form A (entry j (Append t target writes bytes) (reply.Placed version at) ∷ H) u ≡ writes_of form A H u ++ cond (t == u) (block_writes form (Some s) bytes) []
one_block_more form A H j t target writes version at bytes s to u =
    more_writes form s target writes bytes (t == u) (instant_of A H u)
    (λ i here is. ap (λ (x : Instant). slice_get x.targets target) (some_same i to.i (sym is ∙ ap (instant_of A H) (sym (number t u here)) ∙ to.is)) ∙ to.to)
    (λ here none. none_some (instant_of A H t) to.i to.is (ap (instant_of A H) (number t u here) ∙ none))

module _ (form : BlockForm) (work : Work) (props : Properties) (H : History) (legal : IsLegal work (fresh props) H) (was : InOrder form (fresh props) H) (j : Job) where
  abbrev A : Table
  A = fresh props

  module _ (t target writes version at : ℕ) (bytes : List ℕ) (s : Target) (to : IsAppending A H t target s) (last : t ≡ greatest_time A H) where
    abbrev K : History
    K = entry j (Append t target writes bytes) (reply.Placed version at) ∷ H

    abbrev b : PlacedBlock
    b = record { t = t; to = s; bytes = bytes }

    none_later : (u : ℕ) → t < u → writes_of form A H u ≡ []
    none_later u above = ap (instant_writes form) (undrawn A H (fresh_opened props) u (omega (arith, above, last)))

    order_placed : InOrder form A K
    order_placed times rises =
        ap (λ (o : Option Target). flat_map (counted form times) (placed A H ++ placed_at t bytes o)) (goes_there A H t target s to)
        ∙ flat_map-append (counted form times) (placed A H) (b ∷ []) ∙ ap (λ ys. flat_map (counted form times) (placed A H) ++ ys) (append-nil (counted form times b))
        ∙ ap (λ ys. ys ++ counted form times b) (was times rises)
        ∙ sym (last_more (writes_of form A H) t (block_writes form (Some s) bytes) none_later times rises)
        ∙ sym (same_each (writes_of form A K) (λ u. writes_of form A H u ++ cond (t == u) (block_writes form (Some s) bytes) []) times (one_block_more form A H j t target writes version at bytes s to))

  plain : (t : ℕ) → ArePlain A (instant_of A H t)
  plain = instants_plain work props H legal

  same_for : (s : Step) (r : Reply) → IsNoAppend s → May A H j s → Answers A H s r → (u : ℕ) → writes_of form A (entry j s r ∷ H) u ≡ writes_of form A H u
  same_for s r other may answers u = same_writes form A H (fresh_opened props) j u (completions A H) plain s r other may answers

  order_then : (s : Step) (r : Reply) → May A H j s → Answers A H s r → Allows work j (phase (own j H)) s → IsInTurn H → IsItsTurn j H → InOrder form A (entry j s r ∷ H)
  order_then (Append t target writes bytes) (reply.Placed version at) may answers allowed turn its =
      let to = appending A H j t target (plain t) may in
      order_placed t target writes version at bytes to.0 to.1 (appends_last work props H j t target writes bytes legal turn its allowed)
  order_then (Append t target writes bytes) reply.Fault may answers allowed turn its =
      order_quiet form A H j (Append t target writes bytes) reply.Fault refl
      (λ u. failed_writes form A H (fresh_opened props) j u (completions A H) plain t target writes bytes) was
  order_then (Append t target writes bytes) _ may answers allowed turn its = absurd answers
  order_then Begin r may answers allowed turn its = order_quiet form A H j Begin r refl (same_for Begin r tt may answers) was
  order_then (Enter t slots) r may answers allowed turn its = order_quiet form A H j (Enter t slots) r refl (same_for (Enter t slots) r tt may answers) was
  order_then (Finish t checkpoint) r may answers allowed turn its = order_quiet form A H j (Finish t checkpoint) r refl (same_for (Finish t checkpoint) r tt may answers) was
  order_then (Pin at bases_only) r may answers allowed turn its = order_quiet form A H j (Pin at bases_only) r refl (same_for (Pin at bases_only) r tt may answers) was
  order_then (Unpin pin) r may answers allowed turn its = order_quiet form A H j (Unpin pin) r refl (same_for (Unpin pin) r tt may answers) was
  order_then (Read from number_of offset len) r may answers allowed turn its =
      order_quiet form A H j (Read from number_of offset len) r refl (same_for (Read from number_of offset len) r tt may answers) was
  order_then (Abandon t) r may answers allowed turn its = order_quiet form A H j (Abandon t) r refl (same_for (Abandon t) r tt may answers) was

in_order_first : (form : BlockForm) (props : Properties) (times : List ℕ) → [] ≡ flat_map (writes_of form (fresh props) []) times
in_order_first form props [] = refl
in_order_first form props (u ∷ us) = in_order_first form props us

pub in_order : (form : BlockForm) (work : Work) (props : Properties) (H : History) → IsLegal work (fresh props) H → IsInTurn H → InOrder form (fresh props) H
in_order form work props [] legal turn = λ times rises. in_order_first form props times
in_order form work props (e ∷ H) legal turn =
    order_then form work props H legal.0 (in_order form work props H legal.0 turn.1) e.job e.step e.reply legal.1.may legal.1.answers legal.2 turn.1 turn.0
