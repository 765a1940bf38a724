-- Views stay known: a table just opened, each step, and a run.
use Rattle.std.proofs.Common.{◌≡◌, ◌⊎◌, inl, inr, ◌<◌, ◌≤◌, ◌+◌, ◌==◌, ℕ, Bool, true, false, cond, List, [], ◌∷◌, length, slice_get, Option, Some, None, IfSome, IsSomeAnd, refl, sym, ap, ◌∙◌, subst, arith}
use Rattle.std.specs.Prelude.{nat_lt}
use Rattle.std.specs.List.{AllByRecursion}
use Rattle.std.specs.Str.{bytes_eq}
use Rattle.hudi_base.specs.declared.file_group.Target.{Target}
use Rattle.file_names.specs.FileName.{name_of}
use Rattle.file_names.specs.declared.file_name.FileName.{FileName}
use Rattle.file_names.specs.declared.file_name.FileName.TheVariants as file
use Rattle.table_history.specs.Answers.{Answers, May}
use Rattle.table_history.specs.Histories.{History}
use Rattle.table_history.specs.JobLaw.{Work, IsLegal}
use Rattle.table_history.specs.Logs.{files_of, logs_of, logs_in, lengthened, insert_log, bytes_in, is_unused, version_in_use, attempts, opened_at, target_at, known_length}
use Rattle.table_history.specs.declared.log_file.LogFile.{LogFile}
use Rattle.table_history.specs.Pins.{pin_of, pin_after, files_of_view, IsView}
use Rattle.table_history.specs.Instants.{instant_of}
use Rattle.table_history.specs.Tables.{Table, Instant, KnownFile}
use Rattle.file_names.specs.declared.file_name.State.TheVariants as state
use Rattle.std.specs.Option.{option_map_or}
use Rattle.table_images.proofs.Written.{found_at}
use Rattle.table_history.specs.Targets.{is_target}
use Rattle.table_history.specs.declared.job.Job.{Job}
use Rattle.table_history.specs.declared.reply.Reply.{Reply}
use Rattle.table_history.specs.declared.reply.Reply.TheVariants as reply
use Rattle.table_history.specs.declared.step.Step.{Step}
use Rattle.table_history.specs.declared.step.Step.TheVariants.{Begin, Enter, Append, Finish, Pin, Unpin, Read, Abandon}
use Rattle.table_history.specs.declared.view.LivePin.{LivePin}
use Rattle.table_history.specs.declared.view.Part.{Part}
use Rattle.table_history.proofs.Apart.{same_slice}
use Rattle.table_images.specs.Runs.{log_in_use}
use Rattle.table_images.specs.Stands.{IsKnownOnce}
use Rattle.table_images.proofs.Appended.{name_in_use, slice_cases}
use Rattle.table_images.proofs.AppendFacts.{IsPlacing, IsFailing, logs_then, placing, is_failing}
use Rattle.table_images.proofs.Lines.{none_some, some_same}
use Rattle.table_images.proofs.SameLogs.{IsNoAppend, SameLogs, entry, same_logs}
use Rattle.table_images.proofs.Views.{IsKnownTo, IsKnownLog, IsNewest, KnownViews, all_of, file_of_log, known_grows, known_more, view_known}
use Rattle.table_images.proofs.WhereTo.{eq_itself, eq_same, one_target}

-- ---- a table that was just opened

behind : (k : KnownFile) (fs : List KnownFile) (q : List ℕ) (len : ℕ) → (k.name ≡ q → ⊥) → IsKnownTo fs q len → IsKnownTo (k ∷ fs) q len
behind k fs q len apart known = record { there = inr known.there; long = by_test (bytes_eq k.name q) refl }
  where
    by_test : (b : Bool) → bytes_eq k.name q ≡ b → len ≤ length (cond (bytes_eq k.name q) k.bytes (bytes_in fs q))
    by_test true same = absurd (apart (eq_same k.name q same))
    by_test false other = rw other known.long

abbrev IsWhole : List KnownFile → KnownFile → Type 0
IsWhole all k = IsKnownTo all k.name (length k.bytes)

not_again : (k : KnownFile) (fs more : List KnownFile) → AllByRecursion (λ x. k.name ≡ x.name → ⊥) more → AllByRecursion (IsWhole fs) more → AllByRecursion (IsWhole (k ∷ fs)) more
not_again k fs [] apart all = tt
not_again k fs (x ∷ more) apart all = (behind k fs x.name (length x.bytes) apart.0 all.0, not_again k fs more apart.1 all.1)

known_whole : (A : Table) (fs : List KnownFile) → IsKnownOnce A fs → AllByRecursion (IsWhole fs) fs
known_whole A [] once = tt
known_whole A (k ∷ fs) once =
    (record { there = inl refl; long = rw (eq_itself k.name) (omega arith) }, not_again k fs fs once.1 (known_whole A fs once.2))

all_inserted : (P : LogFile → Type 0) (log : LogFile) (logs : List LogFile) → P log → AllByRecursion P logs → AllByRecursion P (insert_log log logs)
all_inserted P log [] one all = (one, tt)
all_inserted P log (first ∷ more) one all = by_test (nat_lt first.version log.version) (all_inserted P log more one all.1)
  where
    by_test : (b : Bool) → AllByRecursion P (insert_log log more) → AllByRecursion P (cond b (log ∷ first ∷ more) (first ∷ insert_log log more))
    by_test true rest = (one, all)
    by_test false rest = (all.0, rest)

logs_known : (A : Table) (all fs : List KnownFile) (s : Target) → IsKnownOnce A fs → AllByRecursion (IsWhole all) fs → AllByRecursion (IsKnownLog A all s) (logs_in fs s)
logs_known A all [] s once whole = tt
logs_known A all (k ∷ fs) s once whole = by_file k.file refl (logs_known A all fs s once.2 whole.1)
  where
    by_file : (of : FileName) → k.file ≡ of → AllByRecursion (IsKnownLog A all s) (logs_in fs s) → AllByRecursion (IsKnownLog A all s) (logs_in (k ∷ fs) s)
    by_file (file.Log group slice version token) is rest = by_test (is_target (record { group = group; slice = slice }) s) refl
      where
        by_test : (b : Bool) → is_target (record { group = group; slice = slice }) s ≡ b → AllByRecursion (IsKnownLog A all s) (logs_in (k ∷ fs) s)
        by_test true same =
            let one : record { group = group; slice = slice } ≡ s = one_target (record { group = group; slice = slice }) s same in
            let log : LogFile = record { version = version; session = token.session; attempt = token.attempt; length = length k.bytes } in
            let name : k.name ≡ name_of A.props.name (file_of_log s log) = once.0 ∙ ap (name_of A.props.name) is ∙ ap (λ (r : Target). name_of A.props.name (file_of_log r log)) one in
            rw is (rw same (all_inserted (IsKnownLog A all s) log (logs_in fs s) (subst (λ n. IsKnownTo all n (length k.bytes)) name whole.0) rest))
        by_test false other = rw is (rw other rest)
    by_file of is rest = rw is rest

pub views_opened : (A : Table) → IsKnownOnce A A.files → KnownViews A []
views_opened A once = record {
  logs = λ s. logs_known A A.files A.files s once (known_whole A A.files once);
  newest = λ s used. let wrong : true ≡ false = used in absurd cc;
  pins = λ p live is. absurd (none_some is);
}

-- ---- a step

-- what is known stays known
abbrev Grows : Table → History → History → Type 0
Grows A H K = (q : List ℕ) (len : ℕ) → IsKnownTo (files_of A H) q len → IsKnownTo (files_of A K) q len

abbrev IsKnownView : Table → History → LivePin → Type 0
IsKnownView A H live = AllByRecursion (λ (part : Part). IsKnownTo (files_of A H) part.name part.length) (files_of_view live.view)

pinned : (A : Table) (H : History) (at : Option ℕ) (bases_only : Bool) (view : _) → Answers A H (Pin at bases_only) (reply.Pinned view) → IsView A H at bases_only view
pinned A H None bases_only view answers = answers
pinned A H (Some t) bases_only view answers = answers.0

pins_then : (A : Table) (H : History) (p : ℕ) (j : Job) (s : Step) (r : Reply) (live : LivePin) → Answers A H s r → KnownViews A H → pin_after p j s r (pin_of H p) ≡ Some live → IsKnownView A H live
pins_then A H p j (Pin at bases_only) (reply.Pinned view) live answers known is = by_test (view.pin == p) is
  where
    by_test : (b : Bool) → cond b (Some (record { job = j; view = view })) (pin_of H p) ≡ Some live → IsKnownView A H live
    by_test true is = subst (IsKnownView A H) (some_same is) (view_known A H at bases_only view (pinned A H at bases_only view answers) known)
    by_test false is = known.pins p live is
pins_then A H p j (Unpin q) reply.Done live answers known is = by_test (q == p) is
  where
    by_test : (b : Bool) → cond b None (pin_of H p) ≡ Some live → IsKnownView A H live
    by_test true is = absurd (none_some is)
    by_test false is = known.pins p live is
pins_then A H p j _ r live answers known is = known.pins p live is

pins_grow : (A : Table) (H : History) (j : Job) (s : Step) (r : Reply) → Answers A H s r → KnownViews A H → Grows A H (entry j s r ∷ H)
    → (p : ℕ) (live : LivePin) → pin_of (entry j s r ∷ H) p ≡ Some live → IsKnownView A (entry j s r ∷ H) live
pins_grow A H j s r answers known grows p live is =
    all_of (λ (part : Part). IsKnownTo (files_of A H) part.name part.length) (λ (part : Part). IsKnownTo (files_of A (entry j s r ∷ H)) part.name part.length)
    (λ part. grows part.name part.length) (files_of_view live.view) (pins_then A H p j s r live answers known is)

logs_grow : (A : Table) (H K : History) (s : Target) → Grows A H K → logs_of A K s ≡ logs_of A H s → KnownViews A H → AllByRecursion (IsKnownLog A (files_of A K) s) (logs_of A K s)
logs_grow A H K s grows same known =
    subst (AllByRecursion (IsKnownLog A (files_of A K) s)) (sym same)
    (all_of (IsKnownLog A (files_of A H) s) (IsKnownLog A (files_of A K) s) (λ log. grows (name_of A.props.name (file_of_log s log)) log.length) (logs_of A H s) (known.logs s))

newest_as : (A : Table) (H K : History) (s : Target) (logs : List LogFile) → log_in_use A K s ≡ log_in_use A H s → IsNewest A H s logs → IsNewest A K s logs
newest_as A H K s [] same newest = newest
newest_as A H K s (log ∷ more) same newest = newest ∙ sym same

-- no append
views_left : (A : Table) (H : History) (j : Job) (s : Step) (r : Reply) → IsNoAppend s → ((q : Target) → logs_of A (entry j s r ∷ H) q ≡ logs_of A H q) → Answers A H s r → KnownViews A H
    → KnownViews A (entry j s r ∷ H)
views_left A H j s r other logs answers known = record {
  logs = λ q. logs_grow A H K q grows (logs q) known;
  newest = λ q used. newest_as A H K q (logs_of A K q) (same.in_use q) (subst (IsNewest A H q) (sym (logs q)) (known.newest q (sym (same.unused q) ∙ used)));
  pins = pins_grow A H j s r answers known grows;
}
  where
    K : History
    K = entry j s r ∷ H

    same : SameLogs A H (entry j s r ∷ H)
    same = same_logs A H j s r other

    grows : (q : List ℕ) (len : ℕ) → IsKnownTo (files_of A H) q len → IsKnownTo (files_of A (entry j s r ∷ H)) q len
    grows q len old = subst (λ (fs : List KnownFile). IsKnownTo fs q len) (sym same.files) old

-- a block was placed
module _ (A : Table) (H K : History) (s : Target) (bytes : List ℕ) (placed : IsPlacing A H K s bytes) (known : KnownViews A H) where
  grows_placed : (q : List ℕ) (len : ℕ) → IsKnownTo (files_of A H) q len → IsKnownTo (files_of A K) q len
  grows_placed q len old = subst (λ (fs : List KnownFile). IsKnownTo fs q len) (sym placed.files) (known_grows (log_in_use A H s) (name_in_use A H s) bytes (files_of A H) q len old)

  more_known : (len : ℕ) → len ≤ length (bytes_in (files_of A H) (name_in_use A H s)) → IsKnownTo (files_of A K) (name_in_use A H s) (len + length bytes)
  more_known len le = subst (λ (fs : List KnownFile). IsKnownTo fs (name_in_use A H s) (len + length bytes)) (sym placed.files) (known_more (log_in_use A H s) (name_in_use A H s) bytes (files_of A H) len le)

  all_before : AllByRecursion (IsKnownLog A (files_of A K) s) (logs_of A H s)
  all_before =
      all_of (IsKnownLog A (files_of A H) s) (IsKnownLog A (files_of A K) s) (λ log. grows_placed (name_of A.props.name (file_of_log s log)) log.length) (logs_of A H s) (known.logs s)

  new_name : is_unused A H s ≡ true → name_of A.props.name (file.Log s.group s.slice (version_in_use A H s) (record { session = A.session; attempt = attempts A H })) ≡ name_in_use A H s
  new_name unused =
      ap (λ n. name_of A.props.name (file.Log s.group s.slice (version_in_use A H s) (record { session = A.session; attempt = n })))
      (sym (ap (λ b. cond b (attempts A H) (opened_at A H s)) unused))

  longer : (logs : List LogFile) → IsNewest A H s logs → AllByRecursion (IsKnownLog A (files_of A H) s) logs → AllByRecursion (IsKnownLog A (files_of A K) s) logs
      → AllByRecursion (IsKnownLog A (files_of A K) s) (lengthened (length bytes) logs)
  longer [] newest old all = absurd newest
  longer (log ∷ more) newest old all =
      let name : name_of A.props.name (file_of_log s log) ≡ name_in_use A H s = ap (name_of A.props.name) newest in
      let le : log.length ≤ length (bytes_in (files_of A H) (name_in_use A H s)) = subst (λ n. log.length ≤ length (bytes_in (files_of A H) n)) name old.0.long in
      (subst (λ n. IsKnownTo (files_of A K) n (log.length + length bytes)) (sym name) (more_known log.length le), all.1)

  none_yet : (n m : ℕ) → IsKnownTo (files_of A K) (name_in_use A H s) (0 + n) → n ≡ m → IsKnownTo (files_of A K) (name_in_use A H s) m
  none_yet n m known same = record { there = known.there; long = let le = known.long in omega (arith, le, same) }

  pub logs_placed : AllByRecursion (IsKnownLog A (files_of A K) s) (logs_of A K s)
  logs_placed = subst (AllByRecursion (IsKnownLog A (files_of A K) s)) (sym placed.logs) (by_use (is_unused A H s) refl)
    where
      by_use : (b : Bool) → is_unused A H s ≡ b → AllByRecursion (IsKnownLog A (files_of A K) s) (logs_then A H s (length bytes))
      by_use true unused =
          rw unused (subst (λ n. IsKnownTo (files_of A K) n (length bytes)) (sym (new_name unused)) (none_yet (length bytes) (length bytes) (more_known 0 (omega arith)) refl), all_before)
      by_use false used = rw used (longer (logs_of A H s) (known.newest s used) (known.logs s) all_before)

  still_newest : (logs : List LogFile) → IsNewest A H s logs → IsNewest A H s (lengthened (length bytes) logs)
  still_newest [] newest = newest
  still_newest (log ∷ more) newest = newest

  pub newest_placed : IsNewest A K s (logs_of A K s)
  newest_placed = newest_as A H K s (logs_of A K s) placed.here (subst (IsNewest A H s) (sym placed.logs) (by_use (is_unused A H s) refl))
    where
      by_use : (b : Bool) → is_unused A H s ≡ b → IsNewest A H s (logs_then A H s (length bytes))
      by_use true unused =
          rw unused (ap (λ n. file.Log s.group s.slice (version_in_use A H s) (record { session = A.session; attempt = n })) (sym (ap (λ b. cond b (attempts A H) (opened_at A H s)) unused)))
      by_use false used = rw used (still_newest (logs_of A H s) (known.newest s used))

views_placed : (A : Table) (H : History) (j : Job) (t target writes version at : ℕ) (bytes : List ℕ) (s : Target) → target_at A H t target ≡ Some s → version ≡ version_in_use A H s
    → Answers A H (Append t target writes bytes) (reply.Placed version at) → KnownViews A H → KnownViews A (entry j (Append t target writes bytes) (reply.Placed version at) ∷ H)
views_placed A H j t target writes version at bytes s is first answers known = record {
  logs = λ q. logs q (slice_cases s q);
  newest = λ q used. newest q used (slice_cases s q);
  pins = pins_grow A H j (Append t target writes bytes) (reply.Placed version at) answers known (grows_placed A H K s bytes placed known);
}
  where
    K : History
    K = entry j (Append t target writes bytes) (reply.Placed version at) ∷ H

    placed : IsPlacing A H (entry j (Append t target writes bytes) (reply.Placed version at) ∷ H) s bytes
    placed = placing A H j t target writes bytes s is version at first

    logs : (q : Target) → (s ≡ q) ⊎ (s ≡ q → ⊥) → AllByRecursion (IsKnownLog A (files_of A K) q) (logs_of A K q)
    logs q (inl same) = subst (λ (r : Target). AllByRecursion (IsKnownLog A (files_of A K) r) (logs_of A K r)) same (logs_placed A H K s bytes placed known)
    logs q (inr apart) = logs_grow A H K q (grows_placed A H K s bytes placed known) (placed.others.logs q apart) known

    newest : (q : Target) → is_unused A K q ≡ false → (s ≡ q) ⊎ (s ≡ q → ⊥) → IsNewest A K q (logs_of A K q)
    newest q used (inl same) = subst (λ (r : Target). IsNewest A K r (logs_of A K r)) same (newest_placed A H K s bytes placed known)
    newest q used (inr apart) =
        let was : is_unused A H q ≡ false = sym (placed.others.unused q apart) ∙ used in
        newest_as A H K q (logs_of A K q) (placed.others.in_use q apart was) (subst (IsNewest A H q) (sym (placed.others.logs q apart)) (known.newest q was))

views_failed : (A : Table) (H : History) (j : Job) (t target writes : ℕ) (bytes : List ℕ) (s : Target) → target_at A H t target ≡ Some s
    → Answers A H (Append t target writes bytes) reply.Fault → KnownViews A H → KnownViews A (entry j (Append t target writes bytes) reply.Fault ∷ H)
views_failed A H j t target writes bytes s is answers known = record {
  logs = λ q. logs_grow A H K q (λ name len old. old) refl known;
  newest = λ q used. newest q used (slice_cases s q);
  pins = pins_grow A H j (Append t target writes bytes) reply.Fault answers known (λ name len old. old);
}
  where
    K : History
    K = entry j (Append t target writes bytes) reply.Fault ∷ H

    failing : IsFailing A H (entry j (Append t target writes bytes) reply.Fault ∷ H) s
    failing = is_failing A H j t target writes bytes s is

    newest : (q : Target) → is_unused A K q ≡ false → (s ≡ q) ⊎ (s ≡ q → ⊥) → IsNewest A K q (logs_of A K q)
    newest q used (inl same) = let wrong : true ≡ false = sym failing.unused ∙ ap (is_unused A K) same ∙ used in absurd cc
    newest q used (inr apart) =
        let was : is_unused A H q ≡ false = sym (failing.others.unused q apart) ∙ used in
        newest_as A H K q (logs_of A K q) (failing.others.in_use q apart was) (known.newest q was)

-- ---- a run

pub record HasTarget (A : Table) (H : History) (t target : ℕ) : Type 0 where
  pub s : Target
  pub is : target_at A H t target ≡ Some s

pub target_of : (A : Table) (H : History) (j : Job) (t target writes : ℕ) (bytes : List ℕ) → May A H j (Append t target writes bytes) → HasTarget A H t target
target_of A H j t target writes bytes may = by_instant (instant_of A H t) refl may
  where
    by_instant : (o : Option Instant) → instant_of A H t ≡ o → IsSomeAnd o (λ i. (i.owner ≡ Some j) × ((i.state ≡ state.Inflight) × (target < length i.targets))) → HasTarget A H t target
    by_instant None is owns = absurd owns
    by_instant (Some i) is owns =
        let found = found_at i.targets target owns.1.1 in
        record { s = found.0; is = ap (λ (o : Option Instant). slice_get (option_map_or (λ (k : Instant). k.targets) o []) target) is ∙ found.1 }

pub first_of : (A : Table) (H : History) (version at_byte : ℕ) (s : Target) (o : Option Target) → o ≡ Some s
    → IfSome o (λ s. (version ≡ version_in_use A H s) × (at_byte ≡ known_length A H s version)) → version ≡ version_in_use A H s
first_of A H version at_byte s o is answers =
    let here : (version ≡ version_in_use A H s) × (at_byte ≡ known_length A H s version) =
    subst (λ (o : Option Target). IfSome o (λ s. (version ≡ version_in_use A H s) × (at_byte ≡ known_length A H s version))) is answers in
    here.0

views_appended : (A : Table) (H : History) (j : Job) (t target writes : ℕ) (bytes : List ℕ) (r : Reply) → May A H j (Append t target writes bytes) → Answers A H (Append t target writes bytes) r → KnownViews A H
    → KnownViews A (entry j (Append t target writes bytes) r ∷ H)
views_appended A H j t target writes bytes (reply.Placed version at) may answers known =
    let to = target_of A H j t target writes bytes may in
    views_placed A H j t target writes version at bytes to.s to.is (first_of A H version at to.s (target_at A H t target) to.is answers) answers known
views_appended A H j t target writes bytes reply.Fault may answers known =
    let to = target_of A H j t target writes bytes may in
    views_failed A H j t target writes bytes to.s to.is answers known
views_appended A H j t target writes bytes _ may answers known = absurd answers

views_then : (A : Table) (H : History) (j : Job) (s : Step) (r : Reply) → May A H j s → Answers A H s r → KnownViews A H → KnownViews A (entry j s r ∷ H)
views_then A H j (Append t target writes bytes) r may answers known = views_appended A H j t target writes bytes r may answers known
views_then A H j Begin r may answers known = views_left A H j Begin r tt (λ q. (same_slice A H (entry j Begin r) q refl).logs) answers known
views_then A H j (Enter t slots) r may answers known = views_left A H j (Enter t slots) r tt (λ q. (same_slice A H (entry j (Enter t slots) r) q refl).logs) answers known
views_then A H j (Finish t checkpoint) r may answers known = views_left A H j (Finish t checkpoint) r tt (λ q. (same_slice A H (entry j (Finish t checkpoint) r) q refl).logs) answers known
views_then A H j (Pin at bases_only) r may answers known = views_left A H j (Pin at bases_only) r tt (λ q. (same_slice A H (entry j (Pin at bases_only) r) q refl).logs) answers known
views_then A H j (Unpin pin) r may answers known = views_left A H j (Unpin pin) r tt (λ q. (same_slice A H (entry j (Unpin pin) r) q refl).logs) answers known
views_then A H j (Read from number at len) r may answers known = views_left A H j (Read from number at len) r tt (λ q. (same_slice A H (entry j (Read from number at len) r) q refl).logs) answers known
views_then A H j (Abandon t) r may answers known = views_left A H j (Abandon t) r tt (λ q. (same_slice A H (entry j (Abandon t) r) q refl).logs) answers known

-- the views of pins are known after any legal history
pub views_known : (work : Work) (A : Table) (H : History) → IsKnownOnce A A.files → IsLegal work A H → KnownViews A H
views_known work A [] once legal = views_opened A once
views_known work A (e ∷ H) once legal = views_then A H e.job e.step e.reply legal.1.may legal.1.answers (views_known work A H once legal.0)
