-- What appends change in the tables.
use Rattle.std.proofs.Common.{◌≡◌, ◌<◌, ◌+◌, ◌==◌, ℕ, Bool, true, false, cond, List, [], ◌∷◌, Option, Some, None, option_map, length, refl, sym, ap, ◌∙◌, subst, arith, add-zero, zero, suc}
use Rattle.std.specs.Option.{option_map_or}
use Rattle.std.specs.Prelude.{slice_get, IsSomeAnd, ◌&&◌}
use Rattle.std.proofs.lemmas.Bool.Decides.{nat_tests}
use Rattle.hudi_base.specs.declared.file_group.Target.{Target}
use Rattle.file_names.specs.declared.file_name.State.TheVariants as state
use Rattle.table_core.specs.ControlTables.{IsControl, IsSlice, IsInUse, targets_in, writes_at, writes_in, slice_at, slice_in}
use Rattle.table_core.specs.Keys.{is_number}
use Rattle.table_core.specs.KeyLaws.{target_is}
use Rattle.table_core.specs.SliceStates.{SliceState, TakesBlock, GivesUp, names_tried}
use Rattle.table_core.specs.declared.control.Control.{Control}
use Rattle.table_core.specs.declared.rooms.Rooms.{Rooms}
use Rattle.table_core.specs.declared.written.TargetNumber.{TargetNumber}
use Rattle.table_core.proofs.Taken.{slice_after, same_last, kept, kept_in}
use Rattle.table_history.proofs.Apart.{same_slice}
use Rattle.table_history.specs.Answers.{AppendAnswers, May}
use Rattle.table_history.specs.Histories.{History}
use Rattle.table_history.specs.Instants.{instant_of, with_block, failed}
use Rattle.table_history.specs.Logs.{target_at, goes_to, greatest_version, failures, version_in_use, known_length, is_unused, attempts, opened_at, logs_of, lengthened}
use Rattle.table_history.specs.Metadata.{writes_among}
use Rattle.table_history.specs.Tables.{Table, Instant}
use Rattle.table_history.specs.Targets.{is_target}
use Rattle.table_history.specs.Times.{greatest_time}
use Rattle.table_history.specs.declared.entry.Entry.{Entry}
use Rattle.table_history.specs.declared.job.Job.{Job}
use Rattle.table_history.specs.declared.log_file.LogFile.{LogFile}
use Rattle.table_history.specs.declared.reply.Reply.TheVariants.{Placed, Fault, Done}
use Rattle.table_history.specs.declared.step.Step.TheVariants.{Append}

-- ---- the version in use

in_use_along : (A : Table) (H : History) (s : Target) (v w : ℕ) (b c : Bool) (logs more : List LogFile) → w ≡ v → c ≡ b → more ≡ logs → IsInUse A H s v b logs → IsInUse A H s w c more
in_use_along A H s v w b c logs more first second third known =
    let P : ℕ → Type 0 = λ v. IsInUse A H s v c more in
    let Q : Bool → Type 0 = λ b. IsInUse A H s v b more in
    let R : List LogFile → Type 0 = λ logs. IsInUse A H s v b logs in
    subst P (sym first) (subst Q (sym second) (subst R (sym third) known))

-- after a block was placed
in_use_placed : (A : Table) (H K : History) (s : Target) (v block : ℕ) (first : LogFile) (unused : Bool) (logs : List LogFile)
    → first.length ≡ block → first.attempt ≡ attempts A H → unused ≡ is_unused A H s → known_length A K s v ≡ known_length A H s v + block
    → opened_at A K s ≡ cond (is_unused A H s) (attempts A H) (opened_at A H s)
    → IsInUse A H s v unused logs → IsInUse A K s v false (cond unused (first ∷ logs) (lengthened block logs))
in_use_placed A H K s v block first true logs long made used added opened known = (
  let sum : known_length A K s v ≡ block = omega (arith, added, known) in long ∙ sym sum,
  made ∙ ap (λ b. cond b (attempts A H) (opened_at A H s)) used ∙ sym opened,
)
in_use_placed A H K s v block first false [] long made used added opened known = absurd known
in_use_placed A H K s v block first false (log ∷ more) long made used added opened known = (
  ap (λ n. n + block) known.0 ∙ sym added,
  known.1 ∙ ap (λ b. cond b (attempts A H) (opened_at A H s)) used ∙ sym opened,
)

-- ---- the slice of an append

same_first : (v w session session' attempt attempt' block : ℕ) → v ≡ w → session ≡ session' → attempt ≡ attempt'
    → (let made : LogFile = record { version = v; session = session; attempt = attempt; length = block } in made) ≡ record { version = w; session = session'; attempt = attempt'; length = block }
same_first v w session session' attempt attempt' block first second third =
    λ i. record { version = first i; session = second i; attempt = third i; length = block }

abbrev placed_entry : Job → ℕ → ℕ → ℕ → List ℕ → ℕ → ℕ → Entry
placed_entry job t target writes bytes version at = record { job = job; step = Append t target writes bytes; reply = Placed version at }

abbrev failed_entry : Job → ℕ → ℕ → ℕ → List ℕ → Entry
failed_entry job t target writes bytes = record { job = job; step = Append t target writes bytes; reply = Fault }

added_here : (b : Bool) (u v block : ℕ) → b ≡ true → u ≡ v → cond (b && (u == v)) block 0 ≡ block
added_here b u v block here same = rw here (grind (arith, nat_tests))

added_elsewhere : (b : Bool) (u v block : ℕ) → b ≡ true → u < v → cond (b && (u == v)) block 0 ≡ 0
added_elsewhere b u v block here less = rw here (grind (arith, nat_tests))

pub slice_placed : (A : Table) (H : History) (control : Control) (job : Job) (t target writes : ℕ) (bytes : List ℕ) (version at : ℕ) (s : Target) (old new : SliceState)
    → IsControl A H control → goes_to A H t target s ≡ true → version ≡ version_in_use A H s → IsSlice A H s old
    → TakesBlock old new control.session control.attempts (length bytes) → IsSlice A (placed_entry job t target writes bytes version at ∷ H) s new
slice_placed A H control job t target writes bytes version at s old new is here numbered was now =
    let K = placed_entry job t target writes bytes version at ∷ H in
    let named : old.version ≡ version = was.version ∙ sym numbered in
    let grown : (v : ℕ) → v ≡ version → known_length A K s v ≡ known_length A H s v + length bytes =
    λ v same. ap (λ n. known_length A H s v + n) (added_here (goes_to A H t target s) version v (length bytes) here (sym same)) in
    record {
      logs = now.logs
          ∙ ap (λ (first : LogFile). cond old.unused (first ∷ old.logs) (lengthened (length bytes) old.logs)) (same_first old.version version control.session A.session control.attempts (attempts A H) (length bytes) named is.session is.attempts)
          ∙ ap (λ logs. cond old.unused (record { version = version; session = A.session; attempt = attempts A H; length = length bytes } ∷ logs) (lengthened (length bytes) logs)) was.logs
          ∙ ap (λ b. cond b (record { version = version; session = A.session; attempt = attempts A H; length = length bytes } ∷ logs_of A H s) (lengthened (length bytes) (logs_of A H s))) was.unused
          ∙ ap (λ b. cond b (cond (is_unused A H s) (record { version = version; session = A.session; attempt = attempts A H; length = length bytes } ∷ logs_of A H s) (lengthened (length bytes) (logs_of A H s))) (logs_of A H s)) (sym here);
      version = now.version ∙ was.version ∙ ap (λ n. 1 + greatest_version A.files s + n) (sym (add-zero (failures A H s)));
      unused = now.unused ∙ ap (λ b. cond b false (is_unused A H s)) (sym here);
      in_use = in_use_along A K s old.version new.version false new.unused _ new.logs now.version now.unused now.logs
          (in_use_placed A H K s old.version (length bytes) (record { version = old.version; session = control.session; attempt = control.attempts; length = length bytes }) old.unused old.logs
          refl is.attempts was.unused (grown old.version named) refl was.in_use);
      later = λ v above.
          let more : old.version < v = rw now.version at above in
          let far : version < v = rw named at more in
          ap (λ n. known_length A H s v + n) (added_elsewhere (goes_to A H t target s) version v (length bytes) here far)
          ∙ add-zero (known_length A H s v) ∙ was.later v more;
    }

pub slice_failed : (A : Table) (H : History) (job : Job) (t target writes : ℕ) (bytes : List ℕ) (s : Target) (old new : SliceState)
    → goes_to A H t target s ≡ true → IsSlice A H s old → GivesUp old new → IsSlice A (failed_entry job t target writes bytes ∷ H) s new
slice_failed A H job t target writes bytes s old new here was now =
    let K = failed_entry job t target writes bytes ∷ H in
    record {
      logs = now.logs ∙ was.logs;
      version = now.version ∙ ap (λ n. n + 1) was.version ∙ next (failures A H s) ∙ ap (λ b. 1 + greatest_version A.files s + (failures A H s + cond b 1 0)) (sym here);
      unused = now.unused ∙ ap (λ b. cond b true (is_unused A H s)) (sym here);
      in_use = in_use_along A K s (old.version + 1) new.version true new.unused new.logs new.logs now.version now.unused refl
          (add-zero (known_length A H s (old.version + 1)) ∙ was.later (old.version + 1) (omega arith));
      later = λ v above.
          let more : old.version < v = (let next : old.version + 1 < v = rw now.version at above in omega (arith, next)) in
          add-zero (known_length A H s v) ∙ was.later v more;
    }
  where
    next : (n : ℕ) → 1 + greatest_version A.files s + n + 1 ≡ 1 + greatest_version A.files s + (n + 1)
    next n = omega arith

-- ---- the tables

-- the slice of an append, and the others
one_slice : (A : Table) (H K : History) (t target : ℕ) (s q : Target) (slices slices' : Rooms Target SliceState) → target_at A H t target ≡ Some s
    → ((q : Target) → goes_to A H t target q ≡ true → s ≡ q → IsSlice A K q (slice_at slices' q))
    → ((q : Target) → goes_to A H t target q ≡ false → IsSlice A K q (slice_at slices q))
    → ((q : Target) → is_target s q ≡ false → slice_at slices' q ≡ slice_at slices q)
    → IsSlice A K q (slice_at slices' q)
one_slice A H K t target s q slices slices' at touched apart others = by (is_target s q) refl
  where
    goes : (b : Bool) → is_target s q ≡ b → goes_to A H t target q ≡ b
    goes b test = ap (λ o. option_map_or (λ target. is_target target q) o false) at ∙ test

    by : (b : Bool) → is_target s q ≡ b → IsSlice A K q (slice_at slices' q)
    by true test = touched q (goes true test) (target_is s q test)
    by false test = let P : SliceState → Type 0 = λ slice. IsSlice A K q slice in subst P (sym (others q test)) (apart q (goes false test))

tried_names : (A : Table) (H : History) (t target n m : ℕ) (s : Target) (slice : SliceState) → target_at A H t target ≡ Some s → IsSlice A H s slice → n ≡ attempts A H → m ≡ names_tried slice
    → n + m ≡ attempts A H + option_map_or (λ s. cond (is_unused A H s) 1 0) (target_at A H t target) 0
tried_names A H t target n m s slice at is made tried =
    ap (λ n. n + m) made
    ∙ ap (λ m. attempts A H + m) (tried ∙ ap (λ b. cond b 1 0) is.unused ∙ ap (λ o. option_map_or (λ s. cond (is_unused A H s) 1 0) o 0) (sym at))

at_control : (A : Table) (H : History) (control : Control) (t target : ℕ) (s : Target) → IsControl A H control → slice_get (targets_in control t) target ≡ Some s → target_at A H t target ≡ Some s
at_control A H control t target s is at = ap (λ targets. slice_get targets target) (sym (is.targets t)) ∙ at

numbered : (A : Table) (H : History) (t target version at : ℕ) (s : Target) → target_at A H t target ≡ Some s → AppendAnswers A H t target (Placed version at) → version ≡ version_in_use A H s
numbered A H t target version at s here answers = let found = rw here at answers in found.0

-- ---- the writes of a target

abbrev counted : Option Instant → ℕ → ℕ
counted o k = option_map_or (λ i. writes_among k i.blocks) o 0

-- the writes of a block were added at its target
abbrev pub AddsWrites : Control → ℕ → ℕ → ℕ → Rooms TargetNumber ℕ → Type 0
AddsWrites control t target writes counts =
    (q : TargetNumber) → writes_at counts q ≡ cond (is_number (record { t = t; number = target }) q) (writes_in control t target + writes) (writes_at control.writes q)

record HasInstant (o : Option Instant) : Type 0 where
  i : Instant
  is : o ≡ Some i

-- an instant with a target is there
has_instant : (o : Option Instant) (target : ℕ) (s : Target) → slice_get (option_map_or (λ i. i.targets) o []) target ≡ Some s → HasInstant o
has_instant None target s at = absurd (none_at target at)
  where
    none_at : (n : ℕ) → slice_get [] n ≡ Some s → ⊥
    none_at n is = cc
has_instant (Some i) target s at = record { i = i; is = refl }

with_writes : (i : Instant) (o : Option Instant) (target writes k : ℕ) (bytes : List ℕ) (c : Bool) → o ≡ Some i → (target == k) ≡ c
    → counted (option_map (with_block target writes bytes) o) k ≡ cond c (counted o k + writes) (counted o k)
with_writes i None target writes k bytes c is test = absurd cc
with_writes i (Some j) target writes k bytes true is test = ap (λ b. writes_among k j.blocks + cond b writes 0) test
with_writes i (Some j) target writes k bytes false is test = ap (λ b. writes_among k j.blocks + cond b writes 0) test ∙ add-zero (writes_among k j.blocks)

writes_placed : (A : Table) (H : History) (control : Control) (t target writes : ℕ) (bytes : List ℕ) (counts : Rooms TargetNumber ℕ) (i : Instant) → IsControl A H control
    → instant_of A H t ≡ Some i → AddsWrites control t target writes counts → (q k : ℕ)
    → writes_in (record control { writes = counts }) q k ≡ counted (cond (t == q) (option_map (with_block target writes bytes) (instant_of A H q)) (instant_of A H q)) k
writes_placed A H control t target writes bytes counts i is some adds q k = by (t == q) refl (target == k) refl
  where
    sum : ℕ
    sum = writes_in control t target + writes

    f : Instant → Instant
    f = with_block target writes bytes

    after : Bool → ℕ
    after b = counted (cond b (option_map f (instant_of A H q)) (instant_of A H q)) k

    added : (b c : Bool) → (t == q) ≡ b → (target == k) ≡ c → writes_in (record control { writes = counts }) q k ≡ cond (b && c) sum (writes_in control q k)
    added b c one two = adds (record { t = q; number = k }) ∙ ap (λ b. cond (b && (target == k)) sum (writes_in control q k)) one ∙ ap (λ c. cond (b && c) sum (writes_in control q k)) two

    equal : (m n : ℕ) → (m == n) ≡ true → m ≡ n
    equal m n h = grind (arith, nat_tests)

    here : t ≡ q → instant_of A H q ≡ Some i
    here same = ap (instant_of A H) (sym same) ∙ some

    by : (b : Bool) → (t == q) ≡ b → (c : Bool) → (target == k) ≡ c → writes_in (record control { writes = counts }) q k ≡ after (t == q)
    by false one c two = added false c one two ∙ is.writes q k ∙ sym (ap after one)
    by true one true two =
        added true true one two ∙ ap (λ n. n + writes) (is.writes t target ∙ ap (λ q. counted (instant_of A H q) target) (equal t q one) ∙ ap (counted (instant_of A H q)) (equal target k two))
        ∙ sym (with_writes i (instant_of A H q) target writes k bytes true (here (equal t q one)) two) ∙ sym (ap after one)
    by true one false two =
        added true false one two ∙ is.writes q k
        ∙ sym (with_writes i (instant_of A H q) target writes k bytes false (here (equal t q one)) two) ∙ sym (ap after one)

-- an append has a target
pub no_target : (A : Table) (H : History) (control : Control) (job : Job) (t target writes : ℕ) (bytes : List ℕ) → IsControl A H control → May A H job (Append t target writes bytes)
    → slice_get (targets_in control t) target ≡ None → ⊥
no_target A H control job t target writes bytes is may none =
    missing (instant_of A H t) may (ap (λ targets. slice_get targets target) (sym (is.targets t)) ∙ none)
  where
    beyond : (xs : List Target) (n : ℕ) → n < length xs → slice_get xs n ≡ None → ⊥
    beyond [] n within none = omega (arith, within)
    beyond (x ∷ xs) zero within none = cc
    beyond (x ∷ xs) (suc n) within none = beyond xs n (omega (arith, within)) none

    missing : (o : Option Instant) → IsSomeAnd o (λ i. (i.owner ≡ Some job) × ((i.state ≡ state.Inflight) × (target < length i.targets)))
        → slice_get (option_map_or (λ i. i.targets) o []) target ≡ None → ⊥
    missing None may none = may
    missing (Some i) may none = beyond i.targets target may.1.1 none

pub placed_taken : (A : Table) (H : History) (control : Control) (job : Job) (t target writes : ℕ) (bytes : List ℕ) (version at tried : ℕ) (s : Target) (slices : Rooms Target SliceState) (counts : Rooms TargetNumber ℕ)
    → IsControl A H control → slice_get (targets_in control t) target ≡ Some s → AppendAnswers A H t target (Placed version at)
    → TakesBlock (slice_in control s) (slice_at slices s) control.session control.attempts (length bytes)
    → ((q : Target) → is_target s q ≡ false → slice_at slices q ≡ slice_in control q) → tried ≡ names_tried (slice_in control s)
    → AddsWrites control t target writes counts
    → IsControl A (placed_entry job t target writes bytes version at ∷ H) (record control { writes = counts; slices = slices; attempts = control.attempts + tried })
placed_taken A H control job t target writes bytes version at tried s slices counts is here answers takes others names adds =
    let e = placed_entry job t target writes bytes version at in
    let place = at_control A H control t target s is here in
    let found = has_instant (instant_of A H t) target s place in
    let right = numbered A H t target version at s place answers in
    record {
      opened = is.opened;
      fit = is.fit;
      props = is.props;
      buckets = is.buckets;
      session = is.session;
      last = is.last ∙ sym (same_last (greatest_time A H) Done tt);
      completed = is.completed;
      targets = λ q. is.targets q ∙ sym (kept (with_block target writes bytes) (λ i. refl) (t == q) (instant_of A H q));
      writes = λ q k. writes_placed A H control t target writes bytes counts found.i is found.is adds q k;
      slices = λ q. one_slice A H (e ∷ H) t target s q control.slices slices place
          (λ q goes same. moved q same goes right takes)
          (λ q apart. slice_after A H (e ∷ H) q _ (same_slice A H e q apart) (is.slices q))
          others;
      attempts = tried_names A H t target control.attempts tried s (slice_in control s) place (is.slices s) is.attempts names;
      pins = is.pins;
      pins_made = is.pins_made;
    }
  where
    moved : (q : Target) → s ≡ q → goes_to A H t target q ≡ true → version ≡ version_in_use A H s
        → TakesBlock (slice_in control s) (slice_at slices s) control.session control.attempts (length bytes)
        → IsSlice A (placed_entry job t target writes bytes version at ∷ H) q (slice_at slices q)
    moved q same goes right takes =
        let P : Target → Type 0 = λ q. goes_to A H t target q ≡ true → IsSlice A (placed_entry job t target writes bytes version at ∷ H) q (slice_at slices q) in
        subst P same (λ goes. slice_placed A H control job t target writes bytes version at s (slice_in control s) (slice_at slices s) is goes right (is.slices s) takes) goes

pub failed_taken : (A : Table) (H : History) (control : Control) (job : Job) (t target writes : ℕ) (bytes : List ℕ) (tried : ℕ) (s : Target) (slices : Rooms Target SliceState)
    → IsControl A H control → slice_get (targets_in control t) target ≡ Some s → GivesUp (slice_in control s) (slice_at slices s)
    → ((q : Target) → is_target s q ≡ false → slice_at slices q ≡ slice_in control q) → tried ≡ names_tried (slice_in control s)
    → IsControl A (failed_entry job t target writes bytes ∷ H) (record control { slices = slices; attempts = control.attempts + tried })
failed_taken A H control job t target writes bytes tried s slices is here gives others names =
    let e = failed_entry job t target writes bytes in
    let place = at_control A H control t target s is here in
    record {
      opened = is.opened;
      fit = is.fit;
      props = is.props;
      buckets = is.buckets;
      session = is.session;
      last = is.last ∙ sym (same_last (greatest_time A H) Done tt);
      completed = is.completed;
      targets = λ q. is.targets q ∙ sym (kept failed (λ i. refl) (t == q) (instant_of A H q));
      writes = λ q k. is.writes q k ∙ sym (kept_in (λ i. writes_among k i.blocks) 0 failed (λ i. refl) (t == q) (instant_of A H q));
      slices = λ q. one_slice A H (e ∷ H) t target s q control.slices slices place
          (λ q goes same. moved q same goes gives)
          (λ q apart. slice_after A H (e ∷ H) q _ (same_slice A H e q apart) (is.slices q))
          others;
      attempts = tried_names A H t target control.attempts tried s (slice_in control s) place (is.slices s) is.attempts names;
      pins = is.pins;
      pins_made = is.pins_made;
    }
  where
    moved : (q : Target) → s ≡ q → goes_to A H t target q ≡ true → GivesUp (slice_in control s) (slice_at slices s)
        → IsSlice A (failed_entry job t target writes bytes ∷ H) q (slice_at slices q)
    moved q same goes gives =
        let P : Target → Type 0 = λ q. goes_to A H t target q ≡ true → IsSlice A (failed_entry job t target writes bytes ∷ H) q (slice_at slices q) in
        subst P same (λ goes. slice_failed A H job t target writes bytes s (slice_in control s) (slice_at slices s) goes (is.slices s) gives) goes
