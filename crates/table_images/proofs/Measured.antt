-- The log in use of a slice is as long as its known length.
use Rattle.std.proofs.Common.{◌≡◌, ◌⊎◌, inl, inr, ◌<◌, ◌+◌, ◌==◌, ℕ, Bool, true, false, cond, List, [], ◌∷◌, ◌++◌, length, Option, Some, IfSome, unwrap_or, length-append, refl, sym, ap, ◌∙◌, subst, arith}
use Rattle.std.proofs.lemmas.Bool.Decides.{nat_tests}
use Rattle.hudi_base.specs.Files.{FileMap, content}
use Rattle.hudi_base.specs.declared.file_group.Target.{Target}
use Rattle.file_names.specs.FileName.{name_of, IsNamed}
use Rattle.table_history.specs.Answers.{Answers, May}
use Rattle.table_history.specs.Histories.{History}
use Rattle.table_history.specs.JobLaw.{Work}
use Rattle.table_history.specs.Logs.{bytes_in, files_of, is_unused, known_length, target_at, version_in_use}
use Rattle.table_history.specs.Tables.{Table, KnownFile}
use Rattle.table_history.specs.declared.job.Job.{Job}
use Rattle.table_history.specs.declared.reply.Reply.{Reply}
use Rattle.table_history.specs.declared.reply.Reply.TheVariants as reply
use Rattle.table_history.specs.declared.step.Step.{Step}
use Rattle.table_history.specs.declared.step.Step.TheVariants.{Begin, Enter, Append, Finish, Pin, Unpin, Read, Abandon}
use Rattle.table_history.proofs.Apart.{same_slice}
use Rattle.table_images.specs.Blocks.{HoldsBlocks}
use Rattle.table_images.specs.Kept.{Kept}
use Rattle.table_images.specs.Runs.{IsRun, NamesFit, Run, files_after, history_of, log_in_use}
use Rattle.table_images.specs.Stands.{IsJustOpened, StandsFor}
use Rattle.table_images.proofs.AppendFacts.{IsFailing, IsPlacing, is_failing, placing}
use Rattle.table_images.proofs.Appended.{name_in_use, slice_cases}
use Rattle.table_images.proofs.OpenLogCells.{slices_apart}
use Rattle.table_images.proofs.Opened.{kept_after}
use Rattle.table_images.proofs.SameLogs.{IsNoAppend, SameLogs, entry, same_logs}
use Rattle.table_images.proofs.ViewSteps.{first_of, target_of}
use Rattle.table_images.proofs.WhereTo.{Goes, goes, known_apart, known_here}

-- the known lengths of a slice: none past the version in use, and there that of the known bytes
pub record IsMeasured (A : Table) (H : History) (s : Target) : Type 0 where
  pub none : (v : ℕ) → version_in_use A H s < v → known_length A H s v ≡ 0
  pub fresh : is_unused A H s ≡ true → known_length A H s (version_in_use A H s) ≡ 0
  pub used : is_unused A H s ≡ false → known_length A H s (version_in_use A H s) ≡ length (bytes_in (files_of A H) (name_in_use A H s))

measured_first : (A : Table) (s : Target) → IsMeasured A [] s
measured_first A s = record { none = λ v above. refl; fresh = λ unused. refl; used = λ used. let wrong : true ≡ false = used in absurd cc }

-- the slice is as it was
measured_as : (A : Table) (H K : History) (s : Target) → version_in_use A K s ≡ version_in_use A H s → ((v : ℕ) → known_length A K s v ≡ known_length A H s v) → is_unused A K s ≡ is_unused A H s
    → (is_unused A H s ≡ false → length (bytes_in (files_of A K) (name_in_use A K s)) ≡ length (bytes_in (files_of A H) (name_in_use A H s))) → IsMeasured A H s → IsMeasured A K s
measured_as A H K s version same unused known measured = record {
  none = λ v above. same v ∙ measured.none v (subst (λ n. n < v) version above);
  fresh = λ is. same (version_in_use A K s) ∙ ap (known_length A H s) version ∙ measured.fresh (sym unused ∙ is);
  used = λ is. same (version_in_use A K s) ∙ ap (known_length A H s) version ∙ measured.used (sym unused ∙ is) ∙ sym (known (sym unused ∙ is));
}

measured_left : (A : Table) (H : History) (j : Job) (s : Step) (r : Reply) (q : Target) → IsNoAppend s → ((v : ℕ) → known_length A (entry j s r ∷ H) q v ≡ known_length A H q v) → IsMeasured A H q
    → IsMeasured A (entry j s r ∷ H) q
measured_left A H j s r q other lengths measured =
    measured_as A H (entry j s r ∷ H) q (same.version q) lengths (same.unused q)
    (λ used. ap (λ (fs : List KnownFile). length (bytes_in fs (name_in_use A (entry j s r ∷ H) q))) same.files ∙ ap (λ of. length (bytes_in (files_of A H) (name_of A.props.name of))) (same.in_use q)) measured
  where
    same : SameLogs A H (entry j s r ∷ H)
    same = same_logs A H j s r other

not_that : (n v : ℕ) → n < v → (n == v) ≡ false
not_that n v lt = grind (arith, nat_tests)

that : (n : ℕ) → (n == n) ≡ true
that n = grind (arith, nat_tests)

-- a block was placed
module _ (A : Table) (H K : History) (image : FileMap) (s : Target) (bytes : List ℕ) (kept : Kept A image H) (named : IsNamed (log_in_use A H s)) (placed : IsPlacing A H K s bytes)
    (measured : (q : Target) → IsMeasured A H q) where
  to : Goes A H image s
  to = goes A H image s kept named

  before : (b : Bool) → is_unused A H s ≡ b → known_length A H s (version_in_use A H s) ≡ length (bytes_in (files_of A H) (name_in_use A H s))
  before true unused =
      let empty : bytes_in (files_of A H) (name_in_use A H s) ≡ [] = to.known ∙ ap (λ (o : Option (List ℕ)). unwrap_or o []) (to.absent unused) in
      (measured s).fresh unused ∙ sym (ap length empty)
  before false used = (measured s).used used

  measured_here : IsMeasured A K s
  measured_here = record {
    none = λ v above.
        let lt : version_in_use A H s < v = subst (λ n. n < v) placed.same above in
        placed.longer v ∙ ap (λ b. known_length A H s v + cond b (length bytes) 0) (not_that (version_in_use A H s) v lt) ∙ sum_none (known_length A H s v) ((measured s).none v lt);
    fresh = λ unused. let wrong : true ≡ false = sym unused ∙ placed.used in absurd cc;
    used = λ used.
        ap (known_length A K s) placed.same ∙ placed.longer (version_in_use A H s) ∙ ap (λ b. known_length A H s (version_in_use A H s) + cond b (length bytes) 0) (that (version_in_use A H s))
        ∙ sum (before (is_unused A H s) refl)
        ∙ sym (ap (λ of. length (bytes_in (files_of A K) (name_of A.props.name of))) placed.here ∙ ap (λ (fs : List KnownFile). length (bytes_in fs (name_in_use A H s))) placed.files
        ∙ ap length (known_here (log_in_use A H s) (name_in_use A H s) bytes (files_of A H)));
  }
    where
      sum_none : (n : ℕ) → n ≡ 0 → n + 0 ≡ 0
      sum_none n e = omega (arith, e)

      sum : known_length A H s (version_in_use A H s) ≡ length (bytes_in (files_of A H) (name_in_use A H s))
          → known_length A H s (version_in_use A H s) + length bytes ≡ length (bytes_in (files_of A H) (name_in_use A H s) ++ bytes)
      sum e = omega (arith, e, length-append (bytes_in (files_of A H) (name_in_use A H s)) bytes)

  measured_other : (q : Target) → (s ≡ q → ⊥) → IsMeasured A K q
  measured_other q apart =
      measured_as A H K q (placed.others.version q apart) (placed.others.length q apart) (placed.others.unused q apart)
      (λ used. ap (λ of. length (bytes_in (files_of A K) (name_of A.props.name of))) (placed.others.in_use q apart used)
      ∙ ap (λ (fs : List KnownFile). length (bytes_in fs (name_in_use A H q))) placed.files
      ∙ ap length (known_apart (log_in_use A H s) (name_in_use A H s) bytes (files_of A H) (name_in_use A H q) (slices_apart A H K image s kept to bytes q apart used)))
      (measured q)

  measured_placed : (q : Target) → IsMeasured A K q
  measured_placed q = by_slice (slice_cases s q)
    where
      by_slice : (s ≡ q) ⊎ (s ≡ q → ⊥) → IsMeasured A K q
      by_slice (inl same) = subst (IsMeasured A K) same measured_here
      by_slice (inr apart) = measured_other q apart

-- the append failed
measured_failed : (A : Table) (H K : History) (s : Target) → IsFailing A H K s → ((q : Target) → IsMeasured A H q) → (q : Target) → IsMeasured A K q
measured_failed A H K s failing measured q = by_slice (slice_cases s q)
  where
    here : IsMeasured A K s
    here = record {
      none = λ v above. failing.length v ∙ (measured s).none v (let up = failing.rises in omega (arith, above, up));
      fresh = λ unused. failing.length (version_in_use A K s) ∙ (measured s).none (version_in_use A K s) failing.rises;
      used = λ used. let wrong : true ≡ false = sym failing.unused ∙ used in absurd cc;
    }

    by_slice : (s ≡ q) ⊎ (s ≡ q → ⊥) → IsMeasured A K q
    by_slice (inl same) = subst (IsMeasured A K) same here
    by_slice (inr apart) =
        measured_as A H K q (failing.others.version q apart) (failing.others.length q apart) (failing.others.unused q apart)
        (λ used. ap (λ (fs : List KnownFile). length (bytes_in fs (name_in_use A K q))) failing.files ∙ ap (λ of. length (bytes_in (files_of A H) (name_of A.props.name of))) (failing.others.in_use q apart used))
        (measured q)

named_of : (A : Table) (H : History) (s : Target) (o : Option Target) → o ≡ Some s → IfSome o (λ s. IsNamed (log_in_use A H s)) → IsNamed (log_in_use A H s)
named_of A H s o at names = subst (λ (o : Option Target). IfSome o (λ s. IsNamed (log_in_use A H s))) at names

measured_appended : (A : Table) (H : History) (image : FileMap) (j : Job) (t target writes : ℕ) (bytes : List ℕ) (r : Reply) → Kept A image H → May A H j (Append t target writes bytes)
    → Answers A H (Append t target writes bytes) r → NamesFit A H (Append t target writes bytes) r → ((q : Target) → IsMeasured A H q) → (q : Target) → IsMeasured A (entry j (Append t target writes bytes) r ∷ H) q
measured_appended A H image j t target writes bytes (reply.Placed version at) kept may answers names measured =
    let to = target_of A H j t target writes bytes may in
    measured_placed A H (entry j (Append t target writes bytes) (reply.Placed version at) ∷ H) image to.s bytes kept (named_of A H to.s (target_at A H t target) to.is names)
    (placing A H j t target writes bytes to.s to.is version at (first_of A H version at to.s (target_at A H t target) to.is answers)) measured
measured_appended A H image j t target writes bytes reply.Fault kept may answers names measured =
    let to = target_of A H j t target writes bytes may in
    measured_failed A H (entry j (Append t target writes bytes) reply.Fault ∷ H) to.s (is_failing A H j t target writes bytes to.s to.is) measured
measured_appended A H image j t target writes bytes _ kept may answers names measured = absurd answers

measured_then : (A : Table) (H : History) (image : FileMap) (j : Job) (s : Step) (r : Reply) → Kept A image H → May A H j s → Answers A H s r → NamesFit A H s r → ((q : Target) → IsMeasured A H q)
    → (q : Target) → IsMeasured A (entry j s r ∷ H) q
measured_then A H image j (Append t target writes bytes) r kept may answers names measured q = measured_appended A H image j t target writes bytes r kept may answers names measured q
measured_then A H image j Begin r kept may answers names measured q = measured_left A H j Begin r q tt (same_slice A H (entry j Begin r) q refl).length (measured q)
measured_then A H image j (Enter t slots) r kept may answers names measured q = measured_left A H j (Enter t slots) r q tt (same_slice A H (entry j (Enter t slots) r) q refl).length (measured q)
measured_then A H image j (Finish t checkpoint) r kept may answers names measured q =
    measured_left A H j (Finish t checkpoint) r q tt (same_slice A H (entry j (Finish t checkpoint) r) q refl).length (measured q)
measured_then A H image j (Pin at bases_only) r kept may answers names measured q = measured_left A H j (Pin at bases_only) r q tt (same_slice A H (entry j (Pin at bases_only) r) q refl).length (measured q)
measured_then A H image j (Unpin pin) r kept may answers names measured q = measured_left A H j (Unpin pin) r q tt (same_slice A H (entry j (Unpin pin) r) q refl).length (measured q)
measured_then A H image j (Read from number at len) r kept may answers names measured q =
    measured_left A H j (Read from number at len) r q tt (same_slice A H (entry j (Read from number at len) r) q refl).length (measured q)
measured_then A H image j (Abandon t) r kept may answers names measured q = measured_left A H j (Abandon t) r q tt (same_slice A H (entry j (Abandon t) r) q refl).length (measured q)

module _ (work : Work) (A : Table) (blocks : HoldsBlocks work.Holds) where
  measured_after : (files : FileMap) (R : Run) → StandsFor files A 0 → IsJustOpened files A → IsRun work A files R → (q : Target) → IsMeasured A (history_of R) q
  measured_after files [] stands opened run q = measured_first A q
  measured_after files (h ∷ R) stands opened run q =
      measured_then A (history_of R) (files_after files R) h.entry.job h.entry.step h.entry.reply (kept_after work A blocks files R stands opened run.0) run.1.comes.next.may run.1.comes.next.answers run.1.comes.names
      (measured_after files R stands opened run.0) q

  -- the file that the next append goes to ends where the known bytes do
  pub ends_at_known : (files : FileMap) (R : Run) → StandsFor files A 0 → IsJustOpened files A → IsRun work A files R → (s : Target) → IsNamed (log_in_use A (history_of R) s)
      → length (content (files_after files R) (name_in_use A (history_of R) s)) ≡ known_length A (history_of R) s (version_in_use A (history_of R) s)
  ends_at_known files R stands opened run s named = by_use (is_unused A (history_of R) s) refl
    where
      measured : IsMeasured A (history_of R) s
      measured = measured_after files R stands opened run s

      to : Goes A (history_of R) (files_after files R) s
      to = goes A (history_of R) (files_after files R) s (kept_after work A blocks files R stands opened run) named

      by_use : (b : Bool) → is_unused A (history_of R) s ≡ b → length (content (files_after files R) (name_in_use A (history_of R) s)) ≡ known_length A (history_of R) s (version_in_use A (history_of R) s)
      by_use true unused = ap (λ (o : Option (List ℕ)). length (unwrap_or o [])) (to.absent unused) ∙ sym (measured.fresh unused)
      by_use false used = ap length (sym to.known) ∙ sym (measured.used used)
