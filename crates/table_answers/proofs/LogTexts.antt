-- Each log that a table knows has the bytes of the blocks that were placed in it.
use Rattle.std.proofs.Common.{◌≡◌, ◌⊎◌, inl, inr, ◌<◌, ◌≤◌, ◌+◌, ℕ, Bool, true, false, cond, List, [], ◌∷◌, ◌++◌, length, Option, Some, None, IfSome, length-append, append-nil, refl, sym, ap, subst, ◌∙◌, arith}
use Rattle.std.specs.List.{AllByRecursion}
use Rattle.std.specs.Option.{option_map_or}
use Rattle.std.proofs.lemmas.Grind.{flat_map-append}
use Rattle.hudi_base.specs.declared.file_group.Target.{Target}
use Rattle.file_names.specs.FileName.{IsNamed, name_of}
use Rattle.file_names.specs.declared.file_name.FileName.{FileName}
use Rattle.file_names.specs.declared.file_name.FileName.TheVariants.{Log}
use Rattle.file_names.specs.declared.file_name.Token.{Token}
use Rattle.file_names.proofs.NameTexts.{name_of_injective}
use Rattle.table_history.specs.Answers.{Answers, May}
use Rattle.table_history.specs.Concerns.{SameSlice, touches}
use Rattle.table_history.specs.Histories.{History}
use Rattle.table_history.specs.JobLaw.{Work, IsLegal}
use Rattle.table_history.specs.Logs.{attempt_in_use, attempts, bytes_in, files_of, is_unused, lengthened, log_file, logs_of, opened_at, target_at, version_in_use, with_bytes}
use Rattle.table_history.specs.Tables.{KnownFile, Table, fresh}
use Rattle.table_history.specs.Targets.{is_target}
use Rattle.table_history.specs.declared.job.Job.{Job}
use Rattle.table_history.specs.declared.log_file.LogFile.{LogFile}
use Rattle.table_history.specs.declared.reply.Reply.{Reply}
use Rattle.table_history.specs.declared.reply.Reply.TheVariants as reply
use Rattle.table_history.specs.declared.step.Step.{Step}
use Rattle.table_history.specs.declared.step.Step.TheVariants.{Begin, Enter, Append, Finish, Pin, Unpin, Read, Abandon}
use Rattle.table_history.proofs.Apart.{same_slice}
use Rattle.table_images.specs.Runs.{NamesFit, log_in_use}
use Rattle.table_images.proofs.AppendFacts.{IsFailing, IsPlacing, is_failing, placing}
use Rattle.table_images.proofs.SameLogs.{IsNoAppend, entry, same_logs}
use Rattle.table_images.proofs.ViewSteps.{first_of}
use Rattle.table_images.proofs.Views.{file_of_log}
use Rattle.table_images.proofs.WhereTo.{itself_target, known_apart, known_here, one_target}
use Rattle.table_answers.specs.NamedRuns.{AllNamesFit}
use Rattle.table_answers.proofs.LiveSlices.{appending, goes_there, instants_plain}
use Rattle.table_answers.proofs.Placed.{PlacedBlock, bytes_of_placed, chain, chain_then, gone_to, placed_at, placed_by}
use Rattle.table_props.specs.PropsTexts.{Told as Properties}

-- ---- texts

pub record IsText (A : Table) (s : Target) (fs : List KnownFile) (log : LogFile) (bs : List PlacedBlock) : Type 0 where
  pub named : IsNamed (file_of_log s log)
  pub bytes : bytes_in fs (name_of A.props.name (file_of_log s log)) ≡ bytes_of_placed bs
  pub long : log.length ≡ length (bytes_of_placed bs)

abbrev pub AreTexts : Table → Target → List KnownFile → List LogFile → List (List PlacedBlock) → Type 0
AreTexts A s fs [] [] = Unit {0}
AreTexts A s fs (log ∷ logs) (bs ∷ rest) = IsText A s fs log bs × AreTexts A s fs logs rest
AreTexts A s fs _ _ = ⊥

-- versions below this one
abbrev AreBelow : ℕ → List LogFile → Type 0
AreBelow v logs = AllByRecursion (λ log. log.version < v) logs

abbrev HasNewest : Table → History → Target → List LogFile → Type 0
HasNewest A H s [] = ⊥
HasNewest A H s (log ∷ more) = (file_of_log s log ≡ log_in_use A H s) × AreBelow (version_in_use A H s) more

-- a version that nothing was placed in
abbrev IsAhead : Table → History → Target → ℕ → Type 0
IsAhead A H s v = (version_in_use A H s < v) ⊎ ((version_in_use A H s ≡ v) × (is_unused A H s ≡ true))

pub record IsChained (A : Table) (H : History) (s : Target) : Type 0 where
  pub texts : AreTexts A s (files_of A H) (logs_of A H s) (chain A H s)
  pub unused : is_unused A H s ≡ true → AreBelow (version_in_use A H s) (logs_of A H s)
  pub used : is_unused A H s ≡ false → HasNewest A H s (logs_of A H s)
  pub absent : (v a : ℕ) → IsNamed (log_file A s v a) → IsAhead A H s v → bytes_in (files_of A H) (name_of A.props.name (log_file A s v a)) ≡ []

-- ---- names apart

abbrev version_of : FileName → ℕ
version_of (Log group slice version token) = version
version_of _ = 0

not_itself : (a b : ℕ) → a ≡ b → (a < b) ⊎ (b < a) → ⊥
not_itself a b same (inl less) = omega (arith, same, less)
not_itself a b same (inr more) = omega (arith, same, more)

other_version : (A : Table) (f g : FileName) → IsNamed f → IsNamed g → (version_of f < version_of g) ⊎ (version_of g < version_of f) → name_of A.props.name f ≡ name_of A.props.name g → ⊥
other_version A f g hf hg apart same = not_itself (version_of f) (version_of g) (ap version_of (name_of_injective A.props.name f g hf hg same)) apart

-- more bytes in a log of a greater version
texts_apart : (A : Table) (s : Target) (fs : List KnownFile) (of : FileName) (bytes : List ℕ) (logs : List LogFile) (bss : List (List PlacedBlock)) → IsNamed of → AreBelow (version_of of) logs
    → AreTexts A s fs logs bss → AreTexts A s (with_bytes of (name_of A.props.name of) bytes fs) logs bss
texts_apart A s fs of bytes [] [] named below texts = tt
texts_apart A s fs of bytes [] (bs ∷ rest) named below texts = absurd texts
texts_apart A s fs of bytes (log ∷ logs) [] named below texts = absurd texts
texts_apart A s fs of bytes (log ∷ logs) (bs ∷ rest) named below texts = (
  record {
    named = texts.0.named;
    bytes = known_apart of (name_of A.props.name of) bytes fs (name_of A.props.name (file_of_log s log))
        (other_version A (file_of_log s log) of texts.0.named named (inl below.0)) ∙ texts.0.bytes;
    long = texts.0.long;
  },
  texts_apart A s fs of bytes logs rest named below.1 texts.1,
)

below_more : (v w : ℕ) (logs : List LogFile) → v ≤ w → AreBelow v logs → AreBelow w logs
below_more v w [] le below = tt
below_more v w (log ∷ logs) le below = (let b = below.0 in omega (arith, b, le), below_more v w logs le below.1)

-- ---- a block was placed

module _ (A : Table) (H K : History) (b : PlacedBlock) (s : Target) (named : IsNamed (log_in_use A H s)) (placed : IsPlacing A H K s b.bytes)
    (chain_is : chain A K s ≡ chain_then (b ∷ []) (is_unused A H s) (chain A H s)) (was : IsChained A H s) where
  abbrev v : ℕ
  v = version_in_use A H s

  abbrev of : FileName
  of = log_in_use A H s

  abbrev fs : List KnownFile
  fs = with_bytes of (name_of A.props.name of) b.bytes (files_of A H)

  abbrev made : LogFile
  made = record { version = v; session = A.session; attempt = attempts A H; length = length b.bytes }

  texts_as : (logs : List LogFile) (bss : List (List PlacedBlock)) → logs_of A K s ≡ logs → chain A K s ≡ bss → AreTexts A s fs logs bss → AreTexts A s (files_of A K) (logs_of A K s) (chain A K s)
  texts_as logs bss logs_are bss_are texts =
      subst (λ gs. AreTexts A s gs (logs_of A K s) (chain A K s)) (sym placed.files)
      (subst (λ ls. AreTexts A s fs ls (chain A K s)) (sym logs_are) (subst (λ cs. AreTexts A s fs logs cs) (sym bss_are) texts))

  absent_then : (w a : ℕ) → IsNamed (log_file A s w a) → IsAhead A K s w → bytes_in (files_of A K) (name_of A.props.name (log_file A s w a)) ≡ []
  absent_then w a is_named (inr this) = let wrong : true ≡ false = sym this.1 ∙ placed.used in absurd cc
  absent_then w a is_named (inl above) =
      let up : v < w = subst (λ n. n < w) placed.same above in
      ap (λ (gs : List KnownFile). bytes_in gs (name_of A.props.name (log_file A s w a))) placed.files
      ∙ known_apart of (name_of A.props.name of) b.bytes (files_of A H) (name_of A.props.name (log_file A s w a)) (other_version A (log_file A s w a) of is_named named (inr up))
      ∙ was.absent w a is_named (inl up)

  chained : (logs : List LogFile) (bss : List (List PlacedBlock)) → logs_of A K s ≡ logs → chain A K s ≡ bss → AreTexts A s fs logs bss → HasNewest A K s logs → IsChained A K s
  chained logs bss logs_are bss_are texts newest = record {
    texts = texts_as logs bss logs_are bss_are texts;
    unused = λ unused. let wrong : true ≡ false = sym unused ∙ placed.used in absurd cc;
    used = λ used. subst (HasNewest A K s) (sym logs_are) newest;
    absent = absent_then;
  }

  new_log : is_unused A H s ≡ true → IsChained A K s
  new_log unused =
      let attempt : attempts A H ≡ attempt_in_use A H s = ap (λ c. cond c (attempts A H) (opened_at A H s)) (sym unused) in
      let file : file_of_log s made ≡ of = ap (log_file A s v) attempt in
      let below : AreBelow v (logs_of A H s) = was.unused unused in
      let empty : bytes_in (files_of A H) (name_of A.props.name of) ≡ [] = was.absent v (attempt_in_use A H s) named (inr (refl, unused)) in
      let one : bytes_of_placed (b ∷ []) ≡ b.bytes = append-nil b.bytes in
      chained (made ∷ logs_of A H s) ((b ∷ []) ∷ chain A H s)
      (placed.logs ∙ ap (λ c. cond c (made ∷ logs_of A H s) (lengthened (length b.bytes) (logs_of A H s))) unused)
      (chain_is ∙ ap (λ c. chain_then (b ∷ []) c (chain A H s)) unused) (
        record {
          named = subst IsNamed (sym file) named;
          bytes = ap (λ f. bytes_in fs (name_of A.props.name f)) file ∙ known_here of (name_of A.props.name of) b.bytes (files_of A H) ∙ ap (λ old. old ++ b.bytes) empty ∙ sym one;
          long = ap length (sym one);
        },
        texts_apart A s (files_of A H) of b.bytes (logs_of A H s) (chain A H s) named below was.texts,
      )
      (file ∙ sym placed.here, subst (λ n. AreBelow n (logs_of A H s)) (sym placed.same) below)

  longer : (logs : List LogFile) (bss : List (List PlacedBlock)) → is_unused A H s ≡ false → logs_of A H s ≡ logs → chain A H s ≡ bss → HasNewest A H s logs → AreTexts A s (files_of A H) logs bss
      → IsChained A K s
  longer [] bss used logs_are bss_are newest texts = absurd newest
  longer (log ∷ logs) [] used logs_are bss_are newest texts = absurd texts
  longer (log ∷ logs) (bs ∷ rest) used logs_are bss_are newest texts =
      let more : bytes_of_placed (bs ++ (b ∷ [])) ≡ bytes_of_placed bs ++ b.bytes =
      flat_map-append (λ (x : PlacedBlock). x.bytes) bs (b ∷ []) ∙ ap (λ last. bytes_of_placed bs ++ last) (append-nil b.bytes) in
      let old = texts.0.long in
      chained (record log { length = log.length + length b.bytes } ∷ logs) ((bs ++ (b ∷ [])) ∷ rest)
      (placed.logs ∙ ap (λ c. cond c (made ∷ logs_of A H s) (lengthened (length b.bytes) (logs_of A H s))) used ∙ ap (lengthened (length b.bytes)) logs_are)
      (chain_is ∙ ap (λ c. chain_then (b ∷ []) c (chain A H s)) used ∙ ap (chain_then (b ∷ []) false) bss_are) (
        record {
          named = texts.0.named;
          bytes = ap (λ f. bytes_in fs (name_of A.props.name f)) newest.0 ∙ known_here of (name_of A.props.name of) b.bytes (files_of A H)
              ∙ ap (λ f. bytes_in (files_of A H) (name_of A.props.name f) ++ b.bytes) (sym newest.0) ∙ ap (λ old_bytes. old_bytes ++ b.bytes) texts.0.bytes ∙ sym more;
          long = let long = ap length more in omega (arith, long, old, length-append (bytes_of_placed bs) b.bytes);
        },
        texts_apart A s (files_of A H) of b.bytes logs rest named newest.1 texts.1,
      )
      (newest.0 ∙ sym placed.here, subst (λ n. AreBelow n logs) (sym placed.same) newest.1)

  pub chained_placed : IsChained A K s
  chained_placed = by (is_unused A H s) refl
    where
      by : (c : Bool) → is_unused A H s ≡ c → IsChained A K s
      by true unused = new_log unused
      by false used = longer (logs_of A H s) (chain A H s) used refl refl (was.used used) was.texts

-- ---- an append failed

below_then : (A : Table) (H : History) (s : Target) (w : ℕ) (logs : List LogFile) → version_in_use A H s < w → HasNewest A H s logs → AreBelow w logs
below_then A H s w [] up newest = absurd newest
below_then A H s w (log ∷ logs) up newest =
    let first : log.version ≡ version_in_use A H s = ap version_of newest.0 in
    (omega (arith, first, up), below_more (version_in_use A H s) w logs (omega (arith, up)) newest.1)

chained_failed : (A : Table) (H K : History) (s : Target) → IsFailing A H K s → chain A K s ≡ chain A H s → IsChained A H s → IsChained A K s
chained_failed A H K s failing same was = record {
  texts = subst (λ gs. AreTexts A s gs (logs_of A K s) (chain A K s)) (sym failing.files)
      (subst (λ ls. AreTexts A s (files_of A H) ls (chain A K s)) (sym failing.logs) (subst (AreTexts A s (files_of A H) (logs_of A H s)) (sym same) was.texts));
  unused = λ unused. subst (AreBelow (version_in_use A K s)) (sym failing.logs) (by (is_unused A H s) refl);
  used = λ used. let wrong : true ≡ false = sym failing.unused ∙ used in absurd cc;
  absent = λ v a named ahead. ap (λ (gs : List KnownFile). bytes_in gs (name_of A.props.name (log_file A s v a))) failing.files ∙ was.absent v a named (inl (up v ahead));
}
  where
    by : (c : Bool) → is_unused A H s ≡ c → AreBelow (version_in_use A K s) (logs_of A H s)
    by true unused = below_more (version_in_use A H s) (version_in_use A K s) (logs_of A H s) (let rises = failing.rises in omega (arith, rises)) (was.unused unused)
    by false used = below_then A H s (version_in_use A K s) (logs_of A H s) failing.rises (was.used used)

    up : (v : ℕ) → IsAhead A K s v → version_in_use A H s < v
    up v (inl above) = let rises = failing.rises in omega (arith, rises, above)
    up v (inr this) = let rises = failing.rises in let at = this.0 in omega (arith, rises, at)

-- ---- an entry that leaves the slice

newest_as : (A : Table) (H K : History) (s : Target) (logs : List LogFile) → log_in_use A K s ≡ log_in_use A H s → version_in_use A K s ≡ version_in_use A H s → HasNewest A H s logs → HasNewest A K s logs
newest_as A H K s [] file version newest = newest
newest_as A H K s (log ∷ logs) file version newest = (newest.0 ∙ sym file, subst (λ n. AreBelow n logs) (sym version) newest.1)

-- the bytes of its logs are the same
abbrev KeepsBytes : Table → Target → List KnownFile → List KnownFile → Type 0
KeepsBytes A s fs gs = (version : ℕ) (token : Token) → IsNamed (Log s.group s.slice version token)
    → bytes_in gs (name_of A.props.name (Log s.group s.slice version token)) ≡ bytes_in fs (name_of A.props.name (Log s.group s.slice version token))

texts_kept : (A : Table) (s : Target) (fs gs : List KnownFile) (logs : List LogFile) (bss : List (List PlacedBlock)) → KeepsBytes A s fs gs → AreTexts A s fs logs bss → AreTexts A s gs logs bss
texts_kept A s fs gs [] [] keeps texts = tt
texts_kept A s fs gs [] (bs ∷ rest) keeps texts = absurd texts
texts_kept A s fs gs (log ∷ logs) [] keeps texts = absurd texts
texts_kept A s fs gs (log ∷ logs) (bs ∷ rest) keeps texts = (
  record {
    named = texts.0.named;
    bytes = keeps log.version (record { session = log.session; attempt = log.attempt }) texts.0.named ∙ texts.0.bytes;
    long = texts.0.long;
  },
  texts_kept A s fs gs logs rest keeps texts.1,
)

chained_left : (A : Table) (H K : History) (s : Target) → SameSlice A H K s → (is_unused A H s ≡ false → log_in_use A K s ≡ log_in_use A H s) → KeepsBytes A s (files_of A H) (files_of A K)
    → chain A K s ≡ chain A H s → IsChained A H s → IsChained A K s
chained_left A H K s slice in_use keeps same was = record {
  texts = subst (λ ls. AreTexts A s (files_of A K) ls (chain A K s)) (sym slice.logs)
      (subst (AreTexts A s (files_of A K) (logs_of A H s)) (sym same) (texts_kept A s (files_of A H) (files_of A K) (logs_of A H s) (chain A H s) keeps was.texts));
  unused = λ unused. subst (λ n. AreBelow n (logs_of A K s)) (sym slice.version)
      (subst (AreBelow (version_in_use A H s)) (sym slice.logs) (was.unused (sym slice.unused ∙ unused)));
  used = λ used. let before = sym slice.unused ∙ used in
      newest_as A H K s (logs_of A K s) (in_use before) slice.version (subst (HasNewest A H s) (sym slice.logs) (was.used before));
  absent = λ v a named ahead. keeps v (record { session = A.session; attempt = a }) named ∙ was.absent v a named (as_before v ahead);
}
  where
    as_before : (v : ℕ) → IsAhead A K s v → IsAhead A H s v
    as_before v (inl above) = inl (subst (λ n. n < v) slice.version above)
    as_before v (inr this) = inr (sym slice.version ∙ this.0, sym slice.unused ∙ this.1)

same_bytes : (A : Table) (s : Target) (fs gs : List KnownFile) → gs ≡ fs → KeepsBytes A s fs gs
same_bytes A s fs gs same version token named = ap (λ (hs : List KnownFile). bytes_in hs (name_of A.props.name (Log s.group s.slice version token))) same

chained_quiet : (A : Table) (H : History) (j : Job) (st : Step) (r : Reply) (s : Target) → IsNoAppend st → touches A H st s ≡ false → placed_by A H st r ≡ []
    → IsChained A H s → IsChained A (entry j st r ∷ H) s
chained_quiet A H j st r s other apart none was =
    let quiet = same_logs A H j st r other in
    chained_left A H (entry j st r ∷ H) s (same_slice A H (entry j st r) s apart) (λ used. quiet.in_use s) (same_bytes A s (files_of A H) (files_of A (entry j st r ∷ H)) quiet.files)
    (ap (λ bs. chain_then (gone_to s bs) (is_unused A H s) (chain A H s)) none) was

-- ---- a block went to another slice

log_of : FileName → Option Target
log_of (Log group slice version token) = Some (record { group = group; slice = slice })
log_of _ = None

other_slice : (A : Table) (r s : Target) (version v a : ℕ) (token : Token) → (r ≡ s → ⊥) → IsNamed (Log s.group s.slice version token) → IsNamed (log_file A r v a)
    → name_of A.props.name (Log s.group s.slice version token) ≡ name_of A.props.name (log_file A r v a) → ⊥
unfolding log_of
other_slice A r s version v a token apart named is_named same =
    apart (sym (one_some (ap log_of (name_of_injective A.props.name (Log s.group s.slice version token) (log_file A r v a) named is_named same))))
  where
    one_some : {X : Type 0} {x y : X} → Some x ≡ Some y → x ≡ y
    one_some e = cc

gone_elsewhere : (t : ℕ) (bytes : List ℕ) (r s : Target) → is_target r s ≡ false → gone_to s (placed_at t bytes (Some r)) ≡ []
gone_elsewhere t bytes r s other = ap (λ c. cond c (record { t = t; to = r; bytes = bytes } ∷ []) []) other

gone_here : (t : ℕ) (bytes : List ℕ) (s : Target) → gone_to s (placed_at t bytes (Some s)) ≡ record { t = t; to = s; bytes = bytes } ∷ []
gone_here t bytes s = ap (λ c. cond c (record { t = t; to = s; bytes = bytes } ∷ []) []) (itself_target s)

not_same : (r s : Target) → is_target r s ≡ false → r ≡ s → ⊥
not_same r s other same = not_both (sym other ∙ ap (is_target r) (sym same) ∙ itself_target r)
  where
    not_both : false ≡ true → ⊥
    not_both e = cc

-- ---- a history

named_to : (A : Table) (H : History) (o : Option Target) (s : Target) → o ≡ Some s → IfSome o (λ s. IsNamed (log_in_use A H s)) → IsNamed (log_in_use A H s)
named_to A H o s is names = subst (λ (o : Option Target). IfSome o (λ s. IsNamed (log_in_use A H s))) is names

module _ (A : Table) (H : History) (j : Job) (t target writes : ℕ) (bytes : List ℕ) (r : Target) (is : target_at A H t target ≡ Some r) (named : IsNamed (log_in_use A H r)) (s : Target)
    (was : IsChained A H s) where
  elsewhere : is_target r s ≡ false → touches A H (Append t target writes bytes) s ≡ false
  elsewhere other = ap (λ (o : Option Target). option_map_or (λ target. is_target target s) o false) is ∙ other

  placed_elsewhere : (version at : ℕ) → version ≡ version_in_use A H r → is_target r s ≡ false → IsChained A (entry j (Append t target writes bytes) (reply.Placed version at) ∷ H) s
  placed_elsewhere version at first other =
      let K = entry j (Append t target writes bytes) (reply.Placed version at) ∷ H in
      let placing_is = placing A H j t target writes bytes r is version at first in
      let apart = not_same r s other in
      chained_left A H K s (same_slice A H (entry j (Append t target writes bytes) (reply.Placed version at)) s (elsewhere other)) (placing_is.others.in_use s apart)
      (λ v token is_named.
      ap (λ (gs : List KnownFile). bytes_in gs (name_of A.props.name (Log s.group s.slice v token))) placing_is.files
      ∙ known_apart (log_in_use A H r) (name_of A.props.name (log_in_use A H r)) bytes (files_of A H) (name_of A.props.name (Log s.group s.slice v token))
      (other_slice A r s v (version_in_use A H r) (attempt_in_use A H r) token apart is_named named))
      (ap (λ (o : Option Target). chain_then (gone_to s (placed_at t bytes o)) (is_unused A H s) (chain A H s)) is
      ∙ ap (λ bs. chain_then bs (is_unused A H s) (chain A H s)) (gone_elsewhere t bytes r s other))
      was

  failed_elsewhere : is_target r s ≡ false → IsChained A (entry j (Append t target writes bytes) reply.Fault ∷ H) s
  failed_elsewhere other =
      let K = entry j (Append t target writes bytes) reply.Fault ∷ H in
      let failing = is_failing A H j t target writes bytes r is in
      chained_left A H K s (same_slice A H (entry j (Append t target writes bytes) reply.Fault) s (elsewhere other)) (failing.others.in_use s (not_same r s other))
      (same_bytes A s (files_of A H) (files_of A K) failing.files) refl was

  placed_here : (version at : ℕ) → version ≡ version_in_use A H r → r ≡ s → IsChained A (entry j (Append t target writes bytes) (reply.Placed version at) ∷ H) s
  placed_here version at first same =
      let K = entry j (Append t target writes bytes) (reply.Placed version at) ∷ H in
      let is_s : target_at A H t target ≡ Some s = is ∙ ap Some same in
      chained_placed A H K (record { t = t; to = s; bytes = bytes }) s (subst (λ q. IsNamed (log_in_use A H q)) same named)
      (placing A H j t target writes bytes s is_s version at (first ∙ ap (version_in_use A H) same))
      (ap (λ (o : Option Target). chain_then (gone_to s (placed_at t bytes o)) (is_unused A H s) (chain A H s)) is_s
      ∙ ap (λ bs. chain_then bs (is_unused A H s) (chain A H s)) (gone_here t bytes s)) was

  failed_here : r ≡ s → IsChained A (entry j (Append t target writes bytes) reply.Fault ∷ H) s
  failed_here same =
      let is_s : target_at A H t target ≡ Some s = is ∙ ap Some same in
      chained_failed A H (entry j (Append t target writes bytes) reply.Fault ∷ H) s (is_failing A H j t target writes bytes s is_s) refl was

  pub placed_then : (version at : ℕ) → version ≡ version_in_use A H r → IsChained A (entry j (Append t target writes bytes) (reply.Placed version at) ∷ H) s
  placed_then version at first = by (is_target r s) refl
    where
      by : (c : Bool) → is_target r s ≡ c → IsChained A (entry j (Append t target writes bytes) (reply.Placed version at) ∷ H) s
      by true same = placed_here version at first (one_target r s same)
      by false other = placed_elsewhere version at first other

  pub failed_then : IsChained A (entry j (Append t target writes bytes) reply.Fault ∷ H) s
  failed_then = by (is_target r s) refl
    where
      by : (c : Bool) → is_target r s ≡ c → IsChained A (entry j (Append t target writes bytes) reply.Fault ∷ H) s
      by true same = failed_here (one_target r s same)
      by false other = failed_elsewhere other

chained_then : (A : Table) (H : History) (j : Job) (st : Step) (r : Reply) (s : Target)
    → ((t target writes : ℕ) (bytes : List ℕ) → st ≡ Append t target writes bytes → (q : Target) × (target_at A H t target ≡ Some q))
    → Answers A H st r → NamesFit A H st r → IsChained A H s → IsChained A (entry j st r ∷ H) s
chained_then A H j (Append t target writes bytes) (reply.Placed version at) s to answers names was =
    let q = to t target writes bytes refl in
    placed_then A H j t target writes bytes q.0 q.1 (named_to A H (target_at A H t target) q.0 q.1 names) s was version at (first_of A H version at q.0 (target_at A H t target) q.1 answers)
chained_then A H j (Append t target writes bytes) reply.Fault s to answers names was =
    let q = to t target writes bytes refl in
    failed_then A H j t target writes bytes q.0 q.1 (named_to A H (target_at A H t target) q.0 q.1 names) s was
chained_then A H j (Append t target writes bytes) _ s to answers names was = absurd answers
chained_then A H j Begin r s to answers names was = chained_quiet A H j Begin r s tt refl refl was
chained_then A H j (Enter t slots) r s to answers names was = chained_quiet A H j (Enter t slots) r s tt refl refl was
chained_then A H j (Finish t checkpoint) r s to answers names was = chained_quiet A H j (Finish t checkpoint) r s tt refl refl was
chained_then A H j (Pin at bases_only) r s to answers names was = chained_quiet A H j (Pin at bases_only) r s tt refl refl was
chained_then A H j (Unpin pin) r s to answers names was = chained_quiet A H j (Unpin pin) r s tt refl refl was
chained_then A H j (Read from number at len) r s to answers names was = chained_quiet A H j (Read from number at len) r s tt refl refl was
chained_then A H j (Abandon t) r s to answers names was = chained_quiet A H j (Abandon t) r s tt refl refl was

appends_to : (work : Work) (props : Properties) (H : History) (j : Job) (st : Step) → IsLegal work (fresh props) H → May (fresh props) H j st
    → (t target writes : ℕ) (bytes : List ℕ) → st ≡ Append t target writes bytes → (q : Target) × (target_at (fresh props) H t target ≡ Some q)
appends_to work props H j st legal may t target writes bytes is =
    let to = appending (fresh props) H j t target (instants_plain work props H legal t) (subst (May (fresh props) H j) is may) in
    (to.0, goes_there (fresh props) H t target to.0 to.1)

pub logs_have_blocks : (work : Work) (props : Properties) (H : History) (s : Target) → IsLegal work (fresh props) H → AllNamesFit (fresh props) H → IsChained (fresh props) H s
logs_have_blocks work props [] s legal names = record {
  texts = tt;
  unused = λ unused. tt;
  used = λ used. let wrong : true ≡ false = used in absurd cc;
  absent = λ v a named ahead. refl;
}
logs_have_blocks work props (e ∷ H) s legal names =
    chained_then (fresh props) H e.job e.step e.reply s (appends_to work props H e.job e.step legal.0 legal.1.may) legal.1.answers names.0
    (logs_have_blocks work props H s legal.0 names.1)
