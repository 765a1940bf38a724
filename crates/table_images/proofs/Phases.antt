-- An instant whose job may still write to it is owned by the job, and no step of it failed.
use Rattle.std.proofs.Common.{◌≡◌, ◌<◌, ◌≤◌, ◌+◌, ◌==◌, ℕ, Bool, true, false, cond, List, [], ◌∷◌, length, Option, Some, None, option_map, IsSomeAnd, refl, sym, ap, ◌∙◌, subst, arith}
use Rattle.std.specs.Prelude.{option_and_then}
use Rattle.std.proofs.lemmas.Bool.Decides.{nat_tests}
use Rattle.file_names.specs.declared.file_name.State.TheVariants as state
use Rattle.table_history.specs.Answers.{Answers, May, Owns, AllPlaced, IsNext}
use Rattle.table_history.specs.Concerns.{IsOpened, concerns}
use Rattle.table_history.specs.Histories.{History, own, is_job}
use Rattle.table_history.specs.Instants.{instant_after, instant_of, completions, owner_of, begun, entered, with_block}
use Rattle.table_history.specs.JobLaw.{Work, Allows, IsLegal, Phase, phase, next_phase, after_piece}
use Rattle.table_history.specs.JobLaw.Phase.{Fresh, Drawn, Writes, Committed, Owes, Reads, Leaves, Ended}
use Rattle.table_history.specs.Tables.{Table, Instant}
use Rattle.table_history.specs.Times.{greatest_time}
use Rattle.table_history.specs.declared.job.Job.{Job}
use Rattle.table_history.specs.declared.reply.Reply.{Reply}
use Rattle.table_history.specs.declared.reply.Reply.TheVariants as reply
use Rattle.table_history.specs.declared.step.Step.{Step}
use Rattle.table_history.specs.declared.step.Step.TheVariants.{Begin, Enter, Append, Finish, Pin, Unpin, Read, Abandon}
use Rattle.table_history.proofs.Apart.{instant_of-apart}
use Rattle.table_history.proofs.Bounds.{owned_bound}
use Rattle.table_images.proofs.Lines.{number, some_same}
use Rattle.table_images.proofs.SameLogs.{entry}

-- the phase is that of a job that may still write to the instant
abbrev pub MayWrite : ℕ → Phase → Type 0
MayWrite t (Drawn u) = u ≡ t
MayWrite t (Writes u targets placed) = u ≡ t
MayWrite t _ = ⊥

abbrev pub IsSound : Job → Option Instant → Type 0
IsSound job o = IsSomeAnd o (λ i. (i.owner ≡ Some job) × (i.failed ≡ false))

sound_changed : (b : Bool) (o : Option Instant) (f : Instant → Instant) (job : Job) → ((i : Instant) → (f i).owner ≡ i.owner) → ((i : Instant) → (f i).failed ≡ i.failed) → IsSound job o
    → IsSound job (cond b (option_map f o) o)
sound_changed b None f job owner failed sound = absurd sound
sound_changed true (Some i) f job owner failed sound = (owner i ∙ sound.0, failed i ∙ sound.1)
sound_changed false (Some i) f job owner failed sound = sound

sound_begun : (b : Bool) (o : Option Instant) (job : Job) (n : ℕ) → b ≡ true → IsSound job (cond b (Some (begun job n)) o)
sound_begun true o job n yes_it_is = (refl, refl)
sound_begun false o job n isnt = let wrong : false ≡ true = isnt in absurd cc

same_test : (u t : ℕ) → u ≡ t → (u == t) ≡ true
same_test u t h = grind (arith, nat_tests)

no_piece : (t pin : ℕ) (files : List (ℕ × ℕ)) (at : ℕ) → MayWrite t (after_piece pin files at) → ⊥
no_piece t pin [] at now = now
no_piece t pin (f ∷ files) at now = by_test (at == f.1) now
  where
    by_test : (b : Bool) → MayWrite t (cond b (Reads pin files 0) (Reads pin (f ∷ files) at)) → ⊥
    by_test true now = now
    by_test false now = now

-- one more entry of the job
own_sound : (work : Work) (t n : ℕ) (j : Job) (s : Step) (r : Reply) (p : Phase) (o : Option Instant) → Allows work j p s → (MayWrite t p → IsSound j o) → MayWrite t (next_phase p s r)
    → IsSound j (instant_after t n j s r o)
own_sound work t n j Begin (reply.Began u) Fresh o w before now = sound_begun (u == t) o j n (same_test u t now)
own_sound work t n j Begin r Fresh o w before now = absurd now
own_sound work t n j (Pin at bases_only) r Fresh o w before now = absurd (not_pinned r now)
  where
    not_pinned : (r : Reply) → MayWrite t (next_phase Fresh (Pin at bases_only) r) → ⊥
    not_pinned (reply.Pinned view) now = now
    not_pinned _ now = now
own_sound work t n j _ r Fresh o w before now = absurd w
own_sound work t n j (Enter u slots) (reply.Entered targets) (Drawn v) o w before now = sound_changed (u == t) o (entered targets) j (λ i. refl) (λ i. refl) (before now)
own_sound work t n j (Enter u slots) r (Drawn v) o w before now = absurd now
own_sound work t n j (Abandon u) r (Drawn v) o w before now = absurd now
own_sound work t n j _ r (Drawn v) o w before now = absurd w
own_sound work t n j (Append u target writes bytes) (reply.Placed version at) (Writes v targets placed) o w before now =
    sound_changed (u == t) o (with_block target writes bytes) j (λ i. refl) (λ i. refl) (before now)
own_sound work t n j (Append u target writes bytes) r (Writes v targets placed) o w before now = absurd now
own_sound work t n j (Finish u checkpoint) (reply.Completed x) (Writes v targets placed) o w before now = absurd now
own_sound work t n j (Finish u checkpoint) r (Writes v targets placed) o w before now = absurd now
own_sound work t n j (Abandon u) r (Writes v targets placed) o w before now = absurd now
own_sound work t n j _ r (Writes v targets placed) o w before now = absurd w
own_sound work t n j s r (Committed v) o w before now = absurd now
own_sound work t n j s r (Owes v) o w before now = absurd now
own_sound work t n j (Read from number offset len) (reply.Piece bytes) (Reads pin files at) o w before now = absurd (no_piece t pin files (at + len) now)
own_sound work t n j (Read from number offset len) r (Reads pin files at) o w before now = absurd now
own_sound work t n j (Unpin q) r (Reads pin files at) o w before now = absurd now
own_sound work t n j _ r (Reads pin files at) o w before now = absurd w
own_sound work t n j s r (Leaves pin) o w before now = absurd now
own_sound work t n j s r Ended o w before now = absurd now

-- ---- another job's entry

which_job : (j k : Job) → is_job j k ≡ true → k ≡ j
which_job j k h = grind (arith, nat_tests)

itself_job : (j : Job) → is_job j j ≡ true
itself_job j = grind (arith, nat_tests)

not_owned_twice : (A : Table) (H : History) (j k : Job) (t u : ℕ) (P : Instant → Type 0) → is_job j k ≡ false → owner_of A H t ≡ Some j → Owns A H k u P → (u == t) ≡ false
not_owned_twice A H j k t u P other mine owns = by_test (u == t) refl
  where
    owner : (o : Option Instant) → IsSomeAnd o (λ i. (i.owner ≡ Some k) × P i) → option_and_then (λ i. i.owner) o ≡ Some k
    owner None wrong = absurd wrong
    owner (Some i) h = h.0

    by_test : (b : Bool) → (u == t) ≡ b → (u == t) ≡ false
    by_test false is = is
    by_test true is =
        let same : j ≡ k = some_same (sym mine ∙ ap (owner_of A H) (sym (number u t is)) ∙ owner (instant_of A H u) owns) in
        let yes : is_job j k ≡ true = ap (is_job j) (sym same) ∙ itself_job j in
        let wrong : true ≡ false = sym yes ∙ other in
        absurd cc

not_begun : (t u g : ℕ) → t ≤ g → g < u → (u == t) ≡ false
not_begun t u g le lt = grind (arith, nat_tests)

not_mine : (A : Table) (H : History) (j k : Job) (s : Step) (r : Reply) (t : ℕ) → May A H k s → Answers A H s r → is_job j k ≡ false → owner_of A H t ≡ Some j → t ≤ greatest_time A H
    → concerns s r t ≡ false
not_mine A H j k Begin (reply.Began u) t may a other mine bound = not_begun t u (greatest_time A H) bound a
not_mine A H j k (Enter u slots) r t may a other mine bound = not_owned_twice A H j k t u (λ i. i.state ≡ state.Requested) other mine may.0
not_mine A H j k (Append u target writes bytes) r t may a other mine bound = not_owned_twice A H j k t u (λ i. (i.state ≡ state.Inflight) × (target < length i.targets)) other mine may
not_mine A H j k (Finish u checkpoint) r t may a other mine bound = not_owned_twice A H j k t u (λ i. (i.state ≡ state.Inflight) × AllPlaced i) other mine may
not_mine A H j k (Abandon u) r t may a other mine bound = not_owned_twice A H j k t u (λ i. Unit {0}) other mine may
not_mine A H j k _ r t may a other mine bound = refl

owned_by : (o : Option Instant) (j : Job) → IsSound j o → option_and_then (λ i. i.owner) o ≡ Some j
owned_by None j sound = absurd sound
owned_by (Some i) j sound = sound.0

one_sound : (work : Work) (A : Table) (H : History) (k j : Job) (s : Step) (r : Reply) (t : ℕ) (b : Bool) → IsOpened A → is_job j k ≡ b → IsNext A H (entry k s r) → Allows work k (phase (own k H)) s
    → (MayWrite t (phase (own j H)) → IsSound j (instant_of A H t)) → MayWrite t (phase (cond b (entry k s r ∷ own j H) (own j H))) → IsSound j (instant_of A (entry k s r ∷ H) t)
one_sound work A H k j s r t true opened h next w before now =
    let same = which_job j k h in
    subst (λ (i : Job). IsSound j (instant_of A (entry i s r ∷ H) t)) (sym same)
    (own_sound work t (completions A H) j s r (phase (own j H)) (instant_of A H t) (subst (λ (i : Job). Allows work i (phase (own i H)) s) same w) before now)
one_sound work A H k j s r t false opened h next w before now =
    let sound = before now in
    let mine = owned_by (instant_of A H t) j sound in
    subst (IsSound j) (sym (instant_of-apart A H (entry k s r) t (not_mine A H j k s r t next.may next.answers h mine (owned_bound A H opened t j mine)))) sound

pub still_sound : (work : Work) (A : Table) (H : History) → IsOpened A → IsLegal work A H → (j : Job) (t : ℕ) → MayWrite t (phase (own j H)) → IsSound j (instant_of A H t)
still_sound work A [] opened legal j t now = absurd now
still_sound work A (e ∷ H) opened legal j t now =
    one_sound work A H e.job j e.step e.reply t (is_job j e.job) opened refl legal.1 legal.2 (still_sound work A H opened legal.0 j t) now
