-- Owned instants were drawn, and live pins were made.
use Rattle.std.proofs.Common.{◌≡◌, ◌<◌, ◌≤◌, ◌+◌, ◌==◌, ℕ, Bool, true, false, cond, List, [], ◌∷◌, map, Option, Some, None, option_map, max, refl, sym, ap, ◌∙◌, arith}
use Rattle.std.specs.Prelude.{option_and_then}
use Rattle.std.proofs.lemmas.Bool.Decides.{nat_tests}
use Rattle.table_history.specs.Answers.{Answers}
use Rattle.table_history.specs.After.{reopened, greatest_in}
use Rattle.table_history.specs.Concerns.{IsOpened}
use Rattle.table_history.specs.Histories.{History}
use Rattle.table_history.specs.Instants.{instant_after, instant_of, owner_of, completions, begun, entered, with_block, completed, failed, abandoned}
use Rattle.table_history.specs.JobLaw.{Work, IsLegal}
use Rattle.table_history.specs.Pins.{pin_after, pin_of, pins_made}
use Rattle.table_history.specs.declared.view.LivePin.{LivePin}
use Rattle.table_history.specs.Tables.{Table, Instant, KnownFile, instant_at, fresh}
use Rattle.table_history.specs.Times.{greatest_time, time_drawn}
use Rattle.table_history.specs.declared.job.Job.{Job}
use Rattle.table_history.specs.declared.reply.Reply.{Reply}
use Rattle.table_history.specs.declared.reply.Reply.TheVariants as reply
use Rattle.table_history.specs.declared.step.Step.{Step}
use Rattle.table_history.specs.declared.step.Step.TheVariants.{Begin, Enter, Append, Finish, Pin, Unpin, Abandon}
use Rattle.table_props.specs.PropsTexts.{Told as Properties}

abbrev pub owner_in : Option Instant → Option Job
owner_in o = option_and_then (λ i. i.owner) o

pub number : (u t : ℕ) → (u == t) ≡ true → u ≡ t
number u t h = grind (arith, nat_tests)

pub same_number : (u t : ℕ) → u ≡ t → (u == t) ≡ true
same_number u t h = grind (arith, nat_tests)

none_owns : {X : Type 0} {x : X} → None ≡ Some x → ⊥
none_owns is = cc

-- a change that keeps the owner, and one that takes it away
kept : (f : Instant → Instant) → ((i : Instant) → (f i).owner ≡ i.owner) → (b : Bool) (o : Option Instant) → owner_in (cond b (option_map f o) o) ≡ owner_in o
kept f same true None = refl
kept f same true (Some i) = same i
kept f same false o = refl

taken : (f : Instant → Instant) → ((i : Instant) → (f i).owner ≡ None) → (b : Bool) (o : Option Instant) (j : Job) → owner_in (cond b (option_map f o) o) ≡ Some j → owner_in o ≡ Some j
taken f gone true None j is = is
taken f gone true (Some i) j is = absurd (none_owns (sym (gone i) ∙ is))
taken f gone false o j is = is

some_same : {X : Type 0} {x y : X} → Some x ≡ Some y → x ≡ y
some_same is = cc

upto_right : (t n m : ℕ) → t ≤ m → t ≤ max n m
upto_right t n m h = grind (arith, nat_tests)

upto : (t n m : ℕ) → t ≤ n → t ≤ max n m
upto t n m h = grind (arith, nat_tests)

drawn : (t u g start : ℕ) (j k : Job) (o : Option Instant) (b : Bool) → (owner_in o ≡ Some j → t ≤ g) → (u == t) ≡ b → owner_in (cond b (Some (begun k start)) o) ≡ Some j → t ≤ max g u
drawn t u g start j k o true before h is = let same = number u t h in grind (arith, nat_tests)
drawn t u g start j k o false before h is = upto t g u (before is)

-- the bound after one more entry
one_bound : (t n g : ℕ) (k j : Job) (s : Step) (r : Reply) (o : Option Instant) → (owner_in o ≡ Some j → t ≤ g) → owner_in (instant_after t n k s r o) ≡ Some j
    → t ≤ max g (time_drawn r)
one_bound t n g k j Begin (reply.Began u) o before is = drawn t u g n j k o (u == t) before refl is
one_bound t n g k j (Enter u slots) (reply.Entered targets) o before is = upto t g 0 (before (sym (kept (entered targets) (λ i. refl) (u == t) o) ∙ is))
one_bound t n g k j (Enter u slots) reply.Fault o before is = upto t g 0 (before (sym (kept failed (λ i. refl) (u == t) o) ∙ is))
one_bound t n g k j (Enter u slots) (reply.Damaged name cause) o before is = upto t g 0 (before (sym (kept failed (λ i. refl) (u == t) o) ∙ is))
one_bound t n g k j (Append u target writes bytes) (reply.Placed version at) o before is = upto t g 0 (before (sym (kept (with_block target writes bytes) (λ i. refl) (u == t) o) ∙ is))
one_bound t n g k j (Append u target writes bytes) reply.Fault o before is = upto t g 0 (before (sym (kept failed (λ i. refl) (u == t) o) ∙ is))
one_bound t n g k j (Finish u checkpoint) (reply.Completed v) o before is = upto t g 0 (before (taken (completed n checkpoint) (λ i. refl) (u == t) o j is))
one_bound t n g k j (Finish u checkpoint) reply.Fault o before is = upto t g 0 (before (sym (kept failed (λ i. refl) (u == t) o) ∙ is))
one_bound t n g k j (Finish u checkpoint) (reply.Damaged name cause) o before is = upto t g 0 (before (sym (kept failed (λ i. refl) (u == t) o) ∙ is))
one_bound t n g k j (Abandon u) reply.Done o before is = upto t g 0 (before (taken abandoned (λ i. refl) (u == t) o j is))
one_bound t n g k j _ r o before is = upto t g (time_drawn r) (before is)

at_opening : (A : Table) → IsOpened A → (t : ℕ) (j : Job) (o : Option Instant) → instant_at A.instants t ≡ o → owner_in o ≡ Some j → ⊥
at_opening A opened t j None is owns = cc
at_opening A opened t j (Some i) is owns = none_owns (sym (opened t i is).0 ∙ owns)

-- an owned instant was drawn
pub owned_bound : (A : Table) (H : History) → IsOpened A → (t : ℕ) (j : Job) → owner_of A H t ≡ Some j → t ≤ greatest_time A H
owned_bound A [] opened t j owns = absurd (at_opening A opened t j _ refl owns)
owned_bound A (e ∷ H) opened t j owns = one_bound t (completions A H) (greatest_time A H) e.job j e.step e.reply (instant_of A H t) (owned_bound A H opened t j) owns

-- ---- pins

pinned : (p m : ℕ) (live new : LivePin) (o : Option LivePin) (number_of : ℕ) (b : Bool) → (o ≡ Some live → p ≤ m) → (number_of == p) ≡ b → number_of ≡ m + 1 → cond b (Some new) o ≡ Some live → p ≤ m + 1
pinned p m live new o number_of true before h is now = let same = number number_of p h in omega (arith, same, is)
pinned p m live new o number_of false before h is now = let old = before now in omega (arith, old)

let_go : (p m : ℕ) (live : LivePin) (o : Option LivePin) (b : Bool) → (o ≡ Some live → p ≤ m) → cond b None o ≡ Some live → p ≤ m
let_go p m live o true before now = absurd (none_owns now)
let_go p m live o false before now = before now

more_pins : (H : History) (k : Job) (s : Step) (r : Reply) → pins_made H ≤ pins_made (record { job = k; step = s; reply = r } ∷ H)
more_pins H k s (reply.Pinned view) = omega arith
more_pins H k s _ = omega arith

one_pin : (A : Table) (H : History) (p : ℕ) (k : Job) (s : Step) (r : Reply) (live : LivePin) → Answers A H s r → (pin_of H p ≡ Some live → p ≤ pins_made H)
    → pin_after p k s r (pin_of H p) ≡ Some live → p ≤ pins_made (record { job = k; step = s; reply = r } ∷ H)
one_pin A H p k (Pin None bases_only) (reply.Pinned view) live a before now =
    pinned p (pins_made H) live (record { job = k; view = view }) (pin_of H p) view.pin (view.pin == p) before refl a.pin now
one_pin A H p k (Pin (Some t) bases_only) (reply.Pinned view) live a before now =
    pinned p (pins_made H) live (record { job = k; view = view }) (pin_of H p) view.pin (view.pin == p) before refl a.0.pin now
one_pin A H p k (Unpin q) reply.Done live a before now = let_go p (pins_made H) live (pin_of H p) (q == p) before now
one_pin A H p k s r live a before now = let old = before now in let more = more_pins H k s r in omega (arith, old, more)

-- a live pin is one of those that were made
pub pin_bound : (work : Work) (A : Table) (H : History) → IsLegal work A H → (p : ℕ) (live : LivePin) → pin_of H p ≡ Some live → p ≤ pins_made H
pin_bound work A [] legal p live now = absurd (none_owns now)
pin_bound work A (e ∷ H) legal p live now = one_pin A H p e.job e.step e.reply live legal.1.answers (pin_bound work A H legal.0 p live) now

pub fresh_opened : (props : Properties) → IsOpened (fresh props)
fresh_opened props t i is = absurd (none_owns is)

abbrev unowned : (ℕ × Instant) → (ℕ × Instant)
unowned known = (known.0, record known.1 { owner = None })

opened_one : (known : ℕ × Instant) (t m : ℕ) (i : Instant) (rest : Option Instant) (b : Bool) → (known.0 == t) ≡ b → (rest ≡ Some i → (i.owner ≡ None) × (t ≤ m))
    → cond b (Some (unowned known).1) rest ≡ Some i → (i.owner ≡ None) × (t ≤ max known.0 m)
opened_one known t m i rest true here before is =
    let same : (unowned known).1 ≡ i = some_same is in
    let time = number known.0 t here in
    (ap (λ (x : Instant). x.owner) (sym same), grind (arith, nat_tests))
opened_one known t m i rest false other before is = let old = before is in (old.0, upto_right t known.0 m old.1)

opened_list : (line : List (ℕ × Instant)) (t : ℕ) (i : Instant) → instant_at (map unowned line) t ≡ Some i → (i.owner ≡ None) × (t ≤ greatest_in line)
opened_list [] t i is = absurd (none_owns is)
opened_list (known ∷ line) t i is = opened_one known t (greatest_in line) i (instant_at (map unowned line) t) (known.0 == t) refl (opened_list line t i) is

pub reopened_opened : (A : Table) (files : List KnownFile) → IsOpened (reopened A files)
reopened_opened A files t i is = opened_list A.instants t i is

-- ---- no instant has a time that wasn't drawn

none_kept : (f : Instant → Instant) (b : Bool) → cond b (option_map f None) None ≡ None
none_kept f true = refl
none_kept f false = refl

not_drawn : (t u g n : ℕ) (k : Job) (b : Bool) → (u == t) ≡ b → max g u < t → cond b (Some (begun k n)) None ≡ None
not_drawn t u g n k true is above = absurd (let same = number u t is in grind (arith, nat_tests))
not_drawn t u g n k false is above = refl

still_none : (t n g : ℕ) (k : Job) (s : Step) (r : Reply) → max g (time_drawn r) < t → instant_after t n k s r None ≡ None
still_none t n g k Begin (reply.Began u) above = not_drawn t u g n k (u == t) refl above
still_none t n g k (Enter u slots) (reply.Entered targets) above = none_kept (entered targets) (u == t)
still_none t n g k (Enter u slots) reply.Fault above = none_kept failed (u == t)
still_none t n g k (Enter u slots) (reply.Damaged name cause) above = none_kept failed (u == t)
still_none t n g k (Append u target writes bytes) (reply.Placed version at) above = none_kept (with_block target writes bytes) (u == t)
still_none t n g k (Append u target writes bytes) reply.Fault above = none_kept failed (u == t)
still_none t n g k (Finish u checkpoint) (reply.Completed v) above = none_kept (completed n checkpoint) (u == t)
still_none t n g k (Finish u checkpoint) reply.Fault above = none_kept failed (u == t)
still_none t n g k (Finish u checkpoint) (reply.Damaged name cause) above = none_kept failed (u == t)
still_none t n g k (Abandon u) reply.Done above = none_kept abandoned (u == t)
still_none t n g k _ r above = refl

none_at : (A : Table) → IsOpened A → (t : ℕ) (o : Option Instant) → instant_at A.instants t ≡ o → A.last < t → instant_at A.instants t ≡ None
none_at A opened t None is above = is
none_at A opened t (Some i) is above = absurd (let bound = (opened t i is).1 in omega (arith, bound))

pub undrawn : (A : Table) (H : History) → IsOpened A → (t : ℕ) → greatest_time A H < t → instant_of A H t ≡ None
undrawn A [] opened t above = none_at A opened t _ refl above
undrawn A (e ∷ H) opened t above =
    let before = undrawn A H opened t (let less : greatest_time A H ≤ max (greatest_time A H) (time_drawn e.reply) = grind (arith, nat_tests) in omega (arith, less)) in
    ap (instant_after t (completions A H) e.job e.step e.reply) before ∙ still_none t (completions A H) (greatest_time A H) e.job e.step e.reply above
