-- Two jobs that own an instant each.
use Rattle.std.proofs.Common.{◌≡◌, ◌<◌, ℕ, false, ◌==◌, ◌∷◌, Option, Some, None, refl, arith}
use Rattle.std.specs.Prelude.{IsSomeAnd, option_and_then}
use Rattle.std.proofs.lemmas.Bool.Decides.{nat_tests}
use Rattle.core_tests.specs.Past.{HasTwo, HasInstant, Leads, Joins}
use Rattle.table_core.specs.declared.control.Control.{Control}
use Rattle.table_history.specs.Tables.{Instant}
use Rattle.table_history.specs.declared.job.Job.{Job}
use Rattle.table_history.specs.declared.reply.Reply.TheVariants.{Began}
use Rattle.table_history.specs.declared.step.Step.TheVariants.{Begin}
use Rattle.table_history.proofs.Bounds.{owned_bound, same_number}

apart_again : (t u : ℕ) → (t == u) ≡ false → (u == t) ≡ false
apart_again t u h = grind (arith, nat_tests)

pub swapped : (P Q : Instant → Type 0) (control : Control) (job : Job) (t : ℕ) (other : Job) (u : ℕ) → HasTwo P Q control job t other u → HasTwo Q P control other u job t
swapped P Q control job t other u h = record { table = h.table; history = h.history; tables = h.tables; owns = h.others; others = h.owns; apart = apart_again t u h.apart }

pub first_of : (P Q : Instant → Type 0) (control : Control) (job : Job) (t : ℕ) (other : Job) (u : ℕ) → HasTwo P Q control job t other u → HasInstant P control job t
first_of P Q control job t other u h = record { table = h.table; history = h.history; tables = h.tables; owns = h.owns }

owner_of_owned : (P : Instant → Type 0) (job : Job) (o : Option Instant) → IsSomeAnd o (λ i. (i.owner ≡ Some job) × P i) → option_and_then (λ i. i.owner) o ≡ Some job
owner_of_owned P job None h = absurd h
owner_of_owned P job (Some i) h = h.0

later_is_apart : (t u : ℕ) → u < t → (t == u) ≡ false
later_is_apart t u h = grind (arith, nat_tests)

-- an instant that is drawn is another than those that are owned
pub joined : (old new : Control) (job : Job) (t : ℕ) → Leads old new job Begin (Began t) → Joins old new job t
joined old new job t leads stage other u h =
    let known = owned_bound h.table h.history h.tables.opened u other (owner_of_owned _ other _ h.owns) in
    let above = leads.answers h.table h.history h.tables in
    let apart = later_is_apart t u (omega arith) in
    record {
      table = h.table;
      history = record { job = job; step = Begin; reply = Began t } ∷ h.history;
      tables = leads.tables h.table h.history h.tables tt;
      owns = rw (same_number t t refl) (refl, refl);
      others = rw apart h.owns;
      apart = apart;
    }
