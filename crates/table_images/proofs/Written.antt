-- What an append carries, and where it goes.
use Rattle.std.proofs.Common.{◌≡◌, ◌<◌, ◌≤◌, ◌==◌, ℕ, zero, suc, Bool, true, false, List, [], ◌∷◌, length, slice_get, Option, Some, None, IsSomeAnd, refl, sym, ap, ◌∙◌, subst, arith}
use Rattle.std.specs.Option.{option_map_or}
use Rattle.std.specs.List.{AllByRecursion}
use Rattle.std.proofs.lemmas.Bool.Decides.{nat_tests}
use Rattle.hudi_base.specs.declared.file_group.Target.{Target}
use Rattle.file_names.specs.declared.file_name.State.TheVariants as state
use Rattle.log_block.specs.declared.block.Block.{Block}
use Rattle.log_block.specs.declared.block.Block.TheVariants.{Data, Delete, Rollback}
use Rattle.table_history.specs.After.{after_history}
use Rattle.table_history.specs.Answers.{May, Owns}
use Rattle.table_history.specs.Histories.{History}
use Rattle.table_history.specs.Instants.{instant_of}
use Rattle.table_history.specs.JobLaw.{Work, Allows, Phase}
use Rattle.table_history.specs.JobLaw.Phase.{Writes}
use Rattle.table_history.specs.Logs.{target_at}
use Rattle.table_history.specs.Tables.{Table, Instant}
use Rattle.table_history.specs.declared.job.Job.{Job}
use Rattle.table_history.specs.declared.step.Step.TheVariants.{Append}
use Rattle.table_images.specs.Blocks.{HoldsBlocks, IsBlockFor}
use Rattle.table_images.specs.Chains.{is_write_of, voids}
use Rattle.table_images.specs.Kept.{OwnedInstants, IsCurrent}
use Rattle.table_images.specs.Numbers.{IsUpTo}
use Rattle.table_images.proofs.AppendChains.{AreOf}

number : (u t : ℕ) → (u == t) ≡ true → u ≡ t
number u t h = grind (arith, nat_tests)

not_number : (i t u : ℕ) → (i == t) ≡ true → (t ≡ u → ⊥) → (i == u) ≡ false
not_number i t u is apart = by_test (i == u) refl
  where
    by_test : (b : Bool) → (i == u) ≡ b → (i == u) ≡ false
    by_test true same = absurd (apart (sym (number i t is) ∙ number i u same))
    by_test false other = other

-- ---- the block

other_write : (t u : ℕ) (block : Block) → is_write_of t block ≡ true → (t ≡ u → ⊥) → is_write_of u block ≡ false
other_write t u (Data instant schema content) is apart = not_number instant t u is apart
other_write t u (Delete instant content) is apart = not_number instant t u is apart
other_write t u (Rollback instant target) is apart = refl

voids_none : (t u : ℕ) (block : Block) → is_write_of t block ≡ true → voids u block ≡ false
voids_none t u (Data instant schema content) is = refl
voids_none t u (Delete instant content) is = refl
voids_none t u (Rollback instant target) is = let wrong : false ≡ true = is in absurd cc

up_to_write : (most t : ℕ) (block : Block) → t ≤ most → is_write_of t block ≡ true → IsUpTo most block
up_to_write most t (Data instant schema content) le is = let same = number instant t is in omega (arith, le, same)
up_to_write most t (Delete instant content) le is = let same = number instant t is in omega (arith, le, same)
up_to_write most t (Rollback instant target) le is = let wrong : false ≡ true = is in absurd cc

pub one_of : (t : ℕ) (block : Block) → is_write_of t block ≡ true → AreOf t (block ∷ [])
one_of t block is = record { lacks = λ u apart. (other_write t u block is apart, tt); unvoiding = λ u. (voids_none t u block is, tt) }

pub none_of : (t : ℕ) → AreOf t []
none_of t = record { lacks = λ u apart. tt; unvoiding = λ u. tt }

pub one_up_to : (most t : ℕ) (block : Block) → t ≤ most → is_write_of t block ≡ true → AllByRecursion (IsUpTo most) (block ∷ [])
one_up_to most t block le is = (up_to_write most t block le is, tt)

held : (work : Work) (j : Job) (t placed writes : ℕ) (bytes : List ℕ) (o : Option Target) → HoldsBlocks work.Holds → IsSomeAnd o (λ s. work.Holds j t s writes bytes) → IsBlockFor t bytes
held work j t placed writes bytes None blocks holds = absurd holds
held work j t placed writes bytes (Some s) blocks holds = blocks.blocks j t s writes bytes holds

pub carried : (work : Work) (j : Job) (p : Phase) (t target writes : ℕ) (bytes : List ℕ) → HoldsBlocks work.Holds → Allows work j p (Append t target writes bytes) → IsBlockFor t bytes
carried work j (Writes u targets placed) t target writes bytes blocks allowed =
    subst (λ n. IsBlockFor n bytes) (sym allowed.0) (held work j u placed writes bytes (slice_get targets placed) blocks allowed.2)
carried work j _ t target writes bytes blocks allowed = absurd allowed

-- ---- the instant and its target

pub record IsAppending (A : Table) (H : History) (j : Job) (t target : ℕ) : Type 0 where
  pub i : Instant
  pub is : instant_of A H t ≡ Some i
  pub owner : i.owner ≡ Some j
  pub inflight : i.state ≡ state.Inflight
  pub s : Target
  pub target_is : slice_get i.targets target ≡ Some s
  pub at : target_at A H t target ≡ Some s
  pub current : IsCurrent (after_history A H) s

pub found_at : (xs : List Target) (n : ℕ) → n < length xs → (s : Target) × (slice_get xs n ≡ Some s)
found_at [] n lt = absurd (omega arith)
found_at (x ∷ xs) zero lt = (x, refl)
found_at (x ∷ xs) (suc n) lt = found_at xs n (omega arith)

all_at : (P : Target → Type 0) (xs : List Target) (n : ℕ) (s : Target) → AllByRecursion P xs → slice_get xs n ≡ Some s → P s
all_at P [] n s all is = let wrong : None ≡ Some s = is in absurd cc
all_at P (x ∷ xs) zero s all is = let some : Some x ≡ Some s = is in let same : x ≡ s = cc in subst P same all.0
all_at P (x ∷ xs) (suc n) s all is = all_at P xs n s all.1 is

pub appending : (A : Table) (H : History) (j : Job) (t target writes : ℕ) (bytes : List ℕ) → OwnedInstants A H → May A H j (Append t target writes bytes) → IsAppending A H j t target
unfolding OwnedInstants
appending A H j t target writes bytes owned may = by_instant (instant_of A H t) refl may
  where
    by_instant : (o : Option Instant) → instant_of A H t ≡ o → IsSomeAnd o (λ i. (i.owner ≡ Some j) × ((i.state ≡ state.Inflight) × (target < length i.targets))) → IsAppending A H j t target
    by_instant None is owns = absurd owns
    by_instant (Some i) is owns =
        let found = found_at i.targets target owns.1.1 in
        record {
          i = i;
          is = is;
          owner = owns.0;
          inflight = owns.1.0;
          s = found.0;
          target_is = found.1;
          at = ap (λ (o : Option Instant). slice_get (option_map_or (λ (k : Instant). k.targets) o []) target) is ∙ found.1;
          current = all_at (IsCurrent (after_history A H)) i.targets target found.0 (owned t i j is owns.0).targets found.1;
        }

pub record IsOwner (A : Table) (H : History) (j : Job) (t : ℕ) (P : Instant → Type 0) : Type 0 where
  pub i : Instant
  pub is : instant_of A H t ≡ Some i
  pub owner : i.owner ≡ Some j
  pub what : P i

pub owner_at : (A : Table) (H : History) (j : Job) (t : ℕ) (P : Instant → Type 0) → Owns A H j t P → IsOwner A H j t P
owner_at A H j t P owns = by_instant (instant_of A H t) refl owns
  where
    by_instant : (o : Option Instant) → instant_of A H t ≡ o → IsSomeAnd o (λ i. (i.owner ≡ Some j) × P i) → IsOwner A H j t P
    by_instant None is owns = absurd owns
    by_instant (Some i) is owns = record { i = i; is = is; owner = owns.0; what = owns.1 }
