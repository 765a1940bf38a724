-- A board is its own later state, and a later state of a later one is one of its own.
use Rattle.std.specs.Prelude.{◌≡◌, ◌++◌, ◌↔◌, ◌≤ℤ◌, ℤ, List, [], ◌∷◌, Option, Some, refl}
use Rattle.std.proofs.Common.{◌∙◌, sym, ap, append-nil, append_assoc, arith, subst}
use Rattle.std.specs.Int.Signed.{≤ℤ_refl}
use Rattle.std.proofs.lemmas.Int.{ints}
use Rattle.hudi_base.specs.Clock.{ClockState}
use Rattle.hudi_base.specs.Files.{Told}
use Rattle.hudi_base.specs.Store.{StoreState}
use Rattle.hudi_base.specs.declared.operation.Operation.{Operation}
use Rattle.std.specs.List.{AllByRecursion}
use Rattle.table_history.specs.Histories.{History}
use Rattle.table_history.specs.declared.entry.Entry.{Entry}
use Rattle.table_history.specs.declared.job.Job.{Job}
use Rattle.table_board.specs.Boards.{Origin}
use Rattle.table_board.specs.Later.{AddsOwn, DoesMore, IsLater, IsLaterSolo, ToldLater}

pub told_itself : (honest : Type 0) (told : Told) → ToldLater honest told told
told_itself honest told =
    record { first = refl; files = refl; operations = λ h operations is. ([], is ∙ ap Some (sym (append-nil operations))) }

does_on : (a b c : Option (List Operation)) → DoesMore a b → DoesMore b c → DoesMore a c
does_on a b c more then operations is =
    let one = more operations is in
    let two = then (operations ++ one.0) one.1 in
    (one.0 ++ two.0, two.1 ∙ ap Some (append_assoc operations one.0 two.0))

most_on : (a b c : ℤ) → a ≤ℤ b → b ≤ℤ c → a ≤ℤ c
most_on a b c one two = omega (arith, ints, one, two)

pub later_itself : (from : Origin) (honest : Type 0) (store : StoreState) (clock : ClockState)
    → IsLater from from honest honest store store clock clock
later_itself from honest store clock =
    record {
      origin = refl;
      honest = (λ h. h, λ h. h);
      told = told_itself honest store.told;
      faults = omega arith;
      most = ≤ℤ_refl clock.most;
    }

pub later_on : (from to last : Origin) (was then is : Type 0) (old mid new : StoreState) (before between after : ClockState)
    → IsLater from to was then old mid before between
    → IsLater to last then is mid new between after → IsLater from last was is old new before after
later_on from to last was then is old mid new before between after one two =
    let a = one.faults in
    let b = two.faults in
    record {
      origin = two.origin ∙ one.origin;
      honest = (λ h. two.honest.0 (one.honest.0 h), λ h. one.honest.1 (two.honest.1 h));
      told = record {
        first = two.told.first ∙ one.told.first;
        files = two.told.files ∙ one.told.files;
        operations = λ h.
            does_on old.told.operations mid.told.operations new.told.operations (one.told.operations h)
            (two.told.operations (one.honest.0 h));
      };
      faults = omega (arith, a, b);
      most = most_on before.most between.most after.most one.most two.most;
    }

-- ---- one job's steps

all_own : (job : Job) (es fs : List Entry) → AllByRecursion (λ e. e.job ≡ job) es → AllByRecursion (λ e. e.job ≡ job) fs
    → AllByRecursion (λ e. e.job ≡ job) (es ++ fs)
all_own job [] fs own more = more
all_own job (e ∷ es) fs own more = (own.0, all_own job es fs own.1 more)

adds_on : (job : Job) (a b c : History) → AddsOwn job a b → AddsOwn job b c → AddsOwn job a c
adds_on job a b c one two = record {
  mine = two.mine ++ one.mine;
  are = two.are ∙ ap (λ (H : History). two.mine ++ H) one.are ∙ sym (append_assoc two.mine one.mine a);
  own = all_own job two.mine one.mine two.own one.own;
}

pub alone_itself : (job : Job) (H : History) (Later : Type 0) → Later → IsLaterSolo job job H H Later
alone_itself job H Later board =
    record { job_is = refl; adds = record { mine = []; are = refl; own = tt }; board = board }

pub alone_on : (job same last : Job) (a b c : History) (First Second Both : Type 0) → (First → Second → Both)
    → IsLaterSolo job same a b First → IsLaterSolo same last b c Second
    → IsLaterSolo job last a c Both
alone_on job same last a b c First Second Both boards one two = record {
  job_is = two.job_is ∙ one.job_is;
  adds = adds_on job a b c one.adds (subst (λ (j : Job). AddsOwn j b c) one.job_is two.adds);
  board = boards one.board two.board;
}

-- the table has the same properties
pub alone_props : (job same : Job) (a b : History) (from to : Origin) (was is : Type 0) (old new : StoreState)
    (before after : ClockState) → IsLaterSolo job same a b (IsLater from to was is old new before after)
    → to.props ≡ from.props
alone_props job same a b from to was is old new before after later = ap (λ origin. origin.props) later.board.origin
