-- What a pin sees by the control tables is its view after the history.
use Rattle.std.proofs.Common.{◌≡◌, ℕ, ℤ, ◌+◌, List, [], ◌∷◌, ◌++◌, Bool, true, false, cond, Option, Some, None, refl, sym, ap, ◌∙◌, append-nil}
use Rattle.std.specs.Prelude.{nat_le, filter, reverse, ◌==◌, ◌&&◌}
use Rattle.std.specs.List.{list_any}
use Rattle.std.proofs.lemmas.List.{reverse-append, reverse-reverse}
use Rattle.std.proofs.lemmas.List.Elements.{filter-append}
use Rattle.std.proofs.lemmas.List.Sorted.{list_any-IsPermutation, IsPermutation-reverse}
use Rattle.std.specs.List.Sorted.{IsStrictlySortedBy}
use Rattle.table_core.specs.ControlTables.{IsControl}
use Rattle.table_core.specs.ViewTables.{IsViewIn, ArePartsIn, instant_in, completed_in}
use Rattle.table_core.specs.declared.control.Control.{Control}
use Rattle.table_core.proofs.SeenGroups.{parts_seen}
use Rattle.table_history.specs.Answers.{is_completed}
use Rattle.table_history.specs.Histories.{History}
use Rattle.table_history.specs.Instants.{completed_instants, greatest}
use Rattle.table_history.specs.Operations.{Decides}
use Rattle.table_history.specs.Pins.{IsView, ArePartsAt, completed_for, pinned_instant}
use Rattle.table_history.specs.Tables.{Table}
use Rattle.table_history.specs.Targets.{group_cmp, is_live}
use Rattle.table_history.specs.declared.operation.Op.TheVariants as op
use Rattle.table_history.specs.declared.reply.Reply.TheVariants.{Pinned, NotCompleted}
use Rattle.table_history.specs.declared.step.Step.TheVariants.{Pin}
use Rattle.table_history.specs.declared.view.GroupParts.{GroupParts}
use Rattle.table_history.specs.declared.view.View.{View}

-- ---- lists

kept_one : {X : Type 0} (b : Bool) (x : X) (ys : List X) → reverse ys ++ cond b (x ∷ []) [] ≡ reverse (cond b (x ∷ ys) ys)
kept_one true x ys = sym (reverse-append (x ∷ []) ys)
kept_one false x ys = append-nil (reverse ys)

filter-reverse : {X : Type 0} (p : X → Bool) (xs : List X) → filter p (reverse xs) ≡ reverse (filter p xs)
filter-reverse p [] = refl
filter-reverse p (x ∷ xs) =
    ap (filter p) (reverse-append (x ∷ []) xs)
    ∙ filter-append p (reverse xs) (x ∷ [])
    ∙ ap (λ l. l ++ filter p (x ∷ [])) (filter-reverse p xs)
    ∙ kept_one (p x) x (filter p xs)

-- ---- the parts of a view

earlier_known : (A : Table) (H : History) (control : Control) (t : Option ℕ) → IsControl A H control → completed_in control t ≡ completed_for A H t
earlier_known A H control None is = refl
earlier_known A H control (Some t) is =
    ap (filter (λ u. nat_le u t)) (sym (reverse-reverse control.completed.items) ∙ ap reverse is.completed)
    ∙ filter-reverse (λ u. nat_le u t) (completed_instants A H)

nothing : (b : Bool) → false ≡ (b && false)
nothing true = refl
nothing false = refl

none_sorted : IsStrictlySortedBy group_cmp []
unfolding IsStrictlySortedBy
none_sorted = tt

groups_known : (A : Table) (H : History) (control : Control) (t : Option ℕ) (bases_only : Bool) (parts : List GroupParts) → IsControl A H control
    → ArePartsIn control t bases_only parts → ArePartsAt A H t bases_only parts
groups_known A H control None bases_only parts is seen = seen
groups_known A H control (Some t) true parts is seen =
    record { groups = []; live = record { are = λ g. nothing (is_live A g); order = none_sorted }; are = seen }
groups_known A H control (Some t) false parts is seen = parts_seen A H control is t seen.1 parts seen.0

instant_known : (A : Table) (H : History) (control : Control) (at : Option ℕ) → IsControl A H control → instant_in control at ≡ pinned_instant A H at
instant_known A H control None is = ap greatest is.completed
instant_known A H control (Some t) is = refl

view_known : (A : Table) (H : History) (control : Control) (at : Option ℕ) (bases_only : Bool) (view : View) → IsControl A H control
    → IsViewIn control at bases_only view → IsView A H at bases_only view
view_known A H control at bases_only view is seen = record {
  pin = seen.pin ∙ ap (λ n. n + 1) is.pins_made;
  t = seen.t ∙ instant_known A H control at is;
  groups = groups_known A H control view.t bases_only view.groups is seen.groups;
  completed = seen.completed ∙ earlier_known A H control view.t is;
}

-- ---- answers

completed_known : (A : Table) (H : History) (control : Control) (t : ℕ) → IsControl A H control
    → list_any (λ u. u == t) control.completed.items ≡ is_completed A H t
completed_known A H control t is =
    list_any-IsPermutation (λ u. u == t) control.completed.items (reverse control.completed.items) (IsPermutation-reverse control.completed.items)
    ∙ ap (list_any (λ u. u == t)) is.completed

pub latest_decides : (A : Table) (H : History) (control : Control) (bases_only : Bool) (view : View) (now : ℤ) → IsControl A H control
    → IsViewIn control None bases_only view → Decides A H (Pin None bases_only) now (record { reply = Pinned view; op = op.Nothing })
latest_decides A H control bases_only view now is seen = record {
  answers = view_known A H control None bases_only view is seen;
  succeeds = tt;
  draws = tt;
  op = refl;
}

pub named_decides : (A : Table) (H : History) (control : Control) (t : ℕ) (bases_only : Bool) (view : View) (now : ℤ) → IsControl A H control
    → IsViewIn control (Some t) bases_only view → list_any (λ u. u == t) control.completed.items ≡ true
    → Decides A H (Pin (Some t) bases_only) now (record { reply = Pinned view; op = op.Nothing })
named_decides A H control t bases_only view now is seen among = record {
  answers = (view_known A H control (Some t) bases_only view is seen, sym (completed_known A H control t is) ∙ among);
  succeeds = tt;
  draws = tt;
  op = refl;
}

pub absent_decides : (A : Table) (H : History) (control : Control) (t : ℕ) (bases_only : Bool) (now : ℤ) → IsControl A H control
    → list_any (λ u. u == t) control.completed.items ≡ false → Decides A H (Pin (Some t) bases_only) now (record { reply = NotCompleted t; op = op.Nothing })
absent_decides A H control t bases_only now is absent = record {
  answers = (refl, sym (completed_known A H control t is) ∙ absent);
  succeeds = tt;
  draws = tt;
  op = refl;
}
