use Rattle.std.proofs.Common.{◌≡◌, List, [], ◌∷◌, ◌++◌, All, subst, sym}
use Rattle.std.proofs.lemmas.List.Elements.{All-append, All-cons, All-nil}
use Rattle.payload_merge.specs.declared.row.Row.{Row}
use Rattle.row_values.specs.RowCells.{IsOwnRow}
use Rattle.script_tests.proofs.texts.rows_of.Goals as goal

-- what holds of both holds of each of the list
of_both : (P : Row → Type 0) (none one two : List Row) (first second : Row) → none ≡ [] → one ≡ none ++ first ∷ [] → two ≡ one ++ second ∷ [] → P first → P second → All P two
of_both P none one two first second none_is one_is two_is p q =
    let all_of_none : All P none = subst (λ (rows : List Row). All P rows) (sym none_is) (All-nil P) in
    let all_of_one : All P one = subst (λ (rows : List Row). All P rows) (sym one_is) (All-append P none (first ∷ []) all_of_none (All-cons P first [] p (All-nil P))) in
    subst (λ (rows : List Row). All P rows) (sym two_is) (All-append P one (second ∷ []) all_of_one (All-cons P second [] q (All-nil P)))

pub returns : goal.returns
returns c =
    of_both (IsOwnRow c.args.codec.now.records.own) _ _ _ _ _ c.new-rows.ensures c.in_ok-push.ensures.ok c.in_ok-push-2.ensures.ok c.in_ok-first.ensures c.in_ok-second.ensures
