use Rattle.std.proofs.Common.{◌≡◌, ℤ, List, ℕ, [], ◌∷◌, ◌++◌, ap, ◌∙◌}
use Rattle.std.specs.Prelude.{IsUtf8}
use Rattle.hudi_base.specs.declared.value.Value.{Value, Long, Record, Text}
use Rattle.plain_rows.specs.PlainValues.{IsPlainValue}
use Rattle.job_tests.proofs.deletes.value_of.Goals as goal

plain_of : (key body k b : List ℕ) (rank : ℤ) (none one two three : List Value) → none ≡ [] → one ≡ none ++ Text k ∷ [] → two ≡ one ++ Long rank ∷ [] → three ≡ two ++ Text b ∷ []
    → k ≡ key → b ≡ body → IsUtf8 key → IsUtf8 body → IsPlainValue (Record three)
plain_of key body k b rank none one two three empty first second third keyed bodied key_text body_text = record {
  key = key;
  rank = rank;
  body = body;
  is = ap Record
      (third
      ∙ ap (λ (vs : List Value). vs ++ Text b ∷ []) (second ∙ ap (λ (vs : List Value). vs ++ Long rank ∷ []) (first ∙ ap (λ (vs : List Value). vs ++ Text k ∷ []) empty))
      ∙ ap (λ (x : List ℕ). Text x ∷ Long rank ∷ Text b ∷ []) keyed
      ∙ ap (λ (x : List ℕ). Text key ∷ Long rank ∷ Text x ∷ []) bodied);
  key_text = key_text;
  body_text = body_text;
}

pub returns : goal.returns
returns c =
    plain_of _ _ _ _ _ _ _ _ _ c.new-fields.ensures c.in_ok-push.ensures.ok c.in_ok-push-2.ensures.ok c.in_ok-push-3.ensures.ok
    c.in_ok-from_text.ensures c.in_ok-from_text-2.ensures c.utf8.key c.utf8.body
