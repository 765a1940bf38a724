use Rattle.std.proofs.Common.{List, ℕ, option_map, subst, ◌≡◌, [], Bor}
use Rattle.std.specs.Prelude.{Option}
use Rattle.base_file.specs.KeyTables.{AreUpTo}
use Rattle.base_file.proofs.OrderLemmas.{first_above, next_above}
use Rattle.base_file.proofs.key_set.is_above.Goals as goal

pub returns-in-None : goal.returns-in-None
returns-in-None c = λ keys up. first_above keys c.args.key.now (subst (λ (o : Option (Bor (List ℕ))). AreUpTo keys (option_map (λ last. last.now) o)) c.in-None.is up)

pub returns-in-Some : goal.returns-in-Some
returns-in-Some c = λ keys up.
    next_above keys c.in-Some.last.now c.args.key.now c.cmp.result c.eq.result
    (subst (λ (o : Option (Bor (List ℕ))). AreUpTo keys (option_map (λ last. last.now) o)) c.in-Some.is up) c.cmp.ensures c.eq.ensures
