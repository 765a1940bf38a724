-- What an instant writes of a whole batch.
use Rattle.std.proofs.Common.{◌≡◌, ◌+◌, ℕ, Bool, true, cond, List, [], ◌∷◌, filter, refl, ap, ◌∙◌}
use Rattle.std.specs.List.{AllByRecursion}
use Rattle.hudi_base.specs.declared.file_group.GroupRef.{GroupRef}
use Rattle.payload_merge.specs.Fold.{write_at, writes_from}
use Rattle.payload_merge.specs.declared.row.Write.{Write}
use Rattle.payload_merge.specs.declared.row.Write.TheVariants.{Put, Del}
use Rattle.upsert_writer.specs.BatchWrites.{is_in_group}

-- a write lies where it lay before it had its instant
pub same_group : (t place : ℕ) (group : GroupRef) (w : Write) → is_in_group group (write_at t place w) ≡ is_in_group group w
same_group t place group (Put row) = refl
same_group t place group (Del partition key rank) = refl

pub all_go_there : (t place : ℕ) (group : GroupRef) (batch : List Write)
    → AllByRecursion (λ w. is_in_group group w ≡ true) batch → filter (is_in_group group) (writes_from t place batch) ≡ writes_from t place batch
all_go_there t place group [] all = refl
all_go_there t place group (w ∷ batch) all =
    let here : Write = write_at t place w in
    let later : List Write = writes_from t (place + 1) batch in
    ap (λ (b : Bool). cond b (here ∷ filter (is_in_group group) later) (filter (is_in_group group) later)) (same_group t place group w ∙ all.0)
    ∙ ap (λ (others : List Write). here ∷ others) (all_go_there t (place + 1) group batch all.1)
