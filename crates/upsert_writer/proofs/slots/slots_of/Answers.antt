use Rattle.std.proofs.Common.{◌≡◌, ◌++◌, ◌∷◌, map, take, ℕ, List, [], sym, ap, ◌∙◌, subst}
use Rattle.std.specs.List.{flat_map}
use Rattle.std.proofs.lemmas.List.Elements.{All-push, All-head, All-drop, All-same}
use Rattle.payload_merge.specs.declared.row.Write.{Write}
use Rattle.table_forms.specs.NameForms.{IsPartitionPath}
use Rattle.table_history.specs.declared.step.PartitionSlots.{PartitionSlots}
use Rattle.upsert_writer.specs.BatchWrites.{partition_of}
use Rattle.upsert_writer.specs.Slots.{each_slot, write_slot}
use Rattle.upsert_writer.proofs.Runs.{one_run}
use Rattle.upsert_writer.proofs.slots.slots_of.Goals as goal

pub loop-first-preserved : goal.loop-first-preserved
loop-first-preserved c =
    let P : Write → Type 0 = λ w. IsPartitionPath (partition_of w) in
    let Q : PartitionSlots → Type 0 = λ asked. IsPartitionPath asked.partition in
    let first : Write = c.in-Some.first.now in
    let later : List Write = c.in-Some.later.now in
    let rest : List Write = c.loop-first.rest.now in
    let split : rest ≡ first ∷ later = c.in-Some.ensures.cases.0 in
    let here : c.in_ok-copy.field-0 ≡ partition_of first = c.in_ok-copy.ensures ∙ c.partition_of-partition.ensures in
    let path : IsPartitionPath c.in_ok-copy.field-0 = subst IsPartitionPath (sym here) (All-head P first later (All-same P (first ∷ later) rest (sym split) c.loop-first.invariant.rest)) in
    let R : List ℕ → Type 0 = λ p. map partition_of (take c.run_length-run.result later) ≡ map (λ (r : Write). p) (take c.run_length-run.result later) in
    let alike : R c.in_ok-copy.field-0 = subst R (sym c.in_ok-copy.ensures) c.run_length-run.ensures.same in
    record {
      slots =
          ap (λ (xs : List PartitionSlots). flat_map each_slot xs ++ map write_slot c.split_at.result.1.now) c.in_ok-push.ensures.ok
          ∙ ap (λ (xs : List ℕ). flat_map each_slot (c.loop-first.asked ++ record { partition = c.in_ok-copy.field-0; slots = xs } ∷ []) ++ map write_slot c.split_at.result.1.now) c.in_ok-slots_in.ensures
          ∙ one_run c.in_ok-copy.field-0 c.loop-first.asked first later rest c.split_at.result.0.now c.split_at.result.1.now c.run_length-run.result
          split here alike c.split_at.ensures.front c.split_at.ensures.back
          ∙ c.loop-first.invariant.slots;
      paths = All-same Q _ _ c.in_ok-push.ensures.ok (All-push Q c.loop-first.asked _ c.loop-first.invariant.paths path);
      rest = All-same P _ _ c.split_at.ensures.back (All-drop P _ rest c.loop-first.invariant.rest);
    }
