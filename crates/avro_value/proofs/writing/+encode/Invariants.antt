use Rattle.std.proofs.Common.{◌≡◌, ◌++◌, map, take}
use Rattle.std.specs.Prelude.{flat_map}
use Rattle.avro_schema.specs.Written.{written, written_entry}
use Rattle.avro_value.proofs.writing.+encode.Given as goal

abbrev pub invariant-put_values-loop-value : goal.invariant-put_values-loop-value
invariant-put_values-loop-value l = l.out.items ≡ l.fn.out.items ++ flat_map (λ bs. bs) (map written (take l.value-index l.values))

abbrev pub invariant-put_entries-loop-entry : goal.invariant-put_entries-loop-entry
invariant-put_entries-loop-entry l = l.out.items ≡ l.fn.out.items ++ flat_map (λ bs. bs) (map written_entry (take l.entry-index l.entries))
