use Rattle.std.proofs.Common.{◌↔◌, drop, map}
use Rattle.std.specs.List.{AllByRecursion}
use Rattle.avro_schema.specs.AvroTypes.{type_of, field_of, fields_of}
use Rattle.avro_schema.specs.Fits.{Fits, FitsEntry, FitFields}
use Rattle.avro_value.proofs.fitting.+fits.Given as goal

abbrev pub invariant-all_fit-loop-value : goal.invariant-all_fit-loop-value
invariant-all_fit-loop-value l = AllByRecursion (Fits (type_of l.item)) (drop l.value-index l.values) ↔ AllByRecursion (Fits (type_of l.item)) l.values

abbrev pub invariant-all_entries_fit-loop-entry : goal.invariant-all_entries_fit-loop-entry
invariant-all_entries_fit-loop-entry l = AllByRecursion (FitsEntry (Fits (type_of l.schema))) (drop l.entry-index l.entries) ↔ AllByRecursion (FitsEntry (Fits (type_of l.schema))) l.entries

abbrev pub invariant-fields_fit-loop-i : goal.invariant-fields_fit-loop-i
invariant-fields_fit-loop-i l = FitFields (fields_of (map field_of (drop l.i l.fields))) (drop l.i l.values) ↔ FitFields (fields_of (map field_of l.fields)) l.values
