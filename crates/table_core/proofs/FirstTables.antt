-- The tables of a new table.
use Rattle.std.proofs.Common.{◌≡◌, ℕ, List, [], Option, None, unwrap_or, refl, sym, ap, subst}
use Rattle.std.specs.Prelude.{slice_get}
use Rattle.hudi_base.specs.declared.file_group.Target.{Target}
use Rattle.table_core.specs.ControlTables.{IsSlice}
use Rattle.table_core.specs.SliceStates.{SliceState, no_logs}
use Rattle.table_history.specs.Tables.{fresh}
use Rattle.table_history.specs.declared.view.Part.{Part}
use Rattle.table_props.specs.PropsTexts.{Told as Properties}

abbrev none_yet : (props : Properties) (s : Target) → IsSlice (fresh props) [] s no_logs
none_yet props s = record { logs = refl; version = refl; unused = refl; in_use = refl; later = λ v above. refl }

pub no_slice : (props : Properties) (s : Target) (o : Option SliceState) → o ≡ None → IsSlice (fresh props) [] s (unwrap_or o no_logs)
no_slice props s o none = let P : SliceState → Type 0 = λ slice. IsSlice (fresh props) [] s slice in subst P (sym (ap (λ o. unwrap_or o no_logs) none)) (none_yet props s)

pub no_part : (file : ℕ) (o : Option (List Part)) → o ≡ None → slice_get (unwrap_or o []) file ≡ None
no_part file o none = ap (λ (o : Option (List Part)). slice_get (unwrap_or o []) file) none
