-- Whether branches and fields fit.
use Rattle.std.proofs.Common.{◌≡◌, ◌↔◌, ℕ, zero, suc, ◌≤◌, ◌<◌, List, [], ◌∷◌, length, get_or, map, sym, ap, subst, ◌∙◌, arith}
use Rattle.hudi_base.specs.declared.value.Value.{Value}
use Rattle.avro_schema.specs.declared.schema.Schema.{Schema}
use Rattle.avro_schema.specs.declared.schema.Field.{Field}
use Rattle.avro_schema.specs.AvroTypes.{type_of, field_of, branches_of, fields_of}
use Rattle.avro_schema.specs.Fits.{Fits, FitsBranch, FitFields}

pub branch_fits : (branches : List Schema) (i : ℕ) (x : Schema) (v : Value) → i < length branches → x ≡ get_or branches i x → Fits (type_of x) v ↔ FitsBranch (branches_of (map type_of branches)) i v
branch_fits [] i x v below is = absurd (omega arith)
branch_fits (y ∷ ys) zero x v below is = (λ fits. subst (λ (s : Schema). Fits (type_of s) v) is fits, λ fits. subst (λ (s : Schema). Fits (type_of s) v) (sym is) fits)
branch_fits (y ∷ ys) (suc i) x v below is = branch_fits ys i x v (omega arith) is

pub no_branch_fits : (branches : List Schema) (i : ℕ) (v : Value) → length branches ≤ i → FitsBranch (branches_of (map type_of branches)) i v → ⊥
no_branch_fits [] i v over fits = fits
no_branch_fits (y ∷ ys) zero v over fits = absurd (omega arith)
no_branch_fits (y ∷ ys) (suc i) v over fits = no_branch_fits ys i v (omega arith) fits

pub fields_length : (fields : List Field) (values : List Value) → FitFields (fields_of (map field_of fields)) values → length fields ≡ length values
fields_length [] values fits = sym (ap length fits)
fields_length (f ∷ fs) values fits = ap suc (fields_length fs fits.1 fits.4) ∙ sym (ap length fits.2)
