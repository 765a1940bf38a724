-- The steps of a walk: what a value that was found tells of them, and the other way round.
use Rattle.std.proofs.Common.{◌≡◌, ℕ, Bool, true, false, ◌&&◌, cond, Option, Some, None, Result, Ok, Err, refl, ap}
use Rattle.avro_schema.specs.declared.schema_error.SchemaError.{SchemaError}
use Rattle.avro_schema.specs.Heads.{◌>>=◌, only_if, only_some}
use Rattle.avro_schema.specs.SchemaTexts.{at_position}

pub bind_Ok : {A B : Type 0} (r : Result A SchemaError) (f : A → Result B SchemaError) (y : B) → (r >>= f) ≡ Ok y → (x : A) × (r ≡ Ok x) × (f x ≡ Ok y)
bind_Ok (Ok x) f y e = (x, refl, e)
bind_Ok (Err error) f y e = absurd cc

pub bind_to : {A B : Type 0} (r : Result A SchemaError) (x : A) (f : A → Result B SchemaError) → r ≡ Ok x → (r >>= f) ≡ f x
bind_to r x f e = ap (λ (s : Result _ SchemaError). s >>= f) e

pub only_if_Ok : {A : Type 0} (test : Bool) (x y : A) → only_if test x ≡ Ok y → (test ≡ true) × (x ≡ y)
only_if_Ok true x y e = (refl, cc)
only_if_Ok false x y e = absurd cc

pub only_some_Ok : {A : Type 0} (o : Option A) (x : A) → only_some o ≡ Ok x → o ≡ Some x
only_some_Ok (Some y) x e = cc
only_some_Ok None x e = absurd cc

pub at_position_Ok : {A : Type 0} (position : ℕ) (r : Result A SchemaError) (x : A) → at_position position r ≡ Ok x → r ≡ Ok x
at_position_Ok position (Ok y) x e = e
at_position_Ok position (Err error) x e = absurd cc

pub ok_of : {A : Type 0} (x y : A) → ◌≡◌ {A = Result A SchemaError} (Ok x) (Ok y) → x ≡ y
ok_of x y e = cc

-- which way a test went
pub chosen : {A : Type 0} (b : Bool) (x y z : A) (P : Type 0) → cond b x y ≡ z → (x ≡ z → P) → (y ≡ z → P) → P
chosen true x y z P e when_true when_false = when_true e
chosen false x y z P e when_true when_false = when_false e

pub and_true : (a b : Bool) → (a && b) ≡ true → (a ≡ true) × (b ≡ true)
and_true true b e = (refl, e)
and_true false b e = absurd cc
