-- The types of Thrift's compact protocol, by their numbers.
use Rattle.std.specs.Prelude.{ℕ, Bool, ◌||◌, ◌&&◌, nat_le, ◌==◌, if◌then◌else◌, Option, Some, None}
use Rattle.thrift_compact.specs.declared.skipping.Shape.{Shape}
use Rattle.thrift_compact.specs.declared.skipping.Shape.TheVariants.{OfScalar, OfContainer}
use Rattle.thrift_compact.specs.declared.skipping.Scalar.TheVariants.{Empty, Byte, I16, I32, I64, Double, Binary}
use Rattle.thrift_compact.specs.declared.skipping.Container.TheVariants.{Items, Pairs, Fields}

-- one of the twelve types
abbrev pub is_type : ℕ → Bool
is_type number = nat_le 1 number && nat_le number 12

-- a boolean, which as a field is told by its type, and in a list, set or map by a byte
abbrev pub is_boolean : ℕ → Bool
is_boolean number = (number == 1) || (number == 2)

-- what the value of a field of the type consists of
unfoldable pub shape_of : ℕ → Option Shape
shape_of number =
    if is_boolean number then Some (OfScalar Empty) else
    if number == 3 then Some (OfScalar Byte) else
    if number == 4 then Some (OfScalar I16) else
    if number == 5 then Some (OfScalar I32) else
    if number == 6 then Some (OfScalar I64) else
    if number == 7 then Some (OfScalar Double) else
    if number == 8 then Some (OfScalar Binary) else
    if (number == 9) || (number == 10) then Some (OfContainer Items) else
    if number == 11 then Some (OfContainer Pairs) else
    if number == 12 then Some (OfContainer Fields) else None
