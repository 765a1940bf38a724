-- Members of a JSON object.
use Rattle.std.proofs.Common.{◌≡◌, ℕ, suc, List, [], ◌∷◌, length, Some, nat_eq, String, Global, refl, ap}
use Rattle.serde_json.specs.Data.{Data, null, boolean, number, string, array, object, Members}
use Rattle.serde_json.specs.Events.{members_len}
use Rattle.serde_json.specs.Find.{as_object}
use Rattle.serde_json.specs.View.{members_view}
use Rattle.serde_json.specs.declared.value.Value.{Value}
use Rattle.job_script.specs.Script.{has_members}

pub has_members-as_object : (n : ℕ) (value : Data) (members : Members) → as_object value ≡ Some members → has_members n value ≡ nat_eq (members_len members) n
has_members-as_object n null ms is = cc
has_members-as_object n (boolean b) ms is = cc
has_members-as_object n (number x) ms is = cc
has_members-as_object n (string s) ms is = cc
has_members-as_object n (array items) ms is = cc
has_members-as_object n (object own) ms is = let same : own ≡ ms = cc in ap (λ m. nat_eq (members_len m) n) same

pub members_len-members_view : (entries : List (String Global × Value)) → members_len (members_view entries) ≡ length entries
members_len-members_view [] = refl
members_len-members_view (e ∷ entries) = ap suc (members_len-members_view entries)
