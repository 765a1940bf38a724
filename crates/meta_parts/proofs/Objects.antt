-- Objects with no other members than those that are known.
use Rattle.std.proofs.Common.{◌≡◌, ℕ, true, false, List, Option, Some, None, refl}
use Rattle.std.specs.Prelude.{is_none, codes}
use Rattle.std.proofs.lemmas.Bool.{cond-true, cond-false}
use Rattle.hudi_base.specs.declared.file_group.Target.{Target}
use Rattle.serde_json.specs.Data.{Data}
use Rattle.table_forms.specs.JsonObjects.{least_unknown}
use Rattle.meta_parts.specs.Members.{◌>>=◌, number_32_in, at_member, only}
use Rattle.meta_parts.specs.Parts.{target_at}

pub only_known : {A : Type 0} (known : List (List ℕ)) (d : Data) (found : Option A) → is_none (least_unknown known d) ≡ true → only known d found ≡ found
only_known known d found e = cond-true (is_none (least_unknown known d)) found None e

pub only_unknown : {A : Type 0} (known : List (List ℕ)) (d : Data) (found : Option A) → is_none (least_unknown known d) ≡ false → only known d found ≡ None
only_unknown known d found e = cond-false (is_none (least_unknown known d)) found None e

-- a slice and a number of writes that were found
abbrev with_writes : Target → ℕ → Target × ℕ
with_writes target writes = (target, writes)

pub written_found : (table : List ℕ) (d : Data) (target : Target) (writes : ℕ) → target_at table d ≡ Some target → at_member number_32_in (codes "writes") d ≡ Some writes
    → (target_at table d >>= λ target. at_member number_32_in (codes "writes") d >>= λ writes. Some (with_writes target writes)) ≡ Some (with_writes target writes)
written_found table d target writes one other = rw (one, other) refl

pub ruleset members_alone = (only_known, only_unknown)
