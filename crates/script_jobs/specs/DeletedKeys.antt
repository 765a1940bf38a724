-- The keys of a `delete` line. This project's own.
use Rattle.std.specs.Prelude.{ℕ, ℤ, List, [], ◌∷◌, Option, Some, None, is_none, option_map, option_and_then, codes}
use Rattle.serde_json.specs.Data.{Data, Items, no_items, item}
use Rattle.serde_json.specs.Find.{get, as_number, as_i64}
use Rattle.table_forms.specs.JsonObjects.{text_at, least_unknown}
use Rattle.table_props.specs.PropsTexts.{only_if, ◌>>=◌}
use Rattle.table_jobs.specs.declared.del_key.DelKey.{DelKey}

-- a rank, which may be missing
abbrev pub rank_of : Option Data → Option (Option ℤ)
rank_of None = Some None
rank_of (Some d) = option_map Some (option_and_then as_i64 (as_number d))

abbrev pub key_members : List (List ℕ)
key_members = codes "partition" ∷ codes "key" ∷ codes "rank" ∷ []

-- an object with a partition, a key, a rank if there is one, and nothing else
unfoldable pub key_of : Data → Option DelKey
key_of d = do
  partition ← text_at (codes "partition") d
  key ← text_at (codes "key") d
  rank ← rank_of (get (codes "rank") d)
  only_if (is_none (least_unknown key_members d)) (Some (record { partition = partition; key = key; rank = rank }))

-- all of the items as keys
unfoldable pub keys_of : Items → Option (List DelKey)
keys_of no_items = Some []
keys_of (item d ds) = option_and_then (λ key. option_map (λ keys. key ∷ keys) (keys_of ds)) (key_of d)
