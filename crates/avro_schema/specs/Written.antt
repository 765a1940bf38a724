-- The one form in which a value is written: the shortest numbers, one block at most, and no size. The types of a value
-- are in the value, but for the branch of a union and what an enum's symbols are, which no byte of it tells.
use Rattle.std.specs.Prelude.{◌+◌, ℕ, if◌then◌else◌, List, [], ◌∷◌, ◌++◌, length, flat_map, sum_by}
use Rattle.hudi_base.specs.declared.value.Value.{Value, fold-Value}
use Rattle.hudi_base.specs.declared.value.Value.TheFolds.{fold-Pair}
use Rattle.hudi_base.specs.declared.value.Value.TheOpen.{Value-F, Pair-F}
use Rattle.hudi_base.specs.declared.value.Pair.{Pair}
use Rattle.byte_fields.specs.Varints.{varint, zigzag}
use Rattle.byte_fields.specs.Prefixed.{with_length, long_bytes}

-- the blocks of items in their written forms
abbrev pub block_of : List (List ℕ) → List ℕ
block_of [] = 0 ∷ []
block_of (item ∷ items) = long_bytes (length (item ∷ items)) ++ (flat_map (λ bs. bs) (item ∷ items) ++ 0 ∷ [])

-- one level of a value, with the written form of each value and entry inside in its place
abbrev pub written_step : Value-F (List ℕ) (List ℕ) → List ℕ
written_step Value-F.Null = []
written_step (Value-F.Boolean b) = (if b then 1 else 0) ∷ []
written_step (Value-F.Int z) = varint (zigzag z)
written_step (Value-F.Long z) = varint (zigzag z)
written_step (Value-F.Bytes content) = with_length long_bytes content
written_step (Value-F.Text content) = with_length long_bytes content
written_step (Value-F.Fixed content) = content
written_step (Value-F.Enum n) = long_bytes n
written_step (Value-F.Array items) = block_of items
written_step (Value-F.Map entries) = block_of entries
written_step (Value-F.Union n inner) = long_bytes n ++ inner
written_step (Value-F.Record values) = flat_map (λ bs. bs) values

abbrev pub written_entry_step : Pair-F (List ℕ) (List ℕ) → List ℕ
written_entry_step pair = with_length long_bytes pair.key ++ pair.value

abbrev pub written : Value → List ℕ
written = fold-Value (List ℕ) (List ℕ) written_step written_entry_step

-- an entry of a map: its key as a string, and its value
abbrev pub written_entry : Pair → List ℕ
written_entry = fold-Pair (List ℕ) (List ℕ) written_step written_entry_step

-- ---- how many items of arrays and entries of maps a value has, at all depths

abbrev pub count_step : Value-F ℕ ℕ → ℕ
count_step (Value-F.Array items) = sum_by (λ n. n + 1) items
count_step (Value-F.Map entries) = sum_by (λ n. n + 1) entries
count_step (Value-F.Union n inner) = inner
count_step (Value-F.Record values) = sum_by (λ n. n) values
count_step _ = 0

abbrev pub count_entry_step : Pair-F ℕ ℕ → ℕ
count_entry_step pair = pair.value

abbrev pub item_count : Value → ℕ
item_count = fold-Value ℕ ℕ count_step count_entry_step

abbrev pub entry_count : Pair → ℕ
entry_count = fold-Pair ℕ ℕ count_step count_entry_step
