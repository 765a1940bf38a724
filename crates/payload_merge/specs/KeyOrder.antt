-- The order in which borrowed writes are folded: by their record keys, of which the first bytes decide most. Only
-- private clauses cite this.
use Rattle.std.specs.Prelude.{◌≡◌, ◌≢◌, ◌<◌, ℕ, zero, suc, Bool, Option, Some, None, List, [], ◌∷◌, map, filter, get_or}
use Rattle.std.specs.Int.{from_be_bytes, w64}
use Rattle.std.specs.List.{AllByRecursion}
use Rattle.std.specs.Cmp.Lexicographic.{slice_cmp}
use Rattle.std.specs.Option.{option_map}
use Rattle.std.specs.Ordering.{nat_cmp, eq_by_cmp}
use Rattle.std.specs.declared.cmp.Ordering.{Ordering}
use Rattle.std.specs.declared.cmp.Ordering.TheVariants.{Less}
use Rattle.payload_merge.specs.declared.row_refs.RowRef.{RowRef}
use Rattle.payload_merge.specs.declared.row_refs.WriteRef.{WriteRef}
use Rattle.payload_merge.specs.declared.prefixed_writes.PrefixedWrite.{PrefixedWrite}
use Rattle.payload_merge.specs.Payload.{row_after}
use Rattle.payload_merge.specs.RowRefs.{key_of_ref, row_in, write_in}

-- record keys are ordered by their bytes
abbrev pub bytes_cmp : List ℕ → List ℕ → Ordering
bytes_cmp = slice_cmp nat_cmp

-- the first bytes of a key, so many of them, with zeros where it has no more
abbrev pub zero_extended_prefix : ℕ → List ℕ → List ℕ
zero_extended_prefix zero key = []
zero_extended_prefix (suc more) [] = 0 ∷ zero_extended_prefix more []
zero_extended_prefix (suc more) (byte ∷ key) = byte ∷ zero_extended_prefix more key

-- the first eight bytes of a key as a number, of a key that is bytes
pub record IsKeyPrefix (prefix : ℕ) (key : List ℕ) : Type 0 where
  pub number : prefix ≡ from_be_bytes w64 (zero_extended_prefix 8 key)
  pub bytes : (i : ℕ) → get_or key i 0 < 256

-- the write that stands with a prefix
abbrev pub write_of : PrefixedWrite → WriteRef
write_of prefixed = prefixed.write.now

-- these writes, in this order, each with the prefix of its key
pub record ArePrefixed (writes : List WriteRef) (prefixed : List PrefixedWrite) : Type 0 where
  pub same : map write_of prefixed ≡ writes
  pub prefixes : AllByRecursion (λ one. IsKeyPrefix one.prefix (key_of_ref one.write.now)) prefixed

-- no key is below this one, or below the one before it
abbrev pub KeysRiseFrom : List ℕ → List WriteRef → Type 0
KeysRiseFrom key [] = Unit {0}
KeysRiseFrom key (write ∷ writes) = (bytes_cmp (key_of_ref write) key ≢ Less) × KeysRiseFrom (key_of_ref write) writes

-- no key is below the one before it; the least key has no bytes
abbrev pub KeysRise : List WriteRef → Type 0
KeysRise writes = KeysRiseFrom [] writes

-- whether a write is to this key
abbrev pub has_key : List ℕ → WriteRef → Bool
has_key key write = eq_by_cmp bytes_cmp key (key_of_ref write)

-- the writes in the order of their keys, those to one key as they came
pub record OrdersByKey (writes ordered : List WriteRef) : Type 0 where
  pub rise : KeysRise ordered
  pub stable : (key : List ℕ) → filter (has_key key) ordered ≡ filter (has_key key) writes

-- of the row that a key has, if any, and a write to it, this is left
abbrev pub IsLeftBy : WriteRef → Option RowRef → Option RowRef → Type 0
IsLeftBy write present left = (partition : List ℕ) →
    row_after (option_map (row_in partition) present) (write_in partition write) ≡ option_map (row_in partition) left

-- a row, if there is one, as a list
abbrev pub listed : Option RowRef → List RowRef
listed None = []
listed (Some row) = row ∷ []
