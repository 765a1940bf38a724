-- Deletes are read back.
use Rattle.std.proofs.Common.{◌≡◌, ℕ, ◌<◌, ◌^◌, List, [], ◌∷◌, ◌++◌, length, Ok, All, sym, ap, ◌∙◌, append_assoc, arith}
use Rattle.std.specs.Prelude.{ℤ, pos, negsuc, FitsSigned}
use Rattle.std.specs.Int.{cast_unsigned, w64}
use Rattle.std.specs.List.{AllByRecursion}
use Rattle.std.proofs.lemmas.Int.{to_z-of_z}
use Rattle.byteorder.specs.Endian.{big_bytes, big_number}
use Rattle.byte_fields.specs.Numbers.{number_at, signed_at}
use Rattle.byte_fields.specs.Prefixed.{with_length, prefixed_at}
use Rattle.byte_fields.specs.Reading.{Reading, as_item}
use Rattle.byte_fields.proofs.NumberLemmas.{big4, big8, number_at_again}
use Rattle.byte_fields.proofs.PrefixedLemmas.{prefixed_at_again, number_length}
use Rattle.byte_fields.proofs.ReadingLemmas.{bind_is}
use Rattle.payload_merge.specs.declared.row.Write.{Write}
use Rattle.payload_merge.specs.declared.row.Write.TheVariants.{Put, Del}
use Rattle.std.proofs.lemmas.List.Elements.{All-head, All-tail}
use Rattle.block_contents.specs.Contents.{content_at, with_offset}
use Rattle.block_contents.specs.Deletes.{key_and_rank_bytes, key_and_rank_at, delete_at, delete_bytes, deletes_bytes, deletes_in, IsDelete, IsDeleteIn}
use Rattle.block_contents.specs.Readers.{HasRank}
use Rattle.block_contents.proofs.ItemLemmas.{content_again}

cast_unsigned-below : (rank : ℤ) → FitsSigned w64 rank → cast_unsigned w64 rank < 2 ^ 64
cast_unsigned-below (pos n) fits = omega (arith, fits.sfits)
cast_unsigned-below (negsuc n) fits = omega arith

rank_again : (rank : ℤ) (rest : List ℕ) → FitsSigned w64 rank → signed_at big_number w64 8 (big_bytes 8 (cast_unsigned w64 rank) ++ rest) ≡ Ok (rank, rest)
unfolding signed_at
rank_again rank rest fits =
    bind_is (number_at big_number 8 (big_bytes 8 (cast_unsigned w64 rank) ++ rest)) (cast_unsigned w64 rank, rest) _ (number_at_again big_number big_bytes 8 (cast_unsigned w64 rank) rest big8 (cast_unsigned-below rank fits))
    ∙ ap (λ (z : ℤ). let found : Reading ℤ = Ok (z, rest) in found) (to_z-of_z w64 rank fits)

pub delete_again : (partition key : List ℕ) (rank : ℤ) (rest : List ℕ) → length key < 2 ^ 32 → FitsSigned w64 rank
    → delete_at partition (key_and_rank_bytes key rank ++ rest) ≡ Ok (Del partition key rank, rest)
unfolding delete_at key_and_rank_at
delete_again partition key rank rest short fits =
    let number = big_bytes 8 (cast_unsigned w64 rank) in
    let after = number ++ rest in
    let grouped : key_and_rank_bytes key rank ++ rest ≡ with_length (big_bytes 4) key ++ after = append_assoc (with_length (big_bytes 4) key) number rest in
    let bytes = with_length (big_bytes 4) key ++ after in
    ap (delete_at partition) grouped
    ∙ ap (as_item bytes)
    (bind_is (prefixed_at (number_at big_number 4) bytes) (key, after) _ (prefixed_at_again (number_at big_number 4) (big_bytes 4) key after (number_length big_number big_bytes 4 (length key) big4 short))
    ∙ bind_is (signed_at big_number w64 8 after) (rank, rest) _ (rank_again rank rest fits))

-- what holds of each delete that is written
abbrev IsWritten : List ℕ → Write → Type 0
IsWritten partition write = IsDelete write × HasRank write × IsDeleteIn partition write

write_again : (partition : List ℕ) (write : Write) (rest : List ℕ) → IsWritten partition write → delete_at partition (delete_bytes write ++ rest) ≡ Ok (write, rest)
write_again partition (Del own key rank) rest told =
    delete_again partition key rank rest told.0 told.1
    ∙ ap (λ (p : List ℕ). let found : Reading Write = Ok (Del p key rank, rest) in found) (sym told.2)
write_again partition (Put row) rest told = absurd told.0

all_written : (partition : List ℕ) (writes : List Write) → All IsDelete writes → All HasRank writes → All (IsDeleteIn partition) writes → AllByRecursion (IsWritten partition) writes
all_written partition [] deletes ranked placed = tt
all_written partition (write ∷ writes) deletes ranked placed = (
  (All-head IsDelete write writes deletes, All-head HasRank write writes ranked, All-head (IsDeleteIn partition) write writes placed),
  all_written partition writes (All-tail IsDelete write writes deletes) (All-tail HasRank write writes ranked) (All-tail (IsDeleteIn partition) write writes placed),
)

-- the deletes of a written content are read back
pub deletes_again : (partition : List ℕ) (writes : List Write) (content : List ℕ) → content ≡ deletes_bytes writes → length writes < 2 ^ 32
    → All IsDelete writes → All HasRank writes → All (IsDeleteIn partition) writes → deletes_in partition content ≡ Ok writes
deletes_again partition writes content same few deletes ranked placed =
    ap (with_offset (length content))
    (ap (content_at (delete_at partition)) same
    ∙ content_again (delete_at partition) delete_bytes (IsWritten partition) (write_again partition) writes few (all_written partition writes deletes ranked placed))
