-- The texts of written blocks.
use Rattle.std.proofs.Common.{◌≡◌, ◌≤◌, ◌<◌, ◌+◌, ℕ, zero, suc, List, [], ◌∷◌, ◌++◌, length, Some, None, Ok, Err, refl, sym, ap, ◌∙◌, arith, length-append, append_assoc, append-nil, zero-add}
use Rattle.std.proofs.Math.Seq.{drop-append_seam}
use Rattle.std.specs.List.{AllByRecursion}
use Rattle.log_block.specs.Form.{Fits, block_bytes}
use Rattle.log_block.specs.Reading.{block_at}
use Rattle.log_block.specs.declared.block.Block.{Block}
use Rattle.log_block.specs.declared.block.BlockRead.TheVariants.{Torn, Bad}
use Rattle.log_block.proofs.Blocks.{block_at_again}
use Rattle.log_scan.specs.Texts.{bytes_of_blocks, scan_from, scan_of, with_block}
use Rattle.log_scan.proofs.Steps.{behind, behind-none, behind-bad, front_whole, front_torn, front_bad, front_none, not_empty}

-- blocks, and then a rest that is scanned as this
texts : (blocks : List Block) (most offset : ℕ) (rest : List ℕ) → AllByRecursion Fits blocks → length (bytes_of_blocks blocks ++ rest) ≤ most
    → (k : ℕ) × (length rest ≤ k) × (scan_from most offset (bytes_of_blocks blocks ++ rest) ≡ behind blocks (scan_from k (offset + length (bytes_of_blocks blocks)) rest))
texts [] most offset rest fit room =
    let none : offset ≡ offset + 0 = omega arith in
    (most, room, ap (λ (at : ℕ). scan_from most at rest) none)
texts (block ∷ blocks) zero offset rest fit room =
    let some = not_empty block in
    absurd (omega (arith, length-append (block_bytes block ++ bytes_of_blocks blocks) rest, length-append (block_bytes block) (bytes_of_blocks blocks), some, room))
texts (block ∷ blocks) (suc most) offset rest fit room =
    let some = not_empty block in
    let len : ℕ = length (block_bytes block) in
    let parts : bytes_of_blocks (block ∷ blocks) ++ rest ≡ block_bytes block ++ (bytes_of_blocks blocks ++ rest) = append_assoc (block_bytes block) (bytes_of_blocks blocks) rest in
    let long : length (block_bytes block ++ (bytes_of_blocks blocks ++ rest)) ≡ len + length (bytes_of_blocks blocks ++ rest) = length-append (block_bytes block) (bytes_of_blocks blocks ++ rest) in
    let room_behind : length (bytes_of_blocks blocks ++ rest) ≤ most = omega (arith, ap length parts, long, some, room) in
    let later = texts blocks most (offset + len) rest fit.1 room_behind in
    let moved : (offset + len) + length (bytes_of_blocks blocks) ≡ offset + length (bytes_of_blocks (block ∷ blocks)) = omega (arith, length-append (block_bytes block) (bytes_of_blocks blocks)) in (
      later.0,
      later.1,
      ap (scan_from (suc most) offset) parts
          ∙ front_whole most offset (block_bytes block ++ (bytes_of_blocks blocks ++ rest)) block len (omega (arith, long, some)) (block_at_again block (bytes_of_blocks blocks ++ rest) fit.0)
          ∙ ap (λ (bytes : List ℕ). with_block block (scan_from most (offset + len) bytes)) (drop-append_seam (block_bytes block) (bytes_of_blocks blocks ++ rest))
          ∙ ap (with_block block) (later.2 ∙ ap (λ (at : ℕ). behind blocks (scan_from later.0 at rest)) moved),
    )

pub whole_text : (blocks : List Block) → AllByRecursion Fits blocks → scan_of (bytes_of_blocks blocks) ≡ Ok (record { blocks = blocks; torn_at = None })
unfolding scan_of
whole_text blocks fit =
    let none : bytes_of_blocks blocks ++ [] ≡ bytes_of_blocks blocks = append-nil (bytes_of_blocks blocks) in
    let found = texts blocks (length (bytes_of_blocks blocks)) 0 [] fit (omega (arith, ap length none)) in
    ap (scan_from (length (bytes_of_blocks blocks)) 0) (sym none) ∙ found.2 ∙ ap (behind blocks) (front_none found.0 (0 + length (bytes_of_blocks blocks)) [] refl) ∙ behind-none blocks None

pub torn_text : (blocks : List Block) (rest : List ℕ) → AllByRecursion Fits blocks → block_at rest ≡ Torn → 0 < length rest
    → scan_of (bytes_of_blocks blocks ++ rest) ≡ Ok (record { blocks = blocks; torn_at = Some (length (bytes_of_blocks blocks)) })
unfolding scan_of
torn_text blocks rest fit torn some =
    let found = texts blocks (length (bytes_of_blocks blocks ++ rest)) 0 rest fit (omega arith) in
    found.2 ∙ by found.0 found.1
  where
    by : (k : ℕ) → length rest ≤ k → behind blocks (scan_from k (0 + length (bytes_of_blocks blocks)) rest) ≡ Ok (record { blocks = blocks; torn_at = Some (length (bytes_of_blocks blocks)) })
    by zero room = absurd (omega arith)
    by (suc k) room =
        ap (behind blocks) (front_torn k (0 + length (bytes_of_blocks blocks)) rest some torn) ∙ behind-none blocks (Some (0 + length (bytes_of_blocks blocks)))
        ∙ ap (λ (at : ℕ). Ok (record { blocks = blocks; torn_at = Some at })) (zero-add (length (bytes_of_blocks blocks)))

pub bad_text : (blocks : List Block) (rest : List ℕ) (at : ℕ) → AllByRecursion Fits blocks → block_at rest ≡ Bad at → 0 < length rest
    → scan_of (bytes_of_blocks blocks ++ rest) ≡ Err (length (bytes_of_blocks blocks) + at)
unfolding scan_of
bad_text blocks rest at fit bad some =
    let found = texts blocks (length (bytes_of_blocks blocks ++ rest)) 0 rest fit (omega arith) in
    found.2 ∙ by found.0 found.1
  where
    by : (k : ℕ) → length rest ≤ k → behind blocks (scan_from k (0 + length (bytes_of_blocks blocks)) rest) ≡ Err (length (bytes_of_blocks blocks) + at)
    by zero room = absurd (omega arith)
    by (suc k) room =
        ap (behind blocks) (front_bad k (0 + length (bytes_of_blocks blocks)) rest at some bad) ∙ behind-bad blocks _
        ∙ ap (λ (n : ℕ). Err (n + at)) (zero-add (length (bytes_of_blocks blocks)))
