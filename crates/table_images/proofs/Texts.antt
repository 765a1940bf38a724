-- Which blocks stand in the text of a log, and what more bytes add.
use Rattle.std.proofs.Common.{◌≡◌, ◌⊎◌, inl, inr, ◌<◌, ◌≤◌, ℕ, zero, suc, List, [], ◌∷◌, ◌++◌, length, take, append_assoc, append-nil, length-append, refl, sym, ap, ◌∙◌, subst, arith}
use Rattle.std.proofs.Math.Seq.{drop-append_seam}
use Rattle.std.proofs.lemmas.List.{take_all}
use Rattle.std.specs.List.{AllByRecursion}
use Rattle.log_block.specs.Form.{Fits, block_bytes}
use Rattle.log_block.specs.Reading.{block_at}
use Rattle.log_block.specs.declared.block.Block.{Block}
use Rattle.log_block.specs.declared.block.BlockRead.TheVariants.{Whole, Torn}
use Rattle.log_block.proofs.Blocks.{block_at_again, block_at-take, block_at-torn}
use Rattle.table_images.specs.LogTexts.{bytes_of_blocks, first_blocks, blocks_in, IsLogOf}
use Rattle.table_images.proofs.Advances.{le_or_lt}

-- ---- what is torn has no block

none_torn : (most : ℕ) (bytes : List ℕ) → block_at bytes ≡ Torn → first_blocks most bytes ≡ []
none_torn zero bytes torn = refl
none_torn (suc most) bytes torn = rw torn refl

nothing_torn : block_at [] ≡ Torn
nothing_torn = block_at-torn [] (refl, inl (omega arith))

none_behind : (most : ℕ) (rest : List ℕ) → (rest ≡ []) ⊎ (block_at rest ≡ Torn) → first_blocks most rest ≡ []
none_behind most rest (inl empty) = none_torn most rest (ap block_at empty ∙ nothing_torn)
none_behind most rest (inr torn) = none_torn most rest torn

-- ---- whole blocks are read

not_empty : (block : Block) → Fits block → 0 < length (block_bytes block)
not_empty block fits = by_length (block_bytes block) refl
  where
    by_length : (bytes : List ℕ) → block_bytes block ≡ bytes → 0 < length bytes
    by_length [] is =
        let whole : block_at (block_bytes block ++ []) ≡ Whole block (length (block_bytes block)) = block_at_again block [] fits in
        let torn : block_at (block_bytes block ++ []) ≡ Torn = ap (λ bytes. block_at (bytes ++ [])) is ∙ nothing_torn in
        let wrong : Whole block (length (block_bytes block)) ≡ Torn = sym whole ∙ torn in
        cc
    by_length (x ∷ bytes) is = omega arith

first_one : (most : ℕ) (block : Block) (more : List ℕ) → Fits block → first_blocks (suc most) (block_bytes block ++ more) ≡ block ∷ first_blocks most more
first_one most block more fits = rw (block_at_again block more fits) (ap (λ bytes. block ∷ first_blocks most bytes) (drop-append_seam (block_bytes block) more))

first_all : (blocks : List Block) (most : ℕ) (rest : List ℕ) → AllByRecursion Fits blocks → (rest ≡ []) ⊎ (block_at rest ≡ Torn) → length blocks ≤ most
    → first_blocks most (bytes_of_blocks blocks ++ rest) ≡ blocks
first_all [] most rest fit torn le = none_behind most rest torn
first_all (block ∷ blocks) zero rest fit torn le = absurd (omega arith)
first_all (block ∷ blocks) (suc most) rest fit torn le =
    ap (first_blocks (suc most)) (append_assoc (block_bytes block) (bytes_of_blocks blocks) rest)
    ∙ first_one most block (bytes_of_blocks blocks ++ rest) fit.0
    ∙ ap (λ bs. block ∷ bs) (first_all blocks most rest fit.1 torn (omega arith))

enough : (blocks : List Block) → AllByRecursion Fits blocks → length blocks ≤ length (bytes_of_blocks blocks)
enough [] fit = omega arith
enough (block ∷ blocks) fit =
    let more = not_empty block fit.0 in
    let rest = enough blocks fit.1 in
    omega (arith, length-append (block_bytes block) (bytes_of_blocks blocks), more, rest)

-- the blocks of a log's text are the ones that stand in it
pub blocks_of_log : (blocks : List Block) (bytes : List ℕ) → IsLogOf blocks bytes → blocks_in bytes ≡ blocks
unfolding blocks_in
blocks_of_log blocks bytes log =
    let long : length (bytes_of_blocks blocks ++ log.rest) ≡ length bytes = ap length (sym log.are) in
    ap (first_blocks (length bytes)) log.are
    ∙ first_all blocks (length bytes) log.rest log.fit log.torn (let short = enough blocks log.fit in omega (arith, length-append (bytes_of_blocks blocks) log.rest, long, short))

pub no_blocks : blocks_in [] ≡ []
unfolding blocks_in
no_blocks = refl

-- ---- more bytes

pub bytes_more : (blocks more : List Block) → bytes_of_blocks (blocks ++ more) ≡ bytes_of_blocks blocks ++ bytes_of_blocks more
bytes_more [] more = refl
bytes_more (block ∷ blocks) more = ap (λ bytes. block_bytes block ++ bytes) (bytes_more blocks more) ∙ sym (append_assoc (block_bytes block) (bytes_of_blocks blocks) (bytes_of_blocks more))

pub bytes_one_more : (blocks : List Block) (block : Block) → bytes_of_blocks (blocks ++ block ∷ []) ≡ bytes_of_blocks blocks ++ block_bytes block
bytes_one_more blocks block = bytes_more blocks (block ∷ []) ∙ ap (λ bytes. bytes_of_blocks blocks ++ bytes) (append-nil (block_bytes block))

pub fit_more : {X : Type 0} (P : X → Type 0) (xs ys : List X) → AllByRecursion P xs → AllByRecursion P ys → AllByRecursion P (xs ++ ys)
fit_more P [] ys all also = also
fit_more P (x ∷ xs) ys all also = (all.0, fit_more P xs ys all.1 also)

pub log_of_blocks : (blocks : List Block) → AllByRecursion Fits blocks → IsLogOf blocks (bytes_of_blocks blocks)
log_of_blocks blocks fit = record { fit = fit; rest = []; are = sym (append-nil (bytes_of_blocks blocks)); torn = inl refl }

-- What is added to whole blocks by a prefix of a block: nothing, or the block.
pub record AddsUpTo (blocks : List Block) (block : Block) (bytes : List ℕ) : Type 0 where
  pub new : List Block
  pub is : (new ≡ []) ⊎ (new ≡ block ∷ [])
  pub log : IsLogOf (blocks ++ new) bytes

pub adds_whole : (blocks : List Block) (block : Block) → AllByRecursion Fits blocks → Fits block → IsLogOf (blocks ++ block ∷ []) (bytes_of_blocks blocks ++ block_bytes block)
adds_whole blocks block fit fits = subst (IsLogOf (blocks ++ block ∷ [])) (bytes_one_more blocks block) (log_of_blocks (blocks ++ block ∷ []) (fit_more Fits blocks (block ∷ []) fit (fits, tt)))

pub adds_prefix : (blocks : List Block) (block : Block) (n : ℕ) → AllByRecursion Fits blocks → Fits block → AddsUpTo blocks block (bytes_of_blocks blocks ++ take n (block_bytes block))
adds_prefix blocks block n fit fits = by_order (le_or_lt (length (block_bytes block)) n)
  where
    by_order : (length (block_bytes block) ≤ n) ⊎ (n < length (block_bytes block)) → AddsUpTo blocks block (bytes_of_blocks blocks ++ take n (block_bytes block))
    by_order (inl all) = record {
      new = block ∷ [];
      is = inr refl;
      log = subst (λ bytes. IsLogOf (blocks ++ block ∷ []) (bytes_of_blocks blocks ++ bytes)) (sym (take_all n (block_bytes block) all)) (adds_whole blocks block fit fits);
    }
    by_order (inr cut) = record {
      new = [];
      is = inl refl;
      log = record {
        fit = fit_more Fits blocks [] fit tt;
        rest = take n (block_bytes block);
        are = ap (λ bs. bytes_of_blocks bs ++ take n (block_bytes block)) (sym (append-nil blocks));
        torn = inr (block_at-take block n fits cut);
      };
    }
