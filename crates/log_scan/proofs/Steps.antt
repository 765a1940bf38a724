-- How far a text is scanned.
use Rattle.std.proofs.Common.{◌≡◌, ◌≤◌, ◌<◌, ◌+◌, ◌-◌, ℕ, zero, suc, List, [], ◌∷◌, ◌++◌, length, take, drop, Option, Some, None, Result, Ok, Err, refl, sym, ap, ◌∙◌, arith, length-append, length-take, length-drop}
use Rattle.std.proofs.lemmas.List.{take_all}
use Rattle.log_block.specs.Answers.{IsWritten}
use Rattle.log_block.specs.Form.{block_bytes, frame}
use Rattle.log_block.specs.Reading.{block_at}
use Rattle.log_block.specs.declared.block.Block.{Block}
use Rattle.log_block.specs.declared.block.BlockRead.TheVariants.{Whole, Torn, Bad}
use Rattle.log_scan.specs.Texts.{scan_from, scan_of, with_block}
use Rattle.log_scan.specs.declared.found.Scan.{Scan}

-- blocks before what comes behind them
abbrev pub behind : List Block → Result Scan ℕ → Result Scan ℕ
behind [] rest = rest
behind (block ∷ blocks) rest = with_block block (behind blocks rest)

behind-push : (blocks : List Block) (block : Block) (rest : Result Scan ℕ) → behind (blocks ++ block ∷ []) rest ≡ behind blocks (with_block block rest)
behind-push [] block rest = refl
behind-push (first ∷ blocks) block rest = ap (with_block first) (behind-push blocks block rest)

pub behind-none : (blocks : List Block) (torn : Option ℕ) → behind blocks (Ok (record { blocks = []; torn_at = torn })) ≡ Ok (record { blocks = blocks; torn_at = torn })
behind-none [] torn = refl
behind-none (block ∷ blocks) torn = ap (with_block block) (behind-none blocks torn)

pub behind-bad : (blocks : List Block) (at : ℕ) → behind blocks (Err at) ≡ Err at
behind-bad [] at = refl
behind-bad (block ∷ blocks) at = ap (with_block block) (behind-bad blocks at)

-- ---- one front

pub front_whole : (most offset : ℕ) (bytes : List ℕ) (block : Block) (len : ℕ) → 0 < length bytes → block_at bytes ≡ Whole block len
    → scan_from (suc most) offset bytes ≡ with_block block (scan_from most (offset + len) (drop len bytes))
front_whole most offset [] block len some is = absurd (omega arith)
front_whole most offset (byte ∷ bytes) block len some is = rw is refl

pub front_torn : (most offset : ℕ) (bytes : List ℕ) → 0 < length bytes → block_at bytes ≡ Torn
    → scan_from (suc most) offset bytes ≡ Ok (record { blocks = []; torn_at = Some offset })
front_torn most offset [] some is = absurd (omega arith)
front_torn most offset (byte ∷ bytes) some is = rw is refl

pub front_bad : (most offset : ℕ) (bytes : List ℕ) (at : ℕ) → 0 < length bytes → block_at bytes ≡ Bad at → scan_from (suc most) offset bytes ≡ Err (offset + at)
front_bad most offset [] at some is = absurd (omega arith)
front_bad most offset (byte ∷ bytes) at some is = rw is refl

pub front_none : (most offset : ℕ) (bytes : List ℕ) → length bytes ≡ 0 → scan_from most offset bytes ≡ Ok (record { blocks = []; torn_at = None })
front_none most offset [] none = refl
front_none most offset (byte ∷ bytes) none = absurd (omega arith)

-- ---- the whole text

none_dropped : (n : ℕ) → drop {A = ℕ} n [] ≡ []
none_dropped zero = refl
none_dropped (suc n) = refl

drop_twice : (m n : ℕ) (xs : List ℕ) → drop n (drop m xs) ≡ drop (m + n) xs
drop_twice zero n xs = let e : n ≡ zero + n = omega arith in ap (λ (k : ℕ). drop k xs) e
drop_twice (suc m) n [] = none_dropped n ∙ sym (none_dropped (suc m + n))
drop_twice (suc m) n (x ∷ xs) =
    let one : suc (m + n) ≡ suc m + n = omega arith in
    drop_twice m n xs ∙ ap (λ (k : ℕ). drop k (x ∷ xs)) one

-- so many bytes are these blocks, and the rest is still to be scanned
pub record IsScanned (bytes : List ℕ) (blocks : List Block) (offset : ℕ) : Type 0 where
  pub within : offset ≤ length bytes
  pub counted : length blocks ≤ offset
  pub text : scan_of bytes ≡ behind blocks (scan_from (length bytes - length blocks) offset (drop offset bytes))

pub begins : (bytes : List ℕ) → IsScanned bytes [] 0
unfolding scan_of
begins bytes = record { within = omega arith; counted = omega arith; text = let e : length bytes ≡ length bytes - 0 = omega arith in ap (λ (n : ℕ). scan_from n 0 bytes) e }

pub not_empty : (block : Block) → 0 < length (block_bytes block)
unfolding frame
not_empty block = omega (arith, length-append {A = ℕ})

-- the bytes from an offset on, as a slice of them is written
pub rest_is : (bytes : List ℕ) (offset : ℕ) → take (length bytes - offset) (drop offset bytes) ≡ drop offset bytes
rest_is bytes offset = take_all (length bytes - offset) (drop offset bytes) (omega (arith, length-drop offset bytes))

pub whole_length : (bytes : List ℕ) (block : Block) (len : ℕ) → IsWritten bytes block len → length (block_bytes block) ≡ len
whole_length bytes block len written = let w = written.within in ap length (sym written.form) ∙ omega (arith, length-take len bytes, w)

module _ (bytes : List ℕ) (blocks : List Block) (offset : ℕ) (so_far : IsScanned bytes blocks offset) (more : offset < length bytes) where
  some_left : 0 < length (drop offset bytes)
  some_left = omega (arith, length-drop offset bytes, more)

  one_more : length bytes - length blocks ≡ suc (length bytes - (length blocks + 1))
  one_more = let counted = so_far.counted in omega (arith, more, counted)

  text_is : scan_of bytes ≡ behind blocks (scan_from (suc (length bytes - (length blocks + 1))) offset (drop offset bytes))
  text_is = so_far.text ∙ ap (λ (most : ℕ). behind blocks (scan_from most offset (drop offset bytes))) one_more

  pub goes_on : (block : Block) (len : ℕ) → block_at (drop offset bytes) ≡ Whole block len → IsWritten (drop offset bytes) block len → IsScanned bytes (blocks ++ block ∷ []) (offset + len)
  goes_on block len is written =
      let some = not_empty block in
      let long : length (block_bytes block) ≡ len = whole_length (drop offset bytes) block len written in
      let fits = written.within in
      let counted = so_far.counted in
      let count : length (blocks ++ block ∷ []) ≡ length blocks + 1 = length-append blocks (block ∷ []) in
      record {
        within = omega (arith, fits, length-drop offset bytes, more);
        counted = omega (arith, count, some, long, counted);
        text = text_is ∙ ap (behind blocks) (front_whole _ offset (drop offset bytes) block len some_left is)
            ∙ sym (behind-push blocks block _)
            ∙ ap (λ (most : ℕ). behind (blocks ++ block ∷ []) (scan_from most (offset + len) (drop len (drop offset bytes)))) (ap (λ (n : ℕ). length bytes - n) (sym count))
            ∙ ap (λ (rest : List ℕ). behind (blocks ++ block ∷ []) (scan_from (length bytes - length (blocks ++ block ∷ [])) (offset + len) rest)) (drop_twice offset len bytes);
      }

  pub ends_torn : block_at (drop offset bytes) ≡ Torn → scan_of bytes ≡ Ok (record { blocks = blocks; torn_at = Some offset })
  ends_torn is = text_is ∙ ap (behind blocks) (front_torn _ offset (drop offset bytes) some_left is) ∙ behind-none blocks (Some offset)

  pub ends_bad : (at : ℕ) → block_at (drop offset bytes) ≡ Bad at → scan_of bytes ≡ Err (offset + at)
  ends_bad at is = text_is ∙ ap (behind blocks) (front_bad _ offset (drop offset bytes) at some_left is) ∙ behind-bad blocks (offset + at)

pub ends : (bytes : List ℕ) (blocks : List Block) (offset : ℕ) → IsScanned bytes blocks offset → length bytes ≤ offset → scan_of bytes ≡ Ok (record { blocks = blocks; torn_at = None })
ends bytes blocks offset so_far done = so_far.text ∙ ap (behind blocks) (front_none _ offset (drop offset bytes) (omega (arith, length-drop offset bytes, done))) ∙ behind-none blocks None
