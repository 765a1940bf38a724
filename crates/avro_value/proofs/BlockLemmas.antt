-- Items and blocks: what is read is a reading, and each reading is read, whatever follows it.
use Rattle.std.proofs.Common.{if◌then◌else◌, ◌==◌, ◌≡◌, ℕ, zero, suc, ◌+◌, ◌-◌, ◌≤◌, ◌<◌, Bool, true, List, [], ◌∷◌, ◌++◌, length, Option, Some, None, Ok, ℤ, pos, negsuc, refl, sym, ap, subst, ◌∙◌, append_assoc, arith, inl, inr}
use Rattle.std.specs.Prelude.{nat_le, sum_by, flat_map}
use Rattle.std.proofs.lemmas.Bool.{cases_eq, eq-eqb, ne_eqb}
use Rattle.std.proofs.lemmas.Bool.Decides.{nat_tests}
use Rattle.std.proofs.lemmas.List.{append-nil, length-append}
use Rattle.std.proofs.lemmas.List.Sums.{sum_by-cons, sum_by-append}
use Rattle.byte_fields.specs.Reading.{Reading, ◌>>=◌, only_if}
use Rattle.byte_fields.specs.Varints.{zigzag_at}
use Rattle.byte_fields.specs.Prefixed.{long_length_at}
use Rattle.byte_fields.proofs.ReadingLemmas.{bind-Ok, only_if-Ok, bind_is, only_if_is, read_once}
use Rattle.avro_schema.specs.Grammar.{IsLong, AreItems, AreBlocks, IsBlockHead}
use Rattle.avro_schema.specs.Reading.{Limited, BlockHead, items_from, sized_head, block_head_at, has_size, block_from, blocks_from}
use Rattle.avro_value.proofs.PrimitiveLemmas.{Took, long_took, long_read, length_took, length_read}

-- the items of blocks
abbrev pub flat : {A : Type 0} → List (List A) → List A
flat blocks = flat_map (λ items. items) blocks

module _ {A : Type 0} (P : A → List ℕ → Type 0) (count : A → ℕ) where
  -- a reading of an item was taken, and as many items as it counts
  pub record TookItem (left : ℕ) (bs : List ℕ) (x : A) (m : ℕ) (rest : List ℕ) : Type 0 where
    pub prefix : List ℕ
    pub parts : bs ≡ prefix ++ rest
    pub reading : P x prefix
    pub spent : m + count x ≡ left

  pub record TookItems (n left : ℕ) (bs : List ℕ) (found xs : List A) (m : ℕ) (rest : List ℕ) : Type 0 where
    pub new : List A
    pub prefix : List ℕ
    pub all : xs ≡ found ++ new
    pub number : length new ≡ n
    pub parts : bs ≡ prefix ++ rest
    pub reading : AreItems P new prefix
    pub spent : m + sum_by count new ≡ left

module _ {A : Type 0} (P : A → List ℕ → Type 0) (count : A → ℕ) (read : Limited A) where
  abbrev pub Finds : Type 0
  Finds = (left : ℕ) (bs : List ℕ) (x : A) (m : ℕ) (rest : List ℕ) → read left bs ≡ Ok ((x, m), rest) → TookItem P count left bs x m rest

  abbrev pub ReadsAll : Type 0
  ReadsAll = (left : ℕ) (x : A) (prefix rest : List ℕ) → P x prefix → count x ≤ left → read left (prefix ++ rest) ≡ Ok ((x, left - count x), rest)

  -- ---- items

  pub items_took : Finds → (n : ℕ) (found : List A) (left : ℕ) (bs : List ℕ) (xs : List A) (m : ℕ) (rest : List ℕ) → items_from read n found left bs ≡ Ok ((xs, m), rest) → TookItems P count n left bs found xs m rest
  unfolding items_from
  items_took finds zero found left bs xs m rest e =
      let same = read_once ((found, left), bs) ((xs, m), rest) (Ok ((found, left), bs)) refl e in
      record {
        new = [];
        prefix = [];
        all = sym (ap (λ (p : (List A × ℕ) × List ℕ). p.0.0) same) ∙ sym (append-nil found);
        number = refl;
        parts = ap (λ (p : (List A × ℕ) × List ℕ). p.1) same;
        reading = refl;
        spent = let spent : left ≡ m = ap (λ (p : (List A × ℕ) × List ℕ). p.0.1) same in omega arith;
      }
  items_took finds (suc n) found left bs xs m rest e =
      let first = bind-Ok (read left bs) (λ next. items_from read n (found ++ next.0.0 ∷ []) next.0.1 next.1) ((xs, m), rest) e in
      let x : A = first.0.0.0 in
      let one = finds left bs x first.0.0.1 first.0.1 first.1 in
      let more = items_took finds n (found ++ x ∷ []) first.0.0.1 first.0.1 xs m rest first.2 in
      record {
        new = x ∷ more.new;
        prefix = one.prefix ++ more.prefix;
        all = more.all ∙ append_assoc found (x ∷ []) more.new;
        number = omega (arith, more.number);
        parts = one.parts ∙ ap (λ (t : List ℕ). one.prefix ++ t) more.parts ∙ sym (append_assoc one.prefix more.prefix rest);
        reading = (one.prefix, more.prefix, refl, one.reading, more.reading);
        spent = omega (arith, one.spent, more.spent, sum_by-cons count x more.new);
      }

  pub items_read : ReadsAll → (xs found : List A) (left : ℕ) (prefix rest : List ℕ) → AreItems P xs prefix → sum_by count xs ≤ left
      → items_from read (length xs) found left (prefix ++ rest) ≡ Ok ((found ++ xs, left - sum_by count xs), rest)
  unfolding items_from
  items_read reads [] found left prefix rest are fits =
      let none : left ≡ left - sum_by count [] = omega arith in
      ap (λ (t : List ℕ). Ok ((found, left), t ++ rest)) are ∙ ap (λ (ys : List A). Ok ((ys, left), rest)) (sym (append-nil found)) ∙ ap (λ (k : ℕ). Ok ((found ++ [], k), rest)) none
  items_read reads (x ∷ xs) found left prefix rest are fits =
      let cut : sum_by count (x ∷ xs) ≡ count x + sum_by count xs = sum_by-cons count x xs in
      let first : List ℕ = are.0 in
      let others : List ℕ = are.1 in
      let bs : prefix ++ rest ≡ first ++ (others ++ rest) = ap (λ (t : List ℕ). t ++ rest) are.2 ∙ append_assoc first others rest in
      let one = reads left x first (others ++ rest) are.3 (omega arith) in
      let more = items_read reads xs (found ++ x ∷ []) (left - count x) others rest are.4 (omega arith) in
      let spent : left - count x - sum_by count xs ≡ left - sum_by count (x ∷ xs) = omega arith in
      bind_is (read left (prefix ++ rest)) ((x, left - count x), others ++ rest) (λ next. items_from read (length xs) (found ++ next.0.0 ∷ []) next.0.1 next.1) (ap (read left) bs ∙ one)
      ∙ more
      ∙ ap (λ (ys : List A). Ok ((ys, left - count x - sum_by count xs), rest)) (append_assoc found (x ∷ []) xs)
      ∙ ap (λ (k : ℕ). Ok ((found ++ x ∷ xs, k), rest)) spent

-- ---- the heads of blocks

-- what was told of the items' bytes
abbrev pub IsHeadFor : ℕ → Option (ℕ × ℕ) → List ℕ → Type 0
IsHeadFor n None prefix = IsLong (pos n) prefix
IsHeadFor n (Some size) prefix = (0 < n) × (first second : List ℕ) × (prefix ≡ first ++ second) × IsLong (negsuc (n - 1)) first × IsLong (pos size.0) second

pub record TookHead (left : ℕ) (bs : List ℕ) (head : BlockHead) (after : List ℕ) : Type 0 where
  pub prefix : List ℕ
  pub parts : bs ≡ prefix ++ after
  pub within : head.0 ≤ left
  pub reading : IsHeadFor head.0 head.1 prefix

le_of : (n left : ℕ) → nat_le n left ≡ true → n ≤ left
le_of n left e = grind (arith, nat_tests)

to_le : (n left : ℕ) → n ≤ left → nat_le n left ≡ true
to_le n left le = grind (arith, nat_tests)

pub head_took : (left : ℕ) (bs : List ℕ) (head : BlockHead) (after : List ℕ) → block_head_at left bs ≡ Ok (head, after) → TookHead left bs head after
unfolding block_head_at
head_took left bs head after e =
    let first = bind-Ok (zigzag_at 64 bs) (λ number. sized_head left bs number.0 number.1) (head, after) e in
    from first.0.0 first.0.1 (long_took bs first.0.0 first.0.1 first.1) first.2
  where
    from : (z : ℤ) (rest : List ℕ) → Took (IsLong z) bs rest → sized_head left bs z rest ≡ Ok (head, after) → TookHead left bs head after
    from (pos n) rest told e =
        let passed = only_if-Ok (nat_le n left) bs ((n, None), rest) (head, after) e in
        let same : (n, None) ≡ head = ap (λ (p : BlockHead × List ℕ). p.0) passed.1 in
        record {
          prefix = told.prefix;
          parts = told.parts ∙ ap (λ (p : BlockHead × List ℕ). told.prefix ++ p.1) passed.1;
          within = subst (λ (h : BlockHead). h.0 ≤ left) same (le_of n left passed.0);
          reading = subst (λ (h : BlockHead). IsHeadFor h.0 h.1 told.prefix) same told.reading;
        }
    from (negsuc n) rest told e =
        let first = bind-Ok (only_if (nat_le (n + 1) left) bs (n + 1)) (λ k. long_length_at rest >>= λ size. Ok ((k, Some (size.0, length rest)), size.1)) (head, after) e in
        let passed = only_if-Ok (nat_le (n + 1) left) bs (n + 1) first.0 first.1 in
        let second = bind-Ok (long_length_at rest) (λ size. Ok ((first.0, Some (size.0, length rest)), size.1)) (head, after) first.2 in
        let size = length_took rest second.0.0 second.0.1 second.1 in
        let same = read_once ((first.0, Some (second.0.0, length rest)), second.0.1) (head, after) (Ok ((first.0, Some (second.0.0, length rest)), second.0.1)) refl second.2 in
        let heads : (n + 1, Some (second.0.0, length rest)) ≡ head = ap (λ (k : ℕ). (k, Some (second.0.0, length rest))) passed.1 ∙ ap (λ (p : BlockHead × List ℕ). p.0) same in
        let back : n ≡ n + 1 - 1 = omega arith in
        record {
          prefix = told.prefix ++ size.prefix;
          parts = told.parts ∙ ap (λ (t : List ℕ). told.prefix ++ t) size.parts ∙ sym (append_assoc told.prefix size.prefix second.0.1) ∙ ap (λ (p : BlockHead × List ℕ). (told.prefix ++ size.prefix) ++ p.1) same;
          within = subst (λ (h : BlockHead). h.0 ≤ left) heads (le_of (n + 1) left passed.0);
          reading = subst (λ (h : BlockHead). IsHeadFor h.0 h.1 (told.prefix ++ size.prefix)) heads (omega arith, told.prefix, size.prefix, refl, subst (λ (k : ℕ). IsLong (negsuc k) told.prefix) back told.reading, size.reading);
        }

pub head_read_count : (n left : ℕ) (prefix rest : List ℕ) → IsLong (pos n) prefix → n ≤ left → block_head_at left (prefix ++ rest) ≡ Ok ((n, None), rest)
unfolding block_head_at
head_read_count n left prefix rest is within =
    bind_is (zigzag_at 64 (prefix ++ rest)) (pos n, rest) (λ number. sized_head left (prefix ++ rest) number.0 number.1) (long_read (pos n) prefix rest is)
    ∙ only_if_is (nat_le n left) (prefix ++ rest) ((n, None), rest) (to_le n left within)

pub head_read_size : (n len left : ℕ) (first second rest : List ℕ) → IsLong (negsuc n) first → IsLong (pos len) second → n + 1 ≤ left
    → block_head_at left ((first ++ second) ++ rest) ≡ Ok ((n + 1, Some (len, length (second ++ rest))), rest)
unfolding block_head_at
head_read_size n len left first second rest is_count is_len within =
    let bs : List ℕ = (first ++ second) ++ rest in
    let told : zigzag_at 64 bs ≡ Ok (negsuc n, second ++ rest) = ap (zigzag_at 64) (append_assoc first second rest) ∙ long_read (negsuc n) first (second ++ rest) is_count in
    let size : ℕ → Reading BlockHead = λ k. long_length_at (second ++ rest) >>= λ found. Ok ((k, Some (found.0, length (second ++ rest))), found.1) in
    bind_is (zigzag_at 64 bs) (negsuc n, second ++ rest) (λ number. sized_head left bs number.0 number.1) told
    ∙ bind_is (only_if (nat_le (n + 1) left) bs (n + 1)) (n + 1) size (only_if_is (nat_le (n + 1) left) bs (n + 1) (to_le (n + 1) left within))
    ∙ bind_is (long_length_at (second ++ rest)) (len, rest) (λ found. Ok ((n + 1, Some (found.0, length (second ++ rest))), found.1)) (length_read len second rest is_len)

-- the bytes of the items were told right
pub sized : (n : ℕ) (size : Option (ℕ × ℕ)) (prefix after body rest : List ℕ) (b : Bool) → IsHeadFor n size prefix → after ≡ body ++ rest → has_size size (length after) (length rest) ≡ Ok b → IsBlockHead n (length body) prefix
sized n None prefix after body rest b is parts e = inl is
sized n (Some size) prefix after body rest b is parts e =
    elim (cases_eq (length rest + size.0) (length after)) [
      | inl same ↦
          let len : size.0 ≡ length body = omega (arith, ap length parts, length-append body rest) in
          inr (is.1, is.2, is.3, is.4, subst (λ (k : ℕ). IsLong (pos k) is.2) len is.5)
      | inr other ↦ let told = rw (ne_eqb (length rest + size.0) (length after) other) at e in absurd cc
    ]

module _ {A : Type 0} (count : A → ℕ) where
  -- how many items there are, those inside counted
  abbrev pub total : List A → ℕ
  total xs = sum_by count xs + length xs

  total-append : (xs ys : List A) → total (xs ++ ys) ≡ total xs + total ys
  total-append xs ys = omega (arith, sum_by-append count xs ys, length-append xs ys)

module _ {A : Type 0} (P : A → List ℕ → Type 0) (count : A → ℕ) where
  -- ---- read

  pub record TookBlocks (left : ℕ) (bs : List ℕ) (found xs : List A) (m : ℕ) (rest : List ℕ) : Type 0 where
    pub blocks : List (List A)
    pub prefix : List ℕ
    pub all : xs ≡ found ++ flat blocks
    pub parts : bs ≡ prefix ++ rest
    pub reading : AreBlocks P blocks prefix
    pub spent : m + total count (flat blocks) ≡ left

module _ {A : Type 0} (P : A → List ℕ → Type 0) (count : A → ℕ) (read : Limited A) where
  abbrev behind : ℕ → List A → ℕ → BlockHead × List ℕ → Reading (List A × ℕ)
  behind most found left head = if head.0.0 == 0 then Ok ((found, left), head.1) else (block_from read head.0 found left head.1 >>= λ block. blocks_from read most block.0.0 block.0.1 block.1)

  pub blocks_took : Finds P count read → (most : ℕ) (found : List A) (left : ℕ) (bs : List ℕ) (xs : List A) (m : ℕ) (rest : List ℕ)
      → blocks_from read most found left bs ≡ Ok ((xs, m), rest) → TookBlocks P count left bs found xs m rest
  unfolding blocks_from block_from
  blocks_took finds zero found left bs xs m rest e = absurd cc
  blocks_took finds (suc most) found left bs xs m rest e =
      let first = bind-Ok (block_head_at left bs) (behind most found left) ((xs, m), rest) e in
      step (blocks_took finds most) first.0.0.0 first.0.0.1 first.0.1 (head_took left bs first.0.0 first.0.1 first.1) first.2
    where
      Others : Type 0
      Others = (found : List A) (left : ℕ) (bs : List ℕ) (xs : List A) (m : ℕ) (rest : List ℕ) → blocks_from read most found left bs ≡ Ok ((xs, m), rest) → TookBlocks P count left bs found xs m rest

      step : Others → (n : ℕ) (size : Option (ℕ × ℕ)) (after : List ℕ) → TookHead left bs (n, size) after → behind most found left ((n, size), after) ≡ Ok ((xs, m), rest) → TookBlocks P count left bs found xs m rest
      step others zero None after head e =
          let same = read_once ((found, left), after) ((xs, m), rest) (Ok ((found, left), after)) refl e in
          record {
            blocks = [];
            prefix = head.prefix;
            all = sym (ap (λ (p : (List A × ℕ) × List ℕ). p.0.0) same) ∙ sym (append-nil found);
            parts = head.parts ∙ ap (λ (p : (List A × ℕ) × List ℕ). head.prefix ++ p.1) same;
            reading = head.reading;
            spent = let spent : left ≡ m = ap (λ (p : (List A × ℕ) × List ℕ). p.0.1) same in omega arith;
          }
      step others zero (Some size) after head e = let some : 0 < 0 = head.reading.0 in absurd (omega arith)
      step others (suc n) size after head e =
          let told : (block_from read (suc n, size) found left after >>= λ block. blocks_from read most block.0.0 block.0.1 block.1) ≡ Ok ((xs, m), rest) = rw (ne_eqb (suc n) 0 (λ x. omega arith)) at e in
          let second = bind-Ok (block_from read (suc n, size) found left after) (λ block. blocks_from read most block.0.0 block.0.1 block.1) ((xs, m), rest) told in
          let third = bind-Ok (items_from read (suc n) found (left - suc n) after) (λ block. has_size size (length after) (length block.1) >>= λ right. Ok block) second.0 second.1 in
          let fourth = bind-Ok (has_size size (length after) (length third.0.1)) (λ right. Ok third.0) second.0 third.2 in
          let same : third.0 ≡ second.0 = read_once third.0 second.0 (Ok third.0) refl fourth.2 in
          let items = items_took P count read finds (suc n) found (left - suc n) after second.0.0.0 second.0.0.1 second.0.1 (third.1 ∙ ap Ok same) in
          let right : has_size size (length after) (length second.0.1) ≡ Ok fourth.0 = ap (λ (p : (List A × ℕ) × List ℕ). has_size size (length after) (length p.1)) (sym same) ∙ fourth.1 in
          let is_head : IsBlockHead (suc n) (length items.prefix) head.prefix = sized (suc n) size head.prefix after items.prefix second.0.1 fourth.0 head.reading items.parts right in
          let more = others second.0.0.0 second.0.0.1 second.0.1 xs m rest second.2 in
          record {
            blocks = items.new ∷ more.blocks;
            prefix = head.prefix ++ (items.prefix ++ more.prefix);
            all = more.all ∙ ap (λ (ys : List A). ys ++ flat more.blocks) items.all ∙ append_assoc found items.new (flat more.blocks);
            parts = head.parts ∙ ap (λ (t : List ℕ). head.prefix ++ t) (items.parts ∙ ap (λ (t : List ℕ). items.prefix ++ t) more.parts ∙ sym (append_assoc items.prefix more.prefix rest)) ∙ sym (append_assoc head.prefix (items.prefix ++ more.prefix) rest);
            reading = (head.prefix, items.prefix, more.prefix, refl, omega (arith, items.number), subst (λ (k : ℕ). IsBlockHead k (length items.prefix) head.prefix) (sym items.number) is_head, items.reading, more.reading);
            spent = omega (arith, items.spent, items.number, more.spent, head.within, total-append count items.new (flat more.blocks));
          }

  -- ---- and read again

  block_read : ReadsAll P count read → (items found : List A) (left : ℕ) (body tail : List ℕ) (size : Option (ℕ × ℕ)) → AreItems P items body → sum_by count items ≤ left - length items
      → has_size size (length (body ++ tail)) (length tail) ≡ Ok true
      → block_from read (length items, size) found left (body ++ tail) ≡ Ok ((found ++ items, left - length items - sum_by count items), tail)
  unfolding block_from
  block_read reads items found left body tail size are fits right =
      let block : (List A × ℕ) × List ℕ = ((found ++ items, left - length items - sum_by count items), tail) in
      bind_is (items_from read (length items) found (left - length items) (body ++ tail)) block (λ block. has_size size (length (body ++ tail)) (length block.1) >>= λ right. Ok block) (items_read P count read reads items found (left - length items) body tail are fits)
      ∙ bind_is (has_size size (length (body ++ tail)) (length tail)) true (λ right. Ok block) right

  blocks_step : (most n : ℕ) (size : Option (ℕ × ℕ)) (found : List A) (left : ℕ) (bs after : List ℕ) (block : (List A × ℕ) × List ℕ) → 0 < n → block_head_at left bs ≡ Ok ((n, size), after)
      → block_from read (n, size) found left after ≡ Ok block → blocks_from read (suc most) found left bs ≡ blocks_from read most block.0.0 block.0.1 block.1
  unfolding blocks_from
  blocks_step most n size found left bs after block some head told =
      bind_is (block_head_at left bs) ((n, size), after) (behind most found left) head
      ∙ rw (ne_eqb n 0 (λ e. omega arith)) (bind_is (block_from read (n, size) found left after) block (λ block. blocks_from read most block.0.0 block.0.1 block.1) told)

  pub blocks_read : ReadsAll P count read → (blocks : List (List A)) (most : ℕ) (found : List A) (left : ℕ) (prefix rest : List ℕ) → AreBlocks P blocks prefix → total count (flat blocks) ≤ left → left < most
      → blocks_from read most found left (prefix ++ rest) ≡ Ok ((found ++ flat blocks, left - total count (flat blocks)), rest)
  unfolding blocks_from
  blocks_read reads blocks zero found left prefix rest are fits room = absurd (omega arith)
  blocks_read reads [] (suc most) found left prefix rest are fits room =
      let none : left ≡ left - total count (flat []) = omega arith in
      bind_is (block_head_at left (prefix ++ rest)) ((0, None), rest) (behind most found left) (head_read_count 0 left prefix rest are (omega arith))
      ∙ ap (λ (ys : List A). Ok ((ys, left), rest)) (sym (append-nil found))
      ∙ ap (λ (k : ℕ). Ok ((found ++ [], k), rest)) none
  blocks_read reads (items ∷ blocks) (suc most) found left prefix rest are fits room =
      let head : List ℕ = are.0 in
      let body : List ℕ = are.1 in
      let others : List ℕ = are.2 in
      let tail : List ℕ = others ++ rest in
      let n : ℕ = length items in
      let inside : ℕ = sum_by count items in
      let parts : prefix ++ rest ≡ head ++ (body ++ tail) = ap (λ (t : List ℕ). t ++ rest) are.3 ∙ append_assoc head (body ++ others) rest ∙ ap (λ (t : List ℕ). head ++ t) (append_assoc body others rest) in
      let whole : total count (items ++ flat blocks) ≡ total count items + total count (flat blocks) = total-append count items (flat blocks) in
      let within : n ≤ left = omega arith in
      let one : blocks_from read (suc most) found left (head ++ (body ++ tail)) ≡ blocks_from read most (found ++ items) (left - n - inside) tail = elim are.5 [
        | inl is_count ↦
            blocks_step most n None found left (head ++ (body ++ tail)) (body ++ tail) ((found ++ items, left - n - inside), tail) are.4
            (head_read_count n left head (body ++ tail) is_count within)
            (block_read reads items found left body tail None are.6 (omega arith) refl)
        | inr told_size ↦
            let size : Option (ℕ × ℕ) = Some (length body, length (told_size.1 ++ (body ++ tail))) in
            let back : n - 1 + 1 ≡ n = omega arith in
            let told = head_read_size (n - 1) (length body) left told_size.0 told_size.1 (body ++ tail) told_size.3 told_size.4 (omega arith) in
            let told_n : block_head_at left (head ++ (body ++ tail)) ≡ Ok ((n, size), body ++ tail) = ap (λ (t : List ℕ). block_head_at left (t ++ (body ++ tail))) told_size.2 ∙ told ∙ ap (λ (k : ℕ). Ok ((k, size), body ++ tail)) back in
            let right : has_size size (length (body ++ tail)) (length tail) ≡ Ok true = rw (eq-eqb (length tail + length body) (length (body ++ tail)) (omega (arith, length-append body tail))) refl in
            blocks_step most n size found left (head ++ (body ++ tail)) (body ++ tail) ((found ++ items, left - n - inside), tail) are.4 told_n
            (block_read reads items found left body tail size are.6 (omega arith) right)
      ] in
      let more = blocks_read reads blocks most (found ++ items) (left - n - inside) others rest are.7 (omega arith) (omega arith) in
      let spent : left - n - inside - total count (flat blocks) ≡ left - total count (items ++ flat blocks) = omega arith in
      ap (blocks_from read (suc most) found left) parts
      ∙ one
      ∙ more
      ∙ ap (λ (ys : List A). Ok ((ys, left - n - inside - total count (flat blocks)), rest)) (append_assoc found items (flat blocks))
      ∙ ap (λ (k : ℕ). Ok ((found ++ (items ++ flat blocks), k), rest)) spent
