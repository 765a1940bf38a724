-- Values under a type: what is read is a reading, and each reading is read, whatever follows it.
use Rattle.std.proofs.Common.{if◌then◌else◌, ◌≡◌, ℕ, zero, suc, ◌+◌, ◌-◌, ◌≤◌, ◌<◌, List, [], ◌∷◌, ◌++◌, length, Ok, pos, refl, sym, ap, subst, ◌∙◌, append_assoc, arith}
use Rattle.std.specs.Prelude.{sum_by}
use Rattle.std.proofs.lemmas.List.Sums.{sum_by-cons}
use Rattle.std.proofs.lemmas.List.{append-nil}
use Rattle.byte_fields.specs.Reading.{Reading, ◌>>=◌}
use Rattle.byte_fields.specs.Varints.{zigzag_at}
use Rattle.byte_fields.specs.Prefixed.{bytes_at, prefixed_at, long_length_at, text_at}
use Rattle.byte_fields.proofs.ReadingLemmas.{bind-Ok, bind_is, read_once}
use Rattle.byte_fields.proofs.PrefixedLemmas.{bytes_at_again}
use Rattle.hudi_base.specs.declared.value.Value.{Value, Null, Boolean, Int, Long, Bytes, Text, Fixed, Enum, Array, Map, Union, Record}
use Rattle.hudi_base.specs.declared.value.Value.TheViews.{roll-Pair}
use Rattle.hudi_base.specs.declared.value.Pair.{Pair, out-Pair}
use Rattle.avro_schema.specs.AvroTypes.{AvroType, null, boolean, int, long, bytes, string, fixed_of, enum_of, array_of, map_of, union_of, record_of, Branches, no_branches, branch, Fields, no_fields, field}
use Rattle.avro_schema.specs.Grammar.{IsInt, IsLong, IsPrefixed, IsText, IsEntry, AreBlocks, IsReading, IsBranch, AreFields}
use Rattle.avro_schema.specs.Reading.{Limited, plain, made, boolean_at, index_at, blocks_from, blocks_at, entry_at, value_at, branch_at, fields_from, branch_count}
use Rattle.avro_schema.specs.Written.{item_count, entry_count}
use Rattle.avro_value.proofs.PrimitiveLemmas.{Took, int_took, int_read, long_took, long_read, bytes_took, prefixed_took, prefixed_read, text_took, text_read, boolean_took, boolean_read, index_took, index_read}
use Rattle.avro_value.proofs.BlockLemmas.{flat, Finds, ReadsAll, TookItem, blocks_took, blocks_read, total}
use Rattle.avro_value.proofs.Values.{item_count-Null, item_count-Boolean, item_count-Int, item_count-Long, item_count-Bytes, item_count-Text, item_count-Fixed, item_count-Enum, item_count-Union, item_count-Array, item_count-Map, item_count-Record, entry_count-is}

abbrev FindsType : AvroType → Type 0
FindsType type = Finds (IsReading type) item_count (value_at type)

abbrev ReadsType : AvroType → Type 0
ReadsType type = ReadsAll (IsReading type) item_count (value_at type)

-- ---- values without items

plain_took : {A : Type 0} (make : A → Value) (P : Value → List ℕ → Type 0) (Q : A → List ℕ → Type 0) (left : ℕ) (bs : List ℕ) (read : Reading A) (v : Value) (m : ℕ) (rest : List ℕ)
    → ((x : A) → item_count (make x) ≡ 0) → ((x : A) (after : List ℕ) → read ≡ Ok (x, after) → Took (Q x) bs after) → ((x : A) (prefix : List ℕ) → Q x prefix → P (make x) prefix)
    → plain make left read ≡ Ok ((v, m), rest) → TookItem P item_count left bs v m rest
plain_took make P Q left bs read v m rest none took means e =
    let first = bind-Ok read (λ found. Ok ((make found.0, left), found.1)) ((v, m), rest) e in
    let same = read_once ((make first.0.0, left), first.0.1) ((v, m), rest) (Ok ((make first.0.0, left), first.0.1)) refl first.2 in
    let told = took first.0.0 first.0.1 first.1 in
    let value : make first.0.0 ≡ v = ap (λ (p : (Value × ℕ) × List ℕ). p.0.0) same in
    let spent : left ≡ m = ap (λ (p : (Value × ℕ) × List ℕ). p.0.1) same in
    record {
      prefix = told.prefix;
      parts = told.parts ∙ ap (λ (p : (Value × ℕ) × List ℕ). told.prefix ++ p.1) same;
      reading = subst (λ (w : Value). P w told.prefix) value (means first.0.0 told.prefix told.reading);
      spent = let count : item_count v ≡ 0 = ap item_count (sym value) ∙ none first.0.0 in omega arith;
    }

plain_read : {A : Type 0} (make : A → Value) (left : ℕ) (read : Reading A) (x : A) (rest : List ℕ) → item_count (make x) ≡ 0 → read ≡ Ok (x, rest) → plain make left read ≡ Ok ((make x, left - item_count (make x)), rest)
plain_read make left read x rest none e =
    let spent : left ≡ left - item_count (make x) = omega (arith, none) in
    bind_is read (x, rest) (λ found. Ok ((make found.0, left), found.1)) e ∙ ap (λ (k : ℕ). Ok ((make x, k), rest)) spent

-- ---- what is made of what was read

-- what a reader of the parts took is what the value is made of
made_took : {A : Type 0} (make : A → Value) (P : Value → List ℕ → Type 0) (left : ℕ) (bs : List ℕ) (read : Reading (A × ℕ)) (v : Value) (m : ℕ) (rest : List ℕ)
    → ((x : A) (k : ℕ) (after : List ℕ) → read ≡ Ok ((x, k), after) → TookItem P item_count left bs (make x) k after)
    → made make read ≡ Ok ((v, m), rest) → TookItem P item_count left bs v m rest
made_took make P left bs read v m rest took e =
    let first = bind-Ok read (λ found. Ok ((make found.0.0, found.0.1), found.1)) ((v, m), rest) e in
    let same = read_once ((make first.0.0.0, first.0.0.1), first.0.1) ((v, m), rest) (Ok ((make first.0.0.0, first.0.0.1), first.0.1)) refl first.2 in
    subst (λ (p : (Value × ℕ) × List ℕ). TookItem P item_count left bs p.0.0 p.0.1 p.1) same (took first.0.0.0 first.0.0.1 first.0.1 first.1)

made_read : {A : Type 0} (make : A → Value) (read : Reading (A × ℕ)) (x : A) (m k : ℕ) (rest : List ℕ) → read ≡ Ok ((x, m), rest) → m ≡ k → made make read ≡ Ok ((make x, k), rest)
made_read make read x m k rest e same =
    bind_is read ((x, m), rest) (λ found. Ok ((make found.0.0, found.0.1), found.1)) e ∙ ap (λ (n : ℕ). Ok ((make x, n), rest)) same

-- blocks of items that make a value
blocks_make : {A : Type 0} (make : List A → Value) (P : A → List ℕ → Type 0) (count : A → ℕ) (read : Limited A) (Q : Value → List ℕ → Type 0) (left : ℕ) (bs : List ℕ)
    → ((xs : List A) → item_count (make xs) ≡ total count xs) → ((blocks : List (List A)) (prefix : List ℕ) → AreBlocks P blocks prefix → Q (make (flat blocks)) prefix) → Finds P count read
    → (xs : List A) (m : ℕ) (rest : List ℕ) → blocks_at read left bs ≡ Ok ((xs, m), rest) → TookItem Q item_count left bs (make xs) m rest
unfolding blocks_at
blocks_make make P count read Q left bs counts means finds xs m rest e =
    let told = blocks_took P count read finds (left + 1) [] left bs xs m rest e in
    record {
      prefix = told.prefix;
      parts = told.parts;
      reading = subst (λ ys. Q (make ys) told.prefix) (sym told.all) (means told.blocks told.prefix told.reading);
      spent = omega (arith, counts xs, ap (total count) told.all, told.spent);
    }

entry_finds : (P : Value → List ℕ → Type 0) (read : Limited Value) → Finds P item_count read → Finds (IsEntry P) entry_count (entry_at read)
unfolding entry_at
entry_finds P read finds left bs pair m rest e =
    let first = bind-Ok (text_at long_length_at bs) (λ key. read left key.1 >>= λ value. Ok ((roll-Pair (record { key = key.0; value = value.0.0 }), value.0.1), value.1)) ((pair, m), rest) e in
    let second = bind-Ok (read left first.0.1) (λ value. Ok ((roll-Pair (record { key = first.0.0; value = value.0.0 }), value.0.1), value.1)) ((pair, m), rest) first.2 in
    let made_pair : Pair = roll-Pair (record { key = first.0.0; value = second.0.0.0 }) in
    let same = read_once ((made_pair, second.0.0.1), second.0.1) ((pair, m), rest) (Ok ((made_pair, second.0.0.1), second.0.1)) refl second.2 in
    let key = text_took bs first.0.0 first.0.1 first.1 in
    let value = finds left first.0.1 second.0.0.0 second.0.0.1 second.0.1 second.1 in
    subst (λ (p : (Pair × ℕ) × List ℕ). TookItem (IsEntry P) entry_count left bs p.0.0 p.0.1 p.1) same (record {
      prefix = key.prefix ++ value.prefix;
      parts = key.parts ∙ ap (λ (t : List ℕ). key.prefix ++ t) value.parts ∙ sym (append_assoc key.prefix value.prefix second.0.1);
      reading = (key.prefix, value.prefix, refl, key.reading, value.reading);
      spent = omega (arith, entry_count-is made_pair, value.spent);
    })

entry_reads : (P : Value → List ℕ → Type 0) (read : Limited Value) → ReadsAll P item_count read → ReadsAll (IsEntry P) entry_count (entry_at read)
unfolding entry_at
entry_reads P read reads left pair prefix rest is fits =
    let key : List ℕ = (out-Pair pair).key in
    let value : Value = (out-Pair pair).value in
    let parts : prefix ++ rest ≡ is.0 ++ (is.1 ++ rest) = ap (λ (t : List ℕ). t ++ rest) is.2 ∙ append_assoc is.0 is.1 rest in
    let counts : item_count value ≡ entry_count pair = sym (entry_count-is pair) in
    let told = reads left value is.1 rest is.4 (omega arith) in
    bind_is (text_at long_length_at (prefix ++ rest)) (key, is.1 ++ rest) (λ key. read left key.1 >>= λ value. Ok ((roll-Pair (record { key = key.0; value = value.0.0 }), value.0.1), value.1)) (ap (text_at long_length_at) parts ∙ text_read key is.0 (is.1 ++ rest) is.3)
    ∙ bind_is (read left (is.1 ++ rest)) ((value, left - item_count value), rest) (λ value. Ok ((roll-Pair (record { key = key; value = value.0.0 }), value.0.1), value.1)) told
    ∙ ap (λ (k : ℕ). Ok ((pair, left - k), rest)) counts

-- the values of fields that were taken behind those that were found
record TookFields (fields : Fields) (found : List Value) (left : ℕ) (bs : List ℕ) (vs : List Value) (m : ℕ) (rest : List ℕ) : Type 0 where
  new : List Value
  prefix : List ℕ
  all : vs ≡ found ++ new
  parts : bs ≡ prefix ++ rest
  reading : AreFields fields new prefix
  spent : m + sum_by item_count new ≡ left

-- ---- by induction over types

mutual
  pub finds_type : (type : AvroType) → FindsType type
  finds_type null left bs v m rest e =
      let same = read_once ((Null, left), bs) ((v, m), rest) (Ok ((Null, left), bs)) refl e in
      record {
        prefix = [];
        parts = ap (λ (p : (Value × ℕ) × List ℕ). p.1) same;
        reading = (sym (ap (λ (p : (Value × ℕ) × List ℕ). p.0.0) same), refl);
        spent = let spent : left ≡ m = ap (λ (p : (Value × ℕ) × List ℕ). p.0.1) same in let none : item_count v ≡ 0 = ap (λ (p : (Value × ℕ) × List ℕ). item_count p.0.0) (sym same) ∙ item_count-Null in omega arith;
      }
  finds_type boolean left bs v m rest e =
      plain_took Boolean (IsReading boolean) (λ b prefix. prefix ≡ (if b then 1 else 0) ∷ []) left bs (boolean_at bs) v m rest item_count-Boolean
      (λ b after told. record { prefix = (if b then 1 else 0) ∷ []; parts = boolean_took bs b after told; reading = refl }) (λ b prefix is. (b, refl, is)) e
  finds_type int left bs v m rest e =
      plain_took Int (IsReading int) IsInt left bs (zigzag_at 32 bs) v m rest item_count-Int (int_took bs) (λ z prefix is. (z, refl, is)) e
  finds_type long left bs v m rest e =
      plain_took Long (IsReading long) IsLong left bs (zigzag_at 64 bs) v m rest item_count-Long (long_took bs) (λ z prefix is. (z, refl, is)) e
  finds_type bytes left bs v m rest e =
      plain_took Bytes (IsReading bytes) IsPrefixed left bs (prefixed_at long_length_at bs) v m rest item_count-Bytes (prefixed_took bs) (λ content prefix is. (content, refl, is)) e
  finds_type string left bs v m rest e =
      plain_took Text (IsReading string) IsText left bs (text_at long_length_at bs) v m rest item_count-Text (text_took bs) (λ content prefix is. (content, refl, is)) e
  finds_type (fixed_of name size) left bs v m rest e =
      plain_took Fixed (IsReading (fixed_of name size)) (λ content prefix. (prefix ≡ content) × (length content ≡ size)) left bs (bytes_at size bs) v m rest item_count-Fixed
      (λ content after told. let took = bytes_took size bs content after told in record { prefix = content; parts = took.0; reading = (refl, took.1) })
      (λ content prefix is. (ap Fixed (sym is.0), ap length is.0 ∙ is.1)) e
  finds_type (enum_of name symbols) left bs v m rest e =
      plain_took Enum (IsReading (enum_of name symbols)) (λ n prefix. IsInt (pos n) prefix × (n < length symbols)) left bs (index_at (length symbols) bs) v m rest item_count-Enum
      (λ n after told. let took = index_took (length symbols) bs n after told in record { prefix = took.0.prefix; parts = took.0.parts; reading = (took.0.reading, took.1) })
      (λ n prefix is. (n, refl, is.1, is.0)) e
  finds_type (array_of inner) left bs v m rest e =
      made_took Array (IsReading (array_of inner)) left bs (blocks_at (value_at inner) left bs) v m rest
      (blocks_make Array (IsReading inner) item_count (value_at inner) (IsReading (array_of inner)) left bs item_count-Array (λ blocks prefix are. (blocks, refl, are)) (finds_type inner)) e
  finds_type (map_of inner) left bs v m rest e =
      made_took Map (IsReading (map_of inner)) left bs (blocks_at (entry_at (value_at inner)) left bs) v m rest
      (blocks_make Map (IsEntry (IsReading inner)) entry_count (entry_at (value_at inner)) (IsReading (map_of inner)) left bs item_count-Map (λ blocks prefix are. (blocks, refl, are)) (entry_finds (IsReading inner) (value_at inner) (finds_type inner))) e
  finds_type (union_of branches) left bs v m rest e =
      let first = bind-Ok (index_at (branch_count branches) bs) (λ index. made (Union index.0) (branch_at branches index.0 left index.1)) ((v, m), rest) e in
      let n : ℕ = first.0.0 in
      let index = index_took (branch_count branches) bs n first.0.1 first.1 in
      made_took (Union n) (IsReading (union_of branches)) left bs (branch_at branches n left first.0.1) v m rest
      (λ w k after told.
      let inner = finds_branch branches n left first.0.1 w k after told in
      record {
        prefix = index.0.prefix ++ inner.prefix;
        parts = index.0.parts ∙ ap (λ (t : List ℕ). index.0.prefix ++ t) inner.parts ∙ sym (append_assoc index.0.prefix inner.prefix after);
        reading = (n, w, index.0.prefix, inner.prefix, refl, refl, index.0.reading, inner.reading);
        spent = omega (arith, item_count-Union n w, inner.spent);
      })
      first.2
  finds_type (record_of name fields) left bs v m rest e =
      made_took Record (IsReading (record_of name fields)) left bs (fields_from fields [] left bs) v m rest
      (λ vs k after told.
      let took = finds_fields fields [] left bs vs k after told in
      record {
        prefix = took.prefix;
        parts = took.parts;
        reading = (vs, refl, subst (λ (ws : List Value). AreFields fields ws took.prefix) (sym took.all) took.reading);
        spent = omega (arith, item_count-Record vs, ap (sum_by item_count) took.all, took.spent);
      })
      e

  finds_branch : (branches : Branches) (n : ℕ) → Finds (IsBranch branches n) item_count (branch_at branches n)
  finds_branch no_branches n left bs v m rest e = absurd cc
  finds_branch (branch type more) zero left bs v m rest e =
      let took = finds_type type left bs v m rest e in record { prefix = took.prefix; parts = took.parts; reading = took.reading; spent = took.spent }
  finds_branch (branch type more) (suc n) left bs v m rest e =
      let took = finds_branch more n left bs v m rest e in record { prefix = took.prefix; parts = took.parts; reading = took.reading; spent = took.spent }

  finds_fields : (fields : Fields) (found : List Value) (left : ℕ) (bs : List ℕ) (vs : List Value) (m : ℕ) (rest : List ℕ) → fields_from fields found left bs ≡ Ok ((vs, m), rest) → TookFields fields found left bs vs m rest
  finds_fields no_fields found left bs vs m rest e =
      let same = read_once ((found, left), bs) ((vs, m), rest) (Ok ((found, left), bs)) refl e in
      record {
        new = [];
        prefix = [];
        all = sym (ap (λ (p : (List Value × ℕ) × List ℕ). p.0.0) same) ∙ sym (append-nil found);
        parts = ap (λ (p : (List Value × ℕ) × List ℕ). p.1) same;
        reading = (refl, refl);
        spent = let spent : left ≡ m = ap (λ (p : (List Value × ℕ) × List ℕ). p.0.1) same in omega arith;
      }
  finds_fields (field name type more) found left bs vs m rest e =
      let first = bind-Ok (value_at type left bs) (λ next. fields_from more (found ++ next.0.0 ∷ []) next.0.1 next.1) ((vs, m), rest) e in
      let v : Value = first.0.0.0 in
      let one = finds_type type left bs v first.0.0.1 first.0.1 first.1 in
      let others = finds_fields more (found ++ v ∷ []) first.0.0.1 first.0.1 vs m rest first.2 in
      record {
        new = v ∷ others.new;
        prefix = one.prefix ++ others.prefix;
        all = others.all ∙ append_assoc found (v ∷ []) others.new;
        parts = one.parts ∙ ap (λ (t : List ℕ). one.prefix ++ t) others.parts ∙ sym (append_assoc one.prefix others.prefix rest);
        reading = (v, others.new, one.prefix, others.prefix, refl, refl, one.reading, others.reading);
        spent = omega (arith, one.spent, others.spent, sum_by-cons item_count v others.new);
      }

-- ---- and back

-- the value by another name
renamed : (w v : Value) (left : ℕ) (rest : List ℕ) (read : Reading (Value × ℕ)) → v ≡ w → read ≡ Ok ((w, left - item_count w), rest) → read ≡ Ok ((v, left - item_count v), rest)
renamed w v left rest read same e = e ∙ ap (λ (u : Value). Ok ((u, left - item_count u), rest)) (sym same)

blocks_read_all : {A : Type 0} (make : List A → Value) (P : A → List ℕ → Type 0) (count : A → ℕ) (read : Limited A) → ((xs : List A) → item_count (make xs) ≡ total count xs) → ReadsAll P count read
    → (blocks : List (List A)) (left : ℕ) (prefix rest : List ℕ) → AreBlocks P blocks prefix → item_count (make (flat blocks)) ≤ left
    → made make (blocks_at read left (prefix ++ rest)) ≡ Ok ((make (flat blocks), left - item_count (make (flat blocks))), rest)
unfolding blocks_at
blocks_read_all make P count read counts reads blocks left prefix rest are fits =
    let same : item_count (make (flat blocks)) ≡ total count (flat blocks) = counts (flat blocks) in
    made_read make (blocks_from read (left + 1) [] left (prefix ++ rest)) (flat blocks) (left - total count (flat blocks)) (left - item_count (make (flat blocks))) rest
    (blocks_read P count read reads blocks (left + 1) [] left prefix rest are (omega arith) (omega arith))
    (ap (λ (k : ℕ). left - k) (sym same))

branch_below : (branches : Branches) (n : ℕ) (v : Value) (bs : List ℕ) → IsBranch branches n v bs → n < branch_count branches
branch_below no_branches n v bs is = absurd is
branch_below (branch type more) zero v bs is = omega arith
branch_below (branch type more) (suc n) v bs is = omega (arith, branch_below more n v bs is)

mutual
  pub reads_type : (type : AvroType) → ReadsType type
  reads_type null left v prefix rest is fits =
      let none : left ≡ left - item_count Null = omega (arith, item_count-Null) in
      renamed Null v left rest (value_at null left (prefix ++ rest)) is.0 (ap (λ (t : List ℕ). Ok ((Null, left), t ++ rest)) is.1 ∙ ap (λ (k : ℕ). Ok ((Null, k), rest)) none)
  reads_type boolean left v prefix rest is fits =
      renamed (Boolean is.0) v left rest (value_at boolean left (prefix ++ rest)) is.1
      (plain_read Boolean left (boolean_at (prefix ++ rest)) is.0 rest (item_count-Boolean is.0) (ap (λ (t : List ℕ). boolean_at (t ++ rest)) is.2 ∙ boolean_read is.0 rest))
  reads_type int left v prefix rest is fits =
      renamed (Int is.0) v left rest (value_at int left (prefix ++ rest)) is.1 (plain_read Int left (zigzag_at 32 (prefix ++ rest)) is.0 rest (item_count-Int is.0) (int_read is.0 prefix rest is.2))
  reads_type long left v prefix rest is fits =
      renamed (Long is.0) v left rest (value_at long left (prefix ++ rest)) is.1 (plain_read Long left (zigzag_at 64 (prefix ++ rest)) is.0 rest (item_count-Long is.0) (long_read is.0 prefix rest is.2))
  reads_type bytes left v prefix rest is fits =
      renamed (Bytes is.0) v left rest (value_at bytes left (prefix ++ rest)) is.1 (plain_read Bytes left (prefixed_at long_length_at (prefix ++ rest)) is.0 rest (item_count-Bytes is.0) (prefixed_read is.0 prefix rest is.2))
  reads_type string left v prefix rest is fits =
      renamed (Text is.0) v left rest (value_at string left (prefix ++ rest)) is.1 (plain_read Text left (text_at long_length_at (prefix ++ rest)) is.0 rest (item_count-Text is.0) (text_read is.0 prefix rest is.2))
  reads_type (fixed_of name size) left v prefix rest is fits =
      renamed (Fixed prefix) v left rest (value_at (fixed_of name size) left (prefix ++ rest)) is.0
      (plain_read Fixed left (bytes_at size (prefix ++ rest)) prefix rest (item_count-Fixed prefix) (ap (λ (n : ℕ). bytes_at n (prefix ++ rest)) (sym is.1) ∙ bytes_at_again prefix rest))
  reads_type (enum_of name symbols) left v prefix rest is fits =
      renamed (Enum is.0) v left rest (value_at (enum_of name symbols) left (prefix ++ rest)) is.1
      (plain_read Enum left (index_at (length symbols) (prefix ++ rest)) is.0 rest (item_count-Enum is.0) (index_read (length symbols) is.0 prefix rest is.3 is.2))
  reads_type (array_of inner) left v prefix rest is fits =
      renamed (Array (flat is.0)) v left rest (value_at (array_of inner) left (prefix ++ rest)) is.1
      (blocks_read_all Array (IsReading inner) item_count (value_at inner) item_count-Array (reads_type inner) is.0 left prefix rest is.2 (omega (arith, ap item_count is.1)))
  reads_type (map_of inner) left v prefix rest is fits =
      renamed (Map (flat is.0)) v left rest (value_at (map_of inner) left (prefix ++ rest)) is.1
      (blocks_read_all Map (IsEntry (IsReading inner)) entry_count (entry_at (value_at inner)) item_count-Map (entry_reads (IsReading inner) (value_at inner) (reads_type inner)) is.0 left prefix rest is.2 (omega (arith, ap item_count is.1)))
  reads_type (union_of branches) left v prefix rest is fits =
      let n : ℕ = is.0 in
      let w : Value = is.1 in
      let parts : prefix ++ rest ≡ is.2 ++ (is.3 ++ rest) = ap (λ (t : List ℕ). t ++ rest) is.5 ∙ append_assoc is.2 is.3 rest in
      let counts : item_count (Union n w) ≡ item_count w = item_count-Union n w in
      let inner = reads_branch branches n left w is.3 rest is.7 (omega (arith, ap item_count is.4)) in
      renamed (Union n w) v left rest (value_at (union_of branches) left (prefix ++ rest)) is.4
      (bind_is (index_at (branch_count branches) (prefix ++ rest)) (n, is.3 ++ rest) (λ index. made (Union index.0) (branch_at branches index.0 left index.1))
      (ap (index_at (branch_count branches)) parts ∙ index_read (branch_count branches) n is.2 (is.3 ++ rest) is.6 (branch_below branches n w is.3 is.7))
      ∙ made_read (Union n) (branch_at branches n left (is.3 ++ rest)) w (left - item_count w) (left - item_count (Union n w)) rest inner (ap (λ (k : ℕ). left - k) (sym counts)))
  reads_type (record_of name fields) left v prefix rest is fits =
      let vs : List Value = is.0 in
      let counts : item_count (Record vs) ≡ sum_by item_count vs = item_count-Record vs in
      renamed (Record vs) v left rest (value_at (record_of name fields) left (prefix ++ rest)) is.1
      (made_read Record (fields_from fields [] left (prefix ++ rest)) vs (left - sum_by item_count vs) (left - item_count (Record vs)) rest
      (reads_fields fields vs [] left prefix rest is.2 (omega (arith, ap item_count is.1))) (ap (λ (k : ℕ). left - k) (sym counts)))

  reads_branch : (branches : Branches) (n : ℕ) → ReadsAll (IsBranch branches n) item_count (branch_at branches n)
  reads_branch no_branches n left v prefix rest is fits = absurd is
  reads_branch (branch type more) zero left v prefix rest is fits = reads_type type left v prefix rest is fits
  reads_branch (branch type more) (suc n) left v prefix rest is fits = reads_branch more n left v prefix rest is fits

  reads_fields : (fields : Fields) (vs found : List Value) (left : ℕ) (prefix rest : List ℕ) → AreFields fields vs prefix → sum_by item_count vs ≤ left
      → fields_from fields found left (prefix ++ rest) ≡ Ok ((found ++ vs, left - sum_by item_count vs), rest)
  reads_fields no_fields vs found left prefix rest is fits =
      let all : found ≡ found ++ vs = sym (append-nil found) ∙ ap (λ (ws : List Value). found ++ ws) (sym is.0) in
      let none : left ≡ left - sum_by item_count vs = omega (arith, ap (sum_by item_count) is.0) in
      ap (λ (t : List ℕ). Ok ((found, left), t ++ rest)) is.1 ∙ ap (λ (ws : List Value). Ok ((ws, left), rest)) all ∙ ap (λ (k : ℕ). Ok ((found ++ vs, k), rest)) none
  reads_fields (field name type more) vs found left prefix rest is fits =
      let v : Value = is.0 in
      let ws : List Value = is.1 in
      let parts : prefix ++ rest ≡ is.2 ++ (is.3 ++ rest) = ap (λ (t : List ℕ). t ++ rest) is.5 ∙ append_assoc is.2 is.3 rest in
      let cut : sum_by item_count vs ≡ item_count v + sum_by item_count ws = ap (sum_by item_count) is.4 ∙ sum_by-cons item_count v ws in
      let one = reads_type type left v is.2 (is.3 ++ rest) is.6 (omega arith) in
      let others = reads_fields more ws (found ++ v ∷ []) (left - item_count v) is.3 rest is.7 (omega arith) in
      let all : (found ++ v ∷ []) ++ ws ≡ found ++ vs = append_assoc found (v ∷ []) ws ∙ ap (λ (us : List Value). found ++ us) (sym is.4) in
      let spent : left - item_count v - sum_by item_count ws ≡ left - sum_by item_count vs = omega arith in
      bind_is (value_at type left (prefix ++ rest)) ((v, left - item_count v), is.3 ++ rest) (λ next. fields_from more (found ++ next.0.0 ∷ []) next.0.1 next.1) (ap (value_at type left) parts ∙ one)
      ∙ others
      ∙ ap (λ (us : List Value). Ok ((us, left - item_count v - sum_by item_count ws), rest)) all
      ∙ ap (λ (k : ℕ). Ok ((found ++ vs, k), rest)) spent
