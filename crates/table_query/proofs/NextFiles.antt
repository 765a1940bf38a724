-- Files that are read one after another.
use Rattle.std.proofs.Common.{◌≡◌, ◌≢◌, ◌<◌, ◌≤◌, ◌+◌, ◌==◌, ℕ, Bool, true, false, cond, List, [], ◌∷◌, ◌++◌, length, drop, get_or, refl, sym, ap, subst, ◌∙◌, arith, add-one, drop-cons, ◌⊎◌, inl, inr, length-append}
use Rattle.std.proofs.lemmas.Bool.Decides.{nat_tests}
use Rattle.std.proofs.lemmas.List.{get_or_append_left, get_or_push}
use Rattle.table_history.specs.JobLaw.{Phase, Reads, phase}
use Rattle.table_history.specs.declared.entry.Entry.{Entry}
use Rattle.table_history.specs.declared.step.Step.{Step}
use Rattle.table_history.specs.declared.step.Step.TheVariants.{Read}
use Rattle.table_query.specs.Parts.{text_at}
use Rattle.table_query.specs.ReadBytes.{IsBefore, ReadsBefore, bytes_read}
use Rattle.table_query.specs.Reading.{HasRead, HasReadFiles, HasReadNext, HasReadUpTo, IsNext, LeavesEarlier, LeavesOthers, after_first, still_to_read}

split : (sizes : List ℕ) (number : ℕ) → number < length sizes → drop number sizes ≡ get_or sizes number 0 ∷ drop (number + 1) sizes
split sizes number within = drop-cons sizes number 0 within ∙ ap (λ (n : ℕ). get_or sizes number 0 ∷ drop n sizes) (sym (add-one number))

not_none : (size : ℕ) → 0 < size → (size == 0) ≡ false
not_none size some = grind (arith, nat_tests)

none : (size : ℕ) → size ≡ 0 → (size == 0) ≡ true
none size zero_is = grind (arith, nat_tests)

module _ (pin number : ℕ) (sizes : List ℕ) (p : Phase) (within : number < length sizes) (so_far : p ≡ Reads pin (still_to_read number (drop number sizes)) 0) where
  abbrev rest : List (ℕ × ℕ)
  rest = still_to_read (number + 1) (drop (number + 1) sizes)

  abbrev size : ℕ
  size = get_or sizes number 0

  at_file : p ≡ Reads pin (cond (size == 0) rest ((number, size) ∷ rest)) 0
  at_file = so_far ∙ ap (λ (ns : List ℕ). Reads pin (still_to_read number ns) 0) (split sizes number within)

  file_at : 0 < size → p ≡ Reads pin ((number, size) ∷ rest) 0
  file_at some = at_file ∙ ap (λ (b : Bool). Reads pin (cond b rest ((number, size) ∷ rest)) 0) (not_none size some)

  pub file_is_next : 0 < size → IsNext pin number size p
  file_is_next some = record { more = rest; is = file_at some }

  pub after_file : 0 < size → after_first p ≡ Reads pin rest 0
  after_file some = ap after_first (file_at some)

  pub after_empty : size ≡ 0 → p ≡ Reads pin rest 0
  after_empty zero_is = at_file ∙ ap (λ (b : Bool). Reads pin (cond b rest ((number, size) ∷ rest)) 0) (none size zero_is)

-- ---- numbers

equal_or_not : (a b : ℕ) → (a ≡ b) ⊎ (a ≢ b)
equal_or_not a b = by (a == b) refl
  where
    by : (t : Bool) → (a == b) ≡ t → (a ≡ b) ⊎ (a ≢ b)
    by true is = inl (grind (arith, nat_tests))
    by false is = inr (λ e. absurd (grind (arith, nat_tests)))

last_or_below : (k n : ℕ) → k < n + 1 → (k ≡ n) ⊎ (k < n)
last_or_below k n within = by (k == n) refl
  where
    by : (t : Bool) → (k == n) ≡ t → (k ≡ n) ⊎ (k < n)
    by true is = inl (grind (arith, nat_tests))
    by false is = inr (grind (arith, nat_tests))

-- ---- how far the entries read

step_more : (m n : ℕ) (s : Step) → m ≤ n → IsBefore m s → IsBefore n s
step_more m n (Read from file offset len) le before = omega (arith, le, before)
step_more m n s le before = tt

pub reads_more : (m n : ℕ) (mine : List Entry) → m ≤ n → ReadsBefore m mine → ReadsBefore n mine
reads_more m n [] le before = tt
reads_more m n (e ∷ es) le before = (step_more m n e.step le before.0, reads_more m n es le before.1)

-- ---- the next file

whole_more : (number : ℕ) (sizes : List ℕ) (bytes : ℕ → List ℕ) → ((k : ℕ) → k < number → length (bytes k) ≡ get_or sizes k 0) → length (bytes number) ≡ get_or sizes number 0
    → (k : ℕ) → k < number + 1 → length (bytes k) ≡ get_or sizes k 0
whole_more number sizes bytes whole last k within = by (last_or_below k number within)
  where
    by : (k ≡ number) ⊎ (k < number) → length (bytes k) ≡ get_or sizes k 0
    by (inl here) = let P : ℕ → Type 0 = λ n. length (bytes n) ≡ get_or sizes n 0 in subst P (sym here) last
    by (inr below) = whole k below

-- an empty file is read where it is next
pub empty_next : (pin number : ℕ) (sizes : List ℕ) (mine : List Entry) (bytes : List ℕ) → number < length sizes → get_or sizes number 0 ≡ 0 → bytes ≡ [] → HasReadUpTo pin number sizes mine
    → HasReadNext pin number sizes mine bytes
empty_next pin number sizes mine bytes within empty none so_far =
    let nothing : bytes_read mine number ≡ [] = so_far.unread number (omega arith) in
    record {
      so_far = record {
        phase = after_empty pin number sizes (phase mine) within so_far.phase empty;
        untold = so_far.untold;
        whole = whole_more number sizes (bytes_read mine) so_far.whole (ap length nothing ∙ sym empty);
        unread = λ k le. so_far.unread k (omega (arith, le));
        front = reads_more number (number + 1) mine (omega arith) so_far.front;
      };
      is = nothing ∙ sym none;
    }

pub file_next : (pin number file size : ℕ) (sizes : List ℕ) (before after : List Entry) (bytes : List ℕ) → number < length sizes → file ≡ number → size ≡ get_or sizes number 0 → 0 < size
    → HasReadUpTo pin number sizes before → LeavesOthers file before after → HasRead file size before after bytes → HasReadNext pin number sizes after bytes
file_next pin number file size sizes before after bytes within file_is size_is some so_far leaves_file read_file = from leaves read
  where
    leaves : LeavesOthers number before after
    leaves = let P : ℕ → Type 0 = λ n. LeavesOthers n before after in subst P file_is leaves_file

    read : HasRead number (get_or sizes number 0) before after bytes
    read = let P : ℕ → Type 0 = λ n. HasRead n (get_or sizes number 0) before after bytes in
        let Q : ℕ → Type 0 = λ n. HasRead file n before after bytes in subst P file_is (subst Q size_is read_file)

    there : 0 < get_or sizes number 0
    there = omega (arith, some, size_is)

    from : LeavesOthers number before after → HasRead number (get_or sizes number 0) before after bytes → HasReadNext pin number sizes after bytes
    from others got =
        let is : bytes_read after number ≡ bytes = got.read ∙ ap (λ (xs : List ℕ). xs ++ bytes) (so_far.unread number (omega arith)) in
        record {
          so_far = record {
            phase = got.phase ∙ after_file pin number sizes (phase before) within so_far.phase there;
            untold = got.untold;
            whole = whole_more number sizes (bytes_read after) (λ k below. ap length (others.others k (λ e. absurd (omega (arith, e, below)))) ∙ so_far.whole k below) (ap length is ∙ got.long);
            unread = λ k le. others.others k (λ e. absurd (omega (arith, e, le))) ∙ so_far.unread k (omega (arith, le));
            front = others.front (number + 1) (omega arith) (reads_more number (number + 1) before (omega arith) so_far.front);
          };
          is = is;
        }

-- ---- several files

pub one_text_more : (before after : ℕ → List ℕ) (texts : List (List ℕ)) (text : List ℕ) (first i : ℕ) → length texts ≡ i → ((k : ℕ) → k < i → before (first + k) ≡ text_at texts k) → after (first + i) ≡ text
    → ((k : ℕ) → k ≢ first + i → after k ≡ before k) → (k : ℕ) → k < i + 1 → after (first + k) ≡ text_at (texts ++ text ∷ []) k
one_text_more before after texts text first i long so_far read others k within = by (last_or_below k i within)
  where
    by : (k ≡ i) ⊎ (k < i) → after (first + k) ≡ text_at (texts ++ text ∷ []) k
    by (inl here) = ap (λ (n : ℕ). after (first + n)) here ∙ read ∙ sym (get_or_push texts text [] k (long ∙ sym here))
    by (inr below) =
        others (first + k) (λ e. absurd (omega (arith, e, below))) ∙ so_far k below
        ∙ sym (get_or_append_left texts (text ∷ []) [] k (omega (arith, long, below)))

pub leaves_more : (first i last : ℕ) (a b c : List Entry) → first + i < last → LeavesEarlier first (first + i) a b → LeavesOthers (first + i) b c → LeavesEarlier first last a c
leaves_more first i last a b c within so_far next = record {
  pins = λ at pins. next.pins at (so_far.pins at pins);
  view = next.view ∙ so_far.view;
  earlier = λ k below. next.others k (λ e. absurd (omega (arith, e, below))) ∙ so_far.earlier k below;
  front = λ n le before. next.front n (omega (arith, within, le)) (so_far.front n (omega (arith, within, le)) before);
}

pub leaves_itself : (first last : ℕ) (a : List Entry) → LeavesEarlier first last a a
leaves_itself first last a = record { pins = λ at pins. pins; view = refl; earlier = λ k below. refl; front = λ n le before. before }

-- so many are read, and one more
pub files_more : (pin first i : ℕ) (sizes : List ℕ) (a b : List Entry) (texts : List (List ℕ)) (text : List ℕ) (more : List (List ℕ)) → more ≡ texts ++ text ∷ []
    → HasReadFiles pin first i sizes a texts → LeavesOthers (first + i) a b → HasReadNext pin (first + i) sizes b text → HasReadFiles pin first (i + 1) sizes b more
files_more pin first i sizes a b texts text more more_is so_far leaves next =
    let P : ℕ → Type 0 = λ n. HasReadUpTo pin n sizes b in
    let e : (first + i) + 1 ≡ first + (i + 1) = omega arith in
    record {
      so_far = subst P e next.so_far;
      many = ap length more_is ∙ length-append texts (text ∷ []) ∙ ap (λ (n : ℕ). n + 1) so_far.many;
      texts_are = λ k within. one_text_more (bytes_read a) (bytes_read b) texts text first i so_far.many so_far.texts_are next.is leaves.others k within ∙ ap (λ (xs : List (List ℕ)). text_at xs k) (sym more_is);
    }

pub no_files : (pin first : ℕ) (sizes : List ℕ) (mine : List Entry) (texts : List (List ℕ)) → texts ≡ [] → HasReadUpTo pin first sizes mine → HasReadFiles pin first 0 sizes mine texts
no_files pin first sizes mine texts none so_far =
    let P : ℕ → Type 0 = λ n. HasReadUpTo pin n sizes mine in
    let e : first ≡ first + 0 = omega arith in
    record { so_far = subst P e so_far; many = ap length none; texts_are = λ k within. absurd (omega (arith, within)) }
