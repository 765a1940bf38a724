-- The steps of a reading: what a value that was read tells, what stands at an error, and what later bytes change.
use Rattle.std.proofs.Common.{◌≡◌, ℕ, ◌+◌, ◌<◌, ◌≤◌, Bool, true, false, List, [], ◌++◌, length, get_or, take, drop, Option, Some, None, Result, Ok, Err, refl, sym, ap, subst, ◌∙◌, append_assoc, arith, inl, inr}
use Rattle.std.proofs.lemmas.Bool.{cases_lt}
use Rattle.std.proofs.lemmas.List.{length-append, length-take, length-drop, take-append-drop, get_or-drop, get_or-take, get_or_past}
use Rattle.byte_fields.specs.declared.field_error.FieldError.{FieldError}
use Rattle.byte_fields.specs.declared.field_error.FieldError.TheVariants.{Short, Bad}
use Rattle.byte_fields.specs.Reading.{left_of, of_item, Reading, ◌>>=◌, as_item, only_if, only_some, IsSettled, with_more, Settles}

-- ---- bytes

-- the numbers are bytes
abbrev pub IsBytes : List ℕ → Type 0
IsBytes bytes = (i : ℕ) → get_or bytes i 0 < 256

pub IsBytes-drop : (n : ℕ) (bytes : List ℕ) → IsBytes bytes → IsBytes (drop n bytes)
IsBytes-drop n bytes fits i = rw get_or-drop (fits (n + i))

pub IsBytes-take : (n : ℕ) (bytes : List ℕ) → IsBytes bytes → IsBytes (take n bytes)
IsBytes-take n bytes fits i =
    elim (cases_lt i n) [
      | inl lt ↦ rw (get_or-take n bytes i 0 lt) (fits i)
      | inr le ↦ rw (get_or_past (take n bytes) i 0 (omega (arith, length-take n bytes))) (omega arith)
    ]

-- the bytes are a field and a rest
pub record Takes (bytes field rest : List ℕ) : Type 0 where
  pub parts : bytes ≡ field ++ rest
  pub rest_fits : IsBytes rest

pub Takes-then : (a x b y c : List ℕ) → Takes a x b → Takes b y c → Takes a (x ++ y) c
Takes-then a x b y c p q = record { parts = p.parts ∙ ap (λ (t : List ℕ). x ++ t) q.parts ∙ sym (append_assoc x y c); rest_fits = q.rest_fits }

pub Takes-le : (a x b : List ℕ) → Takes a x b → length b ≤ length a
Takes-le a x b t = omega (arith, length-append x b, ap length t.parts)

-- ---- what was read has a property, and an error stands within the bytes

-- A value has P, and an item that can't be read has at most so many bytes from its first one on.
abbrev pub Reads : {A : Type 0} → ℕ → (A → Type 0) → Result A FieldError → Type 0
Reads limit P (Ok x) = P x
Reads limit P (Err error) = left_of error ≤ limit

pub Reads-then : {A B : Type 0} (limit : ℕ) (P : A → Type 0) (Q : B → Type 0) (r : Result A FieldError) (f : A → Result B FieldError) → Reads limit P r → ((x : A) → P x → Reads limit Q (f x)) → Reads limit Q (r >>= f)
Reads-then limit P Q (Ok x) f first then = then x first
Reads-then limit P Q (Err error) f first then = first

pub Reads-within : {A : Type 0} (inner limit : ℕ) (P Q : A → Type 0) (r : Result A FieldError) → inner ≤ limit → Reads inner P r → ((x : A) → P x → Q x) → Reads limit Q r
Reads-within inner limit P Q (Ok x) le reads weaker = weaker x reads
Reads-within inner limit P Q (Err error) le reads weaker = omega arith

-- the next reader, behind what was taken
pub Reads-next : {A : Type 0} (bytes field rest : List ℕ) (P Q : A → Type 0) (r : Result A FieldError) → Takes bytes field rest → Reads (length rest) P r → ((x : A) → P x → Q x) → Reads (length bytes) Q r
Reads-next bytes field rest P Q r taken reads weaker =
    Reads-within (length rest) (length bytes) P Q r (Takes-le bytes field rest taken) reads weaker

left_of-of_item : (item : List ℕ) (error : FieldError) → left_of (of_item item error) ≡ length item
left_of-of_item item (Short left) = refl
left_of-of_item item (Bad left) = refl

pub Reads-as_item : {A : Type 0} (item : List ℕ) (P : A → Type 0) (r : Result A FieldError) → Reads (length item) P r → Reads (length item) P (as_item item r)
Reads-as_item item P (Ok x) reads = reads
Reads-as_item item P (Err error) reads = omega (arith, left_of-of_item item error)

pub Reads-only_if : {A : Type 0} (limit : ℕ) (P : A → Type 0) (test : Bool) (item : List ℕ) (x : A) → length item ≤ limit → (test ≡ true → P x) → Reads limit P (only_if test item x)
Reads-only_if limit P true item x le holds = holds refl
Reads-only_if limit P false item x le holds = le

pub Reads-only_some : {A : Type 0} (limit : ℕ) (P : A → Type 0) (o : Option A) (item : List ℕ) → length item ≤ limit → ((x : A) → o ≡ Some x → P x) → Reads limit P (only_some o item)
Reads-only_some limit P (Some x) item le holds = holds x refl
Reads-only_some limit P None item le holds = le

-- ---- from a value back to the steps that gave it

pub bind-Ok : {A B : Type 0} (r : Result A FieldError) (f : A → Result B FieldError) (y : B) → (r >>= f) ≡ Ok y → (x : A) × (r ≡ Ok x) × (f x ≡ Ok y)
bind-Ok (Ok x) f y e = (x, refl, e)
bind-Ok (Err error) f y e = absurd cc

pub as_item-Ok : {A : Type 0} (item : List ℕ) (r : Result A FieldError) (x : A) → as_item item r ≡ Ok x → r ≡ Ok x
as_item-Ok item (Ok y) x e = e
as_item-Ok item (Err error) x e = absurd cc

pub only_if-Ok : {A : Type 0} (test : Bool) (item : List ℕ) (x y : A) → only_if test item x ≡ Ok y → (test ≡ true) × (x ≡ y)
only_if-Ok true item x y e = (refl, cc)
only_if-Ok false item x y e = absurd cc

pub only_some-Ok : {A : Type 0} (o : Option A) (item : List ℕ) (x : A) → only_some o item ≡ Ok x → o ≡ Some x
only_some-Ok (Some y) item x e = cc
only_some-Ok None item x e = absurd cc

-- ---- from the steps to the value

-- a step that gave a value
pub bind_is : {A B : Type 0} (r : Result A FieldError) (x : A) (f : A → Result B FieldError) → r ≡ Ok x → (r >>= f) ≡ f x
bind_is r x f e = ap (λ (s : Result _ FieldError). s >>= f) e

pub as_item_is : {A : Type 0} (item : List ℕ) (r : Result A FieldError) (x : A) → r ≡ Ok x → as_item item r ≡ Ok x
as_item_is item r x e = ap (as_item item) e

pub only_if_is : {A : Type 0} (test : Bool) (item : List ℕ) (x : A) → test ≡ true → only_if test item x ≡ Ok x
only_if_is test item x e = ap (λ (t : Bool). only_if t item x) e

pub only_some_is : {A : Type 0} (o : Option A) (item : List ℕ) (x : A) → o ≡ Some x → only_some o item ≡ Ok x
only_some_is o item x e = ap (λ (p : Option _). only_some p item) e

-- ---- bytes that come later

-- a first step that settles and a second one that does
pub Settles-then : {A B : Type 0} (read : List ℕ → Reading A) (next : A → List ℕ → Reading B) → Settles read → ((x : A) → Settles (next x)) → Settles (λ bytes. read bytes >>= λ found. next found.0 found.1)
Settles-then {A} {B} read next first second bytes more settled = step (read bytes) refl settled
  where
    step : (r : Reading A) → read bytes ≡ r → IsSettled {A = B × List ℕ} (r >>= λ found. next found.0 found.1)
        → (read (bytes ++ more) >>= λ found. next found.0 found.1) ≡ with_more more (r >>= λ found. next found.0 found.1)
    step (Ok found) e s = ap (λ (r : Reading A). r >>= λ found. next found.0 found.1) (first bytes more (subst IsSettled (sym e) tt) ∙ ap (with_more more) e) ∙ second found.0 found.1 more s
    step (Err (Short left)) e s = absurd s
    step (Err (Bad left)) e s = ap (λ (r : Reading A). r >>= λ found. next found.0 found.1) (first bytes more (subst IsSettled (sym e) tt) ∙ ap (with_more more) e)

pub Settles-map : {A B : Type 0} (read : List ℕ → Reading A) (f : A → B) → Settles read → Settles (λ bytes. read bytes >>= λ found. Ok (f found.0, found.1))
Settles-map read f first = Settles-then read (λ x rest. Ok (f x, rest)) first (λ x rest more s. refl)

pub Settles-as_item : {A : Type 0} (read : List ℕ → Reading A) → Settles read → Settles (λ bytes. as_item bytes (read bytes))
Settles-as_item {A} read first bytes more settled = step (read bytes) refl settled
  where
    step : (r : Reading A) → read bytes ≡ r → IsSettled (as_item bytes r) → as_item (bytes ++ more) (read (bytes ++ more)) ≡ with_more more (as_item bytes r)
    step (Ok found) e s = ap (as_item (bytes ++ more)) (first bytes more (subst IsSettled (sym e) tt) ∙ ap (with_more more) e)
    step (Err (Short left)) e s = absurd s
    step (Err (Bad left)) e s = ap (as_item (bytes ++ more)) (first bytes more (subst IsSettled (sym e) tt) ∙ ap (with_more more) e) ∙ ap (λ (n : ℕ). Err (Bad n)) (length-append bytes more)

pub Settles-only_if : {A B : Type 0} (read : List ℕ → Reading A) (test : A → Bool) (f : A → B) → Settles read → Settles (λ bytes. read bytes >>= λ found. only_if (test found.0) bytes (f found.0, found.1))
Settles-only_if {A} {B} read test f first bytes more settled = step (read bytes) refl settled
  where
    tested : (x : A) (rest : List ℕ) (b : Bool) → only_if b (bytes ++ more) (f x, rest ++ more) ≡ with_more more (only_if b bytes (f x, rest))
    tested x rest true = refl
    tested x rest false = ap (λ (n : ℕ). Err (Bad n)) (length-append bytes more)

    step : (r : Reading A) → read bytes ≡ r → IsSettled {A = B × List ℕ} (r >>= λ found. only_if (test found.0) bytes (f found.0, found.1))
        → (read (bytes ++ more) >>= λ found. only_if (test found.0) (bytes ++ more) (f found.0, found.1)) ≡ with_more more (r >>= λ found. only_if (test found.0) bytes (f found.0, found.1))
    step (Ok found) e s = ap (λ (r : Reading A). r >>= λ found. only_if (test found.0) (bytes ++ more) (f found.0, found.1)) (first bytes more (subst IsSettled (sym e) tt) ∙ ap (with_more more) e) ∙ tested found.0 found.1 (test found.0)
    step (Err (Short left)) e s = absurd s
    step (Err (Bad left)) e s = ap (λ (r : Reading A). r >>= λ found. only_if (test found.0) (bytes ++ more) (f found.0, found.1)) (first bytes more (subst IsSettled (sym e) tt) ∙ ap (with_more more) e)

pub Settles-only_some : {A B : Type 0} (read : List ℕ → Reading A) (g : A → Option B) → Settles read → Settles (λ bytes. read bytes >>= λ found. only_some (g found.0) bytes >>= λ x. Ok (x, found.1))
Settles-only_some {A} {B} read g first bytes more settled = step (read bytes) refl settled
  where
    tested : (rest : List ℕ) (o : Option B) → (only_some o (bytes ++ more) >>= λ x. Ok (x, rest ++ more)) ≡ with_more more (only_some o bytes >>= λ x. Ok (x, rest))
    tested rest (Some x) = refl
    tested rest None = ap (λ (n : ℕ). Err (Bad n)) (length-append bytes more)

    step : (r : Reading A) → read bytes ≡ r → IsSettled {A = B × List ℕ} (r >>= λ found. only_some (g found.0) bytes >>= λ x. Ok (x, found.1))
        → (read (bytes ++ more) >>= λ found. only_some (g found.0) (bytes ++ more) >>= λ x. Ok (x, found.1)) ≡ with_more more (r >>= λ found. only_some (g found.0) bytes >>= λ x. Ok (x, found.1))
    step (Ok found) e s = ap (λ (r : Reading A). r >>= λ found. only_some (g found.0) (bytes ++ more) >>= λ x. Ok (x, found.1)) (first bytes more (subst IsSettled (sym e) tt) ∙ ap (with_more more) e) ∙ tested found.1 (g found.0)
    step (Err (Short left)) e s = absurd s
    step (Err (Bad left)) e s = ap (λ (r : Reading A). r >>= λ found. only_some (g found.0) (bytes ++ more) >>= λ x. Ok (x, found.1)) (first bytes more (subst IsSettled (sym e) tt) ∙ ap (with_more more) e)

-- one reading has one value and one rest
pub read_once : {A : Type 0} (p q : A × List ℕ) (r : Reading A) → r ≡ Ok p → r ≡ Ok q → p ≡ q
read_once p q (Ok x) e f = cc
read_once p q (Err error) e f = absurd cc

-- What reads a field and leaves nothing is short on each proper prefix of that field.
pub Settles-prefix : {A : Type 0} (read : List ℕ → Reading A) (x : A) (field : List ℕ) (k : ℕ) → Settles read → read field ≡ Ok (x, []) → k < length field → (left : ℕ) × (read (take k field) ≡ Err (Short left))
Settles-prefix {A} read x field k settles whole cut = step (read (take k field)) refl
  where
    later : IsSettled (read (take k field)) → read field ≡ with_more (drop k field) (read (take k field))
    later s = ap read (sym (take-append-drop k field)) ∙ settles (take k field) (drop k field) s

    step : (r : Reading A) → read (take k field) ≡ r → (left : ℕ) × (r ≡ Err (Short left))
    step (Ok found) e =
        let same : (x, []) ≡ (found.0, found.1 ++ drop k field) = read_once (x, []) (found.0, found.1 ++ drop k field) (read field) whole (later (subst IsSettled (sym e) tt) ∙ ap (with_more (drop k field)) e) in
        absurd (omega (arith, ap (λ (p : A × List ℕ). length p.1) same, length-append found.1 (drop k field), length-drop k field))
    step (Err (Short left)) e = (left, refl)
    step (Err (Bad left)) e =
        let told : read field ≡ Err (Bad (left + length (drop k field))) = later (subst IsSettled (sym e) tt) ∙ ap (with_more (drop k field)) e in
        absurd cc
