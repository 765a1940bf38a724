-- Pages one after another.
use Rattle.std.proofs.Common.{◌≡◌, ℕ, ℤ, pos, negsuc, zero, suc, ◌+◌, ◌-◌, ◌<◌, ◌≤◌, Bool, true, false, List, [], ◌++◌, length, drop, Option, Some, None, Result, Ok, Err, refl, sym, ap, ◌∙◌, append_assoc, arith}
use Rattle.std.specs.Prelude.{nat_le, if◌then◌else◌}
use Rattle.std.proofs.lemmas.Bool.{lt-leb, leb-true}
use Rattle.std.proofs.lemmas.List.{length-append, append-nil}
use Rattle.byte_fields.specs.Reading.{Reading}
use Rattle.byte_fields.specs.Prefixed.{nonnegative}
use Rattle.byte_fields.proofs.ReadingLemmas.{IsBytes, read_once}
use Rattle.hudi_base.specs.declared.column.Column.{Column}
use Rattle.hudi_base.specs.declared.value.Value.{Value}
use Rattle.parquet_meta.specs.declared.page_header.PageHeader.{PageHeader}
use Rattle.parquet_meta.specs.PageHeaders.{page_header_at}
use Rattle.parquet_meta.proofs.GrammarLemmas.{page_header_known}
use Rattle.parquet_pages.specs.declared.page_error.PageError.{PageError}
use Rattle.parquet_pages.specs.declared.page_error.PageError.TheVariants.{Memory, BadPage, Encoding}
use Rattle.parquet_pages.specs.Pages.{page_at, page_behind, behind_header, cells_or, page_cells, strange_encoding}
use Rattle.parquet_pages.specs.Forms.{IsPage}
use Rattle.parquet_pages.proofs.PageTookLemmas.{page_took}
use Rattle.base_cells.specs.declared.base_error.BaseError.{BaseError}
use Rattle.base_cells.specs.declared.base_error.BaseError.TheVariants.{Memory as NoMemory, BadBase}
use Rattle.base_cells.specs.declared.base_error.BaseCause.TheVariants as cause
use Rattle.base_cells.specs.Answers.{Answers}
use Rattle.base_cells.specs.Binding.{◌>>=◌, behind}
use Rattle.base_cells.proofs.HeaderLemmas.{header_shorter}
use Rattle.base_cells.specs.Cells.{page_or, pages_at, cause_of_many}

-- ---- a page takes a byte at least

pub same_Ok : {A E : Type 0} (x y : A) → (let r : Result A E = Ok x in r) ≡ Ok y → x ≡ y
same_Ok x y e = cc

pub page_positive : (column : Column) (bytes : List ℕ) (cells : List Value) (n : ℕ) → page_at column bytes ≡ Ok (cells, n) → 0 < n
page_positive column bytes cells n e = by_header (page_header_at bytes) refl e
  where
    by_cells : (header : ℕ) → 0 < header → (o : Option (List Value × ℕ)) → cells_or header o ≡ Ok (cells, n) → 0 < n
    by_cells header some (Some found) f =
        let same : header + found.1 ≡ n = ap (λ (p : List Value × ℕ). p.1) (same_Ok (found.0, header + found.1) (cells, n) f) in omega arith
    by_cells header some None f = absurd cc

    by_encoding : (h : PageHeader) (rest : List ℕ) → length rest < length bytes → (o : Option ℤ) → behind_header column (length bytes - length rest) h rest o ≡ Ok (cells, n) → 0 < n
    by_encoding h rest less (Some encoding) f = absurd cc
    by_encoding h rest less None f = by_cells (length bytes - length rest) (omega arith) (page_cells column h rest) f

    by_header : (r : Reading PageHeader) → page_header_at bytes ≡ r → page_behind column (length bytes) r ≡ Ok (cells, n) → 0 < n
    by_header (Ok (h, rest)) is f = by_encoding h rest (header_shorter bytes rest h is) (strange_encoding column h) f
    by_header (Err error) is f = absurd cc

-- ---- a page that has too many cells

read_count : (column : Column) (bytes rest : List ℕ) (h : PageHeader) (cells : List Value) (n : ℕ) → IsBytes bytes → page_header_at bytes ≡ Ok (h, rest) → page_at column bytes ≡ Ok (cells, n) → h.values ≡ pos (length cells)
read_count column bytes rest h cells n fits is e =
    let took = page_took column bytes cells n fits e in
    let page : IsPage column cells took.0 = took.4 in
    let again = page_header_known.takes.again page.header (page.body ++ took.1) page.told page.is_header in
    let parts : bytes ≡ page.header ++ (page.body ++ took.1) = took.2 ∙ ap (λ (x : List ℕ). x ++ took.1) page.parts ∙ append_assoc page.header page.body took.1 in
    let same = read_once (page.told, page.body ++ took.1) (h, rest) (page_header_at bytes) (ap page_header_at parts ∙ again) is in
    sym (ap (λ (p : PageHeader × List ℕ). p.0.values) same) ∙ page.is_data_page.values

pub too_many : (column : Column) (bytes rest : List ℕ) (h : PageHeader) (count left at : ℕ) → IsBytes bytes → page_header_at bytes ≡ Ok (h, rest) → h.values ≡ pos count → left < count
    → page_or at left (page_at column bytes) ≡ Err (BadBase (cause_of_many (strange_encoding column h)) at)
too_many column bytes rest h count left at fits is told lt =
    ap (λ (r : Reading PageHeader). page_or at left (page_behind column (length bytes) r)) is ∙ by_encoding (strange_encoding column h) refl
  where
    header : ℕ
    header = length bytes - length rest

    by_cells : strange_encoding column h ≡ None → (o : Option (List Value × ℕ)) → page_cells column h rest ≡ o → page_or at left (cells_or header o) ≡ Err (BadBase cause.Page at)
    by_cells plain (Some found) f =
        let whole : page_at column bytes ≡ Ok (found.0, header + found.1) =
        ap (page_behind column (length bytes)) is ∙ ap (behind_header column header h rest) plain ∙ ap (cells_or header) f in
        let same : pos count ≡ pos (length found.0) = sym told ∙ read_count column bytes rest h found.0 (header + found.1) fits is whole in
        let n : count ≡ length found.0 = cc in
        ap (λ (b : Bool). if b then Ok (found.0, header + found.1) else Err (BadBase cause.Page at)) (lt-leb (length found.0) left (omega arith))
    by_cells plain None f = refl

    by_encoding : (o : Option ℤ) → strange_encoding column h ≡ o → page_or at left (behind_header column header h rest o) ≡ Err (BadBase (cause_of_many o) at)
    by_encoding (Some encoding) f = refl
    by_encoding None f = by_cells f (page_cells column h rest) refl

-- ---- the loop

pub pages_none : (steps : ℕ) (column : Column) (at : ℕ) (bytes : List ℕ) → pages_at steps column 0 at bytes ≡ Ok []
unfolding pages_at
pages_none zero column at bytes = refl
pages_none (suc steps) column at bytes = refl

regroup : (before page : List Value) (r : Result (List Value) BaseError) → behind before (behind page r) ≡ behind (before ++ page) r
regroup before page (Ok more) = ap (λ (xs : List Value). Ok xs) (sym (append_assoc before page more))
regroup before page (Err error) = refl

-- the next page
pub pages_next : (steps : ℕ) (column : Column) (left at n : ℕ) (bytes : List ℕ) (before page : List Value) → 0 < left → page_or at left (page_at column (drop at bytes)) ≡ Ok (page, n)
    → behind before (pages_at (suc steps) column left at bytes) ≡ behind (before ++ page) (pages_at steps column (left - length page) (at + n) bytes)
unfolding pages_at
pages_next steps column zero at n bytes before page some e = absurd (omega arith)
pages_next steps column (suc left) at n bytes before page some e =
    ap (λ (r : Result (List Value × ℕ) BaseError). behind before (r >>= λ page. behind page.0 (pages_at steps column (suc left - length page.0) (at + page.1) bytes))) e
    ∙ regroup before page (pages_at steps column (suc left - length page) (at + n) bytes)

-- a page that is refused
pub pages_Err : (steps : ℕ) (column : Column) (left at : ℕ) (bytes : List ℕ) (before : List Value) (error : BaseError) → 0 < left → page_or at left (page_at column (drop at bytes)) ≡ Err error
    → behind before (pages_at (suc steps) column left at bytes) ≡ Err error
unfolding pages_at
pages_Err steps column zero at bytes before error some e = absurd (omega arith)
pages_Err steps column (suc left) at bytes before error some e =
    ap (λ (r : Result (List Value × ℕ) BaseError). behind before (r >>= λ page. behind page.0 (pages_at steps column (suc left - length page.0) (at + page.1) bytes))) e

-- no page more
pub pages_end : (steps : ℕ) (column : Column) (left at : ℕ) (bytes : List ℕ) (cells : List Value) → left ≤ 0 → behind cells (pages_at steps column left at bytes) ≡ Ok cells
pages_end steps column left at bytes cells none =
    let zero_left : left ≡ 0 = omega arith in
    ap (λ (k : ℕ). behind cells (pages_at steps column k at bytes)) zero_left ∙ ap (behind cells) (pages_none steps column at bytes) ∙ ap (λ (xs : List Value). Ok xs) (append-nil cells)

pub behind_none : (cells : List Value) (r : Result (List Value) BaseError) → cells ≡ [] → r ≡ behind cells r
behind_none cells (Ok more) e = ap (λ (xs : List Value). Ok (xs ++ more)) (sym e)
behind_none cells (Err error) e = refl

-- what is left of an answer that is an error
pub answers_Err : {X Y A B : Type 0} (view : X → Y) (view' : A → B) (error : BaseError) (read : Result Y BaseError) (whole : Result B BaseError) → ((other : BaseError) → read ≡ Err other → whole ≡ Err other)
    → Answers view (Err error) read → Answers view' (Err error) whole
answers_Err view view' NoMemory read whole passes a = tt
answers_Err view view' (BadBase why at) read whole passes a = passes (BadBase why at) a

-- ---- as many cells as were asked for

pub pages_count : (steps : ℕ) (column : Column) (left at : ℕ) (bytes : List ℕ) (cells : List Value) → pages_at steps column left at bytes ≡ Ok cells → length cells ≡ left
unfolding pages_at
pages_count zero column zero at bytes cells e = let same : [] ≡ cells = same_Ok [] cells e in ap (length {A = Value}) (sym same)
pages_count (suc steps) column zero at bytes cells e = let same : [] ≡ cells = same_Ok [] cells e in ap (length {A = Value}) (sym same)
pages_count zero column (suc left) at bytes cells e = absurd cc
pages_count (suc steps) column (suc left) at bytes cells e = by_page (λ page n more f. pages_count steps column (suc left - length page) (at + n) bytes more f) (page_at column (drop at bytes)) e
  where
    by_more : ((page : List Value) (n : ℕ) (more : List Value) → pages_at steps column (suc left - length page) (at + n) bytes ≡ Ok more → length more ≡ suc left - length page)
        → (page : List Value) (n : ℕ) → length page ≤ suc left → (r : Result (List Value) BaseError) → pages_at steps column (suc left - length page) (at + n) bytes ≡ r → behind page r ≡ Ok cells → length cells ≡ suc left
    by_more again page n le (Ok more) f g =
        let same : page ++ more ≡ cells = same_Ok (page ++ more) cells g in
        let rest : length more ≡ suc left - length page = again page n more f in
        omega (arith, length-append page more, ap (length {A = Value}) same)
    by_more again page n le (Err error) f g = absurd cc

    by_test : ((page : List Value) (n : ℕ) (more : List Value) → pages_at steps column (suc left - length page) (at + n) bytes ≡ Ok more → length more ≡ suc left - length page)
        → (b : Bool) (page : List Value × ℕ) → nat_le (length page.0) (suc left) ≡ b
        → ((if b then Ok page else Err (BadBase cause.Page at)) >>= λ page. behind page.0 (pages_at steps column (suc left - length page.0) (at + page.1) bytes)) ≡ Ok cells → length cells ≡ suc left
    by_test again true page is f = by_more again page.0 page.1 (leb-true (length page.0) (suc left) is) (pages_at steps column (suc left - length page.0) (at + page.1) bytes) refl f
    by_test again false page is f = absurd cc

    by_page : ((page : List Value) (n : ℕ) (more : List Value) → pages_at steps column (suc left - length page) (at + n) bytes ≡ Ok more → length more ≡ suc left - length page)
        → (r : Result (List Value × ℕ) PageError) → (page_or at (suc left) r >>= λ page. behind page.0 (pages_at steps column (suc left - length page.0) (at + page.1) bytes)) ≡ Ok cells → length cells ≡ suc left
    by_page again (Ok page) f = by_test again (nat_le (length page.0) (suc left)) page refl f
    by_page again (Err Memory) f = absurd cc
    by_page again (Err (BadPage offset)) f = absurd cc
    by_page again (Err (Encoding n)) f = absurd cc

pub told_count : (z : ℤ) (n : ℕ) → Some n ≡ nonnegative z → z ≡ pos n
told_count (pos m) n e = ap (λ (k : ℕ). pos k) (let same : m ≡ n = cc in same)
told_count (negsuc m) n e = absurd cc
