use Rattle.std.proofs.Common.{◌≡◌, ℕ, zero, suc, ◌+◌, ◌-◌, ◌<◌, ◌≤◌, ◌++◌, List, length, Result, Ok, Err, drop, ap, sym, ◌∙◌, arith}
use Rattle.std.proofs.lemmas.List.{length-append}
use Rattle.std.proofs.lemmas.Result.{err_from_is_err_and}
use Rattle.hudi_base.specs.declared.column.Column.{Column}
use Rattle.hudi_base.specs.declared.value.Value.{Value}
use Rattle.parquet_pages.specs.Pages.{page_at}
use Rattle.base_cells.specs.declared.base_error.BaseError.{BaseError}
use Rattle.base_cells.specs.Binding.{behind}
use Rattle.base_cells.specs.Cells.{page_or, pages_at}
use Rattle.base_cells.proofs.PageLemmas.{behind_none, pages_next, pages_Err, pages_end, answers_Err}
use Rattle.base_cells.proofs.pages.pages_at.Goals as goal

pub loop-left-init : goal.loop-left-init
loop-left-init c = (
  c.requires,
  omega (arith, ap (length {A = Value}) c.new-cells.ensures),
  (suc (length c.args.bytes.now), omega arith, behind_none c.new-cells.result (pages_at (suc (length c.args.bytes.now)) c.args.column.now c.args.count c.args.start c.args.bytes.now) c.new-cells.ensures),
)

-- there is a step more, since the place is within the bytes
refused : (size at left : ℕ) (column : Column) (bytes : List ℕ) (cells : List Value) (steps : ℕ) (error : BaseError) → at ≤ length bytes → length bytes < at + steps → 0 < left → page_or at left (page_at column (drop at bytes)) ≡ Err error
    → behind cells (pages_at steps column left at bytes) ≡ Err error
refused size at left column bytes cells zero error le lt some e = absurd (omega arith)
refused size at left column bytes cells (suc steps) error le lt some e = pages_Err steps column left at bytes cells error some e

pub returns-in_err-page-clause-cells : goal.returns-in_err-page-clause-cells
returns-in_err-page-clause-cells c =
    let p = err_from_is_err_and c.from_residual.result c.from_residual.ensures.1 in
    let s = c.loop-left.invariant.2 in
    rw (p.1, p.2)
    (answers_Err (λ (page : List Value × ℕ). page) (λ (cells : List Value). cells) c.in_err-page.field-0.0 (page_or c.loop-left.at c.loop-left.left (page_at c.args.column.now (drop c.loop-left.at c.args.bytes.now))) (pages_at (suc (length c.args.bytes.now)) c.args.column.now c.args.count c.args.start c.args.bytes.now)
    (λ error e. s.2 ∙ refused 0 c.loop-left.at c.loop-left.left c.args.column.now c.args.bytes.now c.loop-left.cells s.0 error c.loop-left.invariant.0 s.1 (omega arith) e)
    c.in_err-page.ensures.page)

-- one step fewer
went_on : (at left n : ℕ) (column : Column) (bytes : List ℕ) (before page longer : List Value) (steps : ℕ) (whole : Result (List Value) BaseError) → at ≤ length bytes → length bytes < at + steps → 0 < left → 0 < n → page_or at left (page_at column (drop at bytes)) ≡ Ok (page, n)
    → longer ≡ before ++ page → whole ≡ behind before (pages_at steps column left at bytes) → (x : ℕ) × (length bytes < at + n + x) × (whole ≡ behind longer (pages_at x column (left - length page) (at + n) bytes))
went_on at left n column bytes before page longer zero whole le lt some pos_n e f w = absurd (omega arith)
went_on at left n column bytes before page longer (suc steps) whole le lt some pos_n e f w =
    (steps, omega arith, w ∙ pages_next steps column left at n bytes before page some e ∙ ap (λ (cells : List Value). behind cells (pages_at steps column (left - length page) (at + n) bytes)) (sym f))

pub loop-left-preserved : goal.loop-left-preserved
loop-left-preserved c =
    let s = c.loop-left.invariant.2 in
    let len : c.len-left.result ≡ length c.in_ok-page.page = c.len-left.ensures in
    let longer : c.in_ok-cells.cells ≡ c.loop-left.cells ++ c.in_ok-page.page = c.in_ok-cells.ensures in
    let found = went_on c.loop-left.at c.loop-left.left c.in_ok-page.len c.args.column.now c.args.bytes.now c.loop-left.cells c.in_ok-page.page c.in_ok-cells.cells s.0 (pages_at (suc (length c.args.bytes.now)) c.args.column.now c.args.count c.args.start c.args.bytes.now)
    c.loop-left.invariant.0 s.1 (omega arith) c.in_ok-page.ensures.some c.in_ok-page.ensures.page longer s.2 in (
      c.in_ok-page.ensures.within,
      omega (arith, ap (length {A = Value}) longer, length-append c.loop-left.cells c.in_ok-page.page, c.in_ok-page.ensures.few, len),
      (found.0, found.1, found.2 ∙ ap (λ (k : ℕ). behind c.in_ok-cells.cells (pages_at found.0 c.args.column.now (c.loop-left.left - k) (c.loop-left.at + c.in_ok-page.len) c.args.bytes.now)) (sym len)),
    )

pub returns-clause-cells : goal.returns-clause-cells
returns-clause-cells c = c.loop-left.invariant.2.2 ∙ pages_end c.loop-left.invariant.2.0 c.args.column.now c.loop-left.left c.loop-left.at c.args.bytes.now c.loop-left.cells (omega arith)
