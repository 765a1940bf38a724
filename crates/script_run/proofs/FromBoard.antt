-- A board that stood when it was made still does.
use Rattle.std.proofs.Common.{◌≡◌, ℕ, List, ◌++◌, length, take, Some, sym, ap, ◌∙◌, subst, arith}
use Rattle.std.proofs.Math.Seq.{take-append_seam}
use Rattle.std.proofs.lemmas.List.{take_all}
use Rattle.hudi_base.specs.Files.{FileMap, Told, changed_all}
use Rattle.hudi_base.specs.declared.operation.Operation.{Operation}
use Rattle.table_board.specs.HonestRuns.{Stood, files_then}
use Rattle.table_board.specs.Later.{ToldLater}
use Rattle.table_history.specs.Tables.{Table}
use Rattle.table_images.specs.Stands.{IsJustOpened, StandsFor}
use Rattle.table_images.proofs.Lines.{some_same}

pub stood_on : (A : Table) (was is : Type 0) (old new : Told) (done : ℕ) (start : FileMap) (before now : List Operation) → Stood was old A done start before → done ≡ length before
    → ToldLater was old new → (was → is) → new.operations ≡ Some now → Stood is new A done start now
stood_on A was is old new done start before now stood count later same tells =
    let more = later.operations stood.honest before stood.tells_operations in
    let now_is : now ≡ before ++ more.0 = some_same (sym tells ∙ more.1) in
    let first_are : take done now ≡ before = ap (λ n. take n now) count ∙ ap (take (length before)) now_is ∙ take-append_seam before more.0 in
    let all : take done before ≡ before = take_all done before (omega (arith, count)) in
    let files_are : files_then start done now ≡ files_then start done before = ap (changed_all start) (first_are ∙ sym all) in
    record {
      honest = same stood.honest;
      tells_files = later.files ∙ stood.tells_files;
      tells_operations = tells;
      tells_first = later.first ∙ stood.tells_first;
      stands = subst (λ (files : FileMap). StandsFor files A 0) (sym files_are) stood.stands;
      opened = subst (λ (files : FileMap). IsJustOpened files A) (sym files_are) stood.opened;
    }
