-- What stands after a table was made.
use Rattle.std.proofs.Common.{◌≡◌, ◌⊎◌, inl, inr, ℕ, zero, suc, ◌+◌, ◌≤◌, Bool, true, false, ◌&&◌, List, [], ◌∷◌, ◌++◌, length, take, slice_get, Option, Some, None, Ok, IfSome, IsTrue, length-append, refl, sym, ap, ◌∙◌, subst, arith}
use Rattle.std.specs.Prelude.{nat_le, is_some}
use Rattle.std.proofs.lemmas.Bool.Decides.{nat_tests}
use Rattle.std.proofs.lemmas.List.{take_all}
use Rattle.std.specs.FinMap.{empty}
use Rattle.hudi_base.specs.Files.{FileMap, IsImage, IsReplay, Told, after, changed, changed_all}
use Rattle.hudi_base.specs.declared.operation.Operation.{Operation}
use Rattle.hudi_base.specs.Store.{Creates}
use Rattle.hudi_base.specs.declared.store.Made.{Made}
use Rattle.file_names.specs.FileName.{name_of}
use Rattle.file_names.specs.declared.file_name.FileName.TheVariants as file
use Rattle.key_index.specs.Tiling.{IsBuckets}
use Rattle.table_images.specs.Properties.{properties_name}
use Rattle.table_board.specs.Boards.{IsNewTable, Origin, table_of}
use Rattle.table_board.specs.HonestRuns.{Stood, files_then}
use Rattle.table_core.specs.ControlTables.{IsControl}
use Rattle.table_core.specs.declared.control.Control.{Control}
use Rattle.table_history.specs.Tables.{Table, fresh}
use Rattle.table_images.specs.Stands.{IsJustOpened, StandsFor}
use Rattle.table_images.proofs.Images.{image_behind}
use Rattle.table_images.proofs.Opened.{fresh_just_opened, fresh_stands}
use Rattle.table_props.specs.PropsTexts.{IsTold, Told as Properties, props_text, read_props, told_of}
use Rattle.table_open.specs.NewTables.{IsFreshTable, IsHonestFresh, IsNoneOrTable, making}

-- ---- properties

both : (a b : Bool) → (a && b) ≡ true → (a ≡ true) × (b ≡ true)
both true b is = (refl, is)
both false b is = absurd cc

pub told_buckets : (props : Properties) → IsTold props → IsBuckets props.buckets
told_buckets props is =
    let tests = both (nat_le 1 props.buckets) (nat_le props.buckets 1024) is.buckets in
    let low = tests.0 in
    let high = tests.1 in
    (grind (arith, nat_tests), grind (arith, nat_tests))

-- the control of a new table is one into which nothing was taken
pub new_table : (props : Properties) (control : Control) → IsControl (fresh props) [] control → IsNewTable control
new_table props control is = let P : Properties → Type 0 = λ p. IsControl (fresh p) [] control in subst P (sym is.props) is

-- ---- the file

-- it has one name in each table
pub one_name : (table other : List ℕ) → name_of table file.Properties ≡ name_of other file.Properties
unfolding name_of
one_name table other = refl

pub created_so : (honest : Type 0) (old new : Told) (props : Properties) (name bytes : List ℕ) (made : Made) → name ≡ properties_name (fresh props) → bytes ≡ props_text props
    → Creates honest old new name bytes made → Creates honest old new (properties_name (fresh props)) (props_text props) made
created_so honest old new props name bytes made named written creates =
    subst (λ (n : List ℕ). Creates honest old new n (props_text props) made) named (subst (λ (b : List ℕ). Creates honest old new name b made) written creates)

-- ---- the files

pub made_stands : (props : Properties) → IsTold props → read_props (props_text props) ≡ Ok props → IsFreshTable (changed empty (making props)) props
made_stands props is reads = record {
  stands = fresh_stands props (props_text props) (told_buckets props is) reads;
  opened = fresh_just_opened props (props_text props);
}

-- ---- what a stop leaves

pub none_or_table : (props : Properties) → IsTold props → read_props (props_text props) ≡ Ok props → IsNoneOrTable props
none_or_table props is reads start before more image none stop =
    let all : length before ≡ length before + 0 = omega arith in
    let P : FileMap → Type 0 = λ files. IsImage files (making props ∷ more) 0 image in
    of (subst P none (image_behind start before (making props ∷ more) 0 image (subst (λ (n : ℕ). IsImage start (before ++ making props ∷ more) n image) all stop)))
  where
    whole : image ≡ changed empty (making props) → IsFreshTable image props
    whole same = let P : FileMap → Type 0 = λ files. IsFreshTable files props in subst P (sym same) (made_stands props is reads)

    of : IsImage empty (making props ∷ more) 0 image → (image ≡ empty) ⊎ IsFreshTable image props
    of (inl same) = inl same
    of (inr (inl same)) = inl same
    of (inr (inr same)) = inr (whole same)

-- ---- the board

changed_more : (files : FileMap) (operations : List Operation) (operation : Operation) → changed_all files (operations ++ operation ∷ []) ≡ changed (changed_all files operations) operation
changed_more files [] operation = refl
changed_more files (o ∷ operations) operation = changed_more (changed files o) operations operation

pub replay_is : (told : Told) (files first : FileMap) (operations : List Operation) → told.files ≡ Some files → told.operations ≡ Some operations → told.first ≡ Some first → IsReplay told → files ≡ changed_all first operations
replay_is told files first operations files_are operations_are first_is replay = of told.files told.operations told.first files_are operations_are first_is replay
  where
    of : (o : Option FileMap) (p : Option (List Operation)) (q : Option FileMap) → o ≡ Some files → p ≡ Some operations → q ≡ Some first
        → IfSome o (λ files. IfSome p (λ operations. IfSome q (λ first. files ≡ changed_all first operations))) → files ≡ changed_all first operations
    of o p q at is start replay =
        subst (λ (q : Option FileMap). IfSome q (λ first. files ≡ changed_all first operations)) start
        (subst (λ (p : Option (List Operation)). IfSome p (λ operations. IfSome q (λ first. files ≡ changed_all first operations))) is
        (subst (λ (o : Option FileMap). IfSome o (λ files. IfSome p (λ operations. IfSome q (λ first. files ≡ changed_all first operations)))) at replay))

if_some : {A : Type 0} (P : A → Type 0) (o : Option A) (x : A) → o ≡ Some x → IfSome o P → P x
if_some P None x is h = absurd cc
if_some P (Some y) x is h = let same : y ≡ x = cc in subst P same h

-- a store that was honest and told that it had no file stood for the table after the file was made
pub made_stood : (props : Properties) (origin : Origin) (was is : Type 0) (old new : Told) (first : FileMap) (before : List Operation) → IsTold props → read_props (props_text props) ≡ Ok props
    → origin.props ≡ props → IfSome new.operations (λ operations. origin.done ≡ length operations) → (was → is) → IsReplay old → new ≡ after old (making props)
    → IsHonestFresh was old first before → Stood is new (table_of origin) origin.done first (before ++ making props ∷ [])
made_stood props origin was is old new first before told reads table count same replay made store =
    let now : List Operation = before ++ making props ∷ [] in
    let operations : new.operations ≡ Some now =
    ap (λ (t : Told). t.operations) made ∙ ap (λ (o : Option (List Operation)). (after (record old { operations = o }) (making props)).operations) store.operations in
    let files : new.files ≡ Some (changed empty (making props)) =
    ap (λ (t : Told). t.files) made ∙ ap (λ (o : Option FileMap). (after (record old { files = o }) (making props)).files) store.files in
    let done : origin.done ≡ length now = if_some (λ (operations : List Operation). origin.done ≡ length operations) new.operations now operations count in
    let all : take origin.done now ≡ now = take_all origin.done now (omega (arith, done)) in
    let none : changed_all first before ≡ empty = sym (replay_is old empty first before store.files store.operations store.first replay) in
    let then : files_then first origin.done now ≡ changed empty (making props) =
    ap (changed_all first) all ∙ changed_more first before (making props) ∙ ap (λ (files : FileMap). changed files (making props)) none in
    let table_is : table_of origin ≡ fresh props = ap fresh table in
    let fresh_table = made_stands props told reads in
    let P : FileMap → Table → Type 0 = λ files A. StandsFor files A 0 in
    let Q : FileMap → Table → Type 0 = λ files A. IsJustOpened files A in
    record {
      honest = same store.honest;
      tells_files = subst (λ (o : Option FileMap). is_some o ≡ true) (sym files) refl;
      tells_operations = operations;
      tells_first = ap (λ (t : Told). t.first) made ∙ store.first;
      stands = subst (λ (A : Table). P (files_then first origin.done now) A) (sym table_is) (subst (λ (files : FileMap). P files (fresh props)) (sym then) fresh_table.stands);
      opened = subst (λ (A : Table). Q (files_then first origin.done now) A) (sym table_is) (subst (λ (files : FileMap). Q files (fresh props)) (sym then) fresh_table.opened);
    }
