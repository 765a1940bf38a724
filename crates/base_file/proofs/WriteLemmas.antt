-- Row groups one after another.
use Rattle.std.proofs.Common.{◌≡◌, ℕ, zero, suc, ◌+◌, ◌*◌, ◌-◌, ◌<◌, ◌≤◌, List, [], ◌∷◌, ◌++◌, length, take, drop, refl, sym, ap, subst, ◌∙◌, append_assoc, arith}
use Rattle.std.specs.List.{AllZip, AllByRecursion}
use Rattle.std.proofs.lemmas.List.{append-nil, length-append, length-drop, take-append-drop, take_more}
use Rattle.std.proofs.Common.{get_or}
use Rattle.std.specs.Prelude.{Result, Ok, Err, IfOk}
use Rattle.std.proofs.lemmas.List.{take-append-le, drop-append-le, drop_all, take_all}
use Rattle.hudi_base.specs.declared.column.Column.{Column}
use Rattle.hudi_base.specs.declared.value.Value.{Value}
use Rattle.column_cells.specs.Cells.{AreCellsOf}
use Rattle.parquet_meta.specs.declared.row_group.RowGroup.{RowGroup}
use Rattle.byteorder.specs.Endian.{little_bytes}
use Rattle.parquet_meta.specs.Written.{file_meta_bytes}
use Rattle.payload_merge.specs.declared.row.Row.{Row}
use Rattle.base_cells.specs.Ends.{magic}
use Rattle.base_cells.specs.Written.{group_len, grouped, groups_in, group_pages, groups_pages, group_of, groups_of, meta_of, file_bytes}
use Rattle.parquet_pages.specs.Parts.{Parts}
use Rattle.base_writer.specs.Fitting.{AreGroupOf, HasForm, end_bytes, meta_with}
use Rattle.base_writer.specs.GroupParts.{group_parts, ArePagesOf}
use Rattle.base_file.specs.WrittenRows.{Meaning, StandsFor, AreAdded, IsFileOf, IsPut, IsBegun, AreFull}

-- ---- rows of cells beside rows

pub zip_long : {A B : Type 0} (R : A → B → Type 0) (xs : List A) (ys : List B) → AllZip R xs ys → length xs ≡ length ys
zip_long R [] [] all = refl
zip_long R [] (y ∷ ys) all = absurd all
zip_long R (x ∷ xs) [] all = absurd all
zip_long R (x ∷ xs) (y ∷ ys) all = ap suc (zip_long R xs ys all.1)

pub zip_both : {A B : Type 0} (R : A → B → Type 0) (xs more : List A) (ys after : List B) → AllZip R xs ys → AllZip R more after → AllZip R (xs ++ more) (ys ++ after)
zip_both R [] more [] after all rest = rest
zip_both R [] more (y ∷ ys) after all rest = absurd all
zip_both R (x ∷ xs) more [] after all rest = absurd all
zip_both R (x ∷ xs) more (y ∷ ys) after all rest = (all.0, zip_both R xs more ys after all.1 rest)

-- one row more
pub zip_more : (m : Meaning) (i : ℕ) (rows : List Row) (row : Row) (cells : List Value) (table longer : List (List Value)) → i < length rows → row ≡ get_or rows i row → StandsFor m cells row → longer ≡ table ++ cells ∷ []
    → AllZip (StandsFor m) table (take i rows) → AllZip (StandsFor m) longer (take (i + 1) rows)
zip_more m i rows row cells table longer lt is stands e all =
    let both = zip_both (StandsFor m) table (cells ∷ []) (take i rows) (row ∷ []) all (stands, tt) in
    let next : take i rows ++ row ∷ [] ≡ take (i + 1) rows = ap (λ (x : Row). take i rows ++ x ∷ []) is ∙ sym (take_more rows i row lt) in
    subst (λ (xs : List (List Value)). AllZip (StandsFor m) xs (take (i + 1) rows)) (sym e) (subst (λ (xs : List Row). AllZip (StandsFor m) (table ++ cells ∷ []) xs) next both)

pub added_more : (m : Meaning) (columns : List Column) (i : ℕ) (rows : List Row) (row : Row) (cells : List Value) (old new : List Parts) → columns ≡ m.columns → i < length rows → row ≡ get_or rows i row → StandsFor m cells row → AreAdded m (take i rows) old
    → ((table : List (List Value)) → old ≡ group_parts columns table → new ≡ group_parts columns (table ++ cells ∷ [])) → AreAdded m (take (i + 1) rows) new
added_more m columns i rows row cells old new e lt is stands added more =
    let longer = added.table ++ cells ∷ [] in record {
      table = longer;
      stand = zip_more m i rows row cells added.table longer lt is stands refl added.stand;
      are = more added.table (added.are ∙ ap (λ (cs : List Column). group_parts cs added.table) (sym e)) ∙ ap (λ (cs : List Column). group_parts cs longer) e;
    }

pub added_all : (m : Meaning) (i : ℕ) (rows : List Row) (parts : List Parts) → length rows ≤ i → AreAdded m (take i rows) parts → AreAdded m rows parts
added_all m i rows parts past added = subst (λ (xs : List Row). AreAdded m xs parts) (take_all i rows past) added

pub pages_of_added : (m : Meaning) (columns : List Column) (rows : List Row) (count : ℕ) (parts : List Parts) → columns ≡ m.columns → count ≡ length rows → (added : AreAdded m rows parts) → ArePagesOf columns added.table count parts
pages_of_added m columns rows count parts e n added = record {
  are = added.are ∙ ap (λ (cs : List Column). group_parts cs added.table) (sym e);
  counted = n ∙ sym (zip_long (StandsFor m) added.table rows added.stand);
}

each_of : (m : Meaning) (table : List (List Value)) (rows : List Row) → AllZip (StandsFor m) table rows → AllByRecursion (AreCellsOf m.columns) table
each_of m [] [] all = tt
each_of m [] (row ∷ rows) all = absurd all
each_of m (cells ∷ table) [] all = absurd all
each_of m (cells ∷ table) (row ∷ rows) all = (all.0.of_the_columns, each_of m table rows all.1)

pub are_group : (m : Meaning) (columns : List Column) (table : List (List Value)) (rows : List Row) → columns ≡ m.columns → length rows ≤ group_len → AllZip (StandsFor m) table rows → AreGroupOf columns table
are_group m columns table rows e le all =
    let long = zip_long (StandsFor m) table rows all in
    subst (λ (cs : List Column). AreGroupOf cs table) (sym e) (record { each = each_of m table rows all; few = omega arith })

-- ---- groups of rows

grouped_enough : (m n : ℕ) (rows : List (List Value)) → length rows ≤ m → length rows ≤ n → grouped m rows ≡ grouped n rows
unfolding grouped
grouped_enough zero zero rows le le' = refl
grouped_enough zero (suc n) [] le le' = refl
grouped_enough zero (suc n) (row ∷ rows) le le' = absurd (omega arith)
grouped_enough (suc m) zero [] le le' = refl
grouped_enough (suc m) zero (row ∷ rows) le le' = absurd (omega arith)
grouped_enough (suc m) (suc n) [] le le' = refl
grouped_enough (suc m) (suc n) (row ∷ rows) le le' =
    let len = length-drop group_len (row ∷ rows) in
    ap (λ (gs : List (List (List Value))). take group_len (row ∷ rows) ∷ gs) (grouped_enough m n (drop group_len (row ∷ rows)) (omega arith) (omega arith))

grouped_none : (steps : ℕ) → grouped steps [] ≡ []
unfolding grouped
grouped_none zero = refl
grouped_none (suc steps) = refl

grouped_last : (steps : ℕ) (more : List (List Value)) → 0 < length more → length more ≤ group_len → length more ≤ steps → grouped steps more ≡ more ∷ []
unfolding grouped
grouped_last steps [] some few enough = absurd (omega arith)
grouped_last zero (row ∷ rows) some few enough = absurd (omega arith)
grouped_last (suc steps) (row ∷ rows) some few enough =
    ap (λ (g : List (List Value)). g ∷ grouped steps (drop group_len (row ∷ rows))) (take_all group_len (row ∷ rows) few)
    ∙ ap (λ (gs : List (List (List Value))). (row ∷ rows) ∷ gs) (ap (grouped steps) (drop_all group_len (row ∷ rows) few) ∙ grouped_none steps)

grouped_more : (k steps : ℕ) (done more : List (List Value)) → length done ≡ k * group_len → 0 < length more → length more ≤ group_len → length done + length more ≤ steps → grouped steps (done ++ more) ≡ grouped steps done ++ more ∷ []
unfolding grouped
grouped_more zero steps [] more full some few enough = grouped_last steps more some few (omega arith) ∙ ap (λ (gs : List (List (List Value))). gs ++ more ∷ []) (sym (grouped_none steps))
grouped_more zero steps (row ∷ rows) more full some few enough = absurd (omega arith)
grouped_more (suc k) zero done more full some few enough = absurd (omega arith)
grouped_more (suc k) (suc steps) [] more full some few enough = absurd (omega arith)
grouped_more (suc k) (suc steps) (row ∷ rows) more full some few enough =
    let le : group_len ≤ length (row ∷ rows) = omega arith in
    let len = length-drop group_len (row ∷ rows) in
    ap (λ (g : List (List Value)). g ∷ grouped steps (drop group_len ((row ∷ rows) ++ more))) (take-append-le group_len (row ∷ rows) more le)
    ∙ ap (λ (xs : List (List Value)). take group_len (row ∷ rows) ∷ grouped steps xs) (drop-append-le group_len (row ∷ rows) more le)
    ∙ ap (λ (gs : List (List (List Value))). take group_len (row ∷ rows) ∷ gs) (grouped_more k steps (drop group_len (row ∷ rows)) more (omega arith) some few (omega arith))

groups_in_more : (k : ℕ) (done more : List (List Value)) → length done ≡ k * group_len → 0 < length more → length more ≤ group_len → groups_in (done ++ more) ≡ groups_in done ++ more ∷ []
groups_in_more k done more full some few =
    let len = length-append done more in
    grouped_more k (length (done ++ more)) done more full some few (omega arith)
    ∙ ap (λ (gs : List (List (List Value))). gs ++ more ∷ []) (grouped_enough (length (done ++ more)) (length done) done (omega arith) (omega arith))

groups_pages_more : (columns : List Column) (gs : List (List (List Value))) (g : List (List Value)) → groups_pages columns (gs ++ g ∷ []) ≡ groups_pages columns gs ++ group_pages columns g
groups_pages_more columns [] g = append-nil (group_pages columns g)
groups_pages_more columns (rows ∷ gs) g = ap (λ (x : List ℕ). group_pages columns rows ++ x) (groups_pages_more columns gs g) ∙ sym (append_assoc (group_pages columns rows) (groups_pages columns gs) (group_pages columns g))

groups_of_more : (at : ℕ) (columns : List Column) (gs : List (List (List Value))) (g : List (List Value)) → groups_of at columns (gs ++ g ∷ []) ≡ groups_of at columns gs ++ group_of (at + length (groups_pages columns gs)) columns g ∷ []
groups_of_more at columns [] g = ap (λ (k : ℕ). group_of k columns g ∷ []) (omega arith)
groups_of_more at columns (rows ∷ gs) g =
    let len = length-append (group_pages columns rows) (groups_pages columns gs) in
    ap (λ (x : List RowGroup). group_of at columns rows ∷ x) (groups_of_more (at + length (group_pages columns rows)) columns gs g
    ∙ ap (λ (k : ℕ). groups_of (at + length (group_pages columns rows)) columns gs ++ group_of k columns g ∷ []) (omega arith))

-- ---- the loop

pub nothing_yet : (m : Meaning) (bytes : List ℕ) (groups : List RowGroup) → bytes ≡ magic → groups ≡ [] → IsBegun m [] bytes groups
unfolding grouped
nothing_yet m bytes groups e f = record { table = []; stand = tt; pages = e; groups_are = f }

pub group_more : (m : Meaning) (done front : List Row) (old new : List ℕ) (groups more : List RowGroup) → AreFull done → 0 < length front → length front ≤ group_len → IsBegun m done old groups → IsPut m front old new groups more → IsBegun m (done ++ front) new more
group_more m done front old new groups more full some few begun put =
    let long = zip_long (StandsFor m) begun.table done begun.stand in
    let long' = zip_long (StandsFor m) put.table front put.stand in
    let next = groups_in_more full.0 begun.table put.table (long ∙ full.1) (omega arith) (omega arith) in
    let at : length old ≡ 4 + length (groups_pages m.columns (groups_in begun.table)) = ap (length {A = ℕ}) begun.pages ∙ length-append magic (groups_pages m.columns (groups_in begun.table)) in
    record {
      table = begun.table ++ put.table;
      stand = zip_both (StandsFor m) begun.table put.table done front begun.stand put.stand;
      pages = put.pages ∙ ap (λ (x : List ℕ). x ++ group_pages m.columns put.table) begun.pages ∙ append_assoc magic (groups_pages m.columns (groups_in begun.table)) (group_pages m.columns put.table)
          ∙ ap (λ (x : List ℕ). magic ++ x) (sym (ap (groups_pages m.columns) next ∙ groups_pages_more m.columns (groups_in begun.table) put.table));
      groups_are = put.group ∙ ap (λ (gs : List RowGroup). gs ++ group_of (length old) m.columns put.table ∷ []) begun.groups_are
          ∙ ap (λ (k : ℕ). groups_of 4 m.columns (groups_in begun.table) ++ group_of k m.columns put.table ∷ []) at
          ∙ sym (ap (groups_of 4 m.columns) next ∙ groups_of_more 4 m.columns (groups_in begun.table) put.table);
    }

pub file_ended : (m : Meaning) (columns : List Column) (rows done : List Row) (bytes file : List ℕ) (groups : List RowGroup) (count : ℕ) → columns ≡ m.columns → done ≡ rows → count ≡ length rows → IsBegun m done bytes groups → file ≡ bytes ++ end_bytes columns count groups → HasForm (meta_with columns count groups) → IsFileOf m rows file
unfolding file_bytes meta_of
file_ended m columns rows done bytes file groups count e f n begun is form =
    let long = zip_long (StandsFor m) begun.table done begun.stand in
    let table_long : count ≡ length begun.table = n ∙ ap (length {A = Row}) (sym f) ∙ sym long in
    let pages = groups_pages m.columns (groups_in begun.table) in
    let footer = file_meta_bytes (meta_with m.columns (length begun.table) (groups_of 4 m.columns (groups_in begun.table))) in
    record {
      table = begun.table;
      stand = subst (λ (xs : List Row). AllZip (StandsFor m) begun.table xs) f begun.stand;
      written = is ∙ ap (λ (x : List ℕ). x ++ end_bytes columns count groups) begun.pages
          ∙ ap (λ (cs : List Column). (magic ++ pages) ++ end_bytes cs count groups) e ∙ ap (λ (k : ℕ). (magic ++ pages) ++ end_bytes m.columns k groups) table_long
          ∙ ap (λ (gs : List RowGroup). (magic ++ pages) ++ end_bytes m.columns (length begun.table) gs) begun.groups_are
          ∙ sym (append_assoc (magic ++ pages) (footer ++ little_bytes 4 (length footer)) magic) ∙ ap (λ (x : List ℕ). x ++ magic) (sym (append_assoc (magic ++ pages) footer (little_bytes 4 (length footer))));
      form = subst (λ (gs : List RowGroup). HasForm (meta_with m.columns (length begun.table) gs)) begun.groups_are
          (subst (λ (k : ℕ). HasForm (meta_with m.columns k groups)) table_long
          (subst (λ (cs : List Column). HasForm (meta_with cs count groups)) e form));
    }

-- an answer of which two things hold
pub ok_both : {T E : Type 0} (r : Result T E) (P Q : T → Type 0) → IfOk r P → IfOk r Q → IfOk r (λ x. P x × Q x)
ok_both (Ok x) P Q p q = (p, q)
ok_both (Err e) P Q p q = tt

pub full_more : (done front : List Row) → AreFull done → length front ≡ group_len → AreFull (done ++ front)
full_more done front full len = (suc full.0, omega (arith, length-append done front, full.1))

pub all_done : (done rest rows : List Row) → done ++ rest ≡ rows → length rest ≡ 0 → done ≡ rows
all_done done [] rows e none = sym (append-nil done) ∙ e
all_done done (row ∷ rest) rows e none = absurd (omega arith)

-- the rows of a row group and those behind it
pub parts_again : (n : ℕ) (done front back rest rows : List Row) → front ≡ take n rest → back ≡ drop n rest → done ++ rest ≡ rows → (done ++ front) ++ back ≡ rows
parts_again n done front back rest rows e f g =
    append_assoc done front back ∙ ap (λ (x : List Row). done ++ (x ++ back)) e ∙ ap (λ (x : List Row). done ++ (take n rest ++ x)) f ∙ ap (λ (x : List Row). done ++ x) (take-append-drop n rest) ∙ g
