-- Rows, one after another.
use Rattle.std.proofs.Common.{◌≡◌, ℕ, suc, ◌+◌, ◌<◌, ◌≤◌, Bool, true, false, List, [], ◌∷◌, length, get_or, drop, refl, ap, add-one, drop-cons}
use Rattle.std.proofs.lemmas.List.{drop_all}
use Rattle.serde_json.specs.Events.{items_len}
use Rattle.serde_json.specs.View.{view, items_view}
use Rattle.serde_json.specs.declared.value.Value.{Value}
use Rattle.script_jobs.specs.Rows.{are_objects, is_object}

at_place : (rows : List Value) (i : ℕ) (d : Value) → i < length rows → drop i rows ≡ get_or rows i d ∷ drop (i + 1) rows
at_place rows i d h = rw (add-one, drop-cons rows i d) refl

abbrev from_place : (rows : List Value) (i : ℕ) → Bool
from_place rows i = are_objects (items_view (drop i rows))

-- one more row that is an object
pub objects_more : (rows : List Value) (i : ℕ) (d : Value) → i < length rows → is_object (view (get_or rows i d)) ≡ true
    → are_objects (items_view (drop (i + 1) rows)) ≡ are_objects (items_view (drop i rows))
objects_more rows i d h is = rw (at_place rows i d h) (rw is refl)

-- one that is none
pub objects_stop : (rows : List Value) (i : ℕ) (d : Value) → i < length rows → is_object (view (get_or rows i d)) ≡ false
    → are_objects (items_view (drop i rows)) ≡ false
objects_stop rows i d h is = rw (at_place rows i d h) (rw is refl)

pub objects_end : (rows : List Value) (i : ℕ) → length rows ≤ i → are_objects (items_view (drop i rows)) ≡ true
objects_end rows i h = let past : drop i rows ≡ [] = drop_all i rows h in rw past refl

pub items_len-items_view : (rows : List Value) → items_len (items_view rows) ≡ length rows
items_len-items_view [] = refl
items_len-items_view (row ∷ rows) = ap suc (items_len-items_view rows)

pub ruleset reading = (objects_more, objects_stop, objects_end, items_len-items_view)
