-- Keys, one after another.
use Rattle.std.proofs.Common.{◌≡◌, ℕ, suc, ◌+◌, ◌<◌, ◌≤◌, List, [], ◌∷◌, ◌++◌, length, get_or, drop, Option, Some, None, option_map, refl, sym, ap, ◌∙◌, append_assoc, add-one, drop-cons}
use Rattle.std.proofs.lemmas.List.{append-nil, drop_all}
use Rattle.serde_json.specs.Data.{Data, Items, no_items, item}
use Rattle.serde_json.specs.Events.{items_len}
use Rattle.serde_json.specs.View.{view, items_view}
use Rattle.serde_json.specs.declared.value.Value.{Value}
use Rattle.script_jobs.specs.DeletedKeys.{key_of, keys_of}
use Rattle.table_jobs.specs.declared.del_key.DelKey.{DelKey}

-- more keys before keys, if there are any
abbrev pub with_keys : List DelKey → Option (List DelKey) → Option (List DelKey)
with_keys front keys = option_map (λ more. front ++ more) keys

with_keys-cons : (front : List DelKey) (key : DelKey) (keys : Option (List DelKey)) → with_keys (front ++ key ∷ []) keys ≡ with_keys front (option_map (λ more. key ∷ more) keys)
with_keys-cons front key None = refl
with_keys-cons front key (Some keys) = ap Some (append_assoc front (key ∷ []) keys)

at_place : (values : List Value) (i : ℕ) (d : Value) → i < length values → drop i values ≡ get_or values i d ∷ drop (i + 1) values
at_place values i d h = rw (add-one, drop-cons values i d) refl

keys_of-key : (value : Data) (key : DelKey) (more : Items) → key_of value ≡ Some key → keys_of (item value more) ≡ option_map (λ keys. key ∷ keys) (keys_of more)
unfolding keys_of
keys_of-key value key more is = rw is refl

keys_of-none : (value : Data) (more : Items) → key_of value ≡ None → keys_of (item value more) ≡ None
unfolding keys_of
keys_of-none value more is = rw is refl

-- one more value that is a key
pub keys_more : (values : List Value) (i : ℕ) (d : Value) (front : List DelKey) (key : DelKey) → i < length values → key_of (view (get_or values i d)) ≡ Some key
    → with_keys (front ++ key ∷ []) (keys_of (items_view (drop (i + 1) values))) ≡ with_keys front (keys_of (items_view (drop i values)))
keys_more values i d front key h is =
    with_keys-cons front key _
    ∙ ap (with_keys front) (sym (ap (λ vs. keys_of (items_view vs)) (at_place values i d h) ∙ keys_of-key _ key _ is))

-- one that is none
pub keys_stop : (values : List Value) (i : ℕ) (d : Value) (front : List DelKey) → i < length values → key_of (view (get_or values i d)) ≡ None
    → with_keys front (keys_of (items_view (drop i values))) ≡ None
keys_stop values i d front h is =
    ap (with_keys front) (ap (λ vs. keys_of (items_view vs)) (at_place values i d h) ∙ keys_of-none _ _ is)

keys_of-no_items : keys_of no_items ≡ Some []
unfolding keys_of
keys_of-no_items = refl

with_keys-none : (keys : Option (List DelKey)) → with_keys [] keys ≡ keys
with_keys-none None = refl
with_keys-none (Some keys) = refl

-- nothing before them, and nothing behind them
pub keys_start : (values : List Value) → with_keys [] (keys_of (items_view (drop 0 values))) ≡ keys_of (items_view values)
keys_start values = with_keys-none _

pub keys_end : (values : List Value) (i : ℕ) (front : List DelKey) → length values ≤ i → with_keys front (keys_of (items_view (drop i values))) ≡ Some front
keys_end values i front h =
    let past : drop i values ≡ [] = drop_all i values h in
    ap (λ vs. with_keys front (keys_of (items_view vs))) past ∙ ap (with_keys front) keys_of-no_items ∙ ap Some (append-nil front)

pub items_len-items_view : (values : List Value) → items_len (items_view values) ≡ length values
items_len-items_view [] = refl
items_len-items_view (value ∷ values) = ap suc (items_len-items_view values)

pub ruleset reading = (keys_more, keys_stop, keys_start, keys_end, items_len-items_view)
