-- What is written of the metadata of deltacommits is read back: the bytes of its files say just that.
use Rattle.std.proofs.Common.{◌≡◌, ℕ, ◌+◌, ◌<◌, ◌≤◌, ◌^◌, ◌==◌, Bool, true, false, cond, List, [], ◌∷◌, ◌++◌, map, Option, Some, None, Ok, option_map, codes, decimal, IsUtf8, refl, sym, ap, ◌∙◌, arith, append-nil}
use Rattle.std.specs.Prelude.{option_and_then, IfSome}
use Rattle.std.specs.List.{AllByRecursion}
use Rattle.std.proofs.lemmas.Str.{IsUtf8-append}
use Rattle.json.specs.Json as json
use Rattle.json.specs.Print.{quoted}
use Rattle.json.specs.Tree as tree
use Rattle.json.proofs.Printed.Decimals.{IsNumber-decimal}
use Rattle.json.proofs.Printed.Tokens.{tokens-print}
use Rattle.json.proofs.Printed.Trees.{ArePrintable-json_tokens, value-json_tokens}
use Rattle.json.proofs.Printed.Utf8.{IsUtf8-are_ascii, IsUtf8-quoted}
use Rattle.serde_json.specs.Data.{Data, Items, Members, null, string, number, unsigned, array, object, no_items, item, no_members, member}
use Rattle.serde_json.specs.Read.{read, of_json, of_items, max_depth}
use Rattle.serde_json.specs.View.{items_of}
use Rattle.serde_json.specs.Written.{outline, items_outline, compact_text, items_text, members_text, comma_if}
use Rattle.serde_json.proofs.Numbers.{number_of-decimal}
use Rattle.serde_json.proofs.Texts.{print-outline}
use Rattle.table_forms.specs.JsonObjects.{json_of}
use Rattle.table_forms.proofs.DecimalLemmas.{IsUtf8-decimal}
use Rattle.table_forms.proofs.JsonObjectLemmas.{json_of_text}
use Rattle.table_forms.proofs.NameFormLemmas.{IsUtf8-partition}
use Rattle.hudi_base.proofs.Times.{IsUtf8-time_text}
use Rattle.hudi_base.specs.InstantTime.{IsTime, first_time, time_text}
use Rattle.hudi_base.specs.declared.file_group.GroupRef.{GroupRef}
use Rattle.hudi_base.specs.declared.file_group.Target.{Target}
use Rattle.file_names.specs.FileId.{born_text, file_id}
use Rattle.file_names.specs.FileName.{IsGroup}
use Rattle.file_names.specs.declared.file_name.Action.TheVariants as action
use Rattle.file_names.specs.declared.file_name.State.TheVariants.{Requested, Inflight, Completed}
use Rattle.file_names.proofs.FileIdLemmas.{IsUtf8-zero, IsUtf8-file_id}
use Rattle.meta_parts.specs.Parts.{IsTarget, target_json, written_target_json, number_json, null_or, time_json, id_json}
use Rattle.commit_meta.specs.Metadata.{meta_of}
use Rattle.commit_meta.specs.Texts.{IsWritable, meta_bytes, meta_json}
use Rattle.commit_meta.specs.declared.meta.DeltaMeta.{DeltaMeta}
use Rattle.commit_meta.specs.declared.meta.Meta.TheVariants.{Empty, Claims, Delta}
use Rattle.commit_meta.proofs.ReadBack.{read_again, empty_again, filled_bytes}

-- ---- JSON that is read back from its text

-- a value, nested no deeper than n, is read back from its JSON, and its text is UTF-8
record IsBack (n : ℕ) (d : Data) : Type 0 where
  back : of_json (outline d) ≡ Some d
  numbers : tree.HasNumbers (outline d)
  depth : tree.depth (outline d) ≤ n
  utf8 : IsUtf8 (compact_text d)

record AreBack (n : ℕ) (ds : Items) : Type 0 where
  back : of_items (items_outline ds) ≡ Some ds
  numbers : tree.ItemsHaveNumbers (items_outline ds)
  depth : tree.items_depth (items_outline ds) ≤ n
  utf8 : (later : Bool) → IsUtf8 (items_text later ds)

read_compact : (n : ℕ) (d : Data) → n ≤ max_depth → IsBack n d → json_of (compact_text d) ≡ Some d
read_compact n d few is =
    json_of_text (compact_text d) is.utf8
    ∙ ap read (sym (print-outline d))
    ∙ ap (λ (ts : _). option_and_then of_json (option_and_then (λ p. json.if_last p.0 p.1) (json.value max_depth ts)))
    (tokens-print (tree.json_tokens (outline d)) (ArePrintable-json_tokens (outline d) is.numbers) ∙ sym (append-nil (tree.json_tokens (outline d))))
    ∙ ap (λ (o : _). option_and_then of_json (option_and_then (λ p. json.if_last p.0 p.1) o)) (value-json_tokens (outline d) max_depth [] (omega (arith, few, is.depth)))
    ∙ is.back

byte : (b : ℕ) (bytes : List ℕ) → IsUtf8 (b ∷ []) → IsUtf8 bytes → IsUtf8 (b ∷ bytes)
byte b bytes one more = IsUtf8-append (b ∷ []) bytes one more

comma : (later : Bool) → IsUtf8 (comma_if later)
comma true = IsUtf8-are_ascii (44 ∷ []) refl
comma false = IsUtf8-are_ascii [] refl

text_back : (text : List ℕ) → IsUtf8 text → IsBack 0 (string text)
text_back text utf8 = record { back = refl; numbers = tt; depth = omega arith; utf8 = IsUtf8-quoted text utf8 }

null_back : IsBack 0 null
null_back = record { back = refl; numbers = tt; depth = omega arith; utf8 = IsUtf8-are_ascii (compact_text null) refl }

utf8_decimal : (n : ℕ) → n < 2 ^ 64 → IsUtf8 (decimal n)
utf8_decimal n small = IsUtf8-decimal n (decimal n) (record { fits = small; written = refl })

number_back : (n : ℕ) → n < 2 ^ 64 → IsBack 0 (number (unsigned n))
number_back n small = record {
  back = ap (option_map number) (number_of-decimal n small);
  numbers = IsNumber-decimal n small;
  depth = omega arith;
  utf8 = utf8_decimal n small;
}

no_items_back : (n : ℕ) → AreBack n no_items
no_items_back n = record { back = refl; numbers = tt; depth = omega arith; utf8 = λ later. IsUtf8-are_ascii (93 ∷ []) refl }

item_back : (n : ℕ) (d : Data) (ds : Items) → IsBack n d → AreBack n ds → AreBack n (item d ds)
item_back n d ds one more = record {
  back = ap (option_and_then (λ d. option_map (item d) (of_items (items_outline ds)))) one.back ∙ ap (option_map (item d)) more.back;
  numbers = (one.numbers, more.numbers);
  depth = omega (arith, one.depth, more.depth);
  utf8 = λ later. IsUtf8-append (comma_if later) _ (comma later) (IsUtf8-append (compact_text d) _ one.utf8 (more.utf8 true));
}

list_back : {A : Type 0} (f : A → Data) (n : ℕ) (xs : List A) → AllByRecursion (λ x. IsBack n (f x)) xs → AreBack n (items_of (map f xs))
list_back f n [] all = no_items_back n
list_back f n (x ∷ xs) all = item_back n (f x) (items_of (map f xs)) all.0 (list_back f n xs all.1)

array_back : (n : ℕ) (ds : Items) → AreBack n ds → IsBack (n + 1) (array ds)
array_back n ds all = record {
  back = ap (option_map array) all.back;
  numbers = all.numbers;
  depth = omega (arith, all.depth);
  utf8 = byte 91 (items_text false ds) (IsUtf8-are_ascii (91 ∷ []) refl) (all.utf8 false);
}

-- ---- members

end_utf8 : (later : Bool) → IsUtf8 (members_text later no_members)
end_utf8 later = IsUtf8-are_ascii (125 ∷ []) refl

member_utf8 : (later : Bool) (name : List ℕ) (d : Data) (ms : Members) → IsUtf8 name → IsUtf8 (compact_text d) → IsUtf8 (members_text true ms) → IsUtf8 (members_text later (member name d ms))
member_utf8 later name d ms named value more =
    IsUtf8-append (comma_if later) _ (comma later) (IsUtf8-append (quoted name) _ (IsUtf8-quoted name named)
    (byte 58 _ (IsUtf8-are_ascii (58 ∷ []) refl) (IsUtf8-append (compact_text d) _ value more)))

object_utf8 : (ms : Members) → IsUtf8 (members_text false ms) → IsUtf8 (compact_text (object ms))
object_utf8 ms utf8 = byte 123 (members_text false ms) (IsUtf8-are_ascii (123 ∷ []) refl) utf8

utf8_born : (born : ℕ) → IsTime born → IsUtf8 (born_text born)
utf8_born born time = by_test (born == first_time)
  where
    by_test : (b : Bool) → IsUtf8 (cond b (48 ∷ []) (time_text born))
    by_test true = IsUtf8-zero
    by_test false = IsUtf8-time_text born time

utf8_id : (table : List ℕ) (group : GroupRef) → IsGroup group → IsUtf8 (file_id table group)
utf8_id table group is = IsUtf8-file_id table group (utf8_born group.born is.born)

target_back : (table : List ℕ) (s : Target) → IsTarget s → IsBack 1 (target_json table s)
target_back table s is = record {
  back = refl;
  numbers = (tt, (tt, (tt, tt)));
  depth = omega arith;
  utf8 =
      let third = member (codes "partition") (string s.group.partition) no_members in
      let second = member (codes "file") (id_json table s.group) third in
      object_utf8 (member (codes "base") (time_json s.slice) second)
      (member_utf8 false (codes "base") (time_json s.slice) second (IsUtf8-are_ascii (codes "base") refl) (IsUtf8-quoted (time_text s.slice) (IsUtf8-time_text s.slice is.slice))
      (member_utf8 true (codes "file") (id_json table s.group) third (IsUtf8-are_ascii (codes "file") refl) (IsUtf8-quoted (file_id table s.group) (utf8_id table s.group is.group))
      (member_utf8 true (codes "partition") (string s.group.partition) no_members (IsUtf8-are_ascii (codes "partition") refl) (IsUtf8-quoted s.group.partition (IsUtf8-partition s.group.partition is.group.partition))
      (end_utf8 true))));
}

written_back : (table : List ℕ) (w : Target × ℕ) → IsTarget w.0 → w.1 < 2 ^ 32 → IsBack 1 (written_target_json table w)
written_back table w is few = record {
  back = rw (number_of-decimal w.1 small) refl;
  numbers = (tt, (tt, (tt, (IsNumber-decimal w.1 small, tt))));
  depth = omega arith;
  utf8 =
      let fourth = member (codes "writes") (number_json w.1) no_members in
      let third = member (codes "partition") (string w.0.group.partition) fourth in
      let second = member (codes "file") (id_json table w.0.group) third in
      object_utf8 (member (codes "base") (time_json w.0.slice) second)
      (member_utf8 false (codes "base") (time_json w.0.slice) second (IsUtf8-are_ascii (codes "base") refl) (IsUtf8-quoted (time_text w.0.slice) (IsUtf8-time_text w.0.slice is.slice))
      (member_utf8 true (codes "file") (id_json table w.0.group) third (IsUtf8-are_ascii (codes "file") refl) (IsUtf8-quoted (file_id table w.0.group) (utf8_id table w.0.group is.group))
      (member_utf8 true (codes "partition") (string w.0.group.partition) fourth (IsUtf8-are_ascii (codes "partition") refl) (IsUtf8-quoted w.0.group.partition (IsUtf8-partition w.0.group.partition is.group.partition))
      (member_utf8 true (codes "writes") (number_json w.1) no_members (IsUtf8-are_ascii (codes "writes") refl) (utf8_decimal w.1 small)
      (end_utf8 true)))));
}
  where
    small : w.1 < 2 ^ 64
    small = omega (arith, few)

checkpoint_back : (checkpoint : Option ℕ) → IfSome checkpoint (λ n. n < 2 ^ 64) → IsBack 0 (null_or number_json checkpoint)
checkpoint_back None fits = null_back
checkpoint_back (Some n) fits = number_back n fits

claims_json : (table : List ℕ) (groups : List Target) → AreBack 1 (items_of (map (target_json table) groups)) → IsBack 3 (meta_json table (Claims groups))
claims_json table groups all =
    let value = array_back 1 _ all in
    record {
      back = rw all.back refl;
      numbers = (value.numbers, tt);
      depth = omega (arith, value.depth);
      utf8 = object_utf8 (member (codes "groups") (array (items_of (map (target_json table) groups))) no_members)
          (member_utf8 false (codes "groups") (array (items_of (map (target_json table) groups))) no_members (IsUtf8-are_ascii (codes "groups") refl) value.utf8 (end_utf8 true));
    }

delta_json : (table : List ℕ) (meta : DeltaMeta) → IsBack 0 (null_or number_json meta.checkpoint) → AreBack 1 (items_of (map (written_target_json table) meta.groups)) → IsBack 3 (meta_json table (Delta meta))
delta_json table meta checkpoint all =
    let value = array_back 1 _ all in
    record {
      back = rw (checkpoint.back, all.back) refl;
      numbers = (checkpoint.numbers, (value.numbers, tt));
      depth = omega (arith, checkpoint.depth, value.depth);
      utf8 =
          let groups = array (items_of (map (written_target_json table) meta.groups)) in
          let second = member (codes "groups") groups no_members in
          object_utf8 (member (codes "checkpoint") (null_or number_json meta.checkpoint) second)
          (member_utf8 false (codes "checkpoint") (null_or number_json meta.checkpoint) second (IsUtf8-are_ascii (codes "checkpoint") refl) checkpoint.utf8
          (member_utf8 true (codes "groups") groups no_members (IsUtf8-are_ascii (codes "groups") refl) value.utf8 (end_utf8 true)));
    }

-- ---- metadata

all_targets : (table : List ℕ) (groups : List Target) → AllByRecursion IsTarget groups → AllByRecursion (λ s. IsBack 1 (target_json table s)) groups
all_targets table [] all = tt
all_targets table (s ∷ groups) all = (target_back table s all.0, all_targets table groups all.1)

all_written : (table : List ℕ) (groups : List (Target × ℕ)) → AllByRecursion (λ w. IsTarget w.0 × (w.1 < 2 ^ 32)) groups → AllByRecursion (λ w. IsBack 1 (written_target_json table w)) groups
all_written table [] all = tt
all_written table (w ∷ groups) all = (written_back table w all.0.0 all.0.1, all_written table groups all.1)

pub empty_reads : (table : List ℕ) → meta_of table action.Delta Requested (meta_bytes table Empty) ≡ Ok Empty
unfolding meta_bytes
empty_reads table = empty_again table Empty [] None refl refl refl

pub claims_read : (table : List ℕ) (groups : List Target) → AllByRecursion IsTarget groups → meta_of table action.Delta Inflight (meta_bytes table (Claims groups)) ≡ Ok (Claims groups)
claims_read table groups all =
    read_again table (Claims groups) (meta_bytes table (Claims groups)) refl all
    (ap json_of (sym (filled_bytes table (Claims groups) (λ same. cc)))
    ∙ read_compact 3 (meta_json table (Claims groups)) (omega arith) (claims_json table groups (list_back (target_json table) 1 groups (all_targets table groups all))))

pub delta_reads : (table : List ℕ) (meta : DeltaMeta) → IsWritable (Delta meta) → IfSome meta.checkpoint (λ n. n < 2 ^ 64)
    → meta_of table action.Delta Completed (meta_bytes table (Delta meta)) ≡ Ok (Delta meta)
delta_reads table meta all fits =
    read_again table (Delta meta) (meta_bytes table (Delta meta)) refl all
    (ap json_of (sym (filled_bytes table (Delta meta) (λ same. cc)))
    ∙ read_compact 3 (meta_json table (Delta meta)) (omega arith) (delta_json table meta (checkpoint_back meta.checkpoint fits) (list_back (written_target_json table) 1 meta.groups (all_written table meta.groups all))))
