-- Writes of one partition that follow one another.
use Rattle.std.proofs.Common.{◌≡◌, ◌<◌, ◌+◌, ℕ, List, [], ◌∷◌, ◌++◌, length, take, drop, map, get_or, refl, sym, ap, ◌∙◌, arith, append_assoc, suc, append-nil, take-append-drop, Bool, true, false, not}
use Rattle.std.specs.Str.{bytes_eq}
use Rattle.std.proofs.lemmas.Slice.Eq.{bytes_eq-Decides}
use Rattle.std.proofs.lemmas.List.{take_more, map-append}
use Rattle.std.proofs.lemmas.Grind.{flat_map-append}
use Rattle.std.specs.List.{flat_map}
use Rattle.table_history.specs.declared.step.PartitionSlots.{PartitionSlots}
use Rattle.payload_merge.specs.declared.row.Write.{Write}
use Rattle.upsert_writer.specs.BatchWrites.{partition_of, slot_in}
use Rattle.upsert_writer.specs.Slots.{each_slot, write_slot}

pub slots_of_run : (p : List ℕ) (ws : List Write) → map partition_of ws ≡ map (λ w. p) ws
    → map write_slot ws ≡ map (λ slot. (p, slot)) (map slot_in ws)
slots_of_run p [] same = refl
slots_of_run p (w ∷ ws) same =
    let head : partition_of w ≡ p = cc in
    let tail : map partition_of ws ≡ map (λ (r : Write). p) ws = cc in
    let rest = slots_of_run p ws tail in cc

-- one write more
pub same_more : (p : List ℕ) (ws : List Write) (i : ℕ) (w : Write) → i < length ws → w ≡ get_or ws i w → partition_of w ≡ p
    → map partition_of (take i ws) ≡ map (λ r. p) (take i ws) → map partition_of (take (i + 1) ws) ≡ map (λ r. p) (take (i + 1) ws)
same_more p ws i w within is here so_far =
    let more : take (i + 1) ws ≡ take i ws ++ w ∷ [] = take_more ws i w within ∙ ap (λ (r : Write). take i ws ++ r ∷ []) (sym is) in
    ap (map partition_of) more ∙ map-append partition_of (take i ws) (w ∷ [])
    ∙ ap (λ (xs : List (List ℕ)). xs ++ partition_of w ∷ []) so_far ∙ ap (λ (x : List ℕ). map (λ (r : Write). p) (take i ws) ++ x ∷ []) here
    ∙ sym (map-append (λ (r : Write). p) (take i ws) (w ∷ [])) ∙ sym (ap (map (λ (r : Write). p)) more)

-- the slots of a run, behind those that were asked for
pub one_run : (p : List ℕ) (asked : List PartitionSlots) (first : Write) (later rest same after : List Write) (n : ℕ)
    → rest ≡ first ∷ later → p ≡ partition_of first → map partition_of (take n later) ≡ map (λ r. p) (take n later)
    → same ≡ take (1 + n) rest → after ≡ drop (1 + n) rest
    → flat_map each_slot (asked ++ record { partition = p; slots = map slot_in same } ∷ []) ++ map write_slot after ≡ flat_map each_slot asked ++ map write_slot rest
one_run p asked first later rest same after n split here alike front back =
    let one : 1 + n ≡ suc n = omega arith in
    let run : same ≡ first ∷ take n later = front ∙ ap (λ (k : ℕ). take k rest) one ∙ ap (take (suc n)) split in
    let all_alike : map partition_of same ≡ map (λ (r : Write). p) same =
    ap (map partition_of) run ∙ ap (λ (xs : List (List ℕ)). partition_of first ∷ xs) alike ∙ ap (λ (x : List ℕ). x ∷ map (λ (r : Write). p) (take n later)) (sym here) ∙ sym (ap (map (λ (r : Write). p)) run) in
    let slots : map write_slot same ≡ map (λ (slot : ℕ). (p, slot)) (map slot_in same) = slots_of_run p same all_alike in
    let whole : same ++ after ≡ rest = ap (λ (xs : List Write). xs ++ after) front ∙ ap (λ (xs : List Write). take (1 + n) rest ++ xs) back ∙ take-append-drop (1 + n) rest in
    let asked_all = flat_map-append each_slot asked (record { partition = p; slots = map slot_in same } ∷ []) in
    ap (λ (xs : List (List ℕ × ℕ)). xs ++ map write_slot after) asked_all
    ∙ append_assoc (flat_map each_slot asked) _ (map write_slot after)
    ∙ ap (λ (xs : List (List ℕ × ℕ)). flat_map each_slot asked ++ (xs ++ map write_slot after)) (append-nil _ ∙ sym slots)
    ∙ ap (λ (xs : List (List ℕ × ℕ)). flat_map each_slot asked ++ xs) (sym (map-append write_slot same after) ∙ ap (map write_slot) whole)

pub same_text : (a b : List ℕ) → not (bytes_eq a b) ≡ false → a ≡ b
same_text a b h = (bytes_eq-Decides a b).0 (was_true (bytes_eq a b) h)
  where
    was_true : (x : Bool) → not x ≡ false → x ≡ true
    was_true true g = refl
    was_true false g = sym g
