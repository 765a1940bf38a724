-- The pieces that queries read are there.
use Rattle.std.proofs.Common.{◌≡◌, ◌≤◌, ◌+◌, ℕ, zero, suc, List, [], ◌∷◌, ◌++◌, length, take, drop, slice_get, Option, Some, None, IsSomeAnd, length-append, length-drop, refl, ap, ◌∙◌, subst, arith}
use Rattle.std.proofs.lemmas.List.{take-append-le, drop-append-le}
use Rattle.std.specs.List.{AllByRecursion}
use Rattle.hudi_base.specs.Files.{FileMap}
use Rattle.hudi_base.specs.declared.file_group.Target.{Target}
use Rattle.table_history.specs.Answers.{May, IsPieceOf}
use Rattle.table_history.specs.Histories.{History}
use Rattle.table_history.specs.Logs.{bytes_in, files_of, target_at}
use Rattle.std.specs.Prelude.{option_and_then}
use Rattle.file_names.specs.declared.file_name.Action.TheVariants.{Delta}
use Rattle.file_names.specs.declared.file_name.State.TheVariants.{Inflight, Completed}
use Rattle.table_images.specs.Timeline.{timeline_name}
use Rattle.table_history.specs.Operations.{operation, appends, reads}
use Rattle.table_history.specs.Pins.{pin_of, part_at, files_of_view}
use Rattle.table_history.specs.Tables.{Table}
use Rattle.table_history.specs.declared.job.Job.{Job}
use Rattle.table_history.specs.declared.operation.Op.TheVariants as op
use Rattle.table_history.specs.declared.reply.Reply.{Reply}
use Rattle.table_history.specs.declared.reply.Reply.TheVariants as reply
use Rattle.table_history.specs.declared.step.Reader.TheVariants as reader
use Rattle.table_history.specs.declared.step.PartitionSlots.{PartitionSlots}
use Rattle.table_history.specs.declared.step.Step.{Step}
use Rattle.table_history.specs.declared.step.Step.TheVariants.{Begin, Enter, Append, Finish, Pin, Unpin, Read, Abandon}
use Rattle.table_history.specs.declared.view.LivePin.{LivePin}
use Rattle.table_history.specs.declared.view.Part.{Part}
use Rattle.table_images.specs.KnownFiles.{KnownFiles}
use Rattle.table_images.specs.Kept.{Kept}
use Rattle.table_images.specs.Stands.{IsPieceThere}
use Rattle.table_images.proofs.Views.{IsKnownTo, KnownViews, known_there}

all_at : (P : Part → Type 0) (parts : List Part) (n : ℕ) (part : Part) → AllByRecursion P parts → slice_get parts n ≡ Some part → P part
all_at P [] n part all is = let wrong : None ≡ Some part = is in absurd cc
all_at P (x ∷ parts) zero part all is = let some : Some x ≡ Some part = is in let same : x ≡ part = cc in subst P same all.0
all_at P (x ∷ parts) (suc n) part all is = all_at P parts n part all.1 is

same_piece : (xs ys : List ℕ) (at len : ℕ) → at + len ≤ length xs → take len (drop at (xs ++ ys)) ≡ take len (drop at xs)
same_piece xs ys at len le =
    ap (take len) (drop-append-le at xs ys (omega (arith, le))) ∙ take-append-le len (drop at xs) ys (omega (arith, le, length-drop at xs))

module _ (A : Table) (H : History) (image : FileMap) (kept : Kept A image H) (known : KnownViews A H) where
  piece_of : (part : Part) (at len : ℕ) → IsKnownTo (files_of A H) part.name part.length → IsPieceOf part at len → IsPieceThere image A H part.name at len
  unfolding KnownFiles
  piece_of part at len there piece =
      let found = known_there image (files_of A H) part.name kept.known there.there in
      let within = piece.within in
      let long = there.long in
      record {
        content = bytes_in (files_of A H) part.name ++ found.0;
        there = found.1;
        within = omega (arith, within, long, length-append (bytes_in (files_of A H) part.name) found.0);
        same = same_piece (bytes_in (files_of A H) part.name) found.0 at len (omega (arith, within, long));
      }

  part_of_pin : (pin : LivePin) (number at len : ℕ) (o : Option Part) → AllByRecursion (λ (part : Part). IsKnownTo (files_of A H) part.name part.length) (files_of_view pin.view) → part_at pin.view number ≡ o
      → IsSomeAnd o (λ part. IsPieceOf part at len) → (name : List ℕ) (offset size : ℕ) → reads at len o ≡ op.Read name offset size → IsPieceThere image A H name offset size
  part_of_pin pin number at len None all is piece name offset size reads_it = absurd piece
  part_of_pin pin number at len (Some part) all is piece name offset size reads_it =
      let n : part.name ≡ name = cc in
      let o : at ≡ offset = cc in
      let z : len ≡ size = cc in
      subst (λ q. IsPieceThere image A H q offset size) n (subst (λ k. IsPieceThere image A H part.name k size) o (subst (λ k. IsPieceThere image A H part.name at k) z
      (piece_of part at len (all_at (λ (part : Part). IsKnownTo (files_of A H) part.name part.length) (files_of_view pin.view) number part all is) piece)))

  no_read : (name : List ℕ) (offset size : ℕ) → op.Nothing ≡ op.Read name offset size → ⊥
  no_read name offset size is = cc

  no_reading : (bytes name : List ℕ) (offset size : ℕ) (o : Option Target) → appends A H bytes o ≡ op.Read name offset size → ⊥
  no_reading bytes name offset size None is = cc
  no_reading bytes name offset size (Some s) is = cc

  no_create : (n bytes name : List ℕ) (offset size : ℕ) → op.Create n bytes ≡ op.Read name offset size → ⊥
  no_create n bytes name offset size is = cc

  drawn : (r : Reply) (name : List ℕ) (offset size : ℕ) → operation A H Begin r ≡ op.Read name offset size → ⊥
  drawn (reply.Began t) name offset size is = cc
  drawn _ name offset size is = no_read name offset size is

  entering : (t : ℕ) (slots : List PartitionSlots) (r : Reply) (name : List ℕ) (offset size : ℕ) → operation A H (Enter t slots) r ≡ op.Read name offset size → ⊥
  entering t slots (reply.Entered targets) name offset size is = cc
  entering t slots _ name offset size is = no_read name offset size is

  of_pin : (j : Job) (number at len : ℕ) (o : Option LivePin)
      → ((live : LivePin) → o ≡ Some live → AllByRecursion (λ (part : Part). IsKnownTo (files_of A H) part.name part.length) (files_of_view live.view))
      → IsSomeAnd o (λ live. (live.job ≡ j) × IsSomeAnd (part_at live.view number) (λ part. IsPieceOf part at len)) → (name : List ℕ) (offset size : ℕ)
      → reads at len (option_and_then (λ live. part_at live.view number) o) ≡ op.Read name offset size → IsPieceThere image A H name offset size
  of_pin j number at len None all may name offset size is = absurd may
  of_pin j number at len (Some live) all may name offset size is = part_of_pin live number at len (part_at live.view number) (all live refl) refl may.1 name offset size is

  pub piece_is_there : (j : Job) (s : Step) (r : Reply) (name : List ℕ) (offset size : ℕ) → May A H j s → operation A H s r ≡ op.Read name offset size → IsPieceThere image A H name offset size
  piece_is_there j (Read (reader.Pin pin) number at len) r name offset size may is = of_pin j number at len (pin_of H pin) (known.pins pin) may name offset size is
  piece_is_there j Begin r name offset size may is = absurd (drawn r name offset size is)
  piece_is_there j (Enter t slots) r name offset size may is = absurd (entering t slots r name offset size is)
  piece_is_there j (Append t target writes bytes) r name offset size may is = absurd (no_reading bytes name offset size (target_at A H t target) is)
  piece_is_there j (Finish t checkpoint) r name offset size may is = absurd (no_create (timeline_name A t Delta Completed) _ name offset size is)
  piece_is_there j (Pin at bases_only) r name offset size may is = absurd (no_read name offset size is)
  piece_is_there j (Unpin pin) r name offset size may is = absurd (no_read name offset size is)
  piece_is_there j (Abandon t) r name offset size may is = absurd (no_read name offset size is)
