-- The answers of a snapshot.
use Rattle.std.proofs.Common.{◌≡◌, ◌+◌, cond, ℕ, List, [], ◌∷◌, map, Option, Some, None, IfSome, refl, sym, ap, ◌∙◌, subst}
use Rattle.std.specs.Prelude.{◌==◌}
use Rattle.table_core.specs.declared.job_reply.JobReply.{JobReply}
use Rattle.table_history.specs.JobLaw.{Phase, Ended, files_to_read, phase}
use Rattle.table_history.specs.declared.entry.Entry.{Entry}
use Rattle.table_history.specs.declared.view.Part.{Part}
use Rattle.table_history.specs.declared.view.View.{View}
use Rattle.table_jobs.specs.Replies.{IsTold, told}
use Rattle.table_query.specs.Answers.{HasLeft, IsAnswer, IsMadeOf, IsQueryReply, StopsAtDamage}
use Rattle.table_query.specs.GroupReading.{TableReading}
use Rattle.table_query.specs.ReadBytes.{PinsAt, bytes_read, pinned}
use Rattle.table_query.specs.Reading.{still_to_read}
use Rattle.table_query.specs.Snapshots.{HasAnswer, HasUnpinned}
use Rattle.table_query.proofs.InTurn.{still_stops}

pub same_files : (number : ℕ) (parts : List Part) → files_to_read number parts ≡ still_to_read number (map (λ part. part.length) parts)
same_files number [] = refl
same_files number (part ∷ parts) =
    ap (λ (rest : List (ℕ × ℕ)). cond (part.length == 0) rest ((number, part.length) ∷ rest)) (same_files (number + 1) parts)

left : (p : Phase) → p ≡ Ended → HasLeft p
left p is = let P : Phase → Type 0 = HasLeft in subst P (sym is) tt

pub told_answer : (reading : TableReading) (t : Option JobReply) (v : Option View) (bytes : ℕ → List ℕ) (given : JobReply) → IsTold t given → IsAnswer reading t v bytes given
told_answer reading (Some answer) v bytes given is = is
told_answer reading None None bytes given is = is
told_answer reading None (Some view) bytes given is = let P : JobReply → Type 0 = IsMadeOf reading view bytes in subst P (sym is) tt

-- the answer stays as the pin is let go
pub answered : (reading : TableReading) (at : Option ℕ) (view : View) (before after : List Entry) (given : JobReply) → HasAnswer reading view before given → HasUnpinned before after → PinsAt at before
    → IsQueryReply reading at after given
answered reading at view before after given has gone pins =
    let view_is : pinned after ≡ Some view = gone.view_is ∙ has.view_is in
    let bytes : bytes_read before ≡ bytes_read after = λ i k. sym (gone.bytes k) i in
    let P : Option View → Type 0 = λ v. IfSome v (λ (seen : View). StopsAtDamage reading seen.completed after 0 seen.groups) in
    let Q : (ℕ → List ℕ) → Type 0 = λ b. IsAnswer reading (told before) (Some view) b given in
    let R : Option JobReply → Type 0 = λ t. IsAnswer reading t (Some view) (bytes_read after) given in
    let S : Option View → Type 0 = λ v. IsAnswer reading (told after) v (bytes_read after) given in
    record {
      pins = gone.pins at pins;
      stops = subst P (sym view_is) (still_stops reading view.completed before after 0 view.groups gone.bytes gone.front has.stops);
      answer = subst S (sym view_is) (subst R (sym gone.told) (subst Q bytes has.answer));
      left = left (phase after) gone.phase;
    }
