-- An error of a part is an error of the whole.
use Rattle.std.proofs.Common.{◌≡◌, ℕ, List, Result, Ok, Err, refl, ap, ◌∙◌}
use Rattle.payload_merge.specs.Fold.{RowTable}
use Rattle.payload_merge.specs.declared.row.Write.{Write}
use Rattle.table_core.specs.declared.job_reply.JobReply.{JobReply}
use Rattle.table_core.specs.declared.job_reply.JobReply.TheVariants as job
use Rattle.table_query.specs.GroupReading.{Damage, in_part}
use Rattle.table_query.specs.Parts.{Folds, IsErrorOf}

pub error_on : {A B : Type 0} (reply : JobReply) (part : Result A Damage) (whole : Result B Damage) → ((d : Damage) → part ≡ Err d → whole ≡ Err d) → IsErrorOf reply part → IsErrorOf reply whole
error_on (job.Damaged name cause place) part whole stops is = stops _ is
error_on job.Memory part whole stops is = is
error_on (job.Committed t) part whole stops is = absurd is
error_on (job.BadRow number why) part whole stops is = absurd is
error_on (job.Rows t rows) part whole stops is = absurd is
error_on (job.NotCompleted t) part whole stops is = absurd is
error_on job.TimeOver part whole stops is = absurd is
error_on job.Fault part whole stops is = absurd is

-- of blocks, by their numbers
part_stops : (name : List ℕ) (part whole : Result (List Write) ℕ) → ((n : ℕ) → part ≡ Err n → whole ≡ Err n) → (d : Damage) → in_part name part ≡ Err d → in_part name whole ≡ Err d
part_stops name (Ok writes) whole stops d is = cc
part_stops name (Err n) whole stops d is = ap (in_part name) (stops n refl) ∙ is

pub error_in_part : (reply : JobReply) (name : List ℕ) (part whole : Result (List Write) ℕ) → ((n : ℕ) → part ≡ Err n → whole ≡ Err n)
    → IsErrorOf reply (in_part name part) → IsErrorOf reply (in_part name whole)
error_in_part reply name part whole stops is = error_on reply (in_part name part) (in_part name whole) (part_stops name part whole stops) is

pub folds_part : (name : List ℕ) (part : Result (List Write) ℕ) (old new : RowTable) → Folds (in_part name part) old new → Folds part old new
folds_part name (Ok writes) old new is = is
folds_part name (Err n) old new is = absurd is

pub in_part_folds : (name : List ℕ) (part : Result (List Write) ℕ) (old new : RowTable) → Folds part old new → Folds (in_part name part) old new
in_part_folds name (Ok writes) old new is = is
in_part_folds name (Err n) old new is = absurd is
