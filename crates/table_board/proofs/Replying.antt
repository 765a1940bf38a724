-- The replies of steps, by what their operations came to.
use Rattle.std.proofs.Common.{◌≡◌, ◌≢◌, ℕ, List, [], length, take, drop, Option, Some, None, refl, subst}
use Rattle.std.specs.Prelude.{IsSomeAnd, IfSome, option_and_then}
use Rattle.std.specs.Option.{option_map_or}
use Rattle.hudi_base.specs.declared.file_group.Target.{Target}
use Rattle.table_core.specs.ControlTables.{HasRoom, HasRoomFor}
use Rattle.table_core.specs.declared.control.Control.{Control}
use Rattle.table_history.specs.Answers.{May, Answers, IsPieceOf}
use Rattle.table_history.specs.Histories.{History}
use Rattle.table_history.specs.JobLaw.{IsReplyOf}
use Rattle.table_history.specs.Logs.{target_at, bytes_of}
use Rattle.table_history.specs.Operations.{operation, appends, reads, part_read, Foresees}
use Rattle.table_history.specs.Pins.{pin_of, part_at}
use Rattle.table_history.specs.Tables.{Table}
use Rattle.table_history.specs.declared.job.Job.{Job}
use Rattle.table_history.specs.declared.operation.Op.TheVariants as op
use Rattle.table_history.specs.declared.reply.Cause.{Cause}
use Rattle.table_history.specs.declared.reply.Cause.TheVariants.{Exists, Missing, Short}
use Rattle.table_history.specs.declared.reply.Reply.{Reply}
use Rattle.table_history.specs.declared.reply.Reply.TheVariants as reply
use Rattle.table_history.specs.declared.step.Reader.TheVariants as reader
use Rattle.table_history.specs.declared.step.Step.{Step}
use Rattle.table_history.specs.declared.step.Step.TheVariants.{Begin, Enter, Append, Finish, Pin, Unpin, Read, Abandon}
use Rattle.table_history.specs.declared.view.LivePin.{LivePin}
use Rattle.table_history.specs.declared.view.Part.{Part}
use Rattle.table_board.specs.KnownEntries.{known_reply}
use Rattle.table_board.specs.Outcomes.{MayEnd, reply_after, HasAskedLength}
use Rattle.table_board.specs.declared.acting.Outcome.{Outcome}
use Rattle.table_board.specs.declared.acting.Outcome.TheVariants.{Done, Piece, Fault, Damaged, Memory}

-- ---- operations whose file depends on the history

append_ends_whole : (A : Table) (H : History) (bytes : List ℕ) (cause : Cause) (o : Option Target) → MayEnd (appends A H bytes o) (Damaged cause) → ⊥
append_ends_whole A H bytes cause None end = end
append_ends_whole A H bytes cause (Some s) end = end

pub append_reads_nothing : (A : Table) (H : History) (bytes piece : List ℕ) (o : Option Target) → MayEnd (appends A H bytes o) (Piece piece) → ⊥
append_reads_nothing A H bytes piece None end = end
append_reads_nothing A H bytes piece (Some s) end = end

read_finds : (at len : ℕ) (o : Option Part) → MayEnd (reads at len o) (Damaged Exists) → ⊥
read_finds at len None end = end
read_finds at len (Some part) end = end

read_log : (at len : ℕ) (cause : Cause) (o : Option Part) → MayEnd (reads at len o) (Damaged cause) → MayEnd (op.Read [] at len) (Damaged cause)
read_log at len cause None end = absurd end
read_log at len cause (Some part) end = end

read_is_done : (at len : ℕ) (o : Option Part) → o ≢ None → MayEnd (reads at len o) Done → ⊥
read_is_done at len None some end = some refl
read_is_done at len (Some part) some end = end

piece_length : (at len : ℕ) (bytes : List ℕ) (o : Option Part) → MayEnd (reads at len o) (Piece bytes) → length bytes ≡ len
piece_length at len bytes None end = absurd end
piece_length at len bytes (Some part) end = end

-- ---- the file of a read is there

some_part : (P : Part → Type 0) (o : Option Part) → IsSomeAnd o P → o ≢ None
some_part P None holds = absurd holds
some_part P (Some part) holds = λ is. some_is_none is
  where
    some_is_none : {X : Type 0} {x : X} → Some x ≡ None → ⊥
    some_is_none is = cc

part_there : (file at len : ℕ) (job : Job) (o : Option LivePin)
    → IsSomeAnd o (λ live. (live.job ≡ job) × IsSomeAnd (part_at live.view file) (λ part. IsPieceOf part at len))
    → option_and_then (λ live. part_at live.view file) o ≢ None
part_there file at len job None may = absurd may
part_there file at len job (Some live) may = some_part (λ part. IsPieceOf part at len) (part_at live.view file) may.1

-- ---- the machine's answer

known_is_read : (A : Table) (H : History) (at len file : ℕ) (o : Option LivePin)
    → IfSome o (λ live. IfSome (part_at live.view file) (λ part.
    option_map_or (λ part. take len (drop at (bytes_of A H part.name))) (option_and_then (λ live. part_at live.view file) o) []
    ≡ take len (drop at (bytes_of A H part.name))))
known_is_read A H at len file None = tt
known_is_read A H at len file (Some live) = of (part_at live.view file)
  where
    of : (o : Option Part) → IfSome o (λ part. option_map_or (λ part. take len (drop at (bytes_of A H part.name))) o [] ≡ take len (drop at (bytes_of A H part.name)))
    of None = tt
    of (Some part) = refl

-- a reply that was decided, where the operation was done
done_answers : (A : Table) (H : History) (job : Job) (s : Step) (r : Reply) → May A H job s → Foresees A H s r → MayEnd (operation A H s r) Done
    → Answers A H s (known_reply A H s r)
done_answers A H job (Read (reader.Pin pin) file at len) r may foresees end =
    absurd (read_is_done at len (part_read H (reader.Pin pin) file) (part_there file at len job (pin_of H pin) may) end)
done_answers A H job Begin r may foresees end = foresees
done_answers A H job (Enter t slots) r may foresees end = foresees
done_answers A H job (Append t target writes bytes) r may foresees end = foresees
done_answers A H job (Finish t checkpoint) r may foresees end = foresees
done_answers A H job (Pin at bases_only) r may foresees end = foresees
done_answers A H job (Unpin pin) r may foresees end = foresees
done_answers A H job (Abandon t) r may foresees end = foresees

fault_answers : (A : Table) (H : History) (s : Step) (r : Reply) → MayEnd (operation A H s r) Fault → Answers A H s reply.Fault
fault_answers A H Begin r end = tt
fault_answers A H (Enter t slots) r end = tt
fault_answers A H (Append t target writes bytes) r end = tt
fault_answers A H (Finish t checkpoint) r end = tt
fault_answers A H (Read (reader.Pin pin) file at len) r end = tt
fault_answers A H (Pin at bases_only) r end = absurd end
fault_answers A H (Unpin pin) r end = absurd end
fault_answers A H (Abandon t) r end = absurd end

damaged_answers : (A : Table) (H : History) (s : Step) (r : Reply) (name : List ℕ) (cause : Cause) → MayEnd (operation A H s r) (Damaged cause)
    → Answers A H s (reply.Damaged name cause)
damaged_answers A H Begin (reply.Began t) name cause end = end
damaged_answers A H Begin _ name cause end = absurd end
damaged_answers A H (Enter t slots) (reply.Entered targets) name cause end = end
damaged_answers A H (Enter t slots) _ name cause end = absurd end
damaged_answers A H (Append t target writes bytes) r name cause end = absurd (append_ends_whole A H bytes cause (target_at A H t target) end)
damaged_answers A H (Finish t checkpoint) r name cause end = end
damaged_answers A H (Read (reader.Pin pin) file at len) r name Missing end = tt
damaged_answers A H (Read (reader.Pin pin) file at len) r name Short end = tt
damaged_answers A H (Read (reader.Pin pin) file at len) r name _ end = absurd (read_log at len _ (part_read H (reader.Pin pin) file) end)
damaged_answers A H (Pin at bases_only) r name cause end = absurd end
damaged_answers A H (Unpin pin) r name cause end = absurd end
damaged_answers A H (Abandon t) r name cause end = absurd end

piece_answers : (A : Table) (H : History) (s : Step) (r : Reply) (bytes : List ℕ) → MayEnd (operation A H s r) (Piece bytes)
    → Answers A H s (known_reply A H s (reply.Piece bytes))
piece_answers A H Begin (reply.Began t) bytes end = absurd end
piece_answers A H Begin _ bytes end = absurd end
piece_answers A H (Enter t slots) (reply.Entered targets) bytes end = absurd end
piece_answers A H (Enter t slots) _ bytes end = absurd end
piece_answers A H (Append t target writes block) r bytes end = absurd (append_reads_nothing A H block bytes (target_at A H t target) end)
piece_answers A H (Finish t checkpoint) r bytes end = absurd end
piece_answers A H (Read (reader.Pin pin) file at len) r bytes end = known_is_read A H at len file (pin_of H pin)
piece_answers A H (Pin at bases_only) r bytes end = absurd end
piece_answers A H (Unpin pin) r bytes end = absurd end
piece_answers A H (Abandon t) r bytes end = absurd end

-- only reads give a fault its own name
known_fault : (A : Table) (H : History) (s : Step) → reply.Fault ≡ known_reply A H s reply.Fault
known_fault A H (Read from file at len) = refl
known_fault A H _ = refl

known_damaged : (A : Table) (H : History) (s : Step) (name : List ℕ) (cause : Cause) → reply.Damaged name cause ≡ known_reply A H s (reply.Damaged name cause)
known_damaged A H (Read from file at len) name cause = refl
known_damaged A H _ name cause = refl

pub reply_answers : (A : Table) (H : History) (job : Job) (s : Step) (r : Reply) (o : Outcome) → May A H job s → Foresees A H s r
    → MayEnd (operation A H s r) o → o ≢ Memory → Answers A H s (known_reply A H s (reply_after o (operation A H s r) r))
reply_answers A H job s r Done may foresees end known = done_answers A H job s r may foresees end
reply_answers A H job s r (Piece bytes) may foresees end known = piece_answers A H s r bytes end
reply_answers A H job s r Fault may foresees end known = subst (λ r. Answers A H s r) (known_fault A H s) (fault_answers A H s r end)
reply_answers A H job s r (Damaged cause) may foresees end known =
    subst (λ r. Answers A H s r) (known_damaged A H s _ cause) (damaged_answers A H s r _ cause end)
reply_answers A H job s r Memory may foresees end known = absurd (known refl)

-- ---- the replies of a step

-- the replies that the machine has for a step, of which a piece is as long as it was asked for
pub reply_fits : (A : Table) (H : History) (s : Step) (r : Reply) → Answers A H s (known_reply A H s r) → HasAskedLength s r → IsReplyOf s r
reply_fits A H Begin (reply.Began t) answers asked = tt
reply_fits A H Begin reply.TimeOver answers asked = tt
reply_fits A H Begin reply.Fault answers asked = tt
reply_fits A H Begin (reply.Damaged name cause) answers asked = tt
reply_fits A H Begin _ answers asked = absurd answers
reply_fits A H (Enter t slots) (reply.Entered targets) answers asked = tt
reply_fits A H (Enter t slots) reply.Fault answers asked = tt
reply_fits A H (Enter t slots) (reply.Damaged name cause) answers asked = tt
reply_fits A H (Enter t slots) _ answers asked = absurd answers
reply_fits A H (Append t target writes bytes) (reply.Placed version at) answers asked = tt
reply_fits A H (Append t target writes bytes) reply.Fault answers asked = tt
reply_fits A H (Append t target writes bytes) _ answers asked = absurd answers
reply_fits A H (Finish t checkpoint) (reply.Completed u) answers asked = answers
reply_fits A H (Finish t checkpoint) reply.Fault answers asked = tt
reply_fits A H (Finish t checkpoint) (reply.Damaged name cause) answers asked = tt
reply_fits A H (Finish t checkpoint) _ answers asked = absurd answers
reply_fits A H (Pin at bases_only) (reply.Pinned view) answers asked = tt
reply_fits A H (Pin None bases_only) (reply.NotCompleted u) answers asked = absurd answers
reply_fits A H (Pin (Some t) bases_only) (reply.NotCompleted u) answers asked = answers.0
reply_fits A H (Pin None bases_only) _ answers asked = absurd answers
reply_fits A H (Pin (Some t) bases_only) _ answers asked = absurd answers
reply_fits A H (Unpin pin) reply.Done answers asked = tt
reply_fits A H (Unpin pin) _ answers asked = absurd answers
reply_fits A H (Read (reader.Pin pin) file at len) (reply.Piece bytes) answers asked = asked
reply_fits A H (Read (reader.Pin pin) file at len) reply.Fault answers asked = tt
reply_fits A H (Read (reader.Pin pin) file at len) (reply.Damaged name cause) answers asked = tt
reply_fits A H (Read (reader.Pin pin) file at len) _ answers asked = absurd answers
reply_fits A H (Abandon t) reply.Done answers asked = tt
reply_fits A H (Abandon t) _ answers asked = absurd answers

not_read : (A : Table) (H : History) (s : Step) (r : Reply) (bytes : List ℕ) → MayEnd (operation A H s r) (Piece bytes) → HasAskedLength s (reply.Piece bytes)
not_read A H (Read (reader.Pin pin) file at len) r bytes end = piece_length at len bytes (part_read H (reader.Pin pin) file) end
not_read A H _ r bytes end = tt

foreseen_asked : (A : Table) (H : History) (job : Job) (s : Step) (r : Reply) → May A H job s → Foresees A H s r → MayEnd (operation A H s r) Done → HasAskedLength s r
foreseen_asked A H job (Read (reader.Pin pin) file at len) r may foresees end =
    absurd (read_is_done at len (part_read H (reader.Pin pin) file) (part_there file at len job (pin_of H pin) may) end)
foreseen_asked A H job _ r may foresees end = tt

pub asked_length : (A : Table) (H : History) (job : Job) (s : Step) (r : Reply) (o : Outcome) → May A H job s → Foresees A H s r
    → MayEnd (operation A H s r) o → HasAskedLength s (reply_after o (operation A H s r) r)
asked_length A H job s r Done may foresees end = foreseen_asked A H job s r may foresees end
asked_length A H job s r (Piece bytes) may foresees end = not_read A H s r bytes end
asked_length A H job (Read from file at len) r Fault may foresees end = tt
asked_length A H job _ r Fault may foresees end = tt
asked_length A H job (Read from file at len) r (Damaged cause) may foresees end = tt
asked_length A H job _ r (Damaged cause) may foresees end = tt
asked_length A H job (Read from file at len) r Memory may foresees end = tt
asked_length A H job _ r Memory may foresees end = tt

-- ---- room

piece_room : (A : Table) (H : History) (control : Control) (s : Step) (r : Reply) (bytes : List ℕ) → MayEnd (operation A H s r) (Piece bytes)
    → HasRoom control s (reply.Piece bytes)
piece_room A H control (Append t target writes block) r bytes end = absurd (append_reads_nothing A H block bytes (target_at A H t target) end)
piece_room A H control (Enter t slots) r bytes end = tt
piece_room A H control (Finish t checkpoint) r bytes end = absurd end
piece_room A H control (Pin at bases_only) r bytes end = tt
piece_room A H control _ r bytes end = tt

pub reply_has_room : (A : Table) (H : History) (control : Control) (s : Step) (r : Reply) (o : Outcome) → MayEnd (operation A H s r) o → o ≢ Memory
    → HasRoomFor control s r → HasRoom control s (reply_after o (operation A H s r) r)
reply_has_room A H control s r Done end known room = room.decided
reply_has_room A H control s r (Piece bytes) end known room = piece_room A H control s r bytes end
reply_has_room A H control s r Fault end known room = room.fault
reply_has_room A H control s r (Damaged cause) end known room = room.damaged _ cause
reply_has_room A H control s r Memory end known room = absurd (known refl)
