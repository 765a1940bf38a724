-- Marks: an entry as the journal prints it, by numbers. The numbers of steps and replies that aren't here belong to
-- kinds that a table doesn't have yet. What isn't named is 0. A cause that no step answers counts as the first.
use Rattle.std.specs.Prelude.{ℕ, length, unwrap_or}
use Rattle.table_core.specs.declared.marks.ReplyMark.{ReplyMark}
use Rattle.table_history.specs.declared.entry.Entry.{Entry}
use Rattle.table_history.specs.declared.entry.Mark.{Mark}
use Rattle.table_history.specs.declared.reply.Cause.{Cause}
use Rattle.table_history.specs.declared.reply.Cause.TheVariants.{Exists, Missing, Short}
use Rattle.table_history.specs.declared.reply.Reply.{Reply}
use Rattle.table_history.specs.declared.reply.Reply.TheVariants as reply
use Rattle.table_history.specs.declared.step.Step.{Step}
use Rattle.table_history.specs.declared.step.Step.TheVariants.{Begin, Enter, Append, Finish, Pin, Unpin, Read, Abandon}

abbrev pub step_number : Step → ℕ
step_number Begin = 0
step_number (Enter t slots) = 1
step_number (Append t target writes bytes) = 2
step_number (Finish t checkpoint) = 4
step_number (Pin at bases_only) = 11
step_number (Unpin pin) = 12
step_number (Read from file at len) = 13
step_number (Abandon t) = 14

abbrev pub cause_number : Cause → ℕ
cause_number Exists = 0
cause_number Missing = 1
cause_number Short = 2
cause_number _ = 0

abbrev pub numbered : ℕ → ℕ → ℕ → ReplyMark
numbered reply a b = record { reply = reply; a = a; b = b }

-- what was read of which file, and what was left
abbrev pub piece_mark : Step → ReplyMark
piece_mark (Read from file at len) = numbered 10 file at
piece_mark _ = numbered 10 0 0

abbrev pub done_mark : Step → ReplyMark
done_mark (Unpin pin) = numbered 18 pin 0
done_mark (Abandon t) = numbered 18 t 0
done_mark _ = numbered 18 0 0

-- A reply's number and two of its values. Memory leaves no entry and so has no number.
abbrev pub reply_mark : Step → Reply → ReplyMark
reply_mark step (reply.Began t) = numbered 0 t 0
reply_mark step (reply.Entered targets) = numbered 1 (length targets) 0
reply_mark step (reply.Placed version at) = numbered 2 version at
reply_mark step (reply.Completed t) = numbered 4 t 0
reply_mark step (reply.Pinned view) = numbered 9 (unwrap_or view.t 0) view.pin
reply_mark step (reply.Piece bytes) = piece_mark step
reply_mark step (reply.NotCompleted t) = numbered 13 t 0
reply_mark step reply.TimeOver = numbered 14 0 0
reply_mark step reply.Done = done_mark step
reply_mark step reply.Fault = numbered 19 0 0
reply_mark step (reply.Damaged name cause) = numbered 20 (cause_number cause) 0
reply_mark step reply.Memory = numbered 0 0 0

abbrev pub mark_of : Entry → Mark
mark_of e = made e (reply_mark e.step e.reply)
  where
    made : Entry → ReplyMark → Mark
    made e numbers = record {
      lane = e.job.lane;
      line = e.job.line;
      step = step_number e.step;
      reply = numbers.reply;
      a = numbers.a;
      b = numbers.b;
    }
