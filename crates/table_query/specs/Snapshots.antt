-- How a snapshot's own entries stand, for its parts. Only private clauses cite this.
use Rattle.std.specs.Prelude.{◌≡◌, ℕ, List, [], Some, None, Option, Result, Ok, Err}
use Rattle.payload_merge.specs.declared.row.Row.{Row}
use Rattle.table_core.specs.declared.job_reply.JobReply.{JobReply}
use Rattle.table_core.specs.declared.job_reply.JobReply.TheVariants as job
use Rattle.table_history.specs.JobLaw.{Reads, Ended, files_to_read, phase}
use Rattle.table_history.specs.Pins.{files_of_view}
use Rattle.table_history.specs.declared.entry.Entry.{Entry}
use Rattle.table_history.specs.declared.view.View.{View}
use Rattle.table_jobs.specs.Replies.{told}
use Rattle.table_query.specs.Answers.{AreReadInTurn, IsAnswer, StopsAtDamage}
use Rattle.table_query.specs.GroupReading.{TableReading}
use Rattle.table_query.specs.ReadBytes.{PinsAt, ReadsBefore, bytes_read, pinned}
use Rattle.table_query.specs.Reading.{MayLeave}

-- the view is pinned, and nothing is read yet
pub record HasPinned (view : View) (mine : List Entry) : Type 0 where
  pub phase : phase mine ≡ Reads view.pin (files_to_read 0 (files_of_view view)) 0
  pub untold : told mine ≡ None
  pub view_is : pinned mine ≡ Some view
  pub unread : (k : ℕ) → bytes_read mine k ≡ []
  pub front : ReadsBefore 0 mine

-- the view's groups are read in turn, and no step failed
pub record HasReadView (reading : TableReading) (view : View) (mine : List Entry) : Type 0 where
  pub left : MayLeave view.pin (phase mine)
  pub untold : told mine ≡ None
  pub view_is : pinned mine ≡ Some view
  pub stops : StopsAtDamage reading view.completed mine 0 view.groups
  pub read : AreReadInTurn reading view.completed (bytes_read mine) 0 view.groups

-- this is the answer, and the pin is still to be let go
pub record HasAnswer (reading : TableReading) (view : View) (mine : List Entry) (given : JobReply) : Type 0 where
  pub left : MayLeave view.pin (phase mine)
  pub view_is : pinned mine ≡ Some view
  pub stops : StopsAtDamage reading view.completed mine 0 view.groups
  pub answer : IsAnswer reading (told mine) (Some view) (bytes_read mine) given

-- the answer with rows, or another one
abbrev pub answer_of : Option ℕ → Result (List Row) JobReply → JobReply
answer_of t (Ok rows) = job.Rows t rows
answer_of t (Err given) = given

-- the pin is gone, and nothing else
pub record HasUnpinned (before after : List Entry) : Type 0 where
  pub pins : (at : Option ℕ) → PinsAt at before → PinsAt at after
  pub phase : phase after ≡ Ended
  pub told : told after ≡ told before
  pub view_is : pinned after ≡ pinned before
  pub bytes : (k : ℕ) → bytes_read after k ≡ bytes_read before k
  pub front : (n : ℕ) → ReadsBefore n before → ReadsBefore n after
