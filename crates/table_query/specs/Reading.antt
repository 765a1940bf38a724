-- How a query's own entries stand while it reads. Only private clauses cite this.
use Rattle.std.specs.Prelude.{◌≡◌, ◌≢◌, ◌<◌, ◌≤◌, ◌⊎◌, ℕ, ◌+◌, ◌==◌, if◌then◌else◌, List, [], ◌∷◌, ◌++◌, length, drop, get_or, None, Option, Result}
use Rattle.payload_merge.specs.declared.row.Write.{Write}
use Rattle.table_core.specs.declared.job_reply.JobReply.{JobReply}
use Rattle.table_history.specs.JobLaw.{Phase, Reads, Leaves, next_phase, phase, after_piece}
use Rattle.table_history.specs.declared.entry.Entry.{Entry}
use Rattle.table_history.specs.declared.reply.Reply.TheVariants.{Piece}
use Rattle.table_history.specs.declared.step.Reader.TheVariants as reader
use Rattle.table_history.specs.declared.step.Step.TheVariants.{Read}
use Rattle.table_jobs.specs.Replies.{IsTold, told}
use Rattle.table_query.specs.GroupReading.{Damage}
use Rattle.table_query.specs.Parts.{IsErrorOf, text_at}
use Rattle.table_query.specs.ReadBytes.{PinsAt, ReadsBefore, bytes_read, pinned}

-- the files of these lengths that aren't empty, numbered from here on
abbrev pub still_to_read : ℕ → List ℕ → List (ℕ × ℕ)
still_to_read number [] = []
still_to_read number (size ∷ more) = if size == 0 then still_to_read (number + 1) more else (number, size) ∷ still_to_read (number + 1) more

-- the next piece to be read is the first of this file
pub record IsNext (pin file size : ℕ) (p : Phase) : Type 0 where
  pub more : List (ℕ × ℕ)
  pub is : p ≡ Reads pin ((file, size) ∷ more) 0

-- so much of the first file is read
abbrev pub read_up_to : ℕ → Phase → Phase
read_up_to at (Reads p (first ∷ more) before) = after_piece p (first ∷ more) at
read_up_to at other = other

-- the first file is read to its end
abbrev pub after_first : Phase → Phase
after_first (Reads p (first ∷ more) before) = Reads p more 0
after_first other = other

-- the pin may be let go
abbrev pub MayLeave : ℕ → Phase → Type 0
MayLeave pin (Reads p files at) = p ≡ pin
MayLeave pin (Leaves p) = p ≡ pin
MayLeave pin _ = ⊥

-- a step failed, or memory was wanting: the entries tell it, and the pin is still to be let go
pub record HasFailed (pin : ℕ) (mine : List Entry) (given : JobReply) : Type 0 where
  pub told : IsTold (told mine) given
  pub left : MayLeave pin (phase mine)

-- a file was read to its end, and nothing else
pub record HasRead (file size : ℕ) (before after : List Entry) (bytes : List ℕ) : Type 0 where
  pub phase : phase after ≡ after_first (phase before)
  pub untold : told after ≡ None
  pub read : bytes_read after file ≡ bytes_read before file ++ bytes
  pub long : length bytes ≡ size

-- what steps that read this file leave as it was
pub record LeavesOthers (file : ℕ) (before after : List Entry) : Type 0 where
  pub pins : (at : Option ℕ) → PinsAt at before → PinsAt at after
  pub view : pinned after ≡ pinned before
  pub others : (k : ℕ) → k ≢ file → bytes_read after k ≡ bytes_read before k
  pub front : (n : ℕ) → file < n → ReadsBefore n before → ReadsBefore n after

-- a piece was read
pub record GotPiece (pin file at len : ℕ) (before after : List Entry) (bytes : List ℕ) : Type 0 where
  pub phase : phase after ≡ next_phase (phase before) (Read (reader.Pin pin) file at len) (Piece bytes)
  pub untold : told after ≡ None
  pub read : bytes_read after file ≡ bytes_read before file ++ bytes
  pub long : length bytes ≡ len

-- the files before this number were read to their ends, and no others
pub record HasReadUpTo (pin number : ℕ) (sizes : List ℕ) (mine : List Entry) : Type 0 where
  pub phase : phase mine ≡ Reads pin (still_to_read number (drop number sizes)) 0
  pub untold : told mine ≡ None
  pub whole : (k : ℕ) → k < number → length (bytes_read mine k) ≡ get_or sizes k 0
  pub unread : (k : ℕ) → number ≤ k → bytes_read mine k ≡ []
  pub front : ReadsBefore number mine

-- the file of this number was read too
pub record HasReadNext (pin number : ℕ) (sizes : List ℕ) (mine : List Entry) (bytes : List ℕ) : Type 0 where
  pub so_far : HasReadUpTo pin (number + 1) sizes mine
  pub is : bytes_read mine number ≡ bytes

-- what steps that read files from the first number up to the second leave as it was
pub record LeavesEarlier (first last : ℕ) (before after : List Entry) : Type 0 where
  pub pins : (at : Option ℕ) → PinsAt at before → PinsAt at after
  pub view : pinned after ≡ pinned before
  pub earlier : (k : ℕ) → k < first → bytes_read after k ≡ bytes_read before k
  pub front : (n : ℕ) → last ≤ n → ReadsBefore n before → ReadsBefore n after

-- so many files from the first number on were read too, and these are their bytes
pub record HasReadFiles (pin first count : ℕ) (sizes : List ℕ) (mine : List Entry) (texts : List (List ℕ)) : Type 0 where
  pub so_far : HasReadUpTo pin (first + count) sizes mine
  pub many : length texts ≡ count
  pub texts_are : (k : ℕ) → k < count → bytes_read mine (first + k) ≡ text_at texts k

-- A query stops at a group: a step failed, or memory was wanting, or the files up to the last number were read and this
-- was found in the group's.
abbrev pub HasStopped : (pin last : ℕ) (sizes : List ℕ) → Result (List Write) Damage → List Entry → JobReply → Type 0
HasStopped pin last sizes found mine given = HasFailed pin mine given ⊎ (HasReadUpTo pin last sizes mine × IsErrorOf given found)
