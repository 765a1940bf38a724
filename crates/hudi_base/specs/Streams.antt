-- What a read of a source and a write to a sink do. This project's own.
use Rattle.std.specs.Prelude.{◌≡◌, ℕ, ◌<◌, ◌≤◌, List, [], ◌++◌, length, take, drop, Option, IfSome, option_map}
use Rattle.hudi_base.specs.declared.streams.Got.{Got}
use Rattle.hudi_base.specs.declared.streams.Got.TheVariants as got
use Rattle.hudi_base.specs.declared.streams.Sent.{Sent}
use Rattle.hudi_base.specs.declared.streams.Sent.TheVariants as sent

-- what is seen of a source: the bytes that are left, where it tells them, and how often it has failed
pub record SourceState : Type 0 where
  pub left : Option (List ℕ)
  pub faults : ℕ

-- what is seen of a sink: the bytes that were written, where it tells them, and how often it has failed
pub record SinkState : Type 0 where
  pub written : Option (List ℕ)
  pub faults : ℕ

-- The first n bytes that were left came into the buffer. None came only at the end, or into no buffer.
pub record Took (old new : Option (List ℕ)) (n : ℕ) (buf : List ℕ) : Type 0 where
  pub within : n ≤ length buf
  pub first : IfSome old (λ bytes. take n buf ≡ take n bytes)
  pub rest : new ≡ option_map (drop n) old
  pub end : n ≡ 0 → 0 < length buf → IfSome old (λ bytes. bytes ≡ [])

-- a read: the bytes left before it and after it, its answer, and the buffer then
abbrev pub Takes : Option (List ℕ) → Option (List ℕ) → Got → List ℕ → Type 0
Takes old new (got.Took n) buf = Took old new n buf
Takes old new got.Failed buf = new ≡ old

-- the first n bytes of the piece were written, at least one where there is one
pub record Wrote (old new : Option (List ℕ)) (n : ℕ) (piece : List ℕ) : Type 0 where
  pub within : n ≤ length piece
  pub some : 0 < length piece → 0 < n
  pub written : new ≡ option_map (λ bytes. bytes ++ take n piece) old

-- a write: the bytes written before it and after it, its answer, and the piece
abbrev pub Sends : Option (List ℕ) → Option (List ℕ) → Sent → List ℕ → Type 0
Sends old new (sent.Took n) piece = Wrote old new n piece
Sends old new sent.Failed piece = new ≡ old
