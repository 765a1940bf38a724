-- A source and a sink in memory, and what their calls answer and leave. This project's own.
use Rattle.std.specs.Prelude.{◌≡◌, ◌⊎◌, ℕ, ◌-◌, ◌<◌, min, true, false, List, ◌++◌, length, take, drop, Some}
use Rattle.hudi_base.specs.Faults.{one_more}
use Rattle.hudi_base.specs.Streams.{SourceState, SinkState}
use Rattle.hudi_base.specs.declared.streams.Got.{Got}
use Rattle.hudi_base.specs.declared.streams.Got.TheVariants as got
use Rattle.hudi_base.specs.declared.streams.Sent.{Sent}
use Rattle.hudi_base.specs.declared.streams.Sent.TheVariants as sent
use Rattle.store_mem.specs.Calls.{CallState, fails_next, after_call}

-- The bytes that are left; the most bytes that a call gives; its calls; and how often one failed, up to the greatest
-- `u64`.
pub record MemorySource : Type 0 where
  pub left : List ℕ
  pub most : ℕ
  pub calls : CallState
  pub faults : ℕ

-- what is seen of it, which is everything
abbrev pub source_state : MemorySource → SourceState
source_state source = record { left = Some source.left; faults = source.faults }

-- A read into a buffer that had the bytes of room. It fails where it is to, and else gives as many bytes as there is
-- room for, are left and a call gives. The rest of the buffer stays.
abbrev pub MemoryReads : MemorySource → MemorySource → Got → List ℕ → List ℕ → Type 0
MemoryReads old new (got.Took n) room buf =
    (fails_next old.calls ≡ false)
    × (n ≡ min old.most (min (length room) (length old.left)))
    × (buf ≡ take n old.left ++ drop n room)
    × (new ≡ record old { left = drop n old.left; calls = after_call old.calls })
MemoryReads old new got.Failed room buf =
    (fails_next old.calls ≡ true)
    × (buf ≡ room)
    × (new ≡ record old { calls = after_call old.calls; faults = one_more old.faults })

-- The bytes that were written; how many it has room for in all; the most bytes that a call takes; and the rest as for
-- a source.
pub record MemorySink : Type 0 where
  pub written : List ℕ
  pub capacity : ℕ
  pub most : ℕ
  pub calls : CallState
  pub faults : ℕ

-- what is seen of it, which is everything
abbrev pub sink_state : MemorySink → SinkState
sink_state sink = record { written = Some sink.written; faults = sink.faults }

-- how many bytes it has room for still
abbrev pub room_in : MemorySink → ℕ
room_in sink = sink.capacity - length sink.written

-- A write. It fails where it is to, and where there are bytes to write and no room. Else it takes as many bytes as the
-- piece has, a call takes and there is room for.
abbrev pub MemoryWrites : MemorySink → MemorySink → Sent → List ℕ → Type 0
MemoryWrites old new (sent.Took n) piece =
    (fails_next old.calls ≡ false)
    × (0 < length piece → 0 < room_in old)
    × (n ≡ min old.most (min (length piece) (room_in old)))
    × (new ≡ record old { written = old.written ++ take n piece; calls = after_call old.calls })
MemoryWrites old new sent.Failed piece =
    ((fails_next old.calls ≡ true) ⊎ ((0 < length piece) × (room_in old ≡ 0)))
    × (new ≡ record old { calls = after_call old.calls; faults = one_more old.faults })
