-- Sources and sinks in memory, as contracts see them.
use Rattle.std.specs.Prelude.{ℕ, ◌-◌, ◌<◌, ◌≤◌, ◌⊎◌, List, [], ◌++◌, length, drop, min, Contains}
use Rattle.vrx_io.specs.Faults.{next_count}

-- a source: the bytes that are left, how many reads there were and how many failed, the numbers of
-- the reads that fail, counted from 1, and how many bytes a read gives at most
pub record SourceState : Type 0 where
  pub bytes : List ℕ
  pub calls : ℕ
  pub faults : ℕ
  pub fails : List ℕ
  pub most : ℕ

-- a source that nothing was read from
abbrev pub fresh_source : List ℕ → List ℕ → ℕ → SourceState
fresh_source bytes fails most =
    record { bytes = bytes; calls = 0; faults = 0; fails = fails; most = most }

-- the next read is one of those that fail
abbrev pub ReadFails : SourceState → Type 0
ReadFails s = Contains s.fails (next_count s.calls)

-- how many bytes a read gives that doesn't fail, into a buffer of this length
abbrev pub read_len : SourceState → ℕ → ℕ
read_len s room = min s.most (min room (length s.bytes))

-- the source after a read of n bytes
abbrev pub after_read : SourceState → ℕ → SourceState
after_read s n = record s { bytes = drop n s.bytes; calls = next_count s.calls }

-- the source after a read that failed
abbrev pub after_failed_read : SourceState → SourceState
after_failed_read s = record s { calls = next_count s.calls; faults = next_count s.faults }

-- a sink: the bytes taken and for how many there is room in all, how many writes there were and how
-- many failed, the numbers of the writes that fail, counted from 1, and how many bytes a write takes
-- at most
pub record SinkState : Type 0 where
  pub bytes : List ℕ
  pub room : ℕ
  pub calls : ℕ
  pub faults : ℕ
  pub fails : List ℕ
  pub most : ℕ

-- a sink that took nothing yet
abbrev pub fresh_sink : ℕ → List ℕ → ℕ → SinkState
fresh_sink room fails most =
    record { bytes = []; room = room; calls = 0; faults = 0; fails = fails; most = most }

-- the next write is one of those that fail, or finds no room for the first byte of its piece
abbrev pub WriteFails : SinkState → List ℕ → Type 0
WriteFails s piece =
    Contains s.fails (next_count s.calls) ⊎ ((0 < length piece) × (s.room ≤ length s.bytes))

-- how many bytes of a piece of this length a write takes that doesn't fail
abbrev pub write_len : SinkState → ℕ → ℕ
write_len s len = min s.most (min len (s.room - length s.bytes))

-- the sink after a write that took these bytes
abbrev pub after_write : SinkState → List ℕ → SinkState
after_write s more = record s { bytes = s.bytes ++ more; calls = next_count s.calls }

-- the sink after a write that failed
abbrev pub after_failed_write : SinkState → SinkState
after_failed_write s = record s { calls = next_count s.calls; faults = next_count s.faults }
