-- What contracts see of a sink in memory.
use Rattle.std.specs.Prelude.{ℕ, Bool, List, [], length, if◌then◌else◌}
use Rattle.outside.specs.Counts.{next_count, is_among}

pub record SinkState : Type 0 where
  pub bytes : List ℕ  -- what it took
  pub bad_writes : List ℕ  -- the numbers of the writes that fail
  pub empty_writes : List ℕ  -- the numbers of the writes that take nothing
  pub writes : ℕ  -- how many writes there were
  pub faults : ℕ  -- how many writes have failed
  pub empties : ℕ  -- how many writes of a piece that isn't empty took nothing

-- a sink that has taken nothing
abbrev pub first_sink : SinkState
first_sink = record { bytes = []; bad_writes = []; empty_writes = []; writes = 0; faults = 0; empties = 0 }

-- the write after these fails
abbrev pub is_bad_write : SinkState → Bool
is_bad_write sink = is_among (next_count sink.writes) sink.bad_writes

-- how much of this piece the write after these takes, where it doesn't fail
abbrev pub taken_length : SinkState → List ℕ → ℕ
taken_length sink piece = if is_among (next_count sink.writes) sink.empty_writes then 0 else length piece
