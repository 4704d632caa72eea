-- An outcome table against the same table with each abort as unsolved: what aborts change in a run.
use Rattle.std.specs.Prelude.{ℕ, ◌+◌, ◌<◌, ◌≡◌, List, IsSome, IfSome, IsSomeAnd, map, take, length, slice_get}
use Rattle.uncapped.specs.Procedure.{Sums, Question, Incumbent, Aborted}
use Rattle.uncapped.specs.Uncapped.{Run}
use Rattle.ils_face.specs.Replies.{cost_asked, entries_before}
use Rattle.ils_face.specs.Traces.{IsUnknown}

-- the entries of a run, without the numbers of asks before them
abbrev pub entries_of : Run → List Incumbent
entries_of run = map (λ a. a.entry) run.entries

-- the total costs that the first k of these questions ask for are known
abbrev pub AreKnown : Sums → List Question → ℕ → Type 0
AreKnown sums asks k = (i : ℕ) → i < k → IfSome (slice_get asks i) (λ q. IsSome (cost_asked sums q))

-- question number k is the first one whose total cost isn't known
pub record IsFirstUnknown (sums : Sums) (asks : List Question) (k : ℕ) : Type 0 where
  pub before : AreKnown sums asks k
  pub unknown : IsSomeAnd (slice_get asks k) (IsUnknown sums)

-- the two runs have the same asks, entries, end and last line
pub record SameRun (run whole : Run) : Type 0 where
  pub asks : run.asks ≡ whole.asks
  pub entries : entries_of run ≡ entries_of whole
  pub end : run.end ≡ whole.end
  pub last : run.last ≡ whole.last

-- the run is aborted at ask number k of the whole one, with the asks up to that one and the entries before it
pub record IsCutAt (run whole : Run) (k : ℕ) : Type 0 where
  pub within : k < length whole.asks
  pub end : run.end ≡ Aborted
  pub asks : run.asks ≡ take (k + 1) whole.asks
  pub entries : entries_of run ≡ entries_before whole k

-- the run is the whole one where all costs that this asks for are known, else it is cut at the first one that isn't
pub data MeetsAborts (sums : Sums) (run whole : Run) : Type 0 where
  same : AreKnown sums whole.asks (length whole.asks) → SameRun run whole → MeetsAborts sums run whole
  cut : (k : ℕ) → IsFirstUnknown sums whole.asks k → IsCutAt run whole k → MeetsAborts sums run whole
