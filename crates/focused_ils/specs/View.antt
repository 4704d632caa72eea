-- The incumbent and the comparison as they are held in memory.
use Rattle.std.specs.Prelude.{ℕ, ◌≡◌, ◌≤◌, ◌*◌, Bool, true, false, None, Some, IsSome, nat_le, if◌then◌else◌}
use Rattle.objective.specs.Limits
use Rattle.uncapped.specs.Procedure.{Settings, Question, Incumbent}
use Rattle.ils_face.specs.declared.asks.Reply.{Reply}
use Rattle.ils_frame.specs.Comparers.{question_in}
use Rattle.focused_ils.specs.declared.phase.Phase as phase
use Rattle.focused_ils.specs.declared.phase.Phase.TheVariants as held
use Rattle.focused_ils.specs.Counts.{Counts, count_in}
use Rattle.focused_ils.specs.Comparison.{Turn, Phase, Opened, High, Low, Further, Compared, is_incumbent_first, question_at, stage_at, phase_next, first_turn}
use Rattle.focused_ils.specs.State.{is_extended, last_where}

-- the incumbent, and how far the comparison is
pub record Held : Type 0 where
  pub last : Incumbent
  pub phase : Phase

-- a turn of these evaluations
abbrev pub turn_seen : Bool → (high low : Question) → ℕ → Turn
turn_seen first_is_low high low more = record { first_is_low = first_is_low; low = low.config; high = high.config; places = high.places; more = more }

-- the evaluation of the comparison's first configuration
abbrev pub first_seen : Bool → (high low : Question) → Question
first_seen true high low = low
first_seen false high low = high

-- the phase with the configurations that the evaluations name
abbrev pub phase_seen : Bool → (high low : Question) → phase.Phase → Phase
phase_seen first_is_low high low held.Opened = Opened
phase_seen first_is_low high low (held.High more) = High (turn_seen first_is_low high low more)
phase_seen first_is_low high low (held.Low more bound) = Low (turn_seen first_is_low high low more) bound.0
phase_seen first_is_low high low held.Further = Further (first_seen first_is_low high low).config (first_seen first_is_low high low).places
phase_seen first_is_low high low (held.Compared won) = Compared won

-- an evaluation in full, and that of the incumbent on as many places
pub record AreInFull (incumbent evaluation : Question) : Type 0 where
  pub full : evaluation.bound ≡ None
  pub incumbent_full : incumbent.bound ≡ None
  pub places : incumbent.places ≡ evaluation.places

-- an evaluation up to a bound, on as many places as the other one
pub record IsUpTo (high low : Question) (bound : ℕ) : Type 0 where
  pub places : low.places ≡ high.places
  pub limit : low.bound ≡ Some bound

-- the evaluations are those that the phase asks for
abbrev pub AreForPhase : Bool → (incumbent high low : Question) → phase.Phase → Type 0
AreForPhase first_is_low incumbent high low held.Opened = Unit {0}
AreForPhase first_is_low incumbent high low (held.High more) = AreInFull incumbent high
AreForPhase first_is_low incumbent high low (held.Low more bound) = IsUpTo high low bound.0
AreForPhase first_is_low incumbent high low held.Further = AreInFull incumbent (first_seen first_is_low high low)
AreForPhase first_is_low incumbent high low (held.Compared won) = Unit {0}

-- an evaluation is asked for
abbrev pub IsAsking : Held → Type 0
IsAsking c = IsSome (question_in (stage_at c.last c.phase))

-- the evaluation that is asked for
abbrev pub asked_in : Held → Question
asked_in c = question_at c.last c.phase

-- where the one that catches up is asked for, this holds of its turn
abbrev pub IfLow : Phase → (Turn → Type 0) → Type 0
IfLow Opened P = Unit {0}
IfLow (High turn) P = Unit {0}
IfLow (Low turn bound) P = P turn
IfLow (Further θ n) P = Unit {0}
IfLow (Compared won) P = Unit {0}

-- where the incumbent was evaluated on more places, it has as many runs
abbrev pub held_extended : Held → ℕ → Held
held_extended c x = record c { last = last_where false (is_extended c.last (asked_in c).config (asked_in c).places) c.last (asked_in c).config (asked_in c).places x }

-- a comparison of this number begins
abbrev pub held_at_begin : ℕ → Counts → Held → Settings → Settings → ℕ → Held
held_at_begin max_runs counts c θ φ m = record {
  last = record c.last { compared = m };
  phase = High (first_turn (nat_le (count_in counts θ) (count_in counts φ)) max_runs counts θ φ);
}

-- the phase that a reply leads to, by these counts
abbrev pub phase_from : ℕ → Counts → ℕ → Held → Reply → Phase
phase_from max_runs counts bonus c r = if is_incumbent_first c.last c.phase then c.phase else phase_next max_runs counts bonus c.phase r

-- each comparison makes a win worth at most two further runs
pub record IsBonus (compared bonus : ℕ) : Type 0 where
  pub few : compared ≤ Limits.max_comparisons
  pub small : bonus ≤ 2 * compared
