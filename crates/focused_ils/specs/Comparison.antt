-- A comparison of FocusedILS: the configuration with fewer runs catches up, turn by turn, until one of the two
-- dominates, and where both do, a tie, the first one wins (Hutter et al., JAIR 36).
use Rattle.std.specs.Prelude.{ℕ, zero, suc, ◌+◌, min, Bool, true, false, not, ◌&&◌, ◌||◌, None, Some, nat_le, nat_lt, bytes_eq, if◌then◌else◌}
use Rattle.uncapped.specs.Procedure.{Settings, Question, Incumbent}
use Rattle.ils_face.specs.declared.asks.Reply.{Reply}
use Rattle.ils_face.specs.declared.asks.Reply.TheVariants.{Exact, Exceeds}
use Rattle.ils_frame.specs.Comparers.{AskedStage, Ready, Asking, Decided}
use Rattle.focused_ils.specs.Counts.{Counts, count_in}

-- a turn of a comparison, in which both configurations are evaluated on so many places
pub record Turn : Type 0 where
  pub first_is_low : Bool  -- the one that catches up is the comparison's first
  pub low : Settings  -- the one that catches up
  pub high : Settings  -- the one with more runs
  pub places : ℕ
  pub more : ℕ  -- the turns that may follow

-- how far a comparison is
pub data Phase : Type 0 where
  Opened : Phase  -- nothing was compared yet
  High : Turn → Phase  -- the one with more runs is to be evaluated
  Low : Turn → (bound : ℕ) → Phase  -- then the one that catches up, up to the other one's cost
  Further : (winner : Settings) → (places : ℕ) → Phase  -- the winner is to be evaluated on further places
  Compared : Bool → Phase  -- whether the first one won

-- ---- what is asked for

-- another configuration is to be evaluated on more places than the incumbent has runs
abbrev pub is_overtaken : Incumbent → Settings → ℕ → Bool
is_overtaken last θ n = not (bytes_eq θ last.config) && nat_lt last.runs n

-- one of the two configurations
abbrev pub one_of : Bool → Settings → Settings → Settings
one_of true θ φ = θ
one_of false θ φ = φ

-- an evaluation in full, of the incumbent or of another configuration
abbrev pub full_where : (first : Bool) → Incumbent → Settings → ℕ → Question
full_where first last θ n = record { config = one_of first last.config θ; places = n; bound = None }

-- an evaluation in full; the incumbent goes first where it would be overtaken
abbrev pub in_full : Incumbent → Settings → ℕ → Question
in_full last θ n = full_where (is_overtaken last θ n) last θ n

-- the evaluation that is asked for; where none is, that of the incumbent on no place
abbrev pub question_at : Incumbent → Phase → Question
question_at last Opened = record { config = last.config; places = 0; bound = None }
question_at last (High turn) = in_full last turn.high turn.places
question_at last (Low turn bound) = record { config = turn.low; places = turn.places; bound = Some bound }
question_at last (Further θ n) = in_full last θ n
question_at last (Compared won) = record { config = last.config; places = 0; bound = None }

-- what is asked for, or what the comparison came to
abbrev pub stage_at : Incumbent → Phase → AskedStage
stage_at last Opened = Ready
stage_at last (High turn) = Asking (question_at last (High turn))
stage_at last (Low turn bound) = Asking (question_at last (Low turn bound))
stage_at last (Further θ n) = Asking (question_at last (Further θ n))
stage_at last (Compared won) = Decided won

-- whether the incumbent goes first
abbrev pub is_incumbent_first : Incumbent → Phase → Bool
is_incumbent_first last Opened = false
is_incumbent_first last (High turn) = is_overtaken last turn.high turn.places
is_incumbent_first last (Low turn bound) = false
is_incumbent_first last (Further θ n) = is_overtaken last θ n
is_incumbent_first last (Compared won) = false

-- ---- turns

-- the comparison's first configuration
abbrev pub first_in : Turn → Settings
first_in turn = one_of turn.first_is_low turn.low turn.high

-- the one that catches up has as many runs by now, and costs no more
abbrev pub low_dominates : Counts → (high : Settings) → (places : ℕ) → Reply → Bool
low_dominates counts high n (Exact y) = nat_le (count_in counts high) n
low_dominates counts high n Exceeds = false

-- the one with more runs costs no more
abbrev pub high_dominates : ℕ → Reply → Bool
high_dominates bound (Exact y) = nat_le bound y.0
high_dominates bound Exceeds = true

-- the first one dominates; it wins then, also where the other one does too
abbrev pub first_dominates : Turn → (low high : Bool) → Bool
first_dominates turn low high = if turn.first_is_low then low else high

-- the winner is evaluated on as many further places as the bonus says
abbrev pub phase_by : Bool → ℕ → Counts → ℕ → Settings → Phase
phase_by true max_runs counts bonus θ = Further θ (min (count_in counts θ + bonus) max_runs)
phase_by false max_runs counts bonus θ = Compared false

-- a further turn on one more place; the turns suffice, so that the first case never comes
abbrev pub next_turn : ℕ → Turn → ℕ → Phase
next_turn max_runs turn zero = Compared false
next_turn max_runs turn (suc more) = High (record turn { places = min (turn.places + 1) max_runs; more = more })

-- after a turn, by who dominates
abbrev pub phase_after_turn : ℕ → Counts → ℕ → Turn → (low high : Bool) → Phase
phase_after_turn max_runs counts bonus turn low high =
    if low || high then phase_by (first_dominates turn low high) max_runs counts bonus (first_in turn) else next_turn max_runs turn turn.more

-- after a reply to what the phase is for; nothing but a cost is replied in full
abbrev pub phase_next : ℕ → Counts → ℕ → Phase → Reply → Phase
phase_next max_runs counts bonus Opened r = Opened
phase_next max_runs counts bonus (High turn) (Exact x) = Low turn x.0
phase_next max_runs counts bonus (High turn) Exceeds = Compared false
phase_next max_runs counts bonus (Low turn bound) r = phase_after_turn max_runs counts bonus turn (low_dominates counts turn.high turn.places r) (high_dominates bound r)
phase_next max_runs counts bonus (Further θ n) r = Compared true
phase_next max_runs counts bonus (Compared won) r = Compared won

-- the first turn, by whether the first one has no more runs than the second
abbrev pub first_turn : Bool → ℕ → Counts → Settings → Settings → Turn
first_turn true max_runs counts θ φ = record { first_is_low = true; low = θ; high = φ; places = min (count_in counts θ + 1) max_runs; more = max_runs }
first_turn false max_runs counts θ φ = record { first_is_low = false; low = φ; high = θ; places = min (count_in counts φ + 1) max_runs; more = max_runs }
