-- How far FocusedILS is, its runs, incumbent and entries, what a reply does, and which state of the procedure it
-- stands for (Hutter et al., JAIR 36).
use Rattle.std.specs.Prelude.{ℕ, ◌≡◌, ◌+◌, ◌*◌, ◌≤◌, min, Bool, true, false, not, ◌&&◌, ◌||◌, ◌==◌, List, [], ◌∷◌, ◌++◌, None, Some, IsSome, IfSome, nat_le, nat_lt, bytes_eq, if◌then◌else◌}
use Rattle.param_space.specs.Space.{defaults}
use Rattle.uncapped.specs.Procedure.{Settings, Sums, Question, Incumbent, PlainState, Procedure, ◌>>=◌, ◌>>◌, give, state, becomes}
use Rattle.uncapped.specs.Setup.{Setup}
use Rattle.uncapped.specs.Evaluation.{after_ask, after_win, counts_after, evaluate, dominates, catch_up}
use Rattle.ils_face.specs.Rules.{Rules}
use Rattle.ils_face.specs.Trajectories.{newest, IsTrajectory}
use Rattle.ils_face.specs.declared.asks.Reply.{Reply}
use Rattle.ils_face.specs.declared.asks.Reply.TheVariants.{Exact, Exceeds}
use Rattle.ils_frame.specs.Comparers.{Parts, AreCostsKnown}
use Rattle.ils_frame.specs.IncumbentInvariant.{IncumbentInvariant}
use Rattle.focused_ils.specs.Counts.{Counts, count_in, no_counts, raised}
use Rattle.focused_ils.specs.Comparison.{Turn, Phase, Opened, High, Low, Further, Compared, is_overtaken, question_at, stage_at, is_incumbent_first, phase_next, first_turn}

-- the runs of all configurations, the incumbent among them, and what a win is worth
pub record Tally : Type 0 where
  pub counts : Counts
  pub last : Incumbent
  pub bonus : ℕ  -- further runs

-- how far FocusedILS is, with the incumbents so far
pub record State : Type 0 where
  pub max_runs : ℕ  -- the places of an evaluation, at most
  pub tally : Tally
  pub phase : Phase
  pub entries : List Incumbent  -- oldest first

-- ---- evaluations

-- another configuration costs less than the incumbent on as many places as that has runs
abbrev pub is_better : Incumbent → Settings → ℕ → ℕ → Bool
is_better last θ n x = not (bytes_eq θ last.config) && (n == last.runs) && nat_lt x last.sum

-- the incumbent itself was evaluated on more places
abbrev pub is_extended : Incumbent → Settings → ℕ → Bool
is_extended last θ n = bytes_eq θ last.config && nat_lt last.runs n

-- a configuration as incumbent, from the present comparison on
abbrev pub entry : Incumbent → Settings → ℕ → ℕ → Incumbent
entry last θ n x = record { compared = last.compared; runs = n; sum = x; config = θ }

-- the incumbent where another one is better, and else where it was evaluated on more places
abbrev pub last_where : (better extended : Bool) → Incumbent → Settings → ℕ → ℕ → Incumbent
last_where true extended last θ n x = entry last θ n x
last_where false true last θ n x = record last { runs = n; sum = x }
last_where false false last θ n x = last

-- the incumbent after the reply to an evaluation
abbrev pub last_after : Incumbent → Question → Reply → Incumbent
last_after last q (Exact x) = last_where (is_better last q.config q.places x.0) (is_extended last q.config q.places) last q.config q.places x.0
last_after last q Exceeds = last

-- the entry of a new incumbent
abbrev pub entry_where : Bool → Incumbent → List Incumbent
entry_where true e = e ∷ []
entry_where false e = []

-- the entries that the reply to an evaluation adds
abbrev pub added_by : Incumbent → Question → Reply → List Incumbent
added_by last q (Exact x) = entry_where (is_better last q.config q.places x.0) (entry last q.config q.places x.0)
added_by last q Exceeds = []

-- the bonus is used up by the winner's further evaluation
abbrev pub bonus_next : Phase → ℕ → ℕ
bonus_next Opened bonus = bonus
bonus_next (High turn) bonus = bonus
bonus_next (Low turn bound) bonus = bonus
bonus_next (Further θ n) bonus = 0
bonus_next (Compared won) bonus = bonus

-- the tally with one more evaluation; a count rises whatever is replied
abbrev pub tally_counted : Tally → Question → Reply → Tally
tally_counted t q r = record {
  counts = raised t.counts q.config q.places;
  last = last_after t.last q r;
  bonus = t.bonus;
}

-- the tally after a reply
abbrev pub tally_after : Tally → Phase → Reply → Tally
tally_after t phase r = record (tally_counted t (question_at t.last phase) r) { bonus = if is_incumbent_first t.last phase then t.bonus else bonus_next phase t.bonus }

-- the phase after a reply: the same where the incumbent went first
abbrev pub phase_after : ℕ → Tally → Phase → Reply → Phase
phase_after max_runs t phase r = if is_incumbent_first t.last phase then phase else phase_next max_runs (raised t.counts (question_at t.last phase).config (question_at t.last phase).places) t.bonus phase r

-- ---- the begin of a comparison

-- a win is worth one more run, and two where both have as many
abbrev pub bonus_more : ℕ → ℕ → ℕ
bonus_more n m = if n == m then 2 else 1

-- the tally as a comparison of this number begins
abbrev pub tally_at_begin : Tally → Settings → Settings → ℕ → Tally
tally_at_begin t θ φ m = record {
  counts = t.counts;
  last = record t.last { compared = m };
  bonus = t.bonus + bonus_more (count_in t.counts θ) (count_in t.counts φ);
}

-- ---- the procedure's state

-- after an evaluation, whatever its cost
abbrev pub after_evaluation : Question → PlainState → PlainState
after_evaluation q s = record (after_ask q.config q.places q.bound s) { counts = counts_after s.counts q.config q.places }

-- a new incumbent, where it is one
abbrev pub win_where : Bool → Settings → ℕ → ℕ → PlainState → PlainState
win_where true θ n x s = after_win θ n x s
win_where false θ n x s = s

-- after the reply to an evaluation
abbrev pub replied_by : Incumbent → Question → Reply → PlainState → PlainState
replied_by last q (Exact x) s = win_where (is_better last q.config q.places x.0) q.config q.places x.0 (after_evaluation q s)
replied_by last q Exceeds s = after_evaluation q s

-- the bonus is used up by the winner's further evaluation
abbrev pub cleared_at : Phase → PlainState → PlainState
cleared_at Opened s = s
cleared_at (High turn) s = s
cleared_at (Low turn bound) s = s
cleared_at (Further θ n) s = record s { bonus = 0 }
cleared_at (Compared won) s = s

-- after a reply
abbrev pub replied_at : Incumbent → Phase → Reply → PlainState → PlainState
replied_at last phase r s = if is_incumbent_first last phase then replied_by last (question_at last phase) r s else cleared_at phase (replied_by last (question_at last phase) r s)

-- as a comparison of this number begins
abbrev pub started_at : Settings → Settings → ℕ → PlainState → PlainState
started_at θ φ m s = record s { compared = m; bonus = s.bonus + bonus_more (s.counts θ) (s.counts φ) }

-- ---- what is to come

-- the winner is evaluated on further places, and the bonus is used up
abbrev pub further_coming : Sums → Settings → ℕ → Procedure Bool
further_coming sums θ n = evaluate sums θ n None >> becomes (λ s. record s { bonus = 0 }) >> give true

-- whether the first one dominates; then it is evaluated on further places
abbrev pub decision_coming : Setup → Sums → Settings → Settings → Procedure Bool
decision_coming setup sums θ φ = state >>= λ now. if dominates sums now θ φ then further_coming sums θ (min (now.counts θ + now.bonus) setup.max_runs) else give false

-- the same after a turn
abbrev pub decision_after : Setup → Sums → Turn → Procedure Bool
decision_after setup sums turn = if turn.first_is_low then decision_coming setup sums turn.low turn.high else decision_coming setup sums turn.high turn.low

-- the end of a turn, and those that follow
abbrev pub turns_after : Setup → Sums → Turn → Procedure (Unit {0})
turns_after setup sums turn = state >>= λ now.
    if dominates sums now turn.low turn.high || dominates sums now turn.high turn.low then give tt else catch_up setup sums turn.more turn.low turn.high

-- a turn from the evaluation of the one that catches up on
abbrev pub turn_from_low : Setup → Sums → Turn → ℕ → Procedure (Unit {0})
turn_from_low setup sums turn x = evaluate sums turn.low turn.places (Some x) >>= λ y. turns_after setup sums turn

-- what is to come of a comparison
abbrev pub coming_at : Setup → Sums → Phase → Procedure Bool
coming_at setup sums Opened = give false
coming_at setup sums (High turn) = (evaluate sums turn.high turn.places None >>= λ x. turn_from_low setup sums turn x) >>= λ u. decision_after setup sums turn
coming_at setup sums (Low turn bound) = turn_from_low setup sums turn bound >>= λ u. decision_after setup sums turn
coming_at setup sums (Further θ n) = further_coming sums θ n
coming_at setup sums (Compared won) = give won

-- the same of a state
abbrev pub coming_in : Setup → Sums → State → Procedure Bool
coming_in setup sums c = coming_at setup sums c.phase

-- ---- the comparer

-- one more answer, where the incumbent goes first
abbrev pub one_where : Bool → ℕ
one_where true = 1
one_where false = 0

-- the evaluations that are left, at most
abbrev pub left_at : Incumbent → Phase → ℕ
left_at last Opened = 0
left_at last (High turn) = 3 * turn.more + 4 + one_where (is_overtaken last turn.high turn.places)
left_at last (Low turn bound) = 3 * turn.more + 3
left_at last (Further θ n) = 1 + one_where (is_overtaken last θ n)
left_at last (Compared won) = 0

-- with one more evaluation, and the entry of a new incumbent
abbrev pub state_counted : State → Reply → State
state_counted c r = record c {
  tally = tally_counted c.tally (question_at c.tally.last c.phase) r;
  entries = c.entries ++ added_by c.tally.last (question_at c.tally.last c.phase) r;
}

-- at the next phase
abbrev pub state_next : State → Reply → State
state_next c r = record c {
  tally = record c.tally { bonus = bonus_next c.phase c.tally.bonus };
  phase = phase_next c.max_runs c.tally.counts c.tally.bonus c.phase r;
}

-- after a reply
abbrev pub state_after : State → Reply → State
state_after c r = record {
  max_runs = c.max_runs;
  tally = tally_after c.tally c.phase r;
  phase = phase_after c.max_runs c.tally c.phase r;
  entries = c.entries ++ added_by c.tally.last (question_at c.tally.last c.phase) r;
}

-- a comparison of this number begins
abbrev pub state_at_begin : State → Settings → Settings → ℕ → State
state_at_begin c θ φ m = record {
  max_runs = c.max_runs;
  tally = tally_at_begin c.tally θ φ m;
  phase = High (first_turn (nat_le (count_in c.tally.counts θ) (count_in c.tally.counts φ)) c.max_runs c.tally.counts θ φ);
  entries = c.entries;
}

-- how FocusedILS goes on, and what it shows
abbrev pub focused_parts : Parts State
focused_parts = record {
  stage = λ c. stage_at c.tally.last c.phase;
  last = λ c. c.tally.last;
  entries = λ c. c.entries;
  after = state_after;
  begun = state_at_begin;
  added = λ c r. added_by c.tally.last (question_at c.tally.last c.phase) r;
  left = λ c. left_at c.tally.last c.phase;
  replied = λ c r s. replied_at c.tally.last c.phase r s;
  started = λ c θ φ m s. started_at θ φ m s;
}

-- the default without a run
abbrev pub first_incumbent : Settings → Incumbent
first_incumbent start = record { compared = 0; runs = 0; sum = 0; config = start }

-- before any reply: the default is the first entry, and nothing is asked
abbrev pub state_from : ℕ → Settings → State
state_from max_runs start = record {
  max_runs = max_runs;
  tally = record { counts = no_counts; last = first_incumbent start; bonus = 0 };
  phase = Opened;
  entries = first_incumbent start ∷ [];
}

-- the same by the rules
abbrev pub first_state : Rules → State
first_state rules = state_from rules.max_runs (defaults rules.space.params)

-- ---- what holds of it

-- the incumbent has the most runs
pub record HasMostRuns (t : Tally) : Type 0 where
  pub most : (φ : Settings) → count_in t.counts φ ≤ t.last.runs
  pub top : count_in t.counts t.last.config ≡ t.last.runs

-- a turn is on some places, at least as many as the one that catches up has runs, and with those that may follow it
-- comes up to the other one's runs
pub record IsTurn (allowed : Settings → Type 0) (max_runs : ℕ) (counts : Counts) (turn : Turn) : Type 0 where
  pub low : allowed turn.low
  pub high : allowed turn.high
  pub some : 1 ≤ turn.places
  pub within : turn.places ≤ max_runs
  pub behind : count_in counts turn.low ≤ turn.places
  pub enough : count_in counts turn.high ≤ turn.places + turn.more

-- a comparison has a number from 1, and its configurations are allowed
abbrev pub IsPhaseFit : (Settings → Type 0) → ℕ → Tally → Phase → Type 0
IsPhaseFit allowed max_runs t Opened = t.last.compared ≡ 0
IsPhaseFit allowed max_runs t (High turn) = (1 ≤ t.last.compared) × IsTurn allowed max_runs t.counts turn
IsPhaseFit allowed max_runs t (Low turn bound) = (1 ≤ t.last.compared) × IsTurn allowed max_runs t.counts turn × (turn.places ≤ count_in t.counts turn.high)
IsPhaseFit allowed max_runs t (Further θ n) = (1 ≤ t.last.compared) × allowed θ × (1 ≤ n) × (n ≤ max_runs)
IsPhaseFit allowed max_runs t (Compared won) = 1 ≤ t.last.compared

-- it was reached by fitting replies
pub record IsFit (max_runs : ℕ) (allowed : Settings → Type 0) (c : State) : Type 0 where
  pub runs : c.max_runs ≡ max_runs
  pub some : 1 ≤ max_runs
  pub tally : HasMostRuns c.tally
  pub phase : IsPhaseFit allowed max_runs c.tally c.phase
  pub trajectory : IsTrajectory max_runs allowed c.entries c.tally.last
  pub entered : IsSome (newest c.entries)
  pub earlier : IfSome (newest c.entries) (λ e. e.runs ≤ c.tally.last.runs)  -- the newest entry has no more runs

-- a bound is a cost, and hides no configuration that is better than the incumbent
pub record IsBound (sums : Sums) (last : Incumbent) (turn : Turn) (bound : ℕ) : Type 0 where
  pub cost : sums turn.high turn.places ≡ Some bound
  pub least : turn.places ≡ last.runs → last.sum ≤ bound

-- the same at each phase
abbrev pub StandsAt : Sums → Incumbent → Phase → Type 0
StandsAt sums last Opened = Unit {0}
StandsAt sums last (High turn) = Unit {0}
StandsAt sums last (Low turn bound) = IsBound sums last turn bound
StandsAt sums last (Further θ n) = Unit {0}
StandsAt sums last (Compared won) = Unit {0}

-- it stands for this state of the procedure
pub record Stands (sums : Sums) (c : State) (s : PlainState) : Type 0 where
  pub incumbent : s.incumbent ≡ c.tally.last.config
  pub compared : s.compared ≡ c.tally.last.compared
  pub bonus : s.bonus ≡ c.tally.bonus
  pub counts : (φ : Settings) → s.counts φ ≡ count_in c.tally.counts φ
  pub known : AreCostsKnown sums s
  pub invariant : IncumbentInvariant sums s
  pub cost : sums c.tally.last.config c.tally.last.runs ≡ Some c.tally.last.sum
  pub phase : StandsAt sums c.tally.last c.phase
