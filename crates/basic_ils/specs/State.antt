-- How far BasicILS is, its incumbent and entries, what a reply does, and which state of the procedure it stands for
-- (Hutter et al., JAIR 36).
use Rattle.std.specs.Prelude.{ℕ, ◌≡◌, ◌≤◌, Bool, true, false, not, ◌&&◌, List, [], ◌∷◌, ◌++◌, Option, None, Some, IsSome, nat_le, nat_lt, bytes_eq}
use Rattle.param_space.specs.Space.{defaults}
use Rattle.uncapped.specs.Procedure.{Settings, Sums, Incumbent, PlainState, Procedure, ◌>>=◌, give}
use Rattle.uncapped.specs.Setup.{Setup}
use Rattle.uncapped.specs.Evaluation.{after_ask, after_entry, after_win, counts_after, evaluate, better_basic}
use Rattle.uncapped.specs.Uncapped.{opening_basic}
use Rattle.ils_face.specs.Rules.{Rules}
use Rattle.ils_face.specs.Trajectories.{newest, IsTrajectory}
use Rattle.ils_face.specs.declared.asks.Reply.{Reply}
use Rattle.ils_face.specs.declared.asks.Reply.TheVariants.{Exact, Exceeds}
use Rattle.ils_frame.specs.Comparers.{Parts, AreCostsKnown}
use Rattle.ils_frame.specs.IncumbentInvariant.{IncumbentInvariant}
use Rattle.basic_ils.specs.Comparison.{Phase, Opening, Opened, Second, First, Compared, stage_at, phase_after}

-- how far BasicILS is, with the incumbents so far
pub record State : Type 0 where
  pub max_runs : ℕ  -- the places of each evaluation
  pub last : Incumbent
  pub phase : Phase
  pub entries : List Incumbent  -- oldest first

-- the configuration that is evaluated, or else the incumbent
abbrev pub evaluated_config : Settings → Phase → Settings
evaluated_config incumbent Opening = incumbent
evaluated_config incumbent Opened = incumbent
evaluated_config incumbent (Second first second) = second
evaluated_config incumbent (First first bound) = first
evaluated_config incumbent (Compared won) = incumbent

-- another configuration costs less than the incumbent
abbrev pub is_better : Incumbent → Settings → ℕ → Bool
is_better last θ x = not (bytes_eq θ last.config) && nat_lt x last.sum

-- a cost makes a new incumbent: the default's, and then any that is lower
abbrev pub is_renewed : Incumbent → Phase → ℕ → Bool
is_renewed last Opening x = true
is_renewed last phase x = is_better last (evaluated_config last.config phase) x

-- a configuration as incumbent, from the present comparison on
abbrev pub entry : ℕ → Incumbent → Settings → ℕ → Incumbent
entry n last θ x = record { compared = last.compared; runs = n; sum = x; config = θ }

-- the entry of a new incumbent
abbrev pub entry_where : Bool → Incumbent → List Incumbent
entry_where true e = e ∷ []
entry_where false e = []

-- the entries that a reply adds
abbrev pub added_at : ℕ → Incumbent → Phase → Reply → List Incumbent
added_at n last phase (Exact x) = entry_where (is_renewed last phase x.0) (entry n last (evaluated_config last.config phase) x.0)
added_at n last phase Exceeds = []

-- the incumbent, after these entries
abbrev pub last_after : Incumbent → List Incumbent → Incumbent
last_after last [] = last
last_after last (e ∷ more) = e

-- ---- the procedure's state

-- after an evaluation, whatever its cost
abbrev pub after_evaluation : Settings → ℕ → Option ℕ → PlainState → PlainState
after_evaluation θ n bound s = record (after_ask θ n bound s) { counts = counts_after s.counts θ n }

-- a new incumbent, where it is one
abbrev pub win_where : Bool → Settings → ℕ → ℕ → PlainState → PlainState
win_where true θ n x s = after_win θ n x s
win_where false θ n x s = s

-- after the reply to an evaluation in a comparison
abbrev pub after_reply : ℕ → Incumbent → Settings → Reply → PlainState → PlainState
after_reply n last θ (Exact x) s = win_where (is_better last θ x.0) θ n x.0 s
after_reply n last θ Exceeds s = s

-- after the reply to the opening evaluation
abbrev pub after_opening : ℕ → Settings → Reply → PlainState → PlainState
after_opening n start (Exact x) s = after_entry start n x.0 s
after_opening n start Exceeds s = s

-- after a reply
abbrev pub replied_at : ℕ → Incumbent → Phase → Reply → PlainState → PlainState
replied_at n last Opening r s = after_opening n last.config r (after_evaluation last.config n None s)
replied_at n last Opened r s = s
replied_at n last (Second first second) r s = after_reply n last second r (after_evaluation second n None s)
replied_at n last (First first bound) r s = after_reply n last first r (after_evaluation first n (Some bound) s)
replied_at n last (Compared won) r s = s

-- what is to come of the opening evaluation or of a comparison
abbrev pub coming_at : Setup → Sums → Phase → Procedure Bool
coming_at setup sums Opening = opening_basic setup sums >>= λ _. give false
coming_at setup sums Opened = give false
coming_at setup sums (Second first second) = better_basic setup sums first second
coming_at setup sums (First first bound) = evaluate sums first setup.max_runs (Some bound) >>= λ x. give (nat_le x bound)
coming_at setup sums (Compared won) = give won

-- the same of a state
abbrev pub coming_in : Setup → Sums → State → Procedure Bool
coming_in setup sums c = coming_at setup sums c.phase

-- ---- the comparer

-- the evaluations that are left
abbrev pub left_at : Phase → ℕ
left_at Opening = 1
left_at Opened = 0
left_at (Second first second) = 2
left_at (First first bound) = 1
left_at (Compared won) = 0

-- the entry of what is evaluated, with this cost
abbrev pub evaluated_entry : State → ℕ → Incumbent
evaluated_entry c x = entry c.max_runs c.last (evaluated_config c.last.config c.phase) x

-- what is evaluated is the incumbent, with its entry
abbrev pub state_renewed : State → ℕ → State
state_renewed c x = record c { last = evaluated_entry c x; entries = c.entries ++ evaluated_entry c x ∷ [] }

-- after a reply
abbrev pub state_after : State → Reply → State
state_after c r = record {
  max_runs = c.max_runs;
  last = last_after c.last (added_at c.max_runs c.last c.phase r);
  phase = phase_after c.phase r;
  entries = c.entries ++ added_at c.max_runs c.last c.phase r;
}

-- a comparison of this number begins
abbrev pub state_at_begin : State → Settings → Settings → ℕ → State
state_at_begin c θ φ m = record {
  max_runs = c.max_runs;
  last = record c.last { compared = m };
  phase = Second θ φ;
  entries = c.entries;
}

-- how BasicILS goes on, and what it shows
abbrev pub basic_parts : Parts State
basic_parts = record {
  stage = λ c. stage_at c.max_runs c.last.config c.phase;
  last = λ c. c.last;
  entries = λ c. c.entries;
  after = state_after;
  begun = state_at_begin;
  added = λ c r. added_at c.max_runs c.last c.phase r;
  left = λ c. left_at c.phase;
  replied = λ c r s. replied_at c.max_runs c.last c.phase r s;
  started = λ c θ φ m s. record s { compared = m };
}

-- before any reply
abbrev pub first_state : Rules → State
first_state rules = record {
  max_runs = rules.max_runs;
  last = record { compared = 0; runs = 0; sum = 0; config = defaults rules.space.params };
  phase = Opening;
  entries = [];
}

-- ---- what holds of it

-- a comparison has a number from 1, and its configurations are allowed
abbrev pub IsPhaseFit : (Settings → Type 0) → ℕ → Phase → Type 0
IsPhaseFit allowed compared Opening = compared ≡ 0
IsPhaseFit allowed compared Opened = compared ≡ 0
IsPhaseFit allowed compared (Second first second) = (1 ≤ compared) × allowed first × allowed second
IsPhaseFit allowed compared (First first bound) = (1 ≤ compared) × allowed first
IsPhaseFit allowed compared (Compared won) = 1 ≤ compared

-- once the default was evaluated there is an entry
abbrev pub IsEntered : Phase → List Incumbent → Type 0
IsEntered Opening entries = Unit {0}
IsEntered phase entries = IsSome (newest entries)

-- it was reached by fitting replies
pub record IsFit (max_runs : ℕ) (allowed : Settings → Type 0) (c : State) : Type 0 where
  pub runs : c.max_runs ≡ max_runs
  pub some : 1 ≤ max_runs
  pub phase : IsPhaseFit allowed c.last.compared c.phase
  pub trajectory : IsTrajectory max_runs allowed c.entries c.last
  pub entered : IsEntered c.phase c.entries

-- nothing was evaluated yet
pub record IsFresh (start : Settings) (last : Incumbent) (s : PlainState) : Type 0 where
  pub counts : (φ : Settings) → s.counts φ ≡ 0
  pub config : last.config ≡ start
  pub runs : last.runs ≡ 0
  pub sum : last.sum ≡ 0

-- the incumbent was evaluated on n places, and nothing on more
pub record IsKnown (n : ℕ) (sums : Sums) (last : Incumbent) (s : PlainState) : Type 0 where
  pub most : (φ : Settings) → s.counts φ ≤ n
  pub top : s.counts s.incumbent ≡ n
  pub runs : last.runs ≡ n
  pub sum : sums s.incumbent n ≡ Some last.sum

-- a bound hides no configuration that is better than the incumbent
abbrev pub StandsAt : ℕ → Settings → Sums → Incumbent → Phase → PlainState → Type 0
StandsAt n start sums last Opening s = IsFresh start last s
StandsAt n start sums last Opened s = IsKnown n sums last s
StandsAt n start sums last (Second first second) s = IsKnown n sums last s
StandsAt n start sums last (First first bound) s = IsKnown n sums last s × (last.sum ≤ bound)
StandsAt n start sums last (Compared won) s = IsKnown n sums last s

-- it stands for this state of the procedure
pub record Stands (start : Settings) (sums : Sums) (c : State) (s : PlainState) : Type 0 where
  pub incumbent : s.incumbent ≡ c.last.config
  pub compared : s.compared ≡ c.last.compared
  pub known : AreCostsKnown sums s
  pub invariant : IncumbentInvariant sums s
  pub phase : StandsAt c.max_runs start sums c.last c.phase s
