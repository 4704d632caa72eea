-- The uncapped procedure: every evaluation is made in full, one run after another
-- (ParamILS framework, Hutter et al., JAIR 36).
use Rattle.std.specs.Prelude.{ℕ, List, [], Option, Some, None}
use Rattle.uncapped.specs.Procedure.{Sums, Question, Incumbent, Addition, PlainState, End, Finished, Step, Goes, Ends, Procedure, ◌>>=◌, becomes}
use Rattle.uncapped.specs.Setup.{Setup}
use Rattle.uncapped.specs.Evaluation.{measure, after_entry, better_basic, better_focused}
use Rattle.uncapped.specs.Searching.{search_after}

-- how configurations are compared
pub data Approach : Type 0 where
  Basic : Approach
  Focused : Approach

-- BasicILS evaluates the default first, and it is the first incumbent
unfoldable pub opening_basic : Setup → Sums → Procedure (Unit {0})
opening_basic setup sums = do
  x ← measure sums setup.start setup.max_runs None
  becomes (after_entry setup.start setup.max_runs x)

-- FocusedILS begins with the default, without a run
unfoldable pub opening_focused : Setup → Procedure (Unit {0})
opening_focused setup = becomes (after_entry setup.start 0 0)

-- the procedure of an approach
unfoldable pub procedure : Approach → Setup → Sums → Procedure (Unit {0})
procedure Basic setup sums = search_after setup (better_basic setup sums) (opening_basic setup sums)
procedure Focused setup sums = search_after setup (better_focused setup sums) (opening_focused setup)

-- the state before anything is asked
abbrev pub at_first : Setup → PlainState
at_first setup = record {
  counts = λ _. 0;
  incumbent = setup.start;
  bonus = 0;
  compared = 0;
  event = 0;
  asks = [];
  entries = [];
}

-- what a procedure comes to
pub record Run : Type 0 where
  pub end : End
  pub asks : List Question
  pub entries : List Addition
  pub last : Incumbent

-- the number, or 0 where there is none
abbrev pub or_nothing : Option ℕ → ℕ
or_nothing (Some x) = x
or_nothing None = 0

-- the incumbent of a state, with the total cost of its runs
abbrev pub last_of : Sums → PlainState → Incumbent
last_of sums s = record {
  compared = s.compared;
  runs = s.counts s.incumbent;
  sum = or_nothing (sums s.incumbent (s.counts s.incumbent));
  config = s.incumbent;
}

-- the run that ends so in a state
abbrev pub run_of : Sums → PlainState → End → Run
run_of sums s e = record { end = e; asks = s.asks; entries = s.entries; last = last_of sums s }

-- the run that a step comes to
abbrev pub run_after : {A : Type 0} → Sums → Step A → Run
run_after sums (Goes s _) = run_of sums s Finished
run_after sums (Ends s e) = run_of sums s e

-- the run of an approach over these sums
unfoldable pub uncapped : Approach → Setup → Sums → Run
uncapped approach setup sums = run_after sums (procedure approach setup sums (at_first setup))
