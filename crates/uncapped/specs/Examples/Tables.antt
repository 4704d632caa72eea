-- Small tables and setups for worked rows.
use Rattle.std.specs.Prelude.{ℕ, zero, suc, ◌*◌, false, List, [], ◌∷◌, Option, Some, None}
use Rattle.objective.specs.Bounds.{Bounds}
use Rattle.objective.specs.Costs.{Table}
use Rattle.objective.specs.declared.Factor.TheVariants.{One, Ten}
use Rattle.objective.specs.declared.Outcome.{Outcome}
use Rattle.objective.specs.declared.Outcome.TheVariants.{Solved, Abort}
use Rattle.uncapped.specs.Procedure.{Settings, Question, Incumbent, Addition}
use Rattle.uncapped.specs.Setup.{Setup}

-- so many seconds, in microseconds
abbrev pub seconds : ℕ → ℕ
seconds n = n * 1000000

abbrev pub ten_seconds : Bounds
ten_seconds = record { cutoff = 10000000; factor = One; floor = 1 }

-- ten seconds, and a run without a solution costs a hundred
abbrev pub ten_seconds_tenfold : Bounds
ten_seconds_tenfold = record { cutoff = 10000000; factor = Ten; floor = 1 }

-- a run that is solved after so many seconds
abbrev pub solution_after : ℕ → Outcome
solution_after n = Solved (record { 0 = seconds n })

-- a run that asks for the end of the tuning after so many seconds
abbrev pub abort_after : ℕ → Outcome
abort_after n = Abort (record { 0 = seconds n })

-- this outcome at each place
abbrev pub always : Outcome → ℕ → Outcome
always o place = o

-- one outcome at place 1 and another at each further place
abbrev pub then_always : Outcome → Outcome → ℕ → Outcome
then_always o p zero = o
then_always o p (suc zero) = o
then_always o p (suc (suc place)) = p

-- the configurations of one parameter with two values
abbrev pub a : Settings
a = 0 ∷ []

abbrev pub b : Settings
b = 1 ∷ []

-- the outcomes of the one value and of the other, by their places
abbrev pub of_two : (ℕ → Outcome) → (ℕ → Outcome) → Table
of_two first second [] = first
of_two first second (zero ∷ rest) = first
of_two first second (suc value ∷ rest) = second

-- the configuration with the other value
abbrev pub the_other : Settings → List Settings
the_other [] = []
the_other (zero ∷ rest) = b ∷ []
the_other (suc value ∷ rest) = a ∷ []

-- the first of a list, where there is one
abbrev pub the_first : List Settings → Option Settings
the_first [] = None
the_first (θ ∷ rest) = Some θ

-- one parameter with two values, so many places and comparisons, and no restart
abbrev pub two_values : ℕ → ℕ → Setup
two_values places comparisons = record {
  start = a;
  max_runs = places;
  budget = comparisons;
  initial = 0;
  strength = 1;
  neighbours = the_other;
  in_order = λ e θs. θs;
  one_of = λ e θs. the_first θs;
  random = λ e. a;
  coin = λ e. false;
}

-- one parameter with one value
abbrev pub one_value : ℕ → ℕ → Setup
one_value places comparisons = record (two_values places comparisons) { neighbours = λ θ. [] }

-- a total cost is asked for, whatever it comes to
abbrev pub in_full : Settings → ℕ → Question
in_full θ n = record { config = θ; places = n; bound = None }

-- a total cost is asked for, up to so many seconds
abbrev pub up_to : ℕ → Settings → ℕ → Question
up_to most θ n = record { config = θ; places = n; bound = Some (seconds most) }

-- an incumbent that is found in a comparison and costs so many seconds over so many runs
abbrev pub incumbent_of : ℕ → ℕ → ℕ → Settings → Incumbent
incumbent_of compared runs sum θ = record { compared = compared; runs = runs; sum = seconds sum; config = θ }

-- an incumbent that is added after so many asks
abbrev pub addition_after : ℕ → Incumbent → Addition
addition_after asks incumbent = record { asks_before = asks; entry = incumbent }
