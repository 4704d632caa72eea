-- The search over BasicILS on one place, worked: lists of neighbours, and the events of draws.
use Rattle.std.specs.Prelude.{ℕ, zero, suc, ◌≡◌, ◌==◌, List, [], ◌∷◌, Some, None, true, refl}
use Rattle.objective.specs.Costs.{Table}
use Rattle.objective.specs.declared.Outcome.{Outcome}
use Rattle.objective.specs.declared.Outcome.TheVariants.{Unsolved}
use Rattle.uncapped.specs.Totals.{total_cost}
use Rattle.uncapped.specs.Procedure.{Settings, Finished}
use Rattle.uncapped.specs.Setup.{Setup}
use Rattle.uncapped.specs.Evaluation.{measure, evaluate, better_basic}
use Rattle.uncapped.specs.Searching.{search_after, try_random, improve, improve_among, search_on, perturb, compare}
use Rattle.uncapped.specs.Uncapped.{uncapped, Basic, procedure, opening_basic}
use Rattle.uncapped.specs.Examples.Tables.{ten_seconds, solution_after, two_values, in_full, up_to, incumbent_of, addition_after}

-- the configuration of one parameter with this value
abbrev pub at : ℕ → Settings
at value = value ∷ []

-- the numbers in order, each the seconds of a value, and unsolved beyond
abbrev pub outcome_of_value : List ℕ → ℕ → Outcome
outcome_of_value [] value = Unsolved
outcome_of_value (cost ∷ costs) zero = solution_after cost
outcome_of_value (cost ∷ costs) (suc value) = outcome_of_value costs value

-- the outcomes of the values 0, 1 and so on, at each place
abbrev pub by_value : List ℕ → Table
by_value costs [] place = Unsolved
by_value costs (value ∷ rest) place = outcome_of_value costs value

-- of the values 0, 1 and 2, the two others
abbrev pub two_others : Settings → List Settings
two_others [] = []
two_others (zero ∷ rest) = at 1 ∷ at 2 ∷ []
two_others (suc zero ∷ rest) = at 0 ∷ at 2 ∷ []
two_others (suc (suc value) ∷ rest) = at 0 ∷ at 1 ∷ []

-- three values
abbrev pub three_values : ℕ → Setup
three_values comparisons = record (two_values 1 comparisons) { neighbours = two_others }

-- 1 loses against 0, and 2 wins, so the list begins again at 2: there 0 and 1 lose; a random step to 0, and so on
pub lists_are_gone_through : uncapped Basic (three_values 6) (total_cost ten_seconds (by_value (5 ∷ 6 ∷ 4 ∷ []))) ≡ record {
  end = Finished;
  asks =
      in_full (at 0) 1
      ∷ in_full (at 0) 1
      ∷ up_to 5 (at 1) 1
      ∷ in_full (at 0) 1
      ∷ up_to 5 (at 2) 1
      ∷ in_full (at 2) 1
      ∷ up_to 4 (at 0) 1
      ∷ in_full (at 2) 1
      ∷ up_to 4 (at 1) 1
      ∷ in_full (at 0) 1
      ∷ up_to 5 (at 1) 1
      ∷ in_full (at 0) 1
      ∷ up_to 5 (at 2) 1
      ∷ [];
  entries = addition_after 1 (incumbent_of 0 1 5 (at 0)) ∷ addition_after 5 (incumbent_of 2 1 4 (at 2)) ∷ [];
  last = incumbent_of 6 1 4 (at 2);
}
unfolding uncapped procedure measure evaluate better_basic opening_basic search_after try_random improve improve_among search_on perturb compare
lists_are_gone_through = refl

-- each draw answers its event's number: as the only neighbour, as a random step and as a random configuration; the
-- coin of event 12 alone is a restart
abbrev pub numbers_as_draws : Setup
numbers_as_draws = record {
  start = at 9;
  max_runs = 1;
  budget = 13;
  initial = 2;
  strength = 2;
  neighbours = λ θ. [];
  in_order = λ e θs. at e ∷ [];
  one_of = λ e θs. Some (at e);
  random = λ e. at e;
  coin = λ e. e == 12;
}

-- the seconds of the values 0 to 20
abbrev pub twenty_one : List ℕ
twenty_one = 7 ∷ 4 ∷ 6 ∷ 9 ∷ 8 ∷ 6 ∷ 9 ∷ 9 ∷ 9 ∷ 5 ∷ 3 ∷ 8 ∷ 9 ∷ 9 ∷ 9 ∷ 8 ∷ 10 ∷ 9 ∷ 9 ∷ 9 ∷ 10 ∷ []

-- events 0 and 1 draw at first; 2 orders; 3 and 4 step, 5 and 6 order, 7 is a coin; 8 and 9 step, 10 and 11 order, 12
-- is the coin of the restart, at 13; 14 and 15 step, 16 orders, 17 is a coin; 18 and 19 step, 20 orders, 21 is a coin
pub events_number_draws : uncapped Basic numbers_as_draws (total_cost ten_seconds (by_value twenty_one)) ≡ record {
  end = Finished;
  asks =
      in_full (at 9) 1
      ∷ in_full (at 9) 1
      ∷ up_to 5 (at 0) 1
      ∷ in_full (at 9) 1
      ∷ up_to 5 (at 1) 1
      ∷ in_full (at 1) 1
      ∷ up_to 4 (at 2) 1
      ∷ in_full (at 4) 1
      ∷ up_to 8 (at 5) 1
      ∷ in_full (at 5) 1
      ∷ up_to 6 (at 6) 1
      ∷ in_full (at 1) 1
      ∷ up_to 4 (at 5) 1
      ∷ in_full (at 9) 1
      ∷ up_to 5 (at 10) 1
      ∷ in_full (at 10) 1
      ∷ up_to 3 (at 11) 1
      ∷ in_full (at 1) 1
      ∷ up_to 4 (at 10) 1
      ∷ in_full (at 15) 1
      ∷ up_to 8 (at 16) 1
      ∷ in_full (at 13) 1
      ∷ up_to 9 (at 15) 1
      ∷ in_full (at 19) 1
      ∷ up_to 9 (at 20) 1
      ∷ in_full (at 15) 1
      ∷ up_to 8 (at 19) 1
      ∷ [];
  entries = addition_after 1 (incumbent_of 0 1 5 (at 9)) ∷ addition_after 5 (incumbent_of 2 1 4 (at 1)) ∷ addition_after 15 (incumbent_of 7 1 3 (at 10)) ∷ [];
  last = incumbent_of 13 1 3 (at 10);
}
unfolding uncapped procedure measure evaluate better_basic opening_basic search_after try_random improve improve_among search_on perturb compare
events_number_draws = refl

-- with no neighbours; each coin is a restart, at its event's number
abbrev pub nowhere_to_go : Setup
nowhere_to_go = record numbers_as_draws {
  budget = 3;
  initial = 0;
  strength = 1;
  in_order = λ e θs. θs;
  one_of = λ e θs. None;
  coin = λ e. true;
}

-- event 0 orders an empty list; 1 steps nowhere, 2 orders, 3 is a coin, and 4 draws; 5, 6 and 7 are the like, and 8
-- draws
pub empty_lists_take_events : uncapped Basic nowhere_to_go (total_cost ten_seconds (by_value twenty_one)) ≡ record {
  end = Finished;
  asks =
      in_full (at 9) 1
      ∷ in_full (at 9) 1
      ∷ up_to 5 (at 9) 1
      ∷ in_full (at 4) 1
      ∷ up_to 8 (at 4) 1
      ∷ in_full (at 8) 1
      ∷ up_to 9 (at 8) 1
      ∷ [];
  entries = addition_after 1 (incumbent_of 0 1 5 (at 9)) ∷ [];
  last = incumbent_of 3 1 5 (at 9);
}
unfolding uncapped procedure measure evaluate better_basic opening_basic search_after try_random improve improve_among search_on perturb compare
empty_lists_take_events = refl
