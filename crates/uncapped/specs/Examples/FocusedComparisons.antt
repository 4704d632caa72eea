-- FocusedILS on at most ten places, worked: one parameter with the values a and b, whose only neighbours are each
-- other, or with one value.
use Rattle.std.specs.Prelude.{ℕ, zero, suc, ◌≡◌, List, [], ◌∷◌, ◌++◌, refl}
use Rattle.objective.specs.Costs.{Table}
use Rattle.uncapped.specs.Totals.{total_cost}
use Rattle.uncapped.specs.Procedure.{Question, Finished}
use Rattle.uncapped.specs.Evaluation.{measure, evaluate, better_focused, catch_up}
use Rattle.uncapped.specs.Searching.{search_after, try_random, improve, improve_among, search_on, perturb, compare}
use Rattle.uncapped.specs.Uncapped.{uncapped, Focused, procedure, opening_focused}
use Rattle.uncapped.specs.Examples.Tables.{ten_seconds, solution_after, always, then_always, a, b, of_two, two_values, one_value, in_full, up_to, incumbent_of, addition_after}

-- each run of a costs 1 second, each of b 2
abbrev pub one_against_two : Table
one_against_two = of_two (always (solution_after 1)) (always (solution_after 2))

-- b loses on one place; after a random step to b, a wins on two and gets four more as a bonus; b loses again on three
pub three_comparisons : uncapped Focused (two_values 10 3) (total_cost ten_seconds one_against_two) ≡ record {
  end = Finished;
  asks =
      in_full a 1
      ∷ up_to 1 b 1
      ∷ in_full a 2
      ∷ in_full b 2
      ∷ up_to 4 a 2
      ∷ in_full a 6
      ∷ in_full a 3
      ∷ up_to 3 b 3
      ∷ [];
  entries = addition_after 0 (incumbent_of 0 0 0 a) ∷ [];
  last = incumbent_of 3 6 6 a;
}
unfolding uncapped procedure measure evaluate better_focused catch_up opening_focused search_after try_random improve improve_among search_on perturb compare
three_comparisons = refl

-- then a is compared with itself and comes to all ten places, and b loses on four
pub five_comparisons : uncapped Focused (two_values 10 5) (total_cost ten_seconds one_against_two) ≡ record {
  end = Finished;
  asks =
      in_full a 1
      ∷ up_to 1 b 1
      ∷ in_full a 2
      ∷ in_full b 2
      ∷ up_to 4 a 2
      ∷ in_full a 6
      ∷ in_full a 3
      ∷ up_to 3 b 3
      ∷ in_full a 7
      ∷ up_to 7 a 7
      ∷ in_full a 10
      ∷ in_full a 4
      ∷ up_to 4 b 4
      ∷ in_full a 10
      ∷ [];
  entries = addition_after 0 (incumbent_of 0 0 0 a) ∷ [];
  last = incumbent_of 5 10 10 a;
}
unfolding uncapped procedure measure evaluate better_focused catch_up opening_focused search_after try_random improve improve_among search_on perturb compare
five_comparisons = refl

-- each run of a costs 3 seconds, each of b 2
abbrev pub three_against_two : Table
three_against_two = of_two (always (solution_after 3)) (always (solution_after 2))

-- b is the incumbent after one place, and gets two more as a bonus
pub neighbour_leads : uncapped Focused (two_values 10 1) (total_cost ten_seconds three_against_two) ≡ record {
  end = Finished;
  asks = in_full a 1 ∷ up_to 3 b 1 ∷ in_full b 3 ∷ [];
  entries = addition_after 0 (incumbent_of 0 0 0 a) ∷ addition_after 2 (incumbent_of 1 1 2 b) ∷ [];
  last = incumbent_of 1 3 6 b;
}
unfolding uncapped procedure measure evaluate better_focused catch_up opening_focused search_after try_random improve improve_among search_on perturb compare
neighbour_leads = refl

-- each run of a costs 3 seconds; of b the run at place 1 costs 6, and each other one 1
abbrev pub bad_beginning : Table
bad_beginning = of_two (always (solution_after 3)) (then_always (solution_after 6) (solution_after 1))

-- a has six runs; b costs less on three already, but is the incumbent only once it has six runs as well
pub catching_up : uncapped Focused (two_values 10 3) (total_cost ten_seconds bad_beginning) ≡ record {
  end = Finished;
  asks =
      in_full a 1
      ∷ up_to 3 b 1
      ∷ in_full a 2
      ∷ in_full b 2
      ∷ up_to 7 a 2
      ∷ in_full a 6
      ∷ in_full a 3
      ∷ up_to 9 b 3
      ∷ in_full a 4
      ∷ up_to 12 b 4
      ∷ in_full a 5
      ∷ up_to 15 b 5
      ∷ in_full a 6
      ∷ up_to 18 b 6
      ∷ in_full b 7
      ∷ [];
  entries = addition_after 0 (incumbent_of 0 0 0 a) ∷ addition_after 14 (incumbent_of 3 6 11 b) ∷ [];
  last = incumbent_of 3 7 12 b;
}
unfolding uncapped procedure measure evaluate better_focused catch_up opening_focused search_after try_random improve improve_among search_on perturb compare
catching_up = refl

-- each run costs 1 second
abbrev pub one_each : Table
one_each θ = always (solution_after 1)

-- with no neighbour, the default is compared with itself, and gets two more places as a bonus
pub alone_once : uncapped Focused (one_value 10 1) (total_cost ten_seconds one_each) ≡ record {
  end = Finished;
  asks = in_full a 1 ∷ up_to 1 a 1 ∷ in_full a 3 ∷ [];
  entries = addition_after 0 (incumbent_of 0 0 0 a) ∷ [];
  last = incumbent_of 1 3 3 a;
}
unfolding uncapped procedure measure evaluate better_focused catch_up opening_focused search_after try_random improve improve_among search_on perturb compare
alone_once = refl

-- a second comparison begins with no bonus left over, and has two again
pub alone_twice : uncapped Focused (one_value 10 2) (total_cost ten_seconds one_each) ≡ record {
  end = Finished;
  asks = in_full a 1 ∷ up_to 1 a 1 ∷ in_full a 3 ∷ in_full a 4 ∷ up_to 4 a 4 ∷ in_full a 6 ∷ [];
  entries = addition_after 0 (incumbent_of 0 0 0 a) ∷ [];
  last = incumbent_of 2 6 6 a;
}
unfolding uncapped procedure measure evaluate better_focused catch_up opening_focused search_after try_random improve improve_among search_on perturb compare
alone_twice = refl

-- the run at place 1 costs 1 second, that at place 2 costs 2
abbrev pub one_and_two : Table
one_and_two θ = then_always (solution_after 1) (solution_after 2)

-- a comparison of the default with itself where all places are known
abbrev pub known_again : List Question
known_again = in_full a 2 ∷ up_to 3 a 2 ∷ in_full a 2 ∷ []

-- so many of those, one after another
abbrev pub known_again_times : ℕ → List Question
known_again_times zero = []
known_again_times (suc n) = known_again ++ known_again_times n

-- after the first comparison, nineteen more find nothing new
pub alone_often : uncapped Focused (one_value 2 20) (total_cost ten_seconds one_and_two) ≡ record {
  end = Finished;
  asks = (in_full a 1 ∷ up_to 1 a 1 ∷ in_full a 2 ∷ []) ++ known_again_times 19;
  entries = addition_after 0 (incumbent_of 0 0 0 a) ∷ [];
  last = incumbent_of 20 2 3 a;
}
unfolding uncapped procedure measure evaluate better_focused catch_up opening_focused search_after try_random improve improve_among search_on perturb compare
alone_often = refl
