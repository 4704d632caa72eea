-- BasicILS on two places, worked: one parameter with the values a and b, whose only neighbours are each other.
use Rattle.std.specs.Prelude.{◌≡◌, [], ◌∷◌, refl}
use Rattle.objective.specs.Costs.{Table}
use Rattle.objective.specs.declared.Outcome.TheVariants.{Unsolved}
use Rattle.uncapped.specs.Totals.{total_cost, quiet}
use Rattle.uncapped.specs.Procedure.{Finished, Aborted}
use Rattle.uncapped.specs.Evaluation.{measure, evaluate, better_basic}
use Rattle.uncapped.specs.Searching.{search_after, try_random, improve, improve_among, search_on, perturb, compare}
use Rattle.uncapped.specs.Uncapped.{uncapped, Basic, procedure, opening_basic}
use Rattle.uncapped.specs.Examples.Tables.{ten_seconds, ten_seconds_tenfold, solution_after, abort_after, then_always, a, b, of_two, two_values, in_full, up_to, incumbent_of, addition_after}

-- a costs 3 and 4 seconds, b 2 and 9
abbrev pub other_is_worse : Table
other_is_worse = of_two (then_always (solution_after 3) (solution_after 4)) (then_always (solution_after 2) (solution_after 9))

-- with no comparison, the default alone is evaluated
pub no_comparison : uncapped Basic (two_values 2 0) (total_cost ten_seconds other_is_worse) ≡ record {
  end = Finished;
  asks = in_full a 2 ∷ [];
  entries = addition_after 1 (incumbent_of 0 2 7 a) ∷ [];
  last = incumbent_of 0 2 7 a;
}
unfolding uncapped procedure measure evaluate better_basic opening_basic search_after try_random improve improve_among search_on perturb compare
no_comparison = refl

-- b loses
pub neighbour_loses : uncapped Basic (two_values 2 1) (total_cost ten_seconds other_is_worse) ≡ record {
  end = Finished;
  asks = in_full a 2 ∷ in_full a 2 ∷ up_to 7 b 2 ∷ [];
  entries = addition_after 1 (incumbent_of 0 2 7 a) ∷ [];
  last = incumbent_of 1 2 7 a;
}
unfolding uncapped procedure measure evaluate better_basic opening_basic search_after try_random improve improve_among search_on perturb compare
neighbour_loses = refl

-- b loses, and after a random step to b the way back to a wins
pub way_back_wins : uncapped Basic (two_values 2 2) (total_cost ten_seconds other_is_worse) ≡ record {
  end = Finished;
  asks = in_full a 2 ∷ in_full a 2 ∷ up_to 7 b 2 ∷ in_full b 2 ∷ up_to 11 a 2 ∷ [];
  entries = addition_after 1 (incumbent_of 0 2 7 a) ∷ [];
  last = incumbent_of 2 2 7 a;
}
unfolding uncapped procedure measure evaluate better_basic opening_basic search_after try_random improve improve_among search_on perturb compare
way_back_wins = refl

-- a costs 3 and 4 seconds, b 2 and 5
abbrev pub other_ties : Table
other_ties = of_two (then_always (solution_after 3) (solution_after 4)) (then_always (solution_after 2) (solution_after 5))

-- the search moves to b on a tie, and back to a on another, but neither is a new incumbent
pub ties_move : uncapped Basic (two_values 2 2) (total_cost ten_seconds other_ties) ≡ record {
  end = Finished;
  asks = in_full a 2 ∷ in_full a 2 ∷ up_to 7 b 2 ∷ in_full b 2 ∷ up_to 7 a 2 ∷ [];
  entries = addition_after 1 (incumbent_of 0 2 7 a) ∷ [];
  last = incumbent_of 2 2 7 a;
}
unfolding uncapped procedure measure evaluate better_basic opening_basic search_after try_random improve improve_among search_on perturb compare
ties_move = refl

-- with no random step either, it is the tie that moves the search to b
pub ties_alone_move : uncapped Basic (record (two_values 2 2) { strength = 0 }) (total_cost ten_seconds other_ties) ≡ record {
  end = Finished;
  asks = in_full a 2 ∷ in_full a 2 ∷ up_to 7 b 2 ∷ in_full b 2 ∷ up_to 7 a 2 ∷ [];
  entries = addition_after 1 (incumbent_of 0 2 7 a) ∷ [];
  last = incumbent_of 2 2 7 a;
}
unfolding uncapped procedure measure evaluate better_basic opening_basic search_after try_random improve improve_among search_on perturb compare
ties_alone_move = refl

-- a costs 3 and 4 seconds, b 8 and 1
abbrev pub other_begins_badly : Table
other_begins_badly = of_two (then_always (solution_after 3) (solution_after 4)) (then_always (solution_after 8) (solution_after 1))

-- b loses at its first place already
pub first_place_loses : uncapped Basic (two_values 2 1) (total_cost ten_seconds other_begins_badly) ≡ record {
  end = Finished;
  asks = in_full a 2 ∷ in_full a 2 ∷ up_to 7 b 2 ∷ [];
  entries = addition_after 1 (incumbent_of 0 2 7 a) ∷ [];
  last = incumbent_of 1 2 7 a;
}
unfolding uncapped procedure measure evaluate better_basic opening_basic search_after try_random improve improve_among search_on perturb compare
first_place_loses = refl

-- no run takes any time
abbrev pub all_at_once : Table
all_at_once = of_two (then_always (solution_after 0) (solution_after 0)) (then_always (solution_after 0) (solution_after 0))

-- b is asked for up to a bound of nothing
pub nothing_ties : uncapped Basic (two_values 2 1) (total_cost ten_seconds all_at_once) ≡ record {
  end = Finished;
  asks = in_full a 2 ∷ in_full a 2 ∷ up_to 0 b 2 ∷ [];
  entries = addition_after 1 (incumbent_of 0 2 0 a) ∷ [];
  last = incumbent_of 1 2 0 a;
}
unfolding uncapped procedure measure evaluate better_basic opening_basic search_after try_random improve improve_among search_on perturb compare
nothing_ties = refl

-- a is unsolved and then costs 1 second, b costs 9 and is then unsolved
abbrev pub one_unsolved_each : Table
one_unsolved_each = of_two (then_always Unsolved (solution_after 1)) (then_always (solution_after 9) Unsolved)

-- with unsolved runs at 100 seconds, 109 seconds lose against 101
pub penalties_count : uncapped Basic (two_values 2 1) (total_cost ten_seconds_tenfold one_unsolved_each) ≡ record {
  end = Finished;
  asks = in_full a 2 ∷ in_full a 2 ∷ up_to 101 b 2 ∷ [];
  entries = addition_after 1 (incumbent_of 0 2 101 a) ∷ [];
  last = incumbent_of 1 2 101 a;
}
unfolding uncapped procedure measure evaluate better_basic opening_basic search_after try_random improve improve_among search_on perturb compare
penalties_count = refl

-- a costs 3 and 4 seconds, b 2 and 4
abbrev pub other_is_better : Table
other_is_better = of_two (then_always (solution_after 3) (solution_after 4)) (then_always (solution_after 2) (solution_after 4))

-- b is the next incumbent, and a loses against it
pub neighbour_wins : uncapped Basic (two_values 2 2) (total_cost ten_seconds other_is_better) ≡ record {
  end = Finished;
  asks = in_full a 2 ∷ in_full a 2 ∷ up_to 7 b 2 ∷ in_full b 2 ∷ up_to 6 a 2 ∷ [];
  entries = addition_after 1 (incumbent_of 0 2 7 a) ∷ addition_after 3 (incumbent_of 1 2 6 b) ∷ [];
  last = incumbent_of 2 2 6 b;
}
unfolding uncapped procedure measure evaluate better_basic opening_basic search_after try_random improve improve_among search_on perturb compare
neighbour_wins = refl

-- the random step goes from b to a, and b wins against that
pub steps_begin_at_the_best : uncapped Basic (two_values 2 3) (total_cost ten_seconds other_is_better) ≡ record {
  end = Finished;
  asks = in_full a 2 ∷ in_full a 2 ∷ up_to 7 b 2 ∷ in_full b 2 ∷ up_to 6 a 2 ∷ in_full a 2 ∷ up_to 7 b 2 ∷ [];
  entries = addition_after 1 (incumbent_of 0 2 7 a) ∷ addition_after 3 (incumbent_of 1 2 6 b) ∷ [];
  last = incumbent_of 3 2 6 b;
}
unfolding uncapped procedure measure evaluate better_basic opening_basic search_after try_random improve improve_among search_on perturb compare
steps_begin_at_the_best = refl

-- a costs 3 and 4 seconds, b aborts at place 1
abbrev pub other_aborts : Table
other_aborts = of_two (then_always (solution_after 3) (solution_after 4)) (then_always (abort_after 1) (solution_after 1))

-- the tuning ends at b
pub abort_ends : (uncapped Basic (two_values 2 1) (total_cost ten_seconds other_aborts)).end ≡ Aborted
unfolding uncapped procedure measure evaluate better_basic opening_basic search_after try_random improve improve_among search_on perturb compare
abort_ends = refl

-- with b as the last ask
pub abort_is_asked_for : (uncapped Basic (two_values 2 1) (total_cost ten_seconds other_aborts)).asks ≡ in_full a 2 ∷ in_full a 2 ∷ up_to 7 b 2 ∷ []
unfolding uncapped procedure measure evaluate better_basic opening_basic search_after try_random improve improve_among search_on perturb compare
abort_is_asked_for = refl

-- and with the entry of the default alone
pub abort_adds_nothing : (uncapped Basic (two_values 2 1) (total_cost ten_seconds other_aborts)).entries ≡ addition_after 1 (incumbent_of 0 2 7 a) ∷ []
unfolding uncapped procedure measure evaluate better_basic opening_basic search_after try_random improve improve_among search_on perturb compare
abort_adds_nothing = refl

-- as an unsolved run the abort costs 10 seconds, and b loses
pub quiet_abort_loses : uncapped Basic (two_values 2 1) (total_cost ten_seconds (quiet other_aborts)) ≡ record {
  end = Finished;
  asks = in_full a 2 ∷ in_full a 2 ∷ up_to 7 b 2 ∷ [];
  entries = addition_after 1 (incumbent_of 0 2 7 a) ∷ [];
  last = incumbent_of 1 2 7 a;
}
unfolding uncapped procedure measure evaluate better_basic opening_basic search_after try_random improve improve_among search_on perturb compare
quiet_abort_loses = refl
