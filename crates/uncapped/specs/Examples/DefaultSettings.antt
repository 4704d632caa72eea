-- The default settings on two places that cost 3 and 4 seconds, worked.
use Rattle.std.specs.Prelude.{◌≡◌, [], ◌∷◌, None, refl}
use Rattle.objective.specs.Costs.{Table}
use Rattle.uncapped.specs.Totals.{total_cost}
use Rattle.uncapped.specs.Procedure.{Finished, Aborted}
use Rattle.uncapped.specs.Evaluation.{measure}
use Rattle.uncapped.specs.Searching.{search_after, try_random, improve, improve_among, search_on, perturb, compare}
use Rattle.uncapped.specs.Uncapped.{uncapped, Basic, procedure, opening_basic}
use Rattle.uncapped.specs.Examples.Tables.{ten_seconds, solution_after, abort_after, always, then_always, one_value}

-- the default costs 3 and 4 seconds
abbrev pub three_and_four : Table
three_and_four θ = then_always (solution_after 3) (solution_after 4)

-- one entry after one ask, and the same last line
pub default_settings : uncapped Basic (one_value 2 0) (total_cost ten_seconds three_and_four) ≡ record {
  end = Finished;
  asks = record { config = 0 ∷ []; places = 2; bound = None } ∷ [];
  entries = record { asks_before = 1; entry = record { compared = 0; runs = 2; sum = 7000000; config = 0 ∷ [] } } ∷ [];
  last = record { compared = 0; runs = 2; sum = 7000000; config = 0 ∷ [] };
}
unfolding uncapped procedure measure opening_basic search_after try_random improve improve_among search_on perturb compare
default_settings = refl

abbrev pub abort_everywhere : Table
abort_everywhere θ = always (abort_after 1)

-- an abort ends the procedure before its first entry
pub default_aborts : (uncapped Basic (one_value 2 0) (total_cost ten_seconds abort_everywhere)).end ≡ Aborted
unfolding uncapped procedure measure opening_basic search_after
default_aborts = refl

-- and so it finds nothing
pub default_aborts_bare : (uncapped Basic (one_value 2 0) (total_cost ten_seconds abort_everywhere)).entries ≡ []
unfolding uncapped procedure measure opening_basic search_after
default_aborts_bare = refl
