-- Verdicts on small asks.
use Rattle.std.specs.Prelude.{ℕ, ◌≡◌, refl, List, [], ◌∷◌}
use Rattle.objective.specs.Bounds.{Bounds}
use Rattle.objective.specs.declared.Factor.TheVariants.{One}
use Rattle.objective.specs.declared.Answer.TheVariants.{Timeout}
use Rattle.uncapped.specs.Examples.Tables.{seconds, ten_seconds, ten_seconds_tenfold}
use Rattle.ils_face.specs.declared.asks.Ask.{Ask}
use Rattle.ils_face.specs.declared.asks.Ask.TheVariants.{Full, Versus, End}
use Rattle.ils_face.specs.declared.asks.Reply.TheVariants as reply
use Rattle.run_cache.specs.declared.cell.Cell.{Cell}
use Rattle.run_cache.specs.declared.known.Known.{Known}
use Rattle.run_cache.specs.declared.known.Known.TheVariants.{Over, Exact, Abort}
use Rattle.run_cache.specs.Caches.{Knowledge, known_at}
use Rattle.capping.specs.declared.verdicts.Verdict.{Verdict}
use Rattle.capping.specs.declared.verdicts.Verdict.TheVariants.{Reply, Need, Aborted, Ended}
use Rattle.capping.specs.Verdicts.{verdict_of}
use Rattle.capping.specs.Decisions.{after_run}

-- ---- what is known, asks and verdicts

-- this is known of the first places
abbrev known_first : List Known → Knowledge
known_first row config place = known_at row place

-- a cost of so many seconds
abbrev cost : ℕ → Known
cost n = Exact (record { 0 = seconds n })

-- a timeout under so many seconds
abbrev timeout : ℕ → Known
timeout n = Over (record { 0 = seconds n })

-- the configuration at place 2
abbrev second_place : Cell
second_place = record { config = 1 ∷ []; place = 2 }

-- all costs on two places
abbrev in_full : Ask
in_full = Full (1 ∷ []) 2

-- the costs on two places, up to so many seconds
abbrev up_to : ℕ → Ask
up_to n = Versus (1 ∷ []) 2 (record { 0 = seconds n })

-- this total cost is replied, in seconds
abbrev replies : ℕ → Verdict
replies n = Reply (reply.Exact (record { 0 = seconds n }))

-- it is replied that the bound is exceeded
abbrev exceeds : Verdict
exceeds = Reply reply.Exceeds

-- a run is needed at this place, with so many seconds
abbrev needs : ℕ → ℕ → Verdict
needs place n = Need place (record { 0 = seconds n })

-- a cutoff of ten seconds that isn't shortened below three
abbrev at_least_three : Bounds
at_least_three = record { cutoff = seconds 10; factor = One; floor = seconds 3 }

-- ---- runs that are needed

-- the first run may take as long as the bound
pub first_run : verdict_of ten_seconds (known_first []) (up_to 7) ≡ needs 1 7
first_run = refl

-- what was spent is taken off
pub second_run : verdict_of ten_seconds (known_first (cost 2 ∷ [])) (up_to 7) ≡ needs 2 5
second_run = refl

-- no run gets more than the full cutoff
pub far_bound : verdict_of ten_seconds (known_first (cost 2 ∷ [])) (up_to 30) ≡ needs 2 10
far_bound = refl

-- where nothing is left of the bound, a run still gets the floor
pub nothing_left : verdict_of at_least_three (known_first (cost 7 ∷ [])) (up_to 7) ≡ needs 2 3
nothing_left = refl

-- without a bound a run gets the full cutoff
pub second_run_in_full : verdict_of ten_seconds (known_first (cost 2 ∷ [])) in_full ≡ needs 2 10
second_run_in_full = refl

-- ---- ties

-- a tie is never cut
pub tie : verdict_of ten_seconds (known_first (cost 2 ∷ cost 5 ∷ [])) (up_to 7) ≡ replies 7
tie = refl

-- also where nothing was left for the last run
pub tie_with_nothing_left : verdict_of ten_seconds (known_first (cost 7 ∷ cost 0 ∷ [])) (up_to 7) ≡ replies 7
tie_with_nothing_left = refl

-- more than the bound
pub no_tie : verdict_of ten_seconds (known_first (cost 2 ∷ cost 6 ∷ [])) (up_to 7) ≡ exceeds
no_tie = refl

-- ---- timeouts

-- a run that took longer than what was left decides
pub long_enough : verdict_of ten_seconds (known_first (cost 2 ∷ timeout 5 ∷ [])) (up_to 7) ≡ exceeds
long_enough = refl

-- one that was given less time doesn't
pub too_short : verdict_of ten_seconds (known_first (cost 2 ∷ timeout 4 ∷ [])) (up_to 7) ≡ needs 2 5
too_short = refl

-- nor does any without a bound
pub too_short_in_full : verdict_of ten_seconds (known_first (cost 2 ∷ timeout 9 ∷ [])) in_full ≡ needs 2 10
too_short_in_full = refl

-- once the run that is needed has timed out, the ask is decided
pub after_timeout : verdict_of ten_seconds (after_run ten_seconds (known_first (cost 2 ∷ [])) second_place (seconds 5) Timeout) (up_to 7)
    ≡ exceeds
after_timeout = refl

-- also under the floor, with nothing left
pub after_floor : verdict_of at_least_three (after_run at_least_three (known_first (cost 7 ∷ [])) second_place (seconds 3) Timeout) (up_to 7)
    ≡ exceeds
after_floor = refl

-- under the full cutoff the run costs the penalty
pub after_penalty : verdict_of ten_seconds_tenfold (after_run ten_seconds_tenfold (known_first (cost 2 ∷ [])) second_place (seconds 10) Timeout) in_full
    ≡ replies 102
after_penalty = refl

-- ---- penalties

-- a run without a solution is past the bound
pub penalty_past : verdict_of ten_seconds_tenfold (known_first (cost 100 ∷ [])) (up_to 99) ≡ exceeds
penalty_past = refl

-- it ties with another one
pub penalty_tie : verdict_of ten_seconds_tenfold (known_first (cost 100 ∷ cost 0 ∷ [])) (up_to 100) ≡ replies 100
penalty_tie = refl

-- ---- aborts

-- a run that asked for the end of the tuning ends it where the ask comes to its place
pub abort_in_reach : verdict_of ten_seconds (known_first (cost 7 ∷ Abort ∷ [])) (up_to 7) ≡ Aborted 2
abort_in_reach = refl

-- the ask was decided before
pub abort_out_of_reach : verdict_of ten_seconds (known_first (cost 8 ∷ Abort ∷ [])) (up_to 7) ≡ exceeds
abort_out_of_reach = refl

-- also by a timeout
pub abort_after_timeout : verdict_of ten_seconds (known_first (timeout 7 ∷ Abort ∷ [])) (up_to 7) ≡ exceeds
abort_after_timeout = refl

-- ---- asks for nothing

-- no place
pub no_place : verdict_of ten_seconds (known_first []) (Versus (1 ∷ []) 0 (record { 0 = 0 })) ≡ replies 0
no_place = refl

-- the search has ended
pub no_ask : verdict_of ten_seconds (known_first []) End ≡ Ended
no_ask = refl
