-- Sums of the costs that are known exactly.
use Rattle.std.specs.Prelude.{ℕ, zero, suc, Option, Some, None}
use Rattle.uncapped.specs.Totals.{plus}
use Rattle.run_cache.specs.declared.known.Known.{Known}
use Rattle.run_cache.specs.declared.known.Known.TheVariants.{Nothing, Over, Exact, Abort}

-- the cost that is known exactly
abbrev pub exact_cost : Known → Option ℕ
exact_cost Nothing = None
exact_cost (Over time) = None
exact_cost (Exact cost) = Some cost.0
exact_cost Abort = None

-- the sum of the costs at the places 1 to n, where each is known exactly
abbrev pub exact_sum : (ℕ → Known) → ℕ → Option ℕ
exact_sum known zero = Some 0
exact_sum known (suc n) = plus (exact_sum known n) (exact_cost (known (suc n)))
