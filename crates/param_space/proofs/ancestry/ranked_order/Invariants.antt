use Rattle.std.proofs.Common.{◌≡◌}
use Rattle.param_space.proofs.RankedConditions.{ranked_pairs}
use Rattle.param_space.proofs.ancestry.ranked_order.Given as goal

-- the conditions so far stand with the ranks of their children
abbrev pub invariant-loop-i : goal.invariant-loop-i
invariant-loop-i l = l.ranked.items ≡ ranked_pairs l.ranks l.conditions l.i
