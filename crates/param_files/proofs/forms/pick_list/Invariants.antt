use Rattle.std.proofs.Common.{◌≡◌, ◌++◌, ◌-◌, ◌≤◌, length, map, drop}
use Rattle.std.specs.Option.{option_map}
use Rattle.param_files.specs.Grammar.{pick_list}
use Rattle.param_files.proofs.forms.pick_list.Given as goal

-- the picks so far, and then those of the tokens that are left
abbrev pub invariant-loop-taken : goal.invariant-loop-taken
invariant-loop-taken l =
    (l.taken ≤ length l.tokens)
    × (pick_list (map (λ t. t.now) l.tokens) ≡ option_map (λ more. (l.picks.items ++ more.0, more.1)) (pick_list (drop l.taken (map (λ t. t.now) l.tokens))))

abbrev pub decreases-loop-taken : goal.decreases-loop-taken
decreases-loop-taken l = length l.tokens - l.taken
