use Rattle.std.proofs.Common.{◌≡◌, ◌++◌, ◌-◌, ◌≤◌, length, map, drop}
use Rattle.std.specs.Option.{option_map}
use Rattle.param_files.specs.Grammar.{value_list}
use Rattle.param_files.proofs.forms.value_list.Given as goal

-- the values so far, and then those of the tokens that are left
abbrev pub invariant-loop-taken : goal.invariant-loop-taken
invariant-loop-taken l =
    (l.taken ≤ length l.tokens)
    × (value_list (map (λ t. t.now) l.tokens) ≡ option_map (λ more. (l.values.items ++ more.0, more.1)) (value_list (drop l.taken (map (λ t. t.now) l.tokens))))

abbrev pub decreases-loop-taken : goal.decreases-loop-taken
decreases-loop-taken l = length l.tokens - l.taken
