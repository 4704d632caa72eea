use Rattle.std.proofs.Common.{◌≡◌, false, take, bytes_eq}
use Rattle.std.specs.List.{list_any}
use Rattle.param_space.proofs.rules.has_name.Given as goal

-- none of the parameters so far has this name
abbrev pub invariant-loop-param : goal.invariant-loop-param
invariant-loop-param l = list_any (λ p. bytes_eq l.name p.name) (take l.param-index l.params) ≡ false
