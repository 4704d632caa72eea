-- How a configuration holds its numbers. No public clause cites this module.
use Rattle.std.specs.Prelude.{ℕ, ◌≤◌, List, take}
use Rattle.param_space.specs.declared.config.Numbers.{Numbers}
use Rattle.param_space.specs.declared.config.Numbers.TheVariants.{Few, Many}

-- the numbers in order
abbrev pub numbers_of : Numbers → List ℕ
numbers_of (Few count places) = take count places
numbers_of (Many list) = list.items

-- no more are counted than there are places
abbrev pub AreCounted : Numbers → Type 0
AreCounted (Few count places) = count ≤ 15
AreCounted (Many list) = Unit {0}
