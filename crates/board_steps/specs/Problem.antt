-- A problem as plain data: the rules of its search, and its pairs.
use Rattle.instance_pairs.specs.Pairs.{Plan}
use Rattle.ils_face.specs.Rules.{Rules}

pub record Problem : Type 0 where
  pub rules : Rules  -- of the search
  pub pairs : Plan  -- that configurations are run on
