-- What is drawn by the rules of a search is allowed.
use Rattle.std.proofs.Common.{ℕ, ◌<◌, List, [], ◌∷◌, length, IfSome, All, arith}
use Rattle.std.proofs.lemmas.List.Elements.{All-head, All-tail, All-get_or}
use Rattle.param_space.specs.Configurations.{IsConfig}
use Rattle.param_space.proofs.Soundness.{default_is_config}
use Rattle.neighbourhood.specs.Neighbours.{neighbours_of}
use Rattle.neighbourhood.proofs.Soundness.{neighbours_sound}
use Rattle.seeded_order.specs.Draws.{order_of, one_of}
use Rattle.seeded_order.proofs.Orders.{All-order_of}
use Rattle.seeded_order.proofs.RandomConfigs.{random_is_config}
use Rattle.uncapped.specs.Procedure.{Settings}
use Rattle.ils_face.specs.Rules.{Rules, AreRules}
use Rattle.ils_face.specs.Setups.{stream_of, configs_at, one_from, setup_of}
use Rattle.ils_frame.specs.AllowedPurposes.{AreAllowed}
use Rattle.ils_frame.specs.Laws.AllowedConfigs.{DrawsAllowed}

module _ (allowed : Settings → Type 0) where
  configs_at-allowed : (θs : List Settings) → All allowed θs → (numbers : List ℕ) → All (λ i. i < length θs) numbers → AreAllowed allowed (configs_at θs numbers)
  configs_at-allowed θs a [] h = tt
  configs_at-allowed θs a (i ∷ rest) h = (All-get_or allowed θs i [] (All-head (λ i. i < length θs) i rest h) a, configs_at-allowed θs a rest (All-tail (λ i. i < length θs) i rest h))

  one-allowed : (seed stream : ℕ) (θs : List Settings) → All allowed θs → IfSome (one_from seed stream θs) allowed
  one-allowed seed stream [] a = tt
  one-allowed seed stream (θ ∷ rest) a = All-get_or allowed (θ ∷ rest) (one_of seed stream (length (θ ∷ rest))) [] (omega arith) a

-- the draws of rules lead from allowed configurations to allowed ones
pub draws_allowed : (rules : Rules) → AreRules rules → DrawsAllowed (IsConfig rules.space) (setup_of rules)
unfolding setup_of
draws_allowed rules are = record {
  start = default_is_config rules.space are.space;
  around = λ e θ a. configs_at-allowed (IsConfig rules.space) (neighbours_of rules.space θ) (neighbours_sound rules.space are.space θ a.belongs)
      (order_of rules.seed (stream_of e) (length (neighbours_of rules.space θ))) (All-order_of rules.seed (stream_of e) (length (neighbours_of rules.space θ)));
  one = λ e θ a. one-allowed (IsConfig rules.space) rules.seed (stream_of e) (neighbours_of rules.space θ) (neighbours_sound rules.space are.space θ a.belongs);
  random = λ e. random_is_config rules.space are.space rules.seed (stream_of e);
}
