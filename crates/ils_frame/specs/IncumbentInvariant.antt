-- The incumbent invariant: of all configurations the incumbent has the most runs, none with as many costs less over
-- them, and the incumbent's cost was replied.
use Rattle.std.specs.Prelude.{ℕ, ◌≡◌, ◌≤◌, true, List, IsSomeAnd}
use Rattle.std.specs.List.{Contains}
use Rattle.uncapped.specs.Procedure.{Settings, Sums, Question, PlainState}
use Rattle.uncapped.specs.Evaluation.{is_at_most}
use Rattle.ils_face.specs.declared.asks.Reply.TheVariants.{Exact}
use Rattle.ils_face.specs.Replies.{reply_to}

-- one of these questions is of the configuration on so many places, and is replied to with its total cost
pub record IsCostReplied (sums : Sums) (asks : List Question) (θ : Settings) (n : ℕ) : Type 0 where
  pub question : Question
  pub asked : Contains asks question
  pub config : question.config ≡ θ
  pub places : question.places ≡ n
  pub exact : IsSomeAnd (sums θ n) (λ x. reply_to sums question ≡ Exact (record { 0 = x }))

-- at a state of the procedure over these total costs
pub record IncumbentInvariant (sums : Sums) (s : PlainState) : Type 0 where
  -- no configuration has more runs than the incumbent
  pub most_runs : (φ : Settings) → s.counts φ ≤ s.counts s.incumbent
  -- a configuration with as many runs costs at least as much over them
  pub least_cost : (φ : Settings) → s.counts φ ≡ s.counts s.incumbent
      → is_at_most (sums s.incumbent (s.counts s.incumbent)) (sums φ (s.counts s.incumbent)) ≡ true
  -- the cost of the incumbent's runs was replied, where it has any
  pub replied : 1 ≤ s.counts s.incumbent → IsCostReplied sums s.asks s.incumbent (s.counts s.incumbent)
