-- The replies of a search so far that are sums: the costs that they sum are known.
use Rattle.std.specs.Prelude.{ℕ, ◌≡◌, List, Some, take, IsSomeAnd}
use Rattle.std.specs.List.{slice_get}
use Rattle.uncapped.specs.Procedure.{Question}
use Rattle.ils_face.specs.declared.asks.Ask.{Ask}
use Rattle.ils_face.specs.declared.asks.Reply.{Reply}
use Rattle.ils_face.specs.declared.asks.Reply.TheVariants.{Exact, Exceeds}
use Rattle.ils_face.specs.Rules.{Rules}
use Rattle.ils_face.specs.Traces.{question_of}
use Rattle.ils_face.specs.Views.{View}
use Rattle.run_cache.specs.Caches.{Knowledge}
use Rattle.capping.specs.ExactSums.{exact_sum}
use Rattle.board_steps.specs.Boards.{PlainBoard}

-- the costs at the places of the question are known, and this is their sum
pub record IsSum (known : Knowledge) (sum : ℕ) (q : Question) : Type 0 where
  pub same : exact_sum (known q.config) q.places ≡ Some sum

-- a total cost that an ask is replied is the sum of known costs
abbrev pub IsSummed : Knowledge → Ask → Reply → Type 0
IsSummed known ask (Exact sum) = IsSomeAnd (question_of ask) (IsSum known sum.0)
IsSummed known ask Exceeds = Unit {0}

-- the ask that is shown after the first replies, so many
abbrev pub ask_after : (List Reply → View) → List Reply → ℕ → Ask
ask_after shown replies i = (shown (take i replies)).ask

-- each reply so far, to the ask that is shown after those before it
pub record AreSummedReplies (shown : List Reply → View) (known : Knowledge) (replies : List Reply) : Type 0 where
  pub each : (i : ℕ) (r : Reply) → slice_get replies i ≡ Some r → IsSummed known (ask_after shown replies i) r

-- each total cost that the search of a board was replied is the sum of costs that are known
pub record AreSummed (shown : Rules → List Reply → View) (b : PlainBoard) : Type 0 where
  pub replies : AreSummedReplies (shown b.problem.rules) b.known b.replies
