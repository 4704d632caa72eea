-- What a board keeps of its present ask.
use Rattle.std.specs.Prelude.{◌≡◌, ◌-◌, List, Option, IfSome, true}
use Rattle.std.specs.Cmp.Lexicographic.{pointwise}
use Rattle.objective.specs.Costs.{Table}
use Rattle.objective.specs.declared.Outcome.{Outcome}
use Rattle.wrapper_lines.specs.declared.runs.Key.{Key}
use Rattle.uncapped.specs.Uncapped.{Run}
use Rattle.ils_face.specs.declared.asks.Reply.{Reply}
use Rattle.ils_face.specs.Replies.{Fits}
use Rattle.ils_face.specs.Rules.{Rules}
use Rattle.ils_face.specs.Views.{View}
use Rattle.run_cache.specs.Caches.{Knowledge, known_in}
use Rattle.capping.specs.declared.verdicts.Verdict.{Verdict}
use Rattle.capping.specs.Verdicts.{verdict_of}
use Rattle.predictor.specs.declared.wish.Wish.{Wish}
use Rattle.predictor.specs.Wishes.{wishes_of}
use Rattle.board_steps.specs.Boards.{BoardState}
use Rattle.board_steps.specs.BoardInvariant.{BoardInvariant}
use Rattle.capping.specs.Decisions.{IfReply, IfNeed}
use Rattle.board_steps.specs.Steps.{same_wish}
use Rattle.pool_core.specs.OpenBoards.{IsRunnableFor}

-- the verdict on the ask after these replies, by what is known: a reply fits the ask, and a needed run may be made
pub record IsVerdict (shown : Rules → List Reply → View) (rules : Rules) (replies : List Reply) (known : Knowledge) (v : Verdict) : Type 0 where
  pub value : v ≡ verdict_of rules.limits known (shown rules replies).ask
  pub fits : IfReply v (Fits (shown rules replies).ask)
  pub runnable : IfNeed v (IsRunnableFor rules (shown rules replies).ask)

-- an ask is decided: this is the verdict on it, and these are the wishes at it
pub record IsDecided (shown : Rules → List Reply → View) (rules : Rules) (replies : List Reply) (known : Knowledge) (wishes : List Wish) (v : Verdict) : Type 0 where
  pub verdict : IsVerdict shown rules replies known v
  pub wished : pointwise same_wish wishes (wishes_of (shown rules) rules.limits known replies (rules.workers - 1)) ≡ true

-- a search that goes by a board's problem, what holds of the board, and what is kept of the present ask
pub record IsBoard (shown : Rules → List Reply → View) (procedure : Rules → Table → Run) (truth : Option (Key → Outcome)) (rules : Rules) (decided : Option Verdict) (b : BoardState) : Type 0 where
  pub rules_same : rules ≡ b.problem.rules
  pub board : BoardInvariant shown procedure truth b
  pub kept : IfSome decided (IsDecided shown b.problem.rules b.replies (known_in b.cache) b.wishes)
