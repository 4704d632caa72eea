-- A search follows the procedure: given the replies of total costs, it shows the asks and the entries of the run.
use Rattle.std.specs.Prelude.{ℕ, ◌≤◌, ◌<◌, ◌≡◌, List, None, IsSome, IfSome, map, length, slice_get}
use Rattle.objective.specs.Costs.{Table}
use Rattle.uncapped.specs.Procedure.{Sums, Finished, Aborted}
use Rattle.uncapped.specs.Totals.{total_cost}
use Rattle.uncapped.specs.Uncapped.{Run}
use Rattle.ils_face.specs.declared.asks.Reply.{Reply}
use Rattle.ils_face.specs.Replies.{cost_asked, replies_to, reply_count, ask_at, entries_before}
use Rattle.ils_face.specs.Rules.{Rules}
use Rattle.ils_face.specs.Views.{View}

-- the total costs over an outcome table
abbrev pub sums_under : Rules → Table → Sums
sums_under rules T = total_cost rules.limits T

-- the number of asks that these total costs reply to
abbrev pub answer_count : Run → ℕ
answer_count run = reply_count run.end (length run.asks)

-- the procedure finished, and this is shown after all its asks
pub record ShowsEnd (view : View) (run : Run) : Type 0 where
  pub entries : view.entries ≡ map (λ a. a.entry) run.entries
  pub last : view.last ≡ run.last

-- the procedure was aborted at its last ask, whose total cost isn't known, and its entries are shown before that one
pub record StopsShort (shown : List Reply → View) (sums : Sums) (run : Run) : Type 0 where
  pub unanswered : answer_count run < length run.asks
  pub unknown : IfSome (slice_get run.asks (answer_count run)) (λ q. cost_asked sums q ≡ None)
  pub entries : (shown (replies_to sums run (answer_count run))).entries ≡ map (λ a. a.entry) run.entries

-- given the replies of these total costs, a search shows the asks and the entries of the run
pub record Follows (shown : List Reply → View) (sums : Sums) (run : Run) : Type 0 where
  pub asks : (k : ℕ) → k ≤ answer_count run → (shown (replies_to sums run k)).ask ≡ ask_at run k
  pub entries : (k : ℕ) → k ≤ answer_count run → (shown (replies_to sums run k)).entries ≡ entries_before run k
  pub known : (k : ℕ) → k < answer_count run → IfSome (slice_get run.asks k) (λ q. IsSome (cost_asked sums q))
  pub finished : run.end ≡ Finished → ShowsEnd (shown (replies_to sums run (length run.asks))) run
  pub aborted : run.end ≡ Aborted → StopsShort shown sums run

-- the replies of a table, its aborts as unsolved, lead through all asks of the procedure to its end
pub record GoesThrough (shown : List Reply → View) (sums : Sums) (run : Run) : Type 0 where
  pub finished : run.end ≡ Finished
  pub asks : (k : ℕ) → (shown (replies_to sums run k)).ask ≡ ask_at run k
  pub end : ShowsEnd (shown (replies_to sums run (length run.asks))) run
