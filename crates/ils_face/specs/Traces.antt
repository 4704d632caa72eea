-- An ask as a question, its reply by total costs, and what is shown at the end.
use Rattle.std.specs.Prelude.{◌≤◌, ◌≡◌, List, map, length, Option, Some, None, IsSome}
use Rattle.uncapped.specs.Procedure.{Sums, Question, Finished, Aborted}
use Rattle.uncapped.specs.Uncapped.{Run}
use Rattle.ils_face.specs.declared.asks.Ask.{Ask}
use Rattle.ils_face.specs.declared.asks.Ask.TheVariants.{Full, Versus, End}
use Rattle.ils_face.specs.declared.asks.Reply.{Reply}
use Rattle.ils_face.specs.Replies.{cost_asked, reply_to, replies_to}
use Rattle.ils_face.specs.Views.{View}
use Rattle.ils_face.specs.Follows.{ShowsEnd, answer_count}

-- the question that an ask is of; there is none at the end
abbrev pub question_of : Ask → Option Question
question_of (Full θ n) = Some (record { config = θ; places = n; bound = None })
question_of (Versus θ n bound) = Some (record { config = θ; places = n; bound = Some bound.0 })
question_of End = None

-- the total cost that the question is of is known, and this is the reply that it gives
pub record IsReplyBy (sums : Sums) (r : Reply) (q : Question) : Type 0 where
  pub known : IsSome (cost_asked sums q)
  pub same : r ≡ reply_to sums q

-- the total cost that the question is of isn't known
pub record IsUnknown (sums : Sums) (q : Question) : Type 0 where
  pub unknown : cost_asked sums q ≡ None

-- the replies so far are those of these total costs to the first asks of the run
pub record IsTraced (sums : Sums) (run : Run) (replies : List Reply) : Type 0 where
  pub within : length replies ≤ answer_count run
  pub same : replies ≡ replies_to sums run (length replies)

-- the procedure finished, and its entries and its last line are shown
pub record IsFinal (view : View) (run : Run) : Type 0 where
  pub finished : run.end ≡ Finished
  pub shows : ShowsEnd view run

-- the procedure was aborted, and its entries are shown
pub record IsStopped (view : View) (run : Run) : Type 0 where
  pub aborted : run.end ≡ Aborted
  pub entries : view.entries ≡ map (λ a. a.entry) run.entries
