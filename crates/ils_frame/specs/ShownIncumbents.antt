-- The incumbent that a search shows keeps the incumbent invariant after each reply of total costs.
use Rattle.std.specs.Prelude.{ℕ, ◌≡◌, ◌≤◌, List, take}
use Rattle.std.specs.List.{fold}
use Rattle.uncapped.specs.Procedure.{Settings, Sums, Question, Incumbent, PlainState}
use Rattle.uncapped.specs.Evaluation.{counts_after}
use Rattle.uncapped.specs.Uncapped.{Run, last_of}
use Rattle.ils_face.specs.declared.asks.Reply.{Reply}
use Rattle.ils_face.specs.Follows.{answer_count}
use Rattle.ils_face.specs.Replies.{replies_to}
use Rattle.ils_face.specs.Views.{View}
use Rattle.ils_frame.specs.IncumbentInvariant.{IncumbentInvariant}

-- the places of each configuration that count as run: the most that it was asked for
abbrev pub runs_after : List Question → Settings → ℕ
runs_after asks = fold (λ counts q. counts_after counts q.config q.places) (λ _. 0) asks

-- the incumbent is that of a state of the procedure after these asks, and the invariant holds there
pub record HasInvariant (sums : Sums) (asks : List Question) (last : Incumbent) : Type 0 where
  pub state : PlainState
  pub asked : state.asks ≡ asks
  pub counted : state.counts ≡ runs_after asks
  pub shown : last ≡ last_of sums state
  pub invariant : IncumbentInvariant sums state

-- so it is with what a search shows after each number of replies
pub record KeepsInvariant (shown : List Reply → View) (sums : Sums) (run : Run) : Type 0 where
  pub after : (k : ℕ) → k ≤ answer_count run → HasInvariant sums (take k run.asks) (shown (replies_to sums run k)).last
