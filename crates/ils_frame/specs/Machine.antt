-- A search over any comparer, as a machine that takes one reply at a time.
use Rattle.std.specs.Prelude.{ℕ, zero, suc, ◌+◌, ◌-◌, ◌*◌, ◌==◌, ◌≡◌, Bool, true, false, List, [], ◌∷◌, Option, Some, None, if◌then◌else◌}
use Rattle.uncapped.specs.Procedure.{Settings}
use Rattle.uncapped.specs.Setup.{Setup}
use Rattle.ils_face.specs.declared.asks.Ask.{Ask}
use Rattle.ils_face.specs.declared.asks.Ask.TheVariants.{End}
use Rattle.ils_face.specs.declared.asks.Reply.{Reply}
use Rattle.ils_face.specs.Replies.{ask_for}
use Rattle.ils_face.specs.Rules.{Rules, AreRules}
use Rattle.ils_face.specs.Views.{View, AreFitting}
use Rattle.ils_frame.specs.declared.course.Course.{Course}
use Rattle.ils_frame.specs.declared.purpose.Purpose.{Purpose}
use Rattle.ils_frame.specs.declared.purpose.Purpose.TheVariants.{Opening}
use Rattle.ils_frame.specs.Comparers.{Parts, question_in, decision_in}
use Rattle.ils_frame.specs.NextComparison.{Next, Compare, Finish, next}
use Rattle.ils_face.specs.Setups.{setup_of}

-- a comparer with what stands between two comparisons
pub record Machine (S : Type 0) : Type 0 where
  pub comparer : S
  pub purpose : Purpose  -- what the present comparison is for
  pub event : ℕ  -- the number of the next draw
  pub over : Bool  -- the budget is used up

-- the budget is used up
abbrev pub is_spent : {S : Type 0} → Parts S → ℕ → S → Bool
is_spent parts budget c = (parts.last c).compared == budget

-- the next comparison begins, where one is left in the budget
abbrev pub begun_within : {S : Type 0} → Parts S → ℕ → S → Settings → Settings → S
begun_within parts budget c θ φ = if is_spent parts budget c then c else parts.begun c θ φ ((parts.last c).compared + 1)

-- the rules and the replies, oldest first
pub record History : Type 0 where
  pub rules : Rules
  pub replies : List Reply

module _ {S : Type 0} (parts : Parts S) (setup : Setup) where
  -- the next comparison begins, or the budget is used up
  abbrev pub begin : S → Next → Machine S
  begin c (Compare purpose θ φ e) = if (parts.last c).compared == setup.budget
      then record { comparer = c; purpose = purpose; event = e; over = true }
      else record { comparer = parts.begun c θ φ ((parts.last c).compared + 1); purpose = purpose; event = e; over = false }
  begin c (Finish e) = record { comparer = c; purpose = Opening; event = e; over = true }

  -- where a comparison was decided, the next one begins
  unfoldable pub settle : S → Purpose → ℕ → Option Bool → Machine S
  settle c purpose e None = record { comparer = c; purpose = purpose; event = e; over = false }
  settle c purpose e (Some won) = begin c (next setup (parts.last c).compared purpose won e)

  -- the machine before any reply
  abbrev pub first_machine : S → Machine S
  first_machine first = settle first Opening 0 (decision_in (parts.stage first))

  -- the machine after one more reply
  abbrev pub next_machine : Machine S → Reply → Machine S
  next_machine f r = settle (parts.after f.comparer r) f.purpose f.event (decision_in (parts.stage (parts.after f.comparer r)))

  -- the machine after these replies
  unfoldable pub after_all : Machine S → List Reply → Machine S
  after_all f [] = f
  after_all f (r ∷ later) = after_all (next_machine f r) later

  -- answers of so many comparisons, at most
  abbrev pub answers_left : ℕ → ℕ
  answers_left zero = 0
  answers_left (suc n) = 8 * setup.max_runs + 17 + answers_left n

  -- what the machine shows
  abbrev pub view_of : Machine S → View
  view_of f = record {
    ask = ask_for (question_in (parts.stage f.comparer));
    entries = parts.entries f.comparer;
    last = parts.last f.comparer;
    left = answers_left (setup.budget - (parts.last f.comparer).compared) + parts.left f.comparer;
  }

-- a comparer and its course as the machine
abbrev pub machine_of : {S : Type 0} → S → Course → Machine S
machine_of c course = record { comparer = c; purpose = course.purpose; event = course.event; over = course.over }

module _ {S : Type 0} (parts : Parts S) (first : S) (rules : Rules) where
  -- the machine of a search by its rules and replies
  abbrev pub machine_after : List Reply → Machine S
  machine_after rs = after_all parts (setup_of rules) (first_machine parts (setup_of rules) first) rs

  -- what a search shows by its rules and replies
  abbrev pub shown_after : List Reply → View
  shown_after rs = view_of parts (setup_of rules) (machine_after rs)

  -- what a search keeps: its replies fit, and led to its machine
  pub record IsSearch (replies : List Reply) (machine : Machine S) (shown : Ask) : Type 0 where
    pub ruled : AreRules rules
    pub reached : machine ≡ machine_after replies
    pub fitting : AreFitting shown_after replies
    pub end : shown ≡ End  -- what is shown as the ask at the end
