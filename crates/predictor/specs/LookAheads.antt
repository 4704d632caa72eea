-- A look ahead: a copy of a search that has gone ahead of it, step for step.
use Rattle.std.specs.Prelude.{ℕ, suc, ◌≡◌, ◌≤◌, ◌+◌, ◌-◌, List, [], ◌∷◌, ◌++◌, Some, length, take, slice_get}
use Rattle.objective.specs.Limits.{max_runs}
use Rattle.ils_face.specs.declared.asks.Reply.{Reply}
use Rattle.ils_face.specs.Rules.{Rules}
use Rattle.ils_face.specs.Views.{View}
use Rattle.capping.specs.Decisions.{place_count}
use Rattle.predictor.specs.declared.look_ahead.Step.{Step}

-- what a look ahead holds: the rules and the replies of the copy, and its steps
pub record LookAheadState : Type 0 where
  pub rules : Rules
  pub replies : List Reply
  pub steps : List Step

-- the replies of the copy after so many of its steps
abbrev pub after : LookAheadState → ℕ → List Reply
after l n = take (length l.replies - length l.steps + n) l.replies

-- one look ahead is another one that may have gone on
pub record GoesOnFrom (old new : LookAheadState) : Type 0 where
  pub rules : new.rules ≡ old.rules
  pub longer : length old.steps ≤ length new.steps
  pub same : (n : ℕ) → n ≤ length old.steps → after new n ≡ after old n

module _ (shown : Rules → List Reply → View) where
  -- the step after so many is at the ask that is shown there, by the reply that came next
  pub record IsStepAt (l : LookAheadState) (n : ℕ) (s : Step) : Type 0 where
    pub ask : s.ask ≡ (shown l.rules (after l n)).ask
    pub few : place_count s.ask ≤ max_runs
    pub reply : after l (suc n) ≡ after l n ++ s.reply ∷ []

  -- the steps are those of the copy
  pub record IsLookAhead (l : LookAheadState) : Type 0 where
    pub within : length l.steps ≤ length l.replies
    pub each : (n : ℕ) (s : Step) → slice_get l.steps n ≡ Some s → IsStepAt l n s

  -- with a further step, by a reply
  abbrev pub with_step : LookAheadState → Reply → LookAheadState
  with_step l r = record {
    rules = l.rules;
    replies = l.replies ++ r ∷ [];
    steps = l.steps ++ record { ask = (shown l.rules l.replies).ask; reply = r } ∷ [];
  }
