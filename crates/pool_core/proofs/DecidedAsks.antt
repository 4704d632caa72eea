-- What is kept of an ask that is decided.
use Rattle.std.proofs.Common.{ℕ, ◌≡◌, true, false, List, Option, Some, None, IfSome, is_some, ◌-◌, refl, sym, ap, ◌∙◌, subst}
use Rattle.std.specs.Cmp.Lexicographic.{pointwise}
use Rattle.objective.specs.declared.Micros.{Micros}
use Rattle.ils_face.specs.declared.asks.Reply.{Reply}
use Rattle.ils_face.specs.Replies.{Fits}
use Rattle.ils_face.specs.Rules.{Rules}
use Rattle.ils_face.specs.Views.{View}
use Rattle.capping.specs.declared.verdicts.Verdict.{Verdict}
use Rattle.capping.specs.declared.verdicts.Verdict.TheVariants as verdict
use Rattle.capping.specs.Verdicts.{verdict_of}
use Rattle.predictor.specs.declared.wish.Wish.{Wish}
use Rattle.predictor.specs.Wishes.{wishes_of}
use Rattle.run_cache.specs.Caches.{Cached, known_in}
use Rattle.board_steps.specs.declared.answers.BoardVerdict.TheVariants as board_verdict
use Rattle.board_steps.specs.Boards.{BoardState, plain_board}
use Rattle.board_steps.specs.Numbering.{IsRunnable}
use Rattle.capping.specs.Decisions.{IfReply, IfNeed}
use Rattle.board_steps.specs.BoardVerdicts.{asked_cell, board_verdict_of, verdict_on, wishes_on}
use Rattle.board_steps.specs.Steps.{same_wish, with_wishes}
use Rattle.board_steps.proofs.SameItself.{same_wishes-itself}
use Rattle.pool_core.specs.DecidedAsks.{IsVerdict, IsDecided}
use Rattle.pool_core.specs.OpenBoards.{IsRunnableFor}
use Rattle.pool_core.proofs.MarkedBoards.{verdict-open}
use Rattle.pool_core.proofs.PresentVerdicts.{wishes-stay}

module _ (shown : Rules → List Reply → View) where
  -- the verdict on the ask after these replies, by the rules of the search
  pub verdict-made : (b : BoardState) (rules : Rules) (replies : List Reply) (v : Verdict) → rules ≡ b.problem.rules → b.cache.limits ≡ b.problem.rules.limits
      → v ≡ verdict_of b.cache.limits (known_in b.cache) (shown rules replies).ask → IfReply v (Fits (shown rules replies).ask)
      → IfNeed v (IsRunnableFor rules (shown rules replies).ask)
      → IsVerdict shown b.problem.rules replies (known_in b.cache) v
  verdict-made b rules replies v same limits value fits runnable =
      let here : b.cache.limits ≡ rules.limits = limits ∙ ap (λ r. r.limits) (sym same) in
      let V : Rules → Type 0 = λ r. IsVerdict shown r replies (known_in b.cache) v in
      let by_search : IsVerdict shown rules replies (known_in b.cache) v =
      record { value = value ∙ ap (λ l. verdict_of l (known_in b.cache) (shown rules replies).ask) here; fits = fits; runnable = runnable } in
      subst V same by_search

  -- the verdict that is kept
  pub verdict-kept : (b : BoardState) (decided : Option Verdict) (v : Verdict) → decided ≡ Some v
      → IfSome decided (IsDecided shown b.problem.rules b.replies (known_in b.cache) b.wishes) → IsVerdict shown b.problem.rules b.replies (known_in b.cache) v
  verdict-kept b decided v is kept =
      let K : Option Verdict → Type 0 = λ o. IfSome o (IsDecided shown b.problem.rules b.replies (known_in b.cache) b.wishes) in
      let has : IsDecided shown b.problem.rules b.replies (known_in b.cache) b.wishes v = subst K is kept in
      has.verdict

  -- wishes that were made for the ask after these replies
  pub wished-after : (b : BoardState) (replies : List Reply) (wishes : List Wish) → wishes ≡ wishes_on shown (record (plain_board b) { replies = replies })
      → pointwise same_wish wishes (wishes_of (shown b.problem.rules) b.problem.rules.limits (known_in b.cache) replies (b.problem.rules.workers - 1)) ≡ true
  unfolding plain_board wishes_on
  wished-after b replies wishes made = ap (pointwise same_wish wishes) (sym made) ∙ same_wishes-itself wishes

  -- a run of the present ask is needed, and the wishes are those that were made for it
  pub decided-need : (now b : BoardState) (made wishes : List Wish) (place : ℕ) (cutoff : Micros) → b ≡ now → board_verdict_of shown (plain_board now) ≡ board_verdict.Open (verdict.Need place cutoff)
      → IsRunnable now.problem.rules (asked_cell shown (plain_board now) place) cutoff.0 → made ≡ wishes_on shown (plain_board b) → pointwise same_wish wishes made ≡ true
      → IsDecided shown b.problem.rules b.replies (known_in b.cache) wishes (verdict.Need place cutoff)
  unfolding plain_board verdict_on asked_cell wishes_on
  decided-need now b made wishes place cutoff same stands runnable are_made same_wishes =
      let R : BoardState → Type 0 = λ x. IsRunnable x.problem.rules (asked_cell shown (plain_board x) place) cutoff.0 in
      let needs = verdict-open shown b (verdict.Need place cutoff) (ap (λ x. board_verdict_of shown (plain_board x)) same ∙ stands) in
      record {
        verdict = record { value = sym needs; fits = tt; runnable = subst R (sym same) runnable };
        wished = ap (pointwise same_wish wishes) (sym are_made) ∙ same_wishes;
      }

  -- further places of the cache change nothing of what is kept
  pub decided-places : (b : BoardState) (cache : Cached) (decided : Option Verdict) → known_in cache ≡ known_in b.cache
      → IfSome decided (IsDecided shown b.problem.rules b.replies (known_in b.cache) b.wishes) → IfSome decided (IsDecided shown b.problem.rules b.replies (known_in cache) b.wishes)
  decided-places b cache decided known kept = subst (λ k. IfSome decided (IsDecided shown b.problem.rules b.replies k b.wishes)) (sym known) kept

  -- making the wishes anew at an ask that is decided changes nothing
  pub wishes-decided : (b : BoardState) (decided : Option Verdict) → is_some decided ≡ true
      → IfSome decided (IsDecided shown b.problem.rules b.replies (known_in b.cache) b.wishes) → plain_board b ≡ with_wishes shown (plain_board b)
  unfolding plain_board wishes_on
  wishes-decided b (Some v) some kept =
      let has : IsDecided shown b.problem.rules b.replies (known_in b.cache) b.wishes v = kept in
      wishes-stay shown b (wishes_on shown (plain_board b)) refl has.wished
  wishes-decided b None some kept = absurd (let e : false ≡ true = some in cc)
