-- Where a board stands, by what it holds.
use Rattle.std.proofs.Common.{ℕ, ◌≡◌, ◌-◌, ◌++◌, true, false, List, [], ◌∷◌, Option, Some, None, All, is_some, refl, sym, ap, ◌∙◌, subst, if◌then◌else◌}
use Rattle.std.specs.Cmp.Lexicographic.{pointwise}
use Rattle.ils_face.specs.declared.asks.Reply.{Reply}
use Rattle.ils_face.specs.Replies.{Fits}
use Rattle.ils_face.specs.Rules.{Rules}
use Rattle.ils_face.specs.Views.{View}
use Rattle.run_cache.specs.declared.cell.Cell.{Cell}
use Rattle.run_cache.specs.Caches.{known_in}
use Rattle.capping.specs.declared.verdicts.Verdict.{Verdict}
use Rattle.predictor.specs.declared.wish.Wish.{Wish}
use Rattle.predictor.specs.Wishes.{wishes_of}
use Rattle.board_steps.specs.declared.answers.BoardVerdict.TheVariants.{Stopped, Aborted, Open}
use Rattle.board_steps.specs.Boards.{BoardState, PlainBoard, plain_board}
use Rattle.board_steps.specs.Numbering.{IsRunnable}
use Rattle.board_steps.specs.declared.events.Event.TheVariants.{Advance}
use Rattle.board_steps.specs.declared.answers.BoardVerdict.{BoardVerdict}
use Rattle.board_steps.specs.declared.answers.Taken.{Taken}
use Rattle.board_steps.specs.Steps.{same_wish, with_wishes, advanced_to, advanced_on, advanced_by, after_advance, taken_by, taken_on, with_taken, after_take}
use Rattle.pool_core.specs.DecidedAsks.{IsVerdict}
use Rattle.pool_core.specs.OpenBoards.{IsRunnableAt}
use Rattle.capping.specs.Decisions.{IfReply, IfNeed}
use Rattle.board_steps.specs.BoardVerdicts.{ask_on, config_of, asked_cell, verdict_on, board_verdict_by, board_verdict_of, wishes_on}

module _ (shown : Rules → List Reply → View) where
  -- it is stopped
  pub board_verdict-stopped : (b : BoardState) → b.stopped ≡ true → Stopped ≡ board_verdict_of shown (plain_board b)
  unfolding board_verdict_of plain_board
  board_verdict-stopped b stopped = sym (ap (λ s. if s then Stopped else board_verdict_by shown (plain_board b) b.aborted) stopped)

  -- a cell is set as aborted
  aborted-by : (b : PlainBoard) (o : Option Cell) → is_some o ≡ true → Aborted ≡ board_verdict_by shown b o
  aborted-by b (Some cell) some = refl
  aborted-by b None some = absurd (let e : false ≡ true = some in cc)

  -- it has an aborted cell
  pub board_verdict-aborted : (b : BoardState) → b.stopped ≡ false → is_some b.aborted ≡ true → Aborted ≡ board_verdict_of shown (plain_board b)
  unfolding board_verdict_of plain_board
  board_verdict-aborted b running some = aborted-by (plain_board b) b.aborted some ∙ sym (ap (λ s. if s then Stopped else board_verdict_by shown (plain_board b) b.aborted) running)

  -- no cell is set as aborted
  open-by : (b : PlainBoard) (o : Option Cell) → is_some o ≡ false → Open (verdict_on shown b) ≡ board_verdict_by shown b o
  open-by b (Some cell) none = absurd (let e : true ≡ false = none in cc)
  open-by b None none = refl

  -- it goes by what is known
  pub board_verdict-open : (b : BoardState) (v : Verdict) → b.stopped ≡ false → is_some b.aborted ≡ false
      → IsVerdict shown b.problem.rules b.replies (known_in b.cache) v → Open v ≡ board_verdict_of shown (plain_board b)
  unfolding board_verdict_of plain_board verdict_on
  board_verdict-open b v running none is = ap Open is.value ∙ open-by (plain_board b) b.aborted none ∙ sym (ap (λ s. if s then Stopped else board_verdict_by shown (plain_board b) b.aborted) running)

  -- what fits the present ask fits the ask by the rules of the search
  pub fits-now : (now b : BoardState) (rules : Rules) (r : Reply) → b ≡ now → rules ≡ b.problem.rules → Fits (ask_on shown (plain_board now)) r → Fits (shown rules b.replies).ask r
  unfolding plain_board
  fits-now now b rules r same ruled fits =
      let N : BoardState → Type 0 = λ x. Fits (ask_on shown (plain_board x)) r in
      let P : Rules → Type 0 = λ x. Fits (shown x b.replies).ask r in
      subst P (sym ruled) (subst N (sym same) fits)

  -- the reply of a verdict fits the present ask
  pub replies-fit : (b : BoardState) (v : Verdict) → IsVerdict shown b.problem.rules b.replies (known_in b.cache) v → IfReply v (Fits (ask_on shown (plain_board b)))
  unfolding plain_board
  replies-fit b v is = is.fits

  -- the run that a verdict needs may be run
  pub needs-runnable : (b : BoardState) (v : Verdict) → IsVerdict shown b.problem.rules b.replies (known_in b.cache) v
      → IfNeed v (IsRunnableAt shown b)
  unfolding plain_board asked_cell
  needs-runnable b v is = is.runnable

  -- the cell of the present ask at a place
  pub asked-now : (b : BoardState) (rules : Rules) (cell : Cell) (place : ℕ) → rules ≡ b.problem.rules
      → cell ≡ record { config = config_of (shown rules b.replies).ask; place = place } → cell ≡ asked_cell shown (plain_board b) place
  unfolding plain_board asked_cell
  asked-now b rules cell place same is = is ∙ (λ i. record { config = config_of (shown (same i) b.replies).ask; place = place })

  -- the wishes of the present ask
  pub wished-now : (b : BoardState) (rules : Rules) (replies : List Reply) (wishes : List Wish) (k : ℕ) → rules ≡ b.problem.rules → b.cache.limits ≡ b.problem.rules.limits
      → k ≡ b.problem.rules.workers - 1 → wishes ≡ wishes_of (shown rules) b.cache.limits (known_in b.cache) replies k
      → wishes ≡ wishes_on shown (record (plain_board b) { replies = replies })
  unfolding plain_board wishes_on
  wished-now b rules replies wishes k same limits others made = made ∙ (λ i. wishes_of (shown (same i)) (limits i) (known_in b.cache) replies (others i))

  -- the wishes of the present ask, whose replies stay
  pub wished-same : (b : BoardState) (rules : Rules) (wishes : List Wish) (k : ℕ) → rules ≡ b.problem.rules → b.cache.limits ≡ b.problem.rules.limits
      → k ≡ b.problem.rules.workers - 1 → wishes ≡ wishes_of (shown rules) b.cache.limits (known_in b.cache) b.replies k → wishes ≡ wishes_on shown (plain_board b)
  unfolding plain_board wishes_on
  wished-same b rules wishes k same limits others made = made ∙ (λ i. wishes_of (shown (same i)) (limits i) (known_in b.cache) b.replies (others i))

  -- the wishes stay where they are the same
  pub wishes-stay : (b : BoardState) (wishes : List Wish) → wishes ≡ wishes_on shown (plain_board b) → pointwise same_wish b.wishes wishes ≡ true → plain_board b ≡ with_wishes shown (plain_board b)
  unfolding plain_board with_wishes
  wishes-stay b wishes wished same =
      let test = ap (pointwise same_wish b.wishes) (sym wished) ∙ same in
      sym (ap (λ t. if t then plain_board b else record (plain_board b) { wishes = wishes_on shown (plain_board b); journal = b.journal ++ Advance ∷ [] }) test)

  -- what an advance comes to where the board stands so
  pub advanced-as : (b : PlainBoard) (p : BoardVerdict) → p ≡ board_verdict_of shown b → advanced_to p ≡ advanced_on shown b
  unfolding advanced_on
  advanced-as b p is = ap advanced_to is

  -- a board after an advance from where it stands so
  pub after-as : (b : PlainBoard) (p : BoardVerdict) → p ≡ board_verdict_of shown b → advanced_by shown b p ≡ after_advance shown b
  unfolding after_advance
  after-as b p is = ap (advanced_by shown b) is

  -- what a take comes to where the board stands so
  pub taken-as : (b : PlainBoard) (p : BoardVerdict) → p ≡ board_verdict_of shown b → taken_by shown b p ≡ taken_on shown b
  unfolding taken_on
  taken-as b p is = ap (taken_by shown b) is

  -- a board after a take that comes to this
  pub after-taken : (b : PlainBoard) (t : Taken) → t ≡ taken_on shown b → with_taken b t ≡ after_take shown b
  unfolding after_take
  after-taken b t is = ap (with_taken b) is

-- wishes may be run
pub wishes-runnable : (rules others : Rules) (wishes : List Wish) → rules ≡ others → All (λ w. IsRunnable rules w.cell w.cutoff.0) wishes → All (λ w. IsRunnable others w.cell w.cutoff.0) wishes
wishes-runnable rules others wishes same runnable = let P : Rules → Type 0 = λ x. All (λ w. IsRunnable x w.cell w.cutoff.0) wishes in subst P same runnable
