-- What marking makes of a board.
use Rattle.std.proofs.Common.{ℕ, ◌≡◌, ◌++◌, Bool, true, false, List, [], ◌∷◌, Option, Some, None, length, map, refl, sym, ap, ◌∙◌, if◌then◌else◌}
use Rattle.std.proofs.lemmas.List.{append-nil}
use Rattle.objective.specs.declared.Micros.{Micros}
use Rattle.ils_face.specs.declared.asks.Ask.TheVariants.{End}
use Rattle.ils_face.specs.declared.asks.Reply.{Reply}
use Rattle.ils_face.specs.Rules.{Rules}
use Rattle.ils_face.specs.Views.{View}
use Rattle.run_cache.specs.declared.cell.Cell.{Cell}
use Rattle.run_cache.specs.Caches.{known_in}
use Rattle.capping.specs.declared.verdicts.Verdict.{Verdict}
use Rattle.capping.specs.declared.verdicts.Verdict.TheVariants as verdict
use Rattle.capping.specs.Verdicts.{verdict_of}
use Rattle.predictor.specs.declared.wish.Wish.{Wish}
use Rattle.board_steps.specs.declared.answers.BoardVerdict.{BoardVerdict}
use Rattle.board_steps.specs.declared.answers.BoardVerdict.TheVariants as board_verdict
use Rattle.board_steps.specs.declared.tickets.LiveTicket.{LiveTicket}
use Rattle.board_steps.specs.Boards.{BoardState, PlainBoard, plain_board}
use Rattle.board_steps.specs.BoardVerdicts.{asked_cell, config_of, board_verdict_by, board_verdict_of, verdict_on}
use Rattle.board_steps.specs.Steps.{after_mark, marked_board, marked_on}
use Rattle.board_steps.specs.Tickets.{marked_if, mark_events}
use Rattle.board_steps.specs.UnwantedRuns.{is_unwanted, is_unwanted_by, is_unwanted_beside}

-- nothing is unwanted
abbrev pub none_unwanted : LiveTicket → Bool
none_unwanted l = false

-- nothing is marked
none-marked : (live : List LiveTicket) → map (marked_if none_unwanted) live ≡ live
none-marked [] = refl
none-marked (l ∷ live) = ap (λ xs. l ∷ xs) (none-marked live)

-- and there is no event
no-events : (live : List LiveTicket) → mark_events none_unwanted live ≡ []
no-events [] = refl
no-events (l ∷ live) = no-events live

-- open boards that are the same have the same verdict
same_open : (v w : Verdict) → board_verdict.Open v ≡ board_verdict.Open w → v ≡ w
same_open v w opened = cc

module _ (shown : Rules → List Reply → View) where
  -- what isn't wanted where the board stands so
  pub unwanted-as : (b : PlainBoard) (p : BoardVerdict) → p ≡ board_verdict_of shown b → is_unwanted_by shown b p ≡ is_unwanted shown b
  unfolding is_unwanted
  unwanted-as b p is = ap (is_unwanted_by shown b) is

  -- a board after marking what isn't wanted
  pub marked-as : (b : PlainBoard) (f : LiveTicket → Bool) → f ≡ is_unwanted shown b → marked_board b f ≡ after_mark shown b
  unfolding after_mark
  marked-as b f is = ap (marked_board b) is

  -- how many are newly marked
  pub count-as : (b : BoardState) (f : LiveTicket → Bool) → f ≡ is_unwanted shown (plain_board b) → length (mark_events f b.live) ≡ marked_on shown (plain_board b)
  unfolding marked_on plain_board
  count-as b f is = ap (λ u. length (mark_events u b.live)) is

  -- a board after marking what isn't wanted where it stands so
  pub marked-by : (b : BoardState) (p : BoardVerdict) → p ≡ board_verdict_of shown (plain_board b) → marked_board (plain_board b) (is_unwanted_by shown (plain_board b) p) ≡ after_mark shown (plain_board b)
  marked-by b p is = marked-as (plain_board b) (is_unwanted_by shown (plain_board b) p) (unwanted-as (plain_board b) p is)

  -- how many are newly marked then
  pub count-by : (b : BoardState) (p : BoardVerdict) → p ≡ board_verdict_of shown (plain_board b) → length (mark_events (is_unwanted_by shown (plain_board b) p) b.live) ≡ marked_on shown (plain_board b)
  count-by b p is = count-as b (is_unwanted_by shown (plain_board b) p) (unwanted-as (plain_board b) p is)

  -- nothing is marked
  pub marked-none : (b : PlainBoard) → none_unwanted ≡ is_unwanted shown b → b ≡ after_mark shown b
  marked-none b is = (λ i. record b { live = sym (none-marked b.live) i; journal = (sym (append-nil b.journal) ∙ ap (λ es. b.journal ++ es) (sym (no-events b.live))) i }) ∙ marked-as b none_unwanted is

  -- none is newly marked
  pub count-none : (b : BoardState) → none_unwanted ≡ is_unwanted shown (plain_board b) → 0 ≡ marked_on shown (plain_board b)
  count-none b is = sym (ap length (no-events b.live)) ∙ count-as b none_unwanted is

  -- an open board has this verdict
  pub verdict-open : (b : BoardState) (v : Verdict) → board_verdict_of shown (plain_board b) ≡ board_verdict.Open v → verdict_on shown (plain_board b) ≡ v
  unfolding board_verdict_of plain_board
  verdict-open b v stands = by_stop b.stopped stands
    where
      by_abort : (o : Option Cell) → board_verdict_by shown (plain_board b) o ≡ board_verdict.Open v → verdict_on shown (plain_board b) ≡ v
      by_abort (Some cell) opened = absurd (let e : board_verdict.Aborted ≡ board_verdict.Open v = opened in cc)
      by_abort None opened = same_open (verdict_on shown (plain_board b)) v opened

      by_stop : (s : Bool) → (if s then board_verdict.Stopped else board_verdict_by shown (plain_board b) b.aborted) ≡ board_verdict.Open v → verdict_on shown (plain_board b) ≡ v
      by_stop true opened = absurd (let e : board_verdict.Stopped ≡ board_verdict.Open v = opened in cc)
      by_stop false opened = by_abort b.aborted opened

  -- at its end a search needs no run
  pub no-end : (now b : BoardState) (rules : Rules) (place : ℕ) (cutoff : Micros) → b ≡ now → rules ≡ b.problem.rules
      → board_verdict_of shown (plain_board now) ≡ board_verdict.Open (verdict.Need place cutoff) → (shown rules b.replies).ask ≡ End → ⊥
  unfolding verdict_on plain_board
  no-end now b rules place cutoff same ruled stands at_end =
      let here : (shown b.problem.rules b.replies).ask ≡ End = ap (λ r. (shown r b.replies).ask) (sym ruled) ∙ at_end in
      let stands_here = ap (λ x. board_verdict_of shown (plain_board x)) same ∙ stands in
      let e : verdict.Ended ≡ verdict.Need place cutoff = sym (ap (verdict_of b.problem.rules.limits (known_in b.cache)) here) ∙ verdict-open b (verdict.Need place cutoff) stands_here in
      absurd (let f = e in cc)

  -- what isn't wanted where a run of the present ask is needed
  pub unwanted-beside : (now b : BoardState) (rules : Rules) (wishes : List Wish) (config : List ℕ) (place : ℕ) (cutoff : Micros) → b ≡ now → rules ≡ b.problem.rules
      → board_verdict_of shown (plain_board now) ≡ board_verdict.Open (verdict.Need place cutoff) → wishes ≡ b.wishes → config ≡ config_of (shown rules b.replies).ask
      → is_unwanted_beside wishes (record { cell = record { config = config; place = place }; cutoff = cutoff.0 }) ≡ is_unwanted shown (plain_board b)
  unfolding plain_board is_unwanted asked_cell
  unwanted-beside now b rules wishes config place cutoff same ruled stands wished asked =
      let stands_here = ap (λ x. board_verdict_of shown (plain_board x)) same ∙ stands in
      (λ i. is_unwanted_beside (wished i) (record { cell = record { config = (asked ∙ ap (λ r. config_of (shown r b.replies).ask) ruled) i; place = place }; cutoff = cutoff.0 }))
      ∙ ap (is_unwanted_by shown (plain_board b)) (sym stands_here)
