-- The tickets that a board offers.
use Rattle.std.proofs.Common.{ℕ, ◌≡◌, ◌&&◌, not, Bool, true, false, List, Option, Result, Ok, Err, OnErr, refl, sym, ap, ◌∙◌, if◌then◌else◌}
use Rattle.std.specs.List.{find}
use Rattle.objective.specs.declared.Micros.{Micros}
use Rattle.ils_face.specs.declared.asks.Reply.{Reply}
use Rattle.ils_face.specs.Rules.{Rules}
use Rattle.ils_face.specs.Views.{View}
use Rattle.run_cache.specs.declared.cell.Cell.{Cell}
use Rattle.run_cache.specs.Knowledge.{is_settled}
use Rattle.capping.specs.declared.verdicts.Verdict.{Verdict}
use Rattle.capping.specs.declared.verdicts.Verdict.TheVariants as verdict
use Rattle.predictor.specs.declared.wish.Wish.{Wish}
use Rattle.board_steps.specs.declared.answers.BoardVerdict.TheVariants as board_verdict
use Rattle.board_steps.specs.declared.answers.Taken.TheVariants as taken
use Rattle.board_steps.specs.declared.tickets.Kind.{Kind}
use Rattle.board_steps.specs.declared.tickets.Kind.TheVariants.{Asked}
use Rattle.board_steps.specs.declared.tickets.Ticket.{Ticket}
use Rattle.board_steps.specs.Boards.{BoardState, plain_board}
use Rattle.board_steps.specs.BoardVerdicts.{asked_cell, board_verdict_by, board_verdict_of}
use Rattle.board_steps.specs.ProblemRuns.{key_of}
use Rattle.board_steps.specs.Steps.{is_free, ticket_for, taken_ahead, taken_beside, taken_by, taken_on}
use Rattle.board_steps.specs.Tickets.{same_cell, has_cell, has_ticket}
use Rattle.board_steps.proofs.Ranges.{and-left}

-- what holds anyway holds where a call fails
pub always-err : {T E : Type 0} {P : Type 0} (r : Result T E) → P → OnErr r P
always-err (Ok x) holds = tt
always-err (Err e) holds = holds

-- the parts of a ticket for a cell
pub record IsTicketFor (b : BoardState) (cell : Cell) (cutoff : ℕ) (t : Ticket) : Type 0 where
  pub number : t.number ≡ b.next
  pub of_cell : t.cell ≡ cell
  pub key : t.run.key ≡ key_of b.problem t.cell
  pub with_cutoff : t.run.cutoff.0 ≡ cutoff

-- a ticket for a cell has these parts
pub ticket-parts : (b : BoardState) (kind : Kind) (cell : Cell) (cutoff : ℕ) (t : Ticket) → t ≡ ticket_for (plain_board b) kind cell cutoff → IsTicketFor b cell cutoff t
unfolding ticket_for plain_board
ticket-parts b kind cell cutoff t is = record {
  number = ap (λ x. x.number) is;
  of_cell = ap (λ x. x.cell) is;
  key = ap (λ x. x.run.key) is ∙ sym (ap (λ x. key_of b.problem x.cell) is);
  with_cutoff = ap (λ x. x.run.cutoff.0) is;
}

-- a test that fails
not-true : (x : Bool) → not x ≡ true → x ≡ false
not-true true h = absurd (let e : false ≡ true = h in cc)
not-true false h = refl

-- a wish that is free has no live ticket
pub free-alone : (b : BoardState) (needed : Cell) (w : Wish) → is_free (plain_board b) needed w ≡ true → has_ticket b.live w.cell ≡ false
unfolding is_free plain_board
free-alone b needed w free =
    let live = has_ticket b.live w.cell in
    let lost_ahead = has_cell b.lost_ahead w.cell in
    let same = same_cell needed w.cell in
    let settled = is_settled ((plain_board b).known w.cell.config w.cell.place) w.cutoff.0 in
    not-true live (and-left (not live) (not lost_ahead) (and-left (not live && not lost_ahead) (not same) (and-left (not live && not lost_ahead && not same) (not settled) free)))

module _ (shown : Rules → List Reply → View) where
  -- an open board isn't stopped
  pub running-open : (b : BoardState) (v : Verdict) → board_verdict_of shown (plain_board b) ≡ board_verdict.Open v → b.stopped ≡ false
  unfolding board_verdict_of plain_board
  running-open b v stands = either b.stopped refl stands
    where
      either : (s : Bool) → b.stopped ≡ s → (if s then board_verdict.Stopped else board_verdict_by shown (plain_board b) b.aborted) ≡ board_verdict.Open v → b.stopped ≡ false
      either true is opened = absurd (let e : board_verdict.Stopped ≡ board_verdict.Open v = opened in cc)
      either false is opened = is

  -- a ticket for the needed cell
  pub offered-asked : (b : BoardState) (needed : Cell) (place : ℕ) (cutoff : Micros) → board_verdict_of shown (plain_board b) ≡ board_verdict.Open (verdict.Need place cutoff)
      → needed ≡ asked_cell shown (plain_board b) place → has_ticket b.live needed ≡ false
      → taken_on shown (plain_board b) ≡ taken.Ticket (ticket_for (plain_board b) Asked needed cutoff.0)
  unfolding taken_on plain_board
  offered-asked b needed place cutoff stands is alone =
      ap (taken_by shown (plain_board b)) stands ∙ ap (λ x. taken_beside (plain_board b) x cutoff.0) (sym is)
      ∙ ap (λ t. if t then taken_ahead (plain_board b) (find (is_free (plain_board b) needed) b.wishes) else taken.Ticket (ticket_for (plain_board b) Asked needed cutoff.0)) alone

  -- what is offered beside the needed cell
  pub offered-ahead : (b : BoardState) (needed : Cell) (place : ℕ) (cutoff : Micros) (o : Option Wish) → board_verdict_of shown (plain_board b) ≡ board_verdict.Open (verdict.Need place cutoff)
      → needed ≡ asked_cell shown (plain_board b) place → has_ticket b.live needed ≡ true → o ≡ find (is_free (plain_board b) needed) b.wishes
      → taken_on shown (plain_board b) ≡ taken_ahead (plain_board b) o
  unfolding taken_on plain_board
  offered-ahead b needed place cutoff o stands is busy found =
      ap (taken_by shown (plain_board b)) stands ∙ ap (λ x. taken_beside (plain_board b) x cutoff.0) (sym is)
      ∙ ap (λ t. if t then taken_ahead (plain_board b) (find (is_free (plain_board b) needed) b.wishes) else taken.Ticket (ticket_for (plain_board b) Asked needed cutoff.0)) busy
      ∙ ap (taken_ahead (plain_board b)) (sym found)
