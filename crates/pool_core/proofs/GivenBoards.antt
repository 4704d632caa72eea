-- What a ticket that is given makes of a board.
use Rattle.std.proofs.Common.{ℕ, suc, ◌≡◌, ◌++◌, false, List, [], ◌∷◌, Option, IsTrue, sym, ap, ◌∙◌, subst}
use Rattle.objective.specs.Costs.{Table}
use Rattle.objective.specs.declared.Outcome.{Outcome}
use Rattle.wrapper_lines.specs.declared.runs.Key.{Key}
use Rattle.uncapped.specs.Uncapped.{Run}
use Rattle.ils_face.specs.declared.asks.Reply.{Reply}
use Rattle.ils_face.specs.Follows.{Follows, sums_under}
use Rattle.ils_face.specs.Rules.{Rules, AreRules}
use Rattle.ils_face.specs.Views.{View}
use Rattle.run_cache.specs.declared.cell.Cell.{Cell}
use Rattle.run_cache.specs.Caches.{Cached, has_place_in}
use Rattle.board_steps.specs.declared.answers.Taken.TheVariants as taken
use Rattle.board_steps.specs.declared.tickets.Kind.{Kind}
use Rattle.board_steps.specs.declared.tickets.Ticket.{Ticket}
use Rattle.board_steps.specs.Boards.{BoardState, plain_board}
use Rattle.board_steps.specs.BoardInvariant.{BoardInvariant}
use Rattle.board_steps.specs.Ledgers.{take_event, unmarked}
use Rattle.board_steps.specs.Numbering.{IsRunnable}
use Rattle.board_steps.specs.ProblemRuns.{key_of}
use Rattle.board_steps.specs.Steps.{ticket_for, taken_on, with_ticket, after_take}
use Rattle.board_steps.specs.Tickets.{has_ticket}
use Rattle.board_steps.proofs.KeptBoards.{IsStep, step-take}
use Rattle.pool_core.proofs.Offers.{ticket-parts}
use Rattle.pool_core.proofs.PresentVerdicts.{after-taken}

module _ (shown : Rules → List Reply → View) (procedure : Rules → Table → Run) (truth : Option (Key → Outcome)) where
  -- a board that gave a ticket: its invariant, and that it is the board after a take
  pub record HasGiven (now given : BoardState) : Type 0 where
    pub kept : BoardInvariant shown procedure truth given
    pub board : plain_board given ≡ after_take shown (plain_board now)

  -- a ticket that is offered is given, once its cell has a place in the cache
  pub ticket-given : ((rules : Rules) (T : Table) → AreRules rules → Follows (shown rules) (sums_under rules T) (procedure rules T))
      → (now b : BoardState) (kind : Kind) (cell : Cell) (cutoff : ℕ) (t : Ticket) (cache : Cached) (copy : Cell)
      → b ≡ now → t ≡ ticket_for (plain_board now) kind cell cutoff → copy ≡ t.cell
      → taken_on shown (plain_board now) ≡ taken.Ticket (ticket_for (plain_board now) kind cell cutoff) → now.stopped ≡ false → has_ticket now.live cell ≡ false
      → IsRunnable now.problem.rules cell cutoff → IsStep shown procedure truth (record b { cache = cache }) (plain_board b)
      → IsTrue (has_place_in cache copy.config copy.place)
      → HasGiven now (record b { cache = cache; live = b.live ++ unmarked t ∷ []; next = suc b.next; journal = b.journal ++ take_event t ∷ [] })
  ticket-given follows now b kind cell cutoff t cache copy same t_is copied offered running alone runnable places has_place =
      let parts = ticket-parts now kind cell cutoff t t_is in
      let after : plain_board (record b { cache = cache }) ≡ plain_board now = places.plain_is ∙ ap plain_board same in
      let offers : taken_on shown (plain_board now) ≡ taken.Ticket t = offered ∙ ap taken.Ticket (sym t_is) in
      let R : BoardState → Type 0 = λ x. IsRunnable x.problem.rules t.cell t.run.cutoff.0 in
      let may_run = subst R (sym same) (rw (parts.of_cell, parts.with_cutoff) runnable) in
      let A : BoardState → Type 0 = λ x. has_ticket x.live t.cell ≡ false in
      let only = subst A (sym same) (ap (has_ticket now.live) parts.of_cell ∙ alone) in
      let H : Cell → Type 0 = λ x. IsTrue (has_place_in cache x.config x.place) in
      let step = step-take shown procedure truth follows (record b { cache = cache }) t (ap (taken_on shown) after ∙ offers) (ap (λ s. s.stopped) same ∙ running)
      (parts.number ∙ sym (ap (λ s. s.next) same)) (parts.key ∙ sym (ap (λ x. key_of x.problem t.cell) same)) may_run only (subst H copied has_place) places.kept in
      record {
        kept = step.kept;
        board = step.plain_is ∙ ap (λ x. with_ticket x t) after ∙ after-taken shown (plain_board now) (taken.Ticket t) (sym offers);
      }
