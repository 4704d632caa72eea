-- What a board gives a ticket for, and what its verdict is.
use Rattle.std.proofs.Common.{ℕ, ◌≡◌, ◌⊎◌, Bool, true, false, List, Option, Some, None, refl, sym, ap, inl, inr, if◌then◌else◌}
use Rattle.std.specs.List.{find}
use Rattle.ils_face.specs.declared.asks.Reply.{Reply}
use Rattle.ils_face.specs.Rules.{Rules}
use Rattle.ils_face.specs.Views.{View}
use Rattle.objective.specs.declared.Micros.{Micros}
use Rattle.run_cache.specs.declared.cell.Cell.{Cell}
use Rattle.capping.specs.declared.verdicts.Verdict.{Verdict}
use Rattle.capping.specs.declared.verdicts.Verdict.TheVariants as verdict
use Rattle.predictor.specs.declared.wish.Wish.{Wish}
use Rattle.board_steps.specs.declared.answers.BoardVerdict.{BoardVerdict}
use Rattle.board_steps.specs.declared.answers.BoardVerdict.TheVariants as board_verdict
use Rattle.board_steps.specs.declared.answers.Taken.{Taken}
use Rattle.board_steps.specs.declared.answers.Taken.TheVariants as taken
use Rattle.board_steps.specs.declared.tickets.Kind.TheVariants.{Asked, Ahead}
use Rattle.board_steps.specs.declared.tickets.Ticket.{Ticket}
use Rattle.board_steps.specs.Boards.{PlainBoard}
use Rattle.board_steps.specs.BoardVerdicts.{verdict_on, asked_cell, board_verdict_by, board_verdict_of}
use Rattle.board_steps.specs.Steps.{ticket_for, is_free, taken_ahead, taken_by, taken_on}
use Rattle.board_steps.specs.Tickets.{has_ticket}

-- the verdict of an open board_verdict
abbrev verdict_in : BoardVerdict → Verdict → Verdict
verdict_in board_verdict.Stopped other = other
verdict_in board_verdict.Aborted other = other
verdict_in (board_verdict.Open v) other = v

-- the ticket of a take
abbrev ticket_in : Taken → Ticket → Ticket
ticket_in (taken.Ticket t) other = t
ticket_in taken.Idle other = other
ticket_in taken.Decided other = other
ticket_in taken.Ended other = other
ticket_in taken.Stopped other = other

module _ (shown : Rules → List Reply → View) where
  -- an open board goes by its verdict
  pub verdict-open : (b : PlainBoard) (v : Verdict) → board_verdict_of shown b ≡ board_verdict.Open v → verdict_on shown b ≡ v
  unfolding board_verdict_of
  verdict-open b v stands = by b.stopped b.aborted stands
    where
      by : (stopped : Bool) (aborted : Option Cell) → (if stopped then board_verdict.Stopped else board_verdict_by shown b aborted) ≡ board_verdict.Open v → verdict_on shown b ≡ v
      by true aborted e = absurd (cc)
      by false (Some cell) e = absurd (cc)
      by false None e = ap (λ p. verdict_in p v) e

  -- the ticket is for the needed cell, under the cutoff that is needed
  pub record IsNeededTicket (b : PlainBoard) (t : Ticket) : Type 0 where
    pub place : ℕ
    pub cutoff : Micros
    pub stands : board_verdict_of shown b ≡ board_verdict.Open (verdict.Need place cutoff)
    pub alone : has_ticket b.live (asked_cell shown b place) ≡ false
    pub ticket : t ≡ ticket_for b Asked (asked_cell shown b place) cutoff.0

  -- the ticket is for the first free wish, while the needed cell has a live ticket
  pub record IsAheadTicket (b : PlainBoard) (t : Ticket) : Type 0 where
    pub place : ℕ
    pub cutoff : Micros
    pub stands : board_verdict_of shown b ≡ board_verdict.Open (verdict.Need place cutoff)
    pub running : has_ticket b.live (asked_cell shown b place) ≡ true
    pub wish : Wish
    pub free : find (is_free b (asked_cell shown b place)) b.wishes ≡ Some wish
    pub ticket : t ≡ ticket_for b Ahead wish.cell wish.cutoff.0

  given_ahead : (b : PlainBoard) (t : Ticket) (place : ℕ) (cutoff : Micros) → board_verdict_of shown b ≡ board_verdict.Open (verdict.Need place cutoff)
      → has_ticket b.live (asked_cell shown b place) ≡ true → (o : Option Wish) → find (is_free b (asked_cell shown b place)) b.wishes ≡ o
      → taken_ahead b o ≡ taken.Ticket t → IsAheadTicket b t
  given_ahead b t place cutoff stands running None free given = absurd (cc)
  given_ahead b t place cutoff stands running (Some w) free given = record {
    place = place;
    cutoff = cutoff;
    stands = stands;
    running = running;
    wish = w;
    free = free;
    ticket = sym (ap (λ x. ticket_in x t) given);
  }

  given_beside : (b : PlainBoard) (t : Ticket) (place : ℕ) (cutoff : Micros) → board_verdict_of shown b ≡ board_verdict.Open (verdict.Need place cutoff)
      → (running : Bool) → has_ticket b.live (asked_cell shown b place) ≡ running
      → (if running then taken_ahead b (find (is_free b (asked_cell shown b place)) b.wishes) else taken.Ticket (ticket_for b Asked (asked_cell shown b place) cutoff.0)) ≡ taken.Ticket t
      → IsNeededTicket b t ⊎ IsAheadTicket b t
  given_beside b t place cutoff stands true running given = inr (given_ahead b t place cutoff stands running (find (is_free b (asked_cell shown b place)) b.wishes) refl given)
  given_beside b t place cutoff stands false running given = inl (record {
    place = place;
    cutoff = cutoff;
    stands = stands;
    alone = running;
    ticket = sym (ap (λ x. ticket_in x t) given);
  })

  given_by : (b : PlainBoard) (t : Ticket) (p : BoardVerdict) → board_verdict_of shown b ≡ p → taken_by shown b p ≡ taken.Ticket t → IsNeededTicket b t ⊎ IsAheadTicket b t
  given_by b t board_verdict.Stopped stands given = absurd (cc)
  given_by b t board_verdict.Aborted stands given = absurd (cc)
  given_by b t (board_verdict.Open (verdict.Reply r)) stands given = absurd (cc)
  given_by b t (board_verdict.Open (verdict.Need place cutoff)) stands given = given_beside b t place cutoff stands (has_ticket b.live (asked_cell shown b place)) refl given
  given_by b t (board_verdict.Open (verdict.Aborted place)) stands given = absurd (cc)
  given_by b t (board_verdict.Open verdict.Ended) stands given = absurd (cc)

  -- what a ticket is given for
  pub given : (b : PlainBoard) (t : Ticket) → taken_on shown b ≡ taken.Ticket t → IsNeededTicket b t ⊎ IsAheadTicket b t
  unfolding taken_on
  given b t offered = given_by b t (board_verdict_of shown b) refl offered
