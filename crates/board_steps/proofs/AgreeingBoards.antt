-- What a board knows agrees with the outcomes of its problem.
use Rattle.std.proofs.Common.{ℕ, ◌≡◌, ◌++◌, Bool, true, false, List, [], ◌∷◌, Option, Some, None, All, refl, ap, ◌∙◌, subst, if◌then◌else◌}
use Rattle.std.specs.Prelude.{IsSome}
use Rattle.std.specs.Cmp.Lexicographic.{pointwise}
use Rattle.std.proofs.lemmas.List.Elements.{All-nil, All-push}
use Rattle.objective.specs.Bounds.{Bounds}
use Rattle.objective.specs.Costs.{Table, seen}
use Rattle.objective.specs.declared.Answer.{Answer}
use Rattle.objective.specs.declared.Outcome.{Outcome}
use Rattle.wrapper_lines.specs.declared.runs.Key.{Key}
use Rattle.ils_face.specs.declared.asks.Reply.{Reply}
use Rattle.ils_face.specs.Rules.{Rules}
use Rattle.ils_face.specs.Views.{View}
use Rattle.run_cache.specs.declared.cell.Cell.{Cell}
use Rattle.run_cache.specs.declared.known.Known.{Known}
use Rattle.run_cache.specs.Caches.{Knowledge, is_at, known_after, conflicts_after}
use Rattle.run_cache.specs.Knowledge.{Agrees}
use Rattle.run_cache.proofs.Agreement.{learns}
use Rattle.board_steps.specs.declared.events.Event.{Event}
use Rattle.board_steps.specs.declared.events.Event.TheVariants.{Advance, Lost, Killed, Stop, Resume}
use Rattle.board_steps.specs.declared.tickets.LiveTicket.{LiveTicket}
use Rattle.board_steps.specs.declared.tickets.Ticket.{Ticket}
use Rattle.board_steps.specs.Boards.{PlainBoard, opening}
use Rattle.board_steps.specs.Ledgers.{take_event}
use Rattle.board_steps.specs.Numbering.{IsTicket, AreNumbered, tickets_of}
use Rattle.board_steps.specs.BoardVerdicts.{wishes_on}
use Rattle.board_steps.specs.Problem.{Problem}
use Rattle.board_steps.specs.ProblemRuns.{key_of, told_outcome, table_of}
use Rattle.board_steps.specs.Steps.{with_ticket, known_from, is_conflict, with_answer, with_loss, with_kill, with_reply, with_wishes, with_abort, same_wish, marked_board, stopped_board, resumed_board}
use Rattle.board_steps.specs.Tickets.{live_at}
use Rattle.board_steps.specs.JournalRuns.{runs_of, recorded_in, run_of, AreTaken}
use Rattle.board_steps.specs.AgreeingBoards.{IsShown, IsAgreeing}
use Rattle.board_steps.proofs.JournalRuns.{of-live, runs-other, runs-marks, runs-answer}
use Rattle.board_steps.proofs.SameCells.{same_cell-Decides}

-- an answer that is what the outcome of each key shows, where the outcomes are told
pub told-answer : (truth : Option (Key → Outcome)) (key : Key) (cutoff : ℕ) (answer : Answer) → IsSome truth
    → ((outcome : Key → Outcome) → truth ≡ Some outcome → answer ≡ seen (outcome key) cutoff) → answer ≡ seen (told_outcome truth key) cutoff
told-answer None key cutoff answer some told = absurd (let e : false ≡ true = some in cc)
told-answer (Some outcome) key cutoff answer some told = told outcome refl

-- what is known agrees with a table, and goes on so after a run of one cell that comes to agree
agrees-after : (limits : Bounds) (T : Table) (before : Knowledge) (cell : Cell) (known : Known)
    → ((config : List ℕ) (place : ℕ) → Agrees limits (before config place) (T config place)) → Agrees limits known (T cell.config cell.place)
    → (config : List ℕ) (place : ℕ) → Agrees limits (known_after before cell known config place) (T config place)
agrees-after limits T before cell known agrees learnt config place = at (is_at cell config place) refl
  where
    at : (here : Bool) → is_at cell config place ≡ here → Agrees limits (if here then known else before config place) (T config place)
    at true e =
        let P : Cell → Type 0 = λ c. Agrees limits known (T c.config c.place) in
        subst P ((same_cell-Decides cell (record { config = config; place = place })).0 e) learnt
    at false e = agrees config place

module _ (truth : Option (Key → Outcome)) where
  -- one more event that records nothing
  shown-other : (problem : Problem) (journal : List Event) (e : Event) → recorded_in journal e ≡ [] → All (IsShown (table_of truth problem)) (runs_of journal)
      → All (IsShown (table_of truth problem)) (runs_of (journal ++ e ∷ []))
  shown-other problem journal e none all = rw (runs-other journal e none) all

  -- ---- each step

  pub agreeing-opening : (problem : Problem) → IsAgreeing truth (opening problem)
  agreeing-opening problem = record { known = λ config place. tt; conflicts = refl; shown = All-nil (IsShown (table_of truth problem)) }

  pub agreeing-ticket : (b : PlainBoard) (t : Ticket) → IsAgreeing truth b → IsAgreeing truth (with_ticket b t)
  agreeing-ticket b t a = record { known = a.known; conflicts = a.conflicts; shown = shown-other b.problem b.journal (take_event t) refl a.shown }

  -- the answer is what the truth shows of the ticket's run
  pub agreeing-answer : (b : PlainBoard) (answer : Answer) (l : LiveTicket) → live_at b.live l.ticket.number ≡ Some l
      → answer ≡ seen (told_outcome truth l.ticket.run.key) l.ticket.run.cutoff.0
      → AreNumbered b.problem (tickets_of b.live) b.next b.journal → AreTaken b → IsAgreeing truth b → IsAgreeing truth (with_answer b answer l)
  unfolding with_answer known_from is_conflict key_of
  agreeing-answer b answer l found told n taken a =
      let T = table_of truth b.problem in
      let limits = b.problem.rules.limits in
      let cell = l.ticket.cell in
      let cutoff = l.ticket.run.cutoff.0 in
      let ticket : IsTicket b.problem b.next l.ticket = of-live (IsTicket b.problem b.next) b.live l found n.each in
      let shows : answer ≡ seen (T cell.config cell.place) cutoff = told ∙ ap (λ key. seen (told_outcome truth key) cutoff) ticket.key in
      let learnt = learns limits (b.known cell.config cell.place) cutoff answer (T cell.config cell.place) ticket.runnable.in_range (a.known cell.config cell.place) shows in
      record {
        known = agrees-after limits T b.known cell (known_from b answer l) a.known learnt.agrees;
        conflicts = ap (conflicts_after b.conflicts) learnt.no_conflict ∙ a.conflicts;
        shown = rw (runs-answer b answer l found taken) (All-push (IsShown T) (runs_of b.journal) (run_of l.ticket answer) a.shown shows);
      }

  pub agreeing-loss : (b : PlainBoard) (l : LiveTicket) → IsAgreeing truth b → IsAgreeing truth (with_loss b l)
  unfolding with_loss
  agreeing-loss b l a = record { known = a.known; conflicts = a.conflicts; shown = shown-other b.problem b.journal (Lost l.ticket.number) refl a.shown }

  pub agreeing-kill : (b : PlainBoard) (l : LiveTicket) → IsAgreeing truth b → IsAgreeing truth (with_kill b l)
  unfolding with_kill
  agreeing-kill b l a = record { known = a.known; conflicts = a.conflicts; shown = shown-other b.problem b.journal (Killed l.ticket.number) refl a.shown }

  pub agreeing-marks : (b : PlainBoard) (p : LiveTicket → Bool) → IsAgreeing truth b → IsAgreeing truth (marked_board b p)
  agreeing-marks b p a = record { known = a.known; conflicts = a.conflicts; shown = rw (runs-marks b.journal p b.live) a.shown }

  pub agreeing-stop : (b : PlainBoard) → IsAgreeing truth b → IsAgreeing truth (stopped_board b)
  agreeing-stop b a = record { known = a.known; conflicts = a.conflicts; shown = shown-other b.problem b.journal Stop refl a.shown }

  pub agreeing-resume : (b : PlainBoard) → IsAgreeing truth b → IsAgreeing truth (resumed_board b)
  agreeing-resume b a = record { known = a.known; conflicts = a.conflicts; shown = shown-other b.problem b.journal Resume refl a.shown }

  module _ (shown : Rules → List Reply → View) where
    pub agreeing-reply : (b : PlainBoard) (r : Reply) → IsAgreeing truth b → IsAgreeing truth (with_reply shown b r)
    unfolding with_reply
    agreeing-reply b r a = record { known = a.known; conflicts = a.conflicts; shown = shown-other b.problem b.journal Advance refl a.shown }

    pub agreeing-abort : (b : PlainBoard) (place : ℕ) → IsAgreeing truth b → IsAgreeing truth (with_abort shown b place)
    unfolding with_abort
    agreeing-abort b place a = record { known = a.known; conflicts = a.conflicts; shown = shown-other b.problem b.journal Advance refl a.shown }

    pub agreeing-wishes : (b : PlainBoard) → IsAgreeing truth b → IsAgreeing truth (with_wishes shown b)
    unfolding with_wishes
    agreeing-wishes b a = at (pointwise same_wish b.wishes (wishes_on shown b))
      where
        at : (same : Bool) → IsAgreeing truth (if same then b else record b { wishes = wishes_on shown b; journal = b.journal ++ Advance ∷ [] })
        at true = a
        at false = record { known = a.known; conflicts = a.conflicts; shown = shown-other b.problem b.journal Advance refl a.shown }
