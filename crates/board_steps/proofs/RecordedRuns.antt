-- The runs that a journal records: they are rising, what is known comes of them, and the tickets that are live tell more.
use Rattle.std.proofs.Common.{◌≡◌, ◌≤◌, ◌++◌, ◌&&◌, not, Bool, true, false, List, [], ◌∷◌, Some, All, get_or, refl, sym, ap, subst, ◌∙◌, if◌then◌else◌}
use Rattle.std.specs.List.{count_by}
use Rattle.std.proofs.lemmas.List.{append-nil, append_assoc}
use Rattle.std.proofs.lemmas.List.Elements.{All-push}
use Rattle.objective.specs.declared.Answer.{Answer}
use Rattle.ils_face.specs.Rules.{Rules}
use Rattle.run_cache.specs.Caches.{Knowledge}
use Rattle.run_cache.specs.Knowledge.{is_settled}
use Rattle.run_cache.specs.Runs.{IsRising, IsBacked}
use Rattle.run_cache.proofs.FurtherRuns.{rising_more, backed_more}
use Rattle.capping.specs.Decisions.{after_run}
use Rattle.capping.proofs.OtherCells.{run-aside}
use Rattle.board_steps.specs.declared.events.Event.{Event}
use Rattle.board_steps.specs.declared.events.Event.TheVariants.{Record, Mark}
use Rattle.board_steps.specs.declared.tickets.Kind.TheVariants.{Asked}
use Rattle.board_steps.specs.declared.tickets.LiveTicket.{LiveTicket}
use Rattle.board_steps.specs.declared.tickets.Ticket.{Ticket}
use Rattle.board_steps.specs.Ledgers.{take_event}
use Rattle.board_steps.specs.Numbering.{tickets_of}
use Rattle.board_steps.specs.Tickets.{same_cell, live_at, without, mark_event, mark_events}
use Rattle.board_steps.specs.JournalRuns.{runs_of, recorded_in, run_of}
use Rattle.board_steps.specs.RecordedRuns.{IsAskedTake, IsUnsettled, AreRecorded}
use Rattle.board_steps.proofs.JournalRuns.{runs-other, runs-marks, of-live}
use Rattle.board_steps.proofs.LiveTickets.{all-without, others-apart}

-- one more event that records no run, and takes no ticket ahead
pub recorded-other : (rules : Rules) (known : Knowledge) (tickets : List Ticket) (journal : List Event) (e : Event) → recorded_in journal e ≡ [] → IsAskedTake e
    → AreRecorded rules known tickets journal → AreRecorded rules known tickets (journal ++ e ∷ [])
recorded-other rules known tickets journal e none is_asked r =
    let same = runs-other journal e none in
    record {
      rising = subst IsRising (sym same) r.rising;
      backed = subst (λ runs. IsBacked rules.limits runs known) (sym same) r.backed;
      unsettled = r.unsettled;
      asked = λ alone. All-push IsAskedTake journal e (r.asked alone) is_asked;
    }

-- other tickets, whose runs tell more too
pub recorded-tickets : (rules : Rules) (known : Knowledge) (tickets others : List Ticket) (journal : List Event) → All (IsUnsettled known) others
    → AreRecorded rules known tickets journal → AreRecorded rules known others journal
recorded-tickets rules known tickets others journal unsettled r = record { rising = r.rising; backed = r.backed; unsettled = unsettled; asked = r.asked }

-- a mark takes no ticket
marks-asked : (journal : List Event) (p : LiveTicket → Bool) (live : List LiveTicket) → All IsAskedTake journal → All IsAskedTake (journal ++ mark_events p live)
marks-asked journal p [] all = rw (append-nil journal) all
marks-asked journal p (l ∷ live) all =
    rw (← append_assoc journal (mark_event p l) (mark_events p live)) (marks-asked (journal ++ mark_event p l) p live (by (p l && not l.marked)))
  where
    by : (to_mark : Bool) → All IsAskedTake (journal ++ (if to_mark then Mark l.ticket.number ∷ [] else []))
    by true = All-push IsAskedTake journal (Mark l.ticket.number) all tt
    by false = rw (append-nil journal) all

-- live tickets are marked
pub recorded-marks : (rules : Rules) (known : Knowledge) (tickets : List Ticket) (journal : List Event) (p : LiveTicket → Bool) (live : List LiveTicket)
    → AreRecorded rules known tickets journal → AreRecorded rules known tickets (journal ++ mark_events p live)
recorded-marks rules known tickets journal p live r =
    let same = runs-marks journal p live in
    record {
      rising = subst IsRising (sym same) r.rising;
      backed = subst (λ runs. IsBacked rules.limits runs known) (sym same) r.backed;
      unsettled = r.unsettled;
      asked = λ alone. marks-asked journal p live (r.asked alone);
    }

-- a ticket is taken, whose run tells more
pub recorded-take : (rules : Rules) (known : Knowledge) (tickets : List Ticket) (journal : List Event) (t : Ticket) → IsUnsettled known t
    → (rules.workers ≡ 1 → t.kind ≡ Asked)
    → AreRecorded rules known tickets journal → AreRecorded rules known (tickets ++ t ∷ []) (journal ++ take_event t ∷ [])
recorded-take rules known tickets journal t tells_more is_asked r =
    let same = runs-other journal (take_event t) refl in
    record {
      rising = subst IsRising (sym same) r.rising;
      backed = subst (λ runs. IsBacked rules.limits runs known) (sym same) r.backed;
      unsettled = All-push (IsUnsettled known) tickets t r.unsettled tells_more;
      asked = λ alone. All-push IsAskedTake journal (take_event t) (r.asked alone) (is_asked alone);
    }

-- ---- an answer

-- an answer is learnt that a live ticket's run shows
pub recorded-answer : (rules : Rules) (known : Knowledge) (live : List LiveTicket) (journal : List Event) (answer : Answer) (l : LiveTicket)
    → live_at live l.ticket.number ≡ Some l → count_by (λ t. same_cell l.ticket.cell t.cell) (tickets_of live) ≤ 1
    → runs_of (journal ++ Record l.ticket.number answer ∷ []) ≡ runs_of journal ++ run_of l.ticket answer ∷ []
    → AreRecorded rules known (tickets_of live) journal
    → AreRecorded rules (after_run rules.limits known l.ticket.cell l.ticket.run.cutoff.0 answer) (tickets_of (without live l.ticket.number)) (journal ++ Record l.ticket.number answer ∷ [])
recorded-answer rules known live journal answer l found once runs r =
    let t = l.ticket in
    let after = after_run rules.limits known t.cell t.run.cutoff.0 answer in
    let tells_more : IsUnsettled known t = of-live (IsUnsettled known) live l found r.unsettled in
    record {
      rising = subst IsRising (sym runs) (rising_more rules.limits (runs_of journal) (run_of t answer) known tells_more r.backed r.rising);
      backed = subst (λ rs. IsBacked rules.limits rs after) (sym runs) (backed_more rules.limits (runs_of journal) (run_of t answer) known tells_more r.backed);
      unsettled = All-both (tickets_of (without live t.number)) (others-apart live l found once) (all-without (IsUnsettled known) live t.number r.unsettled);
      asked = λ alone. All-push IsAskedTake journal (Record t.number answer) (r.asked alone) tt;
    }
  where
    other : (u : Ticket) → same_cell l.ticket.cell u.cell ≡ false → IsUnsettled known u → IsUnsettled (after_run rules.limits known l.ticket.cell l.ticket.run.cutoff.0 answer) u
    other u apart before =
        ap (λ k. is_settled k u.run.cutoff.0) (run-aside rules.limits known l.ticket.cell l.ticket.run.cutoff.0 answer u.cell.config u.cell.place apart) ∙ before

    All-both : (us : List Ticket) → All (λ u. same_cell l.ticket.cell u.cell ≡ false) us → All (IsUnsettled known) us
        → All (IsUnsettled (after_run rules.limits known l.ticket.cell l.ticket.run.cutoff.0 answer)) us
    All-both us apart before = λ k d within. other (get_or us k d) (apart k d within) (before k d within)
