-- The event by which a board gave a ticket.
use Rattle.std.proofs.Common.{◌≡◌, Bool, true, false, List, All, refl, sym, ap, subst, ◌∙◌}
use Rattle.std.specs.Prelude.{◌↔◌, IsTrue}
use Rattle.std.proofs.lemmas.Bool.{false≢true}
use Rattle.std.proofs.lemmas.Bool.Decides.{Decides-and, Decides-eqb}
use Rattle.std.proofs.lemmas.List.Elements.{All-contains}
use Rattle.board_steps.specs.declared.events.Event.{Event}
use Rattle.board_steps.specs.declared.events.Event.TheVariants.{Take}
use Rattle.board_steps.specs.declared.tickets.Kind.TheVariants.{Asked, Ahead}
use Rattle.board_steps.specs.declared.tickets.Ticket.{Ticket}
use Rattle.board_steps.specs.Ledgers.{take_event}
use Rattle.board_steps.specs.Numbering.{IsRunnable, IsRunnableTake}
use Rattle.board_steps.specs.Problem.{Problem}
use Rattle.board_steps.specs.ProblemRuns.{key_of}
use Rattle.board_steps.proofs.SameCells.{same_cell-Decides}
use Rattle.board_steps.proofs.SameTickets.{same_kind-Decides}
use Rattle.tuner.specs.KeptFaults.{IsTakeOf, IsTakenIn, takes}

-- no other event is that a ticket was taken
none_else : (t : Ticket) (event : Event) → takes t event ≡ false → event ≡ take_event t → takes t (take_event t) ≡ true → ⊥
none_else t event other same taken = absurd (false≢true (sym other ∙ ap (takes t) same ∙ taken))

-- the event of a ticket is that it was taken
own_event : (t : Ticket) → takes t (take_event t) ≡ true
own_event t =
    let number = Decides-and _ _ (Decides-eqb t.number t.number) (Decides-eqb t.place t.place) in
    let kind = Decides-and _ _ number (same_kind-Decides t.kind t.kind) in
    let cell = Decides-and _ _ kind (same_cell-Decides t.cell t.cell) in
    (Decides-and _ _ cell (Decides-eqb t.run.cutoff.0 t.run.cutoff.0)).1 ((((refl, refl), refl), refl), refl)

-- an event by which a ticket is taken is its own
pub taking : (t : Ticket) (event : Event) → takes t event ≡ true → event ≡ take_event t
taking t (Take kind number cell cutoff place) taken =
    let numbers = Decides-and _ _ (Decides-eqb number t.number) (Decides-eqb place t.place) in
    let kinds = Decides-and _ _ numbers (same_kind-Decides kind t.kind) in
    let cells = Decides-and _ _ kinds (same_cell-Decides cell t.cell) in
    let p = (Decides-and _ _ cells (Decides-eqb cutoff.0 t.run.cutoff.0)).0 taken in
    λ i. Take (p.0.0.1 i) (p.0.0.0.0 i) (p.0.1 i) (record { 0 = p.1 i }) (p.0.0.0.1 i)
taking t e taken = absurd (false≢true taken)

-- an event of another ticket isn't of this one
pub of_another : (problem : Problem) (event : Event) (t : Ticket) → takes t event ≡ false → IsTakeOf problem t event → ⊥
of_another problem event t other h = none_else t event other h.event_is (own_event t)

-- nor is one of a ticket that was given ahead
pub of_ahead : (problem : Problem) (event : Event) (t : Ticket) → t.kind ≡ Ahead → IsTakeOf problem t event → ⊥
of_ahead problem event t ahead h = absurd (let asked : t.kind ≡ Asked = h.asked.asked in cc)

-- a ticket that is taken may be run
pub runnable_by : (problem : Problem) (event : Event) (t : Ticket) → takes t event ≡ true → IsRunnableTake problem.rules event
    → IsRunnable problem.rules t.cell t.run.cutoff.0
runnable_by problem event t taken runnable =
    let R : Event → Type 0 = λ e. IsRunnableTake problem.rules e in subst R (taking t event taken) runnable

-- an event by which a ticket is taken that was asked for is of it exactly where the ticket has the key of its cell
pub taken_exactly : (problem : Problem) (event : Event) (t : Ticket) → takes t event ≡ true → t.kind ≡ Asked → IsRunnableTake problem.rules event
    → (result : Bool) → IsTrue result ↔ (t.run.key ≡ key_of problem t.cell) → IsTrue result ↔ IsTakeOf problem t event
taken_exactly problem event t taken asked runnable result key = (
  λ e. record { event_is = taking t event taken; asked = record { asked = asked; key = key.0 e; runnable = runnable_by problem event t taken runnable } },
  λ h. key.1 h.asked.key,
)

-- where no event is of a ticket, the journal hasn't that it was taken
pub none_taken : (problem : Problem) (journal : List Event) (t : Ticket) → All (λ e. ¬ IsTakeOf problem t e) journal → IsTakenIn problem journal t → ⊥
none_taken problem journal t none h =
    All-contains (λ e. ¬ IsTakeOf problem t e) journal (take_event t) none h.taken (record { event_is = refl; asked = h.asked })
