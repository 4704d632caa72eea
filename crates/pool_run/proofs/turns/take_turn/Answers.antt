use Rattle.std.proofs.Common.{◌≡◌, ◌++◌, List, [], ◌∷◌, Result, Ok, Err, OnErr, Bool, ap, sym, subst, ◌∙◌}
use Rattle.outside.specs.ToldStates.{SpawnerTold}
use Rattle.board_steps.specs.Boards.{PlainBoard, plain_board}
use Rattle.board_steps.specs.declared.tickets.Ticket.{Ticket}
use Rattle.pool_run.specs.Seats.{SeatState}
use Rattle.pool_run.specs.Turns.{KeepsGoing}
use Rattle.pool_run.proofs.TurnSteps.{need-never, took-so, idle-so}
use Rattle.pool_run.proofs.turns.take_turn.Goals as goal

-- what holds anyway holds where a call fails
always-err : {T E : Type 0} {P : Type 0} (r : Result T E) → P → OnErr r P
always-err (Ok x) holds = tt
always-err (Err e) holds = holds

-- a seat with one more ticket
list-more : (told : SpawnerTold) (failed short : Bool) (ts ts' : List Ticket) (seat : SeatState) (t : Ticket)
    → record { told = told; tickets = ts; failed = failed; short = short } ≡ seat → ts' ≡ ts ++ t ∷ []
    → record { told = told; tickets = ts'; failed = failed; short = short } ≡ record seat { tickets = seat.tickets ++ t ∷ [] }
list-more told failed short ts ts' seat t view more =
    let with_one : SeatState → SeatState = λ s. record s { tickets = s.tickets ++ t ∷ [] } in
    let listed : List Ticket → SeatState = λ xs. record { told = told; tickets = xs; failed = failed; short = short } in
    ap listed more ∙ ap with_one view

-- a seat with the same tickets
list-same : (told : SpawnerTold) (failed short : Bool) (ts ts' : List Ticket) (seat : SeatState)
    → record { told = told; tickets = ts; failed = failed; short = short } ≡ seat → ts' ≡ ts
    → record { told = told; tickets = ts'; failed = failed; short = short } ≡ seat
list-same told failed short ts ts' seat view same =
    let listed : List Ticket → SeatState = λ xs. record { told = told; tickets = xs; failed = failed; short = short } in
    ap listed same ∙ view

pub returns-in_err-ticket-clause-keeps : goal.returns-in_err-ticket-clause-keeps
returns-in_err-ticket-clause-keeps g c =
    let P : PlainBoard → Type 0 = λ b. KeepsGoing (plain_board c.args.board.now) b in
    always-err _ (subst P (sym c.in_err-ticket.ensures.err) c.in_ok-needed.ensures.advanced.keeps)

pub returns-in-Ticket-clause-turned : goal.returns-in-Ticket-clause-turned
returns-in-Ticket-clause-turned g c =
    let i = c.seat.inside in
    let t = c.in-Ticket.ticket in
    let more : c.push_reserved.new.self.items ≡ i.tickets.items ++ t ∷ [] = ◌∙◌ {A = List Ticket} c.push_reserved.ensures.items (ap (λ ts. ts ++ t ∷ []) c.reserve.ensures.items) in
    took-so g.P.Search.shown (plain_board c.args.board.now) (plain_board c.advance_and_mark.new.board) (plain_board c.take.new.self) c.in_ok-needed.needed _ c.args.seat.now _ t
    c.in_ok-needed.ensures.advanced c.in_ok-ticket.ensures.answer c.in-Ticket.is c.in_ok-ticket.ensures.board
    (list-more (g.S.Spawner.told i.spawner) i.failed i.short i.tickets.items c.push_reserved.new.self.items c.args.seat.now t c.seat.view_is more)

pub returns-in-Idle-clause-turned : goal.returns-in-Idle-clause-turned
returns-in-Idle-clause-turned g c =
    let i = c.seat.inside in
    idle-so g.P.Search.shown (plain_board c.args.board.now) (plain_board c.advance_and_mark.new.board) (plain_board c.take.new.self) c.in_ok-needed.needed _ c.args.seat.now _
    c.in_ok-needed.ensures.advanced c.if-not-needed.false c.in_ok-ticket.ensures.answer c.in-Idle.is c.in_ok-ticket.ensures.board
    (list-same (g.S.Spawner.told i.spawner) i.failed i.short i.tickets.items c.reserve.new.self.items c.args.seat.now c.seat.view_is c.reserve.ensures.items)

pub unreachable-requires : goal.unreachable-requires
unreachable-requires g c =
    need-never g.P.Search.shown (plain_board c.args.board.now) (plain_board c.advance_and_mark.new.board) c.in_ok-needed.needed _
    c.in_ok-needed.ensures.advanced c.if-not-needed.false c.in_ok-ticket.ensures.answer c.in-Decided.is
