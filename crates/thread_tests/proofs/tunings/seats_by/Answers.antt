use Rattle.std.proofs.Common.{◌≡◌, true}
use Rattle.std.proofs.lemmas.List.Elements.{All-push}
use Rattle.thread_tests.proofs.tunings.seats_by.Goals as goal

pub loop-preserved : goal.loop-preserved
loop-preserved g c =
    rw (← c.in_ok-push.ensures.items) at (All-push (λ seat. seat.told.idle ≡ true) _ c.in_ok-seat_by.field-0 c.loop.invariant c.in_ok-seat_by.ensures)
