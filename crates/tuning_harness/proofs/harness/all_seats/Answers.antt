use Rattle.std.proofs.Common.{◌≡◌, true}
use Rattle.std.proofs.lemmas.List.Elements.{All-push}
use Rattle.tuning_harness.proofs.harness.all_seats.Goals as goal

pub loop-preserved : goal.loop-preserved
loop-preserved c =
    rw (← c.in_ok-push.ensures.items) at (All-push (λ seat. seat.told.idle ≡ true) _ c.in_ok-seat.field-0 c.loop.invariant c.in_ok-seat.ensures)
