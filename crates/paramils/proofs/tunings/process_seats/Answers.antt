use Rattle.std.proofs.Common.{◌≡◌, true, ap, ◌∙◌}
use Rattle.std.specs.Prelude.{is_none}
use Rattle.std.proofs.lemmas.List.Elements.{All-push}
use Rattle.paramils.proofs.tunings.process_seats.Goals as goal

pub loop-number-preserved : goal.loop-number-preserved
loop-number-preserved g c =
    rw (← c.in_ok-push.ensures.items) at (All-push (λ seat. seat.told.idle ≡ true) _ c.new-in-loop-number.result c.loop-number.invariant (ap (λ seat. seat.told.idle) c.new-in-loop-number.ensures ∙ ap is_none c.in_ok-new.ensures.idle))
