use Rattle.std.proofs.Common.{Option, IfSome, sym, ◌∙◌, subst}
use Rattle.predictor.specs.Foresights.{SearchState, BeginsAt}
use Rattle.predictor.specs.LookAheads.{LookAheadState}
use Rattle.predictor.proofs.foresight.Foresight.kept_after.Goals as goal

pub go_by-requires-clause-fits : goal.go_by-requires-clause-fits
go_by-requires-clause-fits g c =
    let kept : IfSome c.self.inside.look_ahead (BeginsAt c.args.self.now) =
    subst (λ (s : SearchState). IfSome c.self.inside.look_ahead (BeginsAt s)) c.self.view_is c.self.invariant in
    let begins : BeginsAt c.args.self.now c.in-Some.look_ahead =
    subst (λ (o : Option LookAheadState). IfSome o (BeginsAt c.args.self.now)) (sym c.take.ensures.value ∙ c.in-Some.is) kept in
    rw (begins.rules, begins.start) c.requires
