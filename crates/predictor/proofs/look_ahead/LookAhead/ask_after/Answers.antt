use Rattle.std.proofs.Common.{rules, subst}
use Rattle.std.proofs.lemmas.Option.{slice_get_read}
use Rattle.predictor.specs.LookAheads.{IsLookAhead}
use Rattle.predictor.proofs.look_ahead.LookAhead.ask_after.Goals as goal

pub returns-in-Some-clause-value : goal.returns-in-Some-clause-value
returns-in-Some-clause-value g c =
    let h : IsLookAhead g.P.Search.shown c.args.self.now = subst (IsLookAhead g.P.Search.shown) c.self.view_is c.self.invariant in
    (h.each c.args.n c.in-Some.step.now (search (rules, slice_get_read))).ask

pub returns-in-Some-clause-few : goal.returns-in-Some-clause-few
returns-in-Some-clause-few g c =
    let h : IsLookAhead g.P.Search.shown c.args.self.now = subst (IsLookAhead g.P.Search.shown) c.self.view_is c.self.invariant in
    (h.each c.args.n c.in-Some.step.now (search (rules, slice_get_read))).few
