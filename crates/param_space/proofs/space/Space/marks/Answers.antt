use Rattle.std.proofs.Common.{◌∙◌, subst, ap}
use Rattle.param_space.specs.Faults.{IsSpace}
use Rattle.param_space.proofs.BelongsLemmas.{length-Belongs}
use Rattle.param_space.proofs.SpaceSizes.{few_params}
use Rattle.param_space.proofs.Checks.{readable, activity_read}
use Rattle.param_space.proofs.space.Space.marks.Goals as goal

pub activity-requires-clause-named : goal.activity-requires-clause-named
activity-requires-clause-named c =
    let space = subst IsSpace c.self.view_is c.self.invariant.0 in
    (readable c.args.self.now c.args.config.now c.as_slice-conditions.result.now c.values.result.now space c.requires (c.as_slice-conditions.ensures ∙ ap (λ l. l.conditions) c.self.view_is) c.values.ensures).named

pub activity-requires-clause-acyclic : goal.activity-requires-clause-acyclic
activity-requires-clause-acyclic c =
    let space = subst IsSpace c.self.view_is c.self.invariant.0 in
    (readable c.args.self.now c.args.config.now c.as_slice-conditions.result.now c.values.result.now space c.requires (c.as_slice-conditions.ensures ∙ ap (λ l. l.conditions) c.self.view_is) c.values.ensures).acyclic

pub activity-requires-clause-few : goal.activity-requires-clause-few
activity-requires-clause-few c =
    let space = subst IsSpace c.self.view_is c.self.invariant.0 in
    (readable c.args.self.now c.args.config.now c.as_slice-conditions.result.now c.values.result.now space c.requires (c.as_slice-conditions.ensures ∙ ap (λ l. l.conditions) c.self.view_is) c.values.ensures).few

pub returns : goal.returns
returns c =
    let space = subst IsSpace c.self.view_is c.self.invariant.0 in
    record {
      size = c.activity.ensures.size;
      value = λ p lt. c.activity.ensures.value p lt
          ∙ activity_read c.args.self.now c.args.config.now c.as_slice-conditions.result.now c.values.result.now c.requires (c.as_slice-conditions.ensures ∙ ap (λ l. l.conditions) c.self.view_is) c.values.ensures p;
      space = space;
      long = length-Belongs c.args.self.now.params c.args.config.now c.requires;
      few = few_params c.args.self.now.params space.params;
    }
