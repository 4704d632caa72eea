use Rattle.std.proofs.Common.{suc, ◌≡◌, ◌<◌, ◌≤◌, ◌∙◌, arith, true, false, refl, sym, ap, subst, length, slice_set, take_all}
use Rattle.std.specs.List.{list_all, slice_index_or}
use Rattle.std.proofs.lemmas.Grind.{common_steps}
use Rattle.std.proofs.lemmas.List.{get_or_read, get_or-replicate, length-map}
use Rattle.param_space.specs.Limits
use Rattle.param_space.specs.Configurations.{is_active_within}
use Rattle.param_space.specs.Ancestors.{IsNamed}
use Rattle.param_space.proofs.ActiveParams.{is_met}
use Rattle.param_space.specs.Order.{no_condition, condition_at, in_order}
use Rattle.param_space.proofs.MetConditions.{IsGoneThrough, turn_is, met_told, met_said, unmet_said, all_said}
use Rattle.param_space.proofs.activity.activity.Goals as goal
use Rattle.param_space.proofs.activity.activity.Goals.{then-not-is_met, else-not-is_met}

pub loop-i-init : goal.loop-i-init
loop-i-init c = record {
  size = refl;
  value = λ p lt. get_or-replicate Limits.max_params p true false lt;
}

pub loop-i-preserved : goal.loop-i-preserved
loop-i-preserved c =
    let cs = c.args.conditions.now in
    let order = c.args.order.now in
    let config = c.args.values.now in
    let n = length c.args.values.now in
    let i = c.loop-i.i-index in
    let it = c.index-conditions-i.result in
    let number = slice_index_or order i 0 in
    let within : number < length cs = c.requires.order.numbers i 0 c.loop-i-test.true in
    let read : it ≡ condition_at cs number = get_or_read cs number it within c.index-conditions-i.is no_condition in
    let turn : it ≡ condition_at (in_order cs order) i = turn_is cs order i number it c.loop-i-test.true refl read in
    let here : IsNamed n it = subst (IsNamed n) (sym read) (c.requires.named number no_condition within) in
    let known : IsGoneThrough n cs order = record { named = c.requires.named; acyclic = c.requires.acyclic; ordered = c.requires.order } in
    let parent : it.parent < Limits.max_params = omega (arith, here.parent, c.requires.few) in
    let child : it.child < Limits.max_params = omega (arith, here.child, c.requires.few) in
    let told = met_told n cs order config i it c.loop-i.active c.is_met.result known c.loop-i-test.true turn c.loop-i.invariant.value parent c.is_met.ensures in
    elim c.if-not-is_met.branch [
      | then-not-is_met w ↦ record {
        size = grind (arith, common_steps);
        value = λ p lt. ap (λ marks. slice_index_or marks p false) w.active-is
            ∙ ap (λ q. slice_index_or (slice_set c.loop-i.active q false) p false) w.from.ensures
            ∙ unmet_said n cs order config i p it c.loop-i.active c.loop-i-test.true turn (sym told ∙ w.if-not-is_met.true) (omega (arith, child, c.loop-i.invariant.size)) (c.loop-i.invariant.value p lt);
      }
      | else-not-is_met w ↦ record {
        size = grind (arith, common_steps);
        value = λ p lt. ap (λ marks. slice_index_or marks p false) w.active-is
            ∙ c.loop-i.invariant.value p lt ∙ sym (met_said n cs order config i p it c.loop-i-test.true turn (sym told ∙ w.if-not-is_met.false));
      }
    ]

pub returns-clause-value : goal.returns-clause-value
returns-clause-value c p lt =
    let cs = c.args.conditions.now in
    let order = c.args.order.now in
    let config = c.args.values.now in
    let n = length c.args.values.now in
    let known : IsGoneThrough n cs order = record { named = c.requires.named; acyclic = c.requires.acyclic; ordered = c.requires.order } in
    let long : length (in_order cs order) ≤ c.loop-i.i-index = omega (arith, c.loop-i-test.false, length-map order (condition_at cs)) in
    c.loop-i.invariant.value p lt
    ∙ ap (list_all (is_met config (is_active_within (suc n) cs config) p)) (take_all c.loop-i.i-index (in_order cs order) long)
    ∙ all_said n cs order config known p
