use Rattle.std.proofs.Common.{◌≡◌, ◌∙◌, Some, None, length, sym, ap}
use Rattle.std.proofs.lemmas.Result.{on_ok_weaker}
use Rattle.param_space.specs.Space.{Lists}
use Rattle.param_space.proofs.SpaceSizes.{few_params, few_conditions}
use Rattle.param_space.specs.Faults.{or_else, cycle_fault, default_fault, whole_fault}
use Rattle.param_space.proofs.Soundness.{faultless_named, faultless_acyclic}
use Rattle.param_space.proofs.Checks.{cycle_told, is_space, cause_found, cause_kept}
use Rattle.param_space.proofs.ParamMarks.{named_weaker}
use Rattle.param_space.proofs.checking.whole_order.Goals as goal

pub ancestry_of-found-requires-clause-named : goal.ancestry_of-found-requires-clause-named
ancestry_of-found-requires-clause-named c = faultless_named c.args.params.now c.args.conditions.now c.requires.conditions

pub ancestry_of-found-requires-clause-few : goal.ancestry_of-found-requires-clause-few
ancestry_of-found-requires-clause-few c = few_params c.args.params.now c.requires.params

pub cycle_fault-requires-clause-few : goal.cycle_fault-requires-clause-few
cycle_fault-requires-clause-few c = few_conditions c.args.params.now c.args.conditions.now c.requires.conditions

pub cycle_fault-requires-clause-named : goal.cycle_fault-requires-clause-named
cycle_fault-requires-clause-named c =
    named_weaker (length c.args.params.now) c.args.conditions.now (few_params c.args.params.now c.requires.params) (faultless_named c.args.params.now c.args.conditions.now c.requires.conditions)

pub allowed_order-requires-clause-acyclic : goal.allowed_order-requires-clause-acyclic
allowed_order-requires-clause-acyclic c =
    let lists : Lists = record { params = c.args.params.now; conditions = c.args.conditions.now; forbidden = c.args.forbidden.now } in
    let told = cycle_told lists c.ancestry_of-found.result.own (faultless_named lists.params lists.conditions c.requires.conditions) c.ancestry_of-found.ensures.own in
    faultless_acyclic lists (sym told ∙ sym c.cycle_fault.ensures ∙ c.in-None.is)

pub returns-in-Some-clause-fault : goal.returns-in-Some-clause-fault
returns-in-Some-clause-fault c =
    let lists : Lists = record { params = c.args.params.now; conditions = c.args.conditions.now; forbidden = c.args.forbidden.now } in
    let told = cycle_told lists c.ancestry_of-found.result.own (faultless_named lists.params lists.conditions c.requires.conditions) c.ancestry_of-found.ensures.own in
    let found : cycle_fault lists ≡ Some c.in-Some.breach = sym told ∙ sym c.cycle_fault.ensures ∙ c.in-Some.is in
    cause_found c.fault.result c.in-Some.breach (whole_fault lists) c.fault.ensures (ap (λ first. or_else first (default_fault lists)) found)

pub returns-in-None-clause-space : goal.returns-in-None-clause-space
returns-in-None-clause-space c =
    let lists : Lists = record { params = c.args.params.now; conditions = c.args.conditions.now; forbidden = c.args.forbidden.now } in
    let told = cycle_told lists c.ancestry_of-found.result.own (faultless_named lists.params lists.conditions c.requires.conditions) c.ancestry_of-found.ensures.own in
    let none : cycle_fault lists ≡ None = sym told ∙ sym c.cycle_fault.ensures ∙ c.in-None.is in
    on_ok_weaker c.allowed_order.result (λ (allowed : default_fault lists ≡ None). is_space lists c.requires none allowed) c.allowed_order.ensures.allowed

pub returns-in-None-clause-fault : goal.returns-in-None-clause-fault
returns-in-None-clause-fault c =
    let lists : Lists = record { params = c.args.params.now; conditions = c.args.conditions.now; forbidden = c.args.forbidden.now } in
    let told = cycle_told lists c.ancestry_of-found.result.own (faultless_named lists.params lists.conditions c.requires.conditions) c.ancestry_of-found.ensures.own in
    let none : cycle_fault lists ≡ None = sym told ∙ sym c.cycle_fault.ensures ∙ c.in-None.is in
    cause_kept c.allowed_order.result (default_fault lists) (whole_fault lists) (sym (ap (λ first. or_else first (default_fault lists)) none)) c.allowed_order.ensures.fault
