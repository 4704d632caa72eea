use Rattle.std.proofs.Common.{◌≡◌, ◌∙◌, arith, length, get_or, sym, subst, ap}
use Rattle.param_space.specs.Space.{Belongs}
use Rattle.param_space.proofs.BelongsLemmas.{Belongs-defaults}
use Rattle.param_space.specs.Configurations.{settled_config, is_allowed, IsConfig}
use Rattle.param_space.proofs.SettledConfigs.{settled_belongs}
use Rattle.param_space.proofs.Soundness.{settled_is_config}
use Rattle.param_space.proofs.SettledValues.{IsSettling, length-settled, kept_value, default_value, length-mixed, all_settled}
use Rattle.param_space.proofs.space.Space.settle.Goals as goal
use Rattle.param_space.proofs.space.Space.settle.Goals.{then-not-active-i, else-not-active-i}

pub set-requires : goal.set-requires
set-requires c =
    let lists = c.args.self.now in
    let old = c.args.config.now in
    let params : length c.as_slice-param-items.result.now ≡ length lists.params = ap length (c.as_slice-param-items.ensures ∙ ap (λ l. l.params) c.self.view_is) in
    let long = length-mixed (settled_config lists old) old c.loop-i.i (length-settled lists old c.requires ∙ sym c.marks-active.ensures.long) in
    omega (arith, ap length c.loop-i.invariant, long, c.marks-active.ensures.long, params, c.loop-i-test.true)

pub loop-i-preserved : goal.loop-i-preserved
loop-i-preserved c =
    let lists = c.args.self.now in
    let old = c.args.config.now in
    let read = c.as_slice-param-items.ensures ∙ ap (λ l. l.params) c.self.view_is in
    let is = c.param-item.is ∙ ap (λ ps. get_or ps c.loop-i.i c.param-item.result) read in
    let here : IsSettling lists c.loop-i.config old c.marks-active.result c.loop-i.i = record {
      belongs = c.requires;
      marked = c.marks-active.ensures.value;
      few = c.marks-active.ensures.few;
      within = omega (arith, c.loop-i-test.true, ap length read);
      so_far = c.loop-i.invariant;
    } in
    elim c.if-not-active-i.branch [
      | then-not-active-i w ↦ w.config-is ∙ w.set.ensures ∙ default_value lists c.loop-i.config old c.marks-active.result c.loop-i.i c.param-item.result here w.if-not-active-i.true is
      | else-not-active-i w ↦ w.config-is ∙ kept_value lists c.loop-i.config old c.marks-active.result c.loop-i.i c.param-item.result here w.if-not-active-i.false
    ]

pub returns : goal.returns
returns c =
    let lists = c.args.self.now in
    let old = c.args.config.now in
    let params : length c.as_slice-param-items.result.now ≡ length lists.params = ap length (c.as_slice-param-items.ensures ∙ ap (λ l. l.params) c.self.view_is) in
    let value : c.loop-i.config ≡ settled_config lists old = all_settled lists c.loop-i.config old c.loop-i.i c.requires (omega (arith, c.loop-i-test.false, params)) c.loop-i.invariant in
    let space = c.marks-active.ensures.space in
    record {
      value = value;
      belongs = subst (Belongs lists.params) (sym value) (settled_belongs lists old (Belongs-defaults lists.params space.params) c.requires);
      sound = λ allowed. subst (IsConfig lists) (sym value) (settled_is_config lists space old c.requires (sym (ap (is_allowed lists) value) ∙ allowed));
    }
