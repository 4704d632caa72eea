use Rattle.std.proofs.Common.{◌<◌, ◌≤◌, ◌∙◌, arith, length, take_all, get_or, sym, ap}
use Rattle.std.proofs.lemmas.List.{take_more_same}
use Rattle.param_space.specs.Configurations.{settled_config}
use Rattle.param_space.proofs.SettledValues.{length-settled, active_same, default_same, other_value, not_canonical, all_canonical}
use Rattle.param_space.proofs.space.Space.is_canonical.Goals as goal
use Rattle.param_space.proofs.space.Space.is_canonical.Goals.{else-not-active-i-via-then-not-active-i+else-values-i, else-not-active-i-via-else-not-active-i}

pub returns-then-values-i : goal.returns-then-values-i
returns-then-values-i c =
    let lists = c.args.self.now in
    let config = c.args.config.now in
    let i = c.loop-i.i in
    let read = c.as_slice-param-items.ensures ∙ ap (λ l. l.params) c.self.view_is in
    let is = c.param-item.is ∙ ap (λ ps. get_or ps i c.param-item.result) read in
    let within : c.loop-i.i < length lists.params = omega (arith, c.loop-i-test.true, ap length read) in
    sym (not_canonical lists config i (other_value lists config c.marks-active.result i c.param-item.result c.requires c.marks-active.ensures.value c.marks-active.ensures.few within is c.if-not-active-i.true
    (λ e. c.if-values-i.true (ap (λ vs. get_or vs i 0) c.values-values.ensures ∙ e))))

pub loop-i-preserved : goal.loop-i-preserved
loop-i-preserved c =
    let lists = c.args.self.now in
    let config = c.args.config.now in
    let i = c.loop-i.i in
    let read = c.as_slice-param-items.ensures ∙ ap (λ l. l.params) c.self.view_is in
    let is = c.param-item.is ∙ ap (λ ps. get_or ps i c.param-item.result) read in
    let within : c.loop-i.i < length lists.params = omega (arith, c.loop-i-test.true, ap length read) in
    let more = take_more_same (settled_config lists config) config i 0 (omega (arith, within, length-settled lists config c.requires)) (omega (arith, within, c.marks-active.ensures.long)) c.loop-i.invariant in
    elim c.else-not-active-i.branch [
      | else-not-active-i-via-then-not-active-i+else-values-i w ↦
          more (default_same lists config c.marks-active.result i c.param-item.result c.requires c.marks-active.ensures.value c.marks-active.ensures.few within is w.if-not-active-i.true
          (sym (ap (λ vs. get_or vs i 0) c.values-values.ensures) ∙ w.if-values-i.false))
      | else-not-active-i-via-else-not-active-i w ↦
          more (active_same lists config c.marks-active.result i c.param-item.result c.requires c.marks-active.ensures.value c.marks-active.ensures.few within w.if-not-active-i.false)
    ]

pub returns : goal.returns
returns c =
    let lists = c.args.self.now in
    let config = c.args.config.now in
    let i = c.loop-i.i in
    let params = ap length (c.as_slice-param-items.ensures ∙ ap (λ l. l.params) c.self.view_is) in
    let end : length lists.params ≤ i = omega (arith, c.loop-i-test.false, params) in
    sym (all_canonical lists config
    (sym (take_all i (settled_config lists config) (omega (arith, end, length-settled lists config c.requires))) ∙ c.loop-i.invariant ∙ take_all i config (omega (arith, end, c.marks-active.ensures.long))))
