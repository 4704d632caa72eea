use Rattle.std.proofs.Common.{arith, ◌+◌, ◌∙◌, length, get_or, sym, ap}
use Rattle.std.proofs.lemmas.Bool.{false≢true}
use Rattle.param_space.specs.Configurations.{is_active}
use Rattle.param_space.proofs.BelongsLemmas.{length-Belongs, read_value_in_range}
use Rattle.param_space.proofs.SpaceSizes.{few_params}
use Rattle.tuner.proofs.CellKeys.{met_none, met_next, met_other, all_met, counted}
use Rattle.tuner.proofs.cell_keys.are_settings_of.Goals as goal
use Rattle.tuner.proofs.cell_keys.are_settings_of.Goals.{then-is_active+else-not-gives_at, else-is_active}

pub overflow_cast-i : goal.overflow_cast-i
overflow_cast-i c =
    omega (arith, c.loop-i-test.true, few_params c.args.space.now.params c.params-params.ensures.space.params, ap length c.params-params.ensures.value)

pub bounds-values-i : goal.bounds-values-i
bounds-values-i c =
    omega (arith, c.loop-i-test.true, ap length c.params-params.ensures.value, ap length c.values-values.ensures, length-Belongs c.args.space.now.params c.args.config.now c.requires)

pub bounds-as_slice-from : goal.bounds-as_slice-from
bounds-as_slice-from c =
    let i = c.loop-i.i in
    let below = read_value_in_range c.args.space.now.params c.args.config.now i c.index-params-i.result c.as_slice.result.now c.requires
    (omega (arith, c.loop-i-test.true, ap length c.params-params.ensures.value))
    (c.index-params-i.is ∙ ap (λ ps. get_or ps i c.index-params-i.result) c.params-params.ensures.value) c.as_slice.ensures in
    omega (arith, below, c.from.ensures ∙ ap (λ vs. get_or vs i 0) c.values-values.ensures)

pub returns-then-not-gives_at : goal.returns-then-not-gives_at
returns-then-not-gives_at c =
    let i = c.loop-i.i in
    let passes = is_active c.args.space.now c.args.config.now in (
      λ e. absurd (false≢true e),
      λ all.
          absurd (met_other passes c.args.space.now.params c.args.config.now c.args.settings.now c.requires c.loop-i.count i c.index-params-i.result c.loop-i.invariant
          (omega (arith, c.loop-i-test.true, ap length c.params-params.ensures.value))
          (c.index-params-i.is ∙ ap (λ ps. get_or ps i c.index-params-i.result) c.params-params.ensures.value)
          c.as_slice.result.now c.from.result c.index-as_slice-from.result
          (record {
            here = omega (arith, c.loop-i-test.true, ap length c.params-params.ensures.value);
            is = c.index-params-i.is ∙ ap (λ ps. get_or ps i c.index-params-i.result) c.params-params.ensures.value;
            texts_are = c.as_slice.ensures;
            number_is = c.from.ensures ∙ ap (λ vs. get_or vs i 0) c.values-values.ensures;
            read = c.index-as_slice-from.is;
          })
          c.gives_at.result c.gives_at.ensures (sym c.is_active.ensures ∙ c.if-is_active.true) c.if-not-gives_at.true all),
    )

pub loop-i-preserved : goal.loop-i-preserved
loop-i-preserved c =
    let i = c.loop-i.i in
    let passes = is_active c.args.space.now c.args.config.now in
    elim c.if-is_active.branch [
      | then-is_active+else-not-gives_at w ↦
          rw w.count-is
          (met_next passes c.args.space.now.params c.args.config.now c.args.settings.now c.requires c.loop-i.count i c.index-params-i.result c.loop-i.invariant
          (omega (arith, c.loop-i-test.true, ap length c.params-params.ensures.value))
          (c.index-params-i.is ∙ ap (λ ps. get_or ps i c.index-params-i.result) c.params-params.ensures.value)
          w.as_slice.result.now w.from.result w.index-as_slice-from.result
          (record {
            here = omega (arith, c.loop-i-test.true, ap length c.params-params.ensures.value);
            is = c.index-params-i.is ∙ ap (λ ps. get_or ps i c.index-params-i.result) c.params-params.ensures.value;
            texts_are = w.as_slice.ensures;
            number_is = w.from.ensures ∙ ap (λ vs. get_or vs i 0) c.values-values.ensures;
            read = w.index-as_slice-from.is;
          })
          w.gives_at.result w.gives_at.ensures (sym c.is_active.ensures ∙ w.if-is_active.true) w.if-not-gives_at.false)
      | else-is_active w ↦
          rw w.count-is
          (met_none passes c.args.space.now.params c.args.config.now c.args.settings.now c.requires c.loop-i.count i c.index-params-i.result c.loop-i.invariant
          (omega (arith, c.loop-i-test.true, ap length c.params-params.ensures.value))
          (c.index-params-i.is ∙ ap (λ ps. get_or ps i c.index-params-i.result) c.params-params.ensures.value)
          (sym c.is_active.ensures ∙ w.if-is_active.false))
    ]

pub returns : goal.returns
returns c =
    counted c.loop-i.count (length c.args.settings.now) _
    (all_met (is_active c.args.space.now c.args.config.now) c.args.space.now.params c.args.config.now c.args.settings.now c.requires c.loop-i.count c.loop-i.i c.loop-i.invariant
    (omega (arith, c.loop-i-test.false, ap length c.params-params.ensures.value)))
