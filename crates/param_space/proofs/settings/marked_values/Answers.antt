use Rattle.std.proofs.Common.{◌∙◌, ◌∷◌, [], false, arith, refl, sym, ap, get_or, map}
use Rattle.std.specs.List.{slice_index_or}
use Rattle.std.proofs.lemmas.List.{map-append}
use Rattle.param_space.specs.Settings.{name_and_value}
use Rattle.param_space.proofs.BelongsLemmas.{length-Belongs, read_value_in_range}
use Rattle.param_space.proofs.ActiveValues.{failing_more, until_all}
use Rattle.param_space.proofs.SettingTexts.{one_read}
use Rattle.param_space.proofs.settings.marked_values.Goals as goal
use Rattle.param_space.proofs.settings.marked_values.Goals.{then-active-i+in_ok-push, else-active-i}

pub bounds-values-i : goal.bounds-values-i
bounds-values-i c = omega (arith, length-Belongs c.args.params.now c.args.values.now c.requires.belongs, c.loop-i-test.true)

pub bounds-as_slice-from : goal.bounds-as_slice-from
bounds-as_slice-from c =
    let below = read_value_in_range c.args.params.now c.args.values.now c.loop-i.i c.index-params-i.result c.as_slice.result.now c.requires.belongs c.loop-i-test.true c.index-params-i.is c.as_slice.ensures in
    omega (arith, below, c.from.ensures)

pub loop-i-preserved : goal.loop-i-preserved
loop-i-preserved c =
    elim c.if-active-i.branch [
      | then-active-i+in_ok-push w ↦
          ap (λ v. map name_and_value v.items) w.found-is ∙ ap (map name_and_value) w.in_ok-push.ensures.items
          ∙ map-append name_and_value c.loop-i.found.items (_ ∷ [])
          ∙ one_read c.args.active.now c.args.params.now c.args.values.now c.loop-i.i c.index-params-i.result w.as_slice.result.now w.index-as_slice-from.result c.index-params-i.result.name w.index-as_slice-from.result _ (record {
            belongs = c.requires.belongs;
            within = c.loop-i-test.true;
            is = c.index-params-i.is;
            texts-are = w.as_slice.ensures;
            read = w.index-as_slice-from.is ∙ ap (λ k. get_or w.as_slice.result.now k w.index-as_slice-from.result) w.from.ensures;
            name-is = refl;
            value-is = refl;
            marked = w.if-active-i.true;
          }) c.loop-i.invariant
      | else-active-i w ↦
          ap (λ v. map name_and_value v.items) w.found-is ∙ c.loop-i.invariant
          ∙ sym (failing_more (λ k. slice_index_or c.args.active.now k false) c.args.params.now c.args.values.now c.loop-i.i c.index-params-i.result c.requires.belongs c.loop-i-test.true w.if-active-i.false)
    ]

pub returns : goal.returns
returns c = c.loop-i.invariant ∙ until_all (λ k. slice_index_or c.args.active.now k false) c.args.params.now c.args.values.now c.loop-i.i c.requires.belongs c.loop-i-test.false
