use Rattle.std.proofs.Common.{arith, false, ◌∙◌}
use Rattle.std.specs.List.{slice_index_or}
use Rattle.std.proofs.lemmas.Grind.{common_steps}
use Rattle.param_space.specs.Ancestors.{is_ancestor_within, rank}
use Rattle.param_space.proofs.Counts.{count_alike}
use Rattle.param_space.proofs.ParamMarks.{set_below, mark_below}
use Rattle.param_space.proofs.ancestry.ancestry_of.Goals as goal

pub loop-param-preserved : goal.loop-param-preserved
loop-param-preserved c =
    let n = c.args.count in
    let cs = c.args.conditions.now in
    let p = c.loop-param.param in
    let found = c.ancestors-marks.ensures.value in
    let ranked = c.count_marks.ensures ∙ count_alike (λ a. slice_index_or c.ancestors-marks.result a false) (is_ancestor_within n cs p) n (λ a lt. found a (omega (arith, lt, c.requires.few))) in
    record {
      sizes = grind (arith, common_steps);
      ranks = set_below (rank n cs) c.loop-param.ranks p c.count_marks.result (omega (arith, c.loop-param.invariant.sizes, c.loop-param-test.true, c.requires.few)) ranked c.loop-param.invariant.ranks;
      own = mark_below (λ q. is_ancestor_within n cs q q) c.loop-param.own p (slice_index_or c.ancestors-marks.result p false) (omega (arith, c.loop-param.invariant.sizes, c.loop-param-test.true, c.requires.few)) (found p (omega (arith, c.loop-param-test.true, c.requires.few))) c.loop-param.invariant.own;
    }
