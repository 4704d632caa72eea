use Rattle.std.proofs.Common.{rules, ◌≡◌, false, sym, ◌∙◌, arith}
use Rattle.run_cache.specs.Caches.{known_in}
use Rattle.predictor.specs.Choices.{has_room}
use Rattle.predictor.specs.Wishes.{runs_after}
use Rattle.predictor.proofs.AddedRuns.{full_stays, next_in_row}
use Rattle.predictor.proofs.choice.Choice.add_after.Goals as goal

pub returns-then-not-has_room : goal.returns-then-not-has_room
returns-then-not-has_room c =
    let full : has_room c.loop-done.self ≡ false = search rules in
    sym (full_stays (known_in c.args.cache.now) c.loop-done.self full (runs_after c.args.config.now c.args.cutoff.0 c.loop-done.done c.args.last)) ∙ c.loop-done.invariant.same

pub loop-done-preserved : goal.loop-done-preserved
loop-done-preserved c = record {
  same = next_in_row c.args.cache.now c.loop-done.self c.add_unsettled.new.self c.args.config.now c.args.cutoff.0 c.loop-done.done c.args.last
      c.row-row.result.now c.known_next.result (omega arith) c.row-row.ensures.value c.known_next.ensures (c.in_ok-add_unsettled.ensures)
      ∙ c.loop-done.invariant.same;
}
