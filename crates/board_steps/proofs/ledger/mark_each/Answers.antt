use Rattle.std.proofs.Common.{arith, ◌<◌, ◌∙◌, length}
use Rattle.board_steps.specs.UnwantedRuns.{all_unwanted}
use Rattle.board_steps.proofs.Rooms.{marks_live, marks_events, marks_room}
use Rattle.board_steps.proofs.ledger.mark_each.Goals as goal

pub loop-i-preserved : goal.loop-i-preserved
loop-i-preserved c =
    let xs = c.args.live.now.items in
    let ys = c.loop-i.live.items in
    let x = c.index_mut.result.now in
    let within : c.loop-i.i < length xs = grind arith in
    let within_now : c.loop-i.i < length ys = grind arith in
    let so_far = c.loop-i.invariant in
    record {
      live = marks_live all_unwanted xs ys c.loop-i.i x c.mark.new.l within so_far.live c.index_mut.ensures.value c.mark.ensures.marked;
      journal = marks_events all_unwanted xs ys c.loop-i.i x c.args.journal.now.items c.loop-i.journal.items c.mark.new.journal.items within so_far.live c.index_mut.ensures.value so_far.journal c.mark.ensures.journal;
      room = marks_room ys c.loop-i.i x c.mark.new.l _ _ _ within_now c.index_mut.ensures.value c.mark.ensures.room so_far.room;
      capacity = c.mark.ensures.capacity ∙ so_far.capacity;
    }
