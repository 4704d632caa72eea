use Rattle.std.proofs.Common.{◌≡◌, ◌+◌, ◌≤◌, ◌++◌, map, length, take, drop}
use Rattle.std.specs.List.{sum_by}
use Rattle.std.specs.Vec.{vec_capacity}
use Rattle.board_steps.specs.Ledgers.{events_of}
use Rattle.board_steps.specs.Tickets.{marked_if, mark_events}
use Rattle.board_steps.specs.UnwantedRuns.{all_unwanted}
use Rattle.board_steps.proofs.ledger.mark_each.Given as goal

-- those so far are marked
abbrev pub invariant-loop-i : goal.invariant-loop-i
invariant-loop-i l = record {
  live : l.live.items ≡ map (marked_if all_unwanted) (take l.i l.initial.live.items) ++ drop l.i l.initial.live.items;
  journal : l.journal.items ≡ l.initial.journal.items ++ mark_events all_unwanted (take l.i l.initial.live.items);
  room : length l.journal.items + sum_by events_of l.live.items ≤ length l.initial.journal.items + sum_by events_of l.initial.live.items;
  capacity : vec_capacity l.journal ≡ vec_capacity l.initial.journal;
}
