use Rattle.std.proofs.Common.{◌≡◌, ◌+◌, ◌*◌, ◌≤◌, take}
use Rattle.std.specs.List.{sum_by}
use Rattle.board_steps.specs.Ledgers.{events_of, event_to_stop}
use Rattle.board_steps.proofs.ledger.Ledger.kept.Given as goal

-- the places so far
abbrev pub invariant-loop-l : goal.invariant-loop-l
invariant-loop-l l = record {
  so_far : l.kept ≡ sum_by events_of (take l.l-index l.l-items) + event_to_stop l.self.stopped;
  few : l.kept ≤ 2 * l.l-index + 1;
}
