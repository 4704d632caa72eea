-- The replay of a journal: what its events make of the opening board.
use Rattle.std.specs.Prelude.{List}
use Rattle.std.specs.List.{fold}
use Rattle.ils_face.specs.declared.asks.Reply.{Reply}
use Rattle.ils_face.specs.Rules.{Rules}
use Rattle.ils_face.specs.Views.{View}
use Rattle.board_steps.specs.declared.events.Event.{Event}
use Rattle.board_steps.specs.declared.events.Event.TheVariants.{Advance, Take, Record, Lost, Mark, Killed, Stop, Resume}
use Rattle.board_steps.specs.Boards.{PlainBoard, opening}
use Rattle.board_steps.specs.Problem.{Problem}
use Rattle.board_steps.specs.Steps.{after_advance, after_take, with_end, after_stop, after_resume, with_answer, with_loss, with_kill, with_mark}
use Rattle.board_steps.specs.Tickets.{live_at}

module _ (shown : Rules → List Reply → View) where
  -- a board after an event, which is told by its number, and a record's by its answer too
  unfoldable pub after_event : PlainBoard → Event → PlainBoard
  after_event b Advance = after_advance shown b
  after_event b (Take kind number cell cutoff asked_at) = after_take shown b
  after_event b (Record number answer) = with_end (with_answer b answer) b (live_at b.live number)
  after_event b (Lost number) = with_end (with_loss b) b (live_at b.live number)
  after_event b (Mark number) = with_mark b number
  after_event b (Killed number) = with_end (with_kill b) b (live_at b.live number)
  after_event b Stop = after_stop b
  after_event b Resume = after_resume b

  -- the board that a journal's events make of the opening board
  unfoldable pub replay : Problem → List Event → PlainBoard
  replay problem journal = fold after_event (opening problem) journal
