use Rattle.std.proofs.Common.{Result, Err, ap, subst, sym, ◌∙◌}
use Rattle.std.proofs.lemmas.Result.{err_from_is_err_and}
use Rattle.outside.specs.declared.faults.Fault.{Fault}
use Rattle.pool_run.specs.Drives.{DroveTo, driven_by, is_over}
use Rattle.pool_run.specs.HeldBoards.{WhereTold}
use Rattle.pool_run.specs.Works.{WorkedTo}
use Rattle.pool_run.proofs.DriveTurns.{underway-begin, underway-idle, taken-so}
use Rattle.pool_run.proofs.DriveEnds.{underway-on, drove-over, drove-short, drove-lost}
use Rattle.pool_run.proofs.StartedRuns.{took-some}
use Rattle.pool_run.proofs.ToldBoards.{told-none, told-then, told-also}
use Rattle.pool_run.proofs.WorkedSeats.{begins, still-at-work, ran-on, ran-to}
use Rattle.pool_run.proofs.running.turn_by_turn.Goals as goal

pub loop-init : goal.loop-init
loop-init g c = (
  tt,
  tt,
  record {
    work = begins c.args.program.now c.args.seat.now _ c.requires.idle c.forget.ensures;
    board = told-none _ _ _ (underway-begin c.args.program.now c.args.seat.now _ c.forget.ensures) c.requires.may;
  },
)

pub run_last-requires-clause-some : goal.run_last-requires-clause-some
run_last-requires-clause-some g c = took-some _ _ c.in-Run.ensures.seat

pub loop-preserved-in-Continue-1 : goal.loop-preserved-in-Continue-1
loop-preserved-in-Continue-1 g c =
    let ran = c.in_ok-run_last-in-Run.ensures in
    let taken = told-also _ _ _ _ _ _ _ (taken-so _ _ _ c.args.program.now c.args.seat.now _ _) c.loop.invariant.2.board c.in-Run.ensures.turned c.in-Run.ensures.invariant in (
      tt,
      tt,
      record {
        work = ran-on c.args.program.now c.args.seat.now _ _ _ c.loop.invariant.2.work c.in-Run.ensures.seat ran.ran ran.idle ran.counts;
        board = told-then _ _ _ _ _ _ (underway-on _ c.args.program.now c.args.seat.now _ _ ran.ran) taken ran.board;
      },
    )

pub returns-in_err-run_last-in-Run-clause-seat : goal.returns-in_err-run_last-in-Run-clause-seat
returns-in_err-run_last-in-Run-clause-seat g c =
    let ran = c.in_err-run_last-in-Run.ensures in
    let is = err_from_is_err_and c.from_residual.result c.from_residual.ensures.1 in
    let P : Result (Unit {0}) Fault → Type 0 = λ end. WorkedTo c.args.program.now end c.args.seat.now c.run_last.new.seat in
    subst P (sym (is.1 ∙ ap Err is.2))
    (ran-to c.args.program.now _ c.args.seat.now _ _ _ c.loop.invariant.2.work c.in-Run.ensures.seat ran.ran ran.idle ran.counts)

pub returns-in_err-run_last-in-Run-clause-board : goal.returns-in_err-run_last-in-Run-clause-board
returns-in_err-run_last-in-Run-clause-board g c =
    let ran = c.in_err-run_last-in-Run.ensures in
    let taken = told-also _ _ _ _ _ _ _ (taken-so _ _ _ c.args.program.now c.args.seat.now _ _) c.loop.invariant.2.board c.in-Run.ensures.turned c.in-Run.ensures.invariant in
    let is = err_from_is_err_and c.from_residual.result c.from_residual.ensures.1 in
    let P : Result (Unit {0}) Fault → Type 0 = λ end. WhereTold (g.H.HeldBoard.board c.args.held.now) (g.H.HeldBoard.board c.run_last.new.held) (λ b b'.
    DroveTo g.P.Search.shown c.args.program.now (driven_by end (is_over g.P.Search.shown b')) b b' c.args.seat.now c.run_last.new.seat) in
    subst P (sym (is.1 ∙ ap Err is.2))
    (told-then _ _ _ _ _ _ (drove-lost _ c.args.program.now c.args.seat.now _ _ _ ran.ran) taken ran.board)

pub loop-preserved : goal.loop-preserved
loop-preserved g c = (
  tt,
  tt,
  record {
    work = still-at-work c.args.program.now c.args.seat.now _ _ c.loop.invariant.2.work c.in-Idle.ensures.seat;
    board = told-then _ _ _ _ _ _ (underway-idle _ c.args.program.now c.args.seat.now _ _) c.loop.invariant.2.board c.in-Idle.ensures.turned;
  },
)

pub returns-in-Over-clause-board : goal.returns-in-Over-clause-board
returns-in-Over-clause-board g c =
    told-then _ _ _ _ _ _ (drove-over _ c.args.program.now c.args.seat.now _ _) c.loop.invariant.2.board c.in-Over.ensures.turned

pub returns-in-Short-clause-board : goal.returns-in-Short-clause-board
returns-in-Short-clause-board g c =
    told-then _ _ _ _ _ _ (drove-short _ c.args.program.now c.args.seat.now _ _) c.loop.invariant.2.board c.in-Short.ensures.turned
