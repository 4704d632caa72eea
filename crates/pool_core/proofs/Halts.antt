-- What a stop and a resume make of a board.
use Rattle.std.proofs.Common.{◌≡◌, ◌||◌, true, false, length, nat_lt, sym, ap, if◌then◌else◌}
use Rattle.board_steps.specs.Boards.{BoardState, plain_board}
use Rattle.board_steps.specs.Steps.{stopped_board, after_stop, resumed_board, after_resume}

-- a board that isn't stopped is stopped
pub stop-running : (b : BoardState) → b.stopped ≡ false → stopped_board (plain_board b) ≡ after_stop (plain_board b)
unfolding after_stop plain_board
stop-running b running = sym (ap (λ s. if s then plain_board b else stopped_board (plain_board b)) running)

-- a stopped board stays
pub stop-stopped : (b : BoardState) → b.stopped ≡ true → plain_board b ≡ after_stop (plain_board b)
unfolding after_stop plain_board
stop-stopped b stopped = sym (ap (λ s. if s then plain_board b else stopped_board (plain_board b)) stopped)

-- the board is stopped or has a live ticket
abbrev pub IsHalted : BoardState → Type 0
IsHalted b = (b.stopped || nat_lt 0 (length b.live)) ≡ true

-- a board that was stopped or has live tickets goes on
pub resume-halted : (b : BoardState) → (b.stopped || nat_lt 0 (length b.live)) ≡ true → resumed_board (plain_board b) ≡ after_resume (plain_board b)
unfolding after_resume plain_board
resume-halted b halted = sym (ap (λ s. if s then resumed_board (plain_board b) else plain_board b) halted)

-- another board stays
pub resume-going : (b : BoardState) → (b.stopped || nat_lt 0 (length b.live)) ≡ false → plain_board b ≡ after_resume (plain_board b)
unfolding after_resume plain_board
resume-going b going = sym (ap (λ s. if s then resumed_board (plain_board b) else plain_board b) going)
