-- The table of what is learnt, line by line: a full cutoff of ten seconds, and a run without a solution costs a hundred.
use Rattle.std.specs.Prelude.{ℕ, ◌≡◌, refl}
use Rattle.objective.specs.declared.Answer.{Answer}
use Rattle.objective.specs.declared.Answer.TheVariants.{Solved, Timeout, Crashed}
use Rattle.objective.specs.declared.Answer.TheVariants as answer
use Rattle.uncapped.specs.Examples.Tables.{seconds, ten_seconds_tenfold}
use Rattle.run_cache.specs.declared.known.Known.{Known}
use Rattle.run_cache.specs.declared.known.Known.TheVariants.{Nothing, Over, Abort}
use Rattle.run_cache.specs.declared.known.Learnt.{Learnt}
use Rattle.run_cache.specs.declared.known.Learnt.TheVariants.{Fresh, Same, Conflict}
use Rattle.run_cache.specs.Learning.{exactly, lesson, learnt}

-- what is known after a run, and what it is told as
pub record Line : Type 0 where
  pub known : Known
  pub told : Learnt

-- what a run of so many seconds teaches by its answer
abbrev pub after : Known → ℕ → Answer → Line
after before cutoff answer =
    let made = lesson ten_seconds_tenfold before (seconds cutoff) answer in record { known = made.known; told = learnt before made }

-- this is known, and told so
abbrev pub line : Known → Learnt → Line
line known told = record { known = known; told = told }

-- a solution after so many seconds
abbrev pub solved : ℕ → Answer
solved t = Solved (record { 0 = seconds t })

-- a shortened run of so many seconds timed out
abbrev pub over : ℕ → Known
over t = Over (record { 0 = seconds t })

-- the cost of so many seconds is known
abbrev pub cost : ℕ → Known
cost x = exactly (seconds x)

-- where nothing is known
pub time_after_nothing : after Nothing 7 (solved 3) ≡ line (cost 3) Fresh
time_after_nothing = refl

pub short_timeout_after_nothing : after Nothing 7 Timeout ≡ line (over 7) Fresh
short_timeout_after_nothing = refl

pub full_timeout_after_nothing : after Nothing 10 Timeout ≡ line (cost 100) Fresh
full_timeout_after_nothing = refl

pub crash_after_nothing : after Nothing 7 Crashed ≡ line (cost 100) Fresh
crash_after_nothing = refl

pub abort_after_nothing : after Nothing 7 answer.Abort ≡ line Abort Fresh
abort_after_nothing = refl

-- where a run of five seconds timed out
pub later_time_after_over_five : after (over 5) 7 (solved 6) ≡ line (cost 6) Fresh
later_time_after_over_five = refl

pub earlier_time_after_over_five : after (over 5) 7 (solved 5) ≡ line (cost 5) Conflict
earlier_time_after_over_five = refl

pub longer_timeout_after_over_five : after (over 5) 7 Timeout ≡ line (over 7) Fresh
longer_timeout_after_over_five = refl

pub shorter_timeout_after_over_five : after (over 5) 4 Timeout ≡ line (over 5) Same
shorter_timeout_after_over_five = refl

pub full_timeout_after_over_five : after (over 5) 10 Timeout ≡ line (cost 100) Fresh
full_timeout_after_over_five = refl

pub crash_after_over_five : after (over 5) 7 Crashed ≡ line (cost 100) Fresh
crash_after_over_five = refl

pub abort_after_over_five : after (over 5) 7 answer.Abort ≡ line Abort Fresh
abort_after_over_five = refl

-- where the cost is six seconds
pub same_time_after_cost_six : after (cost 6) 7 (solved 6) ≡ line (cost 6) Same
same_time_after_cost_six = refl

pub other_time_after_cost_six : after (cost 6) 7 (solved 5) ≡ line (cost 6) Conflict
other_time_after_cost_six = refl

pub short_timeout_after_cost_six : after (cost 6) 5 Timeout ≡ line (cost 6) Same
short_timeout_after_cost_six = refl

pub late_timeout_after_cost_six : after (cost 6) 6 Timeout ≡ line (cost 6) Conflict
late_timeout_after_cost_six = refl

pub full_timeout_after_cost_six : after (cost 6) 10 Timeout ≡ line (cost 6) Conflict
full_timeout_after_cost_six = refl

pub crash_after_cost_six : after (cost 6) 7 Crashed ≡ line (cost 6) Conflict
crash_after_cost_six = refl

pub abort_after_cost_six : after (cost 6) 7 answer.Abort ≡ line (cost 6) Conflict
abort_after_cost_six = refl

-- where the cost is the penalty
pub short_timeout_after_penalty : after (cost 100) 9 Timeout ≡ line (cost 100) Same
short_timeout_after_penalty = refl

pub full_timeout_after_penalty : after (cost 100) 10 Timeout ≡ line (cost 100) Same
full_timeout_after_penalty = refl

pub crash_after_penalty : after (cost 100) 7 Crashed ≡ line (cost 100) Same
crash_after_penalty = refl

pub time_after_penalty : after (cost 100) 7 (solved 6) ≡ line (cost 100) Conflict
time_after_penalty = refl

-- where an abort is known
pub time_after_abort : after Abort 7 (solved 6) ≡ line Abort Conflict
time_after_abort = refl

pub short_timeout_after_abort : after Abort 7 Timeout ≡ line Abort Same
short_timeout_after_abort = refl

pub full_timeout_after_abort : after Abort 10 Timeout ≡ line Abort Conflict
full_timeout_after_abort = refl

pub crash_after_abort : after Abort 7 Crashed ≡ line Abort Conflict
crash_after_abort = refl

pub abort_after_abort : after Abort 7 answer.Abort ≡ line Abort Same
abort_after_abort = refl
