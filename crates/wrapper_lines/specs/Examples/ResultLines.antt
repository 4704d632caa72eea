-- Worked result lines.
use Rattle.std.specs.Prelude.{◌≡◌, [], codes, refl}
use Rattle.objective.specs.declared.Answer.TheVariants.{Solved, Timeout, Crashed, Abort}
use Rattle.plain_text.specs.Lines.{lines_among}
use Rattle.plain_text.specs.Times.{micros_read, read_parts, shifts, power_shifts, power_size, micros_of, in_range}
use Rattle.wrapper_lines.specs.ResultLines.{answer_of}

-- no output
empty : answer_of [] 5000000 ≡ Crashed
unfolding answer_of lines_among
empty = refl

-- a small time, in lower case and with an exponent
smallest : answer_of (codes "Result for ParamILS: sat, 1e-06, 0, 0, 1") 5000000 ≡ Solved (record { 0 = 1 })
unfolding answer_of lines_among micros_read read_parts shifts power_shifts power_size micros_of in_range
smallest = refl

-- a time at the cutoff
at_cutoff : answer_of (codes "Result for ParamILS: SAT, 5, 0, 0, 1\n") 5000000 ≡ Solved (record { 0 = 5000000 })
unfolding answer_of lines_among micros_read read_parts shifts power_shifts power_size micros_of in_range
at_cutoff = refl

-- a time that is rounded up to one above the cutoff
above_cutoff : answer_of (codes "Result for ParamILS: SAT, 5.0000001, 0, 0, 1\n") 5000000 ≡ Timeout
unfolding answer_of lines_among micros_read read_parts shifts power_shifts power_size micros_of in_range
above_cutoff = refl

-- a time that is too large
too_large : answer_of (codes "Result for ParamILS: SAT, 1e99") 5000000 ≡ Timeout
unfolding answer_of lines_among micros_read read_parts shifts power_shifts power_size micros_of in_range
too_large = refl

-- a time with a sign
signed : answer_of (codes "Result for ParamILS: SAT, -1, 0, 0, 1\n") 5000000 ≡ Crashed
unfolding answer_of lines_among micros_read read_parts shifts power_shifts power_size micros_of in_range
signed = refl

-- no time
no_time : answer_of (codes "Result for ParamILS: SAT\n") 5000000 ≡ Crashed
unfolding answer_of lines_among micros_read read_parts shifts power_shifts power_size micros_of in_range
no_time = refl

-- another word for a solved run, in any case
mixed_case : answer_of (codes "Result for ParamILS: UnSat, 3\n") 5000000 ≡ Solved (record { 0 = 3000000 })
unfolding answer_of lines_among micros_read read_parts shifts power_shifts power_size micros_of in_range
mixed_case = refl

-- no field but the first
timeout : answer_of (codes "Result for ParamILS: TIMEOUT") 5000000 ≡ Timeout
unfolding answer_of lines_among
timeout = refl

-- an abort, between blanks
abort : answer_of (codes " \tResult for ParamILS: \t abort \t, 1\r\n") 5000000 ≡ Abort
unfolding answer_of lines_among
abort = refl

-- a crash
crashed : answer_of (codes "Result for ParamILS: CRASHED") 5000000 ≡ Crashed
unfolding answer_of lines_among
crashed = refl

-- no word of the table
other_word : answer_of (codes "Result for ParamILS: SATISFIABLE, 1\n") 5000000 ≡ Crashed
unfolding answer_of lines_among
other_word = refl

-- no fields
no_fields : answer_of (codes "Result for ParamILS:") 5000000 ≡ Crashed
unfolding answer_of lines_among
no_fields = refl

-- the last of two lines
last_counts : answer_of (codes "Result for ParamILS: SAT, 1\nResult for ParamILS: TIMEOUT\nlater\n") 5000000 ≡ Timeout
unfolding answer_of lines_among
last_counts = refl

-- a last line that can't be read
last_unreadable : answer_of (codes "Result for ParamILS: SAT, 1\nResult for ParamILS: what") 5000000 ≡ Crashed
unfolding answer_of lines_among
last_unreadable = refl

-- other lines
no_line : answer_of (codes "a Result for ParamILS: SAT, 1\nresult for ParamILS: SAT, 1\n") 5000000 ≡ Crashed
unfolding answer_of lines_among
no_line = refl
