-- How far a seat in memory is with its script, and what comes next.
use Rattle.std.specs.Prelude.{ℕ, ◌-◌, ◌==◌, Bool, true, false, ◌&&◌, ◌||◌, slice_index, if◌then◌else◌}
use Rattle.outside.specs.Counts.{next_count, is_among}
use Rattle.outside.specs.declared.course.Course.{Course}
use Rattle.outside.specs.declared.course.Script.{Script}

-- the beginning of a script
abbrev pub first_course : Script → Course
first_course script = record { script = script; starts = 0; polls = 0; looks = 0; is_stuck = false }

-- the number of the last look at a stuck child
abbrev pub last_look : ℕ
last_look = 1000000

-- the start after these fails
abbrev pub is_bad_start : Course → Bool
is_bad_start c = is_among (next_count c.starts) c.script.bad_starts

-- the child that is started after these doesn't end
abbrev pub is_stuck_start : Course → Bool
is_stuck_start c = is_among (next_count c.starts) c.script.stuck

-- the looks that come before the end of the child that is started after these; the last one at a stuck child fails
abbrev pub looks_before_end : Course → ℕ
looks_before_end c = if is_stuck_start c then last_look - 1 else slice_index c.script.pending c.starts

-- after a start, which failed or didn't
abbrev pub after_start : Bool → Course → Course
after_start true c = record c { starts = next_count c.starts; looks = looks_before_end c; is_stuck = is_stuck_start c }
after_start false c = record c { starts = next_count c.starts }

-- the look after these fails
abbrev pub is_bad_look : Course → Bool
is_bad_look c = (c.is_stuck && (c.looks == 0)) || is_among (next_count c.polls) c.script.bad_polls

-- the look after these finds that the child has ended
abbrev pub is_ended : Course → Bool
is_ended c = if is_bad_look c then false else c.looks == 0

-- after a look
abbrev pub after_look : Course → Course
after_look c = record c { polls = next_count c.polls; looks = c.looks - 1 }
