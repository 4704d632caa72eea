-- What is learnt from a run: what is known afterwards, and whether the run contradicts what was known.
use Rattle.std.specs.Prelude.{ℕ, max, Bool, true, false, not, ◌==◌, nat_le, nat_lt, if◌then◌else◌}
use Rattle.objective.specs.Bounds.{Bounds}
use Rattle.objective.specs.Costs.{penalty}
use Rattle.objective.specs.declared.Answer.{Answer}
use Rattle.objective.specs.declared.Answer.TheVariants as answer
use Rattle.run_cache.specs.declared.known.Known.{Known}
use Rattle.run_cache.specs.declared.known.Known.TheVariants.{Nothing, Over, Exact, Abort}
use Rattle.run_cache.specs.declared.known.Learnt.{Learnt}
use Rattle.run_cache.specs.declared.known.Learnt.TheVariants.{Fresh, Same, Conflict}
use Rattle.run_cache.specs.declared.learning.Evidence.{Evidence}
use Rattle.run_cache.specs.declared.learning.Evidence.TheVariants as evidence
use Rattle.run_cache.specs.declared.learning.Lesson.{Lesson}

-- what an answer under a cutoff says of its cell
abbrev pub evidence_of : Bounds → ℕ → Answer → Evidence
evidence_of limits cutoff (answer.Solved t) = evidence.Solved t
evidence_of limits cutoff answer.Timeout = if nat_lt cutoff limits.cutoff then evidence.Longer (record { 0 = cutoff }) else evidence.Unsolved
evidence_of limits cutoff answer.Crashed = evidence.Unsolved
evidence_of limits cutoff answer.Abort = evidence.Abort

-- the cost is known
abbrev pub exactly : ℕ → Known
exactly x = Exact (record { 0 = x })

-- this is known, without a conflict
abbrev pub without_conflict : Known → Lesson
without_conflict known = record { known = known; conflict = false }

-- this is known, and it is a conflict where the test is true
abbrev pub with_conflict : Bool → Known → Lesson
with_conflict test known = record { known = known; conflict = test }

-- the table of what is learnt, for the cost of a run without a solution
abbrev pub lesson_from : ℕ → Known → Evidence → Lesson
lesson_from penalty Nothing (evidence.Solved t) = without_conflict (exactly t.0)
lesson_from penalty Nothing (evidence.Longer c) = without_conflict (Over c)
lesson_from penalty Nothing evidence.Unsolved = without_conflict (exactly penalty)
lesson_from penalty Nothing evidence.Abort = without_conflict Abort
lesson_from penalty (Over k) (evidence.Solved t) = with_conflict (nat_le t.0 k.0) (exactly t.0)
lesson_from penalty (Over k) (evidence.Longer c) = without_conflict (Over (record { 0 = max k.0 c.0 }))
lesson_from penalty (Over k) evidence.Unsolved = without_conflict (exactly penalty)
lesson_from penalty (Over k) evidence.Abort = without_conflict Abort
lesson_from penalty (Exact x) (evidence.Solved t) = with_conflict (not (t.0 == x.0)) (Exact x)
lesson_from penalty (Exact x) (evidence.Longer c) = with_conflict (nat_le x.0 c.0) (Exact x)
lesson_from penalty (Exact x) evidence.Unsolved = with_conflict (not (x.0 == penalty)) (Exact x)
lesson_from penalty (Exact x) evidence.Abort = with_conflict true (Exact x)
lesson_from penalty Abort (evidence.Solved t) = with_conflict true Abort
lesson_from penalty Abort (evidence.Longer c) = without_conflict Abort
lesson_from penalty Abort evidence.Unsolved = with_conflict true Abort
lesson_from penalty Abort evidence.Abort = without_conflict Abort

-- what a run's answer under a cutoff teaches
abbrev pub lesson : Bounds → Known → ℕ → Answer → Lesson
lesson limits known cutoff answer = lesson_from (penalty limits) known (evidence_of limits cutoff answer)

-- the same is known
abbrev pub is_same : Known → Known → Bool
is_same Nothing Nothing = true
is_same (Over k) (Over c) = k.0 == c.0
is_same (Exact x) (Exact y) = x.0 == y.0
is_same Abort Abort = true
is_same before after = false

-- what a lesson adds to what was known
abbrev pub learnt : Known → Lesson → Learnt
learnt before lesson = if lesson.conflict then Conflict else if is_same before lesson.known then Same else Fresh
