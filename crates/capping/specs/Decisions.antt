-- What a verdict says of its ask, by cases.
use Rattle.std.specs.Prelude.{ℕ, ◌≡◌, ◌<◌, ◌≤◌, false, Option, Some, None, IsSome, IsSomeAnd}
use Rattle.std.specs.Option.{option_map}
use Rattle.objective.specs.Bounds.{Bounds, AreInRange}
use Rattle.objective.specs.Costs.{Table, cost_of}
use Rattle.objective.specs.declared.Answer.{Answer}
use Rattle.objective.specs.declared.Sum.{Sum}
use Rattle.uncapped.specs.Procedure.{Settings, Question}
use Rattle.uncapped.specs.DueCutoffs.{cap_at}
use Rattle.uncapped.specs.Totals.{total_cost}
use Rattle.ils_face.specs.declared.asks.Ask.{Ask}
use Rattle.ils_face.specs.declared.asks.Ask.TheVariants.{Full, Versus, End}
use Rattle.ils_face.specs.declared.asks.Reply.{Reply}
use Rattle.ils_face.specs.declared.asks.Reply.TheVariants as reply
use Rattle.ils_face.specs.Traces.{question_of}
use Rattle.run_cache.specs.declared.cell.Cell.{Cell}
use Rattle.run_cache.specs.declared.known.Known.{Known}
use Rattle.run_cache.specs.declared.known.Known.TheVariants.{Nothing, Over, Exact, Abort}
use Rattle.run_cache.specs.Knowledge.{IsInRange, is_settled}
use Rattle.run_cache.specs.Learning.{lesson}
use Rattle.run_cache.specs.Caches.{Knowledge, known_after}
use Rattle.capping.specs.declared.verdicts.Verdict.{Verdict}
use Rattle.capping.specs.declared.verdicts.Verdict.TheVariants
use Rattle.capping.specs.Verdicts.{verdict_of}

-- the bound as a plain number
abbrev pub bound_of : Option Sum → Option ℕ
bound_of bound = option_map (λ b. b.0) bound

-- a configuration's total cost over its first places is asked for, in full or up to a bound
abbrev pub question : Settings → ℕ → Option ℕ → Question
question θ n bound = record { config = θ; places = n; bound = bound }

-- the number of places that an ask is of
abbrev pub place_count : Ask → ℕ
place_count (Full θ n) = n
place_count (Versus θ n bound) = n
place_count End = 0

-- where the ask is replied to, the fact of its reply
abbrev pub IfReply : Verdict → (Reply → Type 0) → Type 0
IfReply (TheVariants.Reply r) P = P r
IfReply (TheVariants.Need place cutoff) P = Unit {0}
IfReply (TheVariants.Aborted place) P = Unit {0}
IfReply TheVariants.Ended P = Unit {0}

-- where a run is needed, the fact of its place and its cutoff
abbrev pub IfNeed : Verdict → (ℕ → ℕ → Type 0) → Type 0
IfNeed (TheVariants.Reply r) P = Unit {0}
IfNeed (TheVariants.Need place cutoff) P = P place cutoff.0
IfNeed (TheVariants.Aborted place) P = Unit {0}
IfNeed TheVariants.Ended P = Unit {0}

-- the same fact of them and of the ask's question
abbrev pub IfNeedOf : Verdict → Ask → (ℕ → ℕ → Question → Type 0) → Type 0
IfNeedOf verdict ask P = IfNeed verdict (λ place cutoff. IsSomeAnd (question_of ask) (P place cutoff))

-- where a run asked for the end of the tuning, the fact of its place and of the ask's question
abbrev pub IfAbortedOf : Verdict → Ask → (ℕ → Question → Type 0) → Type 0
IfAbortedOf (TheVariants.Reply r) ask P = Unit {0}
IfAbortedOf (TheVariants.Need place cutoff) ask P = Unit {0}
IfAbortedOf (TheVariants.Aborted place) ask P = IsSomeAnd (question_of ask) (P place)
IfAbortedOf TheVariants.Ended ask P = Unit {0}

-- where nothing is asked for, the fact
abbrev pub OnEnded : Verdict → Type 0 → Type 0
OnEnded (TheVariants.Reply r) P = Unit {0}
OnEnded (TheVariants.Need place cutoff) P = Unit {0}
OnEnded (TheVariants.Aborted place) P = Unit {0}
OnEnded TheVariants.Ended P = P

-- the total cost that is replied is at most this
abbrev pub IsAtMost : ℕ → Reply → Type 0
IsAtMost most (reply.Exact sum) = sum.0 ≤ most
IsAtMost most reply.Exceeds = Unit {0}

-- the cost is known
abbrev pub IsCostKnown : Known → Type 0
IsCostKnown Nothing = ⊥
IsCostKnown (Over time) = ⊥
IsCostKnown (Exact cost) = Unit {0}
IsCostKnown Abort = ⊥

-- a run is needed at the first place of the question whose cost isn't known, and this cutoff tells more of it
pub record IsNeeded (limits : Bounds) (known : Knowledge) (place cutoff : ℕ) (q : Question) : Type 0 where
  pub first : 1 ≤ place
  pub last : place ≤ q.places
  pub before : (i : ℕ) → 1 ≤ i → i < place → IsCostKnown (known q.config i)
  pub unsettled : is_settled (known q.config place) cutoff ≡ false
  pub positive : 1 ≤ cutoff
  pub at_most : cutoff ≤ limits.cutoff

-- the limits, and what is known of the question's configuration, lie in their ranges
pub record AreRanged (limits : Bounds) (known : Knowledge) (q : Question) : Type 0 where
  pub bounds : AreInRange limits.cutoff limits.floor
  pub places : (place : ℕ) → IsInRange limits (known q.config place)

-- the cutoff is the one that is due at the place of the question
pub record IsDueAt (limits : Bounds) (T : Table) (place cutoff : ℕ) (q : Question) : Type 0 where
  pub due : cap_at limits T q place ≡ Some cutoff

-- what is known after a run of the cell, once its answer is learnt
abbrev pub after_run : Bounds → Knowledge → Cell → ℕ → Answer → Knowledge
after_run limits known cell cutoff answer =
    known_after known cell (lesson limits (known cell.config cell.place) cutoff answer).known

-- a run is needed at a later place than this, if at all
abbrev pub NeedsLater : ℕ → Verdict → Type 0
NeedsLater place (TheVariants.Reply r) = Unit {0}
NeedsLater place (TheVariants.Need later cutoff) = place < later
NeedsLater place (TheVariants.Aborted other) = Unit {0}
NeedsLater place TheVariants.Ended = Unit {0}

-- whatever the run at the place answers, once that is learnt none is needed at it again, nor before it
pub record GoesOn (limits : Bounds) (known : Knowledge) (ask : Ask) (place cutoff : ℕ) (q : Question) : Type 0 where
  pub later : (answer : Answer)
      → NeedsLater place (verdict_of limits (after_run limits known (record { config = q.config; place = place }) cutoff answer) ask)

-- the run at this place of the question asked for the end of the tuning, and the costs before it are known
pub record IsKnownAbort (known : Knowledge) (place : ℕ) (q : Question) : Type 0 where
  pub first : 1 ≤ place
  pub last : place ≤ q.places
  pub before : (i : ℕ) → 1 ≤ i → i < place → IsCostKnown (known q.config i)
  pub abort : known q.config place ≡ Abort

-- the run at this place of the question is due and aborts, and none before it does
pub record IsFirstAbort (limits : Bounds) (T : Table) (place : ℕ) (q : Question) : Type 0 where
  pub abort : cost_of limits (T q.config place) ≡ None
  pub before : (i : ℕ) → 1 ≤ i → i < place → IsSome (cost_of limits (T q.config i))
  pub due : IsSome (cap_at limits T q place)
  pub unknown : total_cost limits T q.config q.places ≡ None
