-- What the runs known so far make of an ask: a walk over its places, one after another, and what is read off of a row in its place.
use Rattle.std.specs.Prelude.{ℕ, zero, suc, ◌+◌, ◌-◌, Bool, false, List, length, Option, Some, None, nat_le, nat_lt, if◌then◌else◌}
use Rattle.objective.specs.Bounds.{Bounds}
use Rattle.objective.specs.Costs.{cap}
use Rattle.objective.specs.declared.Sum.{Sum}
use Rattle.uncapped.specs.Procedure.{Settings}
use Rattle.ils_face.specs.declared.asks.Ask.{Ask}
use Rattle.ils_face.specs.declared.asks.Ask.TheVariants.{Full, Versus, End}
use Rattle.ils_face.specs.declared.asks.Reply.TheVariants as reply
use Rattle.run_cache.specs.declared.known.Known.{Known}
use Rattle.run_cache.specs.declared.known.Known.TheVariants.{Nothing, Over, Exact, Abort}
use Rattle.run_cache.specs.Fronts.{spent_over}
use Rattle.capping.specs.declared.verdicts.Verdict.{Verdict}
use Rattle.capping.specs.declared.verdicts.Verdict.TheVariants.{Reply, Need, Aborted, Ended}

-- so much is more than the bound, where there is one
abbrev pub is_past : Option ℕ → ℕ → Bool
is_past None spent = false
is_past (Some bound) spent = nat_lt bound spent

-- a cost greater than this time leads past the bound, where there is one
abbrev pub leads_past : Option ℕ → ℕ → ℕ → Bool
leads_past None spent time = false
leads_past (Some bound) spent time = nat_le (bound - spent) time

-- the cutoff of a run: the full one, or that for what is left of the bound
abbrev pub cutoff_left : Bounds → Option ℕ → ℕ → ℕ
cutoff_left limits None spent = limits.cutoff
cutoff_left limits (Some bound) spent = cap limits (bound - spent)

-- a run is needed at the place
abbrev pub need : Bounds → Option ℕ → ℕ → ℕ → Verdict
need limits bound place spent = Need place (record { 0 = cutoff_left limits bound spent })

-- the verdict at a place after those before it cost so much; where its own cost is known, that of the places after it
abbrev pub verdict_at : Bounds → Option ℕ → ℕ → ℕ → (ℕ → Verdict) → Known → Verdict
verdict_at limits bound place spent after (Exact cost) = after (spent + cost.0)
verdict_at limits bound place spent after (Over time) =
    if leads_past bound spent time.0 then Reply reply.Exceeds else need limits bound place spent
verdict_at limits bound place spent after Abort = Aborted place
verdict_at limits bound place spent after Nothing = need limits bound place spent

-- the verdict at so many places that are left, from this one on, after those before it cost so much
abbrev pub verdict_from : Bounds → (ℕ → Known) → Option ℕ → ℕ → ℕ → ℕ → Verdict
verdict_from limits known bound zero place spent =
    if is_past bound spent then Reply reply.Exceeds else Reply (reply.Exact (record { 0 = spent }))
verdict_from limits known bound (suc left) place spent =
    if is_past bound spent then Reply reply.Exceeds
    else verdict_at limits bound place spent (verdict_from limits known bound left (suc place)) (known place)

-- the verdict on places whose costs are all known and sum up to so much
abbrev pub verdict_on_sum : Option ℕ → ℕ → Verdict
verdict_on_sum bound spent = if is_past bound spent then Reply reply.Exceeds else Reply (reply.Exact (record { 0 = spent }))

-- the verdict at the first place whose cost isn't known, after those before it cost so much
abbrev pub verdict_next : Bounds → Option ℕ → ℕ → ℕ → Known → Verdict
verdict_next limits bound place spent known =
    if is_past bound spent then Reply reply.Exceeds else verdict_at limits bound place spent (λ sum. need limits bound place spent) known

-- the verdict on n places, by the sums over the leading exact places of a row and what it knows at the next one
abbrev pub verdict_at_front : Bounds → Option ℕ → ℕ → List Sum → Known → Verdict
verdict_at_front limits bound n sums known =
    if nat_le n (length sums) then verdict_on_sum bound (spent_over sums n)
    else verdict_next limits bound (suc (length sums)) (spent_over sums (length sums)) known

-- the verdict on an ask, by what is known of each configuration at each place
abbrev pub verdict_of : Bounds → (Settings → ℕ → Known) → Ask → Verdict
verdict_of limits known (Full θ n) = verdict_from limits (known θ) None n 1 0
verdict_of limits known (Versus θ n bound) = verdict_from limits (known θ) (Some bound.0) n 1 0
verdict_of limits known End = Ended
