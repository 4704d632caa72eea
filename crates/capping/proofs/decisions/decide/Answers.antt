use Rattle.std.proofs.Common.{sym, subst}
use Rattle.std.specs.Prelude.{◌≡◌, ◌*◌, IsSomeAnd}
use Rattle.objective.specs.Limits.{max_cutoff}
use Rattle.uncapped.specs.Totals.{total_cost, quiet}
use Rattle.ils_face.specs.declared.asks.Ask.TheVariants.{End}
use Rattle.ils_face.specs.Replies.{Fits}
use Rattle.ils_face.specs.Traces.{question_of, IsReplyBy}
use Rattle.run_cache.specs.Caches.{known_in}
use Rattle.capping.specs.Decisions.{place_count, IfReply, IfNeedOf, IfAbortedOf, OnEnded, IsAtMost, IsNeeded, IsDueAt, IsKnownAbort, IsFirstAbort, GoesOn}
use Rattle.capping.proofs.Promises.{fits, bounded, needs, goes_on, found, ended, replies, is_due, aborts}
use Rattle.capping.proofs.decisions.decide.Goals as goal

pub returns-clause-fits : goal.returns-clause-fits
returns-clause-fits c =
    subst (λ v. IfReply v (Fits c.args.ask.now)) (sym c.verdict_on.ensures.value) (fits c.args.cache.now.limits (known_in c.args.cache.now) c.args.ask.now)

pub returns-clause-bound : goal.returns-clause-bound
returns-clause-bound c =
    subst (λ v. IfReply v (IsAtMost (place_count c.args.ask.now * (1000 * max_cutoff)))) (sym c.verdict_on.ensures.value)
    (bounded c.args.cache.now.limits (known_in c.args.cache.now) c.args.ask.now c.verdict_on.ensures.ranged)

pub returns-clause-need : goal.returns-clause-need
returns-clause-need c =
    subst (λ v. IfNeedOf v c.args.ask.now (IsNeeded c.args.cache.now.limits (known_in c.args.cache.now)))
    (sym c.verdict_on.ensures.value) (needs c.args.cache.now.limits (known_in c.args.cache.now) c.args.ask.now c.verdict_on.ensures.ranged)

pub returns-clause-progress : goal.returns-clause-progress
returns-clause-progress c =
    subst (λ v. IfNeedOf v c.args.ask.now (GoesOn c.args.cache.now.limits (known_in c.args.cache.now) c.args.ask.now))
    (sym c.verdict_on.ensures.value) (goes_on c.args.cache.now.limits (known_in c.args.cache.now) c.args.ask.now)

pub returns-clause-found : goal.returns-clause-found
returns-clause-found c =
    subst (λ v. IfAbortedOf v c.args.ask.now (IsKnownAbort (known_in c.args.cache.now))) (sym c.verdict_on.ensures.value)
    (found c.args.cache.now.limits (known_in c.args.cache.now) c.args.ask.now)

pub returns-clause-ended : goal.returns-clause-ended
returns-clause-ended c =
    subst (λ v. OnEnded v (c.args.ask.now ≡ End)) (sym c.verdict_on.ensures.value) (ended c.args.cache.now.limits (known_in c.args.cache.now) c.args.ask.now)

pub returns-clause-reply : goal.returns-clause-reply
returns-clause-reply c = λ T a.
    subst (λ v. IfReply v (λ r. IsSomeAnd (question_of c.args.ask.now) (IsReplyBy (total_cost c.args.cache.now.limits (quiet T)) r)))
    (sym c.verdict_on.ensures.value) (replies c.args.cache.now T a c.args.ask.now)

pub returns-clause-due : goal.returns-clause-due
returns-clause-due c = λ T a.
    subst (λ v. IfNeedOf v c.args.ask.now (IsDueAt c.args.cache.now.limits T))
    (sym c.verdict_on.ensures.value) (is_due c.args.cache.now T a c.args.ask.now)

pub returns-clause-aborted : goal.returns-clause-aborted
returns-clause-aborted c = λ T a.
    subst (λ v. IfAbortedOf v c.args.ask.now (IsFirstAbort c.args.cache.now.limits T))
    (sym c.verdict_on.ensures.value) (aborts c.args.cache.now T a c.args.ask.now)
