use Rattle.std.proofs.Common.{ap, ◌∙◌}
use Rattle.run_cache.specs.Caches.{row_of}
use Rattle.run_cache.specs.Fronts.{sums_of}
use Rattle.capping.specs.Verdicts.{verdict_at_front}
use Rattle.capping.specs.Decisions.{bound_of}
use Rattle.capping.proofs.FrontVerdicts.{front_verdict}
use Rattle.capping.proofs.decisions.verdict_in.Goals as goal

pub returns-clause-value : goal.returns-clause-value
returns-clause-value c =
    let limits = c.args.cache.now.limits in
    let row = row_of c.args.cache.now.rows c.args.config.now in
    let bound = bound_of c.args.bound in
    c.verdict_by.ensures
    ∙ ap (λ l. verdict_at_front l bound c.args.n c.at_front.result.sums.now c.at_front.result.known) c.limits-limits.ensures
    ∙ ap (λ s. verdict_at_front limits bound c.args.n s c.at_front.result.known) c.at_front.ensures.sums
    ∙ ap (verdict_at_front limits bound c.args.n (sums_of row)) c.at_front.ensures.known
    ∙ front_verdict limits bound row c.args.n
