use Rattle.std.proofs.Common.{◌∙◌, ◌++◌, ap}
use Rattle.focused_ils.specs.Counts.{count_in}
use Rattle.focused_ils.proofs.MapLemmas.{map_of, raised-first-ok, raised-later-ok}
use Rattle.focused_ils.proofs.counts.Counts.raise_with.Goals as goal

pub returns-then-not-is_empty-clause-counts : goal.returns-then-not-is_empty-clause-counts
returns-then-not-is_empty-clause-counts c =
    raised-first-ok c.args.self.now c.args.config c.args.n c.runs.result c.max-runs.result (c.runs.ensures ∙ ap (λ k. count_in k c.args.config) c.gather.ensures) c.max-runs.ensures c.put.result
    c.self.inside.further.entries c.put.new.counts.entries c.self.inside.common.value.entries (c.self.view_is ∙ c.gather.ensures) c.put.ensures.counts

pub returns-in-Some-clause-counts : goal.returns-in-Some-clause-counts
returns-in-Some-clause-counts c =
    raised-later-ok c.args.self.now c.args.config c.args.n c.runs.result c.max-runs.result (c.runs.ensures ∙ ap (λ k. count_in k c.args.config) c.gather.ensures) c.max-runs.ensures c.put-in-Some.result
    c.self.inside.further.entries c.in-Some.common.now.entries c.put-in-Some.new.counts.entries (c.is_empty.ensures.0 c.if-not-is_empty.false)
    (ap (λ m. map_of (c.self.inside.further.entries ++ m.entries)) c.in-Some.ensures.value ∙ c.self.view_is ∙ c.gather.ensures) c.put-in-Some.ensures.counts

pub returns-in-None-clause-counts : goal.returns-in-None-clause-counts
returns-in-None-clause-counts c =
    raised-first-ok c.args.self.now c.args.config c.args.n c.runs.result c.max-runs.result (c.runs.ensures ∙ ap (λ k. count_in k c.args.config) c.gather.ensures) c.max-runs.ensures c.put-in-None.result
    c.self.inside.further.entries c.put-in-None.new.counts.entries c.self.inside.common.value.entries (c.self.view_is ∙ c.gather.ensures) c.put-in-None.ensures.counts
