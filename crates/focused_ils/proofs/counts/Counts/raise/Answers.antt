use Rattle.std.proofs.Common.{◌∙◌, ◌++◌, ap, sym}
use Rattle.focused_ils.specs.Counts.{count_in}
use Rattle.focused_ils.proofs.MapLemmas.{map_of, raised-first, raised-kept, raised-later}
use Rattle.focused_ils.proofs.counts.Counts.raise.Goals as goal

pub returns-then-not-is_empty-clause-ok : goal.returns-then-not-is_empty-clause-ok
returns-then-not-is_empty-clause-ok c =
    raised-first c.args.self.now c.args.config c.args.n c.runs-known.result c.max-runs.result (c.runs-known.ensures ∙ ap (λ k. count_in k c.args.config) c.gather.ensures) c.max-runs.ensures
    c.self.inside.further.entries c.insert.new.self.entries c.self.inside.common.value.entries (c.self.view_is ∙ c.gather.ensures) (c.in_ok-insert.ensures.updates.0)

pub returns-in_ok-insert-in-Some-clause-ok : goal.returns-in_ok-insert-in-Some-clause-ok
returns-in_ok-insert-in-Some-clause-ok c =
    raised-later c.args.self.now c.args.config c.args.n c.runs-known.result c.max-runs.result (c.runs-known.ensures ∙ ap (λ k. count_in k c.args.config) c.gather.ensures) c.max-runs.ensures
    c.self.inside.further.entries c.in-Some.common.now.entries c.insert-in-Some.new.self.entries (c.is_empty.ensures.0 c.if-not-is_empty.false)
    (ap (λ m. map_of (c.self.inside.further.entries ++ m.entries)) c.in-Some.ensures.value ∙ c.self.view_is ∙ c.gather.ensures) (c.in_ok-insert-in-Some.ensures.updates.0)

pub returns-then-n-known-clause-ok : goal.returns-then-n-known-clause-ok
returns-then-n-known-clause-ok c =
    c.gather.ensures
    ∙ sym (raised-kept c.args.self.now c.args.config c.args.n c.runs-known.result (c.runs-known.ensures ∙ ap (λ k. count_in k c.args.config) c.gather.ensures) c.if-known-gt0.true c.if-n-known.true)
