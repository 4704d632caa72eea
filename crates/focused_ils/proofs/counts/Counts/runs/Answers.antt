use Rattle.std.proofs.Common.{◌∙◌, ap}
use Rattle.std.specs.Map.{lookup}
use Rattle.std.specs.Prelude.{bytes_eq}
use Rattle.focused_ils.proofs.MapLemmas.{runs-first, runs-later, runs-none}
use Rattle.focused_ils.proofs.counts.Counts.runs.Goals as goal

pub returns-in-Some : goal.returns-in-Some
returns-in-Some c = runs-first c.args.config.now c.self.inside.further.entries c.self.inside.common.value.entries c.args.self.now c.self.view_is c.in-Some.runs.now c.in-Some.ensures.value

pub returns-in-Some-get : goal.returns-in-Some-get
returns-in-Some-get c = runs-later c.args.config.now c.self.inside.further.entries c.self.inside.common.value.entries c.args.self.now c.self.view_is c.in-Some-get.runs.now c.in_default.ensures.value
    (c.in-Some-get.ensures.value ∙ ap (λ m. lookup (bytes_eq c.args.config.now) m.entries) c.deref.ensures)

pub returns-in-None : goal.returns-in-None
returns-in-None c = runs-none c.args.config.now c.self.inside.further.entries c.self.inside.common.value.entries c.args.self.now c.self.view_is c.in_default.ensures.value
    (c.in-None.ensures.value ∙ ap (λ m. lookup (bytes_eq c.args.config.now) m.entries) c.deref.ensures)
