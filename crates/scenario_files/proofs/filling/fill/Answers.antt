use Rattle.std.proofs.Common.{ap, sym, ◌∙◌}
use Rattle.scenario_files.specs.Scenarios.{scenario_of}
use Rattle.scenario_files.proofs.ScenarioRanges.{filled_within}
use Rattle.scenario_files.proofs.filling.fill.Goals as goal

pub returns-in-Ok-clause-limits : goal.returns-in-Ok-clause-limits
returns-in-Ok-clause-limits c f w = filled_within c.args.file c.args.words c.in-Ok.scenario f w (ap scenario_of (sym c.draft_or.ensures) ∙ c.in-Ok.ensures.value)
