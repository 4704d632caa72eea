use Rattle.std.proofs.Common.{arith}
use Rattle.board_steps.specs.ProblemRuns.{setting_from}
use Rattle.tuner.proofs.CellKeys.{gives_nowhere, gives_there}
use Rattle.tuner.proofs.cell_keys.gives_at.Goals as goal

pub returns-then-number-settings : goal.returns-then-number-settings
returns-then-number-settings c =
    gives_there c.args.settings.now c.args.number c.index-settings-number.result c.args.name.now c.args.value.now c.gives.result
    (omega (arith, c.if-number-settings.true)) c.index-settings-number.is c.gives.ensures

pub returns : goal.returns
returns c =
    gives_nowhere c.args.settings.now c.args.number (setting_from (c.args.name.now, c.args.value.now)) (omega (arith, c.if-number-settings.false))
