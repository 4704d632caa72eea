use Rattle.std.proofs.Common.{◌≡◌, ◌+◌, ◌-◌}
use Rattle.param_space.specs.Configurations.{IsConfig}
use Rattle.ils_face.specs.Setups.{setup_of}
use Rattle.ils_frame.specs.NextComparison.{perturbation}
use Rattle.ils_frame.proofs.drawing.perturbed.Given as goal

-- the steps that are left lead to where all of them lead
abbrev pub invariant-loop-step : goal.invariant-loop-step
invariant-loop-step l = record {
  sound : IsConfig l.rules.space l.reached;
  same : perturbation (setup_of l.rules) (l.rules.strength - l.step) l.reached (l.event + l.step) ≡ perturbation (setup_of l.rules) l.rules.strength l.initial.reached l.event;
}
