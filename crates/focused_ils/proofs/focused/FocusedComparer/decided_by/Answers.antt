use Rattle.std.proofs.Common.{◌≡◌, subst}
use Rattle.ils_frame.specs.Comparers.{decision_in}
use Rattle.focused_ils.specs.Comparison.{stage_at, question_at}
use Rattle.focused_ils.specs.State.{State, last_after, phase_after}
use Rattle.focused_ils.proofs.Decisions.{decided-so}
use Rattle.focused_ils.proofs.focused.FocusedComparer.decided_by.Goals as goal

pub returns : goal.returns
returns c =
    let f = c.self.inside in
    subst (λ (s : State). c.decided_by.result ≡ decision_in (stage_at (last_after s.tally.last (question_at s.tally.last s.phase) c.args.reply) (phase_after s.max_runs s.tally s.phase c.args.reply))) c.self.view_is
    (decided-so f.max_runs (record { counts = f.counts; last = f.comparison.last; bonus = f.bonus }) c.args.reply f.comparison.phase c.decided_by.result c.decided_by.ensures)
