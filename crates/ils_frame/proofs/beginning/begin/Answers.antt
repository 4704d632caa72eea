use Rattle.std.proofs.Common.{not, ap, sym, refl, ◌∙◌}
use Rattle.ils_face.specs.Setups.{setup_of}
use Rattle.ils_frame.specs.Machine.{machine_of, begin}
use Rattle.ils_frame.specs.UpcomingComparison.{purpose_along, upcoming_seen}
use Rattle.ils_frame.proofs.MachineBegin.{begun_so}
use Rattle.ils_frame.proofs.beginning.begin.Goals as goal

pub returns-in-Along : goal.returns-in-Along
returns-in-Along g c =
    ap (λ p. machine_of c.begins.new.comparer (record { purpose = p; event = c.args.course.now.event; over = not c.begins.result })) c.advance.ensures
    ∙ begun_so g.C.Comparer.parts c.args.rules.now c.args.comparer.now c.begins.new.comparer (purpose_along c.args.course.now.purpose) c.in-Along.first c.in-Along.second c.args.course.now.event c.begins.result _ c.begins.ensures.comparer c.begins.ensures.left refl
    ∙ ap (λ u. begin g.C.Comparer.parts (setup_of c.args.rules.now) c.args.comparer.now (upcoming_seen c.args.course.now.purpose c.args.course.now.event u)) (sym c.in-Along.is)

pub returns-in-Begin : goal.returns-in-Begin
returns-in-Begin g c =
    begun_so g.C.Comparer.parts c.args.rules.now c.args.comparer.now c.begins-in-Begin.new.comparer c.in-Begin.purpose c.in-Begin.first c.in-Begin.second c.in-Begin.event c.begins-in-Begin.result _ c.begins-in-Begin.ensures.comparer c.begins-in-Begin.ensures.left refl
    ∙ ap (λ u. begin g.C.Comparer.parts (setup_of c.args.rules.now) c.args.comparer.now (upcoming_seen c.args.course.now.purpose c.args.course.now.event u)) (sym c.in-Begin.is)
