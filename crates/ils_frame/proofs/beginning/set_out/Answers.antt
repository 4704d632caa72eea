use Rattle.std.proofs.Common.{rules, ◌≡◌, true, false, sym, ap, ◌∙◌}
use Rattle.ils_face.specs.Setups.{setup_of}
use Rattle.ils_frame.specs.declared.purpose.Purpose.TheVariants.{Opening}
use Rattle.ils_frame.specs.Comparers.{is_asking}
use Rattle.ils_frame.specs.NextComparison.{next}
use Rattle.ils_frame.specs.Machine.{machine_of, begin}
use Rattle.ils_frame.proofs.OneMoreReply.{opens-asking, opens-next}
use Rattle.ils_frame.proofs.beginning.set_out.Goals as goal

pub returns-then-eq : goal.returns-then-eq
returns-then-eq g c =
    let first = g.C.Comparer.at_open c.args.rules.now in
    let here : is_asking (g.C.Comparer.parts.stage c.args.comparer.now) ≡ true = search rules in
    let asks : is_asking (g.C.Comparer.parts.stage first) ≡ true = ap (λ d. is_asking (g.C.Comparer.parts.stage d)) (sym c.requires.opened) ∙ here in
    ap (λ d. machine_of d (record { purpose = Opening; event = 0; over = false })) c.requires.opened
    ∙ opens-asking g.C.Comparer.parts first c.args.rules.now asks

pub returns : goal.returns
returns g c =
    let first = g.C.Comparer.at_open c.args.rules.now in
    let here : is_asking (g.C.Comparer.parts.stage c.args.comparer.now) ≡ false = search rules in
    let asks : is_asking (g.C.Comparer.parts.stage first) ≡ false = ap (λ d. is_asking (g.C.Comparer.parts.stage d)) (sym c.requires.opened) ∙ here in
    opens-next g.C.Comparer.parts first c.args.rules.now _ asks
    (c.begin.ensures
    ∙ ap (begin g.C.Comparer.parts (setup_of c.args.rules.now) c.args.comparer.now) (c.in_ok-upcoming.ensures
    ∙ ap (λ m. next (setup_of c.args.rules.now) m Opening false 0) c.compared-compared.ensures)
    ∙ ap (λ d. begin g.C.Comparer.parts (setup_of c.args.rules.now) d (next (setup_of c.args.rules.now) (g.C.Comparer.parts.last d).compared Opening false 0)) c.requires.opened)
