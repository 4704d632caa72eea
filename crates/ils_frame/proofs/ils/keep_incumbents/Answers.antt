use Rattle.uncapped.specs.Procedure.{Sums}
use Rattle.ils_face.specs.Follows.{sums_under}
use Rattle.ils_frame.specs.Laws.FollowsLaw.{laws_lead}
use Rattle.ils_frame.proofs.ils.keep_incumbents.Goals as goal

pub returns : goal.returns
returns g c rules T are =
    let sums : Sums = sums_under rules T in
    laws_lead g.C.Comparer.parts (g.C.Comparer.at_open rules) rules are (g.C.Comparer.fit rules) (g.met.C.Comparer.steady rules are) (g.C.Comparer.stands rules sums)
    (g.C.Comparer.coming rules sums) (g.C.Comparer.better rules sums) (g.C.Comparer.opening rules sums) T (g.met.C.Comparer.keeps rules T are)
