use Rattle.std.proofs.lemmas.Result.{IfErr-weaker, IfOk-weaker}
use Rattle.tune_front.proofs.ReadingCauses.{given_on, refused_on}
use Rattle.tune_front.proofs.reading.tasks.read_task.Goals as goal

pub returns-clause-refused : goal.returns-clause-refused
returns-clause-refused g c =
    IfErr-weaker c.read_named.result _ _
    (λ e. refused_on c.args.words _ (g.F.Files.told c.args.files.now) (g.F.Files.told c.read_scenario_file.new.files) (g.F.Files.told c.read_named.new.files) e c.in_ok-scenario.ensures.same c.in_ok-scenario.ensures.counts (rw c.as_str.ensures at c.in_ok-scenario.ensures.read))
    c.read_named.ensures.refused

pub returns-clause-read : goal.returns-clause-read
returns-clause-read g c =
    IfOk-weaker c.read_named.result _ _
    (λ t. given_on c.args.words _ (g.F.Files.told c.args.files.now) (g.F.Files.told c.read_scenario_file.new.files) t c.in_ok-scenario.ensures.same (rw c.as_str.ensures at c.in_ok-scenario.ensures.read))
    c.read_named.ensures.read
