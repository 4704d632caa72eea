use Rattle.std.proofs.Common.{◌≡◌, ◌↔◌, IsTrue}
use Rattle.std.proofs.lemmas.Bool.{false≢true}
use Rattle.board_steps.specs.Problem.{Problem}
use Rattle.board_steps.specs.ProblemRuns.{settings_at}
use Rattle.tuner.proofs.CellKeys.{is_paired, key_exactly, key_of_another}
use Rattle.tuner.proofs.cell_keys.is_key_of.Goals as goal

pub returns-then-not-is_of_pair : goal.returns-then-not-is_of_pair
returns-then-not-is_of_pair c =
    let p : Problem = record { rules = c.problem.inside.rules; pairs = c.problem.inside.pairs } in
    let paired : c.is_of_pair.result ≡ is_paired p c.args.key.now c.args.cell.now = rw (← c.problem-inside.view_is) c.is_of_pair.ensures in
    rw (← c.problem.view_is)
    (λ e. absurd (false≢true e), λ same. absurd (key_of_another c.args.key.now p c.args.cell.now c.is_of_pair.result paired c.if-not-is_of_pair.true same))

pub returns : goal.returns
returns c =
    let p : Problem = record { rules = c.problem.inside.rules; pairs = c.problem.inside.pairs } in
    let paired : c.is_of_pair.result ≡ is_paired p c.args.key.now c.args.cell.now = rw (← c.problem-inside.view_is) c.is_of_pair.ensures in
    let settings : IsTrue c.are_settings_of.result ↔ (c.args.key.now.settings ≡ settings_at p c.args.cell.now.config) =
    rw (← c.as_slice.ensures, ← c.problem-inside.view_is) c.are_settings_of.ensures in
    rw (← c.problem.view_is) (key_exactly c.args.key.now p c.args.cell.now c.is_of_pair.result paired c.if-not-is_of_pair.false c.are_settings_of.result settings)
