use Rattle.std.proofs.Common.{ℕ, List, Result, ◌∙◌}
use Rattle.std.proofs.lemmas.Result.{err_from_is_err_and}
use Rattle.plain_text.specs.Lines.{numbered_lines}
use Rattle.plain_text.proofs.LineFoldLemmas.{fold-none, fold-all, fold-more, fold-stops}
use Rattle.scenario_files.specs.declared.draft.Draft.{Draft}
use Rattle.scenario_files.specs.declared.faults.ScenarioWhat.{ScenarioWhat}
use Rattle.scenario_files.specs.Drafts.{no_keys}
use Rattle.scenario_files.specs.Files.{with_line, lines_read}
use Rattle.scenario_files.proofs.reader.read_lines.Goals as goal

-- a line is taken into a draft, whatever its number
abbrev step : Draft → ℕ → List ℕ → Result Draft ScenarioWhat
step d number line = with_line d line

pub loop-line-init : goal.loop-line-init
loop-line-init c =
    let lines = numbered_lines c.args.text.now in
    fold-none step no_keys c.no_keys-draft.result lines c.into_iter-line-iterator.result c.no_keys-draft.ensures (c.into_iter-line-iterator.ensures.into_iter_gives ∙ c.numbered_lines-line-items.ensures)

pub returns-in_err-add_numbered-clause-fault : goal.returns-in_err-add_numbered-clause-fault
returns-in_err-add_numbered-clause-fault c =
    let line = c.in-Some.line in
    let p = err_from_is_err_and c.from_residual.result c.from_residual.ensures.1 in
    rw (p.1, p.2)
    (fold-stops step _ (lines_read (numbered_lines c.args.text.now)) c.loop-line.draft line.number line.bytes.now c.loop-line.line-iterator c.next.new.self c.loop-line.invariant c.in-Some.ensures.steps
    c.in_err-add_numbered.ensures.fault)

pub loop-line-preserved : goal.loop-line-preserved
loop-line-preserved c =
    let line = c.in-Some.line in
    fold-more step (lines_read (numbered_lines c.args.text.now)) c.loop-line.draft c.add_numbered.new.self line.number line.bytes.now c.loop-line.line-iterator c.next.new.self c.loop-line.invariant c.in-Some.ensures.steps
    c.in_ok-add_numbered.ensures.value

pub returns-clause-value : goal.returns-clause-value
returns-clause-value c =
    fold-all step (lines_read (numbered_lines c.args.text.now)) c.loop-line.draft c.loop-line.line-iterator c.loop-line.invariant c.in-None.ensures.steps.0
