use Rattle.std.proofs.Common.{◌≡◌, Ok, ◌∙◌}
use Rattle.std.proofs.lemmas.Result.{IfOk-weaker}
use Rattle.scenario_files.specs.Ranges.{AreWordsWithin}
use Rattle.scenario_files.specs.Words.{words_before}
use Rattle.scenario_files.proofs.WordRanges.{words_within}
use Rattle.scenario_files.proofs.call.read_words.Goals as goal

pub returns-clause-limits : goal.returns-clause-limits
returns-clause-limits c =
    IfOk-weaker c.into_words.result (λ w. words_before c.in_ok-position.position c.add_pairs.new.self ≡ Ok w) AreWordsWithin
    (λ w h. words_within c.args.words.now w (c.in_ok-position.ensures.value ∙ h)) c.into_words.ensures.value
