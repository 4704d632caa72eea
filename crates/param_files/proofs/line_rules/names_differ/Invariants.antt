use Rattle.std.proofs.Common.{◌≡◌, map, drop}
use Rattle.plain_text.specs.Texts.{texts_differ}
use Rattle.param_files.proofs.line_rules.names_differ.Given as goal

-- it is left to see whether the later names differ
abbrev pub invariant-loop-i : goal.invariant-loop-i
invariant-loop-i l = texts_differ (map (λ k. k.name) l.picks) ≡ texts_differ (map (λ k. k.name) (drop l.i l.picks))
