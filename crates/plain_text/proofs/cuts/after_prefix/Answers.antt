use Rattle.std.proofs.Common.{ℕ, ◌≡◌, List, Option, Some, None, Bor, drop, ap, ◌∙◌}
use Rattle.std.specs.Option.{MatchOption, option_copied}
use Rattle.std.specs.Str.Pattern.{FindsTextPrefix, StripsPrefix}
use Rattle.plain_text.specs.Parts.{after_prefix}
use Rattle.plain_text.proofs.Affixes.{after_prefix-missing, after_prefix-found}
use Rattle.plain_text.proofs.cuts.after_prefix.Goals as goal

cases : (p xs : List ℕ) (r : Option (Bor (List ℕ))) → MatchOption r (FindsTextPrefix p xs None) (λ x. StripsPrefix (FindsTextPrefix p) xs x.now) → option_copied r ≡ after_prefix p xs
cases p xs None h = after_prefix-missing p xs h
cases p xs (Some x) h = ap Some h.2 ∙ after_prefix-found p xs (drop h.0 xs) h.1.1

pub returns : goal.returns
returns c = cases c.args.prefix.now c.args.text.now c.strip_prefix.result c.strip_prefix.ensures.cases
