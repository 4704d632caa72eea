use Rattle.std.proofs.Common.{ℕ, ◌≡◌, List, ◌++◌, ◌∙◌, ap, append_assoc}
use Rattle.std.specs.Prelude.{codes}
use Rattle.std.specs.Fmt.{decimal}
use Rattle.tuning_logs.specs.EntryLines.{settings_of}
use Rattle.tuner.proofs.lines.run_line.Goals as goal

-- the pieces, one after another
joined : (word place settings head line line' : List ℕ) → head ≡ word ++ (codes " " ++ (place ++ codes " "))
    → line ≡ head ++ settings → line' ≡ line ++ codes "\n"
    → line' ≡ word ++ (codes " " ++ (place ++ (codes " " ++ (settings ++ codes "\n"))))
joined word place settings head line line' h e e' =
    e' ∙ ap (λ xs. xs ++ codes "\n") (e ∙ ap (λ xs. xs ++ settings) h) ∙ simp append_assoc

pub returns : goal.returns
returns c =
    joined c.args.word.now (decimal c.args.place) (settings_of c.args.space.now c.args.config.now) _ _ _
    (ap (λ v. v.items) c.into_bytes-line.ensures.value ∙ c.in_ok-format.ensures.ok) c.in_ok-push_settings.ensures.ok c.in_ok-push.ensures.items
