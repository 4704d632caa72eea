use Rattle.std.proofs.Common.{sym, ◌∙◌, ap, ◌++◌, ◌∷◌, []}
use Rattle.param_files.proofs.Fronts.{texts, two, inside, short}
use Rattle.param_files.proofs.Lists.{listed_short, listed_no_word, listed_last, listed_more, listed_no_mark}
use Rattle.param_files.proofs.forms.value_list.Goals as goal

pub returns-then-not-is_word-clause-value : goal.returns-then-not-is_word-clause-value
returns-then-not-is_word-clause-value c =
    listed_no_word (texts c.args.tokens.now) c.loop-taken.values.items _ c.loop-taken.invariant.1 _ _ _
    (two c.args.tokens.now c.loop-taken.taken c.in-len2-up.len_at_least) (sym c.if-not-is_word.true ∙ c.is_word.ensures)

pub returns-in-text-clause-value : goal.returns-in-text-clause-value
returns-in-text-clause-value c =
    listed_last (texts c.args.tokens.now) c.loop-taken.values.items _ c.loop-taken.invariant.1 _ _ _
    (two c.args.tokens.now c.loop-taken.taken c.in-len2-up.len_at_least)
    c.push.new.self.items (c.in_ok-push.ensures.items ∙ ap (λ v. c.loop-taken.values.items ++ v ∷ []) c.in_ok-of.ensures)
    (sym c.if-not-is_word.false ∙ c.is_word.ensures) c.in-text.is

pub loop-taken-preserved : goal.loop-taken-preserved
loop-taken-preserved c = (
  inside c.args.tokens.now c.loop-taken.taken 2 c.loop-taken.invariant.0 c.in-len2-up.len_at_least,
  listed_more (texts c.args.tokens.now) c.loop-taken.values.items _ c.loop-taken.invariant.1 _ _ _
      (two c.args.tokens.now c.loop-taken.taken c.in-len2-up.len_at_least)
      c.push.new.self.items (c.in_ok-push.ensures.items ∙ ap (λ v. c.loop-taken.values.items ++ v ∷ []) c.in_ok-of.ensures)
      (sym c.if-not-is_word.false ∙ c.is_word.ensures) c.in-text-2.is,
)

pub returns-in_default-mark-clause-value : goal.returns-in_default-mark-clause-value
returns-in_default-mark-clause-value c =
    listed_no_mark (texts c.args.tokens.now) c.loop-taken.values.items _ c.loop-taken.invariant.1 _ _ _
    (two c.args.tokens.now c.loop-taken.taken c.in-len2-up.len_at_least)
    (sym c.if-not-is_word.false ∙ c.is_word.ensures) c.in_default-mark.not-text c.in_default-mark.not-text-2

pub returns-clause-value : goal.returns-clause-value
returns-clause-value c =
    listed_short (texts c.args.tokens.now) c.loop-taken.values.items _ c.loop-taken.invariant.1 (short c.args.tokens.now c.loop-taken.taken 2 c.in_default.len_below)

pub returns-in-text-clause-within : goal.returns-in-text-clause-within
returns-in-text-clause-within c = inside c.args.tokens.now c.loop-taken.taken 2 c.loop-taken.invariant.0 c.in-len2-up.len_at_least
