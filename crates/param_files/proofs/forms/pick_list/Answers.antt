use Rattle.std.proofs.Common.{sym, ◌∙◌}
use Rattle.param_files.proofs.Fronts.{texts, four, inside, short}
use Rattle.param_files.proofs.Picks.{pushed, picked_short, picked_no_pick, picked_last, picked_more, picked_no_mark}
use Rattle.param_files.proofs.forms.pick_list.Goals as goal

pub returns-then-not-is_pick-clause-value : goal.returns-then-not-is_pick-clause-value
returns-then-not-is_pick-clause-value c =
    picked_no_pick (texts c.args.tokens.now) _ c.loop-taken.picks.items c.loop-taken.invariant.1 _ _ _ _ _
    (four c.args.tokens.now c.loop-taken.taken c.in-len4-up.len_at_least) (sym c.if-not-is_pick.true ∙ c.is_pick.ensures)

pub returns-in-text-clause-value : goal.returns-in-text-clause-value
returns-in-text-clause-value c =
    picked_last (texts c.args.tokens.now) _ c.loop-taken.picks.items c.loop-taken.invariant.1 _ _ _ _ _
    (four c.args.tokens.now c.loop-taken.taken c.in-len4-up.len_at_least)
    c.push.new.self.items (pushed c.loop-taken.picks.items c.push.new.self.items _ c.in_ok-of.field-0 _ c.in_ok-of-2.field-0 c.in_ok-push.ensures.items c.in_ok-of.ensures c.in_ok-of-2.ensures)
    (sym c.if-not-is_pick.false ∙ c.is_pick.ensures) c.in-text.is

pub loop-taken-preserved : goal.loop-taken-preserved
loop-taken-preserved c = (
  inside c.args.tokens.now c.loop-taken.taken 4 c.loop-taken.invariant.0 c.in-len4-up.len_at_least,
  picked_more (texts c.args.tokens.now) _ c.loop-taken.picks.items c.loop-taken.invariant.1 _ _ _ _ _
      (four c.args.tokens.now c.loop-taken.taken c.in-len4-up.len_at_least)
      c.push.new.self.items (pushed c.loop-taken.picks.items c.push.new.self.items _ c.in_ok-of.field-0 _ c.in_ok-of-2.field-0 c.in_ok-push.ensures.items c.in_ok-of.ensures c.in_ok-of-2.ensures)
      (sym c.if-not-is_pick.false ∙ c.is_pick.ensures) c.in-text-2.is,
)

pub returns-in_default-mark-clause-value : goal.returns-in_default-mark-clause-value
returns-in_default-mark-clause-value c =
    picked_no_mark (texts c.args.tokens.now) _ c.loop-taken.picks.items c.loop-taken.invariant.1 _ _ _ _ _
    (four c.args.tokens.now c.loop-taken.taken c.in-len4-up.len_at_least)
    (sym c.if-not-is_pick.false ∙ c.is_pick.ensures) c.in_default-mark.not-text c.in_default-mark.not-text-2

pub returns-clause-value : goal.returns-clause-value
returns-clause-value c =
    picked_short (texts c.args.tokens.now) _ c.loop-taken.picks.items c.loop-taken.invariant.1 (short c.args.tokens.now c.loop-taken.taken 4 c.in_default.len_below)

pub returns-in-text-clause-within : goal.returns-in-text-clause-within
returns-in-text-clause-within c = inside c.args.tokens.now c.loop-taken.taken 4 c.loop-taken.invariant.0 c.in-len4-up.len_at_least
