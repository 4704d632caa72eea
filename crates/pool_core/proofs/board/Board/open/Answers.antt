use Rattle.std.proofs.Common.{subst}
use Rattle.ils_face.specs.Rules.{AreRules}
use Rattle.board_steps.proofs.KeptBoards.{step-opening}
use Rattle.pool_core.proofs.board.Board.open.Goals as goal

pub invariant_of-result : goal.invariant_of-result
invariant_of-result g c = record {
  rules_same = c.in_ok-search.ensures.rules;
  kept = tt;
  board = rw (c.in_ok-search.ensures.none, c.open_cache-cache.ensures, c.new-2.ensures.items, c.in_ok-ledger.ensures) (step-opening g.P.Search.shown g.P.Search.plain g.S.Spawner.truth c.args.problem (subst AreRules c.in_ok-search.ensures.rules c.in_ok-search.ensures.ruled)).kept;
}

pub returns-clause-board : goal.returns-clause-board
returns-clause-board g c = rw (c.in_ok-search.ensures.none, c.open_cache-cache.ensures, c.new-2.ensures.items, c.in_ok-ledger.ensures) (step-opening g.P.Search.shown g.P.Search.plain g.S.Spawner.truth c.args.problem (subst AreRules c.in_ok-search.ensures.rules c.in_ok-search.ensures.ruled)).plain_is

pub returns-clause-invariant : goal.returns-clause-invariant
returns-clause-invariant g c = rw (c.in_ok-search.ensures.none, c.open_cache-cache.ensures, c.new-2.ensures.items, c.in_ok-ledger.ensures) (step-opening g.P.Search.shown g.P.Search.plain g.S.Spawner.truth c.args.problem (subst AreRules c.in_ok-search.ensures.rules c.in_ok-search.ensures.ruled)).kept
