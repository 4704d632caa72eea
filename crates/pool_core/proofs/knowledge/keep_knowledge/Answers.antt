use Rattle.board_steps.proofs.KeptKnowledge.{take-keeps, lost-keeps, killed-keeps, mark-keeps, stop-keeps, resume-keeps, record-keeps}
use Rattle.pool_core.proofs.knowledge.keep_knowledge.Goals as goal

pub returns : goal.returns
returns g c = record {
  take = take-keeps g.P.Search.shown;
  lost = lost-keeps;
  killed = killed-keeps;
  mark = mark-keeps g.P.Search.shown;
  stop = stop-keeps;
  resume = resume-keeps;
  unheard = record-keeps;
}
