use Rattle.std.proofs.Common.{◌+◌, length, ap, ◌∙◌}
use Rattle.run_cache.specs.Caches.{row_of}
use Rattle.run_cache.proofs.RowSums.{length-sums_from}
use Rattle.run_cache.proofs.cache.Cache.sums.Goals as goal

pub returns-clause-up_to_front : goal.returns-clause-up_to_front
returns-clause-up_to_front c = ap (λ l. length l + 1) c.at_front.ensures.sums ∙ length-sums_from 0 (row_of c.args.self.now.rows c.args.config.now)
