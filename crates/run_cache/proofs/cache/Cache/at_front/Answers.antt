use Rattle.std.proofs.Common.{◌≡◌, [], ap, ◌∙◌}
use Rattle.std.specs.Prelude.{unwrap_or}
use Rattle.run_cache.specs.Caches.{row_of, known_at}
use Rattle.run_cache.specs.Fronts.{front_of}
use Rattle.run_cache.proofs.RowSums.{front_known}
use Rattle.run_cache.proofs.cache.Cache.at_front.Goals as goal

pub returns-in-Some-clause-known : goal.returns-in-Some-clause-known
returns-in-Some-clause-known c =
    let row : c.in-Some.row.now ≡ row_of c.args.self.now.rows c.args.config.now =
    ap (λ o. unwrap_or o []) c.in-Some.ensures.value ∙ ap (λ v. row_of v.rows c.args.config.now) c.self.view_is in
    c.at_front.ensures.known ∙ front_known c.in-Some.row.now ∙ ap (λ r. known_at r (front_of r)) row
