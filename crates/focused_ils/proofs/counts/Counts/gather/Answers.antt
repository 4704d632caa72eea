use Rattle.std.proofs.Common.{◌∙◌, ◌++◌, ap}
use Rattle.focused_ils.proofs.MapLemmas.{map_of, gathered}
use Rattle.focused_ils.proofs.counts.Counts.gather.Goals as goal

pub returns-in_ok-append : goal.returns-in_ok-append
returns-in_ok-append c =
    gathered c.self.inside.further.entries c.in-Some.common.now.entries c.append.new.other.entries c.append.new.self.entries
    c.len.ensures.unique c.in_ok-append.ensures.inserts.0 c.in_ok-append.ensures.emptied
    ∙ ap (λ m. map_of (c.self.inside.further.entries ++ m.entries)) c.in-Some.ensures.value ∙ c.self.view_is
