use Rattle.std.proofs.Common.{◌≡◌, ap, sym, subst, ◌∙◌}
use Rattle.run_cache.specs.Learning.{lesson, learnt}
use Rattle.run_cache.specs.Caches.{Cached, GoesWith, lesson_in, known_in, conflicts_after}
use Rattle.run_cache.proofs.RowLemmas.{has_place_in-set, configs-set}
use Rattle.run_cache.proofs.LearningSteps.{IsStep, step-known, step-outcome, step-table}
use Rattle.run_cache.proofs.cache.Cache.learn.Goals as goal

-- the cache at the end
abbrev after : goal.After-learnt → Cached
after c = record { limits = c.self-2.inside.limits; conflicts = c.count_after-self-inside.result; rows = c.self-2.inside.rows.entries }

step : (c : goal.After-learnt) → IsStep c.args.self.now (after c) c.args.cell.now c.args.cutoff.0 c.args.answer c.lesson_of-lesson.result
step c =
    let now = c.args.self.now in
    let learns : c.lesson_of-lesson.result ≡ lesson_in now c.args.cell.now c.args.cutoff.0 c.args.answer =
    c.lesson_of-lesson.ensures
    ∙ ap (λ v. lesson v.limits c.known-before.result c.args.cutoff.0 c.args.answer) c.self.view_is
    ∙ ap (λ k. lesson now.limits k c.args.cutoff.0 c.args.answer) (c.known-before.ensures.value) in
    record {
      place = c.requires.place;
      in_range = c.requires.cutoff;
      learns = learns;
      limits = ap (λ v. v.limits) c.self-2.view_is ∙ ap (λ v. v.limits) c.set.ensures;
      conflicts = c.count_after-self-inside.ensures ∙ ap (λ v. conflicts_after v.conflicts c.lesson_of-lesson.result.conflict) c.self-2.view_is ∙ ap (λ v. conflicts_after v.conflicts c.lesson_of-lesson.result.conflict) c.set.ensures;
      rows = ap (λ v. v.rows) c.self-2.view_is ∙ ap (λ v. v.rows) c.set.ensures;
    }

pub returns-clause-known : goal.returns-clause-known
returns-clause-known c = step-known c.args.self.now (after c) c.args.cell.now c.args.cutoff.0 c.args.answer c.lesson_of-lesson.result (step c)

pub returns-clause-places : goal.returns-clause-places
returns-clause-places c = has_place_in-set c.args.self.now (after c) c.args.cell.now c.lesson_of-lesson.result.known c.requires.place (step c).rows

pub returns-clause-outcome : goal.returns-clause-outcome
returns-clause-outcome c o agrees shown =
    let answered : c.learnt.result ≡ learnt (known_in c.args.self.now c.args.cell.now.config c.args.cell.now.place) c.lesson_of-lesson.result =
    c.learnt.ensures ∙ ap (λ k. learnt k c.lesson_of-lesson.result) (c.known-before.ensures.value) in
    subst (λ a. GoesWith c.args.self.now (after c) c.args.cell.now o a) (sym answered)
    (step-outcome c.args.self.now (after c) c.args.cell.now c.args.cutoff.0 c.args.answer c.lesson_of-lesson.result (step c) o agrees shown)

pub returns-clause-table : goal.returns-clause-table
returns-clause-table c = step-table c.args.self.now (after c) c.args.cell.now c.args.cutoff.0 c.args.answer c.lesson_of-lesson.result (step c)

pub returns-clause-configs : goal.returns-clause-configs
returns-clause-configs c = configs-set c.args.self.now (after c) c.args.cell.now c.lesson_of-lesson.result.known (step c).rows
