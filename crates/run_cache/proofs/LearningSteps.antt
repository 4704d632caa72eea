-- A cache before and after it learns: what its steps make of it.
use Rattle.std.proofs.Common.{ℕ, ◌≡◌, Bool, true, false, ◌&&◌, List, refl, sym, ap, subst, ◌∙◌}
use Rattle.std.specs.Prelude.{◌≢◌, IsTrue, ◌==◌, if◌then◌else◌, bytes_eq}
use Rattle.std.specs.Cmp.Lexicographic.{bytes_decides}
use Rattle.std.proofs.lemmas.Bool.{and_from, eq-eqb, eqb-true}
use Rattle.objective.specs.Costs.{Table, seen}
use Rattle.objective.specs.declared.Outcome.{Outcome}
use Rattle.objective.specs.declared.Answer.{Answer}
use Rattle.run_cache.specs.declared.cell.Cell.{Cell}
use Rattle.run_cache.specs.declared.known.Known.{Known}
use Rattle.run_cache.specs.declared.known.Learnt.TheVariants.{Fresh, Same, Conflict}
use Rattle.run_cache.specs.declared.learning.Lesson.{Lesson}
use Rattle.run_cache.specs.Knowledge.{Agrees}
use Rattle.run_cache.specs.Learning.{learnt, is_same}
use Rattle.run_cache.specs.Caches.{Cached, IsCutoff, AgreesWith, GoesWith, is_at, known_in, known_after, has_place_in, lesson_in, conflicts_after, rows_with}
use Rattle.run_cache.proofs.Agreement.{IsLearnt, learns}
use Rattle.run_cache.proofs.RowLemmas.{known_in-set}

-- a cell is at its own place
itself : (cell : Cell) → is_at cell cell.config cell.place ≡ true
itself cell = and_from (bytes_eq cell.config cell.config) (cell.place == cell.place) ((bytes_decides cell.config cell.config).1 refl) (eq-eqb cell.place cell.place refl)

-- what isn't a conflict is no answer Conflict
calm_answer : (before : Known) (l : Lesson) → l.conflict ≡ false → learnt before l ≢ Conflict
calm_answer before l calm e = by (is_same before l.known) (ap (λ b. if b then Conflict else if is_same before l.known then Same else Fresh) (sym calm) ∙ e)
  where
    by : (b : Bool) → (if b then Same else Fresh) ≡ Conflict → ⊥
    by true h = absurd (cc)
    by false h = absurd (cc)

-- the cache before and after, with what was learnt
pub record IsStep (c d : Cached) (cell : Cell) (cutoff : ℕ) (answer : Answer) (l : Lesson) : Type 0 where
  pub place : IsTrue (has_place_in c cell.config cell.place)
  pub in_range : IsCutoff c.limits cutoff
  pub learns : l ≡ lesson_in c cell cutoff answer
  pub limits : d.limits ≡ c.limits
  pub conflicts : d.conflicts ≡ conflicts_after c.conflicts l.conflict
  pub rows : d.rows ≡ rows_with c.rows cell l.known

module _ (c d : Cached) (cell : Cell) (cutoff : ℕ) (answer : Answer) (l : Lesson) (step : IsStep c d cell cutoff answer l) where
  -- what is known afterwards
  pub step-known : known_in d ≡ known_after (known_in c) cell (lesson_in c cell cutoff answer).known
  step-known = known_in-set c d cell l.known step.place step.rows ∙ ap (λ m. known_after (known_in c) cell m.known) step.learns

  -- what is known of the cell itself
  known_here : known_in d cell.config cell.place ≡ (lesson_in c cell cutoff answer).known
  known_here =
      ap (λ f. f cell.config cell.place) step-known
      ∙ ap (λ b. if b then (lesson_in c cell cutoff answer).known else known_in c cell.config cell.place) (itself cell)

  step-learnt : (o : Outcome) → Agrees c.limits (known_in c cell.config cell.place) o → answer ≡ seen o cutoff
      → IsLearnt c.limits (lesson_in c cell cutoff answer).known (lesson_in c cell cutoff answer).conflict o
  step-learnt o agrees shown = learns c.limits (known_in c cell.config cell.place) cutoff answer o step.in_range agrees shown

  -- for an outcome of the cell
  pub step-outcome : (o : Outcome) → Agrees c.limits (known_in c cell.config cell.place) o → answer ≡ seen o cutoff
      → GoesWith c d cell o (learnt (known_in c cell.config cell.place) l)
  step-outcome o agrees shown =
      let made = step-learnt o agrees shown in
      let calm : l.conflict ≡ false = ap (λ m. m.conflict) step.learns ∙ made.no_conflict in
      record {
        agrees = subst (λ k. Agrees c.limits k o) (sym known_here) made.agrees;
        no_conflict = calm_answer (known_in c cell.config cell.place) l calm;
        conflicts = step.conflicts ∙ ap (conflicts_after c.conflicts) calm;
      }

  -- for a table
  pub step-table : (T : Table) → AgreesWith T c → answer ≡ seen (T cell.config cell.place) cutoff → AgreesWith T d
  step-table T agrees shown =
      let made = step-learnt (T cell.config cell.place) (agrees.cells cell.config cell.place) shown in
      record {
        cells = λ config place.
            subst (λ b. Agrees b (known_in d config place) (T config place)) (sym step.limits)
            (subst (λ f. Agrees c.limits (f config place) (T config place)) (sym step-known)
            (by (bytes_eq cell.config config) (cell.place == place) config place refl refl made.agrees (agrees.cells config place)));
      }
    where
      by : (x y : Bool) (config : List ℕ) (place : ℕ) → bytes_eq cell.config config ≡ x → (cell.place == place) ≡ y
          → Agrees c.limits (lesson_in c cell cutoff answer).known (T cell.config cell.place) → Agrees c.limits (known_in c config place) (T config place)
          → Agrees c.limits (if x && y then (lesson_in c cell cutoff answer).known else known_in c config place) (T config place)
      by false y config place e f here other = other
      by true false config place e f here other = other
      by true true config place e f here other =
          subst (λ t. Agrees c.limits (lesson_in c cell cutoff answer).known (T t place)) ((bytes_decides cell.config config).0 e)
          (subst (λ p. Agrees c.limits (lesson_in c cell cutoff answer).known (T cell.config p)) (eqb-true cell.place place f) here)
