-- Evaluations of the procedure, where the incumbent, its runs and their cost are known.
use Rattle.std.proofs.Common.{◌≡◌, ℕ, ◌<◌, Bool, true, false, not, ◌&&◌, ◌==◌, Option, Some, None, nat_lt, bytes_eq, refl, ◌∙◌, ap, arith, max}
use Rattle.std.proofs.lemmas.Bool.{le-ltb, eqb-true}
use Rattle.std.proofs.Math.Bool.{and-false}
use Rattle.std.proofs.Math.Nat.{le_refl}
use Rattle.uncapped.specs.Procedure.{Settings, Sums, Question, Incumbent, PlainState, Goes, Ends, Aborted, goes_on, give, becomes, when}
use Rattle.uncapped.specs.Evaluation.{after_ask, after_win, counts_after, measure, is_below, overtakes, beats, evaluate}
use Rattle.focused_ils.specs.Comparison.{is_overtaken}
use Rattle.focused_ils.specs.State.{is_better, after_evaluation, win_where}
use Rattle.focused_ils.specs.Laws.Counting.{is_itself, other_way}
use Rattle.focused_ils.specs.Laws.Tallies.{overtaken-where}

-- ---- counts of the procedure

module _ (counts : Settings → ℕ) (θ : Settings) (n : ℕ) where
  -- the count of what was evaluated
  pub counts_after-itself : counts_after counts θ n θ ≡ max (counts θ) n
  counts_after-itself = rw (is_itself θ) refl

  -- the count of another configuration
  pub counts_after-other : (φ : Settings) → bytes_eq φ θ ≡ false → counts_after counts θ n φ ≡ counts φ
  counts_after-other φ e = rw e refl

-- ---- one evaluation

-- the incumbent, its runs and their cost
pub record IsIncumbent (sums : Sums) (last : Incumbent) (s : PlainState) : Type 0 where
  pub config : s.incumbent ≡ last.config
  pub runs : s.counts last.config ≡ last.runs
  pub cost : sums last.config last.runs ≡ Some last.sum

module _ (sums : Sums) (last : Incumbent) (s : PlainState) (k : IsIncumbent sums last s) where
  overtakes_so : (θ : Settings) (n : ℕ) → overtakes s θ n ≡ is_overtaken last θ n
  overtakes_so θ n = rw (k.config, k.runs) refl

  module _ (θ : Settings) (n : ℕ) (bound : Option ℕ) where
    abbrev its_question : Question
    its_question = record { config = θ; places = n; bound = bound }

    -- with a known cost of the incumbent it goes on from that one's evaluation
    pub evaluate-overtaken : (x : ℕ) → is_overtaken last θ n ≡ true → sums last.config n ≡ Some x
        → evaluate sums θ n bound s ≡ evaluate sums θ n bound (after_evaluation (record { config = last.config; places = n; bound = None }) s)
    unfolding evaluate measure
    evaluate-overtaken x o e =
        let f : last.runs < n = (overtaken-where last θ n o).1 in
        let m : max last.runs n ≡ n = omega (arith, f) in
        rw (overtakes_so θ n, o, k.config, e, counts_after-itself s.counts last.config n, k.runs, m, le-ltb n n (le_refl n), and-false (not (bytes_eq θ last.config))) refl

    same_count : (b : Bool) → bytes_eq θ last.config ≡ b → (not b && (n == counts_after s.counts θ n last.config)) ≡ (not b && (n == last.runs))
    same_count true e = refl
    same_count false e = rw (counts_after-other s.counts θ n last.config (other_way last.config θ e), k.runs) refl

    same_cost : (x : ℕ) (b : Bool) → (n == last.runs) ≡ b → (b && is_below x (sums last.config n)) ≡ (b && nat_lt x last.sum)
    same_cost x true e = rw (eqb-true n last.runs e, k.cost) refl
    same_cost x false e = refl

    after_first : (a b c d : Bool) → (b && c) ≡ (b && d) → (a && b && c) ≡ (a && b && d)
    after_first true b c d e = e
    after_first false b c d e = refl

    -- what is better than the incumbent beats it
    beats_so : (x : ℕ) → beats sums (after_evaluation its_question s) θ n x ≡ is_better last θ n x
    beats_so x = rw k.config
        (ap (λ b. b && is_below x (sums last.config n)) (same_count (bytes_eq θ last.config) refl)
        ∙ after_first (not (bytes_eq θ last.config)) (n == last.runs) (is_below x (sums last.config n)) (nat_lt x last.sum) (same_cost x (n == last.runs) refl))

    goes_on_won : (b : Bool) (x : ℕ) (s : PlainState) → goes_on (when b (becomes (after_win θ n x)) s) (λ _. give x) ≡ Goes (win_where b θ n x s) x
    goes_on_won true x s = refl
    goes_on_won false x s = refl

    -- with a known cost it goes on, maybe with a new incumbent
    pub evaluate-known : (x : ℕ) → is_overtaken last θ n ≡ false → sums θ n ≡ Some x
        → evaluate sums θ n bound s ≡ Goes (win_where (is_better last θ n x) θ n x (after_evaluation its_question s)) x
    unfolding evaluate measure
    evaluate-known x o e = rw (overtakes_so θ n, o, e, beats_so x) (goes_on_won (is_better last θ n x) x (after_evaluation its_question s))

    -- without one it aborts
    pub evaluate-unknown : is_overtaken last θ n ≡ false → sums θ n ≡ None → evaluate sums θ n bound s ≡ Ends (after_ask θ n bound s) Aborted
    unfolding evaluate measure
    evaluate-unknown o e = rw (overtakes_so θ n, o, e) refl

    -- without a known cost of the incumbent it aborts before
    pub evaluate-stopped : is_overtaken last θ n ≡ true → sums last.config n ≡ None → evaluate sums θ n bound s ≡ Ends (after_ask last.config n None s) Aborted
    unfolding evaluate measure
    evaluate-stopped o e = rw (overtakes_so θ n, o, k.config, e) refl
