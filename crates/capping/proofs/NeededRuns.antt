-- The run that a walk needs: its place, its cutoff, and that the cutoff is due.
use Rattle.std.specs.Prelude.{ℕ, zero, suc, ◌-◌, ◌<◌, ◌≤◌, ◌≡◌, false, Option, Some, None, refl}
use Rattle.std.proofs.Common.{sym, ap, ◌∙◌, arith}
use Rattle.std.proofs.lemmas.Bool.{ltb-false, leb-false, le-leb, lt-leb}
use Rattle.objective.specs.Bounds.{Bounds, AreInRange}
use Rattle.objective.specs.Costs.{Table}
use Rattle.objective.specs.declared.Micros.{Micros}
use Rattle.uncapped.specs.Procedure.{Settings}
use Rattle.uncapped.specs.DueCutoffs.{cap_under, cap_at}
use Rattle.uncapped.specs.Totals.{total_cost}
use Rattle.run_cache.specs.declared.known.Known.{Known}
use Rattle.run_cache.specs.declared.known.Known.TheVariants.{Nothing, Over, Exact, Abort}
use Rattle.run_cache.specs.Knowledge.{Agrees, IsInRange, is_settled}
use Rattle.run_cache.specs.Caches.{Knowledge}
use Rattle.capping.specs.Verdicts.{is_past, leads_past, cutoff_left}
use Rattle.capping.specs.Decisions.{question, IsCostKnown, IsNeeded}
use Rattle.capping.specs.ExactSums.{exact_cost, exact_sum}
use Rattle.capping.proofs.ExactSums.{exact_total, exact_below}
use Rattle.capping.proofs.WalkEnds.{IsPassed, IsUndecided, IsOpen}

-- the cutoff for what is left is a cutoff that a run may have
cutoff_left-low : (limits : Bounds) (bound : Option ℕ) (spent : ℕ) → AreInRange limits.cutoff limits.floor → 1 ≤ cutoff_left limits bound spent
cutoff_left-low limits None spent r = let a = r.floor_positive in let b = r.floor_at_most_cutoff in omega (arith, a, b)
cutoff_left-low limits (Some b) spent r = let a = r.floor_positive in let b = r.floor_at_most_cutoff in omega (arith, a, b)

cutoff_left-high : (limits : Bounds) (bound : Option ℕ) (spent : ℕ) → cutoff_left limits bound spent ≤ limits.cutoff
cutoff_left-high limits None spent = omega arith
cutoff_left-high limits (Some b) spent = omega arith

-- a run that was cut short and doesn't lead past the bound had less time than is left
less_time : (limits : Bounds) (bound : Option ℕ) (spent time : ℕ) → time < limits.cutoff → leads_past bound spent time ≡ false
    → time < cutoff_left limits bound spent
less_time limits None spent time short h = short
less_time limits (Some b) spent time short h = let less = leb-false (b - spent) time h in omega (arith, short, less)

unsettled : (limits : Bounds) (bound : Option ℕ) (spent : ℕ) (k : Known) → IsInRange limits k → IsUndecided bound spent k
    → is_settled k (cutoff_left limits bound spent) ≡ false
unsettled limits bound spent Nothing r h = refl
unsettled limits bound spent (Over time) r h = lt-leb (cutoff_left limits bound spent) time.0 (less_time limits bound spent time.0 r.below h)
unsettled limits bound spent (Exact cost) r h = absurd h
unsettled limits bound spent Abort r h = absurd h

-- a place with a cost
costly : (k : Known) (x : ℕ) → exact_cost k ≡ Some x → IsCostKnown k
costly Nothing x e = absurd (cc)
costly (Over time) x e = absurd (cc)
costly (Exact cost) x e = tt
costly Abort x e = absurd (cc)

-- the costs at the places that are passed are known
pub costs_before : (known : ℕ → Known) (done spent : ℕ) → exact_sum known done ≡ Some spent
    → (i : ℕ) → 1 ≤ i → i ≤ done → IsCostKnown (known i)
costs_before known done spent e zero h low = absurd (omega (arith, h))
costs_before known done spent e (suc i) h low =
    let cost = exact_below known done spent e i (omega (arith, low)) in costly (known (suc i)) cost.0 cost.1

-- what a run that is needed is
pub needed : (limits : Bounds) (known : Knowledge) (θ : Settings) (bound : Option ℕ) (n place : ℕ) (cutoff : Micros)
    → AreInRange limits.cutoff limits.floor → ((i : ℕ) → IsInRange limits (known θ i))
    → IsOpen limits (known θ) bound n place cutoff
    → IsNeeded limits known place cutoff.0 (question θ n bound)
needed limits known θ bound n place cutoff ranged r p =
    let inside = p.inside in
    let at = p.place_is in
    let time = p.cutoff_is in
    let low = cutoff_left-low limits bound p.spent ranged in
    let high = cutoff_left-high limits bound p.spent in
    record {
      first = omega (arith, at);
      last = omega (arith, at, inside);
      before = λ i h below. costs_before (known θ) p.done p.spent p.passed.sum i h (omega (arith, at, below));
      unsettled = ap (is_settled (known θ place)) time ∙ ap (λ i. is_settled (known θ i) (cutoff_left limits bound p.spent)) at
          ∙ unsettled limits bound p.spent (known θ (suc p.done)) (r (suc p.done)) p.undecided;
      positive = omega (arith, time, low);
      at_most = omega (arith, time, high);
    }

-- the cutoff under a bound that isn't passed
cap_under-low : (limits : Bounds) (bound : Option ℕ) (spent : ℕ) → is_past bound spent ≡ false
    → cap_under limits bound (Some spent) ≡ Some (cutoff_left limits bound spent)
cap_under-low limits None spent e = refl
cap_under-low limits (Some b) spent e = rw (le-leb spent b (ltb-false b spent e)) refl

-- the cutoff that is due after the places that are passed
pub due_cutoff : (limits : Bounds) (T : Table) (θ : Settings) (known : ℕ → Known) → ((i : ℕ) → Agrees limits (known i) (T θ i))
    → (bound : Option ℕ) (n done spent place : ℕ) → IsPassed known bound done spent → place ≡ suc done
    → cap_at limits T (question θ n bound) place ≡ Some (cutoff_left limits bound spent)
due_cutoff limits T θ known agrees bound n done spent place p at =
    let before : place - 1 ≡ done = omega (arith, at) in
    ap (λ i. cap_under limits bound (total_cost limits T θ i)) before
    ∙ ap (cap_under limits bound) (exact_total limits T θ known agrees done spent p.sum)
    ∙ cap_under-low limits bound spent p.low

-- the cutoff of a run that is needed is due
pub due : (limits : Bounds) (T : Table) (θ : Settings) (known : ℕ → Known) → ((i : ℕ) → Agrees limits (known i) (T θ i))
    → (bound : Option ℕ) (n place : ℕ) (cutoff : Micros) → IsOpen limits known bound n place cutoff
    → cap_at limits T (question θ n bound) place ≡ Some cutoff.0
due limits T θ known agrees bound n place cutoff p =
    due_cutoff limits T θ known agrees bound n p.done p.spent place p.passed p.place_is ∙ ap (λ x. Some x) (sym p.cutoff_is)
