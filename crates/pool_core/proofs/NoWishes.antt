-- No wishes where none are asked for.
use Rattle.std.proofs.Common.{◌≡◌, ◌≤◌, List, [], ◌∷◌, ◌++◌, length, refl, sym, subst, arith}
use Rattle.objective.specs.Bounds.{Bounds, AreInRange}
use Rattle.ils_face.specs.declared.asks.Reply.{Reply}
use Rattle.ils_face.specs.Replies.{Fits}
use Rattle.ils_face.specs.Rules.{Rules, AreRules}
use Rattle.ils_face.specs.Steady.{IsSteady}
use Rattle.ils_face.specs.Views.{View, AreFitting}
use Rattle.ils_face.proofs.FittingReplies.{fitting-more}
use Rattle.run_cache.specs.Caches.{Knowledge}
use Rattle.predictor.specs.Wishes.{wishes_of}
use Rattle.predictor.proofs.WishFacts.{wishes-are}

-- a list of none
empty : {X : Type 0} (xs : List X) → length xs ≤ 0 → [] ≡ xs
empty [] few = refl
empty (x ∷ xs) few = absurd (omega (arith, few))

-- no wishes after a reply
pub no-wishes : (rules : Rules) (shown : Rules → List Reply → View) (limits : Bounds) (known : Knowledge) (replies : List Reply) (r : Reply)
    → ((rules : Rules) → AreRules rules → IsSteady rules (shown rules)) → limits ≡ rules.limits → AreRules rules
    → AreFitting (shown rules) replies → Fits (shown rules replies).ask r → [] ≡ wishes_of (shown rules) limits known (replies ++ r ∷ []) 0
no-wishes rules shown limits known replies r steady same ruled fitting fits =
    let ranged : AreInRange limits.cutoff limits.floor = let P : Bounds → Type 0 = λ x. AreInRange x.cutoff x.floor in subst P (sym same) ruled.limits in
    let after = replies ++ r ∷ [] in
    let are = wishes-are rules shown limits known after (shown rules after).ask 0 (wishes_of (shown rules) limits known after 0) steady ranged ruled (fitting-more (shown rules) replies r fitting fits) refl refl in
    empty (wishes_of (shown rules) limits known after 0) are.few
