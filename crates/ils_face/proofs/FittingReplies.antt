-- Replies that fit the asks: one more of them, and those of total costs.
use Rattle.std.specs.Prelude.{ℕ, ◌≡◌, ◌++◌, Bool, true, false, List, [], ◌∷◌, Option, Some, None, nat_le, refl, if◌then◌else◌}
use Rattle.std.proofs.lemmas.Bool.{leb-true}
use Rattle.uncapped.specs.Procedure.{Question}
use Rattle.ils_face.specs.declared.asks.Reply.{Reply}
use Rattle.ils_face.specs.declared.asks.Reply.TheVariants.{Exact, Exceeds}
use Rattle.ils_face.specs.Replies.{Fits, ask_of, reply_up_to}
use Rattle.ils_face.specs.Views.{View, AreFitting}

-- one more fitting reply
pub fitting-more : (shown : List Reply → View) (rs : List Reply) (r : Reply)
    → AreFitting shown rs → Fits (shown rs).ask r → AreFitting shown (rs ++ r ∷ [])
fitting-more shown [] r a f = (f, tt)
fitting-more shown (x ∷ rs) r a f = (a.0, fitting-more (λ rest. shown (x ∷ rest)) rs r a.1 f)

-- a table's reply fits its question
pub reply_fits : (q : Question) (x : ℕ) → Fits (ask_of q.config q.places q.bound) (reply_up_to x q.bound)
reply_fits q x = at_either q.bound
  where
    at_bound : (b : ℕ) (t : Bool) → nat_le x b ≡ t
        → Fits (ask_of q.config q.places (Some b)) (if t then Exact (record { 0 = x }) else Exceeds)
    at_bound b true e = leb-true x b e
    at_bound b false e = tt

    at_either : (bound : Option ℕ) → Fits (ask_of q.config q.places bound) (reply_up_to x bound)
    at_either None = tt
    at_either (Some b) = at_bound b (nat_le x b) refl
