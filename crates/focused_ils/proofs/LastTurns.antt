-- The turns of a comparison suffice: in the last one that may come, one of the two dominates.
use Rattle.std.proofs.Common.{◌≡◌, ℕ, ◌+◌, ◌≤◌, true, ◌||◌, refl, arith}
use Rattle.std.proofs.Math.Nat.{le_refl}
use Rattle.std.proofs.lemmas.Bool.{le-leb}
use Rattle.uncapped.specs.Procedure.{Settings}
use Rattle.ils_face.specs.declared.asks.Reply.{Reply}
use Rattle.ils_face.specs.declared.asks.Reply.TheVariants.{Exact, Exceeds}
use Rattle.focused_ils.specs.Counts.{Counts, count_in, raised}
use Rattle.focused_ils.specs.Comparison.{Turn, low_dominates, high_dominates}
use Rattle.focused_ils.specs.State.{IsTurn}
use Rattle.focused_ils.specs.Laws.Counting.{raised-most}

-- after a turn that none may follow, one of the two dominates
pub one-dominates-at_last : (allowed : Settings → Type 0) (n : ℕ) (counts : Counts) (turn : Turn) (bound : ℕ) (r : Reply) → IsTurn allowed n counts turn → turn.more ≡ 0
    → low_dominates (raised counts turn.low turn.places) turn.high turn.places r || high_dominates bound r ≡ true
one-dominates-at_last allowed n counts turn bound (Exact y) f last =
    let e : count_in counts turn.high ≤ turn.places + turn.more = f.enough in
    let h : count_in (raised counts turn.low turn.places) turn.high ≤ turn.places = raised-most counts turn.low turn.places turn.high turn.places (omega (arith, e, last)) (le_refl turn.places) in
    rw (le-leb (count_in (raised counts turn.low turn.places) turn.high) turn.places h) refl
one-dominates-at_last allowed n counts turn bound Exceeds f last = refl
