-- The test whether cells are the same is true exactly of equal ones.
use Rattle.std.proofs.Common.{◌≡◌, Bool, ap}
use Rattle.std.specs.Bool.{Decides}
use Rattle.std.proofs.lemmas.Bool.Decides.{Decides-and, Decides-eqb}
use Rattle.std.proofs.lemmas.Slice.Eq.{bytes_eq-Decides}
use Rattle.run_cache.specs.declared.cell.Cell.{Cell}
use Rattle.board_steps.specs.Tickets.{same_cell}

-- a test of facts that hold exactly where others do
pub decides_also : {P Q : Type 0} {r : Bool} → Decides r P → (P → Q) → (Q → P) → Decides r Q
decides_also d to from = (λ is. to (d.0 is), λ q. d.1 (from q))

-- the cells are the same exactly where they are equal
pub same_cell-Decides : (one other : Cell) → Decides (same_cell one other) (one ≡ other)
same_cell-Decides one other =
    decides_also (Decides-and _ _ (bytes_eq-Decides one.config other.config) (Decides-eqb one.place other.place))
    (λ p i. record { config = p.0 i; place = p.1 i }) (λ same. (ap (λ c. c.config) same, ap (λ c. c.place) same))
