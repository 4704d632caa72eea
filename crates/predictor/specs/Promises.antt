-- What holds of all wishes: allowed runs that tell more, none twice, not too many.
use Rattle.std.specs.Prelude.{◌≤◌, ◌≡◌, ◌≢◌, false, List, Option, Some, None}
use Rattle.std.specs.List.{AllPairs}
use Rattle.objective.specs.Bounds.{Bounds}
use Rattle.param_space.specs.Configurations.{IsConfig}
use Rattle.ils_face.specs.declared.asks.Ask.{Ask}
use Rattle.ils_face.specs.declared.asks.Ask.TheVariants.{Full, Versus}
use Rattle.ils_face.specs.declared.asks.Reply.{Reply}
use Rattle.ils_face.specs.Rules.{Rules}
use Rattle.ils_face.specs.Views.{View}
use Rattle.run_cache.specs.declared.cell.Cell.{Cell}
use Rattle.run_cache.specs.Knowledge.{is_settled}
use Rattle.run_cache.specs.Caches.{Knowledge, IsCutoff}
use Rattle.capping.specs.declared.verdicts.Verdict.{Verdict}
use Rattle.capping.specs.declared.verdicts.Verdict.TheVariants.{Need}
use Rattle.predictor.specs.declared.wish.Wish.{Wish}
use Rattle.predictor.specs.Wishes.{verdict_after}

-- the cell that the ask needs a run of, where it needs one
abbrev pub needed_cell : Ask → Verdict → Option Cell
needed_cell (Full θ n) (Need place cutoff) = Some (record { config = θ; place = place })
needed_cell (Versus θ n bound) (Need place cutoff) = Some (record { config = θ; place = place })
needed_cell ask verdict = None

-- the cell that is needed after these replies, where one is
abbrev pub needed_after : (List Reply → View) → Bounds → Knowledge → List Reply → Option Cell
needed_after shown limits known replies = needed_cell (shown replies).ask (verdict_after shown limits known replies)

-- a run of an allowed canonical configuration at a place of a comparison, under a cutoff that a run may have
pub record IsWish (rules : Rules) (limits : Bounds) (wish : Wish) : Type 0 where
  pub config : IsConfig rules.space wish.cell.config
  pub first : 1 ≤ wish.cell.place
  pub last : wish.cell.place ≤ rules.max_runs
  pub cutoff : IsCutoff limits wish.cutoff.0

-- a run of another cell than the needed one, which tells more than what is known
pub record TellsMore (known : Knowledge) (needed : Option Cell) (wish : Wish) : Type 0 where
  pub other : needed ≢ Some wish.cell
  pub unsettled : is_settled (known wish.cell.config wish.cell.place) wish.cutoff.0 ≡ false

-- no two wishes are for one cell
abbrev pub AreApart : List Wish → Type 0
AreApart wishes = AllPairs (λ v w. v.cell ≢ w.cell) wishes
