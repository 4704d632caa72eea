-- A cache that knows nothing: it agrees with every table, and needs no runs.
use Rattle.std.proofs.Common.{ℕ, zero, suc, ◌≡◌, [], refl, sym, subst}
use Rattle.std.proofs.lemmas.Option.{none-some}
use Rattle.objective.specs.Bounds.{Bounds}
use Rattle.objective.specs.Costs.{Table}
use Rattle.run_cache.specs.declared.known.Known.TheVariants.{Nothing}
use Rattle.run_cache.specs.Knowledge.{Agrees}
use Rattle.run_cache.specs.Caches.{Cached, known_at, known_in, AgreesWith}
use Rattle.run_cache.specs.Runs.{IsRising, IsBackedAt, IsBacked}

-- a cache that knows nothing
abbrev pub knows_nothing : Bounds → Cached
knows_nothing limits = record { limits = limits; conflicts = 0; rows = [] }

-- an empty row knows nothing at a place
nothing_at : (place : ℕ) → known_at [] place ≡ Nothing
nothing_at zero = refl
nothing_at (suc place) = refl

-- it agrees with every table
pub agrees_first : (limits : Bounds) (T : Table) → AgreesWith T (knows_nothing limits)
agrees_first limits T = record { cells = λ config place. subst (λ k. Agrees limits k (T config place)) (sym (nothing_at place)) tt }

-- no run is needed to back it
pub backed_first : (limits : Bounds) → IsBacked limits [] (known_in (knows_nothing limits))
backed_first limits = record { cells = λ cell. subst (IsBackedAt limits [] cell) (sym (nothing_at cell.place)) (λ run of. none-some run of.among) }

-- no runs are rising
pub rising_first : IsRising []
rising_first = record { outrun = λ i j r s less at_r at_s same. absurd (none-some r at_r) }
