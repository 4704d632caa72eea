-- What a cache knows, and with which outcomes that agrees.
use Rattle.std.specs.Prelude.{ℕ, zero, suc, ◌-◌, ◌^◌, ◌≡◌, ◌≢◌, ◌≤◌, min, Bool, true, false, ◌&&◌, ◌==◌, List, [], ◌∷◌, ◌++◌, length, replicate, All, bytes_eq, nat_le, nat_lt, slice_index_or, slice_set, unwrap_or, is_some, if◌then◌else◌}
use Rattle.std.specs.Map.{lookup, set_value, keys_of, values_of}
use Rattle.objective.specs.Bounds.{Bounds}
use Rattle.objective.specs.Costs.{Table}
use Rattle.objective.specs.declared.Answer.{Answer}
use Rattle.objective.specs.declared.Outcome.{Outcome}
use Rattle.run_cache.specs.declared.cell.Cell.{Cell}
use Rattle.run_cache.specs.declared.known.Known.{Known}
use Rattle.run_cache.specs.declared.known.Known.TheVariants.{Nothing}
use Rattle.run_cache.specs.declared.known.Learnt.{Learnt}
use Rattle.run_cache.specs.declared.known.Learnt.TheVariants.{Conflict}
use Rattle.run_cache.specs.declared.learning.Lesson.{Lesson}
use Rattle.run_cache.specs.Knowledge.{Agrees, IsInRange}
use Rattle.run_cache.specs.Learning.{lesson}

-- what is known of each configuration at each place
abbrev pub Knowledge : Type 0
Knowledge = List ℕ → ℕ → Known

-- what is known of configurations, each by place, from place 1 on
abbrev pub Rows : Type 0
Rows = List (List ℕ × List Known)

-- what a cache holds
pub record Cached : Type 0 where
  pub limits : Bounds
  pub conflicts : ℕ  -- the runs that contradicted what was known
  pub rows : Rows

-- the row of a configuration; an empty one where there is none
abbrev pub row_of : Rows → List ℕ → List Known
row_of rows config = unwrap_or (lookup (bytes_eq config) rows) []

-- what a row knows at a place, from 1
abbrev pub known_at : List Known → ℕ → Known
known_at row zero = Nothing
known_at row (suc before) = slice_index_or row before Nothing

-- what is known of a configuration at a place
abbrev pub known_in : Cached → Knowledge
known_in c config place = known_at (row_of c.rows config) place

-- a configuration's row has the place
abbrev pub has_place_in : Cached → List ℕ → ℕ → Bool
has_place_in c config place = nat_lt 0 place && nat_le place (length (row_of c.rows config))

-- what is known of a cell
abbrev pub known_of : Cached → Cell → Known
known_of c cell = known_in c cell.config cell.place

-- the cell has a place
abbrev pub has_place_for : Cached → Cell → Bool
has_place_for c cell = has_place_in c cell.config cell.place

-- what a run of a cell teaches
abbrev pub lesson_in : Cached → Cell → ℕ → Answer → Lesson
lesson_in c cell cutoff answer = lesson c.limits (known_of c cell) cutoff answer

-- the cell is the configuration at the place
abbrev pub is_at : Cell → List ℕ → ℕ → Bool
is_at cell config place = bytes_eq cell.config config && (cell.place == place)

-- this is known of one cell, and of each other one what was known before
abbrev pub known_after : Knowledge → Cell → Known → Knowledge
known_after before cell known config place = if is_at cell config place then known else before config place

-- a row that has the place, with the same known
abbrev pub grown : ℕ → List Known → List Known
grown place row = row ++ replicate (place - length row) Nothing

-- the rows, with this known of a cell that has a place
abbrev pub rows_with : Rows → Cell → Known → Rows
rows_with rows cell known = set_value (bytes_eq cell.config) rows (slice_set (row_of rows cell.config) (cell.place - 1) known)

-- the configurations that have a row, in the order in which they got it
abbrev pub configs_of : Cached → List (List ℕ)
configs_of c = keys_of c.rows

-- these with a further one at the end, unless it is among them
abbrev pub configs_with : Cached → List ℕ → List (List ℕ)
configs_with c config = if is_some (lookup (bytes_eq config) c.rows) then configs_of c else configs_of c ++ config ∷ []

-- the count of conflicts after a run, which stands still at the greatest number
abbrev pub conflicts_after : ℕ → Bool → ℕ
conflicts_after before true = min (suc before) (2 ^ 64 - 1)
conflicts_after before false = before

-- a cutoff that a run may have
pub record IsCutoff (limits : Bounds) (cutoff : ℕ) : Type 0 where
  pub positive : 1 ≤ cutoff
  pub at_most : cutoff ≤ limits.cutoff

-- all that a row knows lies in its range
abbrev pub IsRow : Bounds → List Known → Type 0
IsRow limits row = All (IsInRange limits) row

-- all that is known lies in its range
abbrev pub AreRows : Bounds → Rows → Type 0
AreRows limits rows = All (IsRow limits) (values_of rows)

-- what is known of each cell agrees with the table's outcome of it
pub record AgreesWith (T : Table) (c : Cached) : Type 0 where
  pub cells : (config : List ℕ) (place : ℕ) → Agrees c.limits (known_in c config place) (T config place)

-- learning goes with an outcome of the cell: what is known then agrees with it, and it is no conflict
pub record GoesWith (before after : Cached) (cell : Cell) (o : Outcome) (learnt : Learnt) : Type 0 where
  pub agrees : Agrees before.limits (known_of after cell) o
  pub no_conflict : learnt ≢ Conflict
  pub conflicts : after.conflicts ≡ before.conflicts
