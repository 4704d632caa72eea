-- Wishes in the making: which run one is added for, and which not.
use Rattle.std.specs.Prelude.{ℕ, Bool, not, ◌&&◌, List, [], ◌∷◌, ◌++◌, length, nat_lt, if◌then◌else◌}
use Rattle.std.specs.List.{fold, list_any}
use Rattle.uncapped.specs.Procedure.{Settings}
use Rattle.run_cache.specs.declared.cell.Cell.{Cell}
use Rattle.run_cache.specs.declared.known.Known.{Known}
use Rattle.run_cache.specs.Knowledge.{is_settled}
use Rattle.run_cache.specs.Caches.{Knowledge, is_at}
use Rattle.predictor.specs.declared.wish.Wish.{Wish}

-- a run of a configuration at a place, under a cutoff
abbrev pub run_of : Settings → ℕ → ℕ → Wish
run_of config place cutoff = record { cell = record { config = config; place = place }; cutoff = record { 0 = cutoff } }

-- the wishes so far, at most so many, beside a cell that is needed
pub record Choice : Type 0 where
  pub needed : Cell
  pub most : ℕ
  pub wishes : List Wish

-- no wishes yet, beside the configuration at the place
abbrev pub none_yet : ℕ → Settings → ℕ → Choice
none_yet most config place = record { needed = record { config = config; place = place }; most = most; wishes = [] }

-- there are fewer wishes than the most
abbrev pub has_room : Choice → Bool
has_room choice = nat_lt (length choice.wishes) choice.most

-- a wish is for the configuration at the place
abbrev pub has_wish : List Wish → Settings → ℕ → Bool
has_wish wishes config place = list_any (λ w. is_at w.cell config place) wishes

-- the configuration at the place is neither the needed cell nor that of a wish
abbrev pub is_new : Choice → Settings → ℕ → Bool
is_new choice config place = not (is_at choice.needed config place) && not (has_wish choice.wishes config place)

-- with a wish for the run, where there is room and its cell is new
abbrev pub with_wish : Choice → Wish → Choice
with_wish choice run =
    if has_room choice && is_new choice run.cell.config run.cell.place
    then record choice { wishes = choice.wishes ++ run ∷ [] }
    else choice

-- with a wish for the run, unless it would tell nothing more than this, which is known of its cell
abbrev pub with_unsettled : Known → Choice → Wish → Choice
with_unsettled known choice run = if is_settled known run.cutoff.0 then choice else with_wish choice run

-- the same by what is known of each cell
abbrev pub with_run : Knowledge → Choice → Wish → Choice
with_run known choice run = with_unsettled (known run.cell.config run.cell.place) choice run

-- with wishes for these runs, in their order, as far as there is room
abbrev pub with_runs : Knowledge → Choice → List Wish → Choice
with_runs known choice runs = fold (with_run known) choice runs
