-- Small searches and small knowledge for worked rows.
use Rattle.std.specs.Prelude.{ℕ, List, [], length, slice_index_or}
use Rattle.uncapped.specs.Procedure.{Settings}
use Rattle.uncapped.specs.Examples.Tables.{ten_seconds, seconds}
use Rattle.ils_face.specs.declared.asks.Ask.{Ask}
use Rattle.ils_face.specs.declared.asks.Ask.TheVariants.{Full, Versus, End}
use Rattle.ils_face.specs.declared.asks.Reply.{Reply}
use Rattle.ils_face.specs.declared.asks.Reply.TheVariants.{Exact}
use Rattle.ils_face.specs.Views.{View}
use Rattle.run_cache.specs.declared.known.Known.{Known}
use Rattle.run_cache.specs.declared.known.Known.TheVariants as known
use Rattle.run_cache.specs.Caches.{Knowledge, Rows, known_in}
use Rattle.predictor.specs.declared.wish.Wish.{Wish}
use Rattle.predictor.specs.Choices.{run_of}
use Rattle.predictor.specs.Wishes.{wishes_of}

-- a view of an ask alone
abbrev pub view_of : Ask → View
view_of ask = record { ask = ask; entries = []; last = record { compared = 0; runs = 0; sum = 0; config = [] }; left = 0 }

-- a search that makes these asks one after another, whatever the replies
abbrev pub asking : List Ask → List Reply → View
asking asks replies = view_of (slice_index_or asks (length replies) End)

-- the cost of the configuration at so many places is asked for
abbrev pub in_full : Settings → ℕ → Ask
in_full config places = Full config places

-- the same up to a bound of so many seconds
abbrev pub up_to : ℕ → Settings → ℕ → Ask
up_to bound config places = Versus config places (record { 0 = seconds bound })

-- a reply of so many seconds
abbrev pub sum_of : ℕ → Reply
sum_of n = Exact (record { 0 = seconds n })

-- a run was solved after so many seconds
abbrev pub solved : ℕ → Known
solved n = known.Exact (record { 0 = seconds n })

-- a run timed out under a cutoff of so many seconds
abbrev pub over : ℕ → Known
over n = known.Over (record { 0 = seconds n })

-- what these rows know, by configuration and place
abbrev pub knowledge_of : Rows → Knowledge
knowledge_of rows = known_in (record { limits = ten_seconds; conflicts = 0; rows = rows })

-- a wish under a cutoff of so many seconds
abbrev pub wish_for : Settings → ℕ → ℕ → Wish
wish_for config place cutoff = run_of config place (seconds cutoff)

-- the wishes of a search that makes these asks, after these replies, at most k
abbrev pub wishes_for : List Ask → Rows → List Reply → ℕ → List Wish
wishes_for asks rows replies k = wishes_of (asking asks) ten_seconds (knowledge_of rows) replies k
