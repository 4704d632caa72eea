-- Asks and replies: which replies fit, and what a table's total costs reply.
use Rattle.std.specs.Prelude.{ℕ, ◌-◌, ◌≤◌, List, Option, Some, None, nat_le, if◌then◌else◌, slice_get, take, filter, map}
use Rattle.uncapped.specs.Procedure.{Settings, Sums, Question, Incumbent, End, Finished, Aborted}
use Rattle.uncapped.specs.Uncapped.{Run, or_nothing}
use Rattle.ils_face.specs.declared.asks.Ask.{Ask}
use Rattle.ils_face.specs.declared.asks.Ask.TheVariants.{Full, Versus, End as Over}
use Rattle.ils_face.specs.declared.asks.Reply.{Reply}
use Rattle.ils_face.specs.declared.asks.Reply.TheVariants.{Exact, Exceeds}

-- the reply fits the ask
abbrev pub Fits : Ask → Reply → Type 0
Fits (Full θ n) (Exact x) = Unit {0}
Fits (Full θ n) Exceeds = ⊥
Fits (Versus θ n bound) (Exact x) = x.0 ≤ bound.0
Fits (Versus θ n bound) Exceeds = Unit {0}
Fits Over r = ⊥

-- a question in full or up to a bound, as it is shown
abbrev pub ask_of : Settings → ℕ → Option ℕ → Ask
ask_of config places None = Full config places
ask_of config places (Some bound) = Versus config places (record { 0 = bound })

-- a question, or the end where there is none, as it is shown
abbrev pub ask_for : Option Question → Ask
ask_for None = Over
ask_for (Some q) = ask_of q.config q.places q.bound

-- this total cost, where it is at most the bound
abbrev pub reply_up_to : ℕ → Option ℕ → Reply
reply_up_to x None = Exact (record { 0 = x })
reply_up_to x (Some bound) = if nat_le x bound then Exact (record { 0 = x }) else Exceeds

-- the total cost that a question asks for
abbrev pub cost_asked : Sums → Question → Option ℕ
cost_asked sums q = sums q.config q.places

-- what these total costs reply to a question
abbrev pub reply_to : Sums → Question → Reply
reply_to sums q = reply_up_to (or_nothing (cost_asked sums q)) q.bound

-- the replies to the first k asks of a run
abbrev pub replies_to : Sums → Run → ℕ → List Reply
replies_to sums run k = map (reply_to sums) (take k run.asks)

-- the ask after k replies, or the end
abbrev pub ask_at : Run → ℕ → Ask
ask_at run k = ask_for (slice_get run.asks k)

-- the entries that were added before ask k was made
abbrev pub entries_before : Run → ℕ → List Incumbent
entries_before run k = map (λ a. a.entry) (filter (λ a. nat_le a.asks_before k) run.entries)

-- the number of asks with a reply: an abort leaves the last one without
abbrev pub reply_count : End → ℕ → ℕ
reply_count Finished asks = asks
reply_count Aborted asks = asks - 1
