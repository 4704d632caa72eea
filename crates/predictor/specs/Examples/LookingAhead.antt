-- The wishes of small searches.
use Rattle.std.specs.Prelude.{◌≡◌, ℕ, List, [], ◌∷◌, ◌++◌, length, ◌==◌, if◌then◌else◌, refl}
use Rattle.uncapped.specs.Procedure.{Settings}
use Rattle.uncapped.specs.Examples.Tables.{ten_seconds, a, b}
use Rattle.ils_face.specs.declared.asks.Ask.{Ask}
use Rattle.ils_face.specs.declared.asks.Ask.TheVariants.{End}
use Rattle.ils_face.specs.declared.asks.Reply.{Reply}
use Rattle.ils_face.specs.declared.asks.Reply.TheVariants.{Exact, Exceeds}
use Rattle.ils_face.specs.Views.{View}
use Rattle.run_cache.specs.declared.known.Known.TheVariants as known
use Rattle.run_cache.specs.Caches.{Rows}
use Rattle.predictor.specs.Wishes.{wishes_of, wishes_at, runs_ahead}
use Rattle.predictor.specs.Examples.Searches.{view_of, in_full, up_to, sum_of, solved, over, knowledge_of, wish_for, wishes_for}

-- a third configuration
abbrev pub c : Settings
c = 2 ∷ []

-- a took 3 and 4 seconds
abbrev pub a_known : Rows
a_known = (a, solved 3 ∷ solved 4 ∷ []) ∷ []

-- a was measured, then a again to be compared, and now b has to beat its 7 seconds
abbrev pub b_against_a : List Ask
b_against_a = in_full a 2 ∷ in_full a 2 ∷ up_to 7 b 2 ∷ []

abbrev pub a_replies : List Reply
a_replies = sum_of 7 ∷ sum_of 7 ∷ []

-- ---- an ask in full

-- its later places are wished for
pub later_places : wishes_for (in_full a 3 ∷ []) [] [] 5 ≡ wish_for a 2 10 ∷ wish_for a 3 10 ∷ []
unfolding wishes_at
later_places = refl

-- no more than k of them
pub no_more_than_k : wishes_for (in_full a 3 ∷ []) [] [] 1 ≡ wish_for a 2 10 ∷ []
unfolding wishes_at
no_more_than_k = refl

-- what is known already isn't, but a run that timed out may have more time
pub unsettled_places : wishes_for (in_full a 5 ∷ []) ((a, known.Nothing ∷ solved 4 ∷ over 5 ∷ known.Abort ∷ []) ∷ []) [] 5
    ≡ wish_for a 3 10 ∷ wish_for a 5 10 ∷ []
unfolding wishes_at
unsettled_places = refl

-- ---- no run is needed now

pub replied_already : wishes_for (in_full a 2 ∷ in_full b 2 ∷ []) a_known [] 5 ≡ []
unfolding wishes_at
replied_already = refl

pub aborted_already : wishes_for (in_full a 2 ∷ []) ((a, known.Abort ∷ []) ∷ []) [] 5 ≡ []
unfolding wishes_at
aborted_already = refl

pub nothing_asked : wishes_for [] [] [] 5 ≡ []
unfolding wishes_at
nothing_asked = refl

pub none_wanted : wishes_for b_against_a a_known a_replies 0 ≡ []
unfolding wishes_at runs_ahead
none_wanted = refl

-- ---- an ask with a bound

-- should b lose, the search ends; so b's second place is run ahead, under the cutoff that is needed now
pub loss_ends_search : wishes_for b_against_a a_known a_replies 1 ≡ wish_for b 2 7 ∷ []
unfolding wishes_at runs_ahead
loss_ends_search = refl

-- should b lose, a random step leads to it and it is measured in full; so its second place has the full cutoff
pub loss_leads_back : wishes_for (b_against_a ++ in_full b 2 ∷ []) a_known a_replies 1 ≡ wish_for b 2 10 ∷ []
unfolding wishes_at runs_ahead
loss_leads_back = refl

-- the next configuration would be compared at the same bound, and comes before b's later places
pub next_configuration : wishes_for (b_against_a ++ in_full a 2 ∷ up_to 7 c 2 ∷ []) a_known a_replies 5
    ≡ wish_for c 1 7 ∷ wish_for b 2 7 ∷ []
unfolding wishes_at runs_ahead
next_configuration = refl

-- a cell is wished for once, under its first cutoff
pub one_wish_a_cell : wishes_for (b_against_a ++ up_to 6 c 2 ∷ up_to 5 c 2 ∷ up_to 4 b 2 ∷ []) a_known a_replies 5
    ≡ wish_for c 1 6 ∷ wish_for b 2 7 ∷ []
unfolding wishes_at runs_ahead
one_wish_a_cell = refl

-- a run that asked for the end of the tuning ends the look ahead
pub abort_ahead : wishes_for (b_against_a ++ in_full c 2 ∷ in_full a 3 ∷ []) ((c, known.Abort ∷ []) ∷ a_known) a_replies 5
    ≡ wish_for b 2 7 ∷ []
unfolding wishes_at runs_ahead
abort_ahead = refl

-- what a is asked for after b loses; c then has to beat 5 seconds where a keeps to its bound, else 6
abbrev pub a_decides : Ask → List Reply → View
a_decides ask [] = view_of (up_to 7 b 1)
a_decides ask (r ∷ []) = view_of ask
a_decides ask (r ∷ Exact sum ∷ replies) = view_of (if length replies == 0 then up_to 5 c 1 else End)
a_decides ask (r ∷ Exceeds ∷ replies) = view_of (if length replies == 0 then up_to 6 c 1 else End)

-- where the reply is known already, the search is followed by it
pub known_sum : wishes_of (a_decides (up_to 7 a 2)) ten_seconds (knowledge_of a_known) [] 5 ≡ wish_for c 1 5 ∷ []
unfolding wishes_at runs_ahead
known_sum = refl

pub known_excess : wishes_of (a_decides (up_to 6 a 2)) ten_seconds (knowledge_of a_known) [] 5 ≡ wish_for c 1 6 ∷ []
unfolding wishes_at runs_ahead
known_excess = refl

-- no more than k wishes ahead
pub room_for_one : wishes_for (b_against_a ++ up_to 6 c 2 ∷ up_to 5 a 3 ∷ []) a_known a_replies 1 ≡ wish_for c 1 6 ∷ []
unfolding wishes_at runs_ahead
room_for_one = refl

-- ---- how far ahead

-- what comes after so many replies by itself is known, and then c is asked for
abbrev pub long_known : ℕ → List Reply → View
long_known turns [] = view_of (up_to 7 b 1)
long_known turns (r ∷ replies) = view_of (if length replies == turns then up_to 7 c 1 else up_to 7 a 2)

-- the last turn is the 256th
pub last_turn : wishes_of (long_known 255) ten_seconds (knowledge_of a_known) [] 5 ≡ wish_for c 1 7 ∷ []
unfolding wishes_at runs_ahead
last_turn = refl

pub beyond_last_turn : wishes_of (long_known 256) ten_seconds (knowledge_of a_known) [] 5 ≡ []
unfolding wishes_at runs_ahead
beyond_last_turn = refl
