-- What a seat started, run by run; the last of its tickets, and the fault that it keeps.
use Rattle.std.proofs.Common.{arith, ℕ, ◌≡◌, ◌≤◌, ◌-◌, ◌++◌, Bool, true, false, List, [], ◌∷◌, Option, Some, None, IfSome, IsSome, IsSomeAnd, length, map, slice_get, refl, sym, ap, subst, ◌∙◌, if◌then◌else◌}
use Rattle.std.proofs.lemmas.List.{append-nil, append_assoc, map-append, length-append}
use Rattle.wrapper_lines.specs.Runs.{words_of}
use Rattle.wrapper_lines.specs.declared.runs.Program.{Program}
use Rattle.wrapper_lines.specs.declared.runs.Run.{Run}
use Rattle.outside.specs.ToldStates.{SpawnerTold}
use Rattle.board_steps.specs.declared.tickets.Ticket.{Ticket}
use Rattle.pool_run.specs.Seats.{SeatState, IsFault, fault_of, last_of}
use Rattle.pool_run.specs.Starts.{told_more, HasStarted}
use Rattle.pool_run.specs.Turns.{TookOne}

-- nothing more
more-none : {X : Type 0} (o : Option (List X)) → o ≡ told_more o []
more-none None = refl
more-none (Some xs) = ap Some (sym (append-nil xs))

-- more, and then more
more-then : {X : Type 0} (o : Option (List X)) (xs ys : List X) → told_more (told_more o xs) ys ≡ told_more o (xs ++ ys)
more-then None xs ys = refl
more-then (Some zs) xs ys = ap Some (append_assoc zs xs ys)

-- nothing was started
pub started-none : (program : Program) (told : SpawnerTold) → HasStarted program told told []
started-none program told = record { words = more-none told.started; folders = more-none told.folders }

-- runs were started, and then more
pub started-then : (program : Program) (a b c : SpawnerTold) (runs more : List Run) → HasStarted program a b runs → HasStarted program b c more
    → HasStarted program a c (runs ++ more)
started-then program a b c runs more one other = record {
  words = other.words ∙ ap (λ o. told_more o (map (words_of program) more)) one.words
      ∙ more-then a.started (map (words_of program) runs) (map (words_of program) more)
      ∙ ap (told_more a.started) (sym (map-append (words_of program) runs more));
  folders = other.folders ∙ ap (λ o. told_more o (map (λ run. program.dir) more)) one.folders
      ∙ more-then a.folders (map (λ run. program.dir) runs) (map (λ run. program.dir) more)
      ∙ ap (told_more a.folders) (sym (map-append (λ run. program.dir) runs more));
}

-- the last of a list with one more
pub last-more : (tickets : List Ticket) (t : Ticket) → last_of (tickets ++ t ∷ []) ≡ Some t
last-more tickets t = ap (λ n. slice_get (tickets ++ t ∷ []) n) place ∙ here tickets
  where
    place : ◌≡◌ {A = ℕ} (length (tickets ++ t ∷ []) - 1) (length tickets)
    place = omega (arith, length-append tickets (t ∷ []))

    here : (ts : List Ticket) → slice_get (ts ++ t ∷ []) (length ts) ≡ Some t
    here [] = refl
    here (u ∷ ts) = here ts

-- a ticket that a seat took is its last one
pub took-last : (seat seat' : SeatState) (one : TookOne seat seat') → last_of seat'.tickets ≡ Some one.ticket
took-last seat seat' one = ap (λ (x : SeatState). last_of x.tickets) one.list ∙ last-more seat.tickets one.ticket

-- so there is a last one
pub took-some : (seat seat' : SeatState) → TookOne seat seat' → IsSome (last_of seat'.tickets)
took-some seat seat' one = let P : Option Ticket → Type 0 = λ o. IsSome o in subst P (sym (took-last seat seat' one)) refl

-- what holds of the one there is
pub some-then : {X : Type 0} (o : Option X) (P : X → Type 0) (x : X) → o ≡ Some x → IsSomeAnd o P → P x
some-then o P x is holds = let Q : Option _ → Type 0 = λ y. IsSomeAnd y P in subst Q is holds

-- ---- the fault that a seat keeps

-- it is of the last ticket
pub kept-by : (seat : SeatState) (t : Ticket) (P : Ticket → Type 0) → last_of seat.tickets ≡ Some t → (seat.failed ≡ true → P t) → IfSome (fault_of seat) P
kept-by seat t P last holds = by seat.failed holds
  where
    by : (failed : Bool) → (failed ≡ true → P t) → IfSome (if failed then last_of seat.tickets else None) P
    by true holds = let Q : Option Ticket → Type 0 = λ o. IfSome o P in subst Q (sym last) (holds refl)
    by false holds = tt

-- it is a fault since earlier
pub since : (first before after : SpawnerTold) (t : Ticket) → first.faults ≤ before.faults → IsFault before after t → IsFault first after t
since first before after t counts fault = record { asked = fault.asked; failed = fault.failed; rose = omega (arith, fault.rose, counts) }
