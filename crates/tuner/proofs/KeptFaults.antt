-- The fault that is reported of those that seats keep which worked beside each other.
use Rattle.std.proofs.Common.{arith, ℕ, zero, suc, ◌≡◌, ◌<◌, List, [], ◌∷◌, length, get_or, take, Option, Some, None, refl, sym, ap, subst}
use Rattle.std.specs.Prelude.{IfSome, IsSomeAnd, slice_get}
use Rattle.std.proofs.lemmas.List.Elements.{All-head, All-tail}
use Rattle.objective.specs.declared.Outcome.{Outcome}
use Rattle.wrapper_lines.specs.declared.runs.Key.{Key}
use Rattle.board_steps.specs.Boards.{BoardState}
use Rattle.board_steps.specs.declared.tickets.Ticket.{Ticket}
use Rattle.board_steps.specs.Problem.{Problem}
use Rattle.pool_run.specs.Seats.{SeatState, IsFault, fault_of}
use Rattle.tune_front.specs.declared.task.Task.{Task}
use Rattle.tuner.specs.Calls.{Call}
use Rattle.tuner.specs.KeptFaults.{IsFirst, IsTakenIn, KeepsTaken}
use Rattle.tuner.specs.ReadyToDrive.{KeepsFault}
use Rattle.tuner.specs.SeatsTogether.{AreSeatsOf, HasWorkedOn, RunsWorked}
use Rattle.tuner.proofs.SeatsTogether.{beside, within}

-- ---- elements by their places

-- what holds of an element holds of the one at its place
pub some_at : {X : Type 0} (xs : List X) (k : ℕ) (x : X) (P : X → Type 0) → k < length xs → x ≡ get_or xs k x → P x → IsSomeAnd (slice_get xs k) P
some_at [] k x P h is holds = absurd (omega (arith, h))
some_at (z ∷ xs) zero x P h is holds = subst P is holds
some_at (z ∷ xs) (suc k) x P h is holds = some_at xs k x P (omega (arith, h)) is holds

-- the element at a place that there is
get_at : {X : Type 0} (xs : List X) (k : ℕ) (x : X) (P : X → Type 0) → IsSomeAnd (slice_get xs k) P → x ≡ get_or xs k x → slice_get xs k ≡ Some x
get_at [] k x P there is = absurd there
get_at (z ∷ xs) zero x P there is = ap Some (sym is)
get_at (z ∷ xs) (suc k) x P there is = get_at xs k x P there is

-- ---- the seats of a call

-- a seat of a call keeps a ticket whose run failed
keeps : (call : Call) (task : Task) (truth : Option (Key → Outcome)) (seats after : List SeatState) (k : ℕ) (s : SeatState) (t : Ticket)
    → RunsWorked call task truth seats after → AreSeatsOf task seats → slice_get seats k ≡ Some s → slice_get after k ≡ Some s → fault_of s ≡ Some t
    → KeepsFault call task k t
keeps call task truth seats after k s t h sized is stays kept =
    let b = beside HasWorkedOn h.before seats h.worked k s is in
    let F : Option Ticket → Type 0 = λ o. IfSome o (IsFault b.one.told s.told) in
    let all = sized.all in
    record {
      one = omega (arith, within seats k s is, all);
      before = b.one;
      after = s;
      seat = record { was = h.on.has.was k b.one b.was; is = h.on.has.is k s stays };
      kept = kept;
      fault = subst F kept b.holds.fault;
    }

-- the seat at a place keeps one
pub keeps_at : (call : Call) (task : Task) (truth : Option (Key → Outcome)) (seats : List SeatState) (k : ℕ) (s : SeatState) (t : Ticket)
    (P : SeatState → Type 0) → RunsWorked call task truth seats seats → AreSeatsOf task seats → IsSomeAnd (slice_get seats k) P
    → s ≡ get_or seats k s → fault_of s ≡ Some t → KeepsFault call task k t
keeps_at call task truth seats k s t P h sized there is kept =
    let stands = get_at seats k s P there is in
    keeps call task truth seats seats k s t h sized stands stands kept

-- the board gave the ticket that the seat at a place keeps
pub taken_at : (b : BoardState) (problem : Problem) (seats : List SeatState) (k : ℕ) (s : SeatState) (t : Ticket) → b.problem ≡ problem
    → IsSomeAnd (slice_get seats k) (KeepsTaken b) → s ≡ get_or seats k s → fault_of s ≡ Some t → IsTakenIn problem b.journal t
taken_at b problem seats k s t same there is kept =
    let F : Option SeatState → Type 0 = λ o. IsSomeAnd o (KeepsTaken b) in
    let G : Option Ticket → Type 0 = λ o. IsSomeAnd o (IsTakenIn b.problem b.journal) in
    let here : KeepsTaken b s = subst F (get_at seats k s (KeepsTaken b) there is) there in
    let taken : IsTakenIn b.problem b.journal t = subst G kept here in
    subst (λ (p : Problem). IsTakenIn p b.journal t) same taken

-- ---- the first of a list

-- there is one first at most
pub first_once : {X : Type 0} (P : X → Type 0) (xs : List X) (j k : ℕ) → IsFirst P xs (Some j) → IsFirst P xs (Some k) → j ≡ k
first_once P [] j k one other = absurd one.0
first_once P (x ∷ xs) zero zero one other = refl
first_once P (x ∷ xs) zero (suc k) one other = absurd (All-head (λ y. ¬ P y) x (take k xs) other.1 one.0)
first_once P (x ∷ xs) (suc j) zero one other = absurd (All-head (λ y. ¬ P y) x (take j xs) one.1 other.0)
first_once P (x ∷ xs) (suc j) (suc k) one other =
    ap suc (first_once P xs j k (one.0, All-tail (λ y. ¬ P y) x (take j xs) one.1) (other.0, All-tail (λ y. ¬ P y) x (take k xs) other.1))

-- where there is none, none is the first
pub first_none : {X : Type 0} (P : X → Type 0) (xs : List X) (k : ℕ) → IsFirst P xs None → IsFirst P xs (Some k) → ⊥
first_none P [] k none one = one.0
first_none P (x ∷ xs) zero none one = All-head (λ y. ¬ P y) x xs none one.0
first_none P (x ∷ xs) (suc k) none one =
    first_none P xs k (All-tail (λ y. ¬ P y) x xs none) (one.0, All-tail (λ y. ¬ P y) x (take k xs) one.1)
