-- What seats that worked beside each other come to, seat by seat.
use Rattle.std.proofs.Common.{arith, ℕ, zero, suc, ◌≡◌, ◌<◌, ◌≤◌, ◌++◌, ◌||◌, Bool, true, false, List, [], ◌∷◌, length, get_or, set, nat_lt, Option, Some, None, refl, sym, ap, subst, ◌∙◌, if◌then◌else◌}
use Rattle.std.specs.Prelude.{slice_get}
use Rattle.std.specs.List.{AllZip}
use Rattle.std.proofs.lemmas.Bool.{ltb-false}
use Rattle.objective.specs.declared.Outcome.{Outcome}
use Rattle.wrapper_lines.specs.declared.runs.Key.{Key}
use Rattle.outside.specs.ToldStates.{SpawnerTold}
use Rattle.board_steps.specs.Boards.{BoardState, PlainBoard, plain_board}
use Rattle.board_steps.specs.declared.tickets.LiveTicket.{LiveTicket}
use Rattle.board_steps.specs.Steps.{after_resume, resumed_board}
use Rattle.pool_run.specs.Seats.{SeatState}
use Rattle.tuner.specs.Calls.{Call}
use Rattle.tuner.specs.CallStarts.{StartsOf}
use Rattle.tuner.specs.Conducted.{IsAbout, Runs}
use Rattle.tuner.specs.ReadyToDrive.{DrivesOn, HasSeat, IsFree}
use Rattle.tuner.specs.SeatsTogether.{AreSeatsOf, HasSeats, HasWorkedOn, RunsOn, RunsWorked}
use Rattle.tune_front.specs.declared.status.Status.TheVariants as status
use Rattle.tune_front.specs.declared.task.Task.{Task}

-- ---- two lists, place by place

-- what holds at each place
pub zip_each : {X : Type 0} (R : X → X → Type 0) (xs ys : List X) → length ys ≡ length xs
    → ((i : ℕ) (d : X) → i < length xs → R (get_or xs i d) (get_or ys i d)) → AllZip R xs ys
zip_each R [] [] same each = tt
zip_each R [] (y ∷ ys) same each = absurd (omega (arith, same))
zip_each R (x ∷ xs) [] same each = absurd (omega (arith, same))
zip_each R (x ∷ xs) (y ∷ ys) same each =
    (each 0 x (omega arith), zip_each R xs ys (omega (arith, same)) (λ i d h. each (suc i) d (omega (arith, h))))

-- the one there is, else this
one_or : {X : Type 0} → X → Option X → X
one_or x None = x
one_or x (Some y) = y

-- an element of the first list that stands where this one does in the second
pub record Beside {X : Type 0} (R : X → X → Type 0) (xs : List X) (k : ℕ) (y : X) : Type 0 where
  pub one : X
  pub was : slice_get xs k ≡ Some one
  pub holds : R one y

pub beside : {X : Type 0} (R : X → X → Type 0) (xs ys : List X) → AllZip R xs ys → (k : ℕ) (y : X) → slice_get ys k ≡ Some y → Beside R xs k y
unfolding one_or
beside R [] [] all k y is = absurd (cc)
beside R [] (z ∷ ys) all k y is = absurd all
beside R (x ∷ xs) [] all k y is = absurd all
beside R (x ∷ xs) (z ∷ ys) all zero y is = record { one = x; was = refl; holds = subst (R x) (ap (one_or z) is) all.0 }
beside R (x ∷ xs) (z ∷ ys) all (suc k) y is = let b = beside R xs ys all.1 k y is in record { one = b.one; was = b.was; holds = b.holds }

-- an element stands within its list
pub within : {X : Type 0} (xs : List X) (k : ℕ) (x : X) → slice_get xs k ≡ Some x → k < length xs
within [] k x is = absurd (cc)
within (y ∷ xs) zero x is = omega arith
within (y ∷ xs) (suc k) x is = omega (arith, within xs k x is)

-- ---- the seats of a call

-- of the starts of several seats nothing is promised
pub starts_together : (call : Call) (task : Task) (truth : Option (Key → Outcome)) (seats : List SeatState)
    → RunsWorked call task truth seats seats → AreSeatsOf task seats → StartsOf call status.Ok
starts_together call task truth seats h sized = by h.before seats h.worked sized.all h.on.has.was h.on.has.is
  where
    by : (before after : List SeatState) → AllZip HasWorkedOn before after → length after ≡ task.problem.rules.workers
        → ((k : ℕ) (s : SeatState) → slice_get before k ≡ Some s → slice_get call.seats k ≡ Some s)
        → ((k : ℕ) (s : SeatState) → slice_get after k ≡ Some s → slice_get call.seats' k ≡ Some s) → StartsOf call status.Ok
    by [] [] all same was is = absurd (let several = sized.several in omega (arith, same, several))
    by [] (a ∷ later) all same was is = absurd all
    by (b ∷ rest) [] all same was is = absurd all
    by (b ∷ rest) (a ∷ later) all same was is = record {
      task = task;
      stated = h.on.runs.run.stated;
      before = b;
      after = a;
      was = was 0 b refl;
      is = is 0 a refl;
      ran = λ one. absurd (let several = sized.several in omega (arith, one, several));
    }

-- the first of several seats drives a board on
pub first_drives : (call : Call) (task : Task) (truth : Option (Key → Outcome)) (seats : List SeatState) (d after : SeatState)
    → RunsWorked call task truth seats (set seats 0 after) → AreSeatsOf task seats → DrivesOn call task truth (get_or seats 0 d) after
first_drives call task truth seats d after h sized = by h.before seats h.worked sized.all h.on.has.was h.on.has.is
  where
    by : (before seats : List SeatState) → AllZip HasWorkedOn before seats → length seats ≡ task.problem.rules.workers
        → ((k : ℕ) (s : SeatState) → slice_get before k ≡ Some s → slice_get call.seats k ≡ Some s)
        → ((k : ℕ) (s : SeatState) → slice_get (set seats 0 after) k ≡ Some s → slice_get call.seats' k ≡ Some s)
        → DrivesOn call task truth (get_or seats 0 d) after
    by [] [] all same was is = absurd (let several = sized.several in omega (arith, same, several))
    by [] (s ∷ later) all same was is = absurd all
    by (b ∷ rest) [] all same was is = absurd all
    by (b ∷ rest) (s ∷ later) all same was is = record {
      runs = h.on.runs;
      before = b;
      ready = record { counts = all.0.counts; same = λ one. absurd (let several = sized.several in omega (arith, one, several)) };
      first = record { was = was 0 b refl; is = is 0 after refl };
    }

first_of : (seats : List SeatState) (d : SeatState) → 0 < length seats → slice_get seats 0 ≡ Some (get_or seats 0 d)
first_of [] d some = absurd (omega arith)
first_of (s ∷ later) d some = refl

new_first : (seats : List SeatState) (after : SeatState) → 0 < length seats → slice_get (set seats 0 after) 0 ≡ Some after
new_first [] after some = absurd (omega arith)
new_first (s ∷ later) after some = refl

-- the first of some seats, before and after
has_first : (call : Call) (seats : List SeatState) (d after : SeatState) → HasSeats call seats (set seats 0 after) → 0 < length seats
    → HasSeat call 0 (get_or seats 0 d) after
has_first call seats d after h some =
    record { was = h.was 0 (get_or seats 0 d) (first_of seats d some); is = h.is 0 after (new_first seats after some) }

-- the first of the seats that a task asks for drives alone
pub only_drives : (call : Call) (task : Task) (truth : Option (Key → Outcome)) (seats : List SeatState) (d after : SeatState)
    → RunsOn call task truth seats (set seats 0 after) → 0 < length seats → DrivesOn call task truth (get_or seats 0 d) after
only_drives call task truth seats d after h some = record {
  runs = h.runs;
  before = get_or seats 0 d;
  ready = record { counts = omega arith; same = λ one. refl };
  first = has_first call seats d after h.has some;
}

-- a seat that was cleared drives as it would before
pub cleared_drives : (call : Call) (task : Task) (truth : Option (Key → Outcome)) (seat cleared after : SeatState)
    → cleared ≡ record { told = seat.told; tickets = []; failed = false; short = false } → DrivesOn call task truth seat after
    → DrivesOn call task truth cleared after
cleared_drives call task truth seat cleared after clear h =
    let told : cleared.told ≡ seat.told = ap (λ (s : SeatState). s.told) clear in
    let F : SpawnerTold → Type 0 = λ now. h.before.told.faults ≤ now.faults in
    record {
      runs = h.runs;
      before = h.before;
      ready = record { counts = subst F (sym told) h.ready.counts; same = λ one. told ∙ h.ready.same one };
      first = h.first;
    }

-- an element of a first part is one of the whole
front_get : {X : Type 0} (xs ys : List X) (k : ℕ) (x : X) → slice_get xs k ≡ Some x → slice_get (xs ++ ys) k ≡ Some x
front_get [] ys k x is = absurd (cc)
front_get (z ∷ xs) ys zero x is = is
front_get (z ∷ xs) ys (suc k) x is = front_get xs ys k x is

-- the seats that a call's task asks for are its first ones
pub runs_on : (call : Call) (task : Task) (truth : Option (Key → Outcome)) (seats seats' front back after : List SeatState)
    → IsAbout call task truth seats seats' → Runs call task truth → seats ≡ front ++ back → seats' ≡ after ++ back
    → RunsOn call task truth front after
runs_on call task truth seats seats' front back after h runs old new = record {
  runs = runs;
  has = record {
    was = λ k s is. ap (λ ss. slice_get ss k) (h.was ∙ old) ∙ front_get front back k s is;
    is = λ k s is. ap (λ ss. slice_get ss k) (h.is ∙ new) ∙ front_get after back k s is;
  };
}

-- the seats have no child
pub all_idle : (before after : List SeatState) → AllZip HasWorkedOn before after → (k : ℕ) (d : SeatState) → k < length after → (get_or after k d).told.idle ≡ true
all_idle [] [] all k d h = absurd (omega (arith, h))
all_idle [] (a ∷ later) all k d h = absurd all
all_idle (b ∷ rest) [] all k d h = absurd all
all_idle (b ∷ rest) (a ∷ later) all zero d h = all.0.idle
all_idle (b ∷ rest) (a ∷ later) all (suc k) d h = all_idle rest later all.1 k d (omega (arith, h))

-- ---- a board that goes on

-- a board without live tickets that isn't stopped
pub record IsResumed (b b' : PlainBoard) : Type 0 where
  pub problem : b'.problem ≡ b.problem
  pub free : b'.live ≡ []
  pub going : b'.stopped ≡ false

none-live : (live : List LiveTicket) → nat_lt 0 (length live) ≡ false → live ≡ []
none-live [] none = refl
none-live (l ∷ live) none = absurd (omega (arith, ltb-false 0 (length (l ∷ live)) none))

resumes : (b : PlainBoard) → IsResumed b (after_resume b)
unfolding after_resume
resumes b = by b.stopped (nat_lt 0 (length b.live)) refl refl
  where
    by : (stopped halted : Bool) → b.stopped ≡ stopped → nat_lt 0 (length b.live) ≡ halted
        → IsResumed b (if stopped || halted then resumed_board b else b)
    by true halted stands lives = record { problem = refl; free = refl; going = refl }
    by false true stands lives = record { problem = refl; free = refl; going = refl }
    by false false stands lives = record { problem = refl; free = none-live b.live lives; going = stands }

-- a board that goes on, as its steps tell
pub resumed : (b b' : BoardState) → plain_board b' ≡ after_resume (plain_board b) → IsResumed (plain_board b) (plain_board b')
resumed b b' e = let P : PlainBoard → Type 0 = λ c. IsResumed (plain_board b) c in subst P (sym e) (resumes (plain_board b))

-- what it is then
pub goes_on : (b b' : BoardState) → IsResumed (plain_board b) (plain_board b') → (b'.problem ≡ b.problem) × IsFree b'
unfolding plain_board
goes_on b b' is = (is.problem, record { free = is.free; going = is.going })
