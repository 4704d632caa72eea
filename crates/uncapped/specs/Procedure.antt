-- What the uncapped procedure has done so far, and how a step goes on or ends.
use Rattle.std.specs.Prelude.{ℕ, ◌+◌, Bool, true, false, List, Option, Some, None}

-- a configuration is the list of its value numbers
abbrev pub Settings : Type 0
Settings = List ℕ

-- the total cost of a configuration over its first places, or none where one of them aborts
abbrev pub Sums : Type 0
Sums = Settings → ℕ → Option ℕ

-- a configuration's total cost over its first places is asked for, in full or up to a bound
pub record Question : Type 0 where
  pub config : Settings
  pub places : ℕ
  pub bound : Option ℕ

-- an incumbent, from its comparison on, with its total cost over so many runs
pub record Incumbent : Type 0 where
  pub compared : ℕ
  pub runs : ℕ
  pub sum : ℕ
  pub config : Settings

-- an incumbent with the number of asks that were made before it was added
pub record Addition : Type 0 where
  pub asks_before : ℕ
  pub entry : Incumbent

-- what the procedure has done so far
pub record PlainState : Type 0 where
  pub counts : Settings → ℕ  -- the places of each configuration that count as run
  pub incumbent : Settings
  pub bonus : ℕ  -- further runs that a win in FocusedILS is worth
  pub compared : ℕ  -- the comparisons begun
  pub event : ℕ  -- the number of the next draw
  pub asks : List Question  -- the asks made, oldest first
  pub entries : List Addition  -- oldest first

-- how the procedure ends: its budget is used up, or a run aborts
pub data End : Type 0 where
  Finished : End
  Aborted : End

-- a step goes on with a value, or ends the procedure
pub data Step (A : Type 0) : Type 0 where
  Goes : PlainState → A → Step A
  Ends : PlainState → End → Step A

-- a procedure takes the state that it finds
abbrev pub Procedure : Type 0 → Type 0
Procedure A = PlainState → Step A

-- a step goes on by a procedure that takes its value, unless it has ended
abbrev pub goes_on : {A B : Type 0} → Step A → (A → Procedure B) → Step B
goes_on (Goes s a) f = f a s
goes_on (Ends s e) f = Ends s e

infixl 10 ◌>>=◌
-- one procedure after another, which takes its value
abbrev pub ◌>>=◌ : {A B : Type 0} → Procedure A → (A → Procedure B) → Procedure B
p >>= f = λ s. goes_on (p s) f

infixl 10 ◌>>◌
-- one procedure after another
abbrev pub ◌>>◌ : {A B : Type 0} → Procedure A → Procedure B → Procedure B
p >> q = λ s. goes_on (p s) (λ _. q)

-- a value, with nothing done
abbrev pub give : {A : Type 0} → A → Procedure A
give a = λ s. Goes s a

-- the state as it is
abbrev pub state : Procedure PlainState
state = λ s. Goes s s

-- the state is changed
abbrev pub becomes : (PlainState → PlainState) → Procedure (Unit {0})
becomes f = λ s. Goes (f s) tt

-- the end
abbrev pub stop : {A : Type 0} → End → Procedure A
stop e = λ s. Ends s e

-- the procedure, where the test is met
abbrev pub when : Bool → Procedure (Unit {0}) → Procedure (Unit {0})
when true p = p
when false p = give tt

-- the number, or the end by an abort
abbrev pub cost_or_abort : Option ℕ → Procedure ℕ
cost_or_abort (Some x) = give x
cost_or_abort None = stop Aborted

-- a draw by the number of its event
abbrev pub draw : {A : Type 0} → (ℕ → A) → Procedure A
draw f = λ s. Goes (record s { event = s.event + 1 }) (f s.event)
