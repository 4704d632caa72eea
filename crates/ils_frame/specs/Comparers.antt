-- What every comparer promises a search, whatever its state.
use Rattle.std.specs.Prelude.{ℕ, ◌≡◌, ◌+◌, ◌*◌, ◌<◌, ◌≤◌, ◌⊎◌, Bool, true, false, List, [], ◌∷◌, ◌++◌, map, length, Option, Some, None, IsSome}
use Rattle.uncapped.specs.Procedure.{Settings, Sums, Question, Incumbent, Addition, PlainState, Aborted, Goes, Ends, Procedure, ◌>>=◌, give}
use Rattle.uncapped.specs.Setup.{Setup}
use Rattle.uncapped.specs.Evaluation.{after_ask, counts_after}
use Rattle.uncapped.specs.Uncapped.{at_first, last_of}
use Rattle.ils_face.specs.declared.asks.Reply.{Reply}
use Rattle.ils_face.specs.declared.asks.Reply.TheVariants.{Exact}
use Rattle.ils_face.specs.Replies.{Fits, ask_of, reply_up_to, cost_asked}
use Rattle.ils_face.specs.Trajectories.{newest, IsTrajectory}
use Rattle.ils_frame.specs.declared.stage.Stage.{Stage}
use Rattle.ils_frame.specs.declared.stage.Stage.TheVariants as stages
use Rattle.ils_frame.specs.IncumbentInvariant.{IncumbentInvariant}

-- how far a comparer is, with its question
pub data AskedStage : Type 0 where
  Ready : AskedStage  -- nothing was compared yet
  Asking : Question → AskedStage
  Decided : Bool → AskedStage

-- the stage without its question
abbrev pub stage_of : AskedStage → Stage
stage_of Ready = stages.Ready
stage_of (Asking q) = stages.Asking
stage_of (Decided b) = stages.Decided b

-- the open question, where there is one
abbrev pub question_in : AskedStage → Option Question
question_in Ready = None
question_in (Asking q) = Some q
question_in (Decided b) = None

-- what it came to, where nothing is asked
abbrev pub decision_in : AskedStage → Option Bool
decision_in Ready = Some false
decision_in (Asking q) = None
decision_in (Decided b) = Some b

-- whether an ask is open
abbrev pub is_asking : AskedStage → Bool
is_asking Ready = false
is_asking (Asking q) = true
is_asking (Decided b) = false

-- how a comparer of states S goes on, what it shows, and how the procedure's state goes on with it
pub record Parts (S : Type 0) : Type 0 where
  pub stage : S → AskedStage
  pub last : S → Incumbent  -- the incumbent with its runs and their cost, and the comparison's number
  pub entries : S → List Incumbent
  pub after : S → Reply → S
  pub begun : S → Settings → Settings → ℕ → S  -- a comparison with this number begins
  pub added : S → Reply → List Incumbent  -- the entries that a reply adds
  pub left : S → ℕ  -- answers until nothing is asked, at most
  pub replied : S → Reply → PlainState → PlainState
  pub started : S → Settings → Settings → ℕ → PlainState → PlainState

-- ---- whatever fitting replies come

-- the incumbent, its runs and their cost stay
pub record SameIncumbent (a b : Incumbent) : Type 0 where
  pub config : b.config ≡ a.config
  pub runs : b.runs ≡ a.runs
  pub sum : b.sum ≡ a.sum

-- the configuration of the question is the incumbent, by this reply
pub record NewIncumbent (q : Question) (r : Reply) (b : Incumbent) : Type 0 where
  pub config : b.config ≡ q.config
  pub runs : b.runs ≡ q.places
  pub cost : r ≡ Exact (record { 0 = b.sum })

-- what one fitting reply does
pub record Answered {S : Type 0} (parts : Parts S) (fit : S → Type 0) (c : S) (q : Question) (r : Reply) : Type 0 where
  pub stays_fit : fit (parts.after c r)
  pub nearer : parts.left (parts.after c r) < parts.left c
  pub grown : parts.entries (parts.after c r) ≡ parts.entries c ++ parts.added c r
  pub compared : (parts.last (parts.after c r)).compared ≡ (parts.last c).compared
  pub incumbent : SameIncumbent (parts.last c) (parts.last (parts.after c r)) ⊎ NewIncumbent q r (parts.last (parts.after c r))

-- what the begin of a comparison does
pub record Begun {S : Type 0} (parts : Parts S) (fit : S → Type 0) (max_runs : ℕ) (c d : S) (m : ℕ) : Type 0 where
  pub stays_fit : fit d
  pub few : parts.left d ≤ 8 * max_runs + 16
  pub asks_first : is_asking (parts.stage d) ≡ true
  pub same_entries : parts.entries d ≡ parts.entries c
  pub compared : (parts.last d).compared ≡ m
  pub incumbent : SameIncumbent (parts.last c) (parts.last d)

-- a question names an allowed configuration and a number of places
pub record InRange (max_runs : ℕ) (allowed : Settings → Type 0) (q : Question) : Type 0 where
  pub config : allowed q.config
  pub some : 1 ≤ q.places
  pub within : q.places ≤ max_runs

-- what a comparer promises whatever fitting replies come
pub record IsSteadyComparer {S : Type 0} (parts : Parts S) (fit : S → Type 0) (max_runs : ℕ) (allowed : Settings → Type 0) (start : Settings) (first : S) : Type 0 where
  pub opened : fit first
  pub few : parts.left first ≤ 8 * max_runs + 16
  pub nothing_yet : parts.last first ≡ record { compared = 0; runs = 0; sum = 0; config = start }
  pub in_range : (c : S) (q : Question) → fit c → parts.stage c ≡ Asking q → InRange max_runs allowed q
  pub trajectory : (c : S) → fit c → IsTrajectory max_runs allowed (parts.entries c) (parts.last c)
  pub entered : (c : S) → fit c → question_in (parts.stage c) ≡ None → IsSome (newest (parts.entries c))
  pub ready_first : (c : S) → fit c → parts.stage c ≡ Ready → (parts.last c).compared ≡ 0
  pub decided_later : (c : S) (b : Bool) → fit c → parts.stage c ≡ Decided b → 1 ≤ (parts.last c).compared
  pub answered : (c : S) (q : Question) (r : Reply) → fit c → parts.stage c ≡ Asking q → Fits (ask_of q.config q.places q.bound) r → Answered parts fit c q r
  pub begins : (c : S) (θ φ : Settings) (m : ℕ) → fit c → question_in (parts.stage c) ≡ None → (parts.last c).compared < m → allowed θ → allowed φ
      → Begun parts fit max_runs c (parts.begun c θ φ m) m

-- ---- with the replies of total costs

-- entries that are added by the reply to the ask of this number, from 1
abbrev pub additions_after : ℕ → List Incumbent → List Addition
additions_after n new = map (λ e. record { asks_before = n; entry = e }) new

-- the procedure's state after an answer: one more ask, its places count as run, and the entries that it adds
pub record Advanced (s t : PlainState) (q : Question) (added : List Incumbent) : Type 0 where
  pub asks : t.asks ≡ s.asks ++ q ∷ []
  pub counts : t.counts ≡ counts_after s.counts q.config q.places
  pub entries : t.entries ≡ s.entries ++ additions_after (length s.asks + 1) added
  pub event : t.event ≡ s.event

-- the procedure's state after a begin: nothing was asked, counted, drawn or added
pub record Unasked (s t : PlainState) : Type 0 where
  pub asks : t.asks ≡ s.asks
  pub counts : t.counts ≡ s.counts
  pub entries : t.entries ≡ s.entries
  pub event : t.event ≡ s.event

-- with a known cost, what is to come stays the same
pub record GoesOn {S : Type 0} (parts : Parts S) (stands : S → PlainState → Type 0) (coming : S → Procedure Bool) (c : S) (s : PlainState) (q : Question) (r : Reply) : Type 0 where
  pub stays : stands (parts.after c r) (parts.replied c r s)
  pub same : coming c s ≡ coming (parts.after c r) (parts.replied c r s)
  pub advanced : Advanced s (parts.replied c r s) q (parts.added c r)

-- what is to come of a new comparison is the comparison
pub record Starts {S : Type 0} (parts : Parts S) (stands : S → PlainState → Type 0) (coming : S → Procedure Bool) (better : Settings → Settings → Procedure Bool) (c : S) (θ φ : Settings) (m : ℕ) (s : PlainState) : Type 0 where
  pub stays : stands (parts.begun c θ φ m) (parts.started c θ φ m s)
  pub same : better θ φ (record s { compared = m }) ≡ coming (parts.begun c θ φ m) (parts.started c θ φ m s)
  pub unasked : Unasked s (parts.started c θ φ m s)

-- the total cost of each configuration over the places that count as run is known
abbrev pub AreCostsKnown : Sums → PlainState → Type 0
AreCostsKnown sums s = (θ : Settings) → IsSome (sums θ (s.counts θ))

-- the state that the comparer stands for before anything is answered
abbrev pub opened_state : {S : Type 0} → Parts S → Setup → S → PlainState
opened_state parts setup first = record (at_first setup) { entries = additions_after 0 (parts.entries first) }

-- what a comparer promises with the replies of total costs: it does what the procedure does
pub record Keeps {S : Type 0} (parts : Parts S) (fit : S → Type 0) (stands : S → PlainState → Type 0) (coming : S → Procedure Bool) (better : Settings → Settings → Procedure Bool) (opening : Procedure (Unit {0})) (setup : Setup) (sums : Sums) (first : S) : Type 0 where
  pub opened : stands first (opened_state parts setup first)
  pub opens : coming first (opened_state parts setup first) ≡ (opening >>= λ _. give false) (at_first setup)
  pub redrawn : (c : S) (s : PlainState) (e : ℕ) → stands c s → stands c (record s { event = e })
  pub answered : (c : S) (s : PlainState) (q : Question) (x : ℕ) → fit c → stands c s → parts.stage c ≡ Asking q → cost_asked sums q ≡ Some x → GoesOn parts stands coming c s q (reply_up_to x q.bound)
  pub aborts : (c : S) (s : PlainState) (q : Question) → fit c → stands c s → parts.stage c ≡ Asking q → cost_asked sums q ≡ None → coming c s ≡ Ends (after_ask q.config q.places q.bound s) Aborted
  pub begins : (c : S) (s : PlainState) (θ φ : Settings) (m : ℕ) → fit c → stands c s → question_in (parts.stage c) ≡ None → Starts parts stands coming better c θ φ m s
  pub known : (c : S) (s : PlainState) → fit c → stands c s → AreCostsKnown sums s
  pub ended : (c : S) (s : PlainState) (b : Bool) → decision_in (parts.stage c) ≡ Some b → coming c s ≡ Goes s b
  pub last : (c : S) (s : PlainState) → fit c → stands c s → parts.last c ≡ last_of sums s
  pub leads : (c : S) (s : PlainState) → fit c → stands c s → IncumbentInvariant sums s
