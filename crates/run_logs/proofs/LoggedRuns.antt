-- The rows of a journal: their runs are those that it records, and no two are of one ticket.
use Rattle.std.proofs.Common.{ℕ, zero, suc, ◌≡◌, ◌≢◌, ◌≤◌, ◌<◌, ◌+◌, ◌-◌, ◌==◌, ◌++◌, Bool, true, false, cond, get_or, List, [], ◌∷◌, All, length, filter, map, refl, sym, ap, ◌∙◌, arith, subst, inl, inr, if◌then◌else◌}
use Rattle.std.specs.List.{count_by, flat_map, range_with_len}
use Rattle.std.proofs.lemmas.Bool.{true≢false, eq-eqb}
use Rattle.std.proofs.lemmas.Bool.Decides.{eqb_tells}
use Rattle.std.proofs.lemmas.List.{append_assoc, append-nil, length-append, map-append}
use Rattle.std.proofs.lemmas.List.Elements.{All-nil, All-cons, All-head, All-tail, All-append, All-push, All-from_get_or, filter-append}
use Rattle.std.proofs.lemmas.List.FromFn.{get_or-range_with_len, length-range_with_len}
use Rattle.std.proofs.lemmas.List.Kept.{AllPairs-cons}
use Rattle.std.proofs.lemmas.List.Sums.{sum_by-cons, sum_by-append}
use Rattle.objective.specs.declared.Answer.{Answer}
use Rattle.ils_face.specs.Rules.{Rules}
use Rattle.run_cache.specs.Runs.{CellRun}
use Rattle.board_steps.specs.declared.events.Event.{Event}
use Rattle.board_steps.specs.declared.events.Event.TheVariants.{Advance, Take, Record, Lost, Mark, Killed, Stop, Resume}
use Rattle.board_steps.specs.declared.tickets.Ticket.{Ticket}
use Rattle.board_steps.specs.JournalRuns.{takes, run_taken, recorded_in, runs_after, runs_of}
use Rattle.board_steps.specs.Numbering.{AreNumbered, IsRunnableTake, number_taken, number_ended, numbers_taken, numbers_ended}
use Rattle.board_steps.specs.Problem.{Problem}
use Rattle.board_steps.proofs.Ranges.{count-none}
use Rattle.tuning_logs.specs.RunLog.{LoggedRun}
use Rattle.run_logs.specs.LoggedRuns.{logged_as, logged_in, logged_after, logged_runs, run_in, runs_in, HaveOwnTickets}

-- ---- the runs

numbered-runs : (number : ℕ) (runs : List CellRun) → runs_in (map (logged_as number) runs) ≡ runs
numbered-runs number [] = refl
numbered-runs number (run ∷ runs) = ap (λ rs. run ∷ rs) (numbered-runs number runs)

runs-in_event : (before : List Event) (e : Event) → runs_in (logged_in before e) ≡ recorded_in before e
runs-in_event before (Record number answer) = numbered-runs number (recorded_in before (Record number answer))
runs-in_event before Advance = refl
runs-in_event before (Take kind number cell cutoff asked_at) = refl
runs-in_event before (Lost number) = refl
runs-in_event before (Mark number) = refl
runs-in_event before (Killed number) = refl
runs-in_event before Stop = refl
runs-in_event before Resume = refl

-- the runs of the rows are those that the journal records
pub runs-logged : (before later : List Event) → runs_in (logged_after before later) ≡ runs_after before later
runs-logged before [] = refl
runs-logged before (e ∷ later) =
    map-append run_in (logged_in before e) (logged_after (before ++ e ∷ []) later)
    ∙ (λ i. runs-in_event before e i ++ runs-logged (before ++ e ∷ []) later i)

-- ---- each number is taken once

-- what a test counts
counts-one : (b : Bool) → b ≡ true → ◌≡◌ {A = ℕ} (cond b 1 0) 1
counts-one b e = ap (λ b. cond b 1 0) e

counts-none : (b : Bool) → b ≡ false → ◌≡◌ {A = ℕ} (cond b 1 0) 0
counts-none b e = ap (λ b. cond b 1 0) e

counts-few : (b : Bool) → cond b 1 0 ≤ 1
counts-few true = omega arith
counts-few false = omega arith

-- as many events take a number as it stands among the numbers that are taken
taken-count : (n : ℕ) (journal : List Event) → length (filter (takes n) journal) ≡ count_by (λ m. m == n) (numbers_taken journal)
taken-count n [] = refl
taken-count n (Advance ∷ journal) = taken-count n journal
taken-count n (Take kind number cell cutoff asked_at ∷ journal) =
    at_either (number == n) (taken-count n journal) ∙ sym (sum_by-cons (λ m. cond (m == n) 1 0) number (numbers_taken journal))
  where
    at_either : (b : Bool) → length (filter (takes n) journal) ≡ count_by (λ m. m == n) (numbers_taken journal)
        → length (cond b (Take kind number cell cutoff asked_at ∷ filter (takes n) journal) (filter (takes n) journal))
        ≡ cond b 1 0 + count_by (λ m. m == n) (numbers_taken journal)
    at_either true e = omega (arith, e)
    at_either false e = omega (arith, e)
taken-count n (Record number answer ∷ journal) = taken-count n journal
taken-count n (Lost number ∷ journal) = taken-count n journal
taken-count n (Mark number ∷ journal) = taken-count n journal
taken-count n (Killed number ∷ journal) = taken-count n journal
taken-count n (Stop ∷ journal) = taken-count n journal
taken-count n (Resume ∷ journal) = taken-count n journal

-- a number isn't among greater ones
none-above : (a n m : ℕ) → m < a → count_by (λ k. k == m) (range_with_len a n) ≡ 0
none-above a n m below = count-none (λ k. k == m) (range_with_len a n)
    (All-from_get_or (λ k. (k == m) ≡ false) (range_with_len a n) 0 (λ i within. other i (omega (arith, within, length-range_with_len a n))))
  where
    other : (i : ℕ) → i < n → (get_or (range_with_len a n) i 0 == m) ≡ false
    other i inside = elim (eqb_tells (get_or (range_with_len a n) i 0) m) [
      | inl w ↦ absurd (omega (arith, w.1, below, get_or-range_with_len a n i 0 inside))
      | inr w ↦ w.0
    ]

-- numbers that follow each other stand once each
once-in_range : (a n m : ℕ) → count_by (λ k. k == m) (range_with_len a n) ≤ 1
once-in_range a zero m = omega arith
once-in_range a (suc n) m = elim (eqb_tells a m) [
  | inl w ↦ omega (arith, sum_by-cons (λ k. cond (k == m) 1 0) a (range_with_len (a + 1) n), none-above (a + 1) n m (omega (arith, w.1)), counts-few (a == m))
  | inr w ↦ omega (arith, sum_by-cons (λ k. cond (k == m) 1 0) a (range_with_len (a + 1) n), once-in_range (a + 1) n m, counts-none (a == m) w.0)
]

-- at most one event of a journal takes a number
pub taken-once : (problem : Problem) (tickets : List Ticket) (next : ℕ) (journal : List Event) → AreNumbered problem tickets next journal
    → (n : ℕ) → length (filter (takes n) journal) ≤ 1
taken-once problem tickets next journal numbered n =
    omega (arith, taken-count n journal, ap (λ ms. count_by (λ m. m == n) ms) numbered.taken, once-in_range 1 (next - 1) n)

-- ---- no two rows are of one ticket

abbrev counted : ℕ → List LoggedRun → ℕ
counted n rows = count_by (λ row. row.number == n) rows

-- an event takes at most one run
length-taken : (answer : Answer) (es : List Event) → length (flat_map (run_taken answer) es) ≤ length es
length-taken answer [] = omega arith
length-taken answer (Take kind number cell cutoff asked_at ∷ es) = omega (arith, length-taken answer es)
length-taken answer (Advance ∷ es) = omega (arith, length-taken answer es)
length-taken answer (Record number shown ∷ es) = omega (arith, length-taken answer es)
length-taken answer (Lost number ∷ es) = omega (arith, length-taken answer es)
length-taken answer (Mark number ∷ es) = omega (arith, length-taken answer es)
length-taken answer (Killed number ∷ es) = omega (arith, length-taken answer es)
length-taken answer (Stop ∷ es) = omega (arith, length-taken answer es)
length-taken answer (Resume ∷ es) = omega (arith, length-taken answer es)

-- one run at most is one row at most
count-one : (number n : ℕ) (runs : List CellRun) → length runs ≤ 1 → counted n (map (logged_as number) runs) ≤ cond (number == n) 1 0
count-one number n [] few = omega arith
count-one number n (run ∷ []) few = omega arith
count-one number n (run ∷ other ∷ runs) few = absurd (omega (arith, few))

-- an event has a row for the ticket that it ends, at most
count-event : (n : ℕ) (before : List Event) (e : Event) → ((m : ℕ) → length (filter (takes m) before) ≤ 1)
    → counted n (logged_in before e) ≤ count_by (λ m. m == n) (number_ended e)
count-event n before (Record number answer) once =
    let taken = filter (takes number) before in
    omega (arith, count-one number n (flat_map (run_taken answer) taken) (omega (arith, once number, length-taken answer taken)))
count-event n before Advance once = omega arith
count-event n before (Take kind number cell cutoff asked_at) once = omega arith
count-event n before (Lost number) once = omega arith
count-event n before (Mark number) once = omega arith
count-event n before (Killed number) once = omega arith
count-event n before Stop once = omega arith
count-event n before Resume once = omega arith

-- a number is in as many rows at most as it ends tickets
count-rows : (n : ℕ) (before later : List Event) → ((m : ℕ) → length (filter (takes m) (before ++ later)) ≤ 1)
    → counted n (logged_after before later) ≤ count_by (λ m. m == n) (numbers_ended later)
count-rows n before [] once = omega arith
count-rows n before (e ∷ later) once =
    let first : (m : ℕ) → length (filter (takes m) before) ≤ 1 = λ m.
    omega (arith, once m, ap length (filter-append (takes m) before (e ∷ later)), length-append (filter (takes m) before) (filter (takes m) (e ∷ later))) in
    let after : (m : ℕ) → length (filter (takes m) ((before ++ e ∷ []) ++ later)) ≤ 1 = λ m.
    subst (λ es. length (filter (takes m) es) ≤ 1) (sym (append_assoc before (e ∷ []) later)) (once m) in
    omega (
      arith,
      count-event n before e first,
      count-rows n (before ++ e ∷ []) later after,
      sum_by-append (λ (row : LoggedRun). cond (row.number == n) 1 0) (logged_in before e) (logged_after (before ++ e ∷ []) later),
      sum_by-append (λ (m : ℕ). cond (m == n) 1 0) (number_ended e) (numbers_ended later),
    )

-- none of them has the number
none-numbered : (n : ℕ) (rows : List LoggedRun) → counted n rows ≡ 0 → All (λ row. n ≢ row.number) rows
none-numbered n [] none = All-nil (λ (row : LoggedRun). n ≢ row.number)
none-numbered n (row ∷ rows) none =
    let both = sum_by-cons (λ (row : LoggedRun). cond (row.number == n) 1 0) row rows in
    let rest : counted n rows ≡ 0 = omega (arith, none, both) in
    let here : ◌≡◌ {A = ℕ} (cond (row.number == n) 1 0) 0 = omega (arith, none, both) in
    All-cons (λ (row : LoggedRun). n ≢ row.number) row rows
    (λ same. omega (arith, here, counts-one (row.number == n) (eq-eqb row.number n (sym same)))) (none-numbered n rows rest)

-- numbers that stand once each differ
own-tickets : (rows : List LoggedRun) → ((n : ℕ) → counted n rows ≤ 1) → HaveOwnTickets rows
own-tickets [] once = λ i j d below within. absurd (omega (arith, within))
own-tickets (row ∷ rows) once =
    let both : (n : ℕ) → counted n (row ∷ rows) ≡ cond (row.number == n) 1 0 + counted n rows = λ n. sum_by-cons (λ (row : LoggedRun). cond (row.number == n) 1 0) row rows in
    let none : counted row.number rows ≡ 0 = omega (arith, once row.number, both row.number, counts-one (row.number == row.number) (eq-eqb row.number row.number refl)) in
    let R : LoggedRun → LoggedRun → Type 0 = λ one other. one.number ≢ other.number in
    AllPairs-cons R row rows (none-numbered row.number rows none)
    (own-tickets rows (λ n. omega (arith, once n, both n)))

-- no two rows of a journal are of one ticket
pub logged-tickets : (problem : Problem) (tickets : List Ticket) (next : ℕ) (journal : List Event) → AreNumbered problem tickets next journal
    → HaveOwnTickets (logged_runs journal)
logged-tickets problem tickets next journal numbered =
    own-tickets (logged_runs journal) (λ n. omega (arith, numbered.once n, count-rows n [] journal (taken-once problem tickets next journal numbered)))

-- ---- the cutoffs

-- a run has at most the full cutoff
abbrev pub IsWithinFull : ℕ → CellRun → Type 0
IsWithinFull full run = run.cutoff ≤ full

within-taken : (rules : Rules) (answer : Answer) (number : ℕ) (before : List Event) → All (IsRunnableTake rules) before
    → All (IsWithinFull rules.limits.cutoff) (flat_map (run_taken answer) (filter (takes number) before))
within-taken rules answer number [] all = All-nil (IsWithinFull rules.limits.cutoff)
within-taken rules answer number (Take kind taken cell cutoff asked_at ∷ before) all =
    at_either (taken == number) (within-taken rules answer number before (All-tail (IsRunnableTake rules) (Take kind taken cell cutoff asked_at) before all))
  where
    at_either : (b : Bool) → All (IsWithinFull rules.limits.cutoff) (flat_map (run_taken answer) (filter (takes number) before))
        → All (IsWithinFull rules.limits.cutoff)
        (flat_map (run_taken answer) (cond b (Take kind taken cell cutoff asked_at ∷ filter (takes number) before) (filter (takes number) before)))
    at_either true rest = All-cons (IsWithinFull rules.limits.cutoff) (record { cell = cell; cutoff = cutoff.0; answer = answer }) (flat_map (run_taken answer) (filter (takes number) before))
        (All-head (IsRunnableTake rules) (Take kind taken cell cutoff asked_at) before all).in_range.at_most rest
    at_either false rest = rest
within-taken rules answer number (Advance ∷ before) all = within-taken rules answer number before (All-tail (IsRunnableTake rules) Advance before all)
within-taken rules answer number (Record ended shown ∷ before) all = within-taken rules answer number before (All-tail (IsRunnableTake rules) (Record ended shown) before all)
within-taken rules answer number (Lost ended ∷ before) all = within-taken rules answer number before (All-tail (IsRunnableTake rules) (Lost ended) before all)
within-taken rules answer number (Mark marked ∷ before) all = within-taken rules answer number before (All-tail (IsRunnableTake rules) (Mark marked) before all)
within-taken rules answer number (Killed ended ∷ before) all = within-taken rules answer number before (All-tail (IsRunnableTake rules) (Killed ended) before all)
within-taken rules answer number (Stop ∷ before) all = within-taken rules answer number before (All-tail (IsRunnableTake rules) Stop before all)
within-taken rules answer number (Resume ∷ before) all = within-taken rules answer number before (All-tail (IsRunnableTake rules) Resume before all)

within-event : (rules : Rules) (before : List Event) (e : Event) → All (IsRunnableTake rules) before → All (IsWithinFull rules.limits.cutoff) (recorded_in before e)
within-event rules before (Record number answer) all = within-taken rules answer number before all
within-event rules before Advance all = All-nil (IsWithinFull rules.limits.cutoff)
within-event rules before (Take kind number cell cutoff asked_at) all = All-nil (IsWithinFull rules.limits.cutoff)
within-event rules before (Lost number) all = All-nil (IsWithinFull rules.limits.cutoff)
within-event rules before (Mark number) all = All-nil (IsWithinFull rules.limits.cutoff)
within-event rules before (Killed number) all = All-nil (IsWithinFull rules.limits.cutoff)
within-event rules before Stop all = All-nil (IsWithinFull rules.limits.cutoff)
within-event rules before Resume all = All-nil (IsWithinFull rules.limits.cutoff)

-- no recorded run has more than the full cutoff
pub runs-within : (rules : Rules) (before later : List Event) → All (IsRunnableTake rules) before → All (IsRunnableTake rules) later
    → All (IsWithinFull rules.limits.cutoff) (runs_after before later)
runs-within rules before [] first all = All-nil (IsWithinFull rules.limits.cutoff)
runs-within rules before (e ∷ later) first all =
    let P = IsRunnableTake rules in
    All-append (IsWithinFull rules.limits.cutoff) (recorded_in before e) (runs_after (before ++ e ∷ []) later) (within-event rules before e first)
    (runs-within rules (before ++ e ∷ []) later (All-push P before e first (All-head P e later all)) (All-tail P e later all))
