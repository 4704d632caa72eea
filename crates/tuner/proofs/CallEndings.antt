-- How the top call ends, by its branches.
use Rattle.std.proofs.Common.{ℕ, ◌≡◌, ◌<◌, List, Option, Some, None, Ok, length, refl, sym, ap, ◌∙◌}
use Rattle.std.specs.Prelude.{IfSome}
use Rattle.objective.specs.declared.Outcome.{Outcome}
use Rattle.wrapper_lines.specs.declared.runs.Key.{Key}
use Rattle.outside.specs.ToldStates.{SinkTold}
use Rattle.plain_text.specs.Faults.{IsFound}
use Rattle.scenario_files.specs.Faults.{position_of}
use Rattle.scenario_files.specs.Words.{words_read}
use Rattle.scenario_files.specs.declared.call.Words.{Words}
use Rattle.scenario_files.specs.declared.faults.WordFault.{WordFault}
use Rattle.scenario_files.specs.declared.faults.WordFault.TheVariants as word_fault
use Rattle.pool_run.specs.Seats.{SeatState}
use Rattle.tuner.specs.Calls.{Call, StatesTask, IsSeated}
use Rattle.tuner.specs.Causes.{IsBadFile, IsUnread}
use Rattle.tune_front.specs.RefusalLines.{seats_line}
use Rattle.tune_front.specs.SaidTexts.{Reported}
use Rattle.tuner.specs.Conducted.{Conducted, IsAbout, Runs}
use Rattle.tune_front.specs.Readings.{Contents, Reading, Reads, Bad, Gives, words_reading, file_by, task_by, ◌>>=◌}
use Rattle.tune_front.specs.Refusals.{IsCause, IsNext, ReportsMisuse, ReportsRefusal}
use Rattle.tune_front.specs.declared.reading.refusal.Refusal.{Refusal}
use Rattle.tune_front.specs.declared.reading.refusal.Refusal.TheVariants as refusal
use Rattle.tune_front.specs.declared.status.Status.{Status}
use Rattle.tune_front.specs.declared.status.Status.TheVariants as status
use Rattle.tune_front.specs.declared.task.Task.{Task}
use Rattle.tuner.proofs.RunEndings.{reported, without_memory}

-- what reads by the words reads by the call
by_call : {A : Type 0} (words : List (List ℕ)) (given : Words) (told : Option Contents) (read : Words → Contents → Reading A) (r : Reading A)
    → words_read words ≡ Ok given → IfSome told (λ c. read given c ≡ r)
    → IfSome told (λ c. (words_reading (words_read words) >>= λ call. read call c) ≡ r)
by_call words given None read r e h = tt
by_call words given (Some c) read r e h = ap (λ w. words_reading w >>= λ call. read call c) e ∙ h

-- words and files that state a task
pub stated_by : (call : Call) (given : Words) (task : Task) → words_read call.words ≡ Ok given
    → Gives (task_by given) call.files task → StatesTask call.words call.files task
stated_by call given task e h = record {
  called = record { given = given; reads = e };
  reads = by_call call.words given call.files.contents task_by (Reads task) e h;
}

-- words that are no call
pub ending_misused : (call : Call) (out out' : SinkTold) (result : Status) (e : WordFault) → IsFound (position_of e) (words_read call.words)
    → ReportsMisuse e out out' result → Conducted call out out' result
ending_misused call out out' result (word_fault.At place) cause said = reported call out out' result (status.Usage place) _ cause tt refl said
ending_misused call out out' result word_fault.Memory cause said = without_memory call out out' result said

-- files that make no task
pub ending_refused : (call : Call) (out out' : SinkTold) (result : Status) (e : Refusal) (given : Words) → words_read call.words ≡ Ok given
    → IsCause (task_by given) (IsNext given call.files) call.files call.files' e
    → ReportsRefusal e out out' result → Conducted call out out' result
ending_refused call out out' result (refusal.BadFile kind name line what) given e cause said =
    let first = by_call call.words given call.files.contents task_by (Bad kind name line what) e cause in
    let bad : IsBadFile call kind line what = record { name = name; called = record { given = given; reads = e }; first = first } in
    reported call out out' result (status.BadFile kind line what) _ bad tt (record { name = name; first = first; same = refl }) said
ending_refused call out out' result (refusal.ReadFault kind name) given e cause said =
    let next = by_call call.words given call.files.contents (λ w c. file_by w c kind) (Reads name) e cause.1 in
    let unread : IsUnread call kind = record { name = name; called = record { given = given; reads = e }; next = next; rose = cause.0 } in
    reported call out out' result (status.ReadFault kind) _ unread tt (record { name = name; next = next; same = refl }) said
ending_refused call out out' result refusal.Memory given e cause said = without_memory call out out' result said

-- a task with too few seats
pub ending_unseated : (call : Call) (out out' : SinkTold) (result : Status) (task : Task) (asked seats : ℕ) → StatesTask call.words call.files task
    → asked ≡ task.problem.rules.workers → length call.seats ≡ seats → seats < asked
    → Reported out out' result (status.TooFewSeats asked seats) (seats_line asked seats) → Conducted call out out' result
ending_unseated call out out' result task asked seats stated workers all fewer said =
    reported call out out' result (status.TooFewSeats asked seats) _
    (record { task = task; stated = stated; workers = workers; all = sym all; fewer = fewer }) tt refl said

-- a call of this task that has enough seats runs it
pub runs_about : (call : Call) (task : Task) (truth : Option (Key → Outcome)) (seats seats' : List SeatState)
    → IsAbout call task truth seats seats' → IsSeated (length seats) task → Runs call task truth
runs_about call task truth seats seats' h seated = record { run = record { stated = h.stated; seated = rw h.was seated }; tells = h.tells }
