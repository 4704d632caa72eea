-- The promises of the top call follow from how it ended.
use Rattle.std.proofs.Common.{ℕ, ◌≡◌, ◌<◌, ◌⊎◌, true, false, List, [], append-nil, map, length, Option, Some, refl, sym, ap, subst, ◌∙◌, inl, inr, arith, take_all}
use Rattle.std.specs.Prelude.{IfSome, IsSome, IsTrue}
use Rattle.objective.specs.declared.Outcome.{Outcome}
use Rattle.wrapper_lines.specs.declared.runs.Key.{Key}
use Rattle.outside.specs.Counts.{Rose}
use Rattle.outside.specs.ToldStates.{FilesTold, SinkTold}
use Rattle.outside.specs.Changes.{after_taking}
use Rattle.outside.specs.WholePieces.{Took, TookPartOf, WroteBadly}
use Rattle.param_space.specs.Space.{Lists}
use Rattle.uncapped.specs.Procedure.{Incumbent, Aborted}
use Rattle.uncapped.specs.Totals.{NeverAborts}
use Rattle.uncapped.specs.Uncapped.{Run}
use Rattle.uncapped.proofs.KnownCosts.{finishes}
use Rattle.ils_face.specs.Setups.{setup_of}
use Rattle.ils_face.specs.Steady.{Grows}
use Rattle.run_cache.specs.declared.cell.Cell.{Cell}
use Rattle.board_steps.specs.ProblemRuns.{table_of}
use Rattle.pool_run.specs.Seats.{SeatState}
use Rattle.tuner.specs.Calls.{Call, IsMisused, IsCalled, StatesTask, IsSeated}
use Rattle.tuner.specs.CallStarts.{StartsDue, StartsOf}
use Rattle.tuner.specs.Causes.{CauseOf, IsBadFile, IsTooFew}
use Rattle.tune_front.specs.RefusalLines.{usage_line, bad_file_line, read_fault_line, seats_line, no_memory_line}
use Rattle.tuning_logs.specs.EntryLines.{all_lines, end_line}
use Rattle.tuner.specs.Lines.{output_of, aborted_line, child_fault_line}
use Rattle.tune_front.specs.SaidTexts.{Said, whole, unwritten, no_memory}
use Rattle.tuner.specs.PrintedTexts.{IsSearchText, IsAbortedText, IsNoMemoryText, alone, after_entries, IsTextOf, Printed}
use Rattle.tuner.specs.Conducted.{Conducted}
use Rattle.tuner.specs.AnyAnswers.{may_end_any_call, may_end_any_call_that_reads}
use Rattle.tuner.specs.Promises.{IsPrinted, IsUnabortedOutput, IsAbortedOutput, AbortSentence, PrintsFirst, none, some, begins_with_letter, RefusesFaulty, RefusesUnseated, NoSeatFails, IsComplete}
use Rattle.tune_front.specs.Readings.{Reading, Reads, Misused, Bad, words_reading, task_by, task_of, ◌>>=◌}
use Rattle.tuner.specs.SearchEnds.{RanTo}
use Rattle.tuner.specs.Tasks.{procedure_of, true_run}
use Rattle.tune_front.specs.declared.status.FileKind.{FileKind}
use Rattle.tune_front.specs.declared.status.What.{What}
use Rattle.tune_front.specs.declared.status.Status.{Status}
use Rattle.tune_front.specs.declared.status.Status.TheVariants as status
use Rattle.tune_front.specs.declared.task.Task.{Task}

-- ---- causes

said_cause : (call : Call) (out out' : SinkTold) (end result : Status) (text : List ℕ) → CauseOf call end → Said out out' end result text → CauseOf call result
said_cause call out out' end result text cause (whole same taken) = subst (CauseOf call) (sym same) cause
said_cause call out out' end result text cause (unwritten same part bad) = subst (CauseOf call) (sym same) tt
said_cause call out out' end result text cause (no_memory same part) = subst (CauseOf call) (sym same) tt

-- each answer has its cause
pub cause_of : (call : Call) (out out' : SinkTold) (result : Status) → Conducted call out out' result → CauseOf call result
cause_of call out out' result h = said_cause call out out' h.end result h.text h.cause h.said

said_badly : (call : Call) (out out' : SinkTold) (end result : Status) (text : List ℕ) → IsTextOf call.words call.files call.truth call.seats' end text
    → Said out out' end result text → result ≡ status.WriteFault → WroteBadly out out'
said_badly call out out' end result text wanted (whole same taken) e =
    let P : Status → Type 0 = λ s. IsTextOf call.words call.files call.truth call.seats' s text in
    absurd (subst P (sym same ∙ e) wanted)
said_badly call out out' end result text wanted (unwritten same part bad) e = bad
said_badly call out out' end result text wanted (no_memory same part) e = absurd (let no = sym same ∙ e in cc)

said_starts : (call : Call) (out out' : SinkTold) (end result : Status) (text : List ℕ) → StartsOf call end → Said out out' end result text → StartsOf call result
said_starts call out out' end result text starts (whole same taken) = subst (StartsOf call) (sym same) starts
said_starts call out out' end result text starts (unwritten same part bad) = subst (StartsOf call) (sym same) tt
said_starts call out out' end result text starts (no_memory same part) = subst (StartsOf call) (sym same) tt

-- what was started
pub starts_of : (call : Call) (out out' : SinkTold) (result : Status) → Conducted call out out' result → result ≡ status.Ok → StartsDue call
starts_of call out out' result h ok = subst (StartsOf call) ok (said_starts call out out' h.end result h.text h.starts h.said)

-- WriteFault comes of the output
pub badly_written : (call : Call) (out out' : SinkTold) (result : Status) → Conducted call out out' result → result ≡ status.WriteFault → WroteBadly out out'
badly_written call out out' result h = said_badly call out out' h.end result h.text h.wanted h.said

-- ---- what is printed

pub ending_of : (call : Call) (out out' : SinkTold) (result : Status) → Conducted call out out' result → Printed call.words call.files call.truth call.seats' out out' result
ending_of call out out' result h = record { end = h.end; text = h.text; wanted = h.wanted; said = h.said }

-- what is printed is the output of the run
same_output : (space : Lists) (run : Run) (entries : List Incumbent) (last : Incumbent) → RanTo run entries last → all_lines space entries last ≡ output_of space run
same_output space run entries last ran =
    ap (λ es. all_lines space es last) ran.all ∙ ap (all_lines space (map (λ added. added.entry) run.entries)) ran.end

printed_text : (words : List (List ℕ)) (files : FilesTold) (truth : Option (Key → Outcome)) (out out' : SinkTold) (text : List ℕ)
    → IsSearchText words files truth text → Took out out' text → IsPrinted words files truth out out'
printed_text words files truth out out' text h taken =
    let space = h.task.problem.rules.space in
    let lines : Took out out' (all_lines space h.entries h.last) = subst (Took out out') h.lines taken in
    record {
      task = h.task;
      stated = h.stated;
      entries = h.entries;
      last = h.last;
      searched = h.trajectory.searched;
      printed = lines;
      finished = λ some never. finishes (procedure_of h.task.approach) (setup_of h.task.problem.rules) h.task.problem.rules.limits (table_of truth h.task.problem) never;
      told = λ some ended.
          subst (Took out out') (same_output space (true_run truth h.task) h.entries h.last (h.trajectory.told some ended)) lines;
    }

-- an answer that says what it was to say was written whole
said_whole : (words : List (List ℕ)) (files : FilesTold) (truth : Option (Key → Outcome)) (seats : List SeatState) (out out' : SinkTold) (end result s : Status) (text : List ℕ)
    → IsTextOf words files truth seats end text → Said out out' end result text → result ≡ s → may_end_any_call s ≡ false → IsTextOf words files truth seats s text × Took out out' text
said_whole words files truth seats out out' end result s text wanted (whole same taken) e h =
    let P : Status → Type 0 = λ s. IsTextOf words files truth seats s text in
    (subst P (sym same ∙ e) wanted, taken)
said_whole words files truth seats out out' end result s text wanted (unwritten same part bad) e h =
    absurd (let may : may_end_any_call s ≡ true = ap may_end_any_call (sym e ∙ same) in cc)
said_whole words files truth seats out out' end result s text wanted (no_memory same part) e h =
    absurd (let may : may_end_any_call s ≡ true = ap may_end_any_call (sym e ∙ same) in cc)

-- what is said of an answer's whole text and of what the output took
at_whole : (call : Call) (out out' : SinkTold) (result s : Status) → Conducted call out out' result → result ≡ s → may_end_any_call s ≡ false
    → (P : Type 0) → ((text : List ℕ) → IsTextOf call.words call.files call.truth call.seats' s text → Took out out' text → P) → P
at_whole call out out' result s h e never P f =
    let both = said_whole call.words call.files call.truth call.seats' out out' h.end result s h.text h.wanted h.said e never in
    f h.text both.0 both.1

-- the headline
pub headline_of : (call : Call) (out out' : SinkTold) (result : Status) → Conducted call out out' result → result ≡ status.Ok → IsPrinted call.words call.files call.truth out out'
headline_of call out out' result h ok = at_whole call out out' result status.Ok h ok refl _ (printed_text call.words call.files call.truth out out')

-- ---- aborts, and entries so far

ok_output : (words : List (List ℕ)) (files : FilesTold) (truth : Option (Key → Outcome)) (out out' : SinkTold) (text : List ℕ)
    → IsSearchText words files truth text → Took out out' text → IsUnabortedOutput words files truth out out'
ok_output words files truth out out' text h taken = record {
  task = h.task;
  stated = h.stated;
  entries = h.entries;
  last = h.last;
  printed = subst (Took out out') h.lines taken;
  holds = h.trajectory.holds;
  all = λ some. (h.trajectory.quiet some).all;
  end = λ some. (h.trajectory.quiet some).end;
}

aborted_output : (words : List (List ℕ)) (files : FilesTold) (truth : Option (Key → Outcome)) (cell : Cell) (out out' : SinkTold) (text : List ℕ)
    → IsAbortedText words files truth cell text → Took out out' text → IsAbortedOutput words files truth cell out out'
aborted_output words files truth cell out out' text h taken = record {
  task = h.task;
  stated = h.stated;
  entries = h.entries;
  printed = subst (Took out out') h.lines taken;
  aborts = h.stopped.aborted;
  holds = h.stopped.holds;
  first = h.stopped.first;
}

-- the abort sentence
pub abort_sentence_of : (call : Call) (out out' : SinkTold) (result : Status) → Conducted call out out' result → AbortSentence call.words call.files call.truth out out' result
abort_sentence_of call out out' result h = record {
  ok = λ e. at_whole call out out' result status.Ok h e refl _ (ok_output call.words call.files call.truth out out');
  aborted = λ cell e. at_whole call out out' result (status.Aborted cell) h e refl _ (aborted_output call.words call.files call.truth cell out out');
}

-- a part of the text, all of it where it was written whole
part_said : (out out' : SinkTold) (end result : Status) (text : List ℕ) → Said out out' end result text → TookPartOf out out' text
part_said out out' end result text (whole same taken) = record { length = length text; taken = taken ∙ ap (after_taking out.taken) (sym (take_all (length text) text (omega arith))) }
part_said out out' end result text (unwritten same part bad) = part
part_said out out' end result text (no_memory same part) = part

-- all entries are the first ones of the same
grows_all : (former later : List Incumbent) → later ≡ former → Grows former later
grows_all former later e = record { added = []; grown = e ∙ sym (append-nil former) }

line_alone : (words : List (List ℕ)) (files : FilesTold) (truth : Option (Key → Outcome)) (out out' : SinkTold) (text line : List ℕ) → begins_with_letter line ≡ true
    → text ≡ line → TookPartOf out out' text → PrintsFirst words files truth out out'
line_alone words files truth out out' text line letter e part = none line letter (subst (TookPartOf out out') e part)

short_first : (words : List (List ℕ)) (files : FilesTold) (truth : Option (Key → Outcome)) (out out' : SinkTold) (text : List ℕ)
    → IsNoMemoryText words files truth text → TookPartOf out out' text → PrintsFirst words files truth out out'
short_first words files truth out out' text (alone e) part = line_alone words files truth out out' text no_memory_line refl e part
short_first words files truth out out' text (after_entries task entries stated first e) part = some task entries no_memory_line stated first refl (subst (TookPartOf out out') e part)

text_first : (words : List (List ℕ)) (files : FilesTold) (truth : Option (Key → Outcome)) (seats : List SeatState) (out out' : SinkTold) (end : Status) (text : List ℕ)
    → IsTextOf words files truth seats end text → TookPartOf out out' text → PrintsFirst words files truth out out'
text_first words files truth seats out out' status.Ok text h part =
    some h.task h.entries (end_line h.task.problem.rules.space h.last) h.stated (λ told. grows_all _ _ (sym (h.trajectory.quiet told).all)) refl (subst (TookPartOf out out') h.lines part)
text_first words files truth seats out out' (status.Usage place) text h part = line_alone words files truth out out' text (usage_line place) refl h part
text_first words files truth seats out out' (status.BadFile kind line what) text h part = line_alone words files truth out out' text (bad_file_line h.name line what) refl h.same part
text_first words files truth seats out out' (status.ReadFault kind) text h part = line_alone words files truth out out' text (read_fault_line h.name) refl h.same part
text_first words files truth seats out out' status.WriteFault text h part = absurd h
text_first words files truth seats out out' (status.Aborted cell) text h part =
    some h.task h.entries (aborted_line h.task.problem.rules.space cell.place cell.config) h.stated h.stopped.first refl (subst (TookPartOf out out') h.lines part)
text_first words files truth seats out out' (status.ChildFault seat) text h part =
    some h.task h.entries (child_fault_line h.task.problem.rules.space h.ticket.cell.place h.ticket.cell.config) h.stated h.first refl (subst (TookPartOf out out') h.lines part)
text_first words files truth seats out out' status.NoMemory text h part = short_first words files truth out out' text h part
text_first words files truth seats out out' (status.TooFewSeats asked given) text h part = line_alone words files truth out out' text (seats_line asked given) refl h part

-- the prefix clause
pub prints_first : (call : Call) (out out' : SinkTold) (result : Status) → Conducted call out out' result → PrintsFirst call.words call.files call.truth out out'
prints_first call out out' result h =
    text_first call.words call.files call.truth call.seats' out out' h.end h.text h.wanted (part_said out out' h.end result h.text h.said)

-- ---- what is known of words and of told contents

misused_called : (words : List (List ℕ)) (place : ℕ) → IsMisused words place → IsCalled words → ⊥
misused_called words place h called = let e = called.reads in cc

told_reading : {A : Type 0} (told : Option (List ℕ → Option (List ℕ))) (contents : List ℕ → Option (List ℕ)) (read : (List ℕ → Option (List ℕ)) → A) (r : A)
    → told ≡ Some contents → IfSome told (λ c. read c ≡ r) → read contents ≡ r
told_reading told contents read r e h =
    let P : Option (List ℕ → Option (List ℕ)) → Type 0 = λ t. IfSome t (λ c. read c ≡ r) in
    subst P e h

-- what is read of told contents
record AreRead (call : Call) (r : Reading Task) : Type 0 where
  contents : List ℕ → Option (List ℕ)
  told : call.files.contents ≡ Some contents
  reads : task_of call.words contents ≡ r

same_reading : (call : Call) (r q : Reading Task) → AreRead call r → IfSome call.files.contents (λ c. task_of call.words c ≡ q) → r ≡ q
same_reading call r q a h = sym a.reads ∙ told_reading call.files.contents a.contents (task_of call.words) q a.told h

same_task : (call : Call) (p q : Task) → AreRead call (Reads p) → StatesTask call.words call.files q → p ≡ q
same_task call p q a stated = let e = same_reading call (Reads p) (Reads q) a stated.reads in cc

not_bad : (call : Call) (p : Task) (kind : FileKind) (line : ℕ) (what : What) → AreRead call (Reads p) → IsBadFile call kind line what → ⊥
not_bad call p kind line what a h = let e = same_reading call (Reads p) (Bad kind h.name line what) a h.first in cc

not_stated : (call : Call) (p : Task) (kind : FileKind) (name : List ℕ) (line : ℕ) (what : What) → AreRead call (Bad kind name line what) → StatesTask call.words call.files p → ⊥
not_stated call p kind name line what a stated = let e = same_reading call (Bad kind name line what) (Reads p) a stated.reads in cc

-- words with a wrong key word come to the same, whatever the files are
misused_reading : (call : Call) (r : Reading Task) (place : ℕ) → AreRead call r → IsMisused call.words place → r ≡ Misused place
misused_reading call r place a h = sym a.reads ∙ ap (λ w. words_reading w >>= λ call. task_by call a.contents) h

not_misused : (call : Call) (p : Task) (place : ℕ) → AreRead call (Reads p) → IsMisused call.words place → ⊥
not_misused call p place a h = let same = misused_reading call (Reads p) place a h in cc

-- ---- where refusals come

-- a wrong key word gives Usage
pub refuses_misused : (call : Call) (result : Status) → CauseOf call result → (place : ℕ) → IsMisused call.words place → (result ≡ status.Usage place) ⊎ IsTrue (may_end_any_call result)
refuses_misused call status.Ok c place h = absurd (misused_called call.words place h c.run.stated.called)
refuses_misused call (status.Usage place') c place h = let same : place' ≡ place = (let e : IsMisused call.words place' = c in cc) in inl (ap status.Usage same)
refuses_misused call (status.BadFile kind line what) c place h = absurd (misused_called call.words place h c.called)
refuses_misused call (status.ReadFault kind) c place h = absurd (misused_called call.words place h c.called)
refuses_misused call status.WriteFault c place h = inr refl
refuses_misused call (status.Aborted cell) c place h = absurd (misused_called call.words place h c.run.stated.called)
refuses_misused call (status.ChildFault seat) c place h = absurd (misused_called call.words place h c.run.stated.called)
refuses_misused call status.NoMemory c place h = inr refl
refuses_misused call (status.TooFewSeats asked given) c place h = absurd (misused_called call.words place h c.stated.called)

faulty : (call : Call) (result : Status) → CauseOf call result → (kind : FileKind) (name : List ℕ) (line : ℕ) (what : What) → AreRead call (Bad kind name line what)
    → (result ≡ status.BadFile kind line what) ⊎ IsTrue (may_end_any_call_that_reads result)
faulty call status.Ok c kind name line what a = absurd (not_stated call c.task kind name line what a c.run.stated)
faulty call (status.Usage place) c kind name line what a = absurd (let same = misused_reading call (Bad kind name line what) place a c in cc)
faulty call (status.BadFile kind' line' what') c kind name line what a =
    let same = same_reading call (Bad kind name line what) (Bad kind' c.name line' what') a c.first in
    let k : kind' ≡ kind = cc in
    let l : line' ≡ line = cc in
    let w : what' ≡ what = cc in
    inl (λ i. status.BadFile (k i) (l i) (w i))
faulty call (status.ReadFault kind') c kind name line what a = inr refl
faulty call status.WriteFault c kind name line what a = inr refl
faulty call (status.Aborted cell) c kind name line what a = absurd (not_stated call c.task kind name line what a c.run.stated)
faulty call (status.ChildFault seat) c kind name line what a = absurd (not_stated call c.task kind name line what a c.run.stated)
faulty call status.NoMemory c kind name line what a = inr refl
faulty call (status.TooFewSeats asked given) c kind name line what a = absurd (not_stated call c.task kind name line what a c.stated)

-- a file with a fault gives BadFile
pub refuses_faulty : (call : Call) (result : Status) → CauseOf call result → RefusesFaulty call.words call.files result
refuses_faulty call result c = record {
  refuses = λ contents kind name line what told bad. faulty call result c kind name line what (record { contents = contents; told = told; reads = bad });
}

-- a task that is stated beside one that asks for too many seats asks for too many too
unseated_too : (call : Call) (p q : Task) → AreRead call (Reads p) → length call.seats < p.problem.rules.workers → StatesTask call.words call.files q → IsSeated (length call.seats) q → ⊥
unseated_too call p q a fewer stated seated =
    let Q : Task → Type 0 = λ r. IsSeated (length call.seats) r in
    let enough = subst Q (sym (same_task call p q a stated)) seated in
    omega (arith, fewer, enough)

too_few_as : (call : Call) (p : Task) (asked given : ℕ) → AreRead call (Reads p) → IsTooFew call asked given → status.TooFewSeats asked given ≡ status.TooFewSeats p.problem.rules.workers (length call.seats)
too_few_as call p asked given a h =
    let w : asked ≡ p.problem.rules.workers = h.workers ∙ ap (λ q. q.problem.rules.workers) (sym (same_task call p h.task a h.stated)) in
    let g : given ≡ length call.seats = h.all in
    λ i. status.TooFewSeats (w i) (g i)

unseated : (call : Call) (result : Status) → CauseOf call result → (p : Task) → AreRead call (Reads p) → length call.seats < p.problem.rules.workers
    → (result ≡ status.TooFewSeats p.problem.rules.workers (length call.seats)) ⊎ IsTrue (may_end_any_call_that_reads result)
unseated call status.Ok c p a fewer = absurd (unseated_too call p c.task a fewer c.run.stated c.run.seated)
unseated call (status.Usage place) c p a fewer = absurd (not_misused call p place a c)
unseated call (status.BadFile kind line what) c p a fewer = absurd (not_bad call p kind line what a c)
unseated call (status.ReadFault kind) c p a fewer = inr refl
unseated call status.WriteFault c p a fewer = inr refl
unseated call (status.Aborted cell) c p a fewer = absurd (unseated_too call p c.task a fewer c.run.stated c.run.seated)
unseated call (status.ChildFault seat) c p a fewer = absurd (unseated_too call p c.task a fewer c.run.stated c.run.seated)
unseated call status.NoMemory c p a fewer = inr refl
unseated call (status.TooFewSeats asked given) c p a fewer = inl (too_few_as call p asked given a c)

-- a task that asks for more seats than there are gives TooFewSeats
pub refuses_unseated : (call : Call) (result : Status) → CauseOf call result → RefusesUnseated call.words call.files (length call.seats) result
refuses_unseated call result c = record {
  refuses = λ contents task told reads fewer. unseated call result c task (record { contents = contents; told = told; reads = reads }) fewer;
}

-- ---- completeness

too_few_seated : (call : Call) (p : Task) (asked given : ℕ) → AreRead call (Reads p) → IsSeated (length call.seats) p → IsTooFew call asked given → ⊥
too_few_seated call p asked given a seated h =
    let P : Task → Type 0 = λ r. asked ≡ r.problem.rules.workers in
    let workers = subst P (sym (same_task call p h.task a h.stated)) h.workers in
    omega (arith, workers, h.all, h.fewer, seated)

unaborted : (call : Call) (p q : Task) → AreRead call (Reads p) → StatesTask call.words call.files q → NeverAborts p.problem.rules.limits (table_of call.truth p.problem)
    → (true_run call.truth q).end ≡ Aborted → ⊥
unaborted call p q a stated never ended =
    let P : Task → Type 0 = λ r. (true_run call.truth r).end ≡ Aborted in
    let aborts = subst P (sym (same_task call p q a stated)) ended in
    let ends = finishes (procedure_of p.approach) (setup_of p.problem.rules) p.problem.rules.limits (table_of call.truth p.problem) never in
    cc

-- where files and seats work and the truth never aborts
completed : (call : Call) (result : Status) → CauseOf call result → (p : Task) → AreRead call (Reads p) → IsSeated (length call.seats) p
    → IsSome call.truth → NeverAborts p.problem.rules.limits (table_of call.truth p.problem)
    → ¬ Rose call.files.faults call.files'.faults → NoSeatFails call.seats call.seats' → (result ≡ status.Ok) ⊎ IsTrue (may_end_any_call result)
completed call status.Ok c p a seated truth never reads works = inl refl
completed call (status.Usage place) c p a seated truth never reads works = absurd (not_misused call p place a c)
completed call (status.BadFile kind line what) c p a seated truth never reads works = absurd (not_bad call p kind line what a c)
completed call (status.ReadFault kind) c p a seated truth never reads works = absurd (reads c.rose)
completed call status.WriteFault c p a seated truth never reads works = inr refl
completed call (status.Aborted cell) c p a seated truth never reads works = absurd (unaborted call p c.task a c.run.stated never (c.ended truth))
completed call (status.ChildFault seat) c p a seated truth never reads works = absurd (works seat c.before c.after c.was c.is c.fault.fault.rose)
completed call status.NoMemory c p a seated truth never reads works = inr refl
completed call (status.TooFewSeats asked given) c p a seated truth never reads works = absurd (too_few_seated call p asked given a seated c)

pub complete_of : (call : Call) (result : Status) → CauseOf call result → IsComplete call.words call.files call.files' call.truth call.seats call.seats' result
complete_of call result c = record {
  complete = λ contents task told reads. completed call result c task (record { contents = contents; told = told; reads = reads });
}
