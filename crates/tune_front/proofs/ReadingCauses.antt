-- Why the files that a scenario names make no task, after its own file was read.
use Rattle.std.proofs.Common.{ℕ, ◌≡◌, ◌≤◌, List, Option, Some, None, sym, ap, subst, ◌∙◌, arith}
use Rattle.std.specs.Prelude.{IfSome}
use Rattle.outside.specs.Counts.{Rose}
use Rattle.outside.specs.ToldStates.{FilesTold}
use Rattle.scenario_files.specs.declared.call.Words.{Words}
use Rattle.scenario_files.specs.declared.filling.Scenario.{Scenario}
use Rattle.tune_front.specs.Readings.{Contents, Reading, Reads, Bad, Gives, scenario_reading, space_reading, task_in, task_by, ◌>>=◌}
use Rattle.tune_front.specs.Refusals.{IsCause, IsNext, IsNextIn}
use Rattle.tune_front.specs.declared.reading.refusal.Refusal.{Refusal}
use Rattle.tune_front.specs.declared.reading.refusal.Refusal.TheVariants.{BadFile, ReadFault, Memory}
use Rattle.tune_front.specs.declared.status.FileKind.{FileKind}
use Rattle.tune_front.specs.declared.status.FileKind.TheVariants as kind
use Rattle.tune_front.specs.declared.status.What.{What}
use Rattle.tune_front.specs.declared.task.Task.{Task}

-- the words and their scenario file, where the files are told, state this scenario
abbrev pub StatesScenario : Words → Option Contents → Scenario → Type 0
StatesScenario words told scenario = IfSome told (λ contents. scenario_reading words.scenario_file words.draft contents ≡ Reads scenario)

-- what is read by the scenario is read by the words
read_on : {A : Type 0} (words : Words) (scenario : Scenario) (told : Option Contents) (read : Scenario → Contents → Reading A) (r : Reading A)
    → StatesScenario words told scenario → IfSome told (λ c. read scenario c ≡ r)
    → IfSome told (λ c. (scenario_reading words.scenario_file words.draft c >>= λ s. read s c) ≡ r)
read_on words scenario None read r e h = tt
read_on words scenario (Some c) read r e h = ap (λ s. s >>= λ t. read t c) e ∙ h

-- the file that is next by the scenario is next by the words
next_on : (words : Words) (scenario : Scenario) (files : FilesTold) (k : FileKind) (name : List ℕ)
    → StatesScenario words files.contents scenario → IsNextIn scenario files k name → IsNext words files k name
next_on words scenario files kind.Scenario name e h = absurd h
next_on words scenario files kind.Params name e h =
    read_on words scenario files.contents (λ s c. Reads s.paramfile) (Reads name) e (always files.contents (ap Reads (sym h)))
  where
    always : {P : Type 0} (told : Option Contents) → P → IfSome told (λ c. P)
    always None p = tt
    always (Some c) p = p
next_on words scenario files kind.Instances name e h =
    read_on words scenario files.contents (λ s c. space_reading s.paramfile c >>= λ space. Reads s.instance_file) (Reads name) e h

-- which file is next is the same while the files hold the same
next_also : (scenario : Scenario) (files files' : FilesTold) (k : FileKind) (name : List ℕ) → files'.contents ≡ files.contents
    → IsNextIn scenario files' k name → IsNextIn scenario files k name
next_also scenario files files' kind.Scenario name same h = absurd h
next_also scenario files files' kind.Params name same h = h
next_also scenario files files' kind.Instances name same h =
    let P : Option Contents → Type 0 = λ t. IfSome t (λ c. (space_reading scenario.paramfile c >>= λ space. Reads scenario.instance_file) ≡ Reads name) in
    subst P same h

-- a refusal of the files that the scenario names is one of the task
pub refused_on : (words : Words) (scenario : Scenario) (files files' after : FilesTold) (e : Refusal)
    → files'.contents ≡ files.contents → files.faults ≤ files'.faults → Gives (scenario_reading words.scenario_file words.draft) files scenario
    → IsCause (task_in scenario) (IsNextIn scenario files') files' after e → IsCause (task_by words) (IsNext words files) files after e
refused_on words scenario files files' after (BadFile k name line what) same low stated h =
    let P : Option Contents → Type 0 = λ t. IfSome t (λ c. task_in scenario c ≡ Bad k name line what) in
    read_on words scenario files.contents task_in (Bad k name line what) stated (subst P same h)
refused_on words scenario files files' after (ReadFault k name) same low stated h =
    let rose : Rose files'.faults after.faults = h.0 in
    (omega (arith, rose, low), next_on words scenario files k name stated (next_also scenario files files' k name same h.1))
refused_on words scenario files files' after Memory same low stated h = tt

-- the task by the scenario is the task by the words
pub given_on : (words : Words) (scenario : Scenario) (files files' : FilesTold) (task : Task) → files'.contents ≡ files.contents
    → Gives (scenario_reading words.scenario_file words.draft) files scenario → Gives (task_in scenario) files' task → Gives (task_by words) files task
given_on words scenario files files' task same stated h =
    let P : Option Contents → Type 0 = λ t. IfSome t (λ c. task_in scenario c ≡ Reads task) in
    read_on words scenario files.contents task_in (Reads task) stated (subst P same h)

-- ---- a reading that others come after

bad_on : {A B : Type 0} (reading : Contents → Reading A) (further : Contents → A → Reading B) (told : Option Contents)
    (k : FileKind) (name : List ℕ) (line : ℕ) (what : What) → IfSome told (λ c. reading c ≡ Bad k name line what)
    → IfSome told (λ c. (reading c >>= further c) ≡ Bad k name line what)
bad_on reading further None k name line what h = tt
bad_on reading further (Some c) k name line what h = ap (λ r. r >>= further c) h

-- a refusal of the first is one of the whole
pub caused_on : {A B : Type 0} (reading : Contents → Reading A) (further : Contents → A → Reading B) (IsName : FileKind → List ℕ → Type 0)
    (files files' : FilesTold) (e : Refusal) → IsCause reading IsName files files' e → IsCause (λ c. reading c >>= further c) IsName files files' e
caused_on reading further IsName files files' (BadFile k name line what) h = bad_on reading further files.contents k name line what h
caused_on reading further IsName files files' (ReadFault k name) h = h
caused_on reading further IsName files files' Memory h = h
