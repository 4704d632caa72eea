-- The reading of words and files as a task.
use Rattle.std.specs.Prelude.{ℕ, ◌≡◌, List, Option, Some, None, Result, Ok, Err, IfSome}
use Rattle.outside.specs.ToldStates.{FilesTold}
use Rattle.plain_text.specs.Faults.{LineFault}
use Rattle.param_space.specs.Space.{Lists}
use Rattle.param_files.specs.Reading.{params_read}
use Rattle.scenario_files.specs.declared.call.Words.{Words}
use Rattle.scenario_files.specs.declared.draft.Draft.{Draft}
use Rattle.scenario_files.specs.declared.filling.Scenario.{Scenario}
use Rattle.scenario_files.specs.Words.{words_read}
use Rattle.instance_pairs.specs.declared.instances.Instance.{Instance}
use Rattle.instance_pairs.specs.Files.{instances_read}
use Rattle.tune_front.specs.ScenarioTask.{whole_scenario, task_from}
use Rattle.tune_front.specs.declared.status.FileKind.{FileKind}
use Rattle.tune_front.specs.declared.status.FileKind.TheVariants as kind
use Rattle.tune_front.specs.declared.status.What.{What}
use Rattle.tune_front.specs.declared.status.What.TheVariants as what
use Rattle.tune_front.specs.declared.task.Task.{Task}

-- what files hold, by name
abbrev pub Contents : Type 0
Contents = List ℕ → Option (List ℕ)

-- words and files as a value, or the first refusal in the order in which they are read
pub data Reading (A : Type 0) : Type 0 where
  Reads : A → Reading A
  Misused : ℕ → Reading A  -- the key word at this place is wrong
  Bad : FileKind → List ℕ → ℕ → What → Reading A  -- a file has no reading: its name, and the line and the rule of its first fault
  Absent : FileKind → Reading A  -- a file isn't there

infixl 10 ◌>>=◌
-- one reading after another, which takes its value
abbrev pub ◌>>=◌ : {A B : Type 0} → Reading A → (A → Reading B) → Reading B
Reads x >>= f = f x
Misused place >>= f = Misused place
Bad kind name line what >>= f = Bad kind name line what
Absent kind >>= f = Absent kind

-- what words give, or the place of the wrong one
abbrev pub words_reading : Result Words ℕ → Reading Words
words_reading (Ok words) = Reads words
words_reading (Err place) = Misused place

-- the bytes of a file that is there
abbrev pub file_bytes : FileKind → Option (List ℕ) → Reading (List ℕ)
file_bytes kind None = Absent kind
file_bytes kind (Some bytes) = Reads bytes

-- the bytes of the file with this name, where it is there
abbrev pub bytes_reading : FileKind → List ℕ → Contents → Reading (List ℕ)
bytes_reading kind name contents = file_bytes kind (contents name)

-- what a file with this name states, or its first fault
abbrev pub statement_reading : {A W : Type 0} → FileKind → (W → What) → List ℕ → Result A (LineFault W) → Reading A
statement_reading kind rule name (Ok x) = Reads x
statement_reading kind rule name (Err fault) = Bad kind name fault.line (rule fault.what)

-- what the file with this name states, where it is there, by a reading of its bytes
abbrev pub file_reading : {A W : Type 0} → FileKind → (W → What) → (List ℕ → Result A (LineFault W)) → List ℕ → Contents → Reading A
file_reading kind rule read name contents = bytes_reading kind name contents >>= λ bytes. statement_reading kind rule name (read bytes)

-- the scenario that a scenario file and the keys of words state
abbrev pub scenario_reading : List ℕ → Draft → Contents → Reading Scenario
scenario_reading name draft = file_reading kind.Scenario what.Scenario (whole_scenario draft) name

-- the space that a parameter file states
abbrev pub space_reading : List ℕ → Contents → Reading Lists
space_reading = file_reading kind.Params what.Params params_read

-- the instances that an instance file states
abbrev pub instances_reading : List ℕ → Contents → Reading (List Instance)
instances_reading = file_reading kind.Instances what.Instances instances_read

-- the task that a scenario and the files that it names state
abbrev pub task_in : Scenario → Contents → Reading Task
task_in scenario contents = do
  space ← space_reading scenario.paramfile contents
  instances ← instances_reading scenario.instance_file contents
  Reads (task_from scenario space instances)

-- the task that words and the files that they name state
abbrev pub task_by : Words → Contents → Reading Task
task_by words contents = scenario_reading words.scenario_file words.draft contents >>= λ scenario. task_in scenario contents

-- the task that the words of a call and the files state: the program, the approach and the problem
abbrev pub task_of : List (List ℕ) → Contents → Reading Task
task_of words contents = words_reading (words_read words) >>= λ call. task_by call contents

-- the name of a file that is to be read, once the files before it have a reading
abbrev pub file_by : Words → Contents → FileKind → Reading (List ℕ)
file_by words contents kind.Scenario = Reads words.scenario_file
file_by words contents kind.Params = do
  scenario ← scenario_reading words.scenario_file words.draft contents
  Reads scenario.paramfile
file_by words contents kind.Instances = do
  scenario ← scenario_reading words.scenario_file words.draft contents
  space ← space_reading scenario.paramfile contents
  Reads scenario.instance_file

-- the same by the words of a call
abbrev pub file_name : List (List ℕ) → Contents → FileKind → Reading (List ℕ)
file_name words contents kind = words_reading (words_read words) >>= λ call. file_by call contents kind

-- where files tell what they hold, it has this value by this reading
abbrev pub Gives : {A : Type 0} → (Contents → Reading A) → FilesTold → A → Type 0
Gives reading files value = IfSome files.contents (λ contents. reading contents ≡ Reads value)
