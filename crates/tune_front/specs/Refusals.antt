-- Why words and files make no task, and how that is said.
use Rattle.std.specs.Prelude.{ℕ, ◌≡◌, List, Option, Some, IfSome}
use Rattle.outside.specs.Counts.{Rose}
use Rattle.outside.specs.ToldStates.{FilesTold, SinkTold}
use Rattle.scenario_files.specs.declared.call.Words.{Words}
use Rattle.scenario_files.specs.declared.faults.WordFault.{WordFault}
use Rattle.scenario_files.specs.declared.faults.WordFault.TheVariants as word_fault
use Rattle.scenario_files.specs.declared.filling.Scenario.{Scenario}
use Rattle.tune_front.specs.RefusalLines.{no_memory_line, usage_line, bad_file_line, read_fault_line}
use Rattle.tune_front.specs.SaidTexts.{Said, Reported}
use Rattle.tune_front.specs.Readings.{Contents, Reading, Reads, Bad, Gives, space_reading, file_by, ◌>>=◌}
use Rattle.tune_front.specs.declared.reading.faults.FileFault.{FileFault}
use Rattle.tune_front.specs.declared.reading.refusal.Refusal.{Refusal}
use Rattle.tune_front.specs.declared.reading.refusal.Refusal.TheVariants.{BadFile, ReadFault, Memory}
use Rattle.tune_front.specs.declared.status.FileKind.{FileKind}
use Rattle.tune_front.specs.declared.status.FileKind.TheVariants as kind
use Rattle.tune_front.specs.declared.status.Status.{Status}
use Rattle.tune_front.specs.declared.status.Status.TheVariants as status

-- why a reading of files, which told this before and after it, was refused: what they hold has a fault by it, or the read of a
-- file that has this name failed
abbrev pub IsCause : {A : Type 0} → (Contents → Reading A) → (FileKind → List ℕ → Type 0) → FilesTold → FilesTold → Refusal → Type 0
IsCause reading IsName files files' (BadFile kind name line what) =
    IfSome files.contents (λ contents. reading contents ≡ Bad kind name line what)
IsCause reading IsName files files' (ReadFault kind name) = Rose files.faults files'.faults × IsName kind name
IsCause reading IsName files files' Memory = Unit {0}

-- the file of this kind has this name
pub record IsFile (kind : FileKind) (name : List ℕ) (kind' : FileKind) (name' : List ℕ) : Type 0 where
  pub same_kind : kind' ≡ kind
  pub same_name : name' ≡ name

-- the file of this kind and name is refused for this fault; None stands for want of memory
abbrev pub IsRefusedFor : Refusal → FileKind → List ℕ → Option FileFault → Type 0
IsRefusedFor (BadFile kind name line what) kind' name' fault = IsFile kind' name' kind name × (fault ≡ Some (record { line = line; what = what }))
IsRefusedFor (ReadFault kind name) kind' name' fault = ⊥
IsRefusedFor Memory kind' name' fault = Unit {0}

-- by these words the file of this kind is to be read next, and has this name
abbrev pub IsNext : Words → FilesTold → FileKind → List ℕ → Type 0
IsNext words files kind name = IfSome files.contents (λ contents. file_by words contents kind ≡ Reads name)

-- by this scenario the file of this kind is to be read next, and has this name
abbrev pub IsNextIn : Scenario → FilesTold → FileKind → List ℕ → Type 0
IsNextIn scenario files kind.Scenario name = ⊥
IsNextIn scenario files kind.Params name = name ≡ scenario.paramfile
IsNextIn scenario files kind.Instances name =
    Gives (λ contents. space_reading scenario.paramfile contents >>= λ space. Reads scenario.instance_file) files name

-- a refusal of words is said
abbrev pub ReportsMisuse : WordFault → SinkTold → SinkTold → Status → Type 0
ReportsMisuse (word_fault.At place) out out' result = Reported out out' result (status.Usage place) (usage_line place)
ReportsMisuse word_fault.Memory out out' result = Said out out' status.NoMemory result no_memory_line

-- a refusal of files is said
abbrev pub ReportsRefusal : Refusal → SinkTold → SinkTold → Status → Type 0
ReportsRefusal (BadFile kind name line what) out out' result = Reported out out' result (status.BadFile kind line what) (bad_file_line name line what)
ReportsRefusal (ReadFault kind name) out out' result = Reported out out' result (status.ReadFault kind) (read_fault_line name)
ReportsRefusal Memory out out' result = Said out out' status.NoMemory result no_memory_line
