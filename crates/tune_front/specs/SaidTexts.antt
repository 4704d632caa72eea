-- What comes of a text that is to be written.
use Rattle.std.specs.Prelude.{ℕ, ◌≡◌, List}
use Rattle.outside.specs.ToldStates.{SinkTold}
use Rattle.outside.specs.WholePieces.{Took, TookPartOf, WroteBadly}
use Rattle.tune_front.specs.RefusalLines.{no_memory_line}
use Rattle.tune_front.specs.declared.status.Status.{Status}
use Rattle.tune_front.specs.declared.status.Status.TheVariants as status

-- the text was written whole and nothing else, or a first part of it with the status that says why
pub data Said (out out' : SinkTold) (end result : Status) (text : List ℕ) : Type 0 where
  whole : result ≡ end → Took out out' text → Said out out' end result text
  unwritten : result ≡ status.WriteFault → TookPartOf out out' text → WroteBadly out out' → Said out out' end result text
  no_memory : result ≡ status.NoMemory → TookPartOf out out' text → Said out out' end result text

-- a call that is to end with a text says it, or that there is no memory
pub data Reported (out out' : SinkTold) (result end : Status) (text : List ℕ) : Type 0 where
  made : Said out out' end result text → Reported out out' result end text
  not_made : Said out out' status.NoMemory result no_memory_line → Reported out out' result end text
