-- What the words of a call give, or the position of the first key word that is wrong.
use Rattle.std.specs.Prelude.{ℕ, ◌+◌, List, [], ◌∷◌, Some, None, Result, Ok, Err, ok_or, bytes_eq, codes, if◌then◌else◌}
use Rattle.std.specs.Option.{is_some}
use Rattle.plain_text.specs.Parts.{after_prefix}
use Rattle.plain_text.specs.Results.{◌>>=◌}
use Rattle.scenario_files.specs.declared.call.Given.{Given}
use Rattle.scenario_files.specs.declared.call.Words.{Words}
use Rattle.scenario_files.specs.declared.faults.ScenarioWhat.{ScenarioWhat}
use Rattle.scenario_files.specs.declared.faults.ScenarioWhat.TheVariants.{UnknownKey, Twice}
use Rattle.scenario_files.specs.Drafts.{no_keys, with_name}
use Rattle.scenario_files.specs.Values.{text_of}

-- no word so far
abbrev pub no_words : Given
no_words = record { file = None; draft = no_keys }

-- a name for the file, where none came before
abbrev pub with_file : Given → List ℕ → Result Given ScenarioWhat
with_file g value = if is_some g.file then Err Twice else text_of value >>= λ name. Ok (record g { file = Some name })

-- a value for the key of what follows the dash
abbrev pub with_key_word : Given → List ℕ → List ℕ → Result Given ScenarioWhat
with_key_word g word value = do
  name ← ok_or (after_prefix (codes "-") word) UnknownKey
  d ← with_name g.draft name value
  Ok (record g { draft = d })

-- one more pair of a key word and a value
unfoldable pub with_pair : Given → List ℕ → List ℕ → Result Given ScenarioWhat
with_pair g word value = if bytes_eq word (codes "-scenariofile") then with_file g value else with_key_word g word value

-- a reading of the pair at this position: its fault is the position
abbrev pub at_position : {A : Type 0} → ℕ → Result A ScenarioWhat → Result A ℕ
at_position position (Ok x) = Ok x
at_position position (Err what) = Err position

-- all that was given before a position, where the file's name came
abbrev pub words_before : ℕ → Given → Result Words ℕ
words_before position g = ok_or g.file position >>= λ name. Ok (record { scenario_file = name; draft = g.draft })

-- what is given with the words from a position on
unfoldable pub with_words : ℕ → Given → List (List ℕ) → Result Words ℕ
with_words position g [] = words_before position g
with_words position g (word ∷ []) = Err position
with_words position g (word ∷ value ∷ later) = at_position position (with_pair g word value) >>= λ h. with_words (position + 2) h later

-- what words give, or the position of their first fault
abbrev pub words_read : List (List ℕ) → Result Words ℕ
words_read words = with_words 0 no_words words
