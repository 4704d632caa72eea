-- The words of a call, read.
use Rattle.std.specs.Prelude.{◌≡◌, [], ◌∷◌, Some, Ok, Err, refl, codes}
use Rattle.scenario_files.specs.Drafts.{no_keys, with_value}
use Rattle.scenario_files.specs.Keys.{key_of}
use Rattle.scenario_files.specs.Words.{with_pair, with_words, words_read}

-- the file's name and one key
pub words_are_read : words_read (codes "-scenariofile" ∷ codes "s" ∷ codes "-N" ∷ codes "7" ∷ []) ≡ Ok (record { scenario_file = codes "s"; draft = record no_keys { n = Some 7 } })
unfolding with_words with_pair with_value key_of
words_are_read = refl

-- no workers
pub no_workers : words_read (codes "-scenariofile" ∷ codes "s" ∷ codes "-workers" ∷ codes "0" ∷ []) ≡ Err 2
unfolding with_words with_pair with_value key_of
no_workers = refl

-- not even the file's name
pub without_words : words_read [] ≡ Err 0
unfolding with_words
without_words = refl

-- a name for the file that is blank
pub blank_file_name : words_read (codes "-scenariofile" ∷ codes " " ∷ []) ≡ Err 0
unfolding with_words with_pair
blank_file_name = refl
