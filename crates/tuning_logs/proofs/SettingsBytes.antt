-- Which bytes stand in the settings of a configuration.
use Rattle.std.specs.Prelude.{ℕ, ◌≡◌, ◌+◌, Bool, true, false, List, [], ◌∷◌, ◌++◌, codes, All, refl, if◌then◌else◌}
use Rattle.std.specs.List.{list_all, slice_index_or}
use Rattle.std.proofs.lemmas.Bool.{and_parts, and_from}
use Rattle.std.proofs.lemmas.List.Elements.{All-nil, All-cons, All-head, All-tail}
use Rattle.std.proofs.lemmas.List.Sums.{AllPass-from_list_all}
use Rattle.plain_text.specs.Words.{is_word, is_word_byte}
use Rattle.plain_text.proofs.FirstPositions.{list_all-weaker, list_all-joined}
use Rattle.param_space.specs.declared.lists.Param.{Param}
use Rattle.param_space.specs.Space.{Lists, Belongs}
use Rattle.param_space.specs.Faults.{IsSpace}
use Rattle.param_space.specs.Settings.{named_values, at_places, active_values, setting_text, settings_text}
use Rattle.tuning_logs.specs.EntryLines.{settings_of}
use Rattle.tuning_logs.proofs.SpaceWords.{IsOfWords, words_of_space}

-- a name and a value that are words
pub record AreWords (s : List ℕ × List ℕ) : Type 0 where
  pub name : is_word s.0 ≡ true
  pub value : is_word s.1 ≡ true

-- such are all names and values of a configuration
pub named_words : (params : List Param) (config : List ℕ) → All IsOfWords params → Belongs params config → All AreWords (named_values params config)
named_words [] config sound belongs = All-nil AreWords
named_words (p ∷ ps) [] sound belongs = All-nil AreWords
named_words (p ∷ ps) (v ∷ vs) sound belongs =
    let first = All-head IsOfWords p ps sound in
    All-cons AreWords (p.name, slice_index_or p.values v []) (named_values ps vs)
    (record { name = first.name; value = AllPass-from_list_all is_word p.values first.values v [] belongs.0 })
    (named_words ps vs (All-tail IsOfWords p ps sound) belongs.1)

-- an element that is taken or not
All-chosen : {X : Type 0} (P : X → Type 0) (taken : Bool) (x : X) (xs : List X) → P x → All P xs → All P (if taken then x ∷ xs else xs)
All-chosen P true x xs first later = All-cons P x xs first later
All-chosen P false x xs first later = later

-- what holds of all elements holds of those whose places pass
pub All-at_places : {X : Type 0} (P : X → Type 0) (passes : ℕ → Bool) (place : ℕ) (xs : List X) → All P xs → All P (at_places passes place xs)
All-at_places P passes place [] h = All-nil P
All-at_places P passes place (x ∷ later) h =
    All-chosen P (passes place) x (at_places passes (place + 1) later) (All-head P x later h) (All-at_places P passes (place + 1) later (All-tail P x later h))

-- a test that the bytes of words, an equals sign and a space pass
pub record PassesSettings (passes : ℕ → Bool) : Type 0 where
  pub words : (b : ℕ) → is_word_byte b ≡ true → passes b ≡ true
  pub equals : passes 61 ≡ true
  pub space : passes 32 ≡ true

word_passes : (passes : ℕ → Bool) → PassesSettings passes → (word : List ℕ) → is_word word ≡ true → list_all passes word ≡ true
word_passes passes p word h = list_all-weaker is_word_byte passes p.words word (and_parts _ (list_all is_word_byte word) h).1

setting_passes : (passes : ℕ → Bool) → PassesSettings passes → (s : List ℕ × List ℕ) → AreWords s → list_all passes (setting_text s) ≡ true
setting_passes passes p s h =
    list_all-joined passes s.0 (codes "=" ++ s.1) (word_passes passes p s.0 h.name)
    (and_from (passes 61) (list_all passes s.1) p.equals (word_passes passes p s.1 h.value))

settings_pass : (passes : ℕ → Bool) → PassesSettings passes → (settings : List (List ℕ × List ℕ)) → All AreWords settings → list_all passes (settings_text settings) ≡ true
settings_pass passes p [] h = refl
settings_pass passes p (s ∷ []) h = setting_passes passes p s (All-head AreWords s [] h)
settings_pass passes p (s ∷ t ∷ later) h =
    list_all-joined passes (setting_text s) (codes " " ++ settings_text (t ∷ later)) (setting_passes passes p s (All-head AreWords s (t ∷ later) h))
    (and_from (passes 32) (list_all passes (settings_text (t ∷ later))) p.space (settings_pass passes p (t ∷ later) (All-tail AreWords s (t ∷ later) h)))

-- the settings of a configuration are of words, as they are printed
pub active_words : (space : Lists) (config : List ℕ) → IsSpace space → Belongs space.params config → All AreWords (active_values space config)
active_words space config sound belongs = All-at_places AreWords _ 0 (named_values space.params config) (named_words space.params config (words_of_space space sound) belongs)

-- so the bytes of their text pass such a test
pub settings_bytes : (passes : ℕ → Bool) → PassesSettings passes → (space : Lists) (config : List ℕ) → IsSpace space → Belongs space.params config
    → list_all passes (settings_of space config) ≡ true
settings_bytes passes p space config sound belongs = settings_pass passes p (active_values space config) (active_words space config sound belongs)
