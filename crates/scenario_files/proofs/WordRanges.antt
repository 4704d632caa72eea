-- What words give lies within its limits.
use Rattle.std.specs.Prelude.{ℕ, ◌≡◌, ◌+◌, Bool, true, false, List, [], ◌∷◌, Option, Some, None, Result, Ok, Err, ok_or, IfSome, refl, codes, bytes_eq}
use Rattle.std.specs.Option.{is_some}
use Rattle.std.proofs.Common.{cond, subst}
use Rattle.plain_text.specs.Parts.{after_prefix}
use Rattle.plain_text.specs.Results.{◌>>=◌}
use Rattle.scenario_files.specs.declared.call.Given.{Given}
use Rattle.scenario_files.specs.declared.call.Words.{Words}
use Rattle.scenario_files.specs.declared.draft.Draft.{Draft}
use Rattle.scenario_files.specs.declared.faults.ScenarioWhat.{ScenarioWhat}
use Rattle.scenario_files.specs.declared.faults.ScenarioWhat.TheVariants.{UnknownKey, Twice}
use Rattle.scenario_files.specs.Drafts.{with_name}
use Rattle.scenario_files.specs.Ranges.{IsFilled, AreWithin, AreWordsWithin}
use Rattle.scenario_files.specs.Values.{text_of}
use Rattle.scenario_files.specs.Words.{no_words, with_file, with_key_word, with_pair, at_position, words_before, with_words, words_read}
use Rattle.scenario_files.proofs.ValueRanges.{same_ok, text_within, name_within, no_keys_within}

-- the file's name isn't blank, and the keys so far lie within their limits
record IsGivenWithin (g : Given) : Type 0 where
  file : IfSome g.file IsFilled
  draft : AreWithin g.draft

file_within : (g h : Given) (value : List ℕ) → IsGivenWithin g → with_file g value ≡ Ok h → IsGivenWithin h
file_within g h value w e = by (is_some g.file) e
  where
    read : (r : Result (List ℕ) ScenarioWhat) → text_of value ≡ r → (r >>= λ name. Ok (record g { file = Some name })) ≡ Ok h → IsGivenWithin h
    read (Err what) is e = absurd (cc)
    read (Ok name) is e = subst IsGivenWithin (same_ok (record g { file = Some name }) h e) (record { file = text_within value name is; draft = w.draft })

    by : (b : Bool) → cond b (Err Twice) (text_of value >>= λ name. Ok (record g { file = Some name })) ≡ Ok h → IsGivenWithin h
    by true e = absurd (cc)
    by false e = read (text_of value) refl e

key_word_within : (g h : Given) (word value : List ℕ) → IsGivenWithin g → with_key_word g word value ≡ Ok h → IsGivenWithin h
key_word_within g h word value w e = by (after_prefix (codes "-") word) e
  where
    read : (name : List ℕ) (r : Result Draft ScenarioWhat) → with_name g.draft name value ≡ r → (r >>= λ d. Ok (record g { draft = d })) ≡ Ok h → IsGivenWithin h
    read name (Err what) is e = absurd (cc)
    read name (Ok d) is e = subst IsGivenWithin (same_ok (record g { draft = d }) h e) (record { file = w.file; draft = name_within g.draft d name value w.draft is })

    by : (o : Option (List ℕ)) → (ok_or o UnknownKey >>= λ name. with_name g.draft name value >>= λ d. Ok (record g { draft = d })) ≡ Ok h → IsGivenWithin h
    by None e = absurd (cc)
    by (Some name) e = read name (with_name g.draft name value) refl e

pair_within : (g h : Given) (word value : List ℕ) → IsGivenWithin g → with_pair g word value ≡ Ok h → IsGivenWithin h
unfolding with_pair
pair_within g h word value w e = by (bytes_eq word (codes "-scenariofile")) e
  where
    by : (b : Bool) → cond b (with_file g value) (with_key_word g word value) ≡ Ok h → IsGivenWithin h
    by true e = file_within g h value w e
    by false e = key_word_within g h word value w e

before_within : (position : ℕ) (d : Draft) (file : Option (List ℕ)) (x : Words) → IfSome file IsFilled → AreWithin d → words_before position (record { file = file; draft = d }) ≡ Ok x → AreWordsWithin x
before_within position d None x f w h = absurd (cc)
before_within position d (Some name) x f w h = subst AreWordsWithin (same_ok (record { scenario_file = name; draft = d }) x h) (record { scenario_file = f; draft = w })

all_within : (position : ℕ) (g : Given) (words : List (List ℕ)) (x : Words) → IsGivenWithin g → with_words position g words ≡ Ok x → AreWordsWithin x
unfolding with_words
all_within position g [] x w h = before_within position g.draft g.file x w.file w.draft h
all_within position g (word ∷ []) x w h = absurd (cc)
all_within position g (word ∷ value ∷ later) x w h = by (with_pair g word value) refl h (λ n v. all_within (position + 2) n later x v)
  where
    by : (r : Result Given ScenarioWhat) → with_pair g word value ≡ r → (at_position position r >>= λ n. with_words (position + 2) n later) ≡ Ok x → ((n : Given) → IsGivenWithin n → with_words (position + 2) n later ≡ Ok x → AreWordsWithin x) → AreWordsWithin x
    by (Err what) is h rest = absurd (cc)
    by (Ok n) is h rest = rest n (pair_within g n word value w is) h

-- what words give lies within its limits
pub words_within : (words : List (List ℕ)) (x : Words) → words_read words ≡ Ok x → AreWordsWithin x
words_within words x h = all_within 0 no_words words x (record { file = tt; draft = no_keys_within }) h
