-- How many keys a draft has, and how many words were taken.
use Rattle.std.specs.Prelude.{ℕ, ◌≡◌, ◌+◌, ◌*◌, ◌-◌, ◌<◌, ◌≤◌, ◌^◌, Bool, true, false, List, [], ◌∷◌, Option, Some, None, Result, Ok, Err, ok_or, length, map, bytes_eq, codes, refl}
use Rattle.std.specs.Option.{is_some}
use Rattle.std.proofs.Common.{cond, ap, sym, ◌∙◌, arith}
use Rattle.objective.specs.Limits
use Rattle.plain_text.specs.Parts.{after_prefix}
use Rattle.plain_text.specs.Results.{◌>>=◌}
use Rattle.scenario_files.specs.declared.call.Given.{Given}
use Rattle.scenario_files.specs.declared.draft.Draft.{Draft}
use Rattle.scenario_files.specs.declared.faults.ScenarioWhat.{ScenarioWhat}
use Rattle.scenario_files.specs.declared.faults.ScenarioWhat.TheVariants.{Twice, UnknownKey}
use Rattle.scenario_files.specs.declared.keys.Key.{Key}
use Rattle.scenario_files.specs.declared.keys.Key.TheVariants.{Algo, Execdir, Deterministic, RunObj, OverallObj, CutoffTime, CutoffLength, TunerTimeout, Paramfile, Outdir, ValidN, InstanceFile, TestInstanceFile, Approach, N, NumRun, MaxComparisons, Workers, R, S, PRestart, CapFloor, PairOrder}
use Rattle.scenario_files.specs.Drafts.{has_key, with_value, with_key, with_name}
use Rattle.scenario_files.specs.Keys.{keys, key_of}
use Rattle.scenario_files.specs.Values.{text_of, flag_of, run_obj_of, overall_of, approach_of, pair_order_of, count_within, cutoff_length_of, time_within, share_of}
use Rattle.scenario_files.specs.Words.{no_words, with_file, with_key_word, with_pair}

-- one where it is true
abbrev pub bit : Bool → ℕ
bit b = cond b 1 0

-- how many are true
abbrev pub bits : List Bool → ℕ
bits [] = 0
bits (b ∷ bs) = bit b + bits bs

bits_few : (bs : List Bool) → bits bs ≤ length bs
bits_few [] = omega arith
bits_few (true ∷ bs) = omega (arith, bits_few bs)
bits_few (false ∷ bs) = omega (arith, bits_few bs)

-- how many keys a draft has
unfoldable pub count : Draft → ℕ
count d = bits (map (has_key d) keys)

count_few : (d : Draft) → count d ≤ 23
unfolding count
count_few d = bits_few (map (has_key d) keys)

-- a value that is read gives one key more
one_more : {A : Type 0} (d e : Draft) (r : Result A ScenarioWhat) (f : A → Draft) → ((x : A) → count (f x) ≡ count d + 1) → (r >>= λ x. Ok (f x)) ≡ Ok e → count e ≡ count d + 1
one_more d e (Err what) f more h = absurd (cc)
one_more d e (Ok x) f more h = let same : f x ≡ e = cc in ap count (sym same) ∙ more x

value_more : (d e : Draft) (k : Key) (text : List ℕ) → has_key d k ≡ false → with_value d k text ≡ Ok e → count e ≡ count d + 1
unfolding count with_value
value_more d e Algo text free h = let zero : bit (is_some d.algo) ≡ 0 = ap bit free in one_more d e (text_of text) (λ x. record d { algo = Some x }) (λ x. omega (arith, zero)) h
value_more d e Execdir text free h = let zero : bit (is_some d.execdir) ≡ 0 = ap bit free in one_more d e (text_of text) (λ x. record d { execdir = Some x }) (λ x. omega (arith, zero)) h
value_more d e Deterministic text free h = let zero : bit (is_some d.deterministic) ≡ 0 = ap bit free in one_more d e (flag_of text) (λ x. record d { deterministic = Some x }) (λ x. omega (arith, zero)) h
value_more d e RunObj text free h = let zero : bit (is_some d.run_obj) ≡ 0 = ap bit free in one_more d e (run_obj_of text) (λ x. record d { run_obj = Some x }) (λ x. omega (arith, zero)) h
value_more d e OverallObj text free h = let zero : bit (is_some d.overall_obj) ≡ 0 = ap bit free in one_more d e (overall_of text) (λ x. record d { overall_obj = Some x }) (λ x. omega (arith, zero)) h
value_more d e CutoffTime text free h = let zero : bit (is_some d.cutoff_time) ≡ 0 = ap bit free in one_more d e (time_within 1 Limits.max_cutoff text) (λ x. record d { cutoff_time = Some x }) (λ x. omega (arith, zero)) h
value_more d e CutoffLength text free h = let zero : bit (is_some d.cutoff_length) ≡ 0 = ap bit free in one_more d e (cutoff_length_of text) (λ x. record d { cutoff_length = Some x }) (λ x. omega (arith, zero)) h
value_more d e TunerTimeout text free h = let zero : bit (is_some d.tuner_timeout) ≡ 0 = ap bit free in one_more d e (Ok text) (λ x. record d { tuner_timeout = Some x }) (λ x. omega (arith, zero)) h
value_more d e Paramfile text free h = let zero : bit (is_some d.paramfile) ≡ 0 = ap bit free in one_more d e (text_of text) (λ x. record d { paramfile = Some x }) (λ x. omega (arith, zero)) h
value_more d e Outdir text free h = let zero : bit (is_some d.outdir) ≡ 0 = ap bit free in one_more d e (Ok text) (λ x. record d { outdir = Some x }) (λ x. omega (arith, zero)) h
value_more d e ValidN text free h = let zero : bit (is_some d.valid_n) ≡ 0 = ap bit free in one_more d e (Ok text) (λ x. record d { valid_n = Some x }) (λ x. omega (arith, zero)) h
value_more d e InstanceFile text free h = let zero : bit (is_some d.instance_file) ≡ 0 = ap bit free in one_more d e (text_of text) (λ x. record d { instance_file = Some x }) (λ x. omega (arith, zero)) h
value_more d e TestInstanceFile text free h = let zero : bit (is_some d.test_instance_file) ≡ 0 = ap bit free in one_more d e (text_of text) (λ x. record d { test_instance_file = Some x }) (λ x. omega (arith, zero)) h
value_more d e Approach text free h = let zero : bit (is_some d.approach) ≡ 0 = ap bit free in one_more d e (approach_of text) (λ x. record d { approach = Some x }) (λ x. omega (arith, zero)) h
value_more d e N text free h = let zero : bit (is_some d.n) ≡ 0 = ap bit free in one_more d e (count_within 1 Limits.max_runs text) (λ x. record d { n = Some x }) (λ x. omega (arith, zero)) h
value_more d e NumRun text free h = let zero : bit (is_some d.num_run) ≡ 0 = ap bit free in one_more d e (count_within 0 (2 ^ 32 - 1) text) (λ x. record d { num_run = Some x }) (λ x. omega (arith, zero)) h
value_more d e MaxComparisons text free h = let zero : bit (is_some d.max_comparisons) ≡ 0 = ap bit free in one_more d e (count_within 0 Limits.max_comparisons text) (λ x. record d { max_comparisons = Some x }) (λ x. omega (arith, zero)) h
value_more d e Workers text free h = let zero : bit (is_some d.workers) ≡ 0 = ap bit free in one_more d e (count_within 1 Limits.max_workers text) (λ x. record d { workers = Some x }) (λ x. omega (arith, zero)) h
value_more d e R text free h = let zero : bit (is_some d.r) ≡ 0 = ap bit free in one_more d e (count_within 0 Limits.max_initial text) (λ x. record d { r = Some x }) (λ x. omega (arith, zero)) h
value_more d e S text free h = let zero : bit (is_some d.s) ≡ 0 = ap bit free in one_more d e (count_within 1 Limits.max_strength text) (λ x. record d { s = Some x }) (λ x. omega (arith, zero)) h
value_more d e PRestart text free h = let zero : bit (is_some d.p_restart) ≡ 0 = ap bit free in one_more d e (share_of text) (λ x. record d { p_restart = Some x }) (λ x. omega (arith, zero)) h
value_more d e CapFloor text free h = let zero : bit (is_some d.cap_floor) ≡ 0 = ap bit free in one_more d e (time_within 1 (2 ^ 64 - 1) text) (λ x. record d { cap_floor = Some x }) (λ x. omega (arith, zero)) h
value_more d e PairOrder text free h = let zero : bit (is_some d.pair_order) ≡ 0 = ap bit free in one_more d e (pair_order_of text) (λ x. record d { pair_order = Some x }) (λ x. omega (arith, zero)) h

key_more : (d e : Draft) (k : Key) (text : List ℕ) → with_key d k text ≡ Ok e → count e ≡ count d + 1
key_more d e k text h = by (has_key d k) refl h
  where
    by : (b : Bool) → has_key d k ≡ b → cond b (Err Twice) (with_value d k text) ≡ Ok e → count e ≡ count d + 1
    by true is h = absurd (cc)
    by false is h = value_more d e k text is h

name_more : (d e : Draft) (name text : List ℕ) → with_name d name text ≡ Ok e → count e ≡ count d + 1
name_more d e name text h = by (key_of name) h
  where
    by : (k : Option Key) → (ok_or k UnknownKey >>= λ k. with_key d k text) ≡ Ok e → count e ≡ count d + 1
    by None h = absurd (cc)
    by (Some k) h = key_more d e k text h

-- how many pairs were given
unfoldable pub pairs : Given → ℕ
pairs g = bit (is_some g.file) + count g.draft

-- twice as many words, which are few
abbrev pub IsPosition : ℕ → Given → Type 0
IsPosition position g = position ≡ 2 * pairs g

pub none_taken : (g : Given) → g ≡ no_words → IsPosition 0 g
unfolding pairs count
none_taken g e = rw e refl

pub pairs_few : (g : Given) → pairs g ≤ 24
unfolding pairs
pairs_few g = by (is_some g.file)
  where
    by : (b : Bool) → bit b + count g.draft ≤ 24
    by true = omega (arith, count_few g.draft)
    by false = omega (arith, count_few g.draft)

key_word_more : (g h : Given) (word value : List ℕ) → with_key_word g word value ≡ Ok h → pairs h ≡ pairs g + 1
unfolding pairs
key_word_more g h word value e = by (after_prefix (codes "-") word) e
  where
    read : (name : List ℕ) (r : Result Draft ScenarioWhat) → with_name g.draft name value ≡ r → (r >>= λ d. Ok (record g { draft = d })) ≡ Ok h → bit (is_some h.file) + count h.draft ≡ bit (is_some g.file) + count g.draft + 1
    read name (Err what) is e = absurd (cc)
    read name (Ok d) is e =
        let same : record g { draft = d } ≡ h = cc in
        ap (λ x. bit (is_some x.file) + count x.draft) (sym same) ∙ (let more = name_more g.draft d name value is in omega (arith, more))

    by : (o : Option (List ℕ)) → (ok_or o UnknownKey >>= λ name. with_name g.draft name value >>= λ d. Ok (record g { draft = d })) ≡ Ok h → bit (is_some h.file) + count h.draft ≡ bit (is_some g.file) + count g.draft + 1
    by None e = absurd (cc)
    by (Some name) e = read name (with_name g.draft name value) refl e

file_more : (g h : Given) (value : List ℕ) → with_file g value ≡ Ok h → pairs h ≡ pairs g + 1
unfolding pairs
file_more g h value e = by (is_some g.file) refl e
  where
    read : bit (is_some g.file) ≡ 0 → (r : Result (List ℕ) ScenarioWhat) → (r >>= λ name. Ok (record g { file = Some name })) ≡ Ok h → bit (is_some h.file) + count h.draft ≡ bit (is_some g.file) + count g.draft + 1
    read zero (Err what) e = absurd (cc)
    read zero (Ok name) e = let same : record g { file = Some name } ≡ h = cc in ap (λ x. bit (is_some x.file) + count x.draft) (sym same) ∙ omega (arith, zero)

    by : (b : Bool) → is_some g.file ≡ b → cond b (Err Twice) (text_of value >>= λ name. Ok (record g { file = Some name })) ≡ Ok h → bit (is_some h.file) + count h.draft ≡ bit (is_some g.file) + count g.draft + 1
    by true is e = absurd (cc)
    by false is e = read (ap bit is) (text_of value) e

-- a pair that is taken is one more
pub pair_more : (g h : Given) (word value : List ℕ) → with_pair g word value ≡ Ok h → pairs h ≡ pairs g + 1
unfolding with_pair
pair_more g h word value e = by (bytes_eq word (codes "-scenariofile")) e
  where
    by : (b : Bool) → cond b (with_file g value) (with_key_word g word value) ≡ Ok h → pairs h ≡ pairs g + 1
    by true e = file_more g h value e
    by false e = key_word_more g h word value e

-- two more words
pub two_taken : (position : ℕ) (g h : Given) (word value : List ℕ) → IsPosition position g → with_pair g word value ≡ Ok h → IsPosition (position + 2) h
two_taken position g h word value is e = let more = pair_more g h word value e in omega (arith, is, more)

-- the positions of key words are few
pub position_few : (position : ℕ) (g : Given) → IsPosition position g → position < 2 ^ 32
position_few position g is = omega (arith, is, pairs_few g)
