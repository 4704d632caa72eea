-- Values and keys that are read lie within their limits.
use Rattle.std.specs.Prelude.{ℕ, ◌≡◌, ◌≤◌, ◌^◌, ◌-◌, ◌/◌, ◌%◌, ◌==◌, ◌&&◌, Bool, true, false, List, Option, Some, None, Result, Ok, Err, ok_or, nat_le, nat_lt, length, refl, codes, bytes_eq}
use Rattle.std.specs.Char.{is_ascii_digit}
use Rattle.std.specs.List.{list_all}
use Rattle.std.specs.Str.Parse.{digits_value}
use Rattle.std.proofs.Common.{cond, arith, subst}
use Rattle.std.proofs.lemmas.Bool.Decides.{nat_tests}
use Rattle.objective.specs.Limits
use Rattle.objective.specs.declared.Micros.{Micros}
use Rattle.plain_text.specs.Results.{◌>>=◌}
use Rattle.plain_text.specs.Times.{micros_read}
use Rattle.plain_text.specs.Words.{is_blank}
use Rattle.scenario_files.specs.declared.draft.Draft.{Draft}
use Rattle.scenario_files.specs.declared.faults.ScenarioWhat.{ScenarioWhat}
use Rattle.scenario_files.specs.declared.faults.ScenarioWhat.TheVariants.{Twice, UnknownKey, BadValue, OutOfRange}
use Rattle.scenario_files.specs.declared.keys.Key.{Key}
use Rattle.scenario_files.specs.declared.keys.Key.TheVariants.{Algo, Execdir, Deterministic, RunObj, OverallObj, CutoffTime, CutoffLength, TunerTimeout, Paramfile, Outdir, ValidN, InstanceFile, TestInstanceFile, Approach, N, NumRun, MaxComparisons, Workers, R, S, PRestart, CapFloor, PairOrder}
use Rattle.scenario_files.specs.Drafts.{no_keys, has_key, with_value, with_key, with_name}
use Rattle.scenario_files.specs.Keys.{key_of}
use Rattle.scenario_files.specs.Limits.{max_length}
use Rattle.scenario_files.specs.Ranges.{IsFrom, IsTime, IsFilled, AreWithin}
use Rattle.scenario_files.specs.Values.{text_of, flag_of, run_obj_of, overall_of, approach_of, pair_order_of, number_within, count_within, cutoff_length_of, decimal_of, micros_within, time_within, share_from, share_of}

-- the value of equal readings
pub same_ok : {A E : Type 0} (x y : A) → ◌≡◌ {A = Result A E} (Ok x) (Ok y) → x ≡ y
same_ok x y e = cc

-- ---- values

pub text_within : (text x : List ℕ) → text_of text ≡ Ok x → IsFilled x
text_within text x h = by (list_all is_blank text) refl h
  where
    by : (b : Bool) → list_all is_blank text ≡ b → cond b (Err BadValue) (Ok text) ≡ Ok x → IsFilled x
    by true is h = absurd (cc)
    by false is h = subst IsFilled (same_ok text x h) is

tested : (low high n : ℕ) → (nat_le low n && nat_le n high) ≡ true → IsFrom low high n
tested low high n h = grind (arith, nat_tests)

number_is_within : (low high n x : ℕ) → number_within low high n ≡ Ok x → IsFrom low high x
number_is_within low high n x h = by (nat_le low n && nat_le n high) refl h
  where
    by : (b : Bool) → (nat_le low n && nat_le n high) ≡ b → cond b (Ok n) (Err OutOfRange) ≡ Ok x → IsFrom low high x
    by false is h = absurd (cc)
    by true is h = subst (IsFrom low high) (same_ok n x h) (tested low high n is)

pub count_is_within : (low high : ℕ) (text : List ℕ) (x : ℕ) → count_within low high text ≡ Ok x → IsFrom low high x
count_is_within low high text x h = by (list_all is_ascii_digit text && nat_lt 0 (length text)) h
  where
    by : (b : Bool) → cond b (number_within low high (digits_value 10 text)) (Err BadValue) ≡ Ok x → IsFrom low high x
    by false h = absurd (cc)
    by true h = number_is_within low high (digits_value 10 text) x h

pub length_within : (text : List ℕ) (x : ℕ) → cutoff_length_of text ≡ Ok x → IsFrom 0 max_length x
length_within text x h = by (bytes_eq text (codes "max")) h
  where
    by : (b : Bool) → cond b (Ok max_length) (count_within 0 max_length text) ≡ Ok x → IsFrom 0 max_length x
    by true h = subst (IsFrom 0 max_length) (same_ok max_length x h) (omega arith, omega arith)
    by false h = count_is_within 0 max_length text x h

pub time_is_within : (low high : ℕ) (text : List ℕ) (x : Micros) → time_within low high text ≡ Ok x → IsTime low high x
time_is_within low high text x h = by (decimal_of (micros_read text)) h
  where
    one : (t : Micros) (b : Bool) → (nat_le low t.0 && nat_le t.0 high) ≡ b → cond b (Ok t) (Err OutOfRange) ≡ Ok x → IsTime low high x
    one t false is h = absurd (cc)
    one t true is h = subst (IsTime low high) (same_ok t x h) (tested low high t.0 is)

    by : (r : Result Micros ScenarioWhat) → (r >>= micros_within low high) ≡ Ok x → IsTime low high x
    by (Err what) h = absurd (cc)
    by (Ok t) h = one t (nat_le low t.0 && nat_le t.0 high) refl h

small_share : (m x : ℕ) → nat_lt 1000000 m ≡ false → m / 100 ≡ x → IsFrom 0 Limits.max_restart x
small_share m x h e = let most : m ≤ 1000000 = grind (arith, nat_tests) in (omega arith, omega (arith, most, e))

pub share_within : (text : List ℕ) (x : ℕ) → share_of text ≡ Ok x → IsFrom 0 Limits.max_restart x
share_within text x h = by (decimal_of (micros_read text)) h
  where
    one : (t : Micros) (b c : Bool) → nat_lt 1000000 t.0 ≡ b → cond b (Err OutOfRange) (cond c (Ok (t.0 / 100)) (Err BadValue)) ≡ Ok x → IsFrom 0 Limits.max_restart x
    one t true c is h = absurd (cc)
    one t false false is h = absurd (cc)
    one t false true is h = small_share t.0 x is (same_ok (t.0 / 100) x h)

    by : (r : Result Micros ScenarioWhat) → (r >>= share_from) ≡ Ok x → IsFrom 0 Limits.max_restart x
    by (Err what) h = absurd (cc)
    by (Ok t) h = one t (nat_lt 1000000 t.0) (t.0 % 100 == 0) refl h

-- ---- keys

-- a draft with a value that was read
read_in : {A : Type 0} (e : Draft) (r : Result A ScenarioWhat) (f : A → Draft) → ((x : A) → r ≡ Ok x → AreWithin (f x)) → (r >>= λ x. Ok (f x)) ≡ Ok e → AreWithin e
read_in e (Err what) f within h = absurd (cc)
read_in e (Ok x) f within h = subst AreWithin (same_ok (f x) e h) (within x refl)

value_within : (d e : Draft) (k : Key) (text : List ℕ) → AreWithin d → with_value d k text ≡ Ok e → AreWithin e
unfolding with_value
value_within d e Algo text w h = read_in e (text_of text) (λ x. record d { algo = Some x }) (λ x is. assumption (text_within text x is)) h
value_within d e Execdir text w h = read_in e (text_of text) (λ x. record d { execdir = Some x }) (λ x is. assumption (text_within text x is)) h
value_within d e Deterministic text w h = read_in e (flag_of text) (λ x. record d { deterministic = Some x }) (λ x is. assumption) h
value_within d e RunObj text w h = read_in e (run_obj_of text) (λ x. record d { run_obj = Some x }) (λ x is. assumption) h
value_within d e OverallObj text w h = read_in e (overall_of text) (λ x. record d { overall_obj = Some x }) (λ x is. assumption) h
value_within d e CutoffTime text w h = read_in e (time_within 1 Limits.max_cutoff text) (λ x. record d { cutoff_time = Some x }) (λ x is. assumption (time_is_within 1 Limits.max_cutoff text x is)) h
value_within d e CutoffLength text w h = read_in e (cutoff_length_of text) (λ x. record d { cutoff_length = Some x }) (λ x is. assumption (length_within text x is)) h
value_within d e TunerTimeout text w h = read_in e (Ok text) (λ x. record d { tuner_timeout = Some x }) (λ x is. assumption) h
value_within d e Paramfile text w h = read_in e (text_of text) (λ x. record d { paramfile = Some x }) (λ x is. assumption (text_within text x is)) h
value_within d e Outdir text w h = read_in e (Ok text) (λ x. record d { outdir = Some x }) (λ x is. assumption) h
value_within d e ValidN text w h = read_in e (Ok text) (λ x. record d { valid_n = Some x }) (λ x is. assumption) h
value_within d e InstanceFile text w h = read_in e (text_of text) (λ x. record d { instance_file = Some x }) (λ x is. assumption (text_within text x is)) h
value_within d e TestInstanceFile text w h = read_in e (text_of text) (λ x. record d { test_instance_file = Some x }) (λ x is. assumption (text_within text x is)) h
value_within d e Approach text w h = read_in e (approach_of text) (λ x. record d { approach = Some x }) (λ x is. assumption) h
value_within d e N text w h = read_in e (count_within 1 Limits.max_runs text) (λ x. record d { n = Some x }) (λ x is. assumption (count_is_within 1 Limits.max_runs text x is)) h
value_within d e NumRun text w h = read_in e (count_within 0 (2 ^ 32 - 1) text) (λ x. record d { num_run = Some x }) (λ x is. assumption (count_is_within 0 (2 ^ 32 - 1) text x is)) h
value_within d e MaxComparisons text w h = read_in e (count_within 0 Limits.max_comparisons text) (λ x. record d { max_comparisons = Some x }) (λ x is. assumption (count_is_within 0 Limits.max_comparisons text x is)) h
value_within d e Workers text w h = read_in e (count_within 1 Limits.max_workers text) (λ x. record d { workers = Some x }) (λ x is. assumption (count_is_within 1 Limits.max_workers text x is)) h
value_within d e R text w h = read_in e (count_within 0 Limits.max_initial text) (λ x. record d { r = Some x }) (λ x is. assumption (count_is_within 0 Limits.max_initial text x is)) h
value_within d e S text w h = read_in e (count_within 1 Limits.max_strength text) (λ x. record d { s = Some x }) (λ x is. assumption (count_is_within 1 Limits.max_strength text x is)) h
value_within d e PRestart text w h = read_in e (share_of text) (λ x. record d { p_restart = Some x }) (λ x is. assumption (share_within text x is)) h
value_within d e CapFloor text w h = read_in e (time_within 1 (2 ^ 64 - 1) text) (λ x. record d { cap_floor = Some x }) (λ x is. assumption (time_is_within 1 (2 ^ 64 - 1) text x is)) h
value_within d e PairOrder text w h = read_in e (pair_order_of text) (λ x. record d { pair_order = Some x }) (λ x is. assumption) h

key_within : (d e : Draft) (k : Key) (text : List ℕ) → AreWithin d → with_key d k text ≡ Ok e → AreWithin e
key_within d e k text w h = by (has_key d k) h
  where
    by : (b : Bool) → cond b (Err Twice) (with_value d k text) ≡ Ok e → AreWithin e
    by true h = absurd (cc)
    by false h = value_within d e k text w h

-- a key keeps a draft within its limits
pub name_within : (d e : Draft) (name text : List ℕ) → AreWithin d → with_name d name text ≡ Ok e → AreWithin e
name_within d e name text w h = by (key_of name) h
  where
    by : (k : Option Key) → (ok_or k UnknownKey >>= λ k. with_key d k text) ≡ Ok e → AreWithin e
    by None h = absurd (cc)
    by (Some k) h = key_within d e k text w h

-- no key is past its limits
pub no_keys_within : AreWithin no_keys
no_keys_within = assumption
