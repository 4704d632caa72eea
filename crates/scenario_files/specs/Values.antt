-- What the values of keys are read as.
use Rattle.std.specs.Prelude.{ℕ, ◌/◌, ◌%◌, ◌==◌, ◌&&◌, Bool, true, false, List, Result, Ok, Err, nat_lt, nat_le, length, bytes_eq, codes, if◌then◌else◌}
use Rattle.std.specs.Char.{is_ascii_digit}
use Rattle.std.specs.List.{list_all}
use Rattle.std.specs.Str.Parse.{digits_value}
use Rattle.objective.specs.declared.Micros.{Micros}
use Rattle.plain_text.specs.declared.times.TimeFault.{TimeFault}
use Rattle.plain_text.specs.declared.times.TimeFault.TheVariants.{NotDecimal, TooLarge}
use Rattle.plain_text.specs.Results.{◌>>=◌}
use Rattle.plain_text.specs.Times.{micros_read}
use Rattle.plain_text.specs.Words.{is_blank}
use Rattle.scenario_files.specs.Limits.{max_length}
use Rattle.scenario_files.specs.declared.draft.Approach.{Approach}
use Rattle.scenario_files.specs.declared.draft.Approach.TheVariants.{Basic, Focused}
use Rattle.scenario_files.specs.declared.draft.Overall.{Overall}
use Rattle.scenario_files.specs.declared.draft.Overall.TheVariants.{Mean, Mean10, Mean1000}
use Rattle.scenario_files.specs.declared.draft.PairOrder.{PairOrder}
use Rattle.scenario_files.specs.declared.draft.PairOrder.TheVariants.{Shuffled, File}
use Rattle.scenario_files.specs.declared.draft.RunObj.{RunObj}
use Rattle.scenario_files.specs.declared.draft.RunObj.TheVariants.{Runtime}
use Rattle.scenario_files.specs.declared.faults.ScenarioWhat.{ScenarioWhat}
use Rattle.scenario_files.specs.declared.faults.ScenarioWhat.TheVariants.{BadValue, OutOfRange}

-- a text that isn't of blanks alone
abbrev pub text_of : List ℕ → Result (List ℕ) ScenarioWhat
text_of text = if list_all is_blank text then Err BadValue else Ok text

-- `0` or `1`
abbrev pub flag_of : List ℕ → Result Bool ScenarioWhat
flag_of text =
    if bytes_eq text (codes "0") then Ok false
    else if bytes_eq text (codes "1") then Ok true
    else Err BadValue

-- `runtime`
abbrev pub run_obj_of : List ℕ → Result RunObj ScenarioWhat
run_obj_of text = if bytes_eq text (codes "runtime") then Ok Runtime else Err BadValue

-- `mean`, `mean10` or `mean1000`
abbrev pub overall_of : List ℕ → Result Overall ScenarioWhat
overall_of text =
    if bytes_eq text (codes "mean") then Ok Mean
    else if bytes_eq text (codes "mean10") then Ok Mean10
    else if bytes_eq text (codes "mean1000") then Ok Mean1000
    else Err BadValue

-- `basic` or `focused`
abbrev pub approach_of : List ℕ → Result Approach ScenarioWhat
approach_of text =
    if bytes_eq text (codes "basic") then Ok Basic
    else if bytes_eq text (codes "focused") then Ok Focused
    else Err BadValue

-- `shuffled` or `file`
abbrev pub pair_order_of : List ℕ → Result PairOrder ScenarioWhat
pair_order_of text =
    if bytes_eq text (codes "shuffled") then Ok Shuffled
    else if bytes_eq text (codes "file") then Ok File
    else Err BadValue

-- a number within limits
abbrev pub number_within : ℕ → ℕ → ℕ → Result ℕ ScenarioWhat
number_within low high n = if nat_le low n && nat_le n high then Ok n else Err OutOfRange

-- one or more digits, whose number lies within limits
abbrev pub count_within : ℕ → ℕ → List ℕ → Result ℕ ScenarioWhat
count_within low high text =
    if list_all is_ascii_digit text && nat_lt 0 (length text) then number_within low high (digits_value 10 text)
    else Err BadValue

-- `max`, or a count
abbrev pub cutoff_length_of : List ℕ → Result ℕ ScenarioWhat
cutoff_length_of text = if bytes_eq text (codes "max") then Ok max_length else count_within 0 max_length text

-- a reading of a decimal of seconds, with a rule for each of its faults
abbrev pub decimal_of : Result Micros TimeFault → Result Micros ScenarioWhat
decimal_of (Ok t) = Ok t
decimal_of (Err NotDecimal) = Err BadValue
decimal_of (Err TooLarge) = Err OutOfRange

-- a time, where its microseconds lie within limits
abbrev pub micros_within : ℕ → ℕ → Micros → Result Micros ScenarioWhat
micros_within low high t = if nat_le low t.0 && nat_le t.0 high then Ok t else Err OutOfRange

-- a decimal of seconds, rounded up to microseconds that lie within limits
abbrev pub time_within : ℕ → ℕ → List ℕ → Result Micros ScenarioWhat
time_within low high text = decimal_of (micros_read text) >>= micros_within low high

-- millionths of at most one as ten-thousandths, where they are whole
abbrev pub share_from : Micros → Result ℕ ScenarioWhat
share_from t =
    if nat_lt 1000000 t.0 then Err OutOfRange
    else if t.0 % 100 == 0 then Ok (t.0 / 100)
    else Err BadValue

-- a decimal of at most one, rounded up to millionths that are whole ten-thousandths
abbrev pub share_of : List ℕ → Result ℕ ScenarioWhat
share_of text = decimal_of (micros_read text) >>= share_from
