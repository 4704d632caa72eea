-- A scenario of eleven lines, read and filled, and faults of it.
use Rattle.std.specs.Prelude.{ℕ, ◌≡◌, List, ◌++◌, Some, None, Ok, Err, false, refl, codes}
use Rattle.std.specs.Str.{is_utf8, chars}
use Rattle.plain_text.specs.LineFolds.{fold_lines}
use Rattle.plain_text.specs.Lines.{numbered_lines, numbered_from, lines_among}
use Rattle.plain_text.specs.Times.{micros_read, read_parts, shifts, power_shifts, power_size, micros_of, in_range}
use Rattle.scenario_files.specs.declared.draft.Draft.{Draft}
use Rattle.scenario_files.specs.declared.draft.RunObj.TheVariants.{Runtime}
use Rattle.scenario_files.specs.declared.draft.Overall.TheVariants.{Mean}
use Rattle.scenario_files.specs.declared.draft.Approach.TheVariants.{Basic}
use Rattle.scenario_files.specs.declared.draft.PairOrder.TheVariants.{File}
use Rattle.scenario_files.specs.declared.faults.ScenarioWhat.TheVariants.{UnknownKey, OutOfRange, Missing}
use Rattle.scenario_files.specs.declared.filling.Scenario.{Scenario}
use Rattle.scenario_files.specs.Drafts.{no_keys, with_value}
use Rattle.scenario_files.specs.Files.{with_line, scenario_read}
use Rattle.scenario_files.specs.Keys.{key_of}
use Rattle.scenario_files.specs.Scenarios.{scenario_of, filled_scenario}

-- the first line of a scenario
abbrev pub first_line : List ℕ
first_line = codes "algo = w\n"

-- the names of its files
abbrev pub name_lines : List ℕ
name_lines = codes "paramfile = p\ninstance_file = i\n"

-- what follows the cutoff time
abbrev pub search_lines : List ℕ
search_lines = codes "cap_floor = 0.000001\napproach = basic\nN = 2\nr = 0\ns = 1\np_restart = 0\npair_order = file\n"

-- all of it
abbrev pub eleven_lines : List ℕ
eleven_lines = first_line ++ (name_lines ++ (codes "cutoff_time = 10\n" ++ search_lines))

-- what it gives
abbrev pub eleven : Draft
eleven = record no_keys {
  algo = Some (codes "w");
  paramfile = Some (codes "p");
  instance_file = Some (codes "i");
  cutoff_time = Some (record { 0 = 10000000 });
  cap_floor = Some (record { 0 = 1 });
  approach = Some Basic;
  n = Some 2;
  r = Some 0;
  s = Some 1;
  p_restart = Some 0;
  pair_order = Some File;
}

-- the scenario that it is, without words
abbrev pub eleven_filled : Scenario
eleven_filled = record {
  algo = codes "w";
  execdir = codes ".";
  deterministic = false;
  run_obj = Runtime;
  overall_obj = Mean;
  cutoff_time = record { 0 = 10000000 };
  cutoff_length = 2147483647;
  tuner_timeout = None;
  paramfile = codes "p";
  outdir = None;
  valid_n = None;
  instance_file = codes "i";
  test_instance_file = None;
  approach = Basic;
  n = 2;
  num_run = 0;
  max_comparisons = 1000;
  workers = 1;
  r = 0;
  s = 1;
  p_restart = 0;
  cap_floor = record { 0 = 1 };
  pair_order = File;
}

pub eleven_is_read : scenario_read eleven_lines ≡ Ok eleven
unfolding scenario_read fold_lines with_line with_value key_of numbered_lines numbered_from lines_among is_utf8 chars micros_read read_parts shifts power_shifts power_size micros_of in_range lib.Utf8.encode
eleven_is_read = refl

pub eleven_is_filled : filled_scenario eleven no_keys ≡ Ok eleven_filled
unfolding scenario_of
eleven_is_filled = refl

-- no time at all
pub cutoff_of_zero : scenario_read (first_line ++ (name_lines ++ (codes "cutoff_time = 0\n" ++ search_lines))) ≡ Err (record { line = 4; what = OutOfRange })
unfolding scenario_read fold_lines with_line with_value key_of numbered_lines numbered_from lines_among is_utf8 chars micros_read read_parts shifts power_shifts power_size micros_of in_range lib.Utf8.encode
cutoff_of_zero = refl

-- a twelfth line with a key that isn't there
pub unknown_key : scenario_read (eleven_lines ++ codes "speed = 3\n") ≡ Err (record { line = 12; what = UnknownKey })
unfolding scenario_read fold_lines with_line with_value key_of numbered_lines numbered_from lines_among is_utf8 chars micros_read read_parts shifts power_shifts power_size micros_of in_range lib.Utf8.encode
unknown_key = refl

-- without the first line
pub no_algo : filled_scenario (record eleven { algo = None }) no_keys ≡ Err (record { line = 0; what = Missing })
unfolding scenario_of
no_algo = refl

-- words go before the file
pub words_go_first : filled_scenario eleven (record no_keys { n = Some 5 }) ≡ Ok (record eleven_filled { n = 5 })
unfolding scenario_of
words_go_first = refl
