-- A carriage return is left out directly before a line feed, and nowhere else.
use Rattle.std.specs.Prelude.{◌≡◌, [], ◌∷◌, ◌++◌, Some, Ok, refl, codes}
use Rattle.std.specs.Str.{is_utf8, chars}
use Rattle.plain_text.specs.LineFolds.{fold_lines}
use Rattle.plain_text.specs.Lines.{numbered_lines, numbered_from, lines_among}
use Rattle.scenario_files.specs.Drafts.{no_keys, with_value}
use Rattle.scenario_files.specs.Files.{with_line, scenario_read}
use Rattle.scenario_files.specs.Keys.{key_of}

-- before a line feed
pub before_line_feed : scenario_read (codes "outdir = d" ++ (13 ∷ 10 ∷ [])) ≡ Ok (record no_keys { outdir = Some (codes "d") })
unfolding scenario_read fold_lines with_line with_value key_of numbered_lines numbered_from lines_among is_utf8 chars lib.Utf8.encode
before_line_feed = refl

-- at the very end of a file, it belongs to the value
pub at_the_end : scenario_read (codes "outdir = d" ++ (13 ∷ [])) ≡ Ok (record no_keys { outdir = Some (codes "d" ++ (13 ∷ [])) })
unfolding scenario_read fold_lines with_line with_value key_of numbered_lines numbered_from lines_among is_utf8 chars lib.Utf8.encode
at_the_end = refl
