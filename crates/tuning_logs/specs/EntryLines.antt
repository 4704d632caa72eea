-- The lines of the incumbents and of an end.
use Rattle.std.specs.Prelude.{ℕ, List, ◌++◌, codes}
use Rattle.std.specs.List.{flat_map}
use Rattle.std.specs.Fmt.{decimal}
use Rattle.plain_text.specs.Decimals.{seconds}
use Rattle.param_space.specs.Space.{Lists}
use Rattle.param_space.specs.Settings.{active_values, settings_text}
use Rattle.uncapped.specs.Procedure.{Incumbent}

-- the settings of a configuration, as they are printed
abbrev pub settings_of : Lists → List ℕ → List ℕ
settings_of space config = settings_text (active_values space config)

-- the comparison number, the runs, the sum in seconds and the settings
abbrev pub entry_line : Lists → Incumbent → List ℕ
entry_line space entry =
    decimal entry.compared ++ (codes " " ++ (decimal entry.runs ++ (codes " " ++ (seconds entry.sum
    ++ (codes " " ++ (settings_of space entry.config ++ codes "\n"))))))

-- the lines of the entries, oldest first
abbrev pub entry_lines : Lists → List Incumbent → List ℕ
entry_lines space entries = flat_map (entry_line space) entries

-- the last line of a tuning that ended
abbrev pub end_line : Lists → Incumbent → List ℕ
end_line space last = codes "end " ++ entry_line space last

-- the lines of the entries, and the last line of a tuning that ended
abbrev pub all_lines : Lists → List Incumbent → Incumbent → List ℕ
all_lines space entries last = entry_lines space entries ++ end_line space last
