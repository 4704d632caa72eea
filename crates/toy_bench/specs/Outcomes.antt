-- What the runs of a toy come to.
use Rattle.std.specs.Prelude.{ℕ, ◌+◌, ◌*◌, ◌%◌, List, ◌++◌, map, codes, nat_le, if◌then◌else◌}
use Rattle.std.specs.Fmt.{decimal}
use Rattle.objective.specs.declared.Outcome.{Outcome}
use Rattle.objective.specs.declared.Outcome.TheVariants.{Solved, Unsolved}
use Rattle.param_space.specs.Settings.{settings_text}
use Rattle.wrapper_lines.specs.declared.runs.Key.{Key}
use Rattle.wrapper_lines.specs.declared.runs.Setting.{Setting}
use Rattle.toy_bench.specs.Hashes.{hash_of}

-- settings as they are printed
abbrev pub printed : List Setting → List ℕ
printed settings = settings_text (map (λ s. (s.name, s.value)) settings)

-- the instance, its specifics, the seed and the settings, parted by one space
abbrev pub key_text : Key → List ℕ
key_text key = key.instance ++ (codes " " ++ (key.specifics ++ (codes " " ++ (decimal key.seed ++ (codes " " ++ printed key.settings)))))

-- how long a run of these settings takes that has this hash: what the settings take, and what is by chance
abbrev pub milliseconds : ℕ → ℕ → ℕ
milliseconds settings_hash key_hash = settings_hash % 4000 + key_hash % 2000

-- what a run does that takes so many milliseconds: it is solved within five seconds or never
abbrev pub outcome_after : ℕ → Outcome
outcome_after t = if nat_le t 5000 then Solved (record { 0 = t * 1000 }) else Unsolved

-- what a key's run does with all the time that it wants
abbrev pub toy_outcome : Key → Outcome
toy_outcome key = outcome_after (milliseconds (hash_of (printed key.settings)) (hash_of (key_text key)))

-- how often a key's child is looked at before it has ended
abbrev pub toy_looks : Key → ℕ
toy_looks key = hash_of (key_text key) % 4
