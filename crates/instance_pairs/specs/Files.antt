-- The instances of an instance file, or its first fault with its line.
use Rattle.std.specs.Prelude.{ℕ, List, [], ◌∷◌, ◌++◌, Option, Some, None, Result, Ok, Err, nat_lt, length, if◌then◌else◌}
use Rattle.std.specs.Str.{is_utf8}
use Rattle.plain_text.specs.Faults.{LineFault}
use Rattle.plain_text.specs.Limits.{max_bytes}
use Rattle.plain_text.specs.LineFolds.{fold_lines}
use Rattle.plain_text.specs.Lines.{numbered_lines}
use Rattle.plain_text.specs.Results.{◌>>=◌}
use Rattle.plain_text.specs.Trimming.{front_trimmed, end_trimmed, first_word, after_word}
use Rattle.instance_pairs.specs.declared.faults.InstanceWhat.{InstanceWhat}
use Rattle.instance_pairs.specs.declared.faults.InstanceWhat.TheVariants.{NotText, TooMany, NoInstances}
use Rattle.instance_pairs.specs.declared.instances.Instance.{Instance}
use Rattle.instance_pairs.specs.Limits.{max_instances}

-- ---- a line

-- a text, or the digit 0 for an empty one
abbrev pub or_zero : List ℕ → List ℕ
or_zero [] = 48 ∷ []
or_zero (b ∷ later) = b ∷ later

-- the instance of a line that begins with a name; an empty line means nothing
abbrev pub instance_named : List ℕ → Option Instance
instance_named [] = None
instance_named (b ∷ later) = Some (record { name = first_word (b ∷ later); specifics = or_zero (end_trimmed (front_trimmed (after_word (b ∷ later)))) })

-- the instance of a line; a line of blanks alone means nothing
unfoldable pub instance_of : List ℕ → Option Instance
instance_of line = instance_named (front_trimmed line)

-- ---- the file

-- instances and then this one, for which there has to be room
abbrev pub with_instance : List Instance → Option Instance → Result (List Instance) InstanceWhat
with_instance earlier None = Ok earlier
with_instance earlier (Some i) = if nat_lt (length earlier) max_instances then Ok (earlier ++ i ∷ []) else Err TooMany

-- instances and then that of the line with this number, where there is one
unfoldable pub with_line : List Instance → ℕ → List ℕ → Result (List Instance) InstanceWhat
with_line earlier number line = if is_utf8 line then with_instance earlier (instance_of line) else Err NotText

-- one or more instances
abbrev pub some_instances : List Instance → Result (List Instance) (LineFault InstanceWhat)
some_instances [] = Err (record { line = 0; what = NoInstances })
some_instances (i ∷ later) = Ok (i ∷ later)

-- the instances of a file, or its first fault
unfoldable pub instances_read : List ℕ → Result (List Instance) (LineFault InstanceWhat)
instances_read text =
    if nat_lt max_bytes (length text) then Err (record { line = 0; what = TooMany })
    else fold_lines with_line [] (numbered_lines text) >>= some_instances
