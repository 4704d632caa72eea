-- A file of two instances, worked, and the faults of small files.
use Rattle.std.specs.Prelude.{◌≡◌, [], ◌∷◌, ◌++◌, Ok, Err, refl, codes}
use Rattle.std.specs.Str.{is_utf8, chars}
use Rattle.plain_text.specs.LineFolds.{fold_lines}
use Rattle.plain_text.specs.Lines.{numbered_lines, numbered_from, lines_among}
use Rattle.instance_pairs.specs.declared.faults.InstanceWhat.TheVariants.{NotText, NoInstances}
use Rattle.instance_pairs.specs.declared.instances.Instance.{Instance}
use Rattle.instance_pairs.specs.Files.{instance_of, with_line, instances_read}

-- an instance without specifics
abbrev pub one : Instance
one = record { name = codes "one"; specifics = codes "0" }

-- an instance with specifics
abbrev pub two : Instance
two = record { name = codes "two"; specifics = codes "a  b" }

pub two_are_read : instances_read (codes "one \n\n\t two\ta  b \t\r\n \t") ≡ Ok (one ∷ two ∷ [])
unfolding instances_read fold_lines with_line instance_of numbered_lines numbered_from lines_among is_utf8 chars lib.Utf8.encode
two_are_read = refl

pub no_text : instances_read (codes "one\n" ++ 255 ∷ []) ≡ Err (record { line = 2; what = NotText })
unfolding instances_read fold_lines with_line instance_of numbered_lines numbered_from lines_among is_utf8 chars lib.Utf8.encode
no_text = refl

pub blanks_alone : instances_read (codes " \t\n") ≡ Err (record { line = 0; what = NoInstances })
unfolding instances_read fold_lines with_line instance_of numbered_lines numbered_from lines_among is_utf8 chars lib.Utf8.encode
blanks_alone = refl
