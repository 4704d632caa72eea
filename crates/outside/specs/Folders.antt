-- What contracts see of files in memory.
use Rattle.std.specs.Prelude.{ℕ, Bool, ◌||◌, List, ◌∷◌, Option, Some, option_map, is_none, bytes_eq, if◌then◌else◌}
use Rattle.std.specs.List.{find}
use Rattle.outside.specs.Counts.{next_count, is_among}
use Rattle.outside.specs.declared.memory_files.File.{File}

pub record Folder : Type 0 where
  pub files : List File  -- the newest first; of a name the first counts
  pub bad_reads : List ℕ  -- the numbers of the reads that fail
  pub reads : ℕ  -- how many reads there were
  pub faults : ℕ  -- how many reads have failed

-- the bytes of the first file with this name
abbrev pub bytes_of : List File → List ℕ → Option (List ℕ)
bytes_of files name = option_map (λ file. file.bytes) (find (λ file. bytes_eq file.name name) files)

-- the folder with one more file, which comes first
abbrev pub with_file : Folder → List ℕ → List ℕ → Folder
with_file folder name bytes = record folder { files = record { name = name; bytes = bytes } ∷ folder.files }

-- what each name has after this one was given these bytes
abbrev pub bytes_after : Folder → List ℕ → List ℕ → List ℕ → Option (List ℕ)
bytes_after folder name bytes other = if bytes_eq name other then Some bytes else bytes_of folder.files other

-- the read after these was to fail, or there is no file with this name
abbrev pub is_unreadable : Folder → List ℕ → Bool
is_unreadable folder name = is_among (next_count folder.reads) folder.bad_reads || is_none (bytes_of folder.files name)
