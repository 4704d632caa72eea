-- Parts of a text: what stands before, between and after other texts.
use Rattle.std.specs.Prelude.{ℕ, ◌-◌, ◌==◌, List, length, take, drop, nat_lt, Option, Some, None, if◌then◌else◌, bytes_eq}
use Rattle.std.specs.List.{before_first, after_first, position_or_len}

-- what follows a text at the head of a list
abbrev pub after_prefix : List ℕ → List ℕ → Option (List ℕ)
after_prefix p xs = if bytes_eq (take (length p) xs) p then Some (drop (length p) xs) else None

-- what stands before a text at the end of a list
abbrev pub before_suffix : List ℕ → List ℕ → Option (List ℕ)
before_suffix p xs =
    if bytes_eq (drop (length xs - length p) xs) p then Some (take (length xs - length p) xs) else None

-- what stands before and after the first byte c, where there is one
abbrev pub parted : ℕ → List ℕ → Option (List ℕ × List ℕ)
parted c xs =
    if nat_lt (position_or_len (λ b. b == c) xs) (length xs)
    then Some (before_first (λ b. b == c) xs, after_first (λ b. b == c) xs)
    else None
