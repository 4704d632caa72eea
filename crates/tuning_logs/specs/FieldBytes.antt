-- Which bytes stand in the fields of a run log.
use Rattle.std.specs.Prelude.{ℕ, ◌==◌, ◌||◌, Bool, not}

-- none of the marks of the format: no comma, no line end
abbrev pub is_setting_byte : ℕ → Bool
is_setting_byte b = not ((b == 44) || (b == 13) || (b == 10))

-- nor a double quote
abbrev pub is_plain : ℕ → Bool
is_plain b = not ((b == 44) || (b == 34) || (b == 13) || (b == 10))
