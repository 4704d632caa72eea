-- A program's words and those of a child, worked out.
use Rattle.std.specs.Prelude.{◌≡◌, [], ◌∷◌, codes, refl}
use Rattle.std.specs.Fmt.{digits}
use Rattle.wrapper_lines.specs.Runs.{words_of, program_words}

of_program : program_words (codes " sh  run\tfast ") ≡ codes "sh" ∷ codes "run" ∷ codes "fast" ∷ []
of_program = refl

of_child :
    words_of
    (record { words = codes "w" ∷ []; dir = codes "."; cutoff_length = 2147483647 })
    (record { key = record { instance = codes "one"; specifics = codes "0"; seed = 1; settings = record { name = codes "x"; value = codes "a" } ∷ [] }; cutoff = record { 0 = 10000000 } })
    ≡ codes "w" ∷ codes "one" ∷ codes "0" ∷ codes "10.000000" ∷ codes "2147483647" ∷ codes "1" ∷ codes "-x" ∷ codes "a" ∷ []
unfolding digits
of_child = refl
