-- A broken rule with its line, and which fault a reading hands on.
use Rattle.std.specs.Prelude.{ℕ, ◌≡◌, Option, Some, None, Result, Ok, Err, IfErr}

-- a broken rule with its line, from 1; 0 for the file as a whole
pub record LineFault (What : Type 0) : Type 0 where
  pub line : ℕ
  pub what : What

-- a reading of a line; its fault gets the line's number
abbrev pub in_line : {A What : Type 0} → ℕ → Result A What → Result A (LineFault What)
in_line line (Ok x) = Ok x
in_line line (Err what) = Err (record { line = line; what = what })

-- the fault that is returned is the one that is found; None stands for want of memory, of which nothing is said
abbrev pub IsFound : {A F : Type 0} → Option F → Result A F → Type 0
IsFound None found = Unit {0}
IsFound (Some fault) found = found ≡ Err fault

-- where the call fails, its error tells of the fault that is found
abbrev pub FailsAs : {A B E F : Type 0} → (E → Option F) → Result A E → Result B F → Type 0
FailsAs told result found = IfErr result (λ e. IsFound (told e) found)
