-- A comparison of BasicILS: the second configuration's cost over all runs bounds the first one's, and a tie is won
-- (Hutter et al., JAIR 36).
use Rattle.std.specs.Prelude.{ℕ, Bool, true, false, None, Some}
use Rattle.uncapped.specs.Procedure.{Settings}
use Rattle.ils_face.specs.declared.asks.Reply.{Reply}
use Rattle.ils_face.specs.declared.asks.Reply.TheVariants.{Exact, Exceeds}
use Rattle.ils_frame.specs.Comparers.{AskedStage, Ready, Asking, Decided}

-- how far a comparison is
pub data Phase : Type 0 where
  Opening : Phase  -- the default configuration is to be evaluated
  Opened : Phase  -- nothing was compared yet
  Second : (first second : Settings) → Phase  -- the second one is to be evaluated
  First : (first : Settings) → (bound : ℕ) → Phase  -- then the first one, up to the second one's cost
  Compared : Bool → Phase  -- whether the first one won

-- the evaluation that is asked for
abbrev pub stage_at : ℕ → Settings → Phase → AskedStage
stage_at n incumbent Opening = Asking (record { config = incumbent; places = n; bound = None })
stage_at n incumbent Opened = Ready
stage_at n incumbent (Second first second) = Asking (record { config = second; places = n; bound = None })
stage_at n incumbent (First first bound) = Asking (record { config = first; places = n; bound = Some bound })
stage_at n incumbent (Compared won) = Decided won

-- after a reply: a tie is won, since a cost up to the bound is replied in full, and nothing above it
abbrev pub phase_after : Phase → Reply → Phase
phase_after Opening r = Opened
phase_after Opened r = Opened
phase_after (Second first second) (Exact x) = First first x.0
phase_after (Second first second) Exceeds = Compared false
phase_after (First first bound) (Exact x) = Compared true
phase_after (First first bound) Exceeds = Compared false
phase_after (Compared won) r = Compared won
