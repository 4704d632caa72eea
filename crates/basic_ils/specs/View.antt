-- A comparison as it is held in memory, and its state.
use Rattle.std.specs.Prelude.{ℕ, ◌≡◌, []}
use Rattle.uncapped.specs.Procedure.{Settings}
use Rattle.ils_face.specs.Replies.{ask_for}
use Rattle.ils_face.specs.declared.asks.Ask.{Ask}
use Rattle.ils_face.specs.declared.asks.Ask.TheVariants as ask
use Rattle.ils_frame.specs.Comparers.{question_in}
use Rattle.basic_ils.specs.declared.phase.Phase as phase
use Rattle.basic_ils.specs.declared.phase.Phase.TheVariants as held
use Rattle.basic_ils.specs.Comparison.{Phase, Opening, Opened, Second, First, Compared, stage_at}

-- the configuration that is asked for
abbrev pub config_in : Ask → Settings
config_in (ask.Full config n) = config
config_in (ask.Versus config n bound) = config
config_in ask.End = []

-- the bound up to which it is asked for
abbrev pub bound_in : Ask → ℕ
bound_in (ask.Full config n) = 0
bound_in (ask.Versus config n bound) = bound.0
bound_in ask.End = 0

-- the phase with the configuration that is asked for
abbrev pub phase_seen : Ask → phase.Phase → Phase
phase_seen asked held.Opening = Opening
phase_seen asked held.Opened = Opened
phase_seen asked (held.Second first) = Second first (config_in asked)
phase_seen asked held.First = First (config_in asked) (bound_in asked)
phase_seen asked (held.Compared won) = Compared won

-- the open ask is the one that the phase wants
abbrev pub IsAskOf : ℕ → Settings → Ask → Phase → Type 0
IsAskOf n incumbent asked phase = asked ≡ ask_for (question_in (stage_at n incumbent phase))
