-- The live tickets that were asked for: the verdict on the present ask needs their runs.
use Rattle.std.specs.Prelude.{ℕ, ◌≡◌, ◌<◌, List, All, length}
use Rattle.ils_face.specs.declared.asks.Reply.{Reply}
use Rattle.ils_face.specs.Rules.{Rules}
use Rattle.ils_face.specs.Views.{View}
use Rattle.capping.specs.declared.verdicts.Verdict.{Verdict}
use Rattle.capping.specs.declared.verdicts.Verdict.TheVariants as verdict
use Rattle.board_steps.specs.declared.tickets.Kind.TheVariants.{Asked}
use Rattle.board_steps.specs.declared.tickets.Ticket.{Ticket}
use Rattle.board_steps.specs.Boards.{PlainBoard}
use Rattle.board_steps.specs.Numbering.{tickets_of}
use Rattle.board_steps.specs.BoardVerdicts.{config_of, ask_on, verdict_on}

-- the run is of a configuration at this place, under this cutoff
pub record IsRunAt (θ : List ℕ) (place cutoff : ℕ) (t : Ticket) : Type 0 where
  pub config : t.cell.config ≡ θ
  pub at : t.cell.place ≡ place
  pub under : t.run.cutoff.0 ≡ cutoff

-- the run is of a configuration at a higher place than this
pub record IsAbove (θ : List ℕ) (place : ℕ) (t : Ticket) : Type 0 where
  pub config : t.cell.config ≡ θ
  pub above : place < t.cell.place

-- a verdict on an ask of this configuration needs the run, or the walk comes to an abort at a lower place
abbrev pub IsWanted : Verdict → List ℕ → Ticket → Type 0
IsWanted (verdict.Reply r) θ t = ⊥
IsWanted (verdict.Need place cutoff) θ t = IsRunAt θ place cutoff.0 t
IsWanted (verdict.Aborted place) θ t = IsAbove θ place t
IsWanted verdict.Ended θ t = ⊥

module _ (shown : Rules → List Reply → View) where
  -- the ticket was taken at the present ask, and its run is wanted there
  pub record IsAskedFor (b : PlainBoard) (t : Ticket) : Type 0 where
    pub place : t.place ≡ length b.replies
    pub wanted : IsWanted (verdict_on shown b) (config_of (ask_on shown b)) t

  -- where the ticket was asked for, it is for the present ask
  abbrev pub IfAsked : PlainBoard → Ticket → Type 0
  IfAsked b t = t.kind ≡ Asked → IsAskedFor b t

  -- each live ticket that was asked for is for the present ask
  pub record AreAsked (b : PlainBoard) : Type 0 where
    pub each : All (IfAsked b) (tickets_of b.live)
