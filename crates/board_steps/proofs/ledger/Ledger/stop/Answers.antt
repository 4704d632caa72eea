use Rattle.std.proofs.Common.{Bool, false, ◌≡◌, ap, ◌∙◌, subst}
use Rattle.std.specs.Vec.{vec_capacity}
use Rattle.indexmap.specs.IndexSet.{spare}
use Rattle.board_steps.specs.Ledgers.{HasRoom}
use Rattle.board_steps.proofs.Rooms.{room_stopped}
use Rattle.board_steps.proofs.ledger.Ledger.stop.Goals as goal

pub invariant_of-self : goal.invariant_of-self
invariant_of-self c =
    let l = c.self.inside in
    let running : l.stopped ≡ false = ap (λ s. s.stopped) c.self.view_is ∙ c.requires in
    let P : Bool → Type 0 = λ stopped. HasRoom (vec_capacity l.journal) (spare l.lost_ahead) l.live.items l.next stopped l.journal.items in
    let room = room_stopped _ _ _ _ _ (subst P running c.self.invariant) in
    rw (c.push_reserved.ensures.capacity, c.push_reserved.ensures.items, c.mark_live.ensures) room
