-- The tests of sameness are true exactly of equal things.
use Rattle.std.proofs.Common.{◌≡◌, true, false, List, refl, ap}
use Rattle.std.specs.Bool.{Decides}
use Rattle.std.specs.Cmp.Lexicographic.{pointwise}
use Rattle.std.proofs.lemmas.Bool.Decides.{Decides-and, Decides-eqb}
use Rattle.std.proofs.lemmas.Slice.Eq.{bytes_eq-Decides, slice_eq-Decides}
use Rattle.predictor.specs.declared.wish.Wish.{Wish}
use Rattle.wrapper_lines.specs.declared.runs.Setting.{Setting}
use Rattle.wrapper_lines.specs.declared.runs.Key.{Key}
use Rattle.board_steps.specs.declared.tickets.Kind.{Kind}
use Rattle.board_steps.specs.declared.tickets.Kind.TheVariants.{Asked, Ahead}
use Rattle.board_steps.specs.declared.tickets.Ticket.{Ticket}
use Rattle.board_steps.specs.Steps.{same_wish}
use Rattle.board_steps.specs.Tickets.{same_setting, same_key, same_kind, same_ticket}
use Rattle.board_steps.proofs.SameCells.{decides_also, same_cell-Decides}

-- of wishes
pub same_wish-Decides : (one other : Wish) → Decides (same_wish one other) (one ≡ other)
same_wish-Decides one other =
    decides_also (Decides-and _ _ (same_cell-Decides one.cell other.cell) (Decides-eqb one.cutoff.0 other.cutoff.0))
    (λ p i. record { cell = p.0 i; cutoff = record { 0 = p.1 i } }) (λ same. (ap (λ w. w.cell) same, ap (λ w. w.cutoff.0) same))

-- of settings
same_setting-Decides : (one other : Setting) → Decides (same_setting one other) (one ≡ other)
same_setting-Decides one other =
    decides_also (Decides-and _ _ (bytes_eq-Decides one.name other.name) (bytes_eq-Decides one.value other.value))
    (λ p i. record { name = p.0 i; value = p.1 i }) (λ same. (ap (λ s. s.name) same, ap (λ s. s.value) same))

-- of lists of settings
same_settings-Decides : (one other : List Setting) → Decides (pointwise same_setting one other) (one ≡ other)
same_settings-Decides one other = slice_eq-Decides same_setting-Decides one other (pointwise same_setting one other) refl

-- lists of settings that are equal are the same
pub same_settings : (one other : List Setting) → pointwise same_setting one other ≡ true → one ≡ other
same_settings one other = (same_settings-Decides one other).0

-- of keys
pub same_key-Decides : (one other : Key) → Decides (same_key one other) (one ≡ other)
same_key-Decides one other =
    let settings = same_settings-Decides one.settings other.settings in
    let seed = Decides-and _ _ (Decides-eqb one.seed other.seed) settings in
    let specifics = Decides-and _ _ (bytes_eq-Decides one.specifics other.specifics) seed in
    let instance = Decides-and _ _ (bytes_eq-Decides one.instance other.instance) specifics in
    decides_also instance
    (λ p i. record { instance = p.0 i; specifics = p.1.0 i; seed = p.1.1.0 i; settings = p.1.1.1 i })
    (λ same. (ap (λ k. k.instance) same, (ap (λ k. k.specifics) same, (ap (λ k. k.seed) same, ap (λ k. k.settings) same))))

-- of kinds
pub same_kind-Decides : (one other : Kind) → Decides (same_kind one other) (one ≡ other)
same_kind-Decides Asked Asked = (λ is. refl, λ same. refl)
same_kind-Decides Ahead Ahead = (λ is. refl, λ same. refl)
same_kind-Decides Asked Ahead = (λ is. absurd (let e : false ≡ true = is in cc), λ same. absurd (cc))
same_kind-Decides Ahead Asked = (λ is. absurd (let e : false ≡ true = is in cc), λ same. absurd (cc))

-- of tickets
pub same_ticket-Decides : (one other : Ticket) → Decides (same_ticket one other) (one ≡ other)
unfolding same_ticket
same_ticket-Decides one other =
    let place = Decides-and _ _ (Decides-eqb one.number other.number) (Decides-eqb one.place other.place) in
    let kind = Decides-and _ _ place (same_kind-Decides one.kind other.kind) in
    let cell = Decides-and _ _ kind (same_cell-Decides one.cell other.cell) in
    let cutoff = Decides-and _ _ cell (Decides-eqb one.run.cutoff.0 other.run.cutoff.0) in
    let key = Decides-and _ _ cutoff (same_key-Decides one.run.key other.run.key) in
    decides_also key
    (λ p i. record { number = p.0.0.0.0.0 i; place = p.0.0.0.0.1 i; kind = p.0.0.0.1 i; cell = p.0.0.1 i; run = record { key = p.1 i; cutoff = record { 0 = p.0.1 i } } })
    (λ same. (((((ap (λ t. t.number) same, ap (λ t. t.place) same), ap (λ t. t.kind) same), ap (λ t. t.cell) same), ap (λ t. t.run.cutoff.0) same), ap (λ t. t.run.key) same))

-- tickets that are the same are equal
pub same_ticket-equal : (one other : Ticket) → same_ticket one other ≡ true → one ≡ other
same_ticket-equal one other = (same_ticket-Decides one other).0
