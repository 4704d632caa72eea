-- Marking live tickets one after another by their numbers.
use Rattle.std.proofs.Common.{ℕ, ◌≡◌, ◌≤◌, ◌+◌, ◌==◌, ◌++◌, ◌&&◌, not, Bool, true, false, cond, List, [], ◌∷◌, map, refl, sym, ap, ◌∙◌, arith, if◌then◌else◌}
use Rattle.std.specs.List.{count_by, sum_by, fold}
use Rattle.std.proofs.lemmas.Bool.{eq-eqb}
use Rattle.std.proofs.lemmas.List.{map-append, append_assoc, append-nil}
use Rattle.std.proofs.lemmas.List.Sums.{fold-append, sum_by-cons, sum_by-append}
use Rattle.ils_face.specs.declared.asks.Reply.{Reply}
use Rattle.ils_face.specs.Rules.{Rules}
use Rattle.ils_face.specs.Views.{View}
use Rattle.board_steps.specs.declared.events.Event.TheVariants.{Mark}
use Rattle.board_steps.specs.declared.tickets.LiveTicket.{LiveTicket}
use Rattle.board_steps.specs.declared.tickets.Ticket.{Ticket}
use Rattle.board_steps.specs.Boards.{PlainBoard, opening}
use Rattle.board_steps.specs.Numbering.{tickets_of}
use Rattle.board_steps.specs.Replays.{after_event, replay}
use Rattle.board_steps.specs.Steps.{with_mark, marked_board}
use Rattle.board_steps.specs.Tickets.{has_number, marked, marked_if, mark_event, mark_events}
use Rattle.board_steps.proofs.Ranges.{and-left}

-- no two of the live tickets have one number
abbrev pub HaveOwnNumbers : List LiveTicket → Type 0
HaveOwnNumbers live = (n : ℕ) → count_by (λ t. t.number == n) (tickets_of live) ≤ 1

-- a test that one element fails
fails : (b : Bool) (n : ℕ) → cond b 1 0 + n ≡ 0 → b ≡ false
fails true n none = absurd (omega (arith, none))
fails false n none = refl

-- none has the number: none is marked
unmarked_all : (n : ℕ) (live : List LiveTicket) → count_by (λ t. t.number == n) (tickets_of live) ≡ 0 → map (marked_if (has_number n)) live ≡ live
unmarked_all n [] none = refl
unmarked_all n (l ∷ live) none =
    let parts = sum_by-cons (λ t. cond (t.number == n) 1 0) l.ticket (tickets_of live) in
    let other : has_number n l ≡ false = fails (l.ticket.number == n) (count_by (λ t. t.number == n) (tickets_of live)) (omega (arith, parts, none)) in
    let rest = unmarked_all n live (omega (arith, parts, none)) in
    λ i. (if other i then marked l else l) ∷ rest i

-- a number is itself
same_number : (n : ℕ) → ◌≡◌ {A = ℕ} (cond (n == n) 1 0) 1
same_number n = ap (λ b. cond b 1 0) (eq-eqb n n refl)

-- the one live ticket with a number is marked
marked_alone : (before after : List LiveTicket) (l : LiveTicket) → HaveOwnNumbers (before ++ l ∷ after)
    → map (marked_if (has_number l.ticket.number)) (before ++ l ∷ after) ≡ before ++ marked l ∷ after
marked_alone before after l own =
    let n = l.ticket.number in
    let f : Ticket → ℕ = λ t. cond (t.number == n) 1 0 in
    let whole = ap (λ ts. sum_by f ts) (map-append (λ k. k.ticket) before (l ∷ after)) ∙ sum_by-append f (tickets_of before) (l.ticket ∷ tickets_of after) in
    let parts = sum_by-cons f l.ticket (tickets_of after) in
    let one = same_number n in
    let first = unmarked_all n before (omega (arith, own n, whole, parts, one)) in
    let last = unmarked_all n after (omega (arith, own n, whole, parts, one)) in
    map-append (marked_if (has_number n)) before (l ∷ after) ∙ (λ i. first i ++ (if eq-eqb n n refl i then marked l else l) ∷ last i)

-- the numbers of live tickets of which one is marked or not
own_after : (before rest : List LiveTicket) (l x : LiveTicket) → x.ticket ≡ l.ticket → HaveOwnNumbers (before ++ l ∷ rest) → HaveOwnNumbers ((before ++ x ∷ []) ++ rest)
own_after before rest l x same own =
    let tickets : tickets_of ((before ++ x ∷ []) ++ rest) ≡ tickets_of (before ++ l ∷ rest) =
    ap tickets_of (append_assoc before (x ∷ []) rest) ∙ map-append (λ k. k.ticket) before (x ∷ rest)
    ∙ ap (λ t. tickets_of before ++ t ∷ tickets_of rest) same ∙ sym (map-append (λ k. k.ticket) before (l ∷ rest)) in
    λ n. rw tickets (own n)

-- a live ticket that isn't to be marked stays
stays : (l : LiveTicket) (unwanted is_marked : Bool) → l.marked ≡ is_marked → (unwanted && not is_marked) ≡ false → (if unwanted then marked l else l) ≡ l
stays l true true is none = λ i. record { ticket = l.ticket; marked = sym is i }
stays l true false is none = absurd (let e : true ≡ false = none in cc)
stays l false is_marked is none = refl

module _ (shown : Rules → List Reply → View) where
  -- the events of marking the rest make the board with these marked
  abbrev MarksMade : (LiveTicket → Bool) → List LiveTicket → List LiveTicket → PlainBoard → Type 0
  MarksMade p before rest b = b.live ≡ before ++ rest → HaveOwnNumbers (before ++ rest)
      → fold (after_event shown) b (mark_events p rest) ≡ record b { live = before ++ map (marked_if p) rest; journal = b.journal ++ mark_events p rest }

  -- one more live ticket, which is to be marked or not
  marks_step : (p : LiveTicket → Bool) (before : List LiveTicket) (l : LiveTicket) (rest : List LiveTicket) (b : PlainBoard) (to_mark : Bool)
      → (p l && not l.marked) ≡ to_mark → b.live ≡ before ++ l ∷ rest → HaveOwnNumbers (before ++ l ∷ rest)
      → ((done : List LiveTicket) (x : PlainBoard) → MarksMade p done rest x)
      → fold (after_event shown) (fold (after_event shown) b (if to_mark then Mark l.ticket.number ∷ [] else [])) (mark_events p rest)
      ≡ record b { live = before ++ map (marked_if p) (l ∷ rest); journal = b.journal ++ ((if to_mark then Mark l.ticket.number ∷ [] else []) ++ mark_events p rest) }
  unfolding after_event with_mark
  marks_step p before l rest b true test live own rests =
      let n = l.ticket.number in
      let one : map (marked_if (has_number n)) b.live ≡ (before ++ marked l ∷ []) ++ rest =
      ap (map (marked_if (has_number n))) live ∙ marked_alone before rest l own ∙ sym (append_assoc before (marked l ∷ []) rest) in
      let unwanted : marked_if p l ≡ marked l = ap (λ u. if u then marked l else l) (and-left (p l) (not l.marked) test) in
      let after = append_assoc before (marked l ∷ []) (map (marked_if p) rest) ∙ ap (λ x. before ++ x ∷ map (marked_if p) rest) (sym unwanted) in
      let events = append_assoc b.journal (Mark n ∷ []) (mark_events p rest) in
      rests (before ++ marked l ∷ []) (with_mark b n) one (own_after before rest l (marked l) refl own) ∙ (λ i. record b { live = after i; journal = events i })
  marks_step p before l rest b false test live own rests =
      let kept : marked_if p l ≡ l = stays l (p l) l.marked refl test in
      let after = append_assoc before (l ∷ []) (map (marked_if p) rest) ∙ ap (λ x. before ++ x ∷ map (marked_if p) rest) (sym kept) in
      rests (before ++ l ∷ []) b (live ∙ sym (append_assoc before (l ∷ []) rest)) (own_after before rest l l refl own)
      ∙ (λ i. record b { live = after i; journal = b.journal ++ mark_events p rest })

  -- the events of marking the rest make the board with these marked
  marks-made : (p : LiveTicket → Bool) (before rest : List LiveTicket) (b : PlainBoard) → MarksMade p before rest b
  marks-made p before [] b live own = λ i. record b { live = live i; journal = sym (append-nil b.journal) i }
  marks-made p before (l ∷ rest) b live own =
      fold-append (after_event shown) b (mark_event p l) (mark_events p rest)
      ∙ marks_step p before l rest b (p l && not l.marked) refl live own (λ done x. marks-made p done rest x)

  -- a board whose live tickets are marked is the replay of its journal
  pub replayed-marks : (b : PlainBoard) (p : LiveTicket → Bool) → HaveOwnNumbers b.live → b ≡ replay shown b.problem b.journal
      → marked_board b p ≡ replay shown b.problem (b.journal ++ mark_events p b.live)
  unfolding replay
  replayed-marks b p own before =
      sym (fold-append (after_event shown) (opening b.problem) b.journal (mark_events p b.live)
      ∙ ap (λ x. fold (after_event shown) x (mark_events p b.live)) (sym before) ∙ marks-made p [] b.live b refl own)
