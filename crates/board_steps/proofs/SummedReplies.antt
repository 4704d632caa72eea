-- The replies of a search so far that are sums: the costs that they sum are known.
use Rattle.std.proofs.Common.{ℕ, zero, suc, ◌≡◌, ◌≤◌, ◌++◌, ◌⊎◌, Bool, true, false, List, [], ◌∷◌, Some, None, length, take, refl, sym, ap, subst, ◌∙◌, inl, inr, arith, if◌then◌else◌}
use Rattle.std.specs.List.{slice_get}
use Rattle.std.specs.Cmp.Lexicographic.{pointwise}
use Rattle.std.proofs.lemmas.List.{take_all, take-append-le}
use Rattle.std.proofs.lemmas.Option.{none-some, same_Some, slice_get_within}
use Rattle.objective.specs.Bounds.{Bounds}
use Rattle.objective.specs.declared.Answer.{Answer}
use Rattle.objective.specs.declared.Sum.{Sum}
use Rattle.ils_face.specs.declared.asks.Ask.{Ask}
use Rattle.ils_face.specs.declared.asks.Ask.TheVariants.{Full, Versus, End}
use Rattle.ils_face.specs.declared.asks.Reply.{Reply}
use Rattle.ils_face.specs.declared.asks.Reply.TheVariants.{Exact, Exceeds}
use Rattle.ils_face.specs.Rules.{Rules}
use Rattle.ils_face.specs.Views.{View}
use Rattle.run_cache.specs.declared.cell.Cell.{Cell}
use Rattle.run_cache.specs.declared.known.Known.{Known}
use Rattle.run_cache.specs.declared.known.Known.TheVariants as known
use Rattle.run_cache.specs.Caches.{Knowledge}
use Rattle.capping.specs.declared.verdicts.Verdict.TheVariants as verdict
use Rattle.capping.specs.Verdicts.{verdict_of}
use Rattle.capping.specs.Decisions.{after_run}
use Rattle.capping.specs.ExactSums.{exact_cost, exact_sum}
use Rattle.capping.proofs.ExactSums.{exact_sum-same, exact_below}
use Rattle.capping.proofs.WalkEnds.{IsEnd, walk_end}
use Rattle.capping.proofs.OtherCells.{IsKept, run-kept}
use Rattle.board_steps.specs.declared.answers.BoardVerdict.TheVariants as board_verdict
use Rattle.board_steps.specs.declared.events.Event.TheVariants.{Advance}
use Rattle.board_steps.specs.declared.tickets.LiveTicket.{LiveTicket}
use Rattle.board_steps.specs.declared.tickets.Ticket.{Ticket}
use Rattle.board_steps.specs.Boards.{PlainBoard, opening}
use Rattle.board_steps.specs.BoardVerdicts.{ask_on, verdict_on, board_verdict_of, wishes_on}
use Rattle.board_steps.specs.Problem.{Problem}
use Rattle.board_steps.specs.Steps.{same_wish, with_ticket, known_from, with_answer, with_loss, with_kill, marked_board, with_reply, with_wishes, with_abort, stopped_board, resumed_board}
use Rattle.board_steps.specs.SummedReplies.{IsSummed, ask_after, AreSummedReplies, AreSummed}
use Rattle.board_steps.proofs.GivenTickets.{verdict-open}

-- ---- a further reply

-- an element is the last one, or stands before it
last_or_before : {A : Type 0} (xs : List A) (x y : A) (i : ℕ) → slice_get (xs ++ x ∷ []) i ≡ Some y
    → (slice_get xs i ≡ Some y) ⊎ ((i ≡ length xs) × (x ≡ y))
last_or_before [] x y zero h = inr (refl, same_Some x y h)
last_or_before [] x y (suc i) h = absurd (none-some y h)
last_or_before (z ∷ xs) x y zero h = inl h
last_or_before (z ∷ xs) x y (suc i) h = more (last_or_before xs x y i h)
  where
    more : (slice_get xs i ≡ Some y) ⊎ ((i ≡ length xs) × (x ≡ y)) → (slice_get xs i ≡ Some y) ⊎ ((suc i ≡ suc (length xs)) × (x ≡ y))
    more (inl before) = inl before
    more (inr last) = inr (ap suc last.0, last.1)

-- one more reply
pub summed-push : (shown : List Reply → View) (known : Knowledge) (replies : List Reply) (r : Reply) → IsSummed known (shown replies).ask r
    → AreSummedReplies shown known replies → AreSummedReplies shown known (replies ++ r ∷ [])
summed-push shown known replies r summed before = record { each = λ i s at. by i s (last_or_before replies r s i at) }
  where
    by : (i : ℕ) (s : Reply) → (slice_get replies i ≡ Some s) ⊎ ((i ≡ length replies) × (r ≡ s)) → IsSummed known (ask_after shown (replies ++ r ∷ []) i) s
    by i s (inl at) =
        let first : take i (replies ++ r ∷ []) ≡ take i replies = take-append-le i replies (r ∷ []) (let within = slice_get_within replies i s at in omega (arith, within)) in
        subst (λ rs. IsSummed known (shown rs).ask s) (sym first) (before.each i s at)
    by i s (inr last) =
        let first : take i (replies ++ r ∷ []) ≡ replies = take-append-le i replies (r ∷ []) (omega (arith, last.0)) ∙ take_all i replies (omega (arith, last.0)) in
        subst (λ rs. IsSummed known (shown rs).ask s) (sym first) (subst (IsSummed known (shown replies).ask) last.1 summed)

-- a walk that comes to a reply, in full
sum_in_full : (limits : Bounds) (k : Knowledge) (θ : List ℕ) (n : ℕ) (r : Reply) → IsEnd limits (k θ) None n (verdict.Reply r) → IsSummed k (Full θ n) r
sum_in_full limits k θ n (Exact sum) ends = record { same = ends.sum }
sum_in_full limits k θ n Exceeds ends = tt

-- a walk that comes to a reply, up to a bound
sum_with_bound : (limits : Bounds) (k : Knowledge) (θ : List ℕ) (n : ℕ) (bound : Sum) (r : Reply) → IsEnd limits (k θ) (Some bound.0) n (verdict.Reply r)
    → IsSummed k (Versus θ n bound) r
sum_with_bound limits k θ n bound (Exact sum) ends = record { same = ends.sum }
sum_with_bound limits k θ n bound Exceeds ends = tt

-- the total cost that what is known replies is the sum of known costs
pub summed-verdict : (limits : Bounds) (k : Knowledge) (ask : Ask) (r : Reply) → verdict_of limits k ask ≡ verdict.Reply r → IsSummed k ask r
summed-verdict limits k (Full θ n) r replied =
    sum_in_full limits k θ n r (subst (IsEnd limits (k θ) None n) replied (walk_end limits (k θ) None n n 0 0 (omega arith) refl))
summed-verdict limits k (Versus θ n bound) r replied =
    sum_with_bound limits k θ n bound r (subst (IsEnd limits (k θ) (Some bound.0) n) replied (walk_end limits (k θ) (Some bound.0) n n 0 0 (omega arith) refl))
summed-verdict limits k End r replied = absurd (cc)

-- ---- a further answer

-- what is known of a place with a cost is kept
cost_kept : (k after : Known) (x : ℕ) → exact_cost k ≡ Some x → IsKept k after → after ≡ k
cost_kept known.Nothing after x cost kept = absurd (cc)
cost_kept (known.Over t) after x cost kept = absurd (cc)
cost_kept (known.Exact c) after x cost kept = kept
cost_kept known.Abort after x cost kept = absurd (cc)

module _ (limits : Bounds) (k : Knowledge) (cell : Cell) (cutoff : ℕ) (shown : Answer) where
  -- a sum of known costs stays
  sum_stays : (θ : List ℕ) (n sum : ℕ) → exact_sum (k θ) n ≡ Some sum → exact_sum (after_run limits k cell cutoff shown θ) n ≡ Some sum
  sum_stays θ n sum e = exact_sum-same (k θ) (after_run limits k cell cutoff shown θ) n at ∙ e
    where
      at : (i : ℕ) → 1 ≤ i → i ≤ n → after_run limits k cell cutoff shown θ i ≡ k θ i
      at zero low high = absurd (omega (arith, low))
      at (suc i) low high =
          let cost = exact_below (k θ) n sum e i (omega (arith, high)) in
          cost_kept (k θ (suc i)) (after_run limits k cell cutoff shown θ (suc i)) cost.0 cost.1 (run-kept limits k cell cutoff shown θ (suc i))

  -- a reply that is the sum of known costs goes on to be one
  pub summed-answer : (ask : Ask) (r : Reply) → IsSummed k ask r → IsSummed (after_run limits k cell cutoff shown) ask r
  summed-answer (Full θ n) (Exact sum) s = record { same = sum_stays θ n sum.0 s.same }
  summed-answer (Versus θ n bound) (Exact sum) s = record { same = sum_stays θ n sum.0 s.same }
  summed-answer End (Exact sum) s = s
  summed-answer ask Exceeds s = tt

-- ---- boards

module _ (shown : Rules → List Reply → View) where
  -- the opening board
  pub sums-opening : (problem : Problem) → AreSummed shown (opening problem)
  sums-opening problem = record { replies = record { each = λ i r at. absurd (none-some r at) } }

  -- the search is answered
  pub sums-reply : (b : PlainBoard) (r : Reply) → board_verdict_of shown b ≡ board_verdict.Open (verdict.Reply r) → AreSummed shown b → AreSummed shown (with_reply shown b r)
  unfolding with_reply verdict_on
  sums-reply b r stands s =
      let replied = verdict-open shown b (verdict.Reply r) stands in
      record { replies = summed-push (shown b.problem.rules) b.known b.replies r (summed-verdict b.problem.rules.limits b.known (ask_on shown b) r replied) s.replies }

  -- there may be other wishes
  pub sums-wishes : (b : PlainBoard) → AreSummed shown b → AreSummed shown (with_wishes shown b)
  unfolding with_wishes
  sums-wishes b s = by (pointwise same_wish b.wishes (wishes_on shown b))
    where
      by : (same : Bool) → AreSummed shown (if same then b else record b { wishes = wishes_on shown b; journal = b.journal ++ Advance ∷ [] })
      by true = s
      by false = record { replies = s.replies }

  -- the walk of the present ask came to an abort
  pub sums-abort : (b : PlainBoard) (place : ℕ) → AreSummed shown b → AreSummed shown (with_abort shown b place)
  unfolding with_abort
  sums-abort b place s = record { replies = s.replies }

  -- a ticket is taken
  pub sums-ticket : (b : PlainBoard) (t : Ticket) → AreSummed shown b → AreSummed shown (with_ticket b t)
  sums-ticket b t s = record { replies = s.replies }

  -- an answer is learnt
  pub sums-answer : (b : PlainBoard) (answer : Answer) (l : LiveTicket) → AreSummed shown b → AreSummed shown (with_answer b answer l)
  unfolding with_answer known_from
  sums-answer b answer l s = record {
    replies = record {
      each = λ i r at. summed-answer b.problem.rules.limits b.known l.ticket.cell l.ticket.run.cutoff.0 answer (ask_after (shown b.problem.rules) b.replies i) r (s.replies.each i r at);
    };
  }

  -- the run of a live ticket can't be made
  pub sums-loss : (b : PlainBoard) (l : LiveTicket) → AreSummed shown b → AreSummed shown (with_loss b l)
  unfolding with_loss
  sums-loss b l s = record { replies = s.replies }

  -- the run of a live ticket is given up
  pub sums-kill : (b : PlainBoard) (l : LiveTicket) → AreSummed shown b → AreSummed shown (with_kill b l)
  unfolding with_kill
  sums-kill b l s = record { replies = s.replies }

  -- live tickets are marked
  pub sums-marks : (b : PlainBoard) (p : LiveTicket → Bool) → AreSummed shown b → AreSummed shown (marked_board b p)
  sums-marks b p s = record { replies = s.replies }

  -- a board is stopped
  pub sums-stop : (b : PlainBoard) → AreSummed shown b → AreSummed shown (stopped_board b)
  sums-stop b s = record { replies = s.replies }

  -- a board goes on
  pub sums-resume : (b : PlainBoard) → AreSummed shown b → AreSummed shown (resumed_board b)
  sums-resume b s = record { replies = s.replies }
