-- What each step keeps of a board's invariant, and what it makes of the plain board.
use Rattle.std.proofs.Common.{ℕ, suc, zero, ◌≡◌, ◌++◌, ◌||◌, Bool, true, false, List, [], ◌∷◌, Option, Some, None, All, IsTrue, length, map, refl, sym, ap, ◌∙◌, arith, subst, nat_lt, if◌then◌else◌}
use Rattle.std.specs.Cmp.Lexicographic.{pointwise}
use Rattle.std.proofs.lemmas.List.Elements.{All-nil, All-push, All-weaker, All-map}
use Rattle.objective.specs.Costs.{Table, IsWithin}
use Rattle.objective.specs.declared.Answer.{Answer}
use Rattle.objective.specs.declared.Outcome.{Outcome}
use Rattle.wrapper_lines.specs.declared.runs.Key.{Key}
use Rattle.uncapped.specs.Uncapped.{Run}
use Rattle.ils_face.specs.declared.asks.Reply.{Reply}
use Rattle.ils_face.specs.Follows.{Follows, sums_under}
use Rattle.ils_face.specs.Rules.{Rules, AreRules}
use Rattle.ils_face.specs.Views.{View}
use Rattle.objective.specs.declared.Micros.{Micros}
use Rattle.run_cache.specs.declared.cell.Cell.{Cell}
use Rattle.run_cache.specs.declared.known.Known.TheVariants.{Nothing}
use Rattle.run_cache.specs.Caches.{Cached, known_in, known_at, known_after, known_of, lesson_in, conflicts_after, has_place_in}
use Rattle.run_cache.specs.Learning.{lesson}
use Rattle.capping.specs.declared.verdicts.Verdict.TheVariants as verdict
use Rattle.predictor.specs.declared.wish.Wish.{Wish}
use Rattle.board_steps.specs.declared.answers.BoardVerdict.TheVariants as board_verdict
use Rattle.board_steps.specs.declared.answers.Taken.TheVariants as taken
use Rattle.board_steps.specs.declared.events.Event.TheVariants as event
use Rattle.board_steps.specs.declared.tickets.LiveTicket.{LiveTicket}
use Rattle.board_steps.specs.declared.tickets.Ticket.{Ticket}
use Rattle.board_steps.specs.Boards.{BoardState, PlainBoard, opening, plain_board}
use Rattle.board_steps.specs.BoardInvariant.{BoardInvariant, IsStopped}
use Rattle.board_steps.specs.Ledgers.{take_event, unmarked, lost_ahead_after}
use Rattle.board_steps.specs.Numbering.{IsRunnable, IsRunnableTake, IsTicket, IsNumbered, tickets_of}
use Rattle.board_steps.specs.BoardVerdicts.{board_verdict_of, wishes_on, asked_cell}
use Rattle.board_steps.specs.Problem.{Problem}
use Rattle.board_steps.specs.ProblemRuns.{key_of}
use Rattle.board_steps.specs.Replays.{replay}
use Rattle.board_steps.specs.Steps.{taken_on, with_ticket, known_from, is_conflict, with_answer, with_loss, with_kill, with_reply, with_wishes, with_abort, same_wish, marked_board, stopped_board, resumed_board}
use Rattle.board_steps.specs.Tickets.{live_at, position_of, without, marked, marked_if, mark_events, has_ticket}
use Rattle.board_steps.specs.AgreeingBoards.{IsTold}
use Rattle.board_steps.proofs.KeptParts.{HasParts, parts-opening, parts-reply, parts-wishes, parts-abort, parts-ticket, parts-answer, parts-loss, parts-kill, parts-marks, parts-stop, parts-resume}
use Rattle.board_steps.proofs.LiveTickets.{tickets-marked, tickets-marked_if, tickets-push, none-of-cell, numbered-without, all-without, numbered-marks}
use Rattle.board_steps.proofs.MarkedTickets.{HaveOwnNumbers, replayed-marks}
use Rattle.board_steps.proofs.Numbered.{numbered-other, numbered-none, numbered-take, all-remove}
use Rattle.board_steps.proofs.Replayed.{opening-replayed, replayed-reply, replayed-abort, replayed-take, replayed-answer, replayed-loss, replayed-kill, replayed-wishes, replayed-stop, replayed-resume}

-- what is known of a row without places
nothing-known : (place : ℕ) → known_at [] place ≡ Nothing
nothing-known zero = refl
nothing-known (suc before) = refl

-- all live tickets but one
live-without : (P : LiveTicket → Type 0) (live : List LiveTicket) (number : ℕ) → All P live → All P (without live number)
unfolding without
live-without P live number all = all-remove P live (position_of live number) all

-- every ticket of marked ones is marked
all-marked : (live : List LiveTicket) → All (λ l. l.marked ≡ true) (map marked live)
all-marked live = All-map (λ l. l.marked ≡ true) marked live (λ k d within. refl)

-- what an opening board holds
abbrev pub opening-state : Problem → BoardState
opening-state problem = record {
  problem = problem;
  replies = [];
  cache = record { limits = problem.rules.limits; conflicts = 0; rows = [] };
  wishes = [];
  live = [];
  lost_ahead = [];
  next = 1;
  stopped = false;
  aborted = None;
  journal = [];
}

-- a live ticket that is marked stays marked
marked-stays : (p : LiveTicket → Bool) (l : LiveTicket) → l.marked ≡ true → (marked_if p l).marked ≡ true
marked-stays p l is = either (p l)
  where
    either : (unwanted : Bool) → (if unwanted then marked l else l).marked ≡ true
    either true = refl
    either false = is

-- the ticket's cell has a place
abbrev HasPlace : (List ℕ → ℕ → Bool) → Ticket → Type 0
HasPlace has_place t = IsTrue (has_place t.cell.config t.cell.place)

-- the live ticket is marked
abbrev IsMarked : LiveTicket → Type 0
IsMarked l = l.marked ≡ true

-- the parts of a board's invariant that are over what it holds
record HasOwnParts (shown : Rules → List Reply → View) (b : BoardState) : Type 0 where
  ruled : AreRules b.problem.rules
  limits : b.cache.limits ≡ b.problem.rules.limits
  replays : plain_board b ≡ replay shown b.problem b.journal
  numbering : IsNumbered b
  stopped : IsStopped b

module _ (shown : Rules → List Reply → View) (procedure : Rules → Table → Run) (truth : Option (Key → Outcome)) where
  -- the parts of a board's invariant that are over the plain board
  parts-of : (b : BoardState) → BoardInvariant shown procedure truth b → HasParts shown procedure truth (plain_board b)
  parts-of b inv = record {
    ranged = inv.ranged;
    taken = inv.taken;
    asked = inv.asked;
    aborting = inv.aborting;
    rising = inv.rising;
    sums = inv.sums;
    truthful = λ told. record { agreeing = inv.agrees told; replied = inv.replies told; due = inv.due told };
  }

  -- the invariant of a board, by its own parts and those that are over the plain board
  whole : (b : BoardState) (after : PlainBoard) → plain_board b ≡ after → HasOwnParts shown b → HasParts shown procedure truth after
      → BoardInvariant shown procedure truth b
  whole b after is own parts =
      let has = subst (HasParts shown procedure truth) (sym is) parts in
      record {
        ruled = own.ruled;
        limits = own.limits;
        replays = own.replays;
        numbering = own.numbering;
        stopped = own.stopped;
        ranged = has.ranged;
        taken = has.taken;
        asked = has.asked;
        aborting = has.aborting;
        rising = has.rising;
        sums = has.sums;
        agrees = λ told. (has.truthful told).agreeing;
        replies = λ told. (has.truthful told).replied;
        due = λ told. (has.truthful told).due;
      }

  -- a board after a step: the plain board that it is, and its invariant
  pub record IsStep (b : BoardState) (after : PlainBoard) : Type 0 where
    pub plain_is : plain_board b ≡ after
    pub kept : BoardInvariant shown procedure truth b

  -- the opening board
  pub step-opening : (problem : Problem) → AreRules problem.rules → IsStep (opening-state problem) (opening problem)
  unfolding plain_board
  step-opening problem ruled =
      let opened : plain_board (opening-state problem) ≡ opening problem = λ i. record (opening problem) { known = λ config place. nothing-known place i } in
      record {
        plain_is = opened;
        kept = whole _ (opening problem) opened (record {
          ruled = ruled;
          limits = refl;
          replays = opened ∙ opening-replayed shown problem;
          numbering = record {
            numbers = record {
              first = omega arith;
              taken = refl;
              ended = tt;
              once = λ n. omega arith;
              cells = λ cell. omega arith;
              each = All-nil (IsTicket problem 1);
              takes = All-nil (IsRunnableTake problem.rules);
            };
            wishes = All-nil (λ w. IsRunnable problem.rules w.cell w.cutoff.0);
            places = All-nil (HasPlace (has_place_in (opening-state problem).cache));
          };
          stopped = record { marked = λ is. All-nil IsMarked };
        }) (parts-opening shown procedure truth problem);
      }

  -- the cache has further places
  pub step-places : (b : BoardState) (cache : Cached) → cache.limits ≡ b.cache.limits → known_in cache ≡ known_in b.cache → cache.conflicts ≡ b.cache.conflicts
      → ((config : List ℕ) (place : ℕ) → IsTrue (has_place_in b.cache config place) → IsTrue (has_place_in cache config place))
      → BoardInvariant shown procedure truth b → IsStep (record b { cache = cache }) (plain_board b)
  unfolding plain_board
  step-places b cache limits known conflicts places inv =
      let same : plain_board (record b { cache = cache }) ≡ plain_board b = λ i. record (plain_board b) { known = known i; conflicts = conflicts i } in
      record {
        plain_is = same;
        kept = whole _ (plain_board b) same (record {
          ruled = inv.ruled;
          limits = limits ∙ inv.limits;
          replays = same ∙ inv.replays;
          numbering = record {
            numbers = inv.numbering.numbers;
            wishes = inv.numbering.wishes;
            places = All-weaker (HasPlace (has_place_in b.cache)) (HasPlace (has_place_in cache)) (λ t has. places t.cell.config t.cell.place has) (tickets_of b.live) inv.numbering.places;
          };
          stopped = record { marked = inv.stopped.marked };
        }) (parts-of b inv);
      }

  -- the search is answered
  pub step-reply : ((rules : Rules) (T : Table) → AreRules rules → Follows (shown rules) (sums_under rules T) (procedure rules T))
      → (b : BoardState) (r : Reply) (wishes : List Wish) → board_verdict_of shown (plain_board b) ≡ board_verdict.Open (verdict.Reply r)
      → wishes ≡ wishes_on shown (record (plain_board b) { replies = b.replies ++ r ∷ [] })
      → All (λ w. IsRunnable b.problem.rules w.cell w.cutoff.0) wishes → BoardInvariant shown procedure truth b
      → IsStep (record b { replies = b.replies ++ r ∷ []; wishes = wishes; journal = b.journal ++ event.Advance ∷ [] }) (with_reply shown (plain_board b) r)
  unfolding plain_board with_reply
  step-reply follows b r wishes stands wished runnable inv =
      let is : plain_board (record b { replies = b.replies ++ r ∷ []; wishes = wishes; journal = b.journal ++ event.Advance ∷ [] }) ≡ with_reply shown (plain_board b) r =
      λ i. record (with_reply shown (plain_board b) r) { wishes = wished i } in
      record {
        plain_is = is;
        kept = whole _ (with_reply shown (plain_board b) r) is (record {
          ruled = inv.ruled;
          limits = inv.limits;
          replays = is ∙ replayed-reply shown (plain_board b) r stands inv.replays;
          numbering = record {
            numbers = numbered-other b.problem (tickets_of b.live) b.next b.journal event.Advance refl refl tt inv.numbering.numbers;
            wishes = runnable;
            places = inv.numbering.places;
          };
          stopped = record { marked = inv.stopped.marked };
        }) (parts-reply shown procedure truth follows (plain_board b) r stands inv.ruled (parts-of b inv));
      }

  -- there are other wishes
  pub step-wishes : (b : BoardState) (place : ℕ) (cutoff : Micros) (wishes : List Wish) → board_verdict_of shown (plain_board b) ≡ board_verdict.Open (verdict.Need place cutoff)
      → wishes ≡ wishes_on shown (plain_board b) → pointwise same_wish b.wishes wishes ≡ false
      → All (λ w. IsRunnable b.problem.rules w.cell w.cutoff.0) wishes → BoardInvariant shown procedure truth b
      → IsStep (record b { wishes = wishes; journal = b.journal ++ event.Advance ∷ [] }) (with_wishes shown (plain_board b))
  unfolding plain_board with_wishes
  step-wishes b place cutoff wishes stands wished other runnable inv =
      let differ : pointwise same_wish b.wishes (wishes_on shown (plain_board b)) ≡ false = ap (pointwise same_wish b.wishes) (sym wished) ∙ other in
      let changed = ap (λ t. if t then plain_board b else record (plain_board b) { wishes = wishes_on shown (plain_board b); journal = b.journal ++ event.Advance ∷ [] }) differ in
      let other_wishes : plain_board (record b { wishes = wishes; journal = b.journal ++ event.Advance ∷ [] }) ≡ record (plain_board b) { wishes = wishes_on shown (plain_board b); journal = b.journal ++ event.Advance ∷ [] } =
      λ i. record (plain_board b) { wishes = wished i; journal = b.journal ++ event.Advance ∷ [] } in
      let is = other_wishes ∙ sym changed in
      record {
        plain_is = is;
        kept = whole _ (with_wishes shown (plain_board b)) is (record {
          ruled = inv.ruled;
          limits = inv.limits;
          replays = replayed-wishes shown (plain_board b) (plain_board (record b { wishes = wishes; journal = b.journal ++ event.Advance ∷ [] })) place cutoff stands (sym is) refl refl inv.replays;
          numbering = record {
            numbers = numbered-other b.problem (tickets_of b.live) b.next b.journal event.Advance refl refl tt inv.numbering.numbers;
            wishes = runnable;
            places = inv.numbering.places;
          };
          stopped = record { marked = inv.stopped.marked };
        }) (parts-wishes shown procedure truth (plain_board b) place cutoff stands (parts-of b inv));
      }

  -- the walk of the present ask came to an abort
  pub step-abort : (b : BoardState) (place : ℕ) (cell : Cell) → board_verdict_of shown (plain_board b) ≡ board_verdict.Open (verdict.Aborted place)
      → cell ≡ asked_cell shown (plain_board b) place → BoardInvariant shown procedure truth b
      → IsStep (record b { aborted = Some cell; wishes = []; journal = b.journal ++ event.Advance ∷ [] }) (with_abort shown (plain_board b) place)
  unfolding plain_board with_abort
  step-abort b place cell stands cell_is inv =
      let is : plain_board (record b { aborted = Some cell; wishes = []; journal = b.journal ++ event.Advance ∷ [] }) ≡ with_abort shown (plain_board b) place =
      λ i. record (with_abort shown (plain_board b) place) { aborted = Some (cell_is i) } in
      record {
        plain_is = is;
        kept = whole _ (with_abort shown (plain_board b) place) is (record {
          ruled = inv.ruled;
          limits = inv.limits;
          replays = is ∙ replayed-abort shown (plain_board b) place stands inv.replays;
          numbering = record {
            numbers = numbered-other b.problem (tickets_of b.live) b.next b.journal event.Advance refl refl tt inv.numbering.numbers;
            wishes = All-nil (λ w. IsRunnable b.problem.rules w.cell w.cutoff.0);
            places = inv.numbering.places;
          };
          stopped = record { marked = inv.stopped.marked };
        }) (parts-abort shown procedure truth (plain_board b) place stands inv.replays (parts-of b inv));
      }

  -- a ticket is taken, for a cell that has a place and no live ticket
  pub step-take : ((rules : Rules) (T : Table) → AreRules rules → Follows (shown rules) (sums_under rules T) (procedure rules T))
      → (b : BoardState) (t : Ticket) → taken_on shown (plain_board b) ≡ taken.Ticket t → b.stopped ≡ false → t.number ≡ b.next
      → t.run.key ≡ key_of b.problem t.cell → IsRunnable b.problem.rules t.cell t.run.cutoff.0 → has_ticket b.live t.cell ≡ false
      → IsTrue (has_place_in b.cache t.cell.config t.cell.place) → BoardInvariant shown procedure truth b
      → IsStep (record b { live = b.live ++ unmarked t ∷ []; next = suc b.next; journal = b.journal ++ take_event t ∷ [] }) (with_ticket (plain_board b) t)
  unfolding plain_board
  step-take follows b t offered running number key runnable alone has_place inv =
      let n = inv.numbering.numbers in
      let ticket : IsTicket b.problem (suc b.next) t = record { first = omega (arith, number, n.first); below = omega (arith, number); key = key; runnable = runnable } in
      record {
        plain_is = refl;
        kept = whole _ (with_ticket (plain_board b) t) refl (record {
          ruled = inv.ruled;
          limits = inv.limits;
          replays = replayed-take shown (plain_board b) t offered inv.replays;
          numbering = record {
            numbers = rw (tickets-push b.live t) (numbered-take b.problem (tickets_of b.live) b.next b.journal t number ticket (none-of-cell b.live t.cell alone) n);
            wishes = inv.numbering.wishes;
            places = rw (tickets-push b.live t) (All-push (HasPlace (has_place_in b.cache)) (tickets_of b.live) t inv.numbering.places has_place);
          };
          stopped = record { marked = λ is. absurd (let e : true ≡ false = sym is ∙ running in cc) };
        }) (parts-ticket shown procedure truth follows (plain_board b) t offered number inv.ruled n (parts-of b inv));
      }

  -- the answer of a live ticket is learnt
  pub step-answer : (b : BoardState) (cache : Cached) (answer : Answer) (l : LiveTicket) → live_at b.live l.ticket.number ≡ Some l → IsWithin answer l.ticket.run.cutoff.0 → IsTold truth l.ticket answer
      → cache.limits ≡ b.cache.limits
      → known_in cache ≡ known_after (known_in b.cache) l.ticket.cell (lesson_in b.cache l.ticket.cell l.ticket.run.cutoff.0 answer).known
      → cache.conflicts ≡ conflicts_after b.cache.conflicts (lesson_in b.cache l.ticket.cell l.ticket.run.cutoff.0 answer).conflict
      → has_place_in cache ≡ has_place_in b.cache → BoardInvariant shown procedure truth b
      → IsStep (record b { cache = cache; live = without b.live l.ticket.number; journal = b.journal ++ event.Record l.ticket.number answer ∷ [] })
      (with_answer (plain_board b) answer l)
  unfolding plain_board with_answer known_from is_conflict
  step-answer b cache answer l found within told limits known conflicts places inv =
      let n = l.ticket.number in
      let before = known_of b.cache l.ticket.cell in
      let cutoff = l.ticket.run.cutoff.0 in
      let known_is = known ∙ ap (λ bounds. known_after (known_in b.cache) l.ticket.cell (lesson bounds before cutoff answer).known) inv.limits in
      let conflicts_are = conflicts ∙ ap (λ bounds. conflicts_after b.cache.conflicts (lesson bounds before cutoff answer).conflict) inv.limits in
      let is : plain_board (record b { cache = cache; live = without b.live n; journal = b.journal ++ event.Record n answer ∷ [] }) ≡ with_answer (plain_board b) answer l =
      λ i. record (with_answer (plain_board b) answer l) { known = known_is i; conflicts = conflicts_are i } in
      let Q : (List ℕ → ℕ → Bool) → Type 0 = λ has_place. All (HasPlace has_place) (tickets_of (without b.live n)) in
      record {
        plain_is = is;
        kept = whole _ (with_answer (plain_board b) answer l) is (record {
          ruled = inv.ruled;
          limits = limits ∙ inv.limits;
          replays = is ∙ replayed-answer shown (plain_board b) answer l found inv.replays;
          numbering = record {
            numbers = numbered-without b.problem b.live b.next b.journal l (event.Record n answer) found refl refl tt inv.numbering.numbers;
            wishes = inv.numbering.wishes;
            places = subst Q (sym places) (all-without (HasPlace (has_place_in b.cache)) b.live n inv.numbering.places);
          };
          stopped = record { marked = λ is. live-without IsMarked b.live n (inv.stopped.marked is) };
        }) (parts-answer shown procedure truth (plain_board b) answer l found within told inv.numbering.numbers (parts-of b inv));
      }

  -- the run of a live ticket can't be made
  pub step-loss : (b : BoardState) (l : LiveTicket) → live_at b.live l.ticket.number ≡ Some l → BoardInvariant shown procedure truth b
      → IsStep (record b { live = without b.live l.ticket.number; lost_ahead = lost_ahead_after b.lost_ahead l.ticket; journal = b.journal ++ event.Lost l.ticket.number ∷ [] })
      (with_loss (plain_board b) l)
  unfolding plain_board with_loss
  step-loss b l found inv =
      let n = l.ticket.number in
      record {
        plain_is = refl;
        kept = whole _ (with_loss (plain_board b) l) refl (record {
          ruled = inv.ruled;
          limits = inv.limits;
          replays = replayed-loss shown (plain_board b) l found inv.replays;
          numbering = record {
            numbers = numbered-without b.problem b.live b.next b.journal l (event.Lost n) found refl refl tt inv.numbering.numbers;
            wishes = inv.numbering.wishes;
            places = all-without (HasPlace (has_place_in b.cache)) b.live n inv.numbering.places;
          };
          stopped = record { marked = λ is. live-without IsMarked b.live n (inv.stopped.marked is) };
        }) (parts-loss shown procedure truth (plain_board b) l (parts-of b inv));
      }

  -- the run of a live ticket is given up
  pub step-kill : (b : BoardState) (l : LiveTicket) → live_at b.live l.ticket.number ≡ Some l → BoardInvariant shown procedure truth b
      → IsStep (record b { live = without b.live l.ticket.number; journal = b.journal ++ event.Killed l.ticket.number ∷ [] }) (with_kill (plain_board b) l)
  unfolding plain_board with_kill
  step-kill b l found inv =
      let n = l.ticket.number in
      record {
        plain_is = refl;
        kept = whole _ (with_kill (plain_board b) l) refl (record {
          ruled = inv.ruled;
          limits = inv.limits;
          replays = replayed-kill shown (plain_board b) l found inv.replays;
          numbering = record {
            numbers = numbered-without b.problem b.live b.next b.journal l (event.Killed n) found refl refl tt inv.numbering.numbers;
            wishes = inv.numbering.wishes;
            places = all-without (HasPlace (has_place_in b.cache)) b.live n inv.numbering.places;
          };
          stopped = record { marked = λ is. live-without IsMarked b.live n (inv.stopped.marked is) };
        }) (parts-kill shown procedure truth (plain_board b) l (parts-of b inv));
      }

  -- live tickets are marked
  pub step-marks : (b : BoardState) (p : LiveTicket → Bool) → BoardInvariant shown procedure truth b
      → IsStep (record b { live = map (marked_if p) b.live; journal = b.journal ++ mark_events p b.live }) (marked_board (plain_board b) p)
  unfolding plain_board
  step-marks b p inv =
      let n = inv.numbering.numbers in
      let own : HaveOwnNumbers b.live = λ number. omega (arith, n.once number) in
      record {
        plain_is = refl;
        kept = whole _ (marked_board (plain_board b) p) refl (record {
          ruled = inv.ruled;
          limits = inv.limits;
          replays = replayed-marks shown (plain_board b) p own inv.replays;
          numbering = record {
            numbers = rw (tickets-marked_if p b.live) (numbered-marks b.problem (tickets_of b.live) b.next b.journal p b.live n);
            wishes = inv.numbering.wishes;
            places = rw (tickets-marked_if p b.live) inv.numbering.places;
          };
          stopped = record { marked = λ is. All-map IsMarked (marked_if p) b.live (All-weaker IsMarked (λ l. IsMarked (marked_if p l)) (marked-stays p) b.live (inv.stopped.marked is)) };
        }) (parts-marks shown procedure truth (plain_board b) p (parts-of b inv));
      }

  -- a board is stopped
  pub step-stop : (b : BoardState) → b.stopped ≡ false → BoardInvariant shown procedure truth b
      → IsStep (record b { live = map marked b.live; stopped = true; journal = b.journal ++ event.Stop ∷ [] }) (stopped_board (plain_board b))
  unfolding plain_board
  step-stop b running inv = record {
    plain_is = refl;
    kept = whole _ (stopped_board (plain_board b)) refl (record {
      ruled = inv.ruled;
      limits = inv.limits;
      replays = replayed-stop shown (plain_board b) running inv.replays;
      numbering = record {
        numbers = rw (tickets-marked b.live) (numbered-other b.problem (tickets_of b.live) b.next b.journal event.Stop refl refl tt inv.numbering.numbers);
        wishes = inv.numbering.wishes;
        places = rw (tickets-marked b.live) inv.numbering.places;
      };
      stopped = record { marked = λ is. all-marked b.live };
    }) (parts-stop shown procedure truth (plain_board b) (parts-of b inv));
  }

  -- a board goes on
  pub step-resume : (b : BoardState) → (b.stopped || nat_lt 0 (length b.live)) ≡ true → BoardInvariant shown procedure truth b
      → IsStep (record b { live = []; stopped = false; journal = b.journal ++ event.Resume ∷ [] }) (resumed_board (plain_board b))
  unfolding plain_board
  step-resume b halted inv = record {
    plain_is = refl;
    kept = whole _ (resumed_board (plain_board b)) refl (record {
      ruled = inv.ruled;
      limits = inv.limits;
      replays = replayed-resume shown (plain_board b) halted inv.replays;
      numbering = record {
        numbers = numbered-other b.problem [] b.next b.journal event.Resume refl refl tt (numbered-none b.problem (tickets_of b.live) b.next b.journal inv.numbering.numbers);
        wishes = inv.numbering.wishes;
        places = All-nil (HasPlace (has_place_in b.cache));
      };
      stopped = record { marked = λ is. All-nil IsMarked };
    }) (parts-resume shown procedure truth (plain_board b) (parts-of b inv));
  }
