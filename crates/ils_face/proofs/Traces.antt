-- A search that is answered by total costs follows the procedure's run step for step: how it begins, goes on and ends.
use Rattle.std.specs.Prelude.{ℕ, ◌+◌, ◌≤◌, ◌<◌, ◌≡◌, ◌++◌, true, false, List, [], ◌∷◌, Option, Some, None, IsSome, IfSome, IsSomeAnd, map, take, length, get_or, slice_get, refl}
use Rattle.std.proofs.Common.{sym, ap, ◌∙◌, subst, inl, inr, arith}
use Rattle.std.proofs.lemmas.Bool.{cases_lt}
use Rattle.std.proofs.lemmas.List.{take_more, map-append, length_push}
use Rattle.std.proofs.lemmas.Option.{slice_get_within, slice_get_cases, get_or_from_slice_get}
use Rattle.uncapped.specs.Procedure.{Settings, Sums, Question, End, Finished, Aborted}
use Rattle.uncapped.specs.Uncapped.{Run}
use Rattle.ils_face.specs.declared.asks.Ask.TheVariants.{End as Over}
use Rattle.ils_face.specs.declared.asks.Reply.{Reply}
use Rattle.ils_face.specs.Replies.{ask_of, ask_for, cost_asked, reply_to, replies_to, reply_count}
use Rattle.ils_face.specs.Views.{View}
use Rattle.ils_face.specs.Follows.{Follows, ShowsEnd, answer_count}
use Rattle.ils_face.specs.Traces.{question_of, IsReplyBy, IsUnknown, IsTraced, IsFinal, IsStopped}

question_of-ask_of : (θ : Settings) (n : ℕ) (bound : Option ℕ) → question_of (ask_of θ n bound) ≡ Some (record { config = θ; places = n; bound = bound })
question_of-ask_of θ n None = refl
question_of-ask_of θ n (Some bound) = refl

-- a question that is shown as an ask is that question
pub question_of-ask_for : (o : Option Question) → question_of (ask_for o) ≡ o
question_of-ask_for None = refl
question_of-ask_for (Some q) = question_of-ask_of q.config q.places q.bound

-- the present ask is the run's next one
pub asked_next : (shown : List Reply → View) (sums : Sums) (run : Run) (replies : List Reply) → Follows shown sums run → IsTraced sums run replies
    → question_of (shown replies).ask ≡ slice_get run.asks (length replies)
asked_next shown sums run replies h t =
    ap (λ rs. question_of (shown rs).ask) t.same ∙ ap question_of (h.asks (length replies) t.within)
    ∙ question_of-ask_for (slice_get run.asks (length replies))

-- an ask whose total cost is known has a reply
has_reply : (shown : List Reply → View) (sums : Sums) (run : Run) (k : ℕ) (q : Question) (e : End) → run.end ≡ e → Follows shown sums run
    → k ≤ answer_count run → slice_get run.asks k ≡ Some q → IsSome (cost_asked sums q) → k < answer_count run
has_reply shown sums run k q Finished e h low at known =
    let all : answer_count run ≡ length run.asks = ap (λ f. reply_count f (length run.asks)) e in
    omega (arith, slice_get_within run.asks k q at)
has_reply shown sums run k q Aborted e h low at known =
    elim (cases_lt k (answer_count run)) as (λ _. k < answer_count run) [
      | inl below ↦ below
      | inr reached ↦
          (let same : k ≡ answer_count run = omega arith in
          let P : Option Question → Type 0 = λ o. IfSome o (λ p. cost_asked sums p ≡ None) in
          let unknown : cost_asked sums q ≡ None = subst P (ap (slice_get run.asks) (sym same) ∙ at) (h.aborted e).unknown in
          let Q : Option ℕ → Type 0 = λ o. IsSome o in
          let no : false ≡ true = subst Q unknown known in
          absurd (cc))
    ]

-- where a total cost isn't known the procedure is aborted
pub is_aborted : (shown : List Reply → View) (sums : Sums) (run : Run) (k : ℕ) (q : Question) (e : End) → run.end ≡ e → Follows shown sums run
    → k ≤ answer_count run → slice_get run.asks k ≡ Some q → cost_asked sums q ≡ None → run.end ≡ Aborted
is_aborted shown sums run k q Finished e h low at unknown =
    let all : answer_count run ≡ length run.asks = ap (λ f. reply_count f (length run.asks)) e in
    let inside : k < answer_count run = omega (arith, slice_get_within run.asks k q at) in
    let P : Option Question → Type 0 = λ o. IfSome o (λ p. IsSome (cost_asked sums p)) in
    let known : IsSome (cost_asked sums q) = subst P at (h.known k inside) in
    let Q : Option ℕ → Type 0 = λ o. IsSome o in
    let no : false ≡ true = subst Q unknown known in
    absurd (cc)
is_aborted shown sums run k q Aborted e h low at unknown = e

-- past the last ask the procedure has finished
pub is_finished : (shown : List Reply → View) (sums : Sums) (run : Run) (k : ℕ) (e : End) → run.end ≡ e → Follows shown sums run
    → k ≤ answer_count run → length run.asks ≤ k → (run.end ≡ Finished) × (k ≡ length run.asks)
is_finished shown sums run k Finished e h low high =
    let all : answer_count run ≡ length run.asks = ap (λ f. reply_count f (length run.asks)) e in
    (e, omega arith)
is_finished shown sums run k Aborted e h low high =
    let stops = h.aborted e in absurd (omega (arith, stops.unanswered))

pub past_last : {A : Type 0} (xs : List A) (k : ℕ) → slice_get xs k ≡ None → length xs ≤ k
past_last xs k h =
    elim (slice_get_cases xs k).1 as (λ _. length xs ≤ k) [
      | inl inside ↦ absurd (let some = inside.2 in cc)
      | inr past ↦ past.0
    ]

-- before the first reply
pub traced_first : (sums : Sums) (run : Run) → IsTraced sums run []
traced_first sums run = record { within = omega arith; same = refl }

-- the replies to one ask more
pub one_more : (sums : Sums) (run : Run) (k : ℕ) (q : Question) → slice_get run.asks k ≡ Some q
    → replies_to sums run (k + 1) ≡ replies_to sums run k ++ reply_to sums q ∷ []
one_more sums run k q at =
    let last : get_or run.asks k q ≡ q = get_or_from_slice_get run.asks k q q at in
    let taken = take_more run.asks k q (slice_get_within run.asks k q at) in
    ap (map (reply_to sums)) (taken ∙ ap (λ p. take k run.asks ++ p ∷ []) last)
    ∙ map-append (reply_to sums) (take k run.asks) (q ∷ [])

grown : (sums : Sums) (run : Run) (replies : List Reply) (r : Reply) (q : Question) → IsTraced sums run replies → slice_get run.asks (length replies) ≡ Some q
    → r ≡ reply_to sums q → replies ++ r ∷ [] ≡ replies_to sums run (length (replies ++ r ∷ []))
grown sums run replies r q t at same =
    let k = length replies in
    let whole : replies ++ r ∷ [] ≡ replies_to sums run k ++ reply_to sums q ∷ [] = ap (λ rs. rs ++ r ∷ []) t.same ∙ ap (λ s. replies_to sums run k ++ s ∷ []) same in
    whole ∙ sym (one_more sums run k q at) ∙ ap (replies_to sums run) (sym (length_push replies r))

more : (shown : List Reply → View) (sums : Sums) (run : Run) (replies : List Reply) (r : Reply) (o : Option Question) → Follows shown sums run
    → IsTraced sums run replies → o ≡ slice_get run.asks (length replies) → IsSomeAnd o (IsReplyBy sums r) → IsTraced sums run (replies ++ r ∷ [])
more shown sums run replies r None h t at by = absurd by
more shown sums run replies r (Some q) h t at by = record {
  within = omega (arith, has_reply shown sums run (length replies) q run.end refl h t.within (sym at) by.known, length_push replies r);
  same = grown sums run replies r q t (sym at) by.same;
}

-- after one more reply
pub traced_on : (shown : List Reply → View) (sums : Sums) (run : Run) (replies : List Reply) (r : Reply) → Follows shown sums run → IsTraced sums run replies
    → IsSomeAnd (question_of (shown replies).ask) (IsReplyBy sums r) → IsTraced sums run (replies ++ r ∷ [])
traced_on shown sums run replies r h t by = more shown sums run replies r (question_of (shown replies).ask) h t (asked_next shown sums run replies h t) by

-- where the search has ended, the procedure finished and the search shows what that comes to
pub traced_final : (shown : List Reply → View) (sums : Sums) (run : Run) (replies : List Reply) → Follows shown sums run → IsTraced sums run replies
    → (shown replies).ask ≡ Over → IsFinal (shown replies) run
traced_final shown sums run replies h t over =
    let none = sym (asked_next shown sums run replies h t) ∙ ap question_of over in
    let last = is_finished shown sums run (length replies) run.end refl h t.within (past_last run.asks (length replies) none) in
    let whole : replies_to sums run (length run.asks) ≡ replies = ap (replies_to sums run) (sym last.1) ∙ sym t.same in
    let P : List Reply → Type 0 = λ rs. ShowsEnd (shown rs) run in
    record { finished = last.0; shows = subst P whole (h.finished last.0) }

stops : (shown : List Reply → View) (sums : Sums) (run : Run) (k : ℕ) (o : Option Question) → Follows shown sums run
    → k ≤ answer_count run → o ≡ slice_get run.asks k → IsSomeAnd o (IsUnknown sums) → run.end ≡ Aborted
stops shown sums run k None h low at by = absurd by
stops shown sums run k (Some q) h low at by = is_aborted shown sums run k q run.end refl h low (sym at) by.unknown

-- where the total cost that is asked for isn't known, the procedure was aborted
pub traced_abort : (shown : List Reply → View) (sums : Sums) (run : Run) (replies : List Reply) → Follows shown sums run → IsTraced sums run replies
    → IsSomeAnd (question_of (shown replies).ask) (IsUnknown sums) → run.end ≡ Aborted
traced_abort shown sums run replies h t by = stops shown sums run (length replies) (question_of (shown replies).ask) h t.within (asked_next shown sums run replies h t) by

-- where the total cost that is asked for isn't known, no ask is left that has a reply
none_left : (shown : List Reply → View) (sums : Sums) (run : Run) (k : ℕ) (o : Option Question) → Follows shown sums run
    → k ≤ answer_count run → o ≡ slice_get run.asks k → IsSomeAnd o (IsUnknown sums) → k ≡ answer_count run
none_left shown sums run k None h low at by = absurd by
none_left shown sums run k (Some q) h low at by =
    elim (cases_lt k (answer_count run)) as (λ _. k ≡ answer_count run) [
      | inl below ↦
          (let P : Option Question → Type 0 = λ o. IfSome o (λ p. IsSome (cost_asked sums p)) in
          let known : IsSome (cost_asked sums q) = subst P (sym at) (h.known k below) in
          let Q : Option ℕ → Type 0 = λ o. IsSome o in
          let no : false ≡ true = subst Q by.unknown known in
          absurd (cc))
      | inr reached ↦ omega (arith, low, reached)
    ]

-- there the procedure was aborted, and all its entries are shown
pub traced_stopped : (shown : List Reply → View) (sums : Sums) (run : Run) (replies : List Reply) → Follows shown sums run → IsTraced sums run replies
    → IsSomeAnd (question_of (shown replies).ask) (IsUnknown sums) → IsStopped (shown replies) run
traced_stopped shown sums run replies h t by =
    let ended : run.end ≡ Aborted = traced_abort shown sums run replies h t by in
    let count : length replies ≡ answer_count run =
    none_left shown sums run (length replies) (question_of (shown replies).ask) h t.within (asked_next shown sums run replies h t) by in
    let whole : replies ≡ replies_to sums run (answer_count run) = t.same ∙ ap (replies_to sums run) count in
    record { aborted = ended; entries = ap (λ rs. (shown rs).entries) whole ∙ (h.aborted ended).entries }
