-- The runs over a table and over the same table with each abort as unsolved, where one search follows both.
use Rattle.std.specs.Prelude.{ℕ, zero, suc, ◌+◌, ◌≤◌, ◌<◌, ◌≡◌, ◌++◌, ◌⊎◌, List, [], ◌∷◌, Option, Some, None, IsSome, IfSome, IsSomeAnd, take, length, slice_get, refl}
use Rattle.std.proofs.Common.{sym, ap, ◌∙◌, subst, inl, inr, arith, take_all, length-take-le}
use Rattle.std.proofs.lemmas.Bool.{cases_lt}
use Rattle.std.proofs.lemmas.List.{length-map}
use Rattle.std.proofs.lemmas.Option.{slice_get_within, slice_get_past}
use Rattle.objective.specs.Costs.{Table}
use Rattle.uncapped.specs.Procedure.{Settings, Sums, Question, End, Finished, Aborted}
use Rattle.uncapped.specs.Totals.{quiet}
use Rattle.uncapped.specs.Uncapped.{Run, or_nothing}
use Rattle.ils_face.specs.declared.asks.Reply.{Reply}
use Rattle.ils_face.specs.Replies.{cost_asked, reply_to, reply_up_to, replies_to, reply_count}
use Rattle.ils_face.specs.Rules.{Rules}
use Rattle.ils_face.specs.Views.{View}
use Rattle.ils_face.specs.Follows.{Follows, StopsShort, answer_count, sums_under}
use Rattle.ils_face.specs.Traces.{question_of, IsReplyBy, IsUnknown}
use Rattle.ils_face.specs.ProcedureAborts
use Rattle.ils_face.specs.ProcedureAborts.{entries_of, AreKnown, IsFirstUnknown, SameRun, IsCutAt, MeetsAborts}
use Rattle.ils_face.specs.Traces.{IsTraced}
use Rattle.ils_face.proofs.Traces.{question_of-ask_for, traced_first, traced_on, one_more}
use Rattle.ils_face.proofs.Traces.{is_aborted, is_finished, past_last}
use Rattle.ils_face.proofs.QuietTables.{all_quiet, known_end, quiet_total, not_none}

-- ---- lists by their places

none_some : {A P : Type 0} (x : A) → ◌≡◌ {A = Option A} None (Some x) → P
none_some x e = absurd (cc)

same_some : {A : Type 0} (x y : A) → Some x ≡ Some y → x ≡ y
same_some x y e = cc

-- two lists with the same at each place
same_places : {A : Type 0} (xs ys : List A) → ((i : ℕ) → slice_get xs i ≡ slice_get ys i) → xs ≡ ys
same_places [] [] h = refl
same_places [] (y ∷ ys) h = none_some y (h 0)
same_places (x ∷ xs) [] h = none_some x (sym (h 0))
same_places (x ∷ xs) (y ∷ ys) h =
    ap (λ z. z ∷ xs) (same_some x y (h 0)) ∙ ap (λ zs. y ∷ zs) (same_places xs ys (λ i. h (suc i)))

taken_at : {A : Type 0} (xs : List A) (n i : ℕ) → i < n → slice_get (take n xs) i ≡ slice_get xs i
taken_at xs zero i h = absurd (omega (arith, h))
taken_at [] (suc n) i h = refl
taken_at (x ∷ xs) (suc n) zero h = refl
taken_at (x ∷ xs) (suc n) (suc i) h = taken_at xs n i (omega (arith, h))

-- a list that agrees with another at its own places, which are the first n, is what is taken of that one
same_taken : {A : Type 0} (xs ys : List A) (n : ℕ) → length xs ≡ n → n ≤ length ys
    → ((i : ℕ) → i < n → slice_get xs i ≡ slice_get ys i) → xs ≡ take n ys
same_taken xs ys n long low h = same_places xs (take n ys) (λ i. at_either i (cases_lt i n))
  where
    at_either : (i : ℕ) → (i < n) ⊎ (n ≤ i) → slice_get xs i ≡ slice_get (take n ys) i
    at_either i (inl inside) = h i inside ∙ sym (taken_at ys n i inside)
    at_either i (inr past) =
        let taken = length-take-le n ys low in
        slice_get_past xs i (omega (arith, long, past)) ∙ sym (slice_get_past (take n ys) i (omega (arith, taken, past)))

-- ---- the first question whose total cost isn't known

known_next : (sums : Sums) (q : Question) (asks : List Question) (k : ℕ)
    → IsSome (cost_asked sums q) → AreKnown sums asks k → AreKnown sums (q ∷ asks) (suc k)
known_next sums q asks k known rest zero h = known
known_next sums q asks k known rest (suc i) h = rest i (omega (arith, h))

known_none : (sums : Sums) (asks : List Question) → AreKnown sums asks 0
known_none sums asks i h = absurd (omega (arith, h))

-- all total costs are known, or there is a first one that isn't
pub first_unknown : (sums : Sums) (asks : List Question)
    → AreKnown sums asks (length asks) ⊎ ((k : ℕ) × IsFirstUnknown sums asks k)
first_unknown sums [] = inl (known_none sums [])
first_unknown sums (q ∷ asks) = at_either (cost_asked sums q) refl (first_unknown sums asks)
  where
    at_either : (o : Option ℕ) → cost_asked sums q ≡ o
        → AreKnown sums asks (length asks) ⊎ ((k : ℕ) × IsFirstUnknown sums asks k)
        → AreKnown sums (q ∷ asks) (length (q ∷ asks)) ⊎ ((k : ℕ) × IsFirstUnknown sums (q ∷ asks) k)
    at_either None e rest = inr (0, record { before = known_none sums (q ∷ asks); unknown = record { unknown = e } })
    at_either (Some x) e (inl all) = inl (known_next sums q asks (length asks) (rw e refl) all)
    at_either (Some x) e (inr found) = inr (
      suc found.0,
      record {
        before = known_next sums q asks found.0 (rw e refl) found.1.before;
        unknown = found.1.unknown;
      },
    )

-- ---- two runs that one search follows

-- no more asks have a reply than there are
pub answers_within : (e : End) (n : ℕ) → reply_count e n ≤ n
answers_within Finished n = omega arith
answers_within Aborted n = omega arith

-- the number of replies is the number of asks that they are to
reply_number : (sums : Sums) (run : Run) (k : ℕ) → k ≤ answer_count run → length (replies_to sums run k) ≡ k
reply_number sums run k h =
    let low = answers_within run.end (length run.asks) in
    length-map (take k run.asks) (reply_to sums) ∙ length-take-le k run.asks (omega (arith, h, low))

-- the first replies of a run lead through it
pub replies-traced : (sums : Sums) (run : Run) (k : ℕ)
    → k ≤ answer_count run → IsTraced sums run (replies_to sums run k)
replies-traced sums run k h =
    let number : length (replies_to sums run k) ≡ k = reply_number sums run k h in
    record { within = rw number h; same = ap (replies_to sums run) (sym number) }

module _ (shown : List Reply → View) (sums other : Sums) (run whole : Run)
    (h : Follows shown sums run) (w : Follows shown other whole) where
  -- replies to the first asks of one run that the other table gives too are those to the first asks of the other run
  carried : (k : ℕ) → k ≤ answer_count run
      → ((i : ℕ) → i < k → IfSome (slice_get run.asks i) (λ q. IsReplyBy other (reply_to sums q) q))
      → IsTraced other whole (replies_to sums run k)
  carried zero low both = traced_first other whole
  carried (suc k) low both =
      at_next (carried k (omega (arith, low)) (λ i b. both i (omega (arith, b)))) (slice_get run.asks k) refl
    where
      at_next : IsTraced other whole (replies_to sums run k) → (o : Option Question) → slice_get run.asks k ≡ o
          → IsTraced other whole (replies_to sums run (suc k))
      at_next t None e =
          let past = past_last run.asks k e in
          let within = answers_within run.end (length run.asks) in
          absurd (omega (arith, low, past, within))
      at_next t (Some q) e =
          let by : IsReplyBy other (reply_to sums q) q =
          subst (λ o. IfSome o (λ q. IsReplyBy other (reply_to sums q) q)) e (both k (omega arith)) in
          let asked : question_of (shown (replies_to sums run k)).ask ≡ Some q =
          ap question_of (h.asks k (omega (arith, low))) ∙ question_of-ask_for (slice_get run.asks k) ∙ e in
          let on : IsTraced other whole (replies_to sums run k ++ reply_to sums q ∷ []) =
          traced_on shown other whole (replies_to sums run k) (reply_to sums q) w t
          (subst (λ o. IsSomeAnd o (IsReplyBy other (reply_to sums q))) (sym asked) by) in
          let next : suc k ≡ k + 1 = omega arith in
          subst (IsTraced other whole) (sym (ap (replies_to sums run) next ∙ one_more sums run k q e)) on

-- a reply that is given by a total cost which is the same in another table
reply_both : (sums other : Sums) (q : Question)
    → IsSome (cost_asked other q) → cost_asked sums q ≡ cost_asked other q → IsReplyBy other (reply_to sums q) q
reply_both sums other q known same = record { known = known; same = ap (λ o. reply_up_to (or_nothing o) q.bound) same }

module _ (shown : List Reply → View) (sums other : Sums) (run whole : Run)
    (h : Follows shown sums run) (w : Follows shown other whole)
    (all : (θ : Settings) (n : ℕ) → IsSome (other θ n))
    (agrees : (θ : Settings) (n : ℕ) → IsSome (sums θ n) → other θ n ≡ sums θ n) where
  whole_end : whole.end ≡ Finished
  whole_end = known_end shown other whole w all whole.end refl

  whole_count : answer_count whole ≡ length whole.asks
  whole_count = ap (λ e. reply_count e (length whole.asks)) whole_end

  -- replies that lead through the run lead through the whole one
  pub traced_whole : (replies : List Reply) → IsTraced sums run replies → IsTraced other whole replies
  traced_whole replies t =
      let low : length replies ≤ answer_count run = t.within in
      subst (IsTraced other whole) (sym t.same)
      (carried shown sums other run whole h w (length replies) low
      (λ i b. at_either (slice_get run.asks i) (h.known i (omega (arith, b, low)))))
    where
      at_either : (o : Option Question) → IfSome o (λ q. IsSome (cost_asked sums q))
          → IfSome o (λ q. IsReplyBy other (reply_to sums q) q)
      at_either None known = tt
      at_either (Some q) known = reply_both sums other q (all q.config q.places) (sym (agrees q.config q.places known))

  -- where the first k costs are known, the replies to the first k asks of the whole run lead through the run
  traced_run : (k : ℕ) → k ≤ length whole.asks
      → AreKnown sums whole.asks k → IsTraced sums run (replies_to other whole k)
  traced_run k low known =
      carried shown other sums whole run w h k (omega (arith, low, whole_count))
      (λ i b. at_either (slice_get whole.asks i) (known i b))
    where
      at_either : (o : Option Question) → IfSome o (λ q. IsSome (cost_asked sums q))
          → IfSome o (λ q. IsReplyBy sums (reply_to other q) q)
      at_either None known = tt
      at_either (Some q) known = reply_both other sums q known (agrees q.config q.places known)

  module _ (k : ℕ) (low : k ≤ length whole.asks) (known : AreKnown sums whole.asks k) where
    number : length (replies_to other whole k) ≡ k
    number = reply_number other whole k (omega (arith, low, whole_count))

    reached : k ≤ answer_count run
    reached = let t = (traced_run k low known).within in omega (arith, t, number)

    same_replies : replies_to other whole k ≡ replies_to sums run k
    same_replies = (traced_run k low known).same ∙ ap (replies_to sums run) number

    same_ask : slice_get run.asks k ≡ slice_get whole.asks k
    same_ask = sym (question_of-ask_for (slice_get run.asks k)) ∙ sym (ap question_of (h.asks k reached))
        ∙ ap (λ rs. question_of (shown rs).ask) (sym same_replies)
        ∙ ap question_of (w.asks k (omega (arith, low, whole_count))) ∙ question_of-ask_for (slice_get whole.asks k)

  -- the first k + 1 asks agree where the first k costs are known
  same_asks : (k : ℕ) → k ≤ length whole.asks → AreKnown sums whole.asks k
      → (i : ℕ) → i ≤ k → slice_get run.asks i ≡ slice_get whole.asks i
  same_asks k low known i b = same_ask i (omega (arith, low, b)) (λ j c. known j (omega (arith, b, c)))

  all_same : AreKnown sums whole.asks (length whole.asks) → SameRun run whole
  all_same known = record {
    asks = same_taken run.asks whole.asks (length whole.asks) (sym last.1) (omega arith)
        (λ i b. same_asks (length whole.asks) (omega arith) known i (omega (arith, b)))
        ∙ take_all (length whole.asks) whole.asks (omega arith);
    entries = sym (h.finished last.0).entries ∙ ap (λ rs. (shown rs).entries) same ∙ (w.finished whole_end).entries;
    end = last.0 ∙ sym whole_end;
    last = sym (h.finished last.0).last ∙ ap (λ rs. (shown rs).last) same ∙ (w.finished whole_end).last;
  }
    where
      none : slice_get run.asks (length whole.asks) ≡ None
      none = same_ask (length whole.asks) (omega arith) known
          ∙ slice_get_past whole.asks (length whole.asks) (omega arith)

      last : (run.end ≡ Finished) × (length whole.asks ≡ length run.asks)
      last = is_finished shown sums run (length whole.asks) run.end refl h
          (reached (length whole.asks) (omega arith) known) (past_last run.asks (length whole.asks) none)

      same : replies_to sums run (length run.asks) ≡ replies_to other whole (length whole.asks)
      same = ap (replies_to sums run) (sym last.1) ∙ sym (same_replies (length whole.asks) (omega arith) known)

  cut_at : (k : ℕ) (q : Question) → slice_get whole.asks k ≡ Some q
      → AreKnown sums whole.asks k → cost_asked sums q ≡ None → IsCutAt run whole k
  cut_at k q at known unknown = record {
    within = inside;
    end = aborted;
    asks = same_taken run.asks whole.asks (k + 1) (omega (arith, long)) (omega (arith, inside))
        (λ i b. same_asks k low known i (omega (arith, b)));
    entries = sym stops.entries ∙ ap (λ n. (shown (replies_to sums run n)).entries) (sym count)
        ∙ ap (λ rs. (shown rs).entries) (sym (same_replies k low known))
        ∙ w.entries k (omega (arith, low, whole_count));
  }
    where
      inside : k < length whole.asks
      inside = slice_get_within whole.asks k q at

      low : k ≤ length whole.asks
      low = omega (arith, inside)

      here : slice_get run.asks k ≡ Some q
      here = same_ask k low known ∙ at

      aborted : run.end ≡ Aborted
      aborted = is_aborted shown sums run k q run.end refl h (reached k low known) here unknown

      stops : StopsShort shown sums run
      stops = h.aborted aborted

      not_below : k < answer_count run → ⊥
      not_below b =
          let known_here : IsSome (cost_asked sums q) =
          subst (λ o. IfSome o (λ q. IsSome (cost_asked sums q))) here (h.known k b) in
          not_none (cost_asked sums q) known_here unknown

      count : k ≡ answer_count run
      count = elim (cases_lt k (answer_count run)) as (λ _. k ≡ answer_count run) [
        | inl below ↦ absurd (not_below below)
        | inr past ↦ let r = reached k low known in omega (arith, past, r)
      ]

      long : length run.asks ≡ suc k
      long =
          let n : answer_count run ≡ reply_count Aborted (length run.asks) =
          ap (λ e. reply_count e (length run.asks)) aborted in
          let u = stops.unanswered in omega (arith, n, u, count)

  -- what aborts change in the run
  pub meets_aborts : MeetsAborts sums run whole
  meets_aborts = at_either (first_unknown sums whole.asks)
    where
      at_first : (k : ℕ) → AreKnown sums whole.asks k → (o : Option Question) → slice_get whole.asks k ≡ o
          → IsSomeAnd o (IsUnknown sums) → IsCutAt run whole k
      at_first k known None e u = absurd u
      at_first k known (Some q) e u = cut_at k q e known u.unknown

      at_either : AreKnown sums whole.asks (length whole.asks) ⊎ ((k : ℕ) × IsFirstUnknown sums whole.asks k)
          → MeetsAborts sums run whole
      at_either (inl known) = ProcedureAborts.same known (all_same known)
      at_either (inr found) =
          ProcedureAborts.cut found.0 found.1 (at_first found.0 found.1.before (slice_get whole.asks found.0) refl found.1.unknown)

-- the law: the runs over a table and over the same table with each abort as unsolved
pub aborts_met : (shown : List Reply → View) (rules : Rules) (T : Table) (run whole : Run)
    → Follows shown (sums_under rules T) run → Follows shown (sums_under rules (quiet T)) whole
    → MeetsAborts (sums_under rules T) run whole
aborts_met shown rules T run whole h w =
    meets_aborts shown (sums_under rules T) (sums_under rules (quiet T)) run whole h w
    (all_quiet rules.limits T) (quiet_total rules.limits T)
