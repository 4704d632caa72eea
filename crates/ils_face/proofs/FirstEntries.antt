-- The entries that a search shows on its way are the first ones of the run, and of the run with each abort as unsolved.
use Rattle.std.specs.Prelude.{ℕ, zero, suc, ◌+◌, ◌≤◌, ◌≡◌, ◌++◌, List, [], ◌∷◌, Option, Some, None, length, slice_get, refl}
use Rattle.std.proofs.Common.{sym, ap, ◌∙◌, subst, inl, inr, arith, append_assoc, append-nil}
use Rattle.std.proofs.lemmas.Bool.{cases_lt}
use Rattle.objective.specs.Costs.{Table}
use Rattle.uncapped.specs.Procedure.{Sums, Question, Incumbent, End, Finished, Aborted}
use Rattle.uncapped.specs.Totals.{quiet}
use Rattle.uncapped.specs.Uncapped.{Run, or_nothing}
use Rattle.ils_face.specs.declared.asks.Reply.{Reply}
use Rattle.ils_face.specs.Replies.{Fits, ask_for, cost_asked, reply_to, replies_to, reply_count}
use Rattle.ils_face.specs.Rules.{Rules}
use Rattle.ils_face.specs.Views.{View, AreFitting}
use Rattle.ils_face.specs.Steady.{Grows, IsSteady}
use Rattle.ils_face.specs.Follows.{Follows, answer_count, sums_under}
use Rattle.ils_face.specs.ProcedureAborts.{entries_of}
use Rattle.ils_face.specs.Traces.{IsTraced}
use Rattle.ils_face.proofs.Traces.{one_more, past_last}
use Rattle.ils_face.proofs.QuietTables.{all_quiet, quiet_total}
use Rattle.ils_face.proofs.FittingReplies.{fitting-more, reply_fits}
use Rattle.ils_face.proofs.AbortedRuns.{answers_within, replies-traced, traced_whole}

grows-same : (es : List Incumbent) → Grows es es
grows-same es = record { added = []; grown = sym (append-nil es) }

grows-on : (a b c : List Incumbent) → Grows a b → Grows b c → Grows a c
grows-on a b c g h = record {
  added = g.added ++ h.added;
  grown = h.grown ∙ ap (λ es. es ++ h.added) g.grown ∙ append_assoc a g.added h.added;
}

module _ (rules : Rules) (shown : List Reply → View) (sums : Sums) (run : Run) (h : Follows shown sums run)
    (steady : IsSteady rules shown) where
  abbrev entries_after : ℕ → List Incumbent
  entries_after k = (shown (replies_to sums run k)).entries

  -- the reply to ask k fits
  record Next (k : ℕ) : Type 0 where
    reply : Reply
    on : replies_to sums run (suc k) ≡ replies_to sums run k ++ reply ∷ []
    fits : Fits (shown (replies_to sums run k)).ask reply

  next : (k : ℕ) → suc k ≤ answer_count run → Next k
  next k low = at_either (slice_get run.asks k) refl
    where
      at_either : (o : Option Question) → slice_get run.asks k ≡ o → Next k
      at_either None e =
          let past = past_last run.asks k e in
          let within = answers_within run.end (length run.asks) in
          absurd (omega (arith, low, past, within))
      at_either (Some q) e =
          let more : suc k ≡ k + 1 = omega arith in
          record {
            reply = reply_to sums q;
            on = ap (replies_to sums run) more ∙ one_more sums run k q e;
            fits = subst (λ a. Fits a (reply_to sums q)) (sym (h.asks k (omega (arith, low)) ∙ ap ask_for e))
                (reply_fits q (or_nothing (cost_asked sums q)));
          }

  fitting-at : (k : ℕ) → k ≤ answer_count run → AreFitting shown (replies_to sums run k)
  fitting-at zero low = tt
  fitting-at (suc k) low =
      let n = next k low in
      subst (AreFitting shown) (sym n.on)
      (fitting-more shown (replies_to sums run k) n.reply (fitting-at k (omega (arith, low))) n.fits)

  grows-to : (k n : ℕ) → k ≤ n → n ≤ answer_count run → Grows (entries_after k) (entries_after n)
  grows-to k zero low within =
      let first : k ≡ 0 = omega (arith, low) in
      subst (λ m. Grows (entries_after k) (entries_after m)) first (grows-same (entries_after k))
  grows-to k (suc n) low within =
      elim (cases_lt k (suc n)) as (λ _. Grows (entries_after k) (entries_after (suc n))) [
        | inl before ↦
            let m = next n within in
            let last : Grows (entries_after n) (shown (replies_to sums run n ++ m.reply ∷ [])).entries =
            (steady.steps (replies_to sums run n) m.reply (fitting-at n (omega (arith, within))) m.fits).grows in
            grows-on (entries_after k) (entries_after n) (entries_after (suc n))
            (grows-to k n (omega (arith, before)) (omega (arith, within)))
            (subst (λ rs. Grows (entries_after n) (shown rs).entries) (sym m.on) last)
        | inr reached ↦
            let here : k ≡ suc n = omega (arith, low, reached) in
            subst (λ m. Grows (entries_after k) (entries_after m)) here (grows-same (entries_after k))
      ]

  -- after the last reply all entries are shown
  pub all-shown : (shown (replies_to sums run (answer_count run))).entries ≡ entries_of run
  all-shown = at_end run.end refl
    where
      at_end : (e : End) → run.end ≡ e → entries_after (answer_count run) ≡ entries_of run
      at_end Finished e = ap (λ e. entries_after (reply_count e (length run.asks))) e ∙ (h.finished e).entries
      at_end Aborted e = (h.aborted e).entries

  -- the entries that are shown on the way are the first ones of the run
  pub first-shown : (replies : List Reply) → IsTraced sums run replies → Grows (shown replies).entries (entries_of run)
  first-shown replies t =
      let on : Grows (entries_after (length replies)) (entries_after (answer_count run)) =
      grows-to (length replies) (answer_count run) t.within (omega arith) in
      let here : Grows (shown replies).entries (entries_after (answer_count run)) =
      subst (λ rs. Grows (shown rs).entries (entries_after (answer_count run))) (sym t.same) on in
      subst (Grows (shown replies).entries) all-shown here

module _ (rules : Rules) (shown : List Reply → View) (T : Table) (run whole : Run) (steady : IsSteady rules shown)
    (h : Follows shown (sums_under rules T) run) (w : Follows shown (sums_under rules (quiet T)) whole) where
  -- a search that is answered by a table shows the first entries of the run with each abort as unsolved
  pub first-of-whole : (replies : List Reply) → IsTraced (sums_under rules T) run replies
      → Grows (shown replies).entries (entries_of whole)
  first-of-whole replies t =
      first-shown rules shown (sums_under rules (quiet T)) whole w steady replies
      (traced_whole shown (sums_under rules T) (sums_under rules (quiet T)) run whole h w
      (all_quiet rules.limits T) (quiet_total rules.limits T) replies t)

  -- the entries of the run over a table are the first ones of the run with each abort as unsolved
  pub first-entries : Grows (entries_of run) (entries_of whole)
  first-entries =
      let count : ℕ = answer_count run in
      subst (λ es. Grows es (entries_of whole)) (all-shown rules shown (sums_under rules T) run h steady)
      (first-of-whole (replies_to (sums_under rules T) run count)
      (replies-traced (sums_under rules T) run count (omega arith)))
