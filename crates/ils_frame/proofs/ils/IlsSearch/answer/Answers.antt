use Rattle.std.proofs.Common.{rules, ◌≡◌, ◌≤◌, ◌++◌, ◌∷◌, [], List, refl, sym, ◌∙◌, ap, subst, arith}
use Rattle.ils_face.specs.declared.asks.Reply.{Reply}
use Rattle.ils_face.specs.Replies.{Fits, ask_for}
use Rattle.ils_face.specs.Rules.{Rules}
use Rattle.ils_face.specs.Setups.{setup_of}
use Rattle.ils_face.specs.Views.{AreFitting}
use Rattle.ils_frame.specs.Comparers.{question_in}
use Rattle.ils_frame.specs.NextComparison.{next}
use Rattle.ils_frame.specs.Machine.{machine_of, begin, shown_after}
use Rattle.ils_frame.specs.UpcomingComparison.{upcoming_seen}
use Rattle.ils_face.proofs.FittingReplies.{fitting-more}
use Rattle.ils_frame.proofs.OneMoreReply.{can-answer, compared-kept, one-more, asks-on, begins-next}
use Rattle.ils_frame.proofs.ils.IlsSearch.answer.Goals.{in-None+in_ok-answer-in-None, in-Some+in_ok-upcoming-in-Some+in_ok-answer-in-Some}
use Rattle.ils_frame.proofs.ils.IlsSearch.answer.Goals as goal

pub next-requires-clause-allowed : goal.next-requires-clause-allowed
next-requires-clause-allowed g c =
    let kept : Rules = c.self.inside.rules.value in
    let fits : Fits (ask_for (question_in (g.C.Comparer.parts.stage c.self.inside.comparer))) c.args.reply = search rules in
    let can = can-answer g.C.Comparer.parts (g.C.Comparer.at_open kept) kept c.self.invariant.ruled (g.C.Comparer.fit kept) (g.met.C.Comparer.steady kept c.self.invariant.ruled)
    (machine_of c.self.inside.comparer c.self.inside.course) c.self.inside.replies.items c.args.reply c.self.invariant.reached c.self.invariant.fitting fits in
    rw c.deref-rules.ensures can.allowed

pub next-requires-clause-few : goal.next-requires-clause-few
next-requires-clause-few g c =
    let kept : Rules = c.self.inside.rules.value in
    let fits : Fits (ask_for (question_in (g.C.Comparer.parts.stage c.self.inside.comparer))) c.args.reply = search rules in
    let can = can-answer g.C.Comparer.parts (g.C.Comparer.at_open kept) kept c.self.invariant.ruled (g.C.Comparer.fit kept) (g.met.C.Comparer.steady kept c.self.invariant.ruled)
    (machine_of c.self.inside.comparer c.self.inside.course) c.self.inside.replies.items c.args.reply c.self.invariant.reached c.self.invariant.fitting fits in
    can.drawn

pub next-requires-clause-within : goal.next-requires-clause-within
next-requires-clause-within g c =
    let kept : Rules = c.self.inside.rules.value in
    let fits : Fits (ask_for (question_in (g.C.Comparer.parts.stage c.self.inside.comparer))) c.args.reply = search rules in
    let can = can-answer g.C.Comparer.parts (g.C.Comparer.at_open kept) kept c.self.invariant.ruled (g.C.Comparer.fit kept) (g.met.C.Comparer.steady kept c.self.invariant.ruled)
    (machine_of c.self.inside.comparer c.self.inside.course) c.self.inside.replies.items c.args.reply c.self.invariant.reached c.self.invariant.fitting fits in
    let w : (g.C.Comparer.parts.last c.self.inside.comparer).compared ≤ kept.budget = can.within in
    omega (arith, w, c.compared-compared.ensures, ap (λ (r : Rules). r.budget) c.deref-rules.ensures)

pub begin-requires-clause-within : goal.begin-requires-clause-within
begin-requires-clause-within g c =
    let kept : Rules = c.self.inside.rules.value in
    let fits : Fits (ask_for (question_in (g.C.Comparer.parts.stage c.self.inside.comparer))) c.args.reply = search rules in
    let can = can-answer g.C.Comparer.parts (g.C.Comparer.at_open kept) kept c.self.invariant.ruled (g.C.Comparer.fit kept) (g.met.C.Comparer.steady kept c.self.invariant.ruled)
    (machine_of c.self.inside.comparer c.self.inside.course) c.self.inside.replies.items c.args.reply c.self.invariant.reached c.self.invariant.fitting fits in
    let w : (g.C.Comparer.parts.last c.self.inside.comparer).compared ≤ kept.budget = can.within in
    let same = compared-kept g.C.Comparer.parts (g.C.Comparer.at_open kept) kept c.self.invariant.ruled (g.C.Comparer.fit kept) (g.met.C.Comparer.steady kept c.self.invariant.ruled)
    (machine_of c.self.inside.comparer c.self.inside.course) c.self.inside.replies.items c.args.reply c.self.invariant.reached c.self.invariant.fitting fits in
    omega (arith, w, same, ap (λ d. (g.C.Comparer.parts.last d).compared) c.in_ok-answer-in-Some.ensures.ok, ap (λ (r : Rules). r.budget) c.deref-rules.ensures)

pub invariant_of-self-2 : goal.invariant_of-self-2
invariant_of-self-2 g c =
    let kept : Rules = c.self.inside.rules.value in
    let first = g.C.Comparer.at_open kept in
    let old : List Reply = c.self.inside.replies.items in
    let here = machine_of c.self.inside.comparer c.self.inside.course in
    let steady = g.met.C.Comparer.steady kept c.self.invariant.ruled in
    let fits : Fits (ask_for (question_in (g.C.Comparer.parts.stage c.self.inside.comparer))) c.args.reply = search rules in
    let shown : Fits (shown_after g.C.Comparer.parts first kept old).ask c.args.reply = search rules in
    elim c.match-decided_by.branch [
      | in-None+in_ok-answer-in-None w ↦
          let items : c.push_reserved.new.self.items ≡ old ++ c.args.reply ∷ [] = c.push_reserved.ensures.items ∙ rw (w.self-inside-is, c.in_ok-reserve.ensures.items) refl in
          rw w.self-inside-is (record {
            ruled = c.self.invariant.ruled;
            reached = one-more g.C.Comparer.parts first kept c.self.invariant.ruled (g.C.Comparer.fit kept) steady here _ old _ c.args.reply c.self.invariant.reached items
                (asks-on g.C.Comparer.parts first kept c.self.invariant.ruled (g.C.Comparer.fit kept) steady here _ old c.args.reply _ c.self.invariant.reached c.self.invariant.fitting fits c.decided_by.ensures w.in-None.is w.in_ok-answer-in-None.ensures.ok);
            fitting = subst (AreFitting (shown_after g.C.Comparer.parts first kept)) (sym items) (fitting-more (shown_after g.C.Comparer.parts first kept) old c.args.reply c.self.invariant.fitting shown);
            end = c.self.invariant.end;
          })
      | in-Some+in_ok-upcoming-in-Some+in_ok-answer-in-Some w ↦
          let items : c.push_reserved.new.self.items ≡ old ++ c.args.reply ∷ [] = c.push_reserved.ensures.items ∙ rw (w.self-inside-is, c.in_ok-reserve.ensures.items) refl in
          let begun = w.begin.ensures
          ∙ ap (λ (r : Rules). begin g.C.Comparer.parts (setup_of r) w.answer-in-Some.new.self (upcoming_seen c.self.inside.course.purpose c.self.inside.course.event w.in_ok-upcoming-in-Some.upcoming)) w.deref-rules.ensures
          ∙ ap (begin g.C.Comparer.parts (setup_of kept) w.answer-in-Some.new.self) (w.in_ok-upcoming-in-Some.ensures
          ∙ ap (λ (r : Rules). next (setup_of r) w.compared-compared.result c.self.inside.course.purpose w.in-Some.won c.self.inside.course.event) w.deref-rules.ensures
          ∙ ap (λ m. next (setup_of kept) m c.self.inside.course.purpose w.in-Some.won c.self.inside.course.event) w.compared-compared.ensures) in
          rw w.self-inside-is (record {
            ruled = c.self.invariant.ruled;
            reached = one-more g.C.Comparer.parts first kept c.self.invariant.ruled (g.C.Comparer.fit kept) steady here _ old _ c.args.reply c.self.invariant.reached items
                (begins-next g.C.Comparer.parts first kept c.self.invariant.ruled (g.C.Comparer.fit kept) steady here _ w.answer-in-Some.new.self old c.args.reply _ w.in-Some.won c.self.invariant.reached c.self.invariant.fitting fits
                c.decided_by.ensures w.in-Some.is w.in_ok-answer-in-Some.ensures.ok begun);
            fitting = subst (AreFitting (shown_after g.C.Comparer.parts first kept)) (sym items) (fitting-more (shown_after g.C.Comparer.parts first kept) old c.args.reply c.self.invariant.fitting shown);
            end = c.self.invariant.end;
          })
    ]
