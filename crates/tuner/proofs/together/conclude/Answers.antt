use Rattle.std.proofs.Common.{ℕ, Option, sym, subst, ◌∙◌}
use Rattle.std.proofs.lemmas.Bool.{false≢true}
use Rattle.tuner.specs.AnyAnswers.{EndsAs}
use Rattle.tuner.specs.KeptFaults.{IsFirst, KeepsTaken}
use Rattle.tune_front.specs.declared.status.Status.TheVariants as status
use Rattle.tuner.proofs.KeptFaults.{first_none, first_once}
use Rattle.tuner.proofs.SeatsTogether.{first_drives, starts_together}
use Rattle.tuner.proofs.together.conclude.Goals as goal

pub report_ending-requires-clause-board : goal.report_ending-requires-clause-board
report_ending-requires-clause-board g c =
    record { problem = sym c.problem.ensures ∙ c.is_same.ensures.0 c.if-not-is_same.false; procedure = c.requires.procedure }

pub report_kept-requires-clause-board : goal.report_kept-requires-clause-board
report_kept-requires-clause-board g c =
    record { problem = sym c.problem.ensures ∙ c.is_same.ensures.0 c.if-not-is_same.false; procedure = c.requires.procedure }

pub go_on-requires-clause-board : goal.go_on-requires-clause-board
go_on-requires-clause-board g c =
    record { problem = sym c.problem.ensures ∙ c.is_same.ensures.0 c.if-not-is_same.false; procedure = c.requires.procedure }

pub returns-then-not-is_same-clause-ending : goal.returns-then-not-is_same-clause-ending
returns-then-not-is_same-clause-ending g c = λ call worked.
    c.run_alone.ensures.ending call
    (first_drives call c.args.task.now g.S.Spawner.truth c.args.seats.now c.index-seats-0.result c.run_alone.new.seat worked c.requires.seats)

pub returns-then-not-is_same-clause-fault : goal.returns-then-not-is_same-clause-fault
returns-then-not-is_same-clause-fault g c = λ same going k first.
    absurd (false≢true (sym c.if-not-is_same.true ∙ c.is_same.ensures.1 (c.problem.ensures ∙ same)))

pub returns-then-is_over-clause-ending : goal.returns-then-is_over-clause-ending
returns-then-is_over-clause-ending g c = λ call worked.
    c.report_ending.ensures call worked.on.runs (starts_together call c.args.task.now g.S.Spawner.truth c.args.seats.now worked c.requires.seats)

pub returns-then-is_over-clause-fault : goal.returns-then-is_over-clause-fault
returns-then-is_over-clause-fault g c = λ same going k first.
    absurd (false≢true (sym going ∙ sym c.is_over.ensures ∙ c.if-is_over.true))

pub returns-in-Some-clause-fault : goal.returns-in-Some-clause-fault
returns-in-Some-clause-fault g c = λ same going k first.
    let F : Option ℕ → Type 0 = λ o. IsFirst (KeepsTaken c.args.board.now) c.args.seats.now o in
    let G : ℕ → Type 0 = λ n. EndsAs (status.ChildFault n) c.report_kept.result in
    let found = subst F c.in-Some.is c.first_fault.ensures in
    subst G (first_once (KeepsTaken c.args.board.now) c.args.seats.now c.in-Some.number k found first) c.report_kept.ensures.answer

pub returns-in-None-clause-fault : goal.returns-in-None-clause-fault
returns-in-None-clause-fault g c = λ same going k first.
    let F : Option ℕ → Type 0 = λ o. IsFirst (KeepsTaken c.args.board.now) c.args.seats.now o in
    absurd (first_none (KeepsTaken c.args.board.now) c.args.seats.now k (subst F c.in-None.is c.first_fault.ensures) first)
