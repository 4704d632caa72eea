use Rattle.std.proofs.Common.{◌≡◌, ◌<◌, Ok, length, option_map, ◌∙◌, sym, ap, arith}
use Rattle.std.proofs.lemmas.Bool.{eqb-true, eqb-false}
use Rattle.std.proofs.lemmas.List.{nil_from_length}
use Rattle.std.proofs.lemmas.Result.{err_from_is_err_and, IfOk-weaker, IfErr-weaker}
use Rattle.plain_text.specs.Faults.{IsFound}
use Rattle.plain_text.proofs.LineFoldLemmas.{fault_moves}
use Rattle.param_space.specs.Space.{Lists}
use Rattle.param_space.specs.Faults.{space_fault}
use Rattle.param_files.specs.Faults.{fault_of}
use Rattle.param_files.specs.Reading.{lists_of, breach_fault, without_fault, params_read}
use Rattle.param_files.proofs.Wholes.{lines_fault, kept_few, none_kept, numbers_fault, space_found}
use Rattle.param_files.proofs.reader.space_in.Goals as goal

pub returns-in_err-params-clause-fault : goal.returns-in_err-params-clause-fault
returns-in_err-params-clause-fault c =
    let p = err_from_is_err_and c.from_residual.result c.from_residual.ensures.1 in
    rw (p.1, p.2) (lines_fault c.args.text.now _ c.if-text-gt-MAX_BYTES.false c.in_err-params.ensures.fault)

pub returns-then-is_empty-clause-fault : goal.returns-then-is_empty-clause-fault
returns-then-is_empty-clause-fault c =
    let text = c.args.text.now in
    let read = c.in_ok-params.ensures.value ∙ ap Ok (sym c.params.view_is) in
    let empty = eqb-true _ 0 (sym c.is_empty.ensures ∙ c.if-is_empty.true) in
    let none : length c.params.inside.params.items ≡ 0 = omega (arith, empty, c.params.inside.params.ok.0) in
    rw c.broken-then-is_empty.ensures (none_kept text _ c.if-text-gt-MAX_BYTES.false read (nil_from_length c.params.inside.params.items none))

pub all_by_numbers-requires : goal.all_by_numbers-requires
all_by_numbers-requires c =
    let read = c.in_ok-params.ensures.value ∙ ap Ok (sym c.params.view_is) in
    rw c.as_slice.ensures.value (kept_few c.args.text.now _ c.if-text-gt-MAX_BYTES.false read)

pub returns-in_err-numbered-clause-fault : goal.returns-in_err-numbered-clause-fault
returns-in_err-numbered-clause-fault c =
    let read = c.in_ok-params.ensures.value ∙ ap Ok (sym c.params.view_is) in
    let empty = eqb-false _ 0 (sym c.is_empty.ensures ∙ c.if-is_empty.false) in
    let some : 0 < length c.params.inside.params.items = omega (arith, empty, c.params.inside.params.ok.0) in
    let p = err_from_is_err_and c.from_residual-in_err-numbered.result c.from_residual-in_err-numbered.ensures.1 in
    rw (p.1, p.2)
    (numbers_fault c.args.text.now _ c.if-text-gt-MAX_BYTES.false read some _
    (rw (c.as_slice.ensures.value, c.as_slice-2.ensures.value) at c.in_err-numbered.ensures.fault))

pub returns-clause-value : goal.returns-clause-value
returns-clause-value c =
    let text = c.args.text.now in
    let read = c.in_ok-params.ensures.value ∙ ap Ok (sym c.params.view_is) in
    let empty = eqb-false _ 0 (sym c.is_empty.ensures ∙ c.if-is_empty.false) in
    let some : 0 < length c.params.inside.params.items = omega (arith, empty, c.params.inside.params.ok.0) in
    let all = rw (c.as_slice.ensures.value, c.as_slice-2.ensures.value) at c.in_ok-numbered.ensures.value in
    let numbered = c.in_ok-numbered.numbered in
    let lists : Lists = lists_of c.params.inside.params.items numbered in
    let found = space_found text _ c.if-text-gt-MAX_BYTES.false read some numbered all in
    IfOk-weaker c.space_of.result (λ s. without_fault (option_map (λ b. breach_fault numbered b.part b.place b.what) (space_fault lists)) lists ≡ Ok s) (λ s. params_read text ≡ Ok s) (λ s h. found ∙ h) c.space_of.ensures.value

pub returns-clause-fault : goal.returns-clause-fault
returns-clause-fault c =
    let text = c.args.text.now in
    let read = c.in_ok-params.ensures.value ∙ ap Ok (sym c.params.view_is) in
    let empty = eqb-false _ 0 (sym c.is_empty.ensures ∙ c.if-is_empty.false) in
    let some : 0 < length c.params.inside.params.items = omega (arith, empty, c.params.inside.params.ok.0) in
    let all = rw (c.as_slice.ensures.value, c.as_slice-2.ensures.value) at c.in_ok-numbered.ensures.value in
    let numbered = c.in_ok-numbered.numbered in
    let lists : Lists = lists_of c.params.inside.params.items numbered in
    let found = space_found text _ c.if-text-gt-MAX_BYTES.false read some numbered all in
    let first = without_fault (option_map (λ b. breach_fault numbered b.part b.place b.what) (space_fault lists)) lists in
    IfErr-weaker c.space_of.result (λ e. IsFound (fault_of e) first) (λ e. IsFound (fault_of e) (params_read text))
    (λ e h. fault_moves (fault_of e) first (params_read text) (λ f g. found ∙ g) h) c.space_of.ensures.fault
