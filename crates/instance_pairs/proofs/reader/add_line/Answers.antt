use Rattle.std.proofs.Common.{◌≡◌, Ok, OnOk, IfErr, ap, subst}
use Rattle.plain_text.specs.Faults.{in_line, IsFound}
use Rattle.instance_pairs.specs.Faults.{fault_of}
use Rattle.instance_pairs.proofs.LineInstances.{with_line-text, with_line-no_text}
use Rattle.instance_pairs.proofs.reader.add_line.Goals as goal

pub returns-in_ok-stated-in-Ok-clause-value : goal.returns-in_ok-stated-in-Ok-clause-value
returns-in_ok-stated-in-Ok-clause-value c =
    let is = with_line-text c.args.instances.now.items c.args.line c.args.bytes.now c.in-Ok.text.now c.in_ok-stated-in-Ok.stated c.in-Ok.ensures.cases.0 c.in-Ok.ensures.cases.1 c.in_ok-stated-in-Ok.ensures in
    subst (λ r. OnOk c.add.result (r ≡ Ok c.add.new.instances.items)) is c.add.ensures.value

pub returns-in_ok-stated-in-Ok-clause-fault : goal.returns-in_ok-stated-in-Ok-clause-fault
returns-in_ok-stated-in-Ok-clause-fault c =
    let is = with_line-text c.args.instances.now.items c.args.line c.args.bytes.now c.in-Ok.text.now c.in_ok-stated-in-Ok.stated c.in-Ok.ensures.cases.0 c.in-Ok.ensures.cases.1 c.in_ok-stated-in-Ok.ensures in
    subst (λ r. IfErr c.add.result (λ e. IsFound (fault_of e) (in_line c.args.line r))) is c.add.ensures.fault

pub returns-in-Err-clause-fault : goal.returns-in-Err-clause-fault
returns-in-Err-clause-fault c = ap (in_line c.args.line) (with_line-no_text c.args.instances.now.items c.args.line c.args.bytes.now c.in-Err.ensures.cases.0)
