use Rattle.std.proofs.Common.{◌≡◌, Some}
use Rattle.serde_json.specs.View.{view}
use Rattle.sap_run_lines.specs.WholeWords.{IsReadAs}
use Rattle.sap_json.specs.code.Reading.{pair_in, IsBindingOf, IsBindingData}
use Rattle.sap_json.proofs.ValueParts.{if_ok, binding_read}
use Rattle.sap_json.proofs.values.binding.Goals as goal

pub returns-in-Some : goal.returns-in-Some
returns-in-Some c =
    let d = view c.args.value.now in
    let x = c.in-Some.variable.now in
    let z = c.in-Some.term.now in
    let pair : Some (x, z) ≡ pair_in d = rw c.in-Some.is at c.pair.ensures in
    if_ok (IsReadAs IsBindingOf (x, z)) (IsReadAs IsBindingData d) c.binding_of.result (λ o h. binding_read d x z o pair h) c.binding_of.ensures
