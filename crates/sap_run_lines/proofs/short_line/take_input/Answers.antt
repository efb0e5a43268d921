use Rattle.std.proofs.Common.{◌≡◌, Some, sym}
use Rattle.sap_terms.specs.View.{tree}
use Rattle.sap_run_lines.specs.code.StepTaking.{number_behind}
use Rattle.sap_run_lines.specs.code.ShortTaking.{term_behind}
use Rattle.sap_run_lines.proofs.ShortLines.{input_taken}
use Rattle.sap_run_lines.proofs.short_line.take_input.Goals as goal

pub returns-in-Some-2 : goal.returns-in-Some-2
returns-in-Some-2 c =
    let number : number_behind c.args.bytes.now ≡ Some (c.in-Some.t, c.in-Some.rest.now) = rw c.in-Some.is at c.number_behind.ensures in
    let term : term_behind c.in-Some.rest.now ≡ Some (tree c.in-Some-2.term) = sym (rw c.in-Some-2.is at c.in_ok-term_behind-in-Some.ensures) in
    sym (input_taken c.in-Some.t c.in-Some-2.term c.args.bytes.now c.in-Some.rest.now number term)
