use Rattle.std.proofs.Common.{◌≡◌, Some, sym}
use Rattle.sap_terms.specs.View.{tree}
use Rattle.sap_run_lines.specs.code.ShortTaking.{term_behind}
use Rattle.sap_run_lines.proofs.ShortLines.{knowing_taken}
use Rattle.sap_run_lines.proofs.short_line.take_knowing.Goals as goal

pub returns-in-Some : goal.returns-in-Some
returns-in-Some c =
    let term : term_behind c.args.bytes.now ≡ Some (tree c.in-Some.term) = sym (rw c.in-Some.is at c.in_ok-term_behind.ensures) in
    sym (knowing_taken c.in-Some.term c.args.bytes.now term)
