use Rattle.std.proofs.Common.{◌≡◌, Some, None}
use Rattle.sap_run_lines.specs.code.WordTaking.{on_words}
use Rattle.sap_run_lines.specs.code.StepTaking.{with_of}
use Rattle.sap_run_lines.proofs.WordsOn.{uses_none, uses_some}
use Rattle.sap_run_lines.proofs.take_steps.take_uses.Goals as goal

pub returns-in-None : goal.returns-in-None
returns-in-None c =
    let is : None ≡ on_words with_of c.in_ok-numbers.rest.now = rw c.in-None.is at c.in_ok-take_with.ensures in
    uses_none _ _ _ c.in_ok-numbers.ensures is

pub returns-in-Some : goal.returns-in-Some
returns-in-Some c =
    let is : Some c.in-Some.bindings ≡ on_words with_of c.in_ok-numbers.rest.now = rw c.in-Some.is at c.in_ok-take_with.ensures in
    uses_some _ _ _ _ c.in_ok-numbers.ensures is
